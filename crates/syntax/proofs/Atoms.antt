-- A classical atom, by the tests that lead to what is read.
use mathlib.Core.Path.{◌≡◌, refl, sym as inv, ◌∙◌}
use mathlib.Core.Bool.{Bool, true, false, true≢false}
use mathlib.Core.Option.{none, some}
use mathlib.Core.List.{List, [], ◌++◌}
use Prim.Native.Nat.{ℕ, ◌≤◌, ◌<◌}
use native.Mathlib.Omega.{arith}
use lib.Dec.{eqb, leb}
use borrow.Author.Tests.{ne_eqb, eqb-true, eqb-false, leb-true, le-ltb}
use Rattle.texts.specs.declared.place.Place.{Place}
use Rattle.texts.specs.declared.refusal.Refusal.TheVariants.{Misplaced, OverSize}
use Rattle.texts.specs.Parts.{part}
use Rattle.texts.specs.Place.{Stands}
use Rattle.meaning.specs.Rules.{Bytes, Term, Atom}
use Rattle.meaning.specs.Values.{Value}
use Rattle.grammar.specs.Tokens.{Token, opening}
use Rattle.grammar.specs.Trees.{bare, Atom as AtomTree, atom, Program}
use Rattle.grammar.specs.Spelling.{Mark, inside, spell_arguments, spell_signed, spell_atom}
use Rattle.grammar.specs.Variables.{meet_symbol, meet, met}
use Rattle.grammar.specs.Abstraction.{arguments_for, atom_for}
use Rattle.grammar.specs.Sizes.{most_bytes, too_big, too_long, too_many, is_underscore, too_many_variables}
use Rattle.grammar.specs.States.{State, AtomContext, head_behind, head_after, literal_in, not_in, atom_wanted, atom_minus, named, opened, closed, atom_mark}
use Rattle.grammar.specs.Moves.{Move, on, free_moves, symbol_number, token_number, when, fire, either, try}
use Rattle.grammar.specs.Machine.{after_atom, else_wanted, else_minus, else_named, moves, step, finished_atom, finished}
use Rattle.grammar.proofs.Numbers.{fire_number, fire_by_number, try_number}
use Rattle.grammar.proofs.Variables.{met_append, met_signed}
use Rattle.syntax.specs.declared.token.TokenRead.{TokenRead}
use Rattle.syntax.specs.Text.{token_of, token_read, next_of}
use Rattle.syntax.specs.Variables.{Fits}
use Rattle.syntax.specs.Ahead.{wants, from}
use Rattle.syntax.specs.Fills.{Production, Goes, Stops}
use Rattle.syntax.specs.Arguments.{arguments_in}
use Rattle.syntax.specs.Atoms.{NamedPlace, MinusPlace, AtomPlace, head, also, negated, atom_context, named_in, minus_in, atom_in}
use Rattle.syntax.proofs.Tokens.{token_by, token_here, part_length, number_here, forward}
use Rattle.syntax.proofs.Steps.{meets_none, on_kind, over_kind, wrong_token, same_token}
use Rattle.syntax.proofs.Sizes.{fault_none, fault_many, word_fault}
use Rattle.syntax.proofs.Readings.{Around}

-- ---- behind a name

-- a token that is no comparison is taken as if none could follow
not_compared : {ground : Bool} (a : AtomContext ground) (s : Bool) (b : Bytes) (ms : List (Move (State ground))) (u : Token) (k : ℕ) → token_number u ≡ k → (13 ≤ k → k ≤ 19 → else_named a s b ≡ []) → try (else_named a s b ++ ms) u ≡ try ms u
unfolding try either fire_number when else_named
not_compared {ground} a s b ms u k e h = go (leb 13 k) refl (leb k 19) refl a s h
  where
    other : (x : Bool) → leb 13 k ≡ x → (y : Bool) → leb k 19 ≡ y → (x ≡ true → y ≡ true → ⊥) → (a : AtomContext ground) (s : Bool) → try (else_named a s b ++ ms) u ≡ try ms u
    other x p y q n (head_behind c) s = refl
    other x p y q n (head_after u r hs) s = refl
    other x p y q n (not_in c) s = refl
    other x p y q n (literal_in c) true = refl
    other true p true q n (literal_in c) false = absurd (n refl refl)
    other true p false q n (literal_in c) false = rw (fire_by_number _ u, e, p, q)
    other false p y q n (literal_in c) false = rw (fire_by_number _ u, e, p)

    go : (x : Bool) → leb 13 k ≡ x → (y : Bool) → leb k 19 ≡ y → (a : AtomContext ground) (s : Bool) → (13 ≤ k → k ≤ 19 → else_named a s b ≡ []) → try (else_named a s b ++ ms) u ≡ try ms u
    go true p true q a s h = rw (h (leb-true 13 k p) (leb-true k 19 q))
    go true p false q a s h = other true p false q (λ x y. true≢false (inv y)) a s
    go false p y q a s h = other false p y q (λ x y. true≢false (inv x)) a s

module _ (ground : Bool) (text : Bytes) (at : Place) (stands : Stands text at) (t : TokenRead) (et : t ≡ token_read ground text at.start) (negative : Bool) (b : Bytes) (v : List Place) where
  -- no parenthesis: the atom ends with its name
  pub named_bare : {S : Atom (Term Value) → Type 0} → Fits v → (t.kind ≡ 5 → ⊥) → S (record { negative = negative; name = b; arguments = [] }) → Goes (named_in ground text at.start negative b) false text at.start v at v S
  unfolding moves try either fire_number when symbol_number finished met spell_arguments atom_for arguments_for
  named_bare fits ne s = record { forward = omega arith; stands = stands; kept = refl; fits = fits; tree = bare; means = s; names = refl; ahead = λ h. same_token ground text at.start t et (wants (named h.context negative b)) (wants (closed h.context (atom negative b bare))) v (taken h) refl }
    where
      taken : (h : NamedPlace ground text at.start negative b) → (t.kind ≡ 20 → ⊥) → try (moves (named h.context negative b)) (token_here ground text at.start t et) ≡ try (moves (closed h.context (atom negative b bare))) (token_here ground text at.start t et)
      taken h z = rw (fire_by_number (on inside opening (opened h.context negative b)) (token_here ground text at.start t et), number_here ground text at.start t et z, ne_eqb t.kind 5 ne) (not_compared h.context negative b (after_atom h.context (atom negative b bare)) (token_here ground text at.start t et) t.kind (number_here ground text at.start t et z) (rw et h.alone))

module _ (ground : Bool) (text : Bytes) (at : ℕ) (t : TokenRead) (et : t ≡ token_read ground text at) (negative : Bool) (b : Bytes) (v : List Place) where
  -- with arguments, behind the parenthesis
  pub named_around : t.kind ≡ 5 → Around (arguments_in ground) (named_in ground text at negative b) (λ terms. record { negative = negative; name = b; arguments = terms }) false false text (next_of t) at v v
  unfolding atom_for moves try fire either when token_of symbol_number token_number too_big too_long too_many too_many_variables is_underscore meet meet_symbol
  named_around ek =
      record {
        later = let l = forward ground text at t et (λ q. let z : ◌≡◌ {A = ℕ} 5 20 = inv ek ∙ q in omega arith) in omega arith;
        kept = λ o. o;
        tree = λ x. x;
        place = λ h. record { context = h.context; negative = negative; name = b };
        before = λ h. on_kind ground text at t et 5 ek (λ z. omega arith) (wants (named h.context negative b)) v v _ refl (fault_none _ _ _ _ refl refl refl refl) (meets_none text (token_by 5 (part text t.place)) t.place v refl refl);
        behind = λ h x. refl;
        spelling = λ x. refl;
        meant = λ x. refl;
      }

-- ---- from a state on, a name and what follows it

module _ {ground : Bool} {H : Type 0} (pre : H → State ground) (context : H → AtomContext ground) (mark : H → Mark) (over : Bool) (text : Bytes) (at : ℕ) (t : TokenRead) (et : t ≡ token_read ground text at) (negative : Bool) (v : List Place) (ek : t.kind ≡ 0) (steps : (h : H) → step (pre h) (token_by 0 (part text t.place)) ≡ some (record { mark = mark h; state = named (context h) negative (part text t.place) })) (sizes : (h : H) → too_many ground (mark h) ≡ over) where
  -- the atom as a whole
  abbrev pub atom_from : Production ground
  atom_from = record { Context = H; Tree = AtomTree ground; Meant = Atom (Term Value); before = λ h. wants (pre h); behind = λ h x. wants (closed (context h) x); spelling = spell_atom inside; meant = atom_for }

  pub word_stops : (over ≡ false → most_bytes < t.place.len) → Stops atom_from text at v (record { refusal = OverSize; place = t.place })
  unfolding step token_of too_big too_long
  word_stops l = record { refuses = omega arith; answer = λ h. over_kind ground text at t et 0 ek (λ z. omega arith) (wants (pre h)) v (record { mark = mark h; state = named (context h) negative (part text t.place) }) 4 (steps h) (inv (word_fault _ _ _ _ t.place.len over refl (rw (part_length ground text at t et)) (sizes h) l)) (λ z. omega arith) }

  module _ (l : t.place.len ≤ most_bytes) (o : over ≡ false) where
    pub word_on : (h : H) → from ground text (wants (pre h)) v at ≡ from ground text (wants (named (context h) negative (part text t.place))) v (next_of t)
    unfolding step token_of too_big too_long too_many_variables token_number meet
    word_on h = on_kind ground text at t et 0 ek (λ q. omega arith) (wants (pre h)) v v (record { mark = mark h; state = named (context h) negative (part text t.place) }) (steps h) (fault_none _ _ _ _ refl (rw (part_length ground text at t et) (le-ltb most_bytes t.place.len l)) (sizes h ∙ o) refl) (meets_none text (Token.name (part text t.place)) t.place v refl refl)

    pub word_around : ((h : H) → 13 ≤ (token_read ground text (next_of t)).kind → (token_read ground text (next_of t)).kind ≤ 19 → else_named (context h) negative (part text t.place) ≡ []) → Around (named_in ground text (next_of t) negative (part text t.place)) atom_from (λ a. a) false over text (next_of t) at v v
    unfolding spell_atom
    word_around alone =
        record {
          later = let f = forward ground text at t et (λ q. let z : ◌≡◌ {A = ℕ} 0 20 = inv ek ∙ q in omega arith) in omega arith;
          kept = λ z. o;
          tree = λ x. atom negative (part text t.place) x;
          place = λ h. record { context = context h; alone = alone h };
          before = word_on;
          behind = λ h x. refl;
          spelling = λ x. met_append _ (spell_signed inside negative (part text t.place)) (spell_arguments x) ∙ rw (met_signed _ inside negative (part text t.place));
          meant = λ x. refl;
        }

-- ---- behind a minus

module _ (ground : Bool) (text : Bytes) (at : ℕ) (t : TokenRead) (et : t ≡ token_read ground text at) (v : List Place) where
  minus_step : (h : MinusPlace ground text at) → step (atom_minus h.context) (token_by 0 (part text t.place)) ≡ some (record { mark = inside; state = named h.context true (part text t.place) })
  unfolding step moves try fire either token_of
  minus_step h = refl

  pub minus_wrong : (t.kind ≡ 0 → ⊥) → Stops (minus_in ground text at) text at v (record { refusal = Misplaced; place = t.place })
  unfolding moves else_minus try_number fire_number either when finished
  minus_wrong ne = record { refuses = omega arith; answer = λ h. wrong_token ground text at t et (wants (atom_minus h.context)) v (rw (ne_eqb t.kind 0 ne) (no_number h.context (rw et h.alone))) (λ z. refl) }
    where
      other : (a : AtomContext ground) → (t.kind ≡ 4 → ⊥) → try_number (else_minus a) t.kind (token_here ground text at t et) ≡ none
      other (head_behind p) n = refl
      other (head_after u p hs) n = refl
      other (literal_in c) n = rw (ne_eqb t.kind 4 n)
      other (not_in c) n = refl

      no_number : (a : AtomContext ground) → (t.kind ≡ 4 → else_minus a ≡ []) → try_number (else_minus a) t.kind (token_here ground text at t et) ≡ none
      no_number a h = go (eqb t.kind 4) refl
        where
          go : (x : Bool) → eqb t.kind 4 ≡ x → try_number (else_minus a) t.kind (token_here ground text at t et) ≡ none
          go true e = rw (h (eqb-true t.kind 4 e))
          go false e = other a (eqb-false t.kind 4 e)

  module _ (ek : t.kind ≡ 0) where
    pub minus_stops : most_bytes < t.place.len → Stops (minus_in ground text at) text at v (record { refusal = OverSize; place = t.place })
    unfolding too_many
    minus_stops l = word_stops (λ (h : MinusPlace ground text at). atom_minus h.context) (λ h. h.context) (λ h. inside) false text at t et true v ek minus_step (λ h. refl) (λ o. l)

    pub minus_around : t.place.len ≤ most_bytes → Around (named_in ground text (next_of t) true (part text t.place)) (minus_in ground text at) (λ a. a) false false text (next_of t) at v v
    unfolding too_many else_named
    minus_around l = word_around (λ (h : MinusPlace ground text at). atom_minus h.context) (λ h. h.context) (λ h. inside) false text at t et true v ek minus_step (λ h. refl) l refl (λ h m k. alone h.context)
      where
        alone : (a : AtomContext ground) → else_named a true (part text t.place) ≡ []
        alone (head_behind p) = refl
        alone (head_after u p hs) = refl
        alone (literal_in c) = refl
        alone (not_in c) = refl

-- ---- a head, or behind `not`

-- no `:-`, whether a program or a facts line
pub no_if : (ground : Bool) (p : Program ground) (u : Token) (k : ℕ) → (k ≡ 9 → ⊥) → try_number (else_wanted (head_behind p)) k u ≡ none
unfolding else_wanted free_moves try_number fire_number either when symbol_number
no_if true p u k n = refl
no_if false p u k n = rw (ne_eqb k 9 n)

module _ (ground over : Bool) (text : Bytes) (at : ℕ) (t : TokenRead) (et : t ≡ token_read ground text at) (v : List Place) where
  abbrev before : AtomPlace ground over text at → State ground
  before h = atom_wanted (atom_context h)

  abbrev mark_of : AtomPlace ground over text at → Mark
  mark_of h = atom_mark (atom_context h)

  sizes : (h : AtomPlace ground over text at) → too_many ground (mark_of h) ≡ over
  unfolding atom_context atom_mark too_many
  sizes (head p s n e) = s
  sizes (also u p hs s) = s
  sizes (negated c o) = inv o

  module _ (ek : t.kind ≡ 0) where
    name_step : (h : AtomPlace ground over text at) → step (before h) (token_by 0 (part text t.place)) ≡ some (record { mark = mark_of h; state = named (atom_context h) false (part text t.place) })
    unfolding step moves try fire either token_of
    name_step h = refl

    pub atom_stops : (over ≡ false → most_bytes < t.place.len) → Stops (atom_in ground over text at) text at v (record { refusal = OverSize; place = t.place })
    atom_stops l = word_stops before atom_context mark_of over text at t et false v ek name_step sizes l

    pub atom_around : t.place.len ≤ most_bytes → over ≡ false → Around (named_in ground text (next_of t) false (part text t.place)) (atom_in ground over text at) (λ a. a) false over text (next_of t) at v v
    unfolding else_named atom_context
    atom_around l o = word_around before atom_context mark_of over text at t et false v ek name_step sizes l o (λ h m k. alone h)
      where
        alone : (h : AtomPlace ground over text at) → else_named (atom_context h) false (part text t.place) ≡ []
        alone (head p s n e) = refl
        alone (also u p hs s) = refl
        alone (negated c o) = refl

  module _ (ek : t.kind ≡ 10) where
    signed_step : (h : AtomPlace ground over text at) → step (before h) (token_by 10 (part text t.place)) ≡ some (record { mark = mark_of h; state = atom_minus (atom_context h) })
    unfolding step moves try fire either when token_of symbol_number
    signed_step h = refl

    pub signed_over : over ≡ true → Stops (atom_in ground over text at) text at v (record { refusal = OverSize; place = t.place })
    unfolding step token_of too_big
    signed_over o = record { refuses = omega arith; answer = λ h. over_kind ground text at t et 10 ek (λ z. omega arith) (wants (before h)) v (record { mark = mark_of h; state = atom_minus (atom_context h) }) 4 (signed_step h) (inv (fault_many _ _ _ _ refl (sizes h ∙ o))) (λ z. omega arith) }

    pub signed_around : over ≡ false → Around (minus_in ground text (next_of t)) (atom_in ground over text at) (λ a. a) false over text (next_of t) at v v
    unfolding step token_of too_big too_long too_many_variables is_underscore meet meet_symbol token_number symbol_number else_minus atom_context
    signed_around o =
        record {
          later = let l = forward ground text at t et (λ q. let z : ◌≡◌ {A = ℕ} 10 20 = inv ek ∙ q in omega arith) in omega arith;
          kept = λ z. o;
          tree = λ x. x;
          place = λ h. record { context = atom_context h; alone = λ k. alone h };
          before = λ h. on_kind ground text at t et 10 ek (λ z. omega arith) (wants (before h)) v v (record { mark = mark_of h; state = atom_minus (atom_context h) }) (signed_step h) (fault_none _ _ _ _ refl refl (sizes h ∙ o) refl) (meets_none text (token_by 10 (part text t.place)) t.place v refl refl);
          behind = λ h x. refl;
          spelling = λ x. refl;
          meant = λ x. refl;
        }
      where
        alone : (h : AtomPlace ground over text at) → else_minus (atom_context h) ≡ []
        alone (head p s n e) = refl
        alone (also u p hs s) = refl
        alone (negated c o') = refl

  pub atom_wrong : (t.kind ≡ 0 → ⊥) → (t.kind ≡ 10 → ⊥) → Stops (atom_in ground over text at) text at v (record { refusal = Misplaced; place = t.place })
  unfolding moves else_wanted try_number fire_number either when symbol_number finished finished_atom atom_context
  atom_wrong a b = record { refuses = omega arith; answer = λ h. wrong_token ground text at t et (wants (before h)) v (rw (ne_eqb t.kind 0 a, ne_eqb t.kind 10 b) (nothing h)) (ended h) }
    where
      nothing : (h : AtomPlace ground over text at) → try_number (else_wanted (atom_context h)) t.kind (token_here ground text at t et) ≡ none
      nothing (head p s n e) = no_if ground p _ t.kind (λ z. n (rw et at z))
      nothing (also u p hs s) = refl
      nothing (negated c o) = refl

      ended : (h : AtomPlace ground over text at) → t.kind ≡ 20 → finished_atom (atom_context h) ≡ none
      ended (head p s n e) z = absurd (e (rw et at z))
      ended (also u p hs s) z = refl
      ended (negated c o) z = refl
