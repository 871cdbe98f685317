-- A literal, by the tests that lead to what is read.
use mathlib.Core.Path.{◌≡◌, refl, sym as inv, ◌∙◌}
use mathlib.Core.Bool.{Bool, true, false, ◌&&◌, false≢true}
use mathlib.Core.Logic.{◌⊎◌}
use mathlib.Core.Option.{some}
use mathlib.Core.List.{List}
use Prim.Native.Nat.{ℕ, suc, ◌≤◌, ◌<◌}
use native.Mathlib.Omega.{arith}
use lib.Dec.{leb}
use borrow.Author.Tests.{ne_eqb}
use Rattle.texts.specs.declared.place.Place.{Place}
use Rattle.texts.specs.declared.refusal.Refusal.TheVariants.{Misplaced, OverSize}
use Rattle.texts.specs.declared.refusal.Refused.{Refused}
use Rattle.texts.specs.Parts.{part}
use Rattle.meaning.specs.Rules.{Bytes, Term, constant, Literal}
use Rattle.meaning.specs.Values.{Value}
use Rattle.grammar.specs.Trees.{count, name, positive, negated}
use Rattle.grammar.specs.Spelling.{Mark, literal, spell_term, spell_literal}
use Rattle.grammar.specs.Variables.{meet_symbol, meet, met}
use Rattle.grammar.specs.Abstraction.{term_for, literal_for}
use Rattle.grammar.specs.Sizes.{most_bytes, too_big, too_long, is_underscore, too_many_variables}
use Rattle.grammar.specs.States.{State, BodyContext, literal_in, not_in, left_in, atom_wanted, atom_minus, named, term_wanted, term_minus, term_read, atom_mark, term_mark}
use Rattle.grammar.specs.Moves.{symbol_number, token_number, when, fire, either, try}
use Rattle.grammar.specs.Machine.{after_atom, after_term, else_wanted, else_named, moves, step, finished_atom, finished}
use Rattle.grammar.proofs.Numbers.{fire_number, try_number, try_by_number}
use Rattle.grammar.proofs.Steps.{left_same, left_minus_same}
use Rattle.syntax.specs.declared.token.TokenRead.{TokenRead}
use Rattle.syntax.specs.Text.{token_of, token_read, next_of}
use Rattle.syntax.specs.Variables.{variables_of}
use Rattle.syntax.specs.Ahead.{wants, from}
use Rattle.syntax.specs.Fills.{Production, Goes, Stops}
use Rattle.syntax.specs.Terms.{term_in, negative_in}
use Rattle.syntax.specs.Atoms.{AtomPlace, atom_context, named_in, minus_in, atom_in}
use Rattle.syntax.specs.Builtins.{with_tail, side_in}
use Rattle.syntax.specs.Literals.{LiteralPlace, literal_in_body, minus_literal_in}
use Rattle.syntax.proofs.Tokens.{token_by, token_here, number_here, forward}
use Rattle.syntax.proofs.Steps.{meets_none, on_kind, over_kind, wrong_token, same_token}
use Rattle.syntax.proofs.Sizes.{fault_none, fault_many}
use Rattle.syntax.proofs.Signs.{is_sign, sign_range}
use Rattle.syntax.proofs.Readings.{Around, around_then, stops_at}
use Rattle.syntax.proofs.Atoms.{word_stops, word_on, word_around}
use Rattle.syntax.proofs.Builtins.{side_literal, side_spelling, left_from, left_around}

-- ---- the first token of a literal

abbrev pub wanted : {over : Bool} → LiteralPlace over → State false
wanted h = atom_wanted (literal_in h.body)

abbrev pub mark : {over : Bool} → LiteralPlace over → Mark
mark h = literal (suc (count h.body.literals))

pub name_step : {over : Bool} (b : Bytes) (h : LiteralPlace over) → step (wanted h) (token_by 0 b) ≡ some (record { mark = mark h; state = named (literal_in h.body) false b })
unfolding step moves try fire either token_of atom_mark
name_step b h = refl

pub not_step : {over : Bool} (b : Bytes) (h : LiteralPlace over) → try (wants (wanted h)).next (token_by 1 b) ≡ some (record { mark = mark h; state = atom_wanted (not_in h.body) })
unfolding moves else_wanted try fire either when token_of symbol_number atom_mark
not_step b h = refl

pub minus_step : {over : Bool} (b : Bytes) (h : LiteralPlace over) → try (wants (wanted h)).next (token_by 10 b) ≡ some (record { mark = mark h; state = atom_minus (literal_in h.body) })
unfolding moves else_wanted try fire either when token_of symbol_number atom_mark
minus_step b h = refl

-- behind a name a comparison is taken as behind a left term
pub left_name : (text : Bytes) (at : ℕ) (t : TokenRead) → t ≡ token_read false text at → (v : List Place) (b : Bytes) (c : BodyContext false) → (leb 13 t.kind && leb t.kind 19) ≡ true → from false text (wants (named (literal_in c) false b)) v at ≡ from false text (wants (term_read (left_in c) (name b))) v at
unfolding moves after_term else_named try either try_number fire_number when symbol_number finished
left_name text at t et v b c e =
    let k = sign_range t.kind e in
    same_token false text at t et (wants (named (literal_in c) false b)) (wants (term_read (left_in c) (name b))) v (λ n. try_by_number (moves (named (literal_in c) false b)) (token_here false text at t et) t.kind (number_here false text at t et n) ∙ rw (ne_eqb t.kind 5 (λ q. omega arith), e) (inv (try_by_number (moves (term_read (left_in c) (name b))) (token_here false text at t et) t.kind (number_here false text at t et n) ∙ rw e))) refl

-- `not`, or a minus
pub not_on : {over : Bool} (text : Bytes) (at : ℕ) (t : TokenRead) → t ≡ token_read false text at → (v : List Place) → t.kind ≡ 1 → over ≡ false → (h : LiteralPlace over) → from false text (wants (wanted h)) v at ≡ from false text (wants (atom_wanted (not_in h.body))) v (next_of t)
unfolding token_of too_big too_long too_many_variables is_underscore meet meet_symbol token_number symbol_number
not_on text at t et v ek o h = on_kind false text at t et 1 ek (λ z. omega arith) (wants (wanted h)) v v (record { mark = mark h; state = atom_wanted (not_in h.body) }) (not_step (part text t.place) h) (fault_none _ _ _ _ refl refl (h.size ∙ o) refl) (meets_none text (token_by 1 (part text t.place)) t.place v refl refl)

pub minus_on : {over : Bool} (text : Bytes) (at : ℕ) (t : TokenRead) → t ≡ token_read false text at → (v : List Place) → t.kind ≡ 10 → over ≡ false → (h : LiteralPlace over) → from false text (wants (wanted h)) v at ≡ from false text (wants (atom_minus (literal_in h.body))) v (next_of t)
unfolding token_of too_big too_long too_many_variables is_underscore meet meet_symbol token_number symbol_number
minus_on text at t et v ek o h = on_kind false text at t et 10 ek (λ z. omega arith) (wants (wanted h)) v v (record { mark = mark h; state = atom_minus (literal_in h.body) }) (minus_step (part text t.place) h) (fault_none _ _ _ _ refl refl (h.size ∙ o) refl) (meets_none text (token_by 10 (part text t.place)) t.place v refl refl)

-- a variable, `_`, a number or a string is taken as a left term
pub left_on : {over : Bool} (text : Bytes) (at : ℕ) (t : TokenRead) → t ≡ token_read false text at → (v : List Place) → (t.kind ≡ 0 → ⊥) → (t.kind ≡ 1 → ⊥) → (t.kind ≤ 4) ⊎ (t.kind ≡ 22) → (h : LiteralPlace over) → from false text (wants (wanted h)) v at ≡ from false text (wants (term_wanted (left_in h.body))) v at
unfolding step finished finished_atom
left_on text at t et v a b l h = same_token false text at t et (wants (wanted h)) (wants (term_wanted (left_in h.body))) v (λ n. left_same h.body _ t.kind (number_here false text at t et n) (omega arith) l) refl

pub minus_left_on : (text : Bytes) (at : ℕ) (t : TokenRead) → t ≡ token_read false text at → (v : List Place) → t.kind ≡ 4 → (c : BodyContext false) → from false text (wants (atom_minus (literal_in c))) v at ≡ from false text (wants (term_minus (left_in c))) v at
unfolding step finished token_of
minus_left_on text at t et v ek c = same_token false text at t et (wants (atom_minus (literal_in c))) (wants (term_minus (left_in c))) v (λ n. rw ek (left_minus_same c _)) refl

-- ---- a name, and what follows it

module _ (over : Bool) (text : Bytes) (at : ℕ) (t : TokenRead) (et : t ≡ token_read false text at) (v : List Place) (ek : t.kind ≡ 0) where
  pub name_stops : (over ≡ false → most_bytes < t.place.len) → Stops (literal_in_body over) text at v (record { refusal = OverSize; place = t.place })
  name_stops l = stops_at (λ h. h) (λ h. refl) (word_stops (λ (h : LiteralPlace over). wanted h) (λ h. literal_in h.body) mark over text at t et false v ek (name_step (part text t.place)) (λ h. h.size) l)

  module _ (l : t.place.len ≤ most_bytes) (o : over ≡ false) (t' : TokenRead) (et' : t' ≡ token_read false text (next_of t)) where
    ahead : at ≤ next_of t
    ahead = let f = forward false text at t et (λ q. let z : ◌≡◌ {A = ℕ} 0 20 = inv ek ∙ q in omega arith) in omega arith

    pub name_compared : (leb 13 t'.kind && leb t'.kind 19) ≡ true → Around (side_in (constant (Value.name (part text t.place)))) (literal_in_body over) (λ l. l) false over text (next_of t) at v v
    unfolding term_for met meet spell_term
    name_compared e =
        record {
          later = ahead;
          kept = λ z. o;
          tree = λ x. with_tail (name (part text t.place)) x.sign x.right x.tail;
          place = λ h. record { body = h.body; left = name (part text t.place) };
          before = λ h. word_on (λ (h : LiteralPlace over). wanted h) (λ h'. literal_in h'.body) mark over text at t et false v ek (name_step (part text t.place)) (λ h'. h'.size) l o h ∙ left_name text (next_of t) t' et' v _ h.body e;
          behind = λ h x. refl;
          spelling = λ x. side_spelling _ (name (part text t.place)) x;
          meant = λ x. side_literal _ (name (part text t.place)) x;
        }

    pub name_atom : (leb 13 t'.kind && leb t'.kind 19) ≡ false → Around (named_in false text (next_of t) false (part text t.place)) (literal_in_body over) Literal.positive false over text (next_of t) at v v
    unfolding moves after_atom finished literal_for spell_literal
    name_atom e =
        around_then
        (word_around (λ (h : LiteralPlace over). wanted h) (λ h. literal_in h.body) mark over text at t et false v ek (name_step (part text t.place)) (λ h. h.size) l o (λ h m k. absurd (false≢true (inv e ∙ is_sign t'.kind (rw et' m) (rw et' k)))))
        (record { later = omega arith; kept = λ z. z; tree = positive; place = λ h. h; before = λ h. refl; behind = λ h x. refl; spelling = λ x. refl; meant = λ x. refl })

-- ---- behind a minus

module _ (text : Bytes) (at : ℕ) (t : TokenRead) (et : t ≡ token_read false text at) (v : List Place) where
  abbrev pub minus_left_in : Production false
  minus_left_in = left_from (λ (c : BodyContext false). wants (atom_minus (literal_in c))) (λ c. c) false text at v

  -- the number there, as the left term
  pub minus_left : t.kind ≡ 4 → Around (negative_in false) minus_left_in (λ a. a) false false text at at v v
  unfolding step finished token_of
  minus_left ek = record { later = omega arith; kept = λ o. o; tree = λ x. x; place = λ c. left_in c; before = minus_left_on text at t et v ek; behind = λ c x. refl; spelling = λ x. refl; meant = λ x. refl }

  pub minus_refused : {e : Refused} → Stops minus_left_in text at v e → Stops minus_literal_in text at v e
  minus_refused = stops_at (λ c. c) (λ c. refl)

  -- and what it is compared with
  pub minus_compared : {next : Place} {v₁ : List Place} {S : Term Value → Type 0} → (g : Goes minus_left_in false text at v next v₁ S) → Around (side_in (term_for (variables_of text v) g.tree)) minus_literal_in (λ l. l) false false text next.start at v₁ v
  minus_compared = left_around (λ (c : BodyContext false). wants (atom_minus (literal_in c))) (λ c. c) false text at v

  pub minus_atom : (t.kind ≡ 4 → ⊥) → Around (minus_in false text at) minus_literal_in Literal.positive false false text at at v v
  unfolding moves after_atom finished literal_for spell_literal
  minus_atom ne = record { later = omega arith; kept = λ o. o; tree = positive; place = λ c. record { context = literal_in c; alone = λ k. absurd (ne (rw et k)) }; before = λ c. refl; behind = λ c x. refl; spelling = λ x. refl; meant = λ x. refl }

-- ---- any literal

module _ (over : Bool) (text : Bytes) (at : ℕ) (t : TokenRead) (et : t ≡ token_read false text at) (v : List Place) where
  -- `not`, or a minus, which are taken alike
  module _ (k : ℕ) (ek : t.kind ≡ k) (nk : k ≡ 20 → ⊥) where
    begin_over : (next : BodyContext false → State false) → ((h : LiteralPlace over) → try (wants (wanted h)).next (token_by k (part text t.place)) ≡ some (record { mark = mark h; state = next h.body })) → too_big (token_by k (part text t.place)) ≡ false → over ≡ true → Stops (literal_in_body over) text at v (record { refusal = OverSize; place = t.place })
    begin_over next steps small o = record { refuses = omega arith; answer = λ h. over_kind false text at t et k ek nk (wants (wanted h)) v (record { mark = mark h; state = next h.body }) 4 (steps h) (inv (fault_many _ _ _ _ small (h.size ∙ o))) (λ z. omega arith) }

    begun : at ≤ next_of t
    begun = let l = forward false text at t et (λ q. nk (inv ek ∙ q)) in omega arith

  pub not_over : t.kind ≡ 1 → over ≡ true → Stops (literal_in_body over) text at v (record { refusal = OverSize; place = t.place })
  unfolding token_of too_big
  not_over ek o = begin_over 1 ek (λ z. omega arith) (λ c. atom_wanted (not_in c)) (not_step (part text t.place)) refl o

  pub minus_over : t.kind ≡ 10 → over ≡ true → Stops (literal_in_body over) text at v (record { refusal = OverSize; place = t.place })
  unfolding token_of too_big
  minus_over ek o = begin_over 10 ek (λ z. omega arith) (λ c. atom_minus (literal_in c)) (minus_step (part text t.place)) refl o

  pub not_around : t.kind ≡ 1 → over ≡ false → Around (atom_in false false text (next_of t)) (literal_in_body over) Literal.negated false over text (next_of t) at v v
  unfolding moves after_atom finished literal_for spell_literal token_of too_big too_long too_many_variables is_underscore met meet meet_symbol token_number symbol_number atom_context
  not_around ek o = record { later = begun 1 ek (λ z. omega arith); kept = λ z. o; tree = negated; place = λ h. AtomPlace.negated h.body refl; before = not_on text at t et v ek o; behind = λ h x. refl; spelling = λ x. refl; meant = λ x. refl }

  pub minus_around : t.kind ≡ 10 → over ≡ false → Around minus_literal_in (literal_in_body over) (λ l. l) false over text (next_of t) at v v
  unfolding token_of too_big too_long too_many_variables is_underscore meet meet_symbol token_number symbol_number
  minus_around ek o = record { later = begun 10 ek (λ z. omega arith); kept = λ z. o; tree = λ x. x; place = λ h. h.body; before = minus_on text at t et v ek o; behind = λ h x. refl; spelling = λ x. refl; meant = λ x. refl }

  pub literal_wrong : (t.kind ≡ 0 → ⊥) → (t.kind ≡ 10 → ⊥) → 4 < t.kind → (t.kind ≡ 22 → ⊥) → Stops (literal_in_body over) text at v (record { refusal = Misplaced; place = t.place })
  unfolding moves else_wanted try_number fire_number either when symbol_number finished finished_atom
  literal_wrong a b l s = record { refuses = omega arith; answer = λ h. wrong_token false text at t et (wants (wanted h)) v (rw (ne_eqb t.kind 0 a, ne_eqb t.kind 10 b, ne_eqb t.kind 2 (λ z. omega arith), ne_eqb t.kind 22 s, ne_eqb t.kind 4 (λ z. omega arith), ne_eqb t.kind 3 (λ z. omega arith), ne_eqb t.kind 1 (λ z. omega arith))) (λ z. refl) }

  abbrev pub left_in_body : Production false
  left_in_body = left_from (λ (h : LiteralPlace over). wants (wanted h)) (λ h. h.body) over text at v

  -- a variable, `_`, a number or a string: the left term of a comparison
  pub literal_left : (t.kind ≡ 0 → ⊥) → (t.kind ≡ 1 → ⊥) → (t.kind ≤ 4) ⊎ (t.kind ≡ 22) → Around (term_in false over) left_in_body (λ a. a) over over text at at v v
  unfolding step finished finished_atom term_mark atom_mark
  literal_left a b l = record { later = omega arith; kept = λ o. o; tree = λ x. x; place = λ h. record { context = left_in h.body; size = h.size }; before = left_on text at t et v a b l; behind = λ h x. refl; spelling = λ x. refl; meant = λ x. refl }

  pub literal_refused : {e : Refused} → Stops left_in_body text at v e → Stops (literal_in_body over) text at v e
  literal_refused = stops_at (λ h. h) (λ h. refl)

  -- and what it is compared with
  pub literal_compared : {next : Place} {v₁ : List Place} {S : Term Value → Type 0} → (g : Goes left_in_body over text at v next v₁ S) → Around (side_in (term_for (variables_of text v) g.tree)) (literal_in_body over) (λ l. l) false over text next.start at v₁ v
  literal_compared = left_around (λ (h : LiteralPlace over). wants (wanted h)) (λ h. h.body) over text at v
