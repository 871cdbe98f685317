-- A built-in atom from its left term on, by the tests that lead to what is read.
use mathlib.Core.Path.{◌≡◌, refl, sym as inv, ap, ◌∙◌}
use mathlib.Core.Bool.{Bool, true, false, ◌&&◌}
use mathlib.Core.Logic.{◌⊎◌, inl, inr}
use mathlib.Core.List.{List, append-nil, append_assoc}
use Prim.Native.Nat.{ℕ, ◌≤◌, ◌<◌}
use native.Mathlib.Omega.{arith}
use lib.Dec.{eqb, leb}
use borrow.Author.Tests.{ne_eqb, eqb-true, eqb-false}
use Rattle.texts.specs.declared.place.Place.{Place}
use Rattle.texts.specs.declared.refusal.Refusal.TheVariants.{Misplaced}
use Rattle.texts.specs.declared.refusal.Refused.{Refused}
use Rattle.texts.specs.Parts.{part}
use Rattle.tokens.specs.Token.{next_token}
use Rattle.lexis.proofs.KindNumber.{kind_at_number}
use Rattle.reading.specs.Reading.{refused}
use Rattle.meaning.specs.Domain.{Comparison}
use Rattle.texts.specs.Place.{Stands}
use Rattle.meaning.specs.Rules.{Bytes, Term, plain, Literal, builtin, Side}
use Rattle.meaning.specs.Values.{Value}
use Rattle.grammar.specs.Tokens.{Token, comparison}
use Rattle.grammar.specs.Trees.{Term as TermTree, Literal as Tree}
use Rattle.grammar.specs.Spelling.{inside, spell_term, spell_compared, spell_literal}
use Rattle.grammar.specs.Variables.{Variables as Names, meet_symbol, meet, met}
use Rattle.grammar.specs.Sizes.{too_big, too_long, too_many, is_underscore, too_many_variables}
use Rattle.grammar.specs.States.{BodyContext, left_in, right_in, operand_in, term_wanted, term_read, term_mark}
use Rattle.grammar.specs.Moves.{symbol_number, token_number, when, fire, either, try}
use Rattle.grammar.specs.Machine.{after_literal, after_term, moves, finished}
use Rattle.grammar.specs.Abstraction.{term_for, comparison_for, literal_for}
use Rattle.grammar.proofs.Numbers.{sign_of, fire_number, try_number, try_by_number, comparison_by_number}
use Rattle.grammar.proofs.Variables.{met_append}
use Rattle.syntax.specs.declared.token.TokenRead.{TokenRead}
use Rattle.syntax.specs.Text.{token_of, token_read, next_of}
use Rattle.syntax.specs.Variables.{variables_of, Fits}
use Rattle.syntax.specs.Ahead.{Wants, wants, from}
use Rattle.syntax.specs.Fills.{Production, Goes, Stops}
use Rattle.syntax.proofs.Readings.{Around, stops_at}
use Rattle.syntax.specs.Terms.{TermPlace, term_in}
use Rattle.syntax.specs.Builtins.{comparison_of, operation_of, behind_literal, Tail, nothing, operand, with_tail, spell_tail, tail_for, TailPlace, tail_in, RightSide, SidePlace, spell_side, side_for, side_in}
use Rattle.syntax.proofs.Tokens.{token_by, token_here, number_here, forward}
use Rattle.syntax.proofs.Steps.{meets_none, on_token, on_kind, wrong_token, same_token}
use Rattle.syntax.proofs.Sizes.{fault_none}
use Rattle.syntax.proofs.Signs.{sign_range, signs_agree, no_variable}

-- ---- behind the right term

module _ (text : Bytes) (at : ℕ) (t : TokenRead) (et : t ≡ token_read false text at) (v : List Place) where
  -- no operation: the literal ends here
  pub no_operation_on : (t.kind < 10) ⊎ (12 < t.kind) → (h : TailPlace) → from false text (wants (term_read (right_in h.body h.left h.sign) h.right)) v at ≡ from false text (behind_literal h.body (with_tail h.left h.sign h.right nothing)) v at
  unfolding moves after_term after_literal try try_number either fire_number when symbol_number finished with_tail
  no_operation_on out k = same_token false text at t et (wants (term_read (right_in k.body k.left k.sign) k.right)) (behind_literal k.body (with_tail k.left k.sign k.right nothing)) v (taken k) refl
    where
      apart : (k : ℕ) → 10 ≤ k → k ≤ 12 → t.kind ≡ k → ⊥
      apart k l h e = elim out [ inl a ↦ omega arith | inr a ↦ omega arith ]

      taken : (h : TailPlace) → (t.kind ≡ 20 → ⊥) → try (moves (term_read (right_in h.body h.left h.sign) h.right)) (token_here false text at t et) ≡ try (after_literal h.body (with_tail h.left h.sign h.right nothing)) (token_here false text at t et)
      taken h z = try_by_number (moves (term_read (right_in h.body h.left h.sign) h.right)) (token_here false text at t et) t.kind (number_here false text at t et z) ∙ rw (ne_eqb t.kind 10 (apart 10 (omega arith) (omega arith)), ne_eqb t.kind 11 (apart 11 (omega arith) (omega arith)), ne_eqb t.kind 12 (apart 12 (omega arith) (omega arith))) (inv (try_by_number (after_literal h.body (with_tail h.left h.sign h.right nothing)) (token_here false text at t et) t.kind (number_here false text at t et z)))

  pub operation_on : 10 ≤ t.kind → t.kind ≤ 12 → (h : TailPlace) → from false text (wants (term_read (right_in h.body h.left h.sign) h.right)) v at ≡ from false text (wants (term_wanted (operand_in h.body h.left h.sign h.right (operation_of t.kind)))) v (next_of t)
  unfolding moves after_term try fire either when token_of symbol_number token_number too_big too_long too_many too_many_variables is_underscore meet meet_symbol operation_of
  operation_on low high h = go (eqb t.kind 10) refl (eqb t.kind 11) refl
    where
      go : (x : Bool) → eqb t.kind 10 ≡ x → (y : Bool) → eqb t.kind 11 ≡ y → from false text (wants (term_read (right_in h.body h.left h.sign) h.right)) v at ≡ from false text (wants (term_wanted (operand_in h.body h.left h.sign h.right (operation_of t.kind)))) v (next_of t)
      go true p y q = let k = eqb-true t.kind 10 p in on_kind false text at t et 10 k (λ z. omega arith) (wants (term_read (right_in h.body h.left h.sign) h.right)) v v _ refl (fault_none _ _ _ _ refl refl refl refl) (meets_none text (token_by 10 (part text t.place)) t.place v refl refl) ∙ rw p
      go false p true q = let k = eqb-true t.kind 11 q in on_kind false text at t et 11 k (λ z. omega arith) (wants (term_read (right_in h.body h.left h.sign) h.right)) v v _ refl (fault_none _ _ _ _ refl refl refl refl) (meets_none text (token_by 11 (part text t.place)) t.place v refl refl) ∙ rw (p, q)
      go false p false q = let k : t.kind ≡ 12 = omega (arith, eqb-false t.kind 10 p, eqb-false t.kind 11 q) in on_kind false text at t et 12 k (λ z. omega arith) (wants (term_read (right_in h.body h.left h.sign) h.right)) v v _ refl (fault_none _ _ _ _ refl refl refl refl) (meets_none text (token_by 12 (part text t.place)) t.place v refl refl) ∙ rw (p, q)

pub tail_none : (text : Bytes) (at : Place) → Stands text at → (t : TokenRead) → t ≡ token_read false text at.start → (left : Term Value) (c : Comparison) (right : Term Value) (v : List Place) {S : Literal Value → Type 0} → Fits v → (t.kind < 10) ⊎ (12 < t.kind) → S (builtin c left (plain right)) → Goes (tail_in left c right) false text at.start v at v S
unfolding tail_for spell_tail met
tail_none text at stands t et left c right v fits out s = record { forward = omega arith; stands = stands; kept = refl; fits = fits; tree = nothing; means = s; names = refl; ahead = no_operation_on text at.start t et v out }

module _ (text : Bytes) (at : ℕ) (t : TokenRead) (et : t ≡ token_read false text at) (left : Term Value) (c : Comparison) (right : Term Value) (v : List Place) where
  -- an operation, and its operand behind it
  pub tail_around : 10 ≤ t.kind → t.kind ≤ 12 → Around (term_in false false) (tail_in left c right) (λ a. builtin c left (Side.computed right (operation_of t.kind) a)) false false text (next_of t) at v v
  unfolding moves after_term with_tail tail_for spell_tail met finished too_many term_mark
  tail_around low high =
      record {
        later = let l = forward false text at t et (λ z. omega arith) in omega arith;
        kept = λ o. o;
        tree = operand (operation_of t.kind);
        place = λ h. record { context = operand_in h.body h.left h.sign h.right (operation_of t.kind); size = refl };
        before = operation_on text at t et v low high;
        behind = λ h x. refl;
        spelling = λ x. ap (λ vs. met vs (spell_term inside x)) (no_variable (variables_of text v) (operation_of t.kind));
        meant = λ x. ap (λ vs. builtin c left (Side.computed right (operation_of t.kind) (term_for vs x))) refl;
      }

-- ---- behind the left term

module _ (text : Bytes) (at : ℕ) (t : TokenRead) (et : t ≡ token_read false text at) (v : List Place) where
  abbrev pub u : Token
  u = token_here false text at t et

  pub no_sign_on : (leb 13 t.kind && leb t.kind 19) ≡ false → (h : SidePlace) → (from false text (wants (term_read (left_in h.body) h.left)) v at).answer ≡ refused 2 t.place
  unfolding moves after_term try_number fire_number either when finished
  no_sign_on e h = wrong_token false text at t et (wants (term_read (left_in h.body) h.left)) v (rw e) (λ z. refl)

  module _ (e : (leb 13 t.kind && leb t.kind 19) ≡ true) where
    pub range : (13 ≤ t.kind) × (t.kind ≤ 19)
    range = sign_range t.kind e

    number_is : token_number u ≡ t.kind
    number_is = number_here false text at t et (λ z. omega (arith, range.0, range.1))

    is_comparison : u ≡ comparison (sign_of u)
    is_comparison = comparison_by_number u t.kind number_is range.0 range.1

    pub means : comparison_for (sign_of u) ≡ comparison_of t.kind
    means = rw et (rw (kind_at_number (next_token true text at).kind) (signs_agree (next_token true text at).kind _ (rw et at range.0) (rw et at range.1)))

    pub sign_on : (h : SidePlace) → from false text (wants (term_read (left_in h.body) h.left)) v at ≡ from false text (wants (term_wanted (right_in h.body h.left (sign_of u)))) v (next_of t)
    unfolding moves after_term try_number fire_number either when too_big too_long too_many too_many_variables meet
    sign_on h = on_token false text at t et (wants (term_read (left_in h.body) h.left)) v v (record { mark = inside; state = term_wanted (right_in h.body h.left (sign_of u)) }) (λ z. omega (arith, range.0, range.1)) (try_by_number (moves (term_read (left_in h.body) h.left)) u t.kind number_is ∙ rw e) (fault_none _ _ _ _ (ap too_big is_comparison) (ap too_long is_comparison) refl (ap (too_many_variables (variables_of text v)) is_comparison)) (meets_none text u t.place v (ne_eqb (token_number u) 8 (λ z. omega (arith, number_is, range.0))) (ap (meet (variables_of text v)) is_comparison))

module _ (text : Bytes) (at : ℕ) (t : TokenRead) (et : t ≡ token_read false text at) (left : Term Value) (v : List Place) where
  pub side_wrong : (leb 13 t.kind && leb t.kind 19) ≡ false → Stops (side_in left) text at v (record { refusal = Misplaced; place = t.place })
  side_wrong e = record { refuses = omega arith; answer = no_sign_on text at t et v e }

  module _ (e : (leb 13 t.kind && leb t.kind 19) ≡ true) where
    right_place : SidePlace → TermPlace false false
    unfolding too_many term_mark
    right_place h = record { context = right_in h.body h.left (sign_of (u text at t et v)); size = refl }

    pub side_stops : {r : Refused} → Stops (term_in false false) text (next_of t) v r → Stops (side_in left) text at v r
    unfolding right_place
    side_stops = stops_at right_place (λ h. sign_on text at t et v e h)

    -- what stands behind the right term
    pub side_around : {next : Place} {v₁ : List Place} {S : Term Value → Type 0} (g : Goes (term_in false false) false text (next_of t) v next v₁ S) → Around (tail_in left (comparison_of t.kind) (term_for (variables_of text v) g.tree)) (side_in left) (λ l. l) false false text next.start at v₁ v
    unfolding right_place met meet
    side_around {next} {v₁} g =
        record {
          later = let k = range text at t et v e in let l = forward false text at t et (λ q. omega (arith, k.0, k.1)) in let f = g.forward in omega arith;
          kept = λ o. o;
          tree = λ y. record { sign = sign_of (u text at t et v); right = g.tree; tail = y };
          place = λ h. record { body = h.body; left = h.left; sign = sign_of (u text at t et v); right = g.tree };
          before = λ h. sign_on text at t et v e h ∙ g.ahead (right_place h);
          behind = λ h y. refl;
          spelling = λ y. met_append (variables_of text v) (spell_term inside g.tree) (spell_tail y) ∙ rw g.names;
          meant = λ y. rw (means text at t et v e, g.names);
        }

-- ---- the left term, and then the side

-- what a comparison stands for, from its left term on
pub side_literal : (vs : Names) (t : TermTree false) (x : RightSide) → literal_for vs (with_tail t x.sign x.right x.tail) ≡ side_for (term_for vs t) (met vs (spell_term inside t)) x
unfolding literal_for tail_for with_tail spell_compared met meet
side_literal vs t x = go x.tail
  where
    go : (y : Tail) → literal_for vs (with_tail t x.sign x.right y) ≡ tail_for (term_for vs t) (comparison_for x.sign) (term_for (met vs (spell_term inside t)) x.right) (met (met vs (spell_term inside t)) (spell_term inside x.right)) y
    go nothing = refl
    go (operand o w) = rw (met_append vs (spell_term inside t))

pub side_spelling : (vs : Names) (t : TermTree false) (x : RightSide) → met vs (spell_literal inside (with_tail t x.sign x.right x.tail)) ≡ met (met vs (spell_term inside t)) (spell_side x)
unfolding spell_literal with_tail spell_compared spell_tail
side_spelling vs t x = go x.tail
  where
    go : (y : Tail) → met vs (spell_literal inside (with_tail t x.sign x.right y)) ≡ met (met vs (spell_term inside t)) (spell_side (record { sign = x.sign; right = x.right; tail = y }))
    go nothing = rw (append-nil (spell_term inside x.right)) (met_append vs (spell_term inside t) _)
    go (operand o w) = rw append_assoc (met_append vs (spell_term inside t) _)

module _ {H : Type 0} (pre : H → Wants false) (body : H → BodyContext false) (over : Bool) (text : Bytes) (at : ℕ) (v : List Place) where
  abbrev pub left_from : Production false
  left_from = record { Context = H; Tree = TermTree false; Meant = Term Value; before = pre; behind = λ h x. wants (term_read (left_in (body h)) x); spelling = spell_term inside; meant = term_for }

  abbrev pub literal_from : Production false
  literal_from = record { Context = H; Tree = Tree false; Meant = Literal Value; before = pre; behind = λ h x. behind_literal (body h) x; spelling = spell_literal inside; meant = literal_for }

  -- the side behind the left term
  pub left_around : {next : Place} {v₁ : List Place} {S : Term Value → Type 0} (g : Goes left_from over text at v next v₁ S) → Around (side_in (term_for (variables_of text v) g.tree)) literal_from (λ l. l) false over text next.start at v₁ v
  left_around {next} {v₁} g =
      record {
        later = g.forward;
        kept = λ o. g.kept;
        tree = λ y. with_tail g.tree y.sign y.right y.tail;
        place = λ h. record { body = body h; left = g.tree };
        before = g.ahead;
        behind = λ h y. refl;
        spelling = λ y. side_spelling (variables_of text v) g.tree y ∙ rw g.names;
        meant = λ y. side_literal (variables_of text v) g.tree y ∙ rw g.names;
      }
