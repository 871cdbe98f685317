-- Rows of literals: an atom's row, and a built-in's, stand for the literal.
use mathlib.Core.Path.{◌≡◌, refl}
use mathlib.Core.List.{List, [], ◌∷◌}
use Prim.Native.Nat.{ℕ, ◌<◌}
use native.Mathlib.Omega.{arith}
use lib.ListN.{length, get_or}
use borrow.Author.Tests.{ne_eqb}
use Rattle.meaning.specs.Rules.{Bytes, Term, Atom, plain, computed, positive, negated, builtin}
use Rattle.meaning.specs.Values.{Value}
use Rattle.codes.specs.Codes.{Coded}
use Rattle.codes.specs.Arithmetic.{comparison_at, operation_at}
use Rattle.codes.specs.Related.{RelatedSide, both_plain, both_computed, both_positive, both_negated, both_builtin}
use Rattle.tables.specs.Rows.{atom_at, side_at, literal_at, no_operation}
use Rattle.rows.specs.declared.literal.AtomCodes.{AtomCodes}
use Rattle.tables.specs.Coded.{CodedLiteral}
use Rattle.rows.specs.Coding.{CodedTerm, CodedAtom}

-- ---- the eight numbers of an array, one by one

pub eight_listed : (l : List ℕ) → length l ≡ 8 → get_or l 0 0 ∷ get_or l 1 0 ∷ get_or l 2 0 ∷ get_or l 3 0 ∷ get_or l 4 0 ∷ get_or l 5 0 ∷ get_or l 6 0 ∷ get_or l 7 0 ∷ [] ≡ l
eight_listed [] e = absurd (let z : ⊥ = omega arith in z)
eight_listed (_ ∷ []) e = absurd (let z : ⊥ = omega arith in z)
eight_listed (_ ∷ _ ∷ []) e = absurd (let z : ⊥ = omega arith in z)
eight_listed (_ ∷ _ ∷ _ ∷ []) e = absurd (let z : ⊥ = omega arith in z)
eight_listed (_ ∷ _ ∷ _ ∷ _ ∷ []) e = absurd (let z : ⊥ = omega arith in z)
eight_listed (_ ∷ _ ∷ _ ∷ _ ∷ _ ∷ []) e = absurd (let z : ⊥ = omega arith in z)
eight_listed (_ ∷ _ ∷ _ ∷ _ ∷ _ ∷ _ ∷ []) e = absurd (let z : ⊥ = omega arith in z)
eight_listed (_ ∷ _ ∷ _ ∷ _ ∷ _ ∷ _ ∷ _ ∷ []) e = absurd (let z : ⊥ = omega arith in z)
eight_listed (_ ∷ _ ∷ _ ∷ _ ∷ _ ∷ _ ∷ _ ∷ _ ∷ []) e = refl
eight_listed (_ ∷ _ ∷ _ ∷ _ ∷ _ ∷ _ ∷ _ ∷ _ ∷ _ ∷ _) e = absurd (let z : ⊥ = omega arith in z)

-- ---- rows that stand for literals

abbrev pub atom_row : ℕ → AtomCodes → List ℕ
atom_row sort r = sort ∷ r.predicate ∷ 0 ∷ r.terms

abbrev pub built_in_row : ℕ → ℕ → ℕ → ℕ → ℕ → List ℕ
built_in_row k o a b c = 2 ∷ o ∷ k ∷ a ∷ b ∷ c ∷ 0 ∷ 0 ∷ 0 ∷ 0 ∷ 0 ∷ []

module _ (names : List Bytes) where
  pub coded_positive : (r : AtomCodes) (a : Atom (Term Value)) → CodedAtom names r a → CodedLiteral names (atom_row 0 r) (positive a)
  unfolding literal_at atom_at
  coded_positive r a h = record { related = both_positive h.related; side = λ k. absurd (let z : ⊥ = omega arith in z) }

  pub coded_negated : (r : AtomCodes) (a : Atom (Term Value)) → CodedAtom names r a → CodedLiteral names (atom_row 1 r) (negated a)
  unfolding literal_at atom_at
  coded_negated r a h = record { related = both_negated h.related; side = λ k. absurd (let z : ⊥ = omega arith in z) }

  module _ {t u : Term Value} (k a b : ℕ) (left : CodedTerm names a t) (right : CodedTerm names b u) where
    pub coded_compared : CodedLiteral names (built_in_row k no_operation a b 0) (builtin (comparison_at k) t (plain u))
    unfolding literal_at side_at
    coded_compared =
        record {
          related = both_builtin (comparison_at k) left.related (both_plain right.related);
          side = λ z. record { on_left = left.valued; first = right.valued; second = λ other. absurd (other refl) };
        }

    pub coded_computed : {v : Term Value} (o c : ℕ) → o < no_operation → CodedTerm names c v → CodedLiteral names (built_in_row k o a b c) (builtin (comparison_at k) t (computed u (operation_at o) v))
    unfolding literal_at side_at
    coded_computed {v} o c h operand =
        let s : RelatedSide (Coded names) (side_at (built_in_row k o a b c) 0) (computed u (operation_at o) v) = rw (ne_eqb o no_operation (λ e. omega arith)) (both_computed right.related (operation_at o) operand.related) in
        record { related = both_builtin (comparison_at k) left.related s; side = λ z. record { on_left = left.valued; first = right.valued; second = λ other. operand.valued } }
