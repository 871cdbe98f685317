-- Related rules bind the same variables, and are safe together: safety looks at no value.
use mathlib.Core.Path.{◌≡◌, refl, ap, ap₂, ◌∙◌}
use mathlib.Core.Bool.{Bool, ◌&&◌}
use mathlib.Core.List.{List}
use Prim.Native.Nat.{ℕ}
use Rattle.meaning.specs.Rules.{Bytes, Rule}
use Rattle.meaning.specs.Safety.{in_positives, atom_bound, literal_bound, head_bound, Equation, equations, with, bound_after, bound, safe}
use Rattle.codes.specs.Related.{Pairwise, end, pair, RelatedTerm, RelatedAtom, RelatedLiteral, both_positive, both_negated, both_builtin, RelatedRule}
use Rattle.codes.proofs.Pairwise.{Agree, same_every}
use Rattle.codes.proofs.Scans.{RelatedEquation, same_term_bound, same_side_bound, same_in_positives, related_equations}

module _ {U W : Type 0} {R : U → W → Type 0} where
  same_after : (B : ℕ → Bool) {ps : List (Equation U)} {qs : List (Equation W)} → Pairwise (RelatedEquation R) ps qs → bound_after B ps ≡ bound_after B qs
  unfolding bound_after
  same_after B end = refl
  same_after B (pair {a} {b} {xs} {ys} r rs) = ap (λ (x : ℕ). bound_after (with B x) xs) r.left ∙ same_after (with B b.left) rs

module _ {U W : Type 0} {N : Bytes → Bytes → Type 0} {R : U → W → Type 0} where
  same_atom_bound : (B : ℕ → Bool) → Agree (RelatedAtom N (RelatedTerm R)) (atom_bound B) (atom_bound B)
  unfolding atom_bound
  same_atom_bound B a b h = same_every _ _ (same_term_bound B) h.arguments

  same_literal_bound : (B : ℕ → Bool) → Agree (RelatedLiteral N R) (literal_bound B) (literal_bound B)
  unfolding literal_bound
  same_literal_bound B _ _ (both_positive a) = same_atom_bound B _ _ a
  same_literal_bound B _ _ (both_negated a) = same_atom_bound B _ _ a
  same_literal_bound B _ _ (both_builtin k t e) = ap₂ ◌&&◌ (same_term_bound B _ _ t) (same_side_bound B _ _ e)

  pub same_bound : {r : Rule U} {s : Rule W} → RelatedRule N R r s → bound r ≡ bound s
  unfolding bound
  same_bound {r} {s} h = ap (λ (B : ℕ → Bool). bound_after B (equations r)) (same_in_positives h.body) ∙ same_after (in_positives s.body) (related_equations h)

  pub same_safe : {r : Rule U} {s : Rule W} → RelatedRule N R r s → safe r ≡ safe s
  unfolding safe head_bound
  same_safe {r} {s} h =
      rw (same_bound h) (ap₂ ◌&&◌ (same_every _ _ (same_atom_bound (bound s)) h.heads) (same_every _ _ (same_literal_bound (bound s)) h.body))
