-- The outcome of the meaning is what the last stages answer, and no other.
use mathlib.Core.Path.{◌≡◌, ap}
use mathlib.Core.Logic.{◌⊎◌, inl, inr}
use mathlib.Core.List.{List}
use Prim.Native.Nat.{ℕ, ◌-◌, ◌<◌, ◌≤◌}
use native.Mathlib.Omega.{arith}
use Rattle.meaning.specs.Rules.{Fact, Rule}
use Rattle.meaning.specs.Values.{Value, values, in_range}
use Rattle.meaning.specs.Matchings.{OverflowAt, ◌≼◌}
use Rattle.meaning.specs.Matchings as meant
use Rattle.meaning.specs.Outcomes.{MeansOutcome, out_of_range, verdict}
use Rattle.meaning.specs.Outcomes as outcomes
use Rattle.meaning.proofs.Settled.{means_unique}
use Rattle.meaning.proofs.Values.{value_laws}
use Rattle.meaning.proofs.Sets.{at_in}
use Rattle.stages.specs.Parts.{Part}
use Rattle.stages.specs.Stage.{on, stops, goes, first, without}
use Rattle.stages.proofs.Unique.{One, then_one, first_one}
use Rattle.promise.specs.Answer.{says}
use Rattle.promise.specs.Cases.{Leaves, leaves}
use Rattle.promise.specs.Judged.{VerdictStage, judged, Settled, settles}

module _ (rule_part : ℕ → Part) (P : List (Rule Value)) (I : List (Fact Value)) (places : List ℕ) where
  pub judged_one : One (VerdictStage P I places)
  judged_one x y (judged v h) (judged w k) = ap (λ z. on (says places z)) (means_unique values value_laws P I v w h k)

  pub settled_one : One (Settled rule_part P I places)
  settled_one = then_one _ _ (first_one _ _) (λ u. judged_one)

  lowest : (n : ℕ) (ps : List ℕ) → (f : meant.FirstAt (OverflowAt values in_range I) P n ps) → (j m : ℕ) → Leaves P I j m → (n < j) ⊎ ((n ≡ j) × (8 ≤ m))
  lowest n ps f j m (leaves r e qs h) = go (f.first j r qs e h)
    where
      go : (n < j) ⊎ ((n ≡ j) × (ps ≼ qs)) → (n < j) ⊎ ((n ≡ j) × (8 ≤ 8))
      go (inl a) = inl a
      go (inr b) = inr (b.0, omega arith)

  pub settled_is : (o : outcomes.Outcome) → MeansOutcome values in_range P I o → Settled rule_part P I places (settles rule_part places o)
  unfolding MeansOutcome settles
  settled_is (out_of_range n) h =
      let e : n - 1 ≡ h.rule_before = omega (arith, h.from_one) in
      rw e (stops 8 (rule_part h.rule_before) (first h.rule_before 8 (leaves h.first_overflow.rule h.first_overflow.is_rule h.positions h.first_overflow.here) (lowest h.rule_before h.positions h.first_overflow)))
  settled_is (verdict v) h = goes tt (on (says places v)) (without none) (judged v h.means)
    where
      none : (i n : ℕ) → Leaves P I i n → ⊥
      none i n (leaves r e ps k) = h.in_range r (at_in P i r e) ps k
