-- The rule and the positions of the first broken instance stand in the program and in the candidate, so there is room to count them from 1.
use mathlib.Core.Path.{◌≡◌, refl, sym}
use mathlib.Core.List.{List, [], ◌∷◌, map}
use Prim.Native.Nat.{ℕ, zero, suc, ◌<◌, ◌≤◌}
use native.Mathlib.Nat.{suc_inj}
use native.Mathlib.Decide.{dec_lt}
use native.Mathlib.Omega.{arith}
use lib.ListN.{length, get_or, take, length-take}
use lib.Seq.{get_or-take}
use Rattle.std.proofs.lemmas.List.{get_or_past}
use Rattle.meaning.specs.Rules.{Term, Atom, Fact, Rule}
use Rattle.meaning.specs.Values.{Value, values, in_range}
use Rattle.meaning.specs.Safety.{positives}
use Rattle.meaning.specs.Instances.{Substitution}
use Rattle.meaning.specs.Matchings.{Placed}
use Rattle.meaning.specs.Verdicts.{MeansUnsatisfied, MeansBy, Means}
use Rattle.meaning.specs.Outcomes.{MeansOutcome}
use Rattle.codes.proofs.Pairwise.{within}
use Rattle.judge.specs.declared.Judgement.{Judgement}
use Rattle.judge.specs.declared.Judgement.TheVariants.{OutOfRange, Unsatisfied, Accepted, Minimal, Smaller}
use Rattle.judge.specs.Judged.{said}
use Rattle.verdict.specs.Told.{Small}

-- facts at positions stand in the list
placed_below : (I : List (Fact Value)) (σ : Substitution Value) (ats : List (Atom (Term Value))) (ps : List ℕ) → Placed I σ ats ps → (i : ℕ) → i < length ps → get_or ps i 0 < length I
placed_below I σ [] [] h i l = absurd (omega arith)
placed_below I σ [] (p ∷ ps) h i l = absurd h
placed_below I σ (a ∷ ats) [] h i l = absurd h
placed_below I σ (a ∷ ats) (p ∷ ps) h zero l = within I p h.0
placed_below I σ (a ∷ ats) (p ∷ ps) h (suc i) l = placed_below I σ ats ps h.1 i (omega arith)

same_before : (ps qs : List ℕ) → map suc ps ≡ map suc qs → ps ≡ qs
same_before [] [] e = refl
same_before [] (q ∷ qs) e = absurd (let z : ◌≡◌ {A = ℕ} 0 1 = cc in omega arith)
same_before (p ∷ ps) [] e = absurd (let z : ◌≡◌ {A = ℕ} 0 1 = cc in omega arith)
same_before (p ∷ ps) (q ∷ qs) e =
    let first : suc p ≡ suc q = cc in
    let rest : map suc ps ≡ map suc qs = cc in
    let f : p ≡ q = suc_inj first in
    let r = same_before ps qs rest in
    cc (f, r)

module _ (P : List (Rule Value)) (I : List (Fact Value)) (rules : length P ≤ 1_024) (facts : length I ≤ 1_024) (n : ℕ) (new : List ℕ) where
  module _ (rule long : ℕ) (positions : List ℕ) (m : MeansUnsatisfied values P I (suc rule) (map suc (take long positions))) where
    rule_below : rule < 1_024
    rule_below = let l = within P m.rule_before m.first_broken.is_rule in omega (arith, l, m.from_one, rules)

    there : (i : ℕ) → i < long → i < length positions → get_or positions i 0 < 1_024
    there i l k =
        let ps : List ℕ = take long positions in
        let e : m.positions_before ≡ ps = same_before _ _ (sym m.all_from_one) in
        let inside : i < length ps = omega (arith, length-take long positions, l, k) in
        let b = placed_below I m.first_broken.here.substitution (positives m.first_broken.rule.body) ps (rw e at m.first_broken.here.placed) i inside in
        let t = get_or-take long positions i 0 l in
        omega (arith, b, t, facts)

    -- behind the list stands 0
    positions_below : (i : ℕ) → i < long → get_or positions i 0 < 1_024
    positions_below i l = elim (dec_lt i (length positions)) [ yes k ↦ there i l k | no k ↦ omega (arith, get_or_past positions i 0 (omega (arith, k))) ]

  pub small : (j : Judgement) → MeansOutcome values in_range P I (said j n new) → Small j
  unfolding said Means MeansBy MeansOutcome
  small (OutOfRange rule) h = tt
  small (Unsatisfied rule long positions) h = (rule_below rule long positions h.means, λ i l k. positions_below rule long positions h.means i l)
  small (Accepted rounds) h = tt
  small Minimal h = tt
  small (Smaller set) h = tt
