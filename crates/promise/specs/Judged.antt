-- What is answered of a program and a candidate that are read, with room: refusal 8 at the first rule that leaves the range, else the verdict.
use Rattle.std.specs.Prelude.{List, ℕ, ◌-◌}
use Rattle.meaning.specs.Rules.{Fact, Rule}
use Rattle.meaning.specs.Values.{Value, values}
use Rattle.meaning.specs.Verdicts.{Verdict, Means}
use Rattle.meaning.specs.Outcomes as meant
use Rattle.stages.specs.Parts.{Part}
use Rattle.stages.specs.Stage.{Outcome, on, stop, Stage, ◌⟫◌, First}
use Rattle.promise.specs.Answer.{Result, says}
use Rattle.promise.specs.Cases.{Leaves}

-- a verdict that means what it says of the candidate
pub data VerdictStage (P : List (Rule Value)) (I : List (Fact Value)) (places : List ℕ) : Outcome Result → Type 0 where
  judged : (v : Verdict) → Means values P I v → VerdictStage P I places (on (says places v))

-- 8, with the rule's part; else the verdict
abbrev pub Settled : (ℕ → Part) → List (Rule Value) → List (Fact Value) → List ℕ → Stage Result
Settled rule_part P I places =
    First rule_part (Leaves P I) ⟫ λ _.
    VerdictStage P I places

-- the outcome of the meaning (`settled_is`): rules are numbered from 1 there
unfoldable pub settles : (ℕ → Part) → List ℕ → meant.Outcome → Outcome Result
settles rule_part places (meant.out_of_range n) = stop 8 (rule_part (n - 1))
settles rule_part places (meant.verdict v) = on (says places v)
