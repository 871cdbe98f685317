-- What is made of a judgement: an answer by value.
use Rattle.std.specs.Prelude.{◌≡◌, false, List, ℕ, ◌+◌, ◌^◌, ◌≤◌, ◌<◌, min, length, get_or}
use Rattle.meaning.specs.Rules.{Bytes}
use Rattle.grammar.specs.Sizes.{most_literals}
use Rattle.rule_places.specs.Sentences.{sentence}
use Rattle.texts.specs.declared.refusal.Refusal.TheVariants as refusals
use Rattle.derived_set.specs.declared.Derived.{Derived}
use Rattle.judge.specs.declared.Judgement.{Judgement}
use Rattle.judge.specs.declared.Judgement.TheVariants.{OutOfRange, Unsatisfied, Accepted, Minimal, Smaller}
use Rattle.fields.specs.declared.answer.Text.TheVariants.{Program}
use Rattle.fields.specs.declared.answer.Answer.TheVariants as answers
use Rattle.fields.specs.declared.answer.Answer.{Answer}
use Rattle.fields.specs.Values.{of_fault}

-- the first n positions from 1, where they were from 0, and zeros behind them
pub record FromOne (n : ℕ) (ps qs : List ℕ) : Type 0 where
  pub room : length ps ≡ most_literals
  pub long : length qs ≡ most_literals
  pub each : (i : ℕ) → i < n → get_or qs i 0 ≡ get_or ps i 0 + 1
  pub behind : (i : ℕ) → n ≤ i → get_or qs i 0 ≡ 0

-- the rule and the positions of a broken instance have room for one more
abbrev pub Small : Judgement → Type 0
Small (OutOfRange rule) = Unit {0}
Small (Unsatisfied rule long positions) = (rule < 1_024) × ((i : ℕ) → i < long → i < most_literals → get_or positions i 0 < 1_024)
Small (Accepted rounds) = Unit {0}
Small Minimal = Unit {0}
Small (Smaller set) = Unit {0}

-- as many positions as a judgement has, and there is room for
abbrev pub positions_of : (long : ℕ) → ℕ
positions_of long = min long most_literals

-- by the kind of the judgement, beside n atoms
pub data Tells (text : Bytes) (n : ℕ) : Judgement → Answer → Type 0 where
  leaves_range : (rule : ℕ) → Tells text n (OutOfRange rule) (of_fault Program (record { refusal = refusals.OutOfRange; place = sentence false text rule }))
  is_broken : (rule long : ℕ) (positions ps : List ℕ) → FromOne (positions_of long) positions ps → Tells text n (Unsatisfied rule long positions) (answers.Unsatisfied (rule + 1) (positions_of long) ps)
  is_accepted : (rounds : ℕ) → Tells text n (Accepted rounds) (answers.Accepted n rounds)
  is_minimal : Tells text n Minimal (answers.Accepted n 0)
  is_smaller : (set : Derived) → length set.words ≡ 16 → ((k : ℕ) → get_or set.words k 0 < 2 ^ 64) → Tells text n (Smaller set) (answers.Smaller set)
