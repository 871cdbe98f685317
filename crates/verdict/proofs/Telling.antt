-- The ways through `verdict`, kind by kind.
use mathlib.Core.Path.{◌≡◌}
use mathlib.Core.Bool.{false}
use mathlib.Core.List.{List}
use Prim.Native.Nat.{ℕ, ◌+◌, ◌^◌, ◌<◌}
use lib.ListN.{length, get_or}
use Rattle.texts.specs.declared.place.Place.{Place}
use Rattle.texts.specs.declared.refusal.Refusal.TheVariants as refusals
use Rattle.meaning.specs.Rules.{Bytes}
use Rattle.rule_places.specs.Sentences.{sentence}
use Rattle.derived_set.specs.declared.Derived.{Derived}
use Rattle.judge.specs.declared.Judgement.{Judgement}
use Rattle.judge.specs.declared.Judgement.TheVariants.{OutOfRange, Unsatisfied, Accepted, Minimal, Smaller}
use Rattle.fields.specs.declared.answer.Text.TheVariants.{Program}
use Rattle.fields.specs.declared.answer.Answer.TheVariants as answers
use Rattle.fields.specs.declared.answer.Answer.{Answer}
use Rattle.fields.specs.Values.{of_fault}
use Rattle.verdict.specs.Told.{FromOne, positions_of, Tells, leaves_range, is_broken, is_accepted, is_minimal, is_smaller}

module _ (text : Bytes) (n : ℕ) (j : Judgement) where
  pub tells_range : (rule : ℕ) → j ≡ OutOfRange rule → (place : Place) → place ≡ sentence false text rule → (a : Answer) → a ≡ of_fault Program (record { refusal = refusals.OutOfRange; place = place }) → Tells text n j a
  tells_range rule k place e a f = rw (k, f, e) (leaves_range rule)

  pub tells_broken : (rule long : ℕ) (positions : List ℕ) → j ≡ Unsatisfied rule long positions → (count : ℕ) → count ≡ positions_of long → (ps : List ℕ) → FromOne count positions ps → Tells text n j (answers.Unsatisfied (rule + 1) count ps)
  tells_broken rule long positions k count e ps h = rw (k, e) (is_broken rule long positions ps (rw e at h))

  pub tells_accepted : (rounds : ℕ) → j ≡ Accepted rounds → Tells text n j (answers.Accepted n rounds)
  tells_accepted rounds k = rw k (is_accepted rounds)

  pub tells_minimal : j ≡ Minimal → Tells text n j (answers.Accepted n 0)
  tells_minimal k = rw k is_minimal

  pub tells_smaller : (set : Derived) → j ≡ Smaller set → length set.words ≡ 16 → ((i : ℕ) → get_or set.words i 0 < 2 ^ 64) → Tells text n j (answers.Smaller set)
  tells_smaller set k words bits = rw k (is_smaller set words bits)
