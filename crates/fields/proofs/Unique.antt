-- Two answers by value to one call are equal, and leave the same places.
use mathlib.Core.Path.{◌≡◌, sym as inv, ◌∙◌}
use mathlib.Core.List.{List}
use Prim.Native.Nat.{ℕ}
use Rattle.meaning.specs.Rules.{Bytes}
use Rattle.promise.specs.Answer as paper
use Rattle.promise.specs.Answered.{Check}
use Rattle.promise.proofs.Unique.{answered_unique}
use Rattle.fields.specs.declared.answer.Answer.{Answer}
use Rattle.fields.specs.Answers.{Says}
use Rattle.fields.specs.Checked.{Answers}
use Rattle.fields.proofs.Whole.{same_answer}

-- no answer of the paper is said by two
pub says_unique : (a b : Answer) (x : paper.Answer) → Says a x → Says b x → a ≡ b
says_unique a b x s t = same_answer a b s.nothing_else t.nothing_else (s.says ∙ inv t.says)

-- the whole answer by value and the final places are determined
pub checked_unique : (the_program the_output : Bytes) (code : ℕ) (places : List ℕ) (a b : Answer) (x y : List ℕ) → Answers (Check the_program the_output code places) places a x → Answers (Check the_program the_output code places) places b y → (a ≡ b) × (x ≡ y)
checked_unique the_program the_output code places a b x y h k =
    let same = answered_unique the_program the_output places code _ _ x y h.gives k.gives in
    (says_unique a b k.answer (rw same.0 at h.says) k.says, same.1)
