-- The two languages, of programs and of facts lines, are read exactly: what holds of every list of tokens and of every tree.
use mathlib.Core.Path.{◌≡◌, refl}
use mathlib.Core.Bool.{Bool, true, false}
use mathlib.Core.List.{List}
use Prim.Native.Nat.{ℕ}
use native.Mathlib.Omega.{arith}
use Rattle.reading.specs.Reading.{Marked, Placed, tokens, unplaced, Answer, refused, Reading}
use Rattle.reading.specs.Faults.{place_at, Leftmost, FirstWrong}
use Rattle.reading.specs.Machine.{answer, Lawful}
use Rattle.reading.proofs.Theorems
use Rattle.grammar.specs.Tokens.{Token}
use Rattle.grammar.specs.Trees.{Program}
use Rattle.grammar.specs.Spelling.{Mark, spell}
use Rattle.grammar.specs.Variables.{Variables}
use Rattle.grammar.specs.Sizes.{refusal, fault, language}
use Rattle.grammar.specs.States.{atom_wanted, head_behind}
use Rattle.grammar.specs.Machine.{finished, finished_atom, machine}
use Rattle.grammar.proofs.Sound.{before_atom, spelled, step_adds}
use Rattle.grammar.proofs.Begins.{begins, finish}
use Rattle.grammar.proofs.Complete.{complete}

refusal_not_2 : (a b : Bool) → refusal a b ≡ 2 → ⊥
unfolding refusal
refusal_not_2 true true h = omega arith
refusal_not_2 true false h = omega arith
refusal_not_2 false true h = omega arith
refusal_not_2 false false h = omega arith

fault_not_2 : (ground : Bool) (vs : Variables) (p : Marked Token Mark) → fault ground vs p ≡ 2 → ⊥
unfolding fault
fault_not_2 ground vs p h = refusal_not_2 _ _ h

-- ---- the statements

-- the machine is lawful
pub lawful : (ground : Bool) → Lawful (language ground) (machine ground)
unfolding spelled before_atom spell finished finished_atom
lawful ground = record { spelled = spelled; nothing = refl; adds = step_adds; begins = begins; finish = finish; whole = λ p. atom_wanted (head_behind p); complete = complete; whole_finished = λ p. refl }

module _ (ground : Bool) where
  -- two trees with the same tokens are equal
  pub tree_unique : (c d : Program ground) → tokens (spell c) ≡ tokens (spell d) → c ≡ d
  tree_unique c d e = Theorems.tree_unique (language ground) (machine ground) (lawful ground) c d e

  module _ {P : Type 0} (end : P) (ts : List (Placed P Token)) where
    -- the machine's answer is the reading
    pub answer_is_reading : Reading (language ground) end ts (answer (language ground) (machine ground) end ts)
    answer_is_reading = Theorems.answer_is_reading (language ground) (machine ground) (lawful ground) end ts

    pub reading_is_answer : (a : Answer P (Program ground)) → Reading (language ground) end ts a → answer (language ground) (machine ground) end ts ≡ a
    reading_is_answer a h = Theorems.reading_is_answer (language ground) (machine ground) (lawful ground) end ts a h

    -- each list of tokens has exactly one reading
    pub each_one_reading : (a : Answer P (Program ground)) × Reading (language ground) end ts a × ((b : Answer P (Program ground)) → Reading (language ground) end ts b → a ≡ b)
    each_one_reading = Theorems.each_one_reading (language ground) (machine ground) (lawful ground) end ts

    pub one_reading : (a b : Answer P (Program ground)) → Reading (language ground) end ts a → Reading (language ground) end ts b → a ≡ b
    one_reading a b f g = Theorems.one_reading (language ground) (machine ground) (lawful ground) end ts a b f g

    -- a refusal stands at the leftmost fault, or at the end
    pub leftmost : (n : ℕ) (q : P) → Reading (language ground) end ts (refused n q) → Leftmost (language ground) end ts q
    leftmost n q h = Theorems.leftmost (language ground) (machine ground) (lawful ground) end ts (refused n q) n q h refl

    -- refusal 2 stands at the first token that no tree can have there, or at the end of what is no tree
    pub two_first : (q : P) → Reading (language ground) end ts (refused 2 q) → (k : ℕ) × (place_at end ts k ≡ q) × FirstWrong (language ground) (unplaced ts) k
    two_first q h = Theorems.two_first (language ground) (machine ground) (lawful ground) end (fault_not_2 ground) ts (refused 2 q) q h refl
