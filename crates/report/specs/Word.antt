-- The words that a report starts with, and the solver's code that goes with each.
use Rattle.std.specs.Prelude.{ℕ, ◌≡◌, Bool, true, false, ◌&&◌, List, [], ◌∷◌, eqb}
use Rattle.report.specs.declared.word.Word.{Word}
use Rattle.report.specs.declared.word.Word.TheVariants.{Answer, Inconsistent, Unknown}

-- the bytes of ANSWER, INCONSISTENT and UNKNOWN
abbrev pub spelling : Word → List ℕ
spelling Answer = 65 ∷ 78 ∷ 83 ∷ 87 ∷ 69 ∷ 82 ∷ []
spelling Inconsistent = 73 ∷ 78 ∷ 67 ∷ 79 ∷ 78 ∷ 83 ∷ 73 ∷ 83 ∷ 84 ∷ 69 ∷ 78 ∷ 84 ∷ []
spelling Unknown = 85 ∷ 78 ∷ 75 ∷ 78 ∷ 79 ∷ 87 ∷ 78 ∷ []

-- the bytes start with those of a word, and anything may follow (`starts_with_lem`)
unfoldable pub starts_with : List ℕ → List ℕ → Bool
starts_with [] bytes = true
starts_with (w ∷ word) [] = false
starts_with (w ∷ word) (b ∷ bytes) = eqb b w && starts_with word bytes

-- the code that the solver ends with when it reports the word
abbrev pub code_with : Word → ℕ
code_with Answer = 10
code_with Inconsistent = 20
code_with Unknown = 1

abbrev pub GoesWith : Word → ℕ → Type 0
GoesWith word code = code ≡ code_with word

abbrev pub agrees : Word → ℕ → Bool
agrees word code = eqb code (code_with word)
