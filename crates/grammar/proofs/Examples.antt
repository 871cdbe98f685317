-- The worked examples hold: antt computes the machine's answers, and these are the readings.
use mathlib.Core.Path.{◌≡◌, refl}
use mathlib.Core.Bool.{false}
use mathlib.Core.List.{List, [], ◌∷◌, map}
use lib.ListN.{length}
use Prim.Native.Nat.{ℕ}
use Rattle.reading.specs.Reading.{tokens, Answer, tree, refused}
use Rattle.grammar.specs.Trees.{empty, Program}
use Rattle.grammar.specs.Spelling.{spell}
use Rattle.grammar.specs.PlainForm.{plain_form}
use Rattle.grammar.specs.Writing.{written}
use Rattle.reading.specs.Machine.{answer}
use Rattle.grammar.specs.Sizes.{language, programs}
use Rattle.grammar.specs.Machine.{machine}
use Rattle.grammar.specs.Example.{Outcome, Example, placed, outcome_of, Hold, PlainExample, PlainHold}
use Rattle.grammar.specs.HeadExamples.{head_examples, bar_examples}
use Rattle.grammar.specs.Examples.{argument_examples, literal_examples, word_examples, string_examples, number_examples, variable_examples, rule_examples, wrong_examples, rule_forms, examples, plain_examples}
use Rattle.grammar.proofs.Computing.{computing}
use Rattle.grammar.proofs.Theorems.{answer_is_reading}

answered : Example → Outcome
answered e = outcome_of (answer (language e.ground) (machine e.ground) (length e.text) (placed 0 e.text))

all_hold : (es : List Example) → map answered es ≡ map (λ e. e.outcome) es → Hold es
unfolding answered
all_hold [] h = tt
all_hold (e ∷ es) h = ((answer (language e.ground) (machine e.ground) (length e.text) (placed 0 e.text), answer_is_reading e.ground _ _, cc), all_hold es (cc))

pub examples_hold : Hold examples
unfolding examples argument_examples head_examples bar_examples literal_examples word_examples string_examples number_examples variable_examples rule_examples wrong_examples rule_forms answered outcome_of placed computing
examples_hold = all_hold examples refl

-- the tree that is read, where one is
the_tree : Answer ℕ (Program false) → Program false
the_tree (tree c) = c
the_tree (refused n k) = empty

read_tree : PlainExample → Program false
read_tree e = the_tree (answer programs (machine false) 0 (placed 0 e.text))

all_plain : (es : List PlainExample) → map (λ e. tokens (spell (read_tree e))) es ≡ map (λ e. e.text) es → map (λ e. written (tokens (spell (plain_form (read_tree e))))) es ≡ map (λ e. e.plain) es → PlainHold es
all_plain [] f g = tt
all_plain (e ∷ es) f g = ((read_tree e, cc, cc), all_plain es (cc) (cc))

pub plain_examples_hold : PlainHold plain_examples
unfolding plain_examples read_tree the_tree placed computing
plain_examples_hold = all_plain plain_examples refl refl
