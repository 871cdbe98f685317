-- Reading a program: 1; then 2, 3 and 4; then 5; else its tree is handed on.
use Rattle.std.specs.Prelude.{false, ℕ, ◌<◌, length}
use Rattle.texts.specs.Sizes.{most_text}
use Rattle.reading.specs.Faults.{place_at}
use Rattle.meaning.specs.Rules.{Bytes}
use Rattle.grammar.specs.Trees.{Program}
use Rattle.grammar.specs.Sizes.{programs}
use Rattle.grammar.specs.Abstraction.{rules_for}
use Rattle.syntax.specs.Text.{placed_from, end_of}
use Rattle.stages.specs.Parts.{Part, program, in_text, start_of}
use Rattle.stages.specs.Stage.{on, Stage, ◌⟫◌, Is, Refuse, First, Reads}
use Rattle.program.specs.Unbound.{Tokens, Unbound}

-- the tokens of a program's text
abbrev pub tokens_of : Bytes → Tokens
tokens_of text = placed_from false text 0

-- the part of token i of a program's text
abbrev pub token_part : Bytes → ℕ → Part
token_part text i = in_text program (place_at (end_of text) (tokens_of text) i)

abbrev pub ProgramStage : Bytes → Stage (Program false)
ProgramStage text =
    Refuse 1 (start_of program) (most_text < length text) ⟫ λ _.
    Reads programs (in_text program) (end_of text) (tokens_of text) ⟫ λ c.
    First (token_part text) (Unbound (rules_for c) (tokens_of text)) ⟫ λ _.
    Is (on c)
