-- Rules: where they stand.
use Rattle.std.specs.Prelude.{◌≡◌, Bool, [], ℕ, suc}
use Rattle.texts.specs.declared.place.Place.{Place}
use Rattle.reading.specs.Reading.{Answer}
use Rattle.reading.specs.Machine.{walk}
use Rattle.meaning.specs.Rules.{Bytes}
use Rattle.grammar.specs.Trees.{count, Program}
use Rattle.grammar.specs.Spelling.{rule}
use Rattle.grammar.specs.Sizes.{too_many, language}
use Rattle.grammar.specs.States.{head_behind, atom_wanted}
use Rattle.grammar.specs.Machine.{machine}
use Rattle.syntax.specs.Text.{placed_from, end_of}

-- the answer of the grammar's machine behind these rules, from a place of the text
abbrev pub behind_rules : (ground : Bool) → Bytes → Program ground → ℕ → Answer Place (Program ground)
behind_rules ground text p at = walk (language ground) (machine ground) (atom_wanted (head_behind p)) [] (end_of text) (placed_from ground text at)

-- behind rules, of which one more is one too many, or not
pub record RulePlace (ground over : Bool) : Type 0 where
  pub rules : Program ground
  pub size : too_many ground (rule (suc (count rules))) ≡ over
