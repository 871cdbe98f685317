-- Bodies as rows: what the function that reads one promises.
use Rattle.std.specs.Prelude.{◌≡◌, false, List, ◌++◌, ℕ, suc, ◌+◌, ◌-◌, ◌*◌, ◌≤◌, length, Result, Ok, Err}
use Rattle.std.proofs.Math.Option.{Option, some}
use Rattle.texts.specs.Place.{Stands}
use Rattle.texts.specs.declared.refusal.Refused.{Refused}
use Rattle.texts.specs.Refusal.{number_of}
use Rattle.texts.specs.Places.{places_in}
use Rattle.reading.specs.Reading.{refused}
use Rattle.meaning.specs.Rules.{Bytes}
use Rattle.grammar.specs.Trees.{Sequence, ◌then◌, count, Literal as LiteralTree, Heads, clause, Program}
use Rattle.grammar.specs.Spelling.{with_commas, spell_nth_literal}
use Rattle.grammar.specs.Variables.{met}
use Rattle.grammar.specs.Abstraction.{literals_for}
use Rattle.grammar.specs.States.{literal_in, atom_wanted}
use Rattle.grammar.specs.Machine.{new_body}
use Rattle.grammar.specs.Sizes.{most_literals}
use Rattle.tables.specs.Layout.{literal_stride}
use Rattle.tables.specs.Stored.{Kept}
use Rattle.tables.specs.Coded.{BodyCoded}
use Rattle.syntax.specs.Text.{placed_from}
use Rattle.syntax.specs.Variables.{variables_of, Fits}
use Rattle.syntax.specs.Ahead.{wants, firsts, behind_dot, from}
use Rattle.syntax.specs.Rules.{behind_rules}
use Rattle.rows.specs.Coding.{Codes}
use Rattle.terms.specs.declared.cursor.Cursor.{Cursor}
use Rattle.terms.specs.Cursors.{met_before}
use Rattle.literals.specs.Builtins.{ReadyBehind}
use Rattle.clauses.specs.declared.body.BodyRead.{BodyRead}

-- what is asked: a cursor in a program, and room for the rows of a body
pub record ReadyBody (program output : Bytes) (names variables literals : List ℕ) (k : Cursor) (first : ℕ) : Type 0 where
  pub ready : ReadyBehind program output names variables k
  pub long : (first + most_literals) * literal_stride ≤ length literals

-- the literals that were read, and their rows from `first` on
pub record Body (program output : Bytes) (names variables literals : List ℕ) (k : Cursor) (first : ℕ) (r : BodyRead) (names' variables' literals' : List ℕ) : Type 0 where
  pub forward : k.at.start ≤ r.behind.start
  pub placed : Stands program r.behind
  pub fits : Fits (places_in variables' r.met)
  pub before : Sequence (LiteralTree false)
  pub final : LiteralTree false
  pub size : r.count ≡ suc (count before)
  pub few : r.count ≤ most_literals
  pub kept : Kept (first * literal_stride) ((first + most_literals) * literal_stride) literals literals'
  pub stands : Codes program output names (r.behind.start - k.at.start) (λ ns. BodyCoded ns literals' first (literals_for (variables_of program (met_before variables k)) (before then final))) names'
  pub variables_met : met (variables_of program (met_before variables k)) (with_commas spell_nth_literal (before then final)) ≡ variables_of program (places_in variables' r.met)
  pub walks : (p : Program false) (h : Option (Heads false)) → (from false program (wants (atom_wanted (literal_in (new_body tt p h)))) (met_before variables k) k.at.start).answer ≡ behind_rules false program (p then clause tt h before final) r.behind.start
  pub firsts : met_before variables k ++ firsts (variables_of program (met_before variables k)) (placed_from false program k.at.start) ≡ places_in variables' r.met
  pub rest : behind_dot (placed_from false program k.at.start) ≡ some (placed_from false program r.behind.start)

-- whatever stands before the body, it is refused
pub record BodyStops (program : Bytes) (variables : List ℕ) (k : Cursor) (e : Refused) : Type 0 where
  pub refuses : 2 ≤ number_of e.refusal
  pub answer : (p : Program false) (h : Option (Heads false)) → (from false program (wants (atom_wanted (literal_in (new_body tt p h)))) (met_before variables k) k.at.start).answer ≡ refused (number_of e.refusal) e.place

-- a body, or a refusal
abbrev pub FillsBody : Bytes → Bytes → List ℕ → List ℕ → List ℕ → Cursor → ℕ → Result BodyRead Refused → List ℕ → List ℕ → List ℕ → Type 0
FillsBody program output names variables literals k first (Ok a) names' variables' literals' = Body program output names variables literals k first a names' variables' literals'
FillsBody program output names variables literals k first (Err e) names' variables' literals' = BodyStops program variables k e
