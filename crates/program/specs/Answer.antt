-- What `read_program` promises: a program's rules in the tables, or the refusal that the stage gives.
use Rattle.std.specs.Prelude.{◌≡◌, false, Option, Some, None, Result, Ok, Err, List, ℕ}
use Rattle.texts.specs.declared.place.Place.{Place}
use Rattle.texts.specs.declared.refusal.Refused.{Refused}
use Rattle.texts.specs.declared.refusal.Refusal.TheVariants.{Unbound}
use Rattle.texts.specs.Refusal.{number_of}
use Rattle.meaning.specs.Rules.{Bytes}
use Rattle.grammar.specs.Trees.{Program}
use Rattle.stages.specs.Parts.{Part}
use Rattle.stages.specs.Stage.{on, stop}
use Rattle.program.specs.Stage.{ProgramStage}
use Rattle.program.specs.Rules.{FillsRules}

-- at the end of the text: the first variable that is not bound, or how many rules there are
abbrev pub finished : Option Place → ℕ → Result ℕ Refused
finished None n = Ok n
finished (Some place) n = Err (record { refusal = Unbound; place = place })

-- a program of n rules, which are in the tables
pub record ProgramGoes (program output : Bytes) (names rules literals : List ℕ) (n : ℕ) (names' rules' literals' : List ℕ) : Type 0 where
  pub tree : Program false
  pub reads : ProgramStage program (on tree)
  pub filled : FillsRules program output names rules literals tree n names' rules' literals'

-- a refusal: its number and its place are those of the stage
pub record ProgramStops (program : Bytes) (e : Refused) : Type 0 where
  pub part : Part
  pub reads : ProgramStage program (stop (number_of e.refusal) part)
  pub place : e.place ≡ part.place

abbrev pub ReadsProgram : Bytes → Bytes → List ℕ → List ℕ → List ℕ → Result ℕ Refused → List ℕ → List ℕ → List ℕ → Type 0
ReadsProgram program output names rules literals (Ok n) names' rules' literals' = ProgramGoes program output names rules literals n names' rules' literals'
ReadsProgram program output names rules literals (Err e) names' rules' literals' = ProgramStops program e
