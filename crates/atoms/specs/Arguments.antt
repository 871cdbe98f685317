-- Arguments as numbers: what the function that reads them promises.
use Rattle.std.specs.Prelude.{◌≡◌, false, List, ℕ, ◌-◌, Result}
use Rattle.texts.specs.declared.refusal.Refused.{Refused}
use Rattle.texts.specs.Places.{places_in}
use Rattle.meaning.specs.Rules.{Bytes, Term}
use Rattle.meaning.specs.Values.{Value}
use Rattle.syntax.specs.declared.token.TokenRead.{TokenRead}
use Rattle.syntax.specs.Fills.{Fills}
use Rattle.syntax.specs.Arguments.{arguments_in}
use Rattle.rows.specs.Coding.{CodedTerms, Codes}
use Rattle.terms.specs.declared.cursor.Cursor.{Cursor}
use Rattle.terms.specs.Cursors.{met_before, ReadyToken}
use Rattle.atoms.specs.declared.arguments.ArgumentsRead.{ArgumentsRead}

-- what is asked where there is one at least: no closing parenthesis stands at the cursor
pub record ReadySome (program output text : Bytes) (names variables : List ℕ) (k : Cursor) (t : TokenRead) : Type 0 where
  pub ready : ReadyToken program output text names variables k t
  pub some_one : t.kind ≡ 6 → ⊥

-- the numbers stand for the terms, beside the table of names afterwards; what has been read began at a place
abbrev pub ArgumentsStand : Bytes → Bytes → List ℕ → ℕ → ArgumentsRead → List ℕ → List (Term Value) → Type 0
ArgumentsStand program output names at a names' ts = Codes program output names (a.behind.start - at) (λ ns. CodedTerms ns a.terms a.count ts) names'

abbrev pub ReadsArguments : Bytes → Bytes → Bytes → List ℕ → List ℕ → Cursor → Result ArgumentsRead Refused → List ℕ → List ℕ → Type 0
ReadsArguments program output text names variables k r names' variables' = Fills (arguments_in k.ground) false text k.at.start (met_before variables k) r (λ a. a.behind) (λ a. places_in variables' a.met) (λ a. ArgumentsStand program output names k.at.start a names')
