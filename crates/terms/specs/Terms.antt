-- Terms as numbers: what the functions that read them promise.
use Rattle.std.specs.Prelude.{◌≡◌, Bool, false, cond, List, ℕ, ◌-◌, ◌≤◌, leb, length, IfOk, Result, Ok, Err}
use Rattle.texts.specs.declared.place.Place.{Place}
use Rattle.texts.specs.declared.refusal.Refusal.TheVariants.{LargeNumber, OverSize}
use Rattle.texts.specs.declared.refusal.Refused.{Refused}
use Rattle.lexis.specs.Number.{capped, decimal}
use Rattle.texts.specs.Place.{past}
use Rattle.texts.specs.Places.{places_in, Storable}
use Rattle.texts.specs.Parts.{part}
use Rattle.meaning.specs.Rules.{Bytes, Term}
use Rattle.meaning.specs.Values.{Value}
use Rattle.grammar.specs.Sizes.{greatest_number, most_variables}
use Rattle.codes.specs.Codes.{number_code}
use Rattle.syntax.specs.declared.token.TokenRead.{TokenRead}
use Rattle.syntax.specs.Text.{token_read}
use Rattle.syntax.specs.Variables.{Fits}
use Rattle.syntax.specs.Fills.{Fills}
use Rattle.syntax.specs.Terms.{term_in, negative_in, signed}
use Rattle.rows.specs.Coding.{CodedTerm, Codes}
use Rattle.terms.specs.declared.cursor.Cursor.{Cursor}
use Rattle.terms.specs.declared.term.TermRead.{TermRead}
use Rattle.terms.specs.Cursors.{variables_size, ReadyCursor, ReadyToken, met_before}

-- the term's number, beside the table of names afterwards
abbrev pub ReadsTerm : Bytes → Bytes → Bytes → List ℕ → List ℕ → Cursor → Result TermRead Refused → List ℕ → List ℕ → Type 0
ReadsTerm program output text names variables k r names' variables' = Fills (term_in k.ground k.over) k.over text k.at.start (met_before variables k) r (λ t. t.behind) (λ t. places_in variables' t.met) (λ t (x : Term Value). Codes program output names (t.behind.start - k.at.start) (λ ns. CodedTerm ns t.number x) names')

-- ---- a name, or a string

-- what is asked: the cursor stands at one of the kind, beside some table of variables
pub record ReadyConstant (kind : ℕ) (program output text : Bytes) (names : List ℕ) (k : Cursor) (t : TokenRead) : Type 0 where
  pub variables : List ℕ
  pub ready : ReadyToken program output text names variables k t
  pub is_kind : t.kind ≡ kind

-- whatever variables have been met, they stay as they are
abbrev pub ReadsConstant : Bytes → Bytes → Bytes → List ℕ → Cursor → Result TermRead Refused → List ℕ → Type 0
ReadsConstant program output text names k r names' = (variables : List ℕ) → ReadyCursor program output text names variables k → ReadsTerm program output text names variables k r names' variables

-- ---- a number

-- the number of a term that is no name and no string stands for it beside any names
abbrev pub Nameless : ℕ → Term Value → Type 0
Nameless number t = (names : List Bytes) → CodedTerm names number t

-- behind a minus: whatever variables have been met
pub record ReadsNegative (ground : Bool) (text : Bytes) (at met : ℕ) (r : Result TermRead Refused) : Type 0 where
  pub same_met : IfOk r (λ t. t.met ≡ met)
  pub reads : (v : List Place) → Fits v → Fills (negative_in ground) false text at v r (λ t. t.behind) (λ t. v) (λ t. Nameless t.number)

-- ---- a variable

-- what is asked: a place that fits the table, and room for the variable
pub record Puttable (variables : List ℕ) (t : TokenRead) (met : ℕ) : Type 0 where
  pub few : met ≤ most_variables
  pub long : variables_size ≤ length variables
  pub fits : Storable t.place

-- a term that is no name and no string, and so leaves the names as they are
abbrev pub ReadsNameless : Bool → Bool → Bytes → ℕ → List ℕ → ℕ → Result TermRead Refused → List ℕ → Type 0
ReadsNameless ground over text at variables met r variables' = Fills (term_in ground over) over text at (places_in variables met) r (λ t. t.behind) (λ t. places_in variables' t.met) (λ t. Nameless t.number)

-- in a program, wherever its token stands
abbrev pub ReadsVariable : Bytes → List ℕ → TokenRead → Bool → ℕ → Result TermRead Refused → List ℕ → Type 0
ReadsVariable text variables t over met r variables' = (at : ℕ) → t ≡ token_read false text at → t.kind ≡ 2 → ReadsNameless false over text at variables met r variables'

abbrev pub ReadsAnonymous : List ℕ → TokenRead → Bool → ℕ → Result TermRead Refused → List ℕ → Type 0
ReadsAnonymous variables t over met r variables' = (text : Bytes) (at : ℕ) → t ≡ token_read false text at → t.kind ≡ 3 → ReadsNameless false over text at variables met r variables'

-- ---- any term that is no name, no number and no string

-- what is asked: the cursor stands at its first token, whose place fits the variables' table
pub record ReadyNameless (text : Bytes) (variables : List ℕ) (k : Cursor) (t : TokenRead) : Type 0 where
  pub puttable : Puttable variables t k.met
  pub is_token : t ≡ token_read k.ground text k.at.start
  pub no_name : t.kind ≡ 0 → ⊥
  pub no_string : t.kind ≡ 22 → ⊥
  pub no_number : t.kind ≡ 4 → ⊥

-- ---- what the parts of it answer

-- a number's code; it is refused where it is over its size, and else where it is one too many
unfoldable pub number_term : Bytes → TokenRead → Bool → Bool → ℕ → Result TermRead Refused
number_term text t negative over met =
    let n = capped (decimal (part text t.place)) in
    cond (leb n greatest_number) (cond over (Err (record { refusal = OverSize; place = t.place })) (Ok (record { number = number_code (signed negative n); behind = past t.place; met = met }))) (Err (record { refusal = LargeNumber; place = t.place }))
