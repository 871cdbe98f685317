-- What a worked example is: a list of tokens with what it is read as, or with its plain form.
use Rattle.std.specs.Prelude.{◌≡◌, Bool, false, List, [], ◌∷◌, ℕ, suc, length}
use Rattle.reading.specs.Reading.{Placed, tokens, Answer, tree, refused, Reading}
use Rattle.meaning.specs.Values.{Value}
use Rattle.meaning.specs.Rules.{Bytes, Rule}
use Rattle.grammar.specs.Tokens.{Token}
use Rattle.grammar.specs.Trees.{Program}
use Rattle.grammar.specs.Spelling.{spell}
use Rattle.grammar.specs.Sizes.{language}
use Rattle.grammar.specs.Abstraction.{rules_for}
use Rattle.grammar.specs.PlainForm.{plain_form}
use Rattle.grammar.specs.Writing.{written}

-- the rules that are read, or the number of refusal and the position of its token
pub data Outcome : Type 0 where
  reads : List (Rule Value) → Outcome
  refuses : ℕ → ℕ → Outcome

pub record Example : Type 0 where
  pub ground : Bool
  pub text : List Token
  pub outcome : Outcome

-- a token's place is its position
unfoldable pub placed : ℕ → List Token → List (Placed ℕ Token)
placed k [] = []
placed k (t ∷ ts) = record { token = t; place = k } ∷ placed (suc k) ts

unfoldable pub outcome_of : {ground : Bool} → Answer ℕ (Program ground) → Outcome
outcome_of (tree c) = reads (rules_for c)
outcome_of (refused n k) = refuses n k

abbrev pub Holds : Example → Type 0
Holds e = (a : Answer ℕ (Program e.ground)) × Reading (language e.ground) (length e.text) (placed 0 e.text) a × (outcome_of a ≡ e.outcome)

abbrev pub Hold : List Example → Type 0
Hold [] = Unit {0}
Hold (e ∷ es) = Holds e × Hold es

-- a program, and the bytes of its plain form
pub record PlainExample : Type 0 where
  pub text : List Token
  pub plain : Bytes

abbrev pub PlainHolds : PlainExample → Type 0
PlainHolds e = (c : Program false) × (tokens (spell c) ≡ e.text) × (written (tokens (spell (plain_form c))) ≡ e.plain)

abbrev pub PlainHold : List PlainExample → Type 0
PlainHold [] = Unit {0}
PlainHold (e ∷ es) = PlainHolds e × PlainHold es
