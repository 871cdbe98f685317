-- Refusal 5: a token at which a variable of a rule first occurs that is not bound there.
use Rattle.std.specs.Prelude.{◌≡◌, true, cond, List, [], ◌∷◌, ◌++◌, ℕ, suc, length}
use Rattle.std.proofs.Math.Option.{some}
use Rattle.std.proofs.Math.ListN.{get_elem?}
use Rattle.texts.specs.declared.place.Place.{Place}
use Rattle.reading.specs.Reading.{Placed, unplaced, seen}
use Rattle.meaning.specs.Values.{Value}
use Rattle.meaning.specs.Rules.{Rule}
use Rattle.meaning.specs.Safety.{Bound}
use Rattle.grammar.specs.Tokens.{Token}
use Rattle.grammar.specs.Variables.{Variables}
use Rattle.grammar.specs.Sizes.{programs}
use Rattle.syntax.specs.Ahead.{ends_rule, is_first}

abbrev pub Tokens : Type 0
Tokens = List (Placed Place Token)

-- how many rules have ended among these tokens
unfoldable pub dots : Tokens → ℕ
dots [] = 0
dots (t ∷ ts) = cond (ends_rule t.token) (suc (dots ts)) (dots ts)

-- the variables of a rule that are met behind these tokens, each once
abbrev pub met_behind : Tokens → Variables
met_behind ts = seen programs [] (unplaced ts)

-- at token i of the tokens ts of these rules: a variable is met for the first time in its rule, and is not bound there; n is 5
pub record Unbound (rules : List (Rule Value)) (ts : Tokens) (i n : ℕ) : Type 0 where
  pub before : Tokens
  pub token : Placed Place Token
  pub after : Tokens
  pub here : before ++ token ∷ after ≡ ts
  pub position : length before ≡ i
  pub number : n ≡ 5
  pub first : is_first (met_behind before) token.token ≡ true
  pub rule : Rule Value
  pub its_rule : get_elem? rules (dots before) ≡ some rule
  pub unbound : ¬ Bound rule.body (length (met_behind before))
