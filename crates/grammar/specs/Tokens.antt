-- The tokens of the language.
use Rattle.std.specs.Prelude.{ℕ}
use Rattle.meaning.specs.Domain.{Comparison}
use Rattle.meaning.specs.Rules.{Bytes}

-- the sign of a comparison: one for each, and `<>` besides, which means `!=`
pub data Sign : Type 0 where
  sign : Comparison → Sign
  <> : Sign

-- _ not - ( ) , . :- + * |
pub data Symbol : Type 0 where
  underscore not minus opening closing comma dot :- plus times bar : Symbol

-- A name or a variable has its bytes, a string those between its quotes, a number its value: it is written in one way only.
-- A stray byte is one where no token starts; no tree has it.
pub data Token : Type 0 where
  name variable string : Bytes → Token
  number : ℕ → Token
  comparison : Sign → Token
  symbol : Symbol → Token
  stray : ℕ → Token
