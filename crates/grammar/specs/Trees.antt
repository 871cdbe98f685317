-- The language as trees, production by production, with one form for each way to write a thing.
-- One grammar serves a program (`ground` is false) and the solver's facts line (`ground` is true): what only a program may
-- have takes an argument of the type Free, which a facts line can't give. So the trees of a facts line are the lists of ground facts.
use Rattle.std.specs.Prelude.{Bool, true, false, ℕ, suc}
use Rattle.std.proofs.Math.Option.{Option}
use Rattle.meaning.specs.Domain.{Operation}
use Rattle.meaning.specs.Rules.{Bytes}
use Rattle.grammar.specs.Tokens.{Sign}

abbrev pub Free : Bool → Type 0
Free true = ⊥
Free false = Unit {0}

-- things one after the other: none, or some and one more behind them
infixl 60 ◌then◌
pub data Sequence (A : Type 0) : Type 0 where
  empty : Sequence A
  ◌then◌ : Sequence A → A → Sequence A

unfoldable pub count : {A : Type 0} → Sequence A → ℕ
count empty = 0
count (xs then x) = suc (count xs)

-- a name, a variable, a string, a number, a number behind a minus, `_`
pub data Term (ground : Bool) : Type 0 where
  name : Bytes → Term ground
  variable : Free ground → Bytes → Term ground
  string : Bytes → Term ground
  number negative : ℕ → Term ground
  anonymous : Free ground → Term ground

-- nothing, `()`, or arguments in parentheses: those before the last, and the last
pub data Arguments (ground : Bool) : Type 0 where
  bare parentheses : Arguments ground
  arguments : Sequence (Term ground) → Term ground → Arguments ground

-- a classical atom: with a minus or not, a name, perhaps arguments
pub data Atom (ground : Bool) : Type 0 where
  atom : Bool → Bytes → Arguments ground → Atom ground

-- an atom, `not` and an atom, or a built-in atom: t rel u, t rel u op v
pub data Literal (ground : Bool) : Type 0 where
  positive negated : Atom ground → Literal ground
  compared : Term ground → Sign → Term ground → Literal ground
  computed : Term ground → Sign → Term ground → Operation → Term ground → Literal ground

-- one head, or heads, `|` and one more; on a facts line there is one
pub data Heads (ground : Bool) : Type 0 where
  head : Atom ground → Heads ground
  also : Free ground → Heads ground → Atom ground → Heads ground

unfoldable pub head_count : {ground : Bool} → Heads ground → ℕ
head_count (head x) = 1
head_count (also u hs x) = suc (head_count hs)

-- heads and a dot; or perhaps heads, `:-`, the literals before the last, the last, and a dot
pub data Rule (ground : Bool) : Type 0 where
  fact : Heads ground → Rule ground
  clause : Free ground → Option (Heads ground) → Sequence (Literal ground) → Literal ground → Rule ground

abbrev pub Program : Bool → Type 0
Program ground = Sequence (Rule ground)
