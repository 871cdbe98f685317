-- Sets of a rule's variables, the variables that a literal adds to one, and the rows of a body.
use Rattle.std.specs.Prelude.{◌≡◌, Bool, true, false, ◌||◌, List, [], ◌∷◌, ℕ, ◌+◌, ◌*◌, ◌≤◌, length, get_or, set, replicate}
use Rattle.meaning.specs.Rules.{Literal, Rule}
use Rattle.meaning.specs.Safety.{in_positives}
use Rattle.grammar.specs.Sizes.{most_variables}
use Rattle.tables.specs.Layout.{literal_stride}
use Rattle.tables.specs.Rows.{from, literal_at}
use Rattle.rulesafety.specs.declared.bound.Bound.{Bound}

-- the variables that a set holds, by their numbers
unfoldable pub bits_of : Bound → ℕ → Bool
bits_of b x = get_or b.bits x false

abbrev pub no_variables : Bound
no_variables = record { bits = replicate most_variables false }

-- with one variable more, for which there is room
abbrev pub with_variable : Bound → ℕ → Bound
with_variable b x = record { bits = set b.bits x true }

-- c is b, which has room for every variable, with the variables of S
pub record Adds (b c : Bound) (S : ℕ → Bool) : Type 0 where
  pub room : length c.bits ≡ most_variables
  pub bits : (x : ℕ) → bits_of c x ≡ (S x || bits_of b x)

-- the variables of the literal, if it is a positive atom
abbrev pub in_literal : Literal ℕ → ℕ → Bool
in_literal l = in_positives (l ∷ [])

-- ---- a body: `count` rows from `first` on

-- they lie in the table
abbrev pub BodyInside : List ℕ → ℕ → ℕ → Type 0
BodyInside literals first count = (first + count) * literal_stride ≤ length literals

-- the rule with this body; its heads do not matter here
abbrev pub body_at : List ℕ → ℕ → ℕ → Rule ℕ
body_at literals first count = record { heads = []; body = from (literal_at literals) count first }
