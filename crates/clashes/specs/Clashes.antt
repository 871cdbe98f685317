-- Facts that can't stand beside an earlier one: one repeats it, or differs from it in sign alone.
use Rattle.std.specs.Prelude.{Option, Some, None, ◌≡◌, Bool, true, false, not, cond, List, ℕ, ◌/◌, ◌%◌, ◌<◌, eqb}
use Rattle.meaning.specs.Rules.{Bytes, Atom}
use Rattle.meaning.specs.Instances.{same_fact}
use Rattle.codes.specs.Domains.{codes}
use Rattle.tables.specs.Rows.{fact_at}
use Rattle.clashes.specs.declared.Reason.{Reason}
use Rattle.clashes.specs.declared.Reason.TheVariants.{Repeated, Opposed}
use Rattle.clashes.specs.declared.Clashing.{Clashing}

-- an atom, or the same with the other sign
unfoldable pub turned : {X : Type 0} → Bool → Atom X → Atom X
turned true a = record { negative = not a.negative; name = a.name; arguments = a.arguments }
turned false a = a

-- fact j is fact k or, if opposed, fact k with the other sign
unfoldable pub alike : List Bytes → List ℕ → Bool → ℕ → ℕ → Bool
alike names facts opposed j k = same_fact (codes names) (turned opposed (fact_at facts j)) (fact_at facts k)

-- an earlier fact is alike
abbrev pub Earlier : List Bytes → List ℕ → Bool → ℕ → Type 0
Earlier names facts opposed k = (j : ℕ) × (j < k) × (alike names facts opposed j k ≡ true)

abbrev pub Repeats : List Bytes → List ℕ → ℕ → Type 0
Repeats names facts k = Earlier names facts false k

abbrev pub Opposes : List Bytes → List ℕ → ℕ → Type 0
Opposes names facts k = Earlier names facts true k

-- why fact k clashes, if it does: that it repeats an earlier one comes first
pub data Clash (names : List Bytes) (facts : List ℕ) (k : ℕ) : Option Reason → Type 0 where
  repeats : Repeats names facts k → Clash names facts k (Some Repeated)
  opposes : (Repeats names facts k → ⊥) → Opposes names facts k → Clash names facts k (Some Opposed)
  stands : (Repeats names facts k → ⊥) → (Opposes names facts k → ⊥) → Clash names facts k None

-- no fact before k does
abbrev pub Clear : List Bytes → List ℕ → ℕ → Type 0
Clear names facts k = (i : ℕ) → i < k → Clash names facts i None

-- the first fact that does
pub record First (names : List Bytes) (facts : List ℕ) (count : ℕ) (r : Clashing) : Type 0 where
  pub before : Clear names facts r.fact
  pub inside : r.fact < count
  pub here : Clash names facts r.fact (Some r.reason)

-- .. if one does
abbrev pub FirstClash : List Bytes → List ℕ → ℕ → Option Clashing → Type 0
FirstClash names facts count None = Clear names facts count
FirstClash names facts count (Some r) = First names facts count r

-- ---- for the code: what the numbers of two predicates say

-- one name and one arity, but not one sign
unfoldable pub differ_in_sign : ℕ → ℕ → Bool
differ_in_sign p q = cond (eqb (p / 18) (q / 18)) (cond (eqb (p % 9) (q % 9)) (not (eqb (p / 9 % 2) (q / 9 % 2))) false) false

unfoldable pub related : Bool → ℕ → ℕ → Bool
related opposed p q = cond opposed (differ_in_sign p q) (eqb p q)
