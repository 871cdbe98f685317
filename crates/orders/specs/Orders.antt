-- Rules none of whose literals asks which of two values comes first.
use Rattle.std.specs.Prelude.{◌≡◌, List, ℕ, ◌+◌, ◌≤◌, ◌<◌, length}
use Rattle.tables.specs.Layout.{comparison_column, first_literal_column, literals_column}
use Rattle.tables.specs.Rows.{literal_column, rule_column}
use Rattle.store.specs.Store.{store_size, rule_room, literal_room, literals_in, rules_in}
use Rattle.matchings.specs.Tables.{InBody}

-- the literals from `first` up to `end` compare by `=` and `!=` alone
pub record Plain (store : List ℕ) (first end : ℕ) : Type 0 where
  pub each : (l : ℕ) → first ≤ l → l < end → literal_column (literals_in store) l comparison_column ≤ 1

pub record PlainRule (store : List ℕ) (total : ℕ) : Type 0 where
  pub each : (r l : ℕ) → r < total → InBody store r l → literal_column (literals_in store) l comparison_column ≤ 1

-- the bodies of so many rules lie in the store
pub record RulesInside (store : List ℕ) (total : ℕ) : Type 0 where
  pub long : length store ≡ store_size
  pub few : total ≤ rule_room
  pub body : (r : ℕ) → r < total → rule_column (rules_in store) r first_literal_column + rule_column (rules_in store) r literals_column ≤ literal_room
