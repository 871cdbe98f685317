-- Literals and rules passed one by one, none of which asks which of two values comes first.
use mathlib.Core.Path.{◌≡◌}
use mathlib.Core.List.{List}
use Prim.Native.Nat.{ℕ, ◌+◌, ◌≤◌, ◌<◌}
use native.Mathlib.Omega.{arith}
use native.Mathlib.Decide.{dec_lt}
use Rattle.tables.specs.Layout.{comparison_column, first_literal_column, literals_column}
use Rattle.tables.specs.Rows.{literal_column, rule_column}
use Rattle.store.specs.Store.{literals_in, rules_in}
use Rattle.matchings.specs.Tables.{InBody}
use Rattle.orders.specs.Orders.{Plain, PlainRule}

module _ (store : List ℕ) where
  pub plain_more : (first l k : ℕ) → k ≡ literal_column (literals_in store) l comparison_column → k < 2 → Plain store first l → Plain store first (l + 1)
  plain_more first l k is low p = record { each = λ m a b. at m a b (dec_lt m l) }
    where
      at : (m : ℕ) → first ≤ m → m < l + 1 → Dec (m < l) → literal_column (literals_in store) m comparison_column ≤ 1
      at m a b (yes h) = p.each m a h
      at m a b (no h) = let same : m ≡ l = omega arith in rw same (omega (arith, is))

  pub rules_more : (r first size : ℕ) → first ≡ rule_column (rules_in store) r first_literal_column → size ≡ rule_column (rules_in store) r literals_column → PlainRule store r → Plain store first (first + size) → PlainRule store (r + 1)
  rules_more r first size e f before here = record { each = λ q l a b. at q l a b (dec_lt q r) }
    where
      at : (q l : ℕ) → q < r + 1 → InBody store q l → Dec (q < r) → literal_column (literals_in store) l comparison_column ≤ 1
      at q l a b (yes k) = before.each q l k b
      at q l a b (no k) =
          let same : q ≡ r = omega arith in
          let body : InBody store r l = rw same at b in
          here.each l (omega (arith, body.from_first, e)) (omega (arith, body.to_last, e, f))
