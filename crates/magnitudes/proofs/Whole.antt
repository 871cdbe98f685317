-- A whole rule: its bounds at the start, and its equations and literals put together.
use mathlib.Core.Path.{◌≡◌, ap, ◌∙◌}
use mathlib.Core.Bool.{false}
use mathlib.Core.List.{List, map}
use Prim.Native.Nat.{ℕ, ◌+◌, ◌-◌, ◌*◌, ◌≤◌}
use native.Mathlib.Omega.{arith}
use lib.ListN.{take, drop, replicate, get_or-replicate}
use Rattle.meaning.specs.Sets.{any}
use Rattle.meaning.specs.Rules.{Bytes}
use Rattle.meaning.specs.Safety.{equations}
use Rattle.meaning.specs.Matchings.{Values}
use Rattle.meaning.specs.Matcher.{complete}
use Rattle.meaning.specs.Quick.{literal_overflows}
use Rattle.codes.specs.Domains.{codes, code_in_range}
use Rattle.tables.specs.Layout.{first_literal_column, literals_column, equations_column}
use Rattle.tables.specs.Rows.{from, literal_at, equation_at, rule_column, rule_at}
use Rattle.tables.specs.WellFormed.{RuleRow}
use Rattle.tables.proofs.Strides.{part_is}
use Rattle.magnitudes.specs.Sizes.{greatest, Sized, Within, Modest, StaysInRange}

module _ (most : ℕ) where
  -- at the start each variable has the same bound
  abbrev pub start : List ℕ
  start = replicate 16 most

  pub start_modest : most ≤ greatest → Modest start
  start_modest h x k = rw (get_or-replicate 16 x most 0 k) h

  start_within : (ρ : Values ℕ) → Sized most ρ → Within start ρ
  start_within ρ s x v k e = rw (get_or-replicate 16 x most 0 k) (s x v e)

  module _ (rules literals : List ℕ) (r : ℕ) (row : RuleRow rules literals r) (bounds : List ℕ) where
    pub rule_stays
        : ((names : List Bytes) (ρ : Values ℕ) → Within start ρ → Within bounds (complete (codes names) (map (equation_at literals) (take (r * 40 + 7 + rule_column rules r equations_column - (r * 40 + 7)) (drop (r * 40 + 7) rules))) ρ))
        → ((names : List Bytes) (ρ : Values ℕ) → Within bounds ρ → any (literal_overflows (codes names) code_in_range ρ) (from (literal_at literals) (rule_column rules r first_literal_column + rule_column rules r literals_column - rule_column rules r first_literal_column) (rule_column rules r first_literal_column)) ≡ false)
        → StaysInRange (rule_at rules literals r) most
    unfolding rule_at
    rule_stays bounded stays names ρ s =
        let n : rule_column rules r first_literal_column + rule_column rules r literals_column - rule_column rules r first_literal_column ≡ rule_column rules r literals_column = omega arith in
        let stored : map (equation_at literals) (take (r * 40 + 7 + rule_column rules r equations_column - (r * 40 + 7)) (drop (r * 40 + 7) rules)) ≡ equations (rule_at rules literals r) = ap (map (equation_at literals)) (part_is (r * 40 + 7) (rule_column rules r equations_column) rules) ∙ row.equations_stored in
        let within : Within bounds (complete (codes names) (equations (rule_at rules literals r)) ρ) = rw stored at (bounded names ρ (start_within ρ s)) in
        rw n at (stays names (complete (codes names) (equations (rule_at rules literals r)) ρ) within)
