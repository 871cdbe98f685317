-- A rule's operations leave the range at values that its equations complete.
use mathlib.Core.Path.{◌≡◌, sym, ap, ◌∙◌}
use mathlib.Core.Bool.{Bool, true, false}
use mathlib.Core.List.{List, map}
use Prim.Native.Nat.{ℕ, ◌+◌, ◌-◌, ◌≤◌, ◌<◌}
use native.Mathlib.Omega.{arith}
use lib.ListN.{length}
use Rattle.meaning.specs.Sets.{any}
use Rattle.meaning.specs.Rules.{Bytes, Rule, Literal}
use Rattle.meaning.specs.Safety.{in_positives, scan, equations}
use Rattle.meaning.specs.Matchings.{Values}
use Rattle.meaning.specs.Matcher.{complete}
use Rattle.meaning.specs.Quick.{literal_overflows}
use Rattle.meaning.proofs.Safety.{scan_induction}
use Rattle.codes.specs.Domains.{codes, code_in_range}
use Rattle.tables.specs.Layout.{first_literal_column, literals_column, has_operation_column}
use Rattle.tables.specs.Rows.{from, rule_column, literal_at, equation_at, equation_places, rule_at}
use Rattle.tables.specs.WellFormed.{BodyRow, RuleRow}
use Rattle.derived_set.specs.Members.{bit}
use Rattle.store.specs.Store.{store_size, literal_room, literals_in, rules_in}
use Rattle.store.proofs.Parts.{literals_long}
use Rattle.matching.specs.Known.{values_in}
use Rattle.matching.proofs.Masks.{kept_all}
use Rattle.overflow.specs.Leaving.{Equations, Fresh, Completes, LeavesRange}
use Rattle.overflow.proofs.Operations.{none_leaves}
use Rattle.overflow.proofs.Completing.{fresh_less}

-- the equations that bind, bind variables that stand in no positive literal, each another
scan_fresh : (ls : List (Literal ℕ)) (n : ℕ) (B : ℕ → Bool) → Fresh B (scan n B ls)
unfolding Fresh
scan_fresh ls = scan_induction ls (λ B qs. Fresh B qs) (λ B. tt) (λ B q qs g rest. (g.fresh, rest))

pub binding : (store : List ℕ) (r : ℕ) → RuleRow (rules_in store) (literals_in store) r → Equations store r
binding store r row = record { few = row.few_equations; row = row.equation }

pub body_rows : (store : List ℕ) (r : ℕ) → RuleRow (rules_in store) (literals_in store) r → (first size : ℕ) → first ≡ rule_column (rules_in store) r first_literal_column → size ≡ rule_column (rules_in store) r literals_column → (l : ℕ) → first ≤ l → l < first + size → BodyRow (literals_in store) l
body_rows store r row first size e f l p q = row.body l (rw e at p) (rw (e, f) at q)

pub body_end : (store : List ℕ) (r : ℕ) → length store ≡ store_size → RuleRow (rules_in store) (literals_in store) r → (first size : ℕ) → first ≡ rule_column (rules_in store) r first_literal_column → size ≡ rule_column (rules_in store) r literals_column → first + size ≤ literal_room
body_end store r long row first size e f = omega (arith, row.within, literals_long store long, e, f)

module _ (store : List ℕ) (r bound : ℕ) (values : List ℕ) (row : RuleRow (rules_in store) (literals_in store) r) where
  abbrev rule : Rule ℕ
  rule = rule_at (rules_in store) (literals_in store) r

  pub no_operation_leaves : (n : ℕ) → n ≡ rule_column (rules_in store) r has_operation_column → n ≡ 0 → LeavesRange store r bound values false values
  no_operation_leaves n e z = record { kept = kept_all bound values; is = λ p names. sym (none_leaves (codes names) code_in_range (complete (codes names) (equations rule) (values_in bound values)) rule.body (row.no_operation (sym e ∙ z))) }

  pub operations_leave : (more : ℕ) (after : List ℕ) → Completes (map (equation_at (literals_in store)) (equation_places (rules_in store) r)) bound values more after → (first size : ℕ) → first ≡ rule_column (rules_in store) r first_literal_column → size ≡ rule_column (rules_in store) r literals_column → (b : Bool)
      → ((names : List Bytes) → b ≡ any (literal_overflows (codes names) code_in_range (values_in more after)) (from (literal_at (literals_in store)) (first + size - first) first))
      → LeavesRange store r bound values b after
  unfolding rule_at equations
  operations_leave more after c first size e f b is =
      record {
        kept = c.adds.kept;
        is = λ p names. is names ∙ ap (λ (n : ℕ). any (literal_overflows (codes names) code_in_range (values_in more after)) (from (literal_at (literals_in store)) n first)) all ∙ rw (e, f) (ap (λ (ρ : Values ℕ). any (literal_overflows (codes names) code_in_range ρ) rule.body) (completed.is (fresh p) names));
      }
    where
      completed : Completes (equations rule) bound values more after
      completed = rw row.equations_stored at c

      all : first + size - first ≡ size
      all = omega arith

      fresh : ((x : ℕ) → bit bound x ≡ true → in_positives rule.body x ≡ true) → Fresh (bit bound) (equations rule)
      fresh p = fresh_less (in_positives rule.body) (bit bound) p (equations rule) (scan_fresh rule.body (length rule.body) (in_positives rule.body))
