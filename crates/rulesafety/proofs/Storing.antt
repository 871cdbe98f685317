-- A rule's own row is stored: what it says of its body.
use mathlib.Core.Path.{◌≡◌, sym, ◌∙◌}
use mathlib.Core.List.{List}
use Prim.Native.Nat.{ℕ, ◌+◌, ◌*◌, ◌≤◌}
use native.Mathlib.Omega.{arith}
use lib.ListN.{drop}
use lib.Seq.{take-take}
use Rattle.grammar.specs.Sizes.{most_literals}
use Rattle.tables.specs.Layout.{rule_stride, equation_places_column, positive_places_column}
use Rattle.tables.specs.Rows.{equation_places, positive_places}
use Rattle.rulesafety.specs.declared.scan.Scan.{Scan}
use Rattle.rulesafety.specs.declared.rule_row.Numbers.{Numbers}
use Rattle.rulesafety.specs.Listed.{listed, Lists, positive_rows}
use Rattle.rulesafety.specs.Scanned.{Scanned}
use Rattle.rulesafety.specs.RuleRow.{some_operation, NumbersStored, first_of_body, RowStored}
use Rattle.rulesafety.proofs.Listing.{positives_stored, positives_inside}
use Rattle.rulesafety.proofs.Operations.{operation_told}

module _ (literals : List ℕ) (number count : ℕ) (s : Scan) (scanned : Scanned literals (first_of_body number) count s) (n : Numbers) (many : n.literals ≡ count) (operation : n.operation ≡ some_operation literals count (first_of_body number)) (binding : n.equations ≡ s.equations) (positive : Lists n.positives (positive_rows literals count (first_of_body number))) (rules rules' : List ℕ) (says : NumbersStored rules number (first_of_body number) n rules') where
  few : n.equations.count ≤ most_literals
  few = rw binding scanned.few

  equations_are : equation_places rules' number ≡ listed s.equations
  equations_are = rw (says.equation_count, sym (take-take n.equations.count most_literals (drop (number * rule_stride + equation_places_column) rules') few), says.equations, binding)

  positives_are : positive_places rules' number ≡ positive_rows literals count (first_of_body number)
  positives_are = rw (says.positive_count, sym (take-take n.positives.count most_literals (drop (number * rule_stride + positive_places_column) rules') positive.few), says.positives) positive.are

  pub row_stored : RowStored rules literals number n.heads count s.bound rules'
  row_stored =
      record {
        kept = says.kept;
        head_row = says.head_row;
        heads_size = says.heads;
        first_row = says.first_row;
        size = says.literals ∙ many;
        silent = λ z. operation_told literals count (first_of_body number) n.operation operation (sym says.operation ∙ z);
        few_equations = let e = says.equation_count in let l = few in omega arith;
        equations = rw equations_are scanned.equations;
        binds = λ l m. scanned.binds l (rw equations_are at m);
        few_positives = let e = says.positive_count in let l = positive.few in omega arith;
        positives = rw positives_are (positives_stored literals count (first_of_body number));
        in_body = λ l m. positives_inside literals count (first_of_body number) l (rw positives_are at m);
        bits = scanned.bits;
      }
