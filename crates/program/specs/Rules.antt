-- The rules of a program in the tables: what is asked of the tables, and how they are filled.
use Rattle.std.specs.Prelude.{◌≡◌, false, List, ℕ, ◌*◌, ◌≤◌, length}
use Rattle.texts.specs.Sizes.{most_text}
use Rattle.meaning.specs.Rules.{Bytes}
use Rattle.grammar.specs.Trees.{count, Program}
use Rattle.grammar.specs.Abstraction.{rules_for}
use Rattle.codes.specs.Codes.{Coded}
use Rattle.codes.specs.Predicates.{CodedName}
use Rattle.codes.specs.Related.{Pairwise, RelatedRule}
use Rattle.names.specs.Table.{names_of}
use Rattle.tables.specs.Layout.{literal_stride, rule_stride, rule_rows}
use Rattle.tables.specs.Rows.{rules_of}
use Rattle.tables.specs.WellFormed.{RuleTable}
use Rattle.tables.specs.Stored.{Kept}
use Rattle.rows.specs.Growth.{Room, Grows}

-- the numbers that the tables have for 256 rules
abbrev pub rules_size : ℕ
rules_size = 10_240

abbrev pub literals_size : ℕ
literals_size = 56_320

-- what is asked: tables with room. The table of names is touched only where the program is not over its size
pub record Fillable (program output : Bytes) (names rules literals : List ℕ) : Type 0 where
  pub room : length program ≤ most_text → Room program output names (length program)
  pub rules_long : rules_size ≤ length rules
  pub literals_long : literals_size ≤ length literals

-- the rows stand for the rules of the program, in their order; what lies behind them is as it was
pub record FillsRules (program output : Bytes) (names rules literals : List ℕ) (c : Program false) (n : ℕ) (names' rules' literals' : List ℕ) : Type 0 where
  pub count_is : n ≡ count c
  pub grows : Grows program output names (length program) names'
  pub rules_kept : Kept 0 (n * rule_stride) rules rules'
  pub literals_kept : Kept 0 (n * rule_rows * literal_stride) literals literals'
  pub table : RuleTable rules' literals' n
  pub stands : Pairwise (RelatedRule (CodedName (names_of program output names')) (Coded (names_of program output names'))) (rules_of rules' literals' n) (rules_for c)
