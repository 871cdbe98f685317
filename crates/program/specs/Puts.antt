-- A rule of a program in the tables: what the function that puts it there promises.
use Rattle.std.specs.Prelude.{◌≡◌, Bool, true, false, Option, Some, None, Result, Ok, Err, List, [], ℕ, ◌+◌, ◌-◌, ◌*◌, ◌≤◌, ◌<◌, length}
use Rattle.std.proofs.Math.Option.{some}
use Rattle.reading.specs.Reading.{tree, refused}
use Rattle.texts.specs.Place.{Stands as PlaceStands}
use Rattle.texts.specs.declared.refusal.Refused.{Refused}
use Rattle.texts.specs.Refusal.{number_of}
use Rattle.meaning.specs.Sets.{In}
use Rattle.meaning.specs.Rules.{Bytes}
use Rattle.meaning.specs.Safety.{bound, safe}
use Rattle.grammar.specs.Trees.{◌then◌, Rule as Tree, Program}
use Rattle.grammar.specs.Abstraction.{rule_for}
use Rattle.syntax.specs.Text.{placed_from}
use Rattle.syntax.specs.Ahead.{firsts, behind_dot}
use Rattle.syntax.specs.Rules.{behind_rules, RulePlace}
use Rattle.codes.specs.Codes.{Coded}
use Rattle.codes.specs.Predicates.{CodedName}
use Rattle.codes.specs.Related.{RelatedRule}
use Rattle.names.specs.Table.{names_of}
use Rattle.grammar.specs.Sizes.{most_heads, most_literals}
use Rattle.tables.specs.Layout.{literal_stride, rule_stride, rule_rows, first_head_column, heads_column, first_literal_column, literals_column, equations_column, positives_column}
use Rattle.tables.specs.Rows.{rule_column, equation_places, positive_places, rule_at}
use Rattle.tables.specs.WellFormed.{RuleRow}
use Rattle.tables.specs.Stored.{Kept}
use Rattle.rows.specs.Growth.{Grows}
use Rattle.terms.specs.declared.cursor.Cursor.{Cursor}
use Rattle.clauses.specs.Heads.{ReadyRule}
use Rattle.rulesafety.specs.RuleRow.{first_of_body}
use Rattle.rulesafety.specs.Unbound.{FirstUnbound}
use Rattle.program.specs.declared.put.RuleStart.{RuleStart}
use Rattle.program.specs.declared.put.RulePut.{RulePut}

-- the program is the first of the two texts, and no variable of the rule has been met
abbrev pub cursor_at : RuleStart → Cursor
cursor_at s = let ground : Bool = false in record { base = 0; at = s.at; ground = ground; over = s.over; met = 0 }

-- what is asked: room for one that is not too many
pub record Puttable (program output : Bytes) (names variables rules literals : List ℕ) (s : RuleStart) : Type 0 where
  pub ready : ReadyRule program output names variables literals (cursor_at s) s.number
  pub rules_long : s.over ≡ false → s.number * rule_stride + rule_stride ≤ length rules

-- the rows that a rule's own row names are those of its number
pub record Owns (rules : List ℕ) (number : ℕ) : Type 0 where
  pub head : rule_column rules number first_head_column ≡ number * rule_rows
  pub few_heads : rule_column rules number heads_column ≤ most_heads
  pub first : rule_column rules number first_literal_column ≡ first_of_body number
  pub short : rule_column rules number literals_column ≤ most_literals
  pub few_equations : rule_column rules number equations_column ≤ most_literals
  pub equations : (l : ℕ) → In l (equation_places rules number) → (number * rule_rows ≤ l) × (l < number * rule_rows + rule_rows)
  pub few_positives : rule_column rules number positives_column ≤ most_literals
  pub positives : (l : ℕ) → In l (positive_places rules number) → (number * rule_rows ≤ l) × (l < number * rule_rows + rule_rows)

-- the rows stand for the rule x, and are as the engine asks where it is safe; its first variable that is not bound; where it ends
pub record Stands (program output : Bytes) (names rules literals : List ℕ) (s : RuleStart) (x : Tree false) (r : RulePut) (names' rules' literals' : List ℕ) : Type 0 where
  pub forward : s.at.start ≤ r.behind.start
  pub placed : PlaceStands program r.behind
  pub grows : Grows program output names (r.behind.start - s.at.start) names'
  pub rules_kept : Kept (s.number * rule_stride) (s.number * rule_stride + rule_stride) rules rules'
  pub literals_kept : Kept (s.number * rule_rows * literal_stride) ((s.number * rule_rows + rule_rows) * literal_stride) literals literals'
  pub stands : RelatedRule (CodedName (names_of program output names')) (Coded (names_of program output names')) (rule_at rules' literals' s.number) (rule_for x)
  pub owns : Owns rules' s.number
  pub row : safe (rule_for x) ≡ true → RuleRow rules' literals' s.number
  pub unbound : FirstUnbound (bound (rule_for x)) (firsts [] (placed_from false program s.at.start)) r.unbound
  pub rest : behind_dot (placed_from false program s.at.start) ≡ some (placed_from false program r.behind.start)

-- a rule: behind these rules what lies ahead is what lies behind it too
pub record PutGoes (program output : Bytes) (names rules literals : List ℕ) (s : RuleStart) (r : RulePut) (names' rules' literals' : List ℕ) : Type 0 where
  pub kept : s.over ≡ false
  pub rule : Tree false
  pub stands : Stands program output names rules literals s rule r names' rules' literals'
  pub ahead : (h : RulePlace false s.over) → behind_rules false program h.rules s.at.start ≡ behind_rules false program (h.rules then rule) r.behind.start

-- the end of the text: nothing changes
pub record PutEnds (program : Bytes) (names rules literals : List ℕ) (s : RuleStart) (names' rules' literals' : List ℕ) : Type 0 where
  pub same_names : names' ≡ names
  pub same_rules : rules' ≡ rules
  pub same_literals : literals' ≡ literals
  pub answer : (p : Program false) → behind_rules false program p s.at.start ≡ tree p

-- a refusal, whatever rules stand before it
pub record PutStops (program : Bytes) (s : RuleStart) (e : Refused) : Type 0 where
  pub refuses : 2 ≤ number_of e.refusal
  pub answer : (h : RulePlace false s.over) → behind_rules false program h.rules s.at.start ≡ refused (number_of e.refusal) e.place

abbrev pub PutsRule : Bytes → Bytes → List ℕ → List ℕ → List ℕ → RuleStart → Result (Option RulePut) Refused → List ℕ → List ℕ → List ℕ → Type 0
PutsRule program output names rules literals s (Ok (Some r)) names' rules' literals' = PutGoes program output names rules literals s r names' rules' literals'
PutsRule program output names rules literals s (Ok None) names' rules' literals' = PutEnds program names rules literals s names' rules' literals'
PutsRule program output names rules literals s (Err e) names' rules' literals' = PutStops program s e
