-- Rules as rows: what the functions that read them promise.
use Rattle.std.specs.Prelude.{◌≡◌, false, List, [], ℕ, ◌+◌, ◌-◌, ◌*◌, ◌≤◌, length, Result, Ok, Err, Option, Some, None}
use Rattle.std.proofs.Math.Option.{some}
use Rattle.texts.specs.Place.{Stands}
use Rattle.texts.specs.Places.{places_in}
use Rattle.texts.specs.declared.refusal.Refused.{Refused}
use Rattle.texts.specs.Refusal.{number_of}
use Rattle.reading.specs.Reading.{tree, refused}
use Rattle.meaning.specs.Rules.{Bytes}
use Rattle.grammar.specs.Trees.{◌then◌, Rule as Tree, Program}
use Rattle.grammar.specs.Abstraction.{rule_for}
use Rattle.grammar.specs.Sizes.{most_heads, most_literals}
use Rattle.tables.specs.Layout.{literal_stride, rule_rows}
use Rattle.tables.specs.Stored.{Kept}
use Rattle.tables.specs.Coded.{HeadsCoded, BodyCoded}
use Rattle.syntax.specs.Text.{placed_from}
use Rattle.syntax.specs.Variables.{Fits}
use Rattle.syntax.specs.Ahead.{firsts, behind_dot}
use Rattle.syntax.specs.Rules.{behind_rules, RulePlace}
use Rattle.rows.specs.Coding.{Codes}
use Rattle.terms.specs.declared.cursor.Cursor.{Cursor}
use Rattle.clauses.specs.declared.body.BodyRead.{BodyRead}
use Rattle.clauses.specs.declared.clause.RuleRead.{RuleRead}

-- the rows stand for the heads and the body of the tree x; where each of its variables first occurs, and what stands behind its dot
pub record RuleStands (program output : Bytes) (names variables literals : List ℕ) (k : Cursor) (number : ℕ) (x : Tree false) (r : RuleRead) (names' variables' literals' : List ℕ) : Type 0 where
  pub forward : k.at.start ≤ r.behind.start
  pub placed : Stands program r.behind
  pub few_heads : r.heads ≤ most_heads
  pub heads_size : r.heads ≡ length (rule_for x).heads
  pub few : r.count ≤ most_literals
  pub size : r.count ≡ length (rule_for x).body
  pub kept : Kept (number * rule_rows * literal_stride) ((number * rule_rows + rule_rows) * literal_stride) literals literals'
  pub stands : Codes program output names (r.behind.start - k.at.start) (λ ns. HeadsCoded ns literals' (number * rule_rows) (rule_for x).heads × BodyCoded ns literals' (number * rule_rows + most_heads) (rule_for x).body) names'
  pub fits : Fits (places_in variables' r.met)
  pub firsts : firsts [] (placed_from false program k.at.start) ≡ places_in variables' r.met
  pub rest : behind_dot (placed_from false program k.at.start) ≡ some (placed_from false program r.behind.start)

-- a rule: behind these rules what lies ahead is what lies behind it too
pub record RuleGoes (program output : Bytes) (names variables literals : List ℕ) (k : Cursor) (number : ℕ) (r : RuleRead) (names' variables' literals' : List ℕ) : Type 0 where
  pub kept : k.over ≡ false
  pub rule : Tree false
  pub stands : RuleStands program output names variables literals k number rule r names' variables' literals'
  pub ahead : (h : RulePlace false k.over) → behind_rules false program h.rules k.at.start ≡ behind_rules false program (h.rules then rule) r.behind.start

-- the end of the text: nothing changes
pub record RuleEnds (program : Bytes) (names literals : List ℕ) (k : Cursor) (names' literals' : List ℕ) : Type 0 where
  pub same_names : names' ≡ names
  pub same_literals : literals' ≡ literals
  pub answer : (p : Program false) → behind_rules false program p k.at.start ≡ tree p

-- a refusal, whatever rules stand before it
pub record RuleStops (program : Bytes) (k : Cursor) (e : Refused) : Type 0 where
  pub refuses : 2 ≤ number_of e.refusal
  pub answer : (h : RulePlace false k.over) → behind_rules false program h.rules k.at.start ≡ refused (number_of e.refusal) e.place

-- a rule, or a refusal
abbrev pub ReadsRule : Bytes → Bytes → List ℕ → List ℕ → List ℕ → Cursor → ℕ → Result RuleRead Refused → List ℕ → List ℕ → List ℕ → Type 0
ReadsRule program output names variables literals k number (Ok r) names' variables' literals' = RuleGoes program output names variables literals k number r names' variables' literals'
ReadsRule program output names variables literals k number (Err e) names' variables' literals' = RuleStops program k e

-- .. or the end of the text
abbrev pub FillsRule : Bytes → Bytes → List ℕ → List ℕ → List ℕ → Cursor → ℕ → Result (Option RuleRead) Refused → List ℕ → List ℕ → List ℕ → Type 0
FillsRule program output names variables literals k number (Ok (Some r)) names' variables' literals' = RuleGoes program output names variables literals k number r names' variables' literals'
FillsRule program output names variables literals k number (Ok None) names' variables' literals' = RuleEnds program names literals k names' literals'
FillsRule program output names variables literals k number (Err e) names' variables' literals' = RuleStops program k e

-- ---- what the parts of it answer

abbrev pub bodied_rule : ℕ → BodyRead → RuleRead
bodied_rule heads b = record { heads = heads; count = b.count; behind = b.behind; met = b.met }
