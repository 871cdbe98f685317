-- Heads as rows: what the function that reads them promises.
use Rattle.std.specs.Prelude.{◌≡◌, false, List, [], ℕ, ◌+◌, ◌-◌, ◌*◌, ◌≤◌, length, Result, Ok, Err}
use Rattle.texts.specs.declared.place.Place.{Place}
use Rattle.texts.specs.declared.refusal.Refused.{Refused}
use Rattle.texts.specs.Places.{places_in}
use Rattle.meaning.specs.Rules.{Bytes, Term, Atom}
use Rattle.meaning.specs.Values.{Value}
use Rattle.grammar.specs.Sizes.{most_heads}
use Rattle.tables.specs.Layout.{literal_stride, rule_rows}
use Rattle.tables.specs.Stored.{Kept}
use Rattle.tables.specs.Coded.{HeadsCoded}
use Rattle.syntax.specs.Text.{token_read}
use Rattle.syntax.specs.Fills.{Goes, Stops}
use Rattle.syntax.specs.Heads.{heads_in}
use Rattle.rows.specs.Coding.{Codes}
use Rattle.terms.specs.declared.cursor.Cursor.{Cursor}
use Rattle.literals.specs.Builtins.{ReadyBehind}
use Rattle.clauses.specs.declared.heads.FirstToken.{FirstToken}
use Rattle.clauses.specs.declared.heads.HeadsRead.{HeadsRead}

-- what is asked: a cursor at the start of a rule, and room for its rows where it is not one too many
pub record ReadyRule (program output : Bytes) (names variables literals : List ℕ) (k : Cursor) (number : ℕ) : Type 0 where
  pub ready : ReadyBehind program output names variables k
  pub none_met : k.met ≡ 0
  pub long : k.over ≡ false → (number * rule_rows + rule_rows) * literal_stride ≤ length literals

-- what is asked where it begins with heads: its first token stands there, and is neither `:-` nor the end
pub record ReadyHeads (program output : Bytes) (names variables literals : List ℕ) (k : Cursor) (s : FirstToken) : Type 0 where
  pub rule : ReadyRule program output names variables literals k s.number
  pub is_token : s.token ≡ token_read false program k.at.start
  pub no_if : s.token.kind ≡ 9 → ⊥
  pub no_end : s.token.kind ≡ 20 → ⊥

-- the rows of the rule's heads stand for as many heads, beside the table of names afterwards; these were read from `at` to `next`
pub record HeadsStand (program output : Bytes) (names literals : List ℕ) (at number next count : ℕ) (names' literals' : List ℕ) (hs : List (Atom (Term Value))) : Type 0 where
  pub size : count ≡ length hs
  pub few : count ≤ most_heads
  pub kept : Kept (number * rule_rows * literal_stride) ((number * rule_rows + most_heads) * literal_stride) literals literals'
  pub stands : Codes program output names (next - at) (λ ns. HeadsCoded ns literals' (number * rule_rows) hs) names'

-- heads, which end at a place, and the token there, which is no `|`
pub record HeadsGo (program output : Bytes) (names literals : List ℕ) (k : Cursor) (number : ℕ) (r : HeadsRead) (names' variables' literals' : List ℕ) : Type 0 where
  pub place : Place
  pub reads : Goes (heads_in false k.over program k.at.start) k.over program k.at.start [] place (places_in variables' r.met) (HeadsStand program output names literals k.at.start number place.start r.count names' literals')
  pub is_token : r.token ≡ token_read false program place.start
  pub no_bar : r.token.kind ≡ 23 → ⊥

-- heads, or a refusal
abbrev pub ReadsHeads : Bytes → Bytes → List ℕ → List ℕ → Cursor → ℕ → Result HeadsRead Refused → List ℕ → List ℕ → List ℕ → Type 0
ReadsHeads program output names literals k number (Ok r) names' variables' literals' = HeadsGo program output names literals k number r names' variables' literals'
ReadsHeads program output names literals k number (Err e) names' variables' literals' = Stops (heads_in false k.over program k.at.start) program k.at.start [] e
