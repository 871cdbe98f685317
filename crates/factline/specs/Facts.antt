-- A fact of a facts line as numbers: what the function that reads it promises.
use Rattle.std.specs.Prelude.{◌≡◌, Bool, true, false, List, [], ℕ, ◌+◌, ◌-◌, ◌≤◌, Result, Ok, Err, Option, Some, None}
use Rattle.std.proofs.Math.Option.{some}
use Rattle.texts.specs.Place.{Stands}
use Rattle.texts.specs.declared.place.Place.{Place}
use Rattle.texts.specs.declared.refusal.Refused.{Refused}
use Rattle.texts.specs.Refusal.{number_of}
use Rattle.reading.specs.Reading.{tree, refused}
use Rattle.meaning.specs.Rules.{Bytes}
use Rattle.grammar.specs.Trees.{◌then◌, Atom, head, fact, Program}
use Rattle.grammar.specs.Abstraction.{atom_for}
use Rattle.syntax.specs.Text.{placed_from, token_read}
use Rattle.syntax.specs.Ahead.{behind_dot, dot_at}
use Rattle.syntax.specs.Rules.{behind_rules, RulePlace}
use Rattle.rows.specs.Coding.{CodedAtom, Codes}
use Rattle.terms.specs.declared.cursor.Cursor.{Cursor}
use Rattle.terms.specs.Cursors.{ReadyCursor}
use Rattle.factline.specs.declared.fact.FactRead.{FactRead}

-- what is asked: a cursor on a facts line, where no variable has been met
pub record ReadyFact (program output text : Bytes) (names variables : List ℕ) (k : Cursor) : Type 0 where
  pub ready : ReadyCursor program output text names variables k
  pub on_line : k.ground ≡ true
  pub none_met : k.met ≡ 0

-- the numbers stand for the fact x, beside the table of names afterwards; and where it stands
pub record FactStands (program output : Bytes) (names : List ℕ) (text : Bytes) (at : ℕ) (x : Atom true) (r : FactRead) (names' : List ℕ) : Type 0 where
  pub codes : Codes program output names (r.behind.start - at) (λ ns. CodedAtom ns r.codes (atom_for [] x)) names'
  pub forward : at ≤ r.behind.start
  pub placed : Stands text r.behind
  pub start : r.start ≡ (token_read true text at).place.start
  pub some_token : (token_read true text at).kind ≡ 20 → ⊥
  pub rest : behind_dot (placed_from true text at) ≡ some (placed_from true text r.behind.start)
  pub dot : Place
  pub dot_is : dot_at (placed_from true text at) ≡ some dot
  pub ends : r.behind.start ≡ dot.start + dot.len

-- a fact: behind these facts what lies ahead is what lies behind it too
pub record FactGoes (program output : Bytes) (names : List ℕ) (over : Bool) (text : Bytes) (at : ℕ) (r : FactRead) (names' : List ℕ) : Type 0 where
  pub kept : over ≡ false
  pub atom : Atom true
  pub stands : FactStands program output names text at atom r names'
  pub ahead : (h : RulePlace true over) → behind_rules true text h.rules at ≡ behind_rules true text (h.rules then fact (head atom)) r.behind.start

-- the end of the line
pub record LineEnds (names : List ℕ) (text : Bytes) (at : ℕ) (names' : List ℕ) : Type 0 where
  pub same_names : names' ≡ names
  pub answer : (p : Program true) → behind_rules true text p at ≡ tree p

-- a refusal, whatever facts stand before it
pub record FactStops (over : Bool) (text : Bytes) (at : ℕ) (e : Refused) : Type 0 where
  pub refuses : 2 ≤ number_of e.refusal
  pub answer : (h : RulePlace true over) → behind_rules true text h.rules at ≡ refused (number_of e.refusal) e.place

abbrev pub ReadsFact : Bytes → Bytes → List ℕ → Bool → Bytes → ℕ → Result (Option FactRead) Refused → List ℕ → Type 0
ReadsFact program output names over text at (Ok (Some r)) names' = FactGoes program output names over text at r names'
ReadsFact program output names over text at (Ok None) names' = LineEnds names text at names'
ReadsFact program output names over text at (Err e) names' = FactStops over text at e
