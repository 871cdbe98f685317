-- What a function of the reader promises, for every production: reading goes on behind what it has read, or is refused there.
use Rattle.std.specs.Prelude.{◌≡◌, Bool, false, List, ℕ, ◌≤◌, Result, Ok, Err}
use Rattle.texts.specs.declared.place.Place.{Place}
use Rattle.texts.specs.declared.refusal.Refused.{Refused}
use Rattle.texts.specs.Place.{Stands}
use Rattle.texts.specs.Refusal.{number_of}
use Rattle.reading.specs.Reading.{refused}
use Rattle.meaning.specs.Rules.{Bytes}
use Rattle.grammar.specs.Spelling.{Spelling}
use Rattle.grammar.specs.Variables.{Variables as Names, met}
use Rattle.syntax.specs.Variables.{variables_of, Fits}
use Rattle.syntax.specs.Ahead.{Wants, from}

-- where a thing of the grammar may stand, what is wanted before it and behind it, how it is spelled, and what it means
pub record Production (ground : Bool) : Type 1 where
  pub Context : Type 0
  pub Tree : Type 0
  pub Meant : Type 0
  pub before : Context → Wants ground
  pub behind : Context → Tree → Wants ground
  pub spelling : Tree → Spelling
  pub meant : Names → Tree → Meant

-- `over`: it is one too many, and so never read. v: the variables met before; v': those met behind it. S: what the function gives stands for
-- what has been read. Reading goes on at `next`: in every context what lies ahead of the state before it is what lies ahead of the state behind
-- it.
pub record Goes {ground : Bool} (X : Production ground) (over : Bool) (text : Bytes) (at : ℕ) (v : List Place) (next : Place) (v' : List Place) (S : X.Meant → Type 0) : Type 0 where
  pub forward : at ≤ next.start
  pub stands : Stands text next
  pub kept : over ≡ false
  pub fits : Fits v'
  pub tree : X.Tree
  pub means : S (X.meant (variables_of text v) tree)
  pub names : met (variables_of text v) (X.spelling tree) ≡ variables_of text v'
  pub ahead : (h : X.Context) → from ground text (X.before h) v at ≡ from ground text (X.behind h tree) v' next.start

-- or it stops there
pub record Stops {ground : Bool} (X : Production ground) (text : Bytes) (at : ℕ) (v : List Place) (e : Refused) : Type 0 where
  pub refuses : 2 ≤ number_of e.refusal
  pub answer : (h : X.Context) → (from ground text (X.before h) v at).answer ≡ refused (number_of e.refusal) e.place

-- .. by what the function returns, which says what is behind the thing
abbrev pub Fills : {ground : Bool} {A : Type 0} (X : Production ground) → Bool → Bytes → ℕ → List Place → Result A Refused → (A → Place) → (A → List Place) → (A → X.Meant → Type 0) → Type 0
Fills X over text at v (Ok a) behind v' S = Goes X over text at v (behind a) (v' a) (S a)
Fills X over text at v (Err e) behind v' S = Stops X text at v e
