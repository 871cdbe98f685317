-- What an answer by value says: the paper's numbers and values of each kind.
use Rattle.std.specs.Prelude.{◌≡◌, List, [], ℕ, ◌^◌, ◌≤◌, ◌<◌, length, get_or, take}
use Rattle.grammar.specs.Sizes.{most_literals}
use Rattle.derived_set.specs.declared.Derived.{Derived}
use Rattle.derived_set.specs.Members.{places, holds, WellKept}
use Rattle.tables.specs.Rows.{from}
use Rattle.stages.specs.Parts.{program, start_of}
use Rattle.promise.specs.Answer.{Answer, refused, accepted, unsatisfied, smaller, claimed_none, claimed_unknown, positions, Fields, fields}
use Rattle.fields.specs.declared.answer.Answer.{Answer as AnswerValue}
use Rattle.fields.specs.declared.answer.Answer.TheVariants.{Refused, Accepted, Unsatisfied, Smaller, ClaimedNone, ClaimedUnknown}
use Rattle.fields.specs.Parts.{part_of}

-- the positions of the atoms that a set has, from 1
abbrev pub kept_positions : Derived → List ℕ
kept_positions s = positions 1 (from (holds s) places 0)

-- by the kind; there are no values but those that it names
abbrev pub said : AnswerValue → Answer
said (Refused number part) = refused number (part_of part)
said (Accepted atoms rounds) = accepted atoms rounds
said (Unsatisfied rule count ps) = unsatisfied rule (take count ps)
said (Smaller kept) = smaller (kept_positions kept)
said ClaimedNone = claimed_none
said ClaimedUnknown = claimed_unknown

-- every field, whatever the kind: what it does not name is zero, and its part is then empty, at the program's start
abbrev pub fields_of : AnswerValue → Fields
fields_of (Refused number part) = record { number = number; part = part_of part; atoms = 0; rounds = 0; rule = 0; positions = []; kept = [] }
fields_of (Accepted atoms rounds) = record { number = 0; part = start_of program; atoms = atoms; rounds = rounds; rule = 0; positions = []; kept = [] }
fields_of (Unsatisfied rule count ps) = record { number = 0; part = start_of program; atoms = 0; rounds = 0; rule = rule; positions = take count ps; kept = [] }
fields_of (Smaller kept) = record { number = 0; part = start_of program; atoms = 0; rounds = 0; rule = 0; positions = []; kept = kept_positions kept }
fields_of ClaimedNone = record { number = 0; part = start_of program; atoms = 0; rounds = 0; rule = 0; positions = []; kept = [] }
fields_of ClaimedUnknown = record { number = 0; part = start_of program; atoms = 0; rounds = 0; rule = 0; positions = []; kept = [] }

-- as many positions as a body may have literals, zeros behind them
pub record ZerosBehind (count : ℕ) (ps : List ℕ) : Type 0 where
  pub few : count ≤ most_literals
  pub room : length ps ≡ most_literals
  pub behind : (i : ℕ) → count ≤ i → get_or ps i 0 ≡ 0

-- a set of sixteen 64-bit words that is well kept
pub record WholeSet (s : Derived) : Type 0 where
  pub words : length s.words ≡ 16
  pub bits : (k : ℕ) → get_or s.words k 0 < 2 ^ 64
  pub well_kept : WellKept s

-- beside its values there is nothing
abbrev pub NothingElse : AnswerValue → Type 0
NothingElse (Refused number part) = Unit {0}
NothingElse (Accepted atoms rounds) = Unit {0}
NothingElse (Unsatisfied rule count ps) = ZerosBehind count ps
NothingElse (Smaller kept) = WholeSet kept
NothingElse ClaimedNone = Unit {0}
NothingElse ClaimedUnknown = Unit {0}

-- the answer x of the paper: its kind's values, zero in every field that its kind does not name, and nothing else. No x is said by
-- two answers (`says_unique`)
pub record Says (a : AnswerValue) (x : Answer) : Type 0 where
  pub says : said a ≡ x
  pub zero : fields_of a ≡ fields x
  pub nothing_else : NothingElse a
