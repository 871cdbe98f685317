-- The answers of the check, what each leaves in the lent places, and the fields that it has.
use Rattle.std.specs.Prelude.{Bool, true, false, List, [], ◌∷◌, ◌++◌, ℕ, suc, length, drop}
use Rattle.meaning.specs.Verdicts.{Verdict}
use Rattle.meaning.specs.Verdicts as meant
use Rattle.stages.specs.Parts.{program, Part, start_of}
use Rattle.stages.specs.Stage.{Outcome, on, stop}

pub data Answer : Type 0 where
  -- REFUSED: its number, and the part handed back
  refused : ℕ → Part → Answer
  -- ACCEPTED: the number of atoms, and ROUNDS
  accepted : ℕ → ℕ → Answer
  -- UNSATISFIED: the rule's number and the positions, both from 1
  unsatisfied : ℕ → List ℕ → Answer
  -- SMALLER: the positions kept, from 1, rising
  smaller : List ℕ → Answer
  claimed_none : Answer
  claimed_unknown : Answer

-- an answer, and what the lent places hold then
pub record Result : Type 0 where
  pub answer : Answer
  pub places : List ℕ

-- ---- what is left in the places

-- the positions of the atoms that are kept; the first of them has position n
unfoldable pub positions : ℕ → List Bool → List ℕ
positions n [] = []
positions n (true ∷ bs) = n ∷ positions (suc n) bs
positions n (false ∷ bs) = positions (suc n) bs

-- a verdict as an answer. Only ACCEPTED writes, where it has rounds: each atom's, from the first place on, and later places are as they were
unfoldable pub says : List ℕ → Verdict → Result
says places (meant.accepted n k ks) = record { answer = accepted n k; places = ks ++ drop (length ks) places }
says places (meant.unsatisfied r ps) = record { answer = unsatisfied r ps; places = places }
says places (meant.smaller bs) = record { answer = smaller (positions 1 bs); places = places }

-- a refusal leaves the places as they were
unfoldable pub result : List ℕ → Outcome Result → Result
result places (on r) = r
result places (stop n p) = record { answer = refused n p; places = places }

-- ---- the fields of an answer: what its kind does not name is zero, and its part is empty, at the program's start

pub record Fields : Type 0 where
  pub number : ℕ
  pub part : Part
  pub atoms : ℕ
  pub rounds : ℕ
  pub rule : ℕ
  pub positions : List ℕ
  pub kept : List ℕ

abbrev pub fields : Answer → Fields
fields (refused n p) = record { number = n; part = p; atoms = 0; rounds = 0; rule = 0; positions = []; kept = [] }
fields (accepted n k) = record { number = 0; part = start_of program; atoms = n; rounds = k; rule = 0; positions = []; kept = [] }
fields (unsatisfied r ps) = record { number = 0; part = start_of program; atoms = 0; rounds = 0; rule = r; positions = ps; kept = [] }
fields (smaller ps) = record { number = 0; part = start_of program; atoms = 0; rounds = 0; rule = 0; positions = []; kept = ps }
fields claimed_none = record { number = 0; part = start_of program; atoms = 0; rounds = 0; rule = 0; positions = []; kept = [] }
fields claimed_unknown = record { number = 0; part = start_of program; atoms = 0; rounds = 0; rule = 0; positions = []; kept = [] }
