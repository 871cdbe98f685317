-- Document 01's small examples T1 to T12, and document 02's sites that are numbers and either site that may have issued, as texts: a program, what
-- the solver printed, and the answer that the paper states.
use Rattle.std.specs.Prelude.{ℕ, ◌≤◌, ◌<◌, List, [], ◌∷◌, ◌++◌, length, drop}
use Prim.Native.String.{String}
use Rattle.meaning.specs.Rules.{Bytes}
use Rattle.meaning.specs.Ascii.{ascii}
use Rattle.stages.specs.Parts.{program, output, in_text, start_of}
use Rattle.promise.specs.Answer.{Answer, refused, accepted, unsatisfied, smaller}
use Rattle.promise.specs.Answered.{Answered}

pub record Example : Type 0 where
  pub program : Bytes
  pub output : Bytes
  -- how many facts the candidate has
  pub facts : ℕ
  pub answer : Answer
  -- what is written into the places: with ACCEPTED each atom's round where no rule has several heads, else nothing
  pub rounds : List ℕ

-- With the solver's code 10, and whatever the places hold: where there is one for each fact, the check answers so, and leaves the rounds
-- in the first places and the others as they were; where there are fewer, it refuses with 9, and all are as they were. It has no other
-- answer (`answered_unique`).
pub record Holds (e : Example) : Type 0 where
  pub answered : (places : List ℕ) → e.facts ≤ length places → Answered e.program e.output 10 places e.answer (e.rounds ++ drop (length e.rounds) places)
  pub short : (places : List ℕ) → length places < e.facts → Answered e.program e.output 10 places (refused 9 (start_of output)) places

-- ---- the list

-- the report's line, and the facts line
abbrev printed : String → Bytes
printed facts = ascii "ANSWER" ++ (10 ∷ (ascii facts ++ (10 ∷ [])))

abbrev example : String → String → ℕ → Answer → List ℕ → Example
example the_program facts count answer rounds = record { program = ascii the_program; output = printed facts; facts = count; answer = answer; rounds = rounds }

abbrev transfers : String
transfers = "at(u1,north).moved(u1,north,south).held(U,S):-at(U,S).held(U,T):-held(U,S),moved(U,S,T)."

abbrev either : String
either = "a:-not b.b:-not a."

abbrev pub examples : List Example
examples =
    -- T1, T2
    example transfers "at(u1,north). moved(u1,north,south). held(u1,north). held(u1,south)." 4 (accepted 4 3) (1 ∷ 1 ∷ 2 ∷ 3 ∷ [])
    ∷ example transfers "at(u1,north). moved(u1,north,south). held(u1,north)." 3 (unsatisfied 4 (3 ∷ 2 ∷ [])) []
    -- T3
    ∷ example "" "" 0 (accepted 0 0) []
    -- T4
    ∷ example "a:-b.b:-a." "a. b." 2 (smaller []) []
    -- T5, T6, T7
    ∷ example either "a." 1 (accepted 1 1) (1 ∷ [])
    ∷ example either "a. b." 2 (smaller []) []
    ∷ example either "" 0 (unsatisfied 1 []) []
    -- T8
    ∷ example "a:-not a." "a." 1 (smaller []) []
    -- T9
    ∷ example "a.:-a." "a." 1 (unsatisfied 2 (1 ∷ [])) []
    -- T10, T11, T12, which hands back `p(X):-q(Y),X=Y+1.`, at line 1 and column 1
    ∷ example "p(X):-q(Y),X=Y+1.q(a)." "q(a)." 1 (accepted 1 1) (1 ∷ [])
    ∷ example "p(X):-q(Y),X=Y+1.q(999999999)." "q(999999999). p(1000000000)." 2 (accepted 2 2) (1 ∷ 2 ∷ [])
    ∷ example "p(X):-q(Y),X=Y+1.q(1000000000)." "q(1000000000)." 1 (refused 8 (in_text program (record { start = 0; len = 17; line = 1; column = 1 }))) []
    ∷ []

abbrev away : String
away = "at(u1,7).away(U):-at(U,S),S!=north."

abbrev pub ordered : List Example
ordered =
    example away "at(u1,7). away(u1)." 2 (accepted 2 2) (1 ∷ 2 ∷ [])
    ∷ example away "at(u1,7)." 1 (unsatisfied 2 (1 ∷ [])) []
    ∷ example "q(7).q(b).q(\"b\").q(\"b c\").p(X):-q(X),7<X,X<\"b c\"." "q(7). q(b). q(\"b\"). q(\"b c\"). p(b). p(\"b\")." 6 (accepted 6 2) (1 ∷ 1 ∷ 1 ∷ 1 ∷ 2 ∷ 2 ∷ [])
    ∷ []

-- ---- several heads

abbrev pub disjunctions : List Example
disjunctions =
    example "a|b." "a." 1 (accepted 1 0) []
    ∷ example "a|b." "" 0 (unsatisfied 1 []) []
    ∷ example "a|b." "a. b." 2 (smaller (1 ∷ [])) []
    ∷ example "a|b." "b. a." 2 (smaller (1 ∷ [])) []
    ∷ example "a|b.a:-b.b:-a." "a. b." 2 (accepted 2 0) []
    -- the positions of {a, c, d}, whose number is 7, and not of {b}, whose number is 8
    ∷ example "a|b.c:-a.d:-a." "a. c. d. b." 4 (smaller (1 ∷ 2 ∷ 3 ∷ [])) []
    ∷ example "a|a." "a." 1 (accepted 1 0) []
    ∷ []

-- 21 facts, one more than are tested against every proper subset
abbrev pub untested : Example
untested = example "a|b." "a. b. c. d. e. f. g. h. i. j. k. l. m. n. o. p. q. r. s. t. u." 21 (refused 12 (start_of output)) []
