-- Document 01's small examples T1 to T12, as rules and facts; and document 02's sites that are numbers, and either site that may have issued.
use Rattle.std.specs.Prelude.{ℕ, true, false, List, [], ◌∷◌, pos}
use Prim.Native.String.{String}
use Rattle.meaning.specs.Domain.{equal, unequal, less, plus}
use Rattle.meaning.specs.Rules.{Term, constant, variable, Atom, Fact, plain, computed, Literal, positive, negated, builtin, Rule}
use Rattle.meaning.specs.Values.{Value, number, name, string}
use Rattle.meaning.specs.Verdicts.{accepted, unsatisfied, smaller}
use Rattle.meaning.specs.Outcomes.{Outcome, out_of_range, verdict}
use Rattle.meaning.specs.Ascii.{ascii}

pub record Example : Type 0 where
  pub program : List (Rule Value)
  pub candidate : List (Fact Value)
  pub outcome : Outcome

abbrev example : List (Rule Value) → List (Fact Value) → Outcome → Example
example P I o = record { program = P; candidate = I; outcome = o }

abbrev atom : {X : Type 0} → String → List X → Atom X
atom p xs = record { negative = false; name = ascii p; arguments = xs }

abbrev rule : Atom (Term Value) → List (Literal Value) → Rule Value
rule h b = record { heads = h ∷ []; body = b }

abbrev constraint : List (Literal Value) → Rule Value
constraint b = record { heads = []; body = b }

abbrev word : String → Value
word s = name (ascii s)

abbrev whole : ℕ → Value
whole n = number (pos n)

abbrev a : {X : Type 0} → Atom X
a = atom "a" []

abbrev b : {X : Type 0} → Atom X
b = atom "b" []

-- at(u1,north).moved(u1,north,south).held(U,S):-at(U,S).held(U,T):-held(U,S),moved(U,S,T).
abbrev transfers : List (Rule Value)
transfers =
    rule (atom "at" (constant (word "u1") ∷ constant (word "north") ∷ [])) []
    ∷ rule (atom "moved" (constant (word "u1") ∷ constant (word "north") ∷ constant (word "south") ∷ [])) []
    ∷ rule (atom "held" (variable 0 ∷ variable 1 ∷ [])) (positive (atom "at" (variable 0 ∷ variable 1 ∷ [])) ∷ [])
    ∷ rule (atom "held" (variable 0 ∷ variable 1 ∷ [])) (positive (atom "held" (variable 0 ∷ variable 2 ∷ [])) ∷ positive (atom "moved" (variable 0 ∷ variable 2 ∷ variable 1 ∷ [])) ∷ [])
    ∷ []

-- at(u1,north). moved(u1,north,south). held(u1,north).
abbrev traced : List (Fact Value) → List (Fact Value)
traced more = atom "at" (word "u1" ∷ word "north" ∷ []) ∷ atom "moved" (word "u1" ∷ word "north" ∷ word "south" ∷ []) ∷ atom "held" (word "u1" ∷ word "north" ∷ []) ∷ more

-- a:-not b.b:-not a.
abbrev either : List (Rule Value)
either = rule a (negated b ∷ []) ∷ rule b (negated a ∷ []) ∷ []

-- p(X):-q(Y),X=Y+1.q(v).
abbrev next : Value → List (Rule Value)
next v =
    rule (atom "p" (variable 0 ∷ [])) (positive (atom "q" (variable 1 ∷ [])) ∷ builtin equal (variable 0) (computed (variable 1) plus (constant (whole 1))) ∷ [])
    ∷ rule (atom "q" (constant v ∷ [])) []
    ∷ []

abbrev q : {X : Type 0} → X → Atom X
q x = atom "q" (x ∷ [])

abbrev pub examples : List Example
examples =
    example transfers (traced (atom "held" (word "u1" ∷ word "south" ∷ []) ∷ [])) (verdict (accepted 4 3 (1 ∷ 1 ∷ 2 ∷ 3 ∷ [])))
    ∷ example transfers (traced []) (verdict (unsatisfied 4 (3 ∷ 2 ∷ [])))
    ∷ example [] [] (verdict (accepted 0 0 []))
    ∷ example (rule a (positive b ∷ []) ∷ rule b (positive a ∷ []) ∷ []) (a ∷ b ∷ []) (verdict (smaller (false ∷ false ∷ [])))
    ∷ example either (a ∷ []) (verdict (accepted 1 1 (1 ∷ [])))
    ∷ example either (a ∷ b ∷ []) (verdict (smaller (false ∷ false ∷ [])))
    ∷ example either [] (verdict (unsatisfied 1 []))
    ∷ example (rule a (negated a ∷ []) ∷ []) (a ∷ []) (verdict (smaller (false ∷ [])))
    ∷ example (rule a [] ∷ constraint (positive a ∷ []) ∷ []) (a ∷ []) (verdict (unsatisfied 2 (1 ∷ [])))
    ∷ example (next (word "a")) (q (word "a") ∷ []) (verdict (accepted 1 1 (1 ∷ [])))
    ∷ example (next (whole 999_999_999)) (q (whole 999_999_999) ∷ atom "p" (whole 1_000_000_000 ∷ []) ∷ []) (verdict (accepted 2 2 (1 ∷ 2 ∷ [])))
    ∷ example (next (whole 1_000_000_000)) (q (whole 1_000_000_000) ∷ []) (out_of_range 1)
    ∷ []

-- ---- one order over numbers, names and strings

-- at(u1,7).away(U):-at(U,S),S!=north.
abbrev away : List (Rule Value)
away =
    rule (atom "at" (constant (word "u1") ∷ constant (whole 7) ∷ [])) []
    ∷ rule (atom "away" (variable 0 ∷ [])) (positive (atom "at" (variable 0 ∷ variable 1 ∷ [])) ∷ builtin unequal (variable 1) (plain (constant (word "north"))) ∷ [])
    ∷ []

abbrev at_seven : Fact Value
at_seven = atom "at" (word "u1" ∷ whole 7 ∷ [])

abbrev text : String → Value
text s = string (ascii s)

-- q(7).q(b).q("b").q("b c").p(X):-q(X),7<X,X<"b c".
abbrev between : List (Rule Value)
between =
    rule (q (constant (whole 7))) []
    ∷ rule (q (constant (word "b"))) []
    ∷ rule (q (constant (text "b"))) []
    ∷ rule (q (constant (text "b c"))) []
    ∷ rule (atom "p" (variable 0 ∷ [])) (positive (q (variable 0)) ∷ builtin less (constant (whole 7)) (plain (variable 0)) ∷ builtin less (variable 0) (plain (constant (text "b c"))) ∷ [])
    ∷ []

abbrev pub ordered : List Example
ordered =
    example away (at_seven ∷ atom "away" (word "u1" ∷ []) ∷ []) (verdict (accepted 2 2 (1 ∷ 2 ∷ [])))
    ∷ example away (at_seven ∷ []) (verdict (unsatisfied 2 (1 ∷ [])))
    ∷ example between (q (whole 7) ∷ q (word "b") ∷ q (text "b") ∷ q (text "b c") ∷ atom "p" (word "b" ∷ []) ∷ atom "p" (text "b" ∷ []) ∷ []) (verdict (accepted 6 2 (1 ∷ 1 ∷ 1 ∷ 1 ∷ 2 ∷ 2 ∷ [])))
    ∷ []

-- ---- several heads

abbrev c : {X : Type 0} → Atom X
c = atom "c" []

abbrev d : {X : Type 0} → Atom X
d = atom "d" []

-- h|k.
abbrev one_of : Atom (Term Value) → Atom (Term Value) → Rule Value
one_of h k = record { heads = h ∷ k ∷ []; body = [] }

-- a|b.a:-b.b:-a.
abbrev both : List (Rule Value)
both = one_of a b ∷ rule a (positive b ∷ []) ∷ rule b (positive a ∷ []) ∷ []

-- a|b.c:-a.d:-a.
abbrev three_or_one : List (Rule Value)
three_or_one = one_of a b ∷ rule c (positive a ∷ []) ∷ rule d (positive a ∷ []) ∷ []

abbrev pub disjunctions : List Example
disjunctions =
    example (one_of a b ∷ []) (a ∷ []) (verdict (accepted 1 0 []))
    ∷ example (one_of a b ∷ []) [] (verdict (unsatisfied 1 []))
    ∷ example (one_of a b ∷ []) (a ∷ b ∷ []) (verdict (smaller (true ∷ false ∷ [])))
    -- the order of the facts decides: b is atom 1
    ∷ example (one_of a b ∷ []) (b ∷ a ∷ []) (verdict (smaller (true ∷ false ∷ [])))
    ∷ example both (a ∷ b ∷ []) (verdict (accepted 2 0 []))
    -- {a, c, d} has the number 7, {b} the number 8: neither lies inside the other
    ∷ example three_or_one (a ∷ c ∷ d ∷ b ∷ []) (verdict (smaller (true ∷ true ∷ true ∷ false ∷ [])))
    -- two heads as written, though they are one
    ∷ example (one_of a a ∷ []) (a ∷ []) (verdict (accepted 1 0 []))
    ∷ []
