-- Words to write worked examples with: parts of texts, and of the rules that they are read as.
use Rattle.std.specs.Prelude.{Bool, true, false, List, [], ◌∷◌, ℕ, zero, suc, pos}
use Rattle.meaning.specs.Domain.{equal}
use Rattle.meaning.specs.Values.{Value}
use Rattle.meaning.specs.Rules.{Term, constant, Atom, Literal, Rule}
use Rattle.grammar.specs.Tokens.{sign, Symbol, opening, closing, comma, dot, :-, bar, Token, name, variable, number, comparison, symbol}
use Rattle.grammar.specs.Example.{Outcome, Example}

abbrev pub program : List Token → Outcome → Example
program ts o = let ground : Bool = false in record { ground = ground; text = ts; outcome = o }

abbrev pub facts : List Token → Outcome → Example
facts ts o = let ground : Bool = true in record { ground = ground; text = ts; outcome = o }

abbrev pub a : Token
a = name (97 ∷ [])

abbrev pub X : Token
X = variable (88 ∷ [])

abbrev pub equals : Token
equals = comparison (sign equal)

abbrev pub end : List Token
end = symbol dot ∷ []

abbrev pub close : List Token
close = symbol closing ∷ end

-- n times t, with s between, and then more
abbrev pub with_between : Symbol → ℕ → Token → List Token → List Token
with_between s zero t more = more
with_between s (suc zero) t more = t ∷ more
with_between s (suc (suc n)) t more = t ∷ symbol s ∷ with_between s (suc n) t more

-- with commas between; with `|` between
abbrev pub listed : ℕ → Token → List Token → List Token
listed n t more = with_between comma n t more

abbrev pub barred : ℕ → Token → List Token → List Token
barred n t more = with_between bar n t more

-- n times a, each with a dot, and then more
abbrev pub repeated : ℕ → List Token → List Token
repeated zero more = more
repeated (suc n) more = a ∷ symbol dot ∷ repeated n more

-- a(
abbrev pub call : List Token → List Token
call ts = a ∷ symbol opening ∷ ts

-- ):-a(
abbrev pub body : List Token → List Token
body ts = symbol closing ∷ symbol :- ∷ call ts

abbrev pub too_great : Token
too_great = number 1_000_000_001

-- values as terms, the atom a with arguments, a rule with these heads, with one and no body, with one, and with none
abbrev pub value_a : Term Value
value_a = constant (Value.name (97 ∷ []))

abbrev pub value : ℕ → Term Value
value n = constant (Value.number (pos n))

abbrev pub atom_a : List (Term Value) → Atom (Term Value)
atom_a xs = record { negative = false; name = 97 ∷ []; arguments = xs }

abbrev pub with_heads : List (Atom (Term Value)) → List (Literal Value) → Rule Value
with_heads xs ls = record { heads = xs; body = ls }

abbrev pub fact : Atom (Term Value) → Rule Value
fact x = with_heads (x ∷ []) []

abbrev pub rule : Atom (Term Value) → List (Literal Value) → Rule Value
rule x ls = with_heads (x ∷ []) ls

abbrev pub constraint : List (Literal Value) → Rule Value
constraint ls = with_heads [] ls

-- n variables from number k on
abbrev pub variables : ℕ → ℕ → List (Term Value)
variables k zero = []
variables k (suc n) = Term.variable k ∷ variables (suc k) n
