-- Worked examples at the bounds of the sizes and of the grammar.
use Rattle.std.specs.Prelude.{false, List, [], ◌∷◌, ◌++◌, negsuc, replicate}
use Rattle.meaning.specs.Domain.{equal, unequal, Operation}
use Rattle.meaning.specs.Values.{Value}
use Rattle.meaning.specs.Rules.{Term, constant, positive, builtin, Side, plain}
use Rattle.grammar.specs.Tokens.{<>, underscore, not, minus, opening, closing, comma, :-, plus, bar, name, variable, string, number, comparison, symbol, stray}
use Rattle.grammar.specs.Example.{reads, refuses, Example, PlainExample}
use Rattle.grammar.specs.HeadExamples.{head_examples, bar_examples}
use Rattle.grammar.specs.Words.{program, facts, a, X, equals, end, close, listed, repeated, call, body, too_great, value_a, value, atom_a, fact, rule, constraint, variables}

-- 8 arguments, and 9; the ninth is blamed and not its comma, and a minus before its number
unfoldable pub argument_examples : List Example
argument_examples =
    program (call (listed 8 a close)) (reads (fact (atom_a (replicate 8 value_a)) ∷ []))
    ∷ program (call (listed 9 a close)) (refuses 4 18)
    ∷ program (call (listed 8 a (symbol comma ∷ too_great ∷ close))) (refuses 3 18)
    ∷ program (call (listed 8 a (symbol comma ∷ symbol minus ∷ too_great ∷ close))) (refuses 4 18)
    ∷ program (call (listed 8 a (symbol comma ∷ close))) (refuses 2 18)
    ∷ []

-- 16 literals, and 17, however the last begins
unfoldable pub literal_examples : List Example
literal_examples =
    program (a ∷ symbol :- ∷ listed 16 a end) (reads (rule (atom_a []) (replicate 16 (positive (atom_a []))) ∷ []))
    ∷ program (a ∷ symbol :- ∷ listed 17 a end) (refuses 4 34)
    ∷ program (a ∷ symbol :- ∷ listed 16 a (symbol comma ∷ symbol not ∷ [])) (refuses 4 34)
    ∷ program (a ∷ symbol :- ∷ listed 16 a (symbol comma ∷ symbol underscore ∷ [])) (refuses 4 34)
    ∷ program (a ∷ symbol :- ∷ listed 16 a (symbol comma ∷ too_great ∷ [])) (refuses 3 34)
    ∷ program (a ∷ symbol :- ∷ listed 16 a (symbol comma ∷ symbol :- ∷ [])) (refuses 2 34)
    ∷ []

-- 64 bytes, and 65; but 2 where the grammar can't have the token
unfoldable pub word_examples : List Example
word_examples =
    program (name (replicate 64 97) ∷ end) (reads (fact (record { negative = false; name = replicate 64 97; arguments = [] }) ∷ []))
    ∷ program (name (replicate 65 97) ∷ end) (refuses 4 0)
    ∷ program (symbol minus ∷ name (replicate 65 97) ∷ end) (refuses 4 1)
    ∷ program (call (variable (replicate 65 88) ∷ close)) (refuses 4 2)
    ∷ program (a ∷ name (replicate 65 97) ∷ end) (refuses 2 1)
    ∷ facts (call (variable (replicate 65 88) ∷ close)) (refuses 2 2)
    ∷ []

-- a string where a term may stand, of 64 bytes, `\"` being two of them, and of 65; but 2 where the grammar can't have it; as argument 9 and literal 17
unfoldable pub string_examples : List Example
string_examples =
    program (call (string (replicate 64 97) ∷ close)) (reads (fact (atom_a (constant (Value.string (replicate 64 97)) ∷ [])) ∷ []))
    ∷ program (call (string (replicate 65 97) ∷ close)) (refuses 4 2)
    ∷ program (call (string (92 ∷ 34 ∷ replicate 62 97) ∷ close)) (reads (fact (atom_a (constant (Value.string (92 ∷ 34 ∷ replicate 62 97)) ∷ [])) ∷ []))
    ∷ program (call (string (92 ∷ 34 ∷ replicate 63 97) ∷ close)) (refuses 4 2)
    ∷ facts (call (string [] ∷ close)) (reads (fact (atom_a (constant (Value.string []) ∷ [])) ∷ []))
    ∷ facts (call (string (replicate 65 97) ∷ close)) (refuses 4 2)
    ∷ program (symbol :- ∷ string (97 ∷ []) ∷ equals ∷ string [] ∷ symbol plus ∷ string [] ∷ end) (reads (constraint (builtin equal (constant (Value.string (97 ∷ []))) (Side.computed (constant (Value.string [])) Operation.plus (constant (Value.string []))) ∷ []) ∷ []))
    ∷ program (string (replicate 65 97) ∷ end) (refuses 2 0)
    ∷ program (symbol :- ∷ symbol not ∷ string [] ∷ equals ∷ a ∷ end) (refuses 2 2)
    ∷ program (symbol :- ∷ symbol minus ∷ string [] ∷ equals ∷ a ∷ end) (refuses 2 2)
    ∷ program (symbol :- ∷ string [] ∷ end) (refuses 2 2)
    ∷ program (call (symbol minus ∷ string [] ∷ close)) (refuses 2 3)
    ∷ program (string [] ∷ symbol opening ∷ a ∷ close) (refuses 2 0)
    ∷ program (call (listed 9 (string []) close)) (refuses 4 18)
    ∷ program (a ∷ symbol :- ∷ listed 16 a (symbol comma ∷ string (replicate 65 97) ∷ [])) (refuses 4 34)
    ∷ []

-- 1,000,000,000, and one more; -0 is 0; a number begins with 0 only where it is 0
unfoldable pub number_examples : List Example
number_examples =
    program (call (number 1_000_000_000 ∷ close)) (reads (fact (atom_a (value 1_000_000_000 ∷ [])) ∷ []))
    ∷ program (call (symbol minus ∷ number 1_000_000_000 ∷ close)) (reads (fact (atom_a (constant (Value.number (negsuc 999_999_999)) ∷ [])) ∷ []))
    ∷ program (call (too_great ∷ close)) (refuses 3 2)
    ∷ program (call (symbol minus ∷ too_great ∷ close)) (refuses 3 3)
    ∷ program (call (symbol minus ∷ number 0 ∷ close)) (reads (fact (atom_a (value 0 ∷ [])) ∷ []))
    ∷ program (call (number 0 ∷ number 0 ∷ number 7 ∷ close)) (refuses 2 3)
    ∷ []

-- 16 variables, each `_` counting and each other once, and 17
unfoldable pub variable_examples : List Example
variable_examples =
    program (call (listed 8 (symbol underscore) (body (listed 8 (symbol underscore) close)))) (reads (rule (atom_a (variables 0 8)) (positive (atom_a (variables 8 8)) ∷ []) ∷ []))
    ∷ program (call (listed 8 (symbol underscore) (body (listed 8 (symbol underscore) (symbol closing ∷ symbol comma ∷ X ∷ equals ∷ a ∷ end))))) (refuses 4 38)
    ∷ program (call (listed 8 X (body (listed 8 (symbol underscore) (symbol closing ∷ symbol comma ∷ X ∷ equals ∷ a ∷ end))))) (reads (rule (atom_a (replicate 8 (Term.variable 0))) (positive (atom_a (variables 1 8)) ∷ builtin equal (Term.variable 0) (plain value_a) ∷ []) ∷ []))
    ∷ []

-- 256 rules, and 257; 1,024 facts, and 1,025
unfoldable pub rule_examples : List Example
rule_examples =
    program [] (reads [])
    ∷ program (repeated 256 []) (reads (replicate 256 (fact (atom_a []))))
    ∷ program (repeated 256 (symbol :- ∷ [])) (refuses 4 512)
    ∷ program (repeated 256 (symbol closing ∷ [])) (refuses 2 512)
    ∷ facts (repeated 1_024 []) (reads (replicate 1_024 (fact (atom_a []))))
    ∷ facts (repeated 1_024 (symbol minus ∷ [])) (refuses 4 2_048)
    ∷ facts (repeated 1_024 (symbol :- ∷ [])) (refuses 2 2_048)
    ∷ []

-- what may stand where: -a=b, not a=b, a()=b, not X=1, not -1=1, X=-a, a(-a), not(a), a, a b, a(a,); and on a facts line a:-a and a(_)
unfoldable pub wrong_examples : List Example
wrong_examples =
    program (symbol :- ∷ symbol minus ∷ a ∷ equals ∷ a ∷ end) (refuses 2 3)
    ∷ program (symbol :- ∷ symbol not ∷ a ∷ equals ∷ a ∷ end) (refuses 2 3)
    ∷ program (symbol :- ∷ a ∷ symbol opening ∷ symbol closing ∷ equals ∷ a ∷ end) (refuses 2 4)
    ∷ program (symbol :- ∷ symbol not ∷ X ∷ equals ∷ number 1 ∷ end) (refuses 2 2)
    ∷ program (symbol :- ∷ symbol not ∷ symbol minus ∷ number 1 ∷ equals ∷ number 1 ∷ end) (refuses 2 3)
    ∷ program (symbol :- ∷ X ∷ equals ∷ symbol minus ∷ a ∷ end) (refuses 2 4)
    ∷ program (call (symbol minus ∷ a ∷ close)) (refuses 2 3)
    ∷ program (symbol not ∷ symbol opening ∷ a ∷ close) (refuses 2 0)
    ∷ program (a ∷ []) (refuses 2 1)
    ∷ program (a ∷ stray 58 ∷ a ∷ end) (refuses 2 1)
    ∷ program (call (a ∷ symbol comma ∷ close)) (refuses 2 4)
    ∷ facts (a ∷ symbol :- ∷ a ∷ end) (refuses 2 1)
    ∷ facts (call (symbol underscore ∷ close)) (refuses 2 2)
    ∷ []

-- a(). is a.; <> is !=, and each `_` its own variable; a name may stand on the left of a comparison
unfoldable pub rule_forms : List Example
rule_forms =
    program (call close) (reads (fact (atom_a []) ∷ []))
    ∷ program (symbol :- ∷ X ∷ comparison <> ∷ symbol underscore ∷ symbol minus ∷ X ∷ end) (reads (constraint (builtin unequal (Term.variable 0) (Side.computed (Term.variable 1) Operation.minus (Term.variable 0)) ∷ []) ∷ []))
    ∷ program (symbol :- ∷ a ∷ equals ∷ X ∷ end) (reads (constraint (builtin equal value_a (plain (Term.variable 0)) ∷ []) ∷ []))
    ∷ []

unfoldable pub examples : List Example
examples = argument_examples ++ head_examples ++ bar_examples ++ literal_examples ++ word_examples ++ string_examples ++ number_examples ++ variable_examples ++ rule_examples ++ wrong_examples ++ rule_forms

-- a():-not a(-0),-a,a<>X. is a:-not a(0),-a,a!=X.; :-X=1--0. is :-X=1-0.; :-X=-0- -10. is :-X=0--10.; a string stays as it is;
-- a|-a():-a(). is a|-a:-a.
unfoldable pub plain_examples : List PlainExample
plain_examples =
    record { text = a ∷ symbol opening ∷ symbol closing ∷ symbol :- ∷ symbol not ∷ call (symbol minus ∷ number 0 ∷ symbol closing ∷ symbol comma ∷ symbol minus ∷ a ∷ symbol comma ∷ a ∷ comparison <> ∷ X ∷ end); plain = 97 ∷ 58 ∷ 45 ∷ 110 ∷ 111 ∷ 116 ∷ 32 ∷ 97 ∷ 40 ∷ 48 ∷ 41 ∷ 44 ∷ 45 ∷ 97 ∷ 44 ∷ 97 ∷ 33 ∷ 61 ∷ 88 ∷ 46 ∷ [] }
    ∷ record { text = symbol :- ∷ X ∷ equals ∷ number 1 ∷ symbol minus ∷ symbol minus ∷ number 0 ∷ end; plain = 58 ∷ 45 ∷ 88 ∷ 61 ∷ 49 ∷ 45 ∷ 48 ∷ 46 ∷ [] }
    ∷ record { text = symbol :- ∷ X ∷ equals ∷ symbol minus ∷ number 0 ∷ symbol minus ∷ symbol minus ∷ number 10 ∷ end; plain = 58 ∷ 45 ∷ 88 ∷ 61 ∷ 48 ∷ 45 ∷ 45 ∷ 49 ∷ 48 ∷ 46 ∷ [] }
    ∷ record { text = symbol :- ∷ string (97 ∷ 92 ∷ 34 ∷ []) ∷ comparison <> ∷ X ∷ end; plain = 58 ∷ 45 ∷ 34 ∷ 97 ∷ 92 ∷ 34 ∷ 34 ∷ 33 ∷ 61 ∷ 88 ∷ 46 ∷ [] }
    ∷ record { text = a ∷ symbol bar ∷ symbol minus ∷ a ∷ symbol opening ∷ symbol closing ∷ symbol :- ∷ call close; plain = 97 ∷ 124 ∷ 45 ∷ 97 ∷ 58 ∷ 45 ∷ 97 ∷ 46 ∷ [] }
    ∷ []
