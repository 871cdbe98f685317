-- Worked examples of rules with several heads.
use Rattle.std.specs.Prelude.{true, List, [], ◌∷◌, replicate}
use Rattle.meaning.specs.Rules.{Term, positive}
use Rattle.grammar.specs.Tokens.{underscore, not, minus, closing, comma, :-, bar, symbol}
use Rattle.grammar.specs.Example.{reads, refuses, Example}
use Rattle.grammar.specs.Words.{program, facts, a, X, equals, end, close, listed, barred, call, body, too_great, atom_a, with_heads}

-- 4 heads, and 5, whose first token is blamed and not its `|`; variables are numbered from the first head on
unfoldable pub head_examples : List Example
head_examples =
    program (barred 4 a end) (reads (with_heads (replicate 4 (atom_a [])) [] ∷ []))
    ∷ program (barred 5 a end) (refuses 4 8)
    ∷ program (barred 4 a (symbol bar ∷ symbol minus ∷ a ∷ end)) (refuses 4 8)
    ∷ program (barred 4 a (symbol bar ∷ end)) (refuses 2 8)
    ∷ program (barred 4 a (symbol bar ∷ too_great ∷ end)) (refuses 2 8)
    ∷ program (barred 4 a (symbol :- ∷ a ∷ end)) (reads (with_heads (replicate 4 (atom_a [])) (positive (atom_a []) ∷ []) ∷ []))
    ∷ program (call (X ∷ symbol closing ∷ symbol bar ∷ symbol minus ∷ call (symbol underscore ∷ symbol comma ∷ X ∷ body (symbol underscore ∷ symbol comma ∷ X ∷ close)))) (reads (with_heads (atom_a (Term.variable 0 ∷ []) ∷ record { negative = true; name = 97 ∷ []; arguments = Term.variable 1 ∷ Term.variable 0 ∷ [] } ∷ []) (positive (atom_a (Term.variable 2 ∷ Term.variable 0 ∷ [])) ∷ []) ∷ []))
    ∷ program (call (listed 8 (symbol underscore) (symbol closing ∷ symbol bar ∷ call (listed 8 (symbol underscore) (symbol closing ∷ symbol bar ∷ call (X ∷ close)))))) (refuses 4 40)
    ∷ []

-- a `|` where no head stands before it or behind it: a|., |a., a||a., a|:-a., a|not a., a|X=a., a| and the end, :-a|a., a(a|a).; and on a facts
-- line a|a. and |
unfoldable pub bar_examples : List Example
bar_examples =
    program (a ∷ symbol bar ∷ end) (refuses 2 2)
    ∷ program (symbol bar ∷ a ∷ end) (refuses 2 0)
    ∷ program (a ∷ symbol bar ∷ symbol bar ∷ a ∷ end) (refuses 2 2)
    ∷ program (a ∷ symbol bar ∷ symbol :- ∷ a ∷ end) (refuses 2 2)
    ∷ program (a ∷ symbol bar ∷ symbol not ∷ a ∷ end) (refuses 2 2)
    ∷ program (a ∷ symbol bar ∷ X ∷ equals ∷ a ∷ end) (refuses 2 2)
    ∷ program (a ∷ symbol bar ∷ []) (refuses 2 2)
    ∷ program (symbol :- ∷ a ∷ symbol bar ∷ a ∷ end) (refuses 2 2)
    ∷ program (call (a ∷ symbol bar ∷ a ∷ close)) (refuses 2 3)
    ∷ facts (a ∷ symbol bar ∷ a ∷ end) (refuses 2 1)
    ∷ facts (symbol bar ∷ []) (refuses 2 0)
    ∷ []
