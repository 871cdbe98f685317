-- What a tree stands for, in the types of the meaning: `p()` is `p`, `-0` is `0`, `<>` is `!=`, and a variable is its number.
use Rattle.std.specs.Prelude.{Bool, true, List, [], ◌∷◌, pos, neg_ℤ, length}
use Rattle.std.proofs.Math.Option.{none, some}
use Rattle.reading.specs.Reading.{◌▹◌}
use Rattle.meaning.specs.Domain.{Comparison, unequal}
use Rattle.meaning.specs.Values.{Value}
use Rattle.meaning.specs.Rules.{Term as RuleTerm, constant, Atom as RuleAtom, Fact, Side, plain, Literal as RuleLiteral, builtin, Rule as MeantRule}
use Rattle.grammar.specs.Tokens.{Sign, sign, <>}
use Rattle.grammar.specs.Trees.{Sequence, empty, ◌then◌, Term, name, variable, string, number, negative, anonymous, Arguments, bare, parentheses, arguments, Atom, atom, Literal, positive, negated, compared, computed, Heads, head, also, Rule, fact, clause, Program}
use Rattle.grammar.specs.Spelling.{inside, with_commas, spell_term, spell_argument, spell_nth_literal, spell_compared, spell_heads}
use Rattle.grammar.specs.Variables.{Variables, number_of, met}

-- vs: the variables of the rule that are met before

unfoldable pub term_for : {ground : Bool} → Variables → Term ground → RuleTerm Value
term_for vs (name b) = constant (Value.name b)
term_for vs (variable u b) = RuleTerm.variable (number_of b vs)
term_for vs (string b) = constant (Value.string b)
term_for vs (number n) = constant (Value.number (pos n))
term_for vs (negative n) = constant (Value.number (neg_ℤ (pos n)))
term_for vs (anonymous u) = RuleTerm.variable (length vs)

unfoldable pub terms_for : {ground : Bool} → Variables → Sequence (Term ground) → List (RuleTerm Value)
terms_for vs empty = []
terms_for vs (ts then t) = terms_for vs ts ▹ term_for (met vs (with_commas spell_argument ts)) t

unfoldable pub arguments_for : {ground : Bool} → Variables → Arguments ground → List (RuleTerm Value)
arguments_for vs bare = []
arguments_for vs parentheses = []
arguments_for vs (arguments ts t) = terms_for vs (ts then t)

unfoldable pub atom_for : {ground : Bool} → Variables → Atom ground → RuleAtom (RuleTerm Value)
atom_for vs (atom s b xs) = record { negative = s; name = b; arguments = arguments_for vs xs }

unfoldable pub comparison_for : Sign → Comparison
comparison_for (sign c) = c
comparison_for <> = unequal

unfoldable pub literal_for : {ground : Bool} → Variables → Literal ground → RuleLiteral Value
literal_for vs (positive x) = RuleLiteral.positive (atom_for vs x)
literal_for vs (negated x) = RuleLiteral.negated (atom_for vs x)
literal_for vs (compared t r u) = builtin (comparison_for r) (term_for vs t) (plain (term_for (met vs (spell_term inside t)) u))
literal_for vs (computed t r u o v) = builtin (comparison_for r) (term_for vs t) (Side.computed (term_for (met vs (spell_term inside t)) u) o (term_for (met vs (spell_compared inside t r u)) v))

unfoldable pub literals_for : {ground : Bool} → Variables → Sequence (Literal ground) → List (RuleLiteral Value)
literals_for vs empty = []
literals_for vs (ls then l) = literals_for vs ls ▹ literal_for (met vs (with_commas spell_nth_literal ls)) l

-- the variables of a rule are met from its first head on
unfoldable pub heads_for : {ground : Bool} → Heads ground → List (RuleAtom (RuleTerm Value))
heads_for (head x) = atom_for [] x ∷ []
heads_for (also u hs x) = heads_for hs ▹ atom_for (met [] (spell_heads inside hs)) x

unfoldable pub rule_for : {ground : Bool} → Rule ground → MeantRule Value
rule_for (fact hs) = record { heads = heads_for hs; body = [] }
rule_for (clause u none ls l) = record { heads = []; body = literals_for [] (ls then l) }
rule_for (clause u (some hs) ls l) = record { heads = heads_for hs; body = literals_for (met [] (spell_heads inside hs)) (ls then l) }

-- the rules of a program, in text order
unfoldable pub rules_for : {ground : Bool} → Program ground → List (MeantRule Value)
rules_for empty = []
rules_for (p then r) = rules_for p ▹ rule_for r

-- ---- the facts of a facts line

unfoldable pub value_for : Term true → Value
value_for (name b) = Value.name b
value_for (variable u b) = absurd u
value_for (string b) = Value.string b
value_for (number n) = Value.number (pos n)
value_for (negative n) = Value.number (neg_ℤ (pos n))
value_for (anonymous u) = absurd u

unfoldable pub values_for : Sequence (Term true) → List Value
values_for empty = []
values_for (ts then t) = values_for ts ▹ value_for t

unfoldable pub argument_values_for : Arguments true → List Value
argument_values_for bare = []
argument_values_for parentheses = []
argument_values_for (arguments ts t) = values_for (ts then t)

unfoldable pub fact_for : Rule true → Fact Value
fact_for (fact (head (atom s b xs))) = record { negative = s; name = b; arguments = argument_values_for xs }
fact_for (fact (also u hs x)) = absurd u
fact_for (clause u h ls l) = absurd u

-- in text order
unfoldable pub facts_for : Program true → List (Fact Value)
facts_for empty = []
facts_for (p then r) = facts_for p ▹ fact_for r
