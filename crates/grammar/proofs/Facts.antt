-- The rules that a facts line stands for are its facts.
use mathlib.Core.Path.{◌≡◌, refl, ap}
use mathlib.Core.Bool.{true}
use mathlib.Core.List.{List, [], ◌∷◌, map}
use Rattle.reading.specs.Reading.{◌▹◌}
use Rattle.meaning.specs.Values.{Value}
use Rattle.meaning.specs.Rules.{constant, Fact, Rule as MeantRule}
use Rattle.grammar.specs.Trees.{Sequence, empty, ◌then◌, Term, name, variable, string, number, negative, anonymous, bare, parentheses, arguments, atom, head, also, Rule, fact, clause, Program}
use Rattle.grammar.specs.Variables.{Variables}
use Rattle.grammar.specs.Abstraction.{term_for, terms_for, arguments_for, atom_for, heads_for, rule_for, rules_for, value_for, values_for, argument_values_for, fact_for, facts_for}

-- a fact as a rule
unfoldable pub fact_rule : Fact Value → MeantRule Value
fact_rule f = record { heads = record { negative = f.negative; name = f.name; arguments = map constant f.arguments } ∷ []; body = [] }

ground_term : (vs : Variables) (t : Term true) → term_for vs t ≡ constant (value_for t)
unfolding term_for value_for
ground_term vs (name b) = refl
ground_term vs (variable u b) = absurd u
ground_term vs (string b) = refl
ground_term vs (number n) = refl
ground_term vs (negative n) = refl
ground_term vs (anonymous u) = absurd u

map_on : {A B : Type 0} (f : A → B) (l : List A) (x : A) → map f (l ▹ x) ≡ map f l ▹ f x
map_on f [] x = refl
map_on f (y ∷ l) x = ap (λ z. f y ∷ z) (map_on f l x)

ground_terms : (vs : Variables) (ts : Sequence (Term true)) → terms_for vs ts ≡ map constant (values_for ts)
unfolding terms_for values_for
ground_terms vs empty = refl
ground_terms vs (ts then t) = rw (ground_terms vs ts, ground_term _ t, map_on constant (values_for ts))

pub fact_is_rule : (r : Rule true) → rule_for r ≡ fact_rule (fact_for r)
unfolding rule_for heads_for fact_for fact_rule atom_for arguments_for argument_values_for
fact_is_rule (fact (head (atom s b bare))) = refl
fact_is_rule (fact (head (atom s b parentheses))) = refl
fact_is_rule (fact (head (atom s b (arguments ts t)))) = rw (ground_terms [] (ts then t))
fact_is_rule (fact (also u hs x)) = absurd u
fact_is_rule (clause u h ls l) = absurd u

pub facts_are_rules : (p : Program true) → rules_for p ≡ map fact_rule (facts_for p)
unfolding rules_for facts_for
facts_are_rules empty = refl
facts_are_rules (p then r) = rw (facts_are_rules p, fact_is_rule r, map_on fact_rule (facts_for p))
