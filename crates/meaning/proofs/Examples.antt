-- T1 to T12, the sites that are numbers, and either site that may have issued: the quick check computes each outcome, so each is the one that answers.
use mathlib.Core.Path.{◌≡◌, refl}
use mathlib.Core.Bool.{true}
use mathlib.Core.Logic.{inl, inr}
use mathlib.Core.List.{List, [], ◌∷◌}
use Rattle.meaning.specs.Sets.{In, every, any, only}
use Rattle.meaning.specs.Rules.{predicate, several, disjunctive}
use Rattle.meaning.specs.Values.{same_number, same_bytes, same_value, bytes_before, value_before, compare_by, compare_values, number?, operate_numbers, operate_numbers?, operate_values, values, in_range}
use Rattle.meaning.specs.Safety.{in_term, in_side, in_atom, positives, in_positives, term_bound, side_bound, atom_bound, literal_bound, head_bound, when, else, gain_left, gain, next_gain, with, scan, equations, bound_after, bound, safe}
use Rattle.meaning.specs.Instances.{same_sign, same_predicate, same_arguments, same_fact, member, value, instance, side_value, compares, true_in, head_true}
use Rattle.meaning.specs.Matchings.{value?, operate?, side?}
use Rattle.meaning.specs.Verdicts.{way}
use Rattle.meaning.specs.Outcomes.{MeansOutcome}
use Rattle.meaning.specs.Ascii.{last_bytes, ascii}
use Rattle.meaning.specs.Graph.{fires, level, agree, least, rounds}
use Rattle.meaning.specs.Clauses.{stuck, add, search}
use Rattle.meaning.specs.Matcher.{bind, then, match_variable, match_term, match_arguments, match_atom, place, onward, walk, match_all, set_to, complete, total, choose, choices}
use Rattle.meaning.specs.Quick.{find, found_at, seek, breaks, broken, unfit, side_overflows, literal_overflows, overflows, overflow, rule_gives, gives, edges, clause_of, clauses, by_levels, smaller_set, shows, judge, quick_by, quick, settle, outcome}
use Rattle.meaning.specs.Examples.{Example, examples, ordered, disjunctions}
use Rattle.meaning.proofs.Values.{value_laws}
use Rattle.meaning.proofs.Settled.{settled_outcome}

-- to unfold this is to unfold all that the check computes with
opened : Unit {0}
unfolding every any only predicate several disjunctive same_number same_bytes same_value bytes_before value_before compare_by compare_values number? operate_numbers operate_numbers? operate_values in_range in_term in_side in_atom positives in_positives term_bound side_bound atom_bound literal_bound head_bound when else gain_left gain next_gain with scan equations bound_after bound safe same_sign same_predicate same_arguments same_fact member value instance side_value compares true_in head_true value? operate? side? way last_bytes ascii fires level agree least rounds stuck add search bind then match_variable match_term match_arguments match_atom place onward walk match_all set_to complete total choose choices find found_at seek breaks broken unfit side_overflows literal_overflows overflows overflow rule_gives gives edges clause_of clauses by_levels smaller_set shows judge quick_by quick settle outcome
opened = tt

-- the rules are safe, and the quick check computes the outcome
abbrev Computed : List Example → Type 0
Computed [] = Unit {0}
Computed (e ∷ es) = ((every safe e.program ≡ true) × (outcome values in_range e.program e.candidate ≡ e.outcome)) × Computed es

computed : Computed examples
unfolding opened
computed = ((refl, refl), ((refl, refl), ((refl, refl), ((refl, refl), ((refl, refl), ((refl, refl), ((refl, refl), ((refl, refl), ((refl, refl), ((refl, refl), ((refl, refl), ((refl, refl), tt))))))))))))

answered : (l : List Example) → Computed l → (e : Example) → In e l → MeansOutcome values in_range e.program e.candidate e.outcome
answered [] r e m = absurd m
answered (x ∷ xs) r e (inl p) = rw p ((settled_outcome values value_laws in_range x.program x.candidate r.0.0 x.outcome).1 r.0.1)
answered (x ∷ xs) r e (inr m) = answered xs r.1 e m

-- each of the twelve has the outcome that document 01 states
pub twelve : (e : Example) → In e examples → MeansOutcome values in_range e.program e.candidate e.outcome
twelve e m = answered examples computed e m

ordered_computed : Computed ordered
unfolding opened
ordered_computed = ((refl, refl), ((refl, refl), ((refl, refl), tt)))

-- and with numbers, names and strings in one order, each of these has its own
pub one_order : (e : Example) → In e ordered → MeansOutcome values in_range e.program e.candidate e.outcome
one_order e m = answered ordered ordered_computed e m

disjunctions_computed : Computed disjunctions
unfolding opened
disjunctions_computed = ((refl, refl), ((refl, refl), ((refl, refl), ((refl, refl), ((refl, refl), ((refl, refl), ((refl, refl), tt)))))))

-- and with several heads, each of these
pub either_site : (e : Example) → In e disjunctions → MeansOutcome values in_range e.program e.candidate e.outcome
either_site e m = answered disjunctions disjunctions_computed e m
