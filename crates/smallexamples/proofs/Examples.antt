-- T1 to T12, the sites that are numbers, and either site that may have issued: the texts are read as the rules and facts of the meaning's list of the
-- same examples, whose outcomes are settled there (`meaning`, Examples), and each of these outcomes says what is stated of the texts.
use mathlib.Core.Path.{◌≡◌, refl, sym as inv, ap}
use mathlib.Core.Bool.{Bool, true, ◌&&◌}
use mathlib.Core.Logic.{inl, inr}
use mathlib.Core.Option.{Option, some}
use mathlib.Core.List.{List, [], ◌∷◌, ◌++◌, map, head-eq_of_cons-eq, tail-eq_of_cons-eq}
use Prim.Native.Nat.{ℕ, ◌≤◌}
use native.Mathlib.Omega.{arith}
use lib.Dec.{leb, ltb}
use lib.ListN.{length, drop}
use borrow.Author.Tests.{leb-true}
use Rattle.texts.specs.Place.{newlines, since, line_of, column_of}
use Rattle.lexis.specs.Class.{class_of}
use Rattle.lexis.specs.Run.{is_blank}
use Rattle.texts.specs.Prefix.{prefix_len}
use Rattle.tokens.specs.Gap.{starts_comment, gap}
use Rattle.lexis.specs.Strings.{between, longer, closing}
use Rattle.lexis.specs.Number.{decimal_after}
use Rattle.lexis.specs.Spelling.{single_kind, pair_kind, name_kind}
use Rattle.tokens.specs.Token.{mark_at, string_at, other_at, token_at, next_token}
use Rattle.tokens.specs.Tokens.{tokens_up_to, tokens_from}
use Rattle.meaning.specs.Sets.{In, every, any, Each}
use Rattle.meaning.specs.Rules.{Fact, Rule, predicate, several, disjunctive}
use Rattle.meaning.specs.Values.{same_number, same_bytes, same_value, Value, values, in_range}
use Rattle.meaning.specs.Safety.{in_term, in_atom, positives, in_positives, term_bound, side_bound, when, else, gain_left, gain, next_gain, with, scan, equations, bound_after, bound}
use Rattle.meaning.specs.Instances.{same_sign, same_predicate, same_arguments, same_fact}
use Rattle.meaning.specs.Matcher.{then}
use Rattle.meaning.specs.Outcomes.{MeansOutcome}
use Rattle.meaning.specs.Ascii.{last_bytes, ascii}
use Rattle.meaning.specs.Examples as meant
use Rattle.meaning.proofs.Booleans.{and_left, and_right, when_some, then_some, some_inj}
use Rattle.meaning.proofs.Examples as settled
use Rattle.grammar.specs.Moves.{comparison_number, sign_number, token_number}
use Rattle.grammar.specs.Abstraction.{value_for, values_for, argument_values_for, fact_for, facts_for}
use Rattle.grammar.proofs.Computing.{computing}
use Rattle.syntax.specs.Text.{token_of}
use Rattle.rule_places.specs.Sentences.{behind_dots, dot_end, to_dot, sentence}
use Rattle.program.proofs.Numbered.{head_variables, rule_variables}
use Rattle.report.specs.Lines.{lines_at}
use Rattle.report.specs.Word.{starts_with}
use Rattle.report.proofs.Answers.{report_of, out_of_place_of}
use Rattle.promise.specs.Answer.{Result, positions, says, result}
use Rattle.promise.specs.Cases.{most_tested}
use Rattle.promise.specs.Judged.{settles}
use Rattle.promise.specs.Answered.{rule_part}
use Rattle.smallexamples.specs.Examples.{Example, Holds, examples, ordered, disjunctions, untested}
use Rattle.smallexamples.proofs.Unclashing.{unlike, apart}
use Rattle.smallexamples.proofs.Bound.{every_below, all_bound}
use Rattle.smallexamples.proofs.Texts.{fits, tree_of, tree_in, program_rules, is_answer, answer_of, is_nothing, line_facts, output_facts, program_taken, output_taken, facts_untested, answered_with_room, answered_untested, answered_without_room}

-- to unfold this is to unfold all that reading a text computes with
read_opened : Unit {0}
unfolding class_of is_blank prefix_len starts_comment gap between longer closing decimal_after single_kind pair_kind name_kind mark_at string_at other_at token_at next_token tokens_up_to tokens_from every any predicate same_number same_bytes same_value in_term in_atom positives in_positives term_bound side_bound when else gain_left gain next_gain with scan equations bound_after bound same_sign same_predicate same_arguments same_fact then last_bytes ascii value_for values_for argument_values_for fact_for facts_for computing token_of head_variables rule_variables lines_at starts_with report_of out_of_place_of unlike apart every_below all_bound fits tree_of tree_in program_rules is_answer answer_of is_nothing line_facts output_facts
read_opened = tt

-- ---- the texts are read as the rules and facts

record Taken : Type 0 where
  rules : Option (List (Rule Value))
  candidate : Option (List (Fact Value))

abbrev from_texts : Example → Taken
from_texts e = record { rules = program_rules e.program; candidate = output_facts e.output }

abbrev as_meant : meant.Example → Taken
as_meant m = record { rules = some m.program; candidate = some m.candidate }

read_as_meant : map from_texts examples ≡ map as_meant meant.examples
unfolding read_opened
read_as_meant = refl

counted : map (λ (e : Example). e.facts) examples ≡ map (λ (m : meant.Example). length m.candidate) meant.examples
counted = refl

-- ---- the outcomes say what is stated

abbrev Says : Example → meant.Example → Type 0
Says e m = ◌≡◌ {A = List ℕ → Result} (λ places. result places (settles (rule_part e.program) places m.outcome)) (λ places. record { answer = e.answer; places = e.rounds ++ drop (length e.rounds) places })

say : Each Says examples meant.examples
unfolding read_opened token_number sign_number comparison_number behind_dots dot_end to_dot sentence positions says result settles newlines since line_of column_of
say = (refl, (refl, (refl, (refl, (refl, (refl, (refl, (refl, (refl, (refl, (refl, (refl, tt))))))))))))

-- ---- so each of the twelve holds

abbrev Settled : meant.Example → Type 0
Settled m = MeansOutcome values in_range m.program m.candidate m.outcome

one_holds : (e : Example) (m : meant.Example) → from_texts e ≡ as_meant m → e.facts ≡ length m.candidate → e.facts ≤ most_tested → Says e m → Settled m → Holds e
one_holds e m taken facts tested says answers =
    let p = program_taken e.program m.program (ap (λ (x : Taken). x.rules) taken) in
    let c = output_taken e.output m.candidate (ap (λ (x : Taken). x.candidate) taken) in
    record {
      answered = λ places room. answered_with_room e.program e.output m.program m.candidate p c places m.outcome answers (omega (arith, facts, tested)) (omega (arith, facts, room)) _ _ (inv (ap (λ (f : List ℕ → Result). f places) says));
      short = λ places few. answered_without_room e.program e.output m.program m.candidate p c places (omega (arith, facts, few));
    }

abbrev is_tested : Example → Bool
is_tested e = leb e.facts most_tested

all_hold : (es : List Example) (ms : List meant.Example) → map from_texts es ≡ map as_meant ms → map (λ (e : Example). e.facts) es ≡ map (λ (m : meant.Example). length m.candidate) ms → every is_tested es ≡ true → Each Says es ms → ((m : meant.Example) → In m ms → Settled m) → (e : Example) → In e es → Holds e
unfolding every
all_hold [] ms t c f s settled e i = absurd i
all_hold (x ∷ es) [] t c f s settled e i = absurd s
all_hold (x ∷ es) (m ∷ ms) t c f s settled e (inl q) = rw q (one_holds x m (head-eq_of_cons-eq t) (head-eq_of_cons-eq c) (leb-true x.facts most_tested (and_left (is_tested x) (every is_tested es) f)) s.0 (settled m (inl refl)))
all_hold (x ∷ es) (m ∷ ms) t c f s settled e (inr i) = all_hold es ms (tail-eq_of_cons-eq t) (tail-eq_of_cons-eq c) (and_right (is_tested x) (every is_tested es) f) s.1 (λ n j. settled n (inr j)) e i

pub twelve : (e : Example) → In e examples → Holds e
unfolding every
twelve e i = all_hold examples meant.examples read_as_meant counted refl say settled.twelve e i

-- ---- and so do those of one order

ordered_as_meant : map from_texts ordered ≡ map as_meant meant.ordered
unfolding read_opened
ordered_as_meant = refl

ordered_counted : map (λ (e : Example). e.facts) ordered ≡ map (λ (m : meant.Example). length m.candidate) meant.ordered
ordered_counted = refl

ordered_say : Each Says ordered meant.ordered
unfolding read_opened token_number sign_number comparison_number behind_dots dot_end to_dot sentence positions says result settles newlines since line_of column_of
ordered_say = (refl, (refl, (refl, tt)))

pub one_order : (e : Example) → In e ordered → Holds e
unfolding every
one_order e i = all_hold ordered meant.ordered ordered_as_meant ordered_counted refl ordered_say settled.one_order e i

-- ---- and those with several heads

disjunctions_as_meant : map from_texts disjunctions ≡ map as_meant meant.disjunctions
unfolding read_opened
disjunctions_as_meant = refl

disjunctions_counted : map (λ (e : Example). e.facts) disjunctions ≡ map (λ (m : meant.Example). length m.candidate) meant.disjunctions
disjunctions_counted = refl

disjunctions_say : Each Says disjunctions meant.disjunctions
unfolding read_opened token_number sign_number comparison_number behind_dots dot_end to_dot sentence positions says result settles newlines since line_of column_of
disjunctions_say = (refl, (refl, (refl, (refl, (refl, (refl, (refl, tt)))))))

pub either_site : (e : Example) → In e disjunctions → Holds e
unfolding every
either_site e i = all_hold disjunctions meant.disjunctions disjunctions_as_meant disjunctions_counted refl disjunctions_say settled.either_site e i

-- ---- 12

untested_counted : facts_untested untested.program untested.output ≡ some 21
unfolding read_opened facts_untested several disjunctive
untested_counted = refl

-- more facts than are tested, beside a rule with several heads
pub refused_untested : Holds untested
unfolding facts_untested
refused_untested =
    let rules = then_some (program_rules untested.program) _ 21 untested_counted in
    let facts = then_some (output_facts untested.output) _ 21 rules.2 in
    let tests = when_some (disjunctive rules.0 && ltb most_tested (length facts.0)) _ 21 facts.2 in
    let count : length facts.0 ≡ 21 = some_inj tests.1 in
    let p = program_taken untested.program rules.0 rules.1 in
    let c = output_taken untested.output facts.0 facts.1 in
    record {
      answered = λ places room. answered_untested untested.program untested.output rules.0 facts.0 p c places (and_left _ _ tests.0) (omega (arith, count)) (omega (arith, count, room));
      short = λ places few. answered_without_room untested.program untested.output rules.0 facts.0 p c places (omega (arith, count, few));
    }
