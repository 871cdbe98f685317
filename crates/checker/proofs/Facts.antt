-- The facts of an output that is read: they go into the store, and what is answered to them is the answer.
use mathlib.Core.Path.{◌≡◌, ◌∙◌}
use mathlib.Core.Bool.{Bool, true, false, not}
use mathlib.Core.List.{List}
use Prim.Native.Nat.{ℕ, ◌+◌, ◌≤◌, ◌<◌}
use native.Mathlib.Omega.{arith}
use lib.ListN.{length, length-take, length-drop}
use Rattle.std.specs.Prelude.{Option, Ok}
use Rattle.texts.specs.declared.place.Place.{Place}
use Rattle.texts.specs.declared.refusal.Refused.{Refused}
use Rattle.output.proofs.Stages.{counted_on_line}
use Rattle.rule_places.proofs.Inside.{sentence_inside}
use Rattle.texts.proofs.Counting.{countable}
use Rattle.texts.specs.Sizes.{most_text}
use Rattle.texts.specs.Parts.{part}
use Rattle.texts.specs.Place.{with_len, along}
use Rattle.meaning.specs.Rules.{Bytes, Rule}
use Rattle.meaning.specs.Values.{Value}
use Rattle.grammar.specs.Trees.{Program}
use Rattle.grammar.specs.Abstraction.{rules_for, facts_for}
use Rattle.codes.proofs.Pairwise.{pairwise_more}
use Rattle.codes.proofs.Names.{coded_rule_more}
use Rattle.names.specs.Table.{names_of}
use Rattle.rows.specs.Growth.{Grows}
use Rattle.rule_places.specs.Sentences.{sentence}
use Rattle.report.specs.declared.word.Word.TheVariants as words
use Rattle.report.specs.Word.{agrees}
use Rattle.output.specs.declared.OutputRead.{OutputRead}
use Rattle.output.specs.Output.{on_line}
use Rattle.output.specs.Tables.{OutputTables, Lent, FillsOutput}
use Rattle.output.proofs.Uses.{Answering, handed_on, output_answers}
use Rattle.store.specs.Store.{store_size, literals_in, rules_in}
use Rattle.filling.specs.Filling.{facts_size, FactsFillable}
use Rattle.fields.specs.declared.answer.Answer.{Answer}
use Rattle.fields.specs.Parts.{fact_place}
use Rattle.fields.specs.Checked.{Answers}
use Rattle.candidate.specs.declared.settled.Counts.{Counts}
use Rattle.candidate.specs.Standing.{RulesStand, RulesHeld, Held, InStore}
use Rattle.candidate.proofs.WithFacts.{same_fault}
use Rattle.candidate.specs.Facts.{FaultOf, FactsPut, WithFacts, AnswersFacts, Reachable}
use Rattle.checker.specs.Standing.{WithRules, BehindProgram}
use Rattle.checker.proofs.Ways.{by_candidate}

module _ (program output : Bytes) where
  more_names : (names names' : List ℕ) (n : ℕ) → Grows program output names n names' → (R : List (Rule ℕ)) (P : List (Rule Value)) → RulesStand (names_of program output names) R P → RulesStand (names_of program output names') R P
  more_names names names' n g R P s = rw g.behind (pairwise_more _ (coded_rule_more (names_of program output names) g.more) s)

  grown_held : (names names' rules literals : List ℕ) (total n : ℕ) (P : List (Rule Value)) → Grows program output names n names' → RulesHeld program output names rules literals total P → RulesHeld program output names' rules literals total P
  grown_held names names' rules literals total n P g h = record { name_table = g.in_order; rule_table = h.rule_table; rules_stand = more_names names names' n g _ P h.rules_stand; safe_rules = h.safe_rules }

  pub tables_lent : (t : OutputTables) (store : List ℕ) (total : ℕ) → WithRules program output t.names store total → facts_size ≤ length t.facts → 1_024 ≤ length t.predicates → 1_024 ≤ length t.starts → 1_024 ≤ length t.lengths → Lent program output t
  tables_lent t store total w facts predicates starts lengths = record { room = w.room; facts_long = facts; predicates_long = predicates; starts_long = starts; lengths_long = lengths }

  -- ---- behind ANSWER

  module _ (t : OutputTables) (s : OutputRead) (u : OutputTables) (read : FillsOutput program output t (Ok s) u) (e : s.word ≡ words.Answer) where
    answering : Answering program output s.line s.count t u
    answering = output_answers program output t s u read e

    line : Place
    line = answering.line

    -- where fact k stands on the line, which has no newline
    fact_on : ℕ → Place
    fact_on k = sentence true (part output line) k

    on_the_line : (k : ℕ) → (fact_on k).start ≤ line.len
    unfolding line fact_on
    on_the_line k = let i = sentence_inside true (part output line) k in let l : length (part output line) ≤ line.len = simp (length-take, length-drop) (omega arith) in omega arith

    reachable : Reachable s.line u.starts s.count
    unfolding line fact_on
    reachable k h =
        let o = handed_on output answering.stage in
        rw (answering.line_is, answering.held.starts_hold.first k h)
        (countable output line o.straight.stands (line.start + (fact_on k).start) (omega arith) (omega (arith, on_the_line k, o.inside)) (omega (arith, o.size)))

    -- the tables have their places, and so have the facts
    pub puttable : (store : List ℕ) → length store ≡ store_size → length u.facts ≡ facts_size → length u.starts ≡ 1_024 → length u.lengths ≡ 1_024 → FactsFillable u.facts u.predicates s.count store × (s.count ≤ length u.starts) × (s.count ≤ length u.lengths) × Reachable s.line u.starts s.count
    puttable store long wide starts lengths =
        let f = answering.held in
        (record { long = long; wide = wide; table = f.table; are_predicates = f.are_predicates }, omega (arith, f.table.few, starts), omega (arith, f.table.few, lengths), reachable)

    -- the place of a fact, in the output
    placed : (k : ℕ) → k < s.count → fact_place s.line u.starts u.lengths k ≡ on_line output answering.line (sentence true (part output answering.line) k)
    unfolding line fact_on
    placed k here =
        let f = answering.held in
        (λ i. with_len (along (answering.line_is i) (f.starts_hold.first k here i)) (f.lengths_hold.first k here i))
        ∙ counted_on_line output line (handed_on output answering.stage).straight (fact_on k) (on_the_line k)

    module _ (store store' : List ℕ) (fault : Option Refused) (put : FactsPut s.line u.facts u.starts u.lengths s.count store store' fault) (total : ℕ) where
      abbrev counts : Counts
      counts = record { facts = s.count; rules = total }

      in_store : (P : List (Rule Value)) → RulesHeld program output t.names (rules_in store) (literals_in store) total P → InStore program output u.names store' counts P (facts_for answering.tree_of)
      in_store P h =
          let f = answering.held in
          let held : Held program output u.names (rules_in store) (literals_in store) u.facts s.count total P (facts_for answering.tree_of) = record { rules_held = grown_held t.names u.names (rules_in store) (literals_in store) total _ P f.grows h; fact_table = f.table; facts_stand = f.stands } in
          rw (put.filled.rules_are, put.filled.literals_are, put.filled.facts_are) (record { held = held; linked = put.filled.linked })

      -- the fault, by the tables of places and in the output
      faulty : FaultOf store' counts fault put.clash (fact_place s.line u.starts u.lengths)
      faulty = record { first_clash = rw put.filled.facts_are put.filled.clash; is = put.is }

      faulty_there : FaultOf store' counts fault put.clash (λ k. on_line output answering.line (sentence true (part output answering.line) k))
      faulty_there = record { first_clash = faulty.first_clash; is = put.is ∙ same_fault _ _ u.facts s.count put.clash put.filled.clash placed }

      pub candidate_ready : WithRules program output t.names store total → WithFacts program output u.names store' counts fault
      candidate_ready w =
          let P = rules_for w.tree_of in
          record { program_rules = P; candidate = facts_for answering.tree_of; long = put.filled.long; stands = in_store P (w.held (handed_on output answering.stage).size); clash = put.clash; at = fact_place s.line u.starts u.lengths; fault_of = faulty }

      module _ (code : ℕ) (places : List ℕ) (c : Program false) (held : length output ≤ most_text → RulesHeld program output t.names (rules_in store) (literals_in store) total (rules_for c)) (b : Bool) (agreeing : b ≡ agrees s.word code) (n : not b ≡ false) where
        pub candidate_answer : (a : Answer) (left : List ℕ) → AnswersFacts program output u.names store' counts fault places a left → Answers (BehindProgram program output code places c) places a left
        candidate_answer a left k =
            let x = answering in
            by_candidate program output code places c s read.given b agreeing n e x.line x.tree_of x.stage a left
            (k x.line (rules_for c) (facts_for x.tree_of) (in_store (rules_for c) (held (handed_on output x.stage).size)) put.clash faulty_there)
