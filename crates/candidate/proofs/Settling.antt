-- What tables that stand for a program and a candidate give: facts apart, and the answer of the last stages.
use mathlib.Core.Path.{◌≡◌, sym}
use mathlib.Core.List.{List}
use Prim.Native.Nat.{ℕ, zero, suc, ◌≤◌, ◌<◌}
use native.Mathlib.Omega.{arith}
use lib.ListN.{length, drop, length-take}
use Rattle.meaning.specs.Rules.{Bytes, Fact, Rule}
use Rattle.meaning.specs.Values.{Value, values, in_range}
use Rattle.meaning.specs.Outcomes as meant
use Rattle.codes.proofs.Pairwise.{same_length}
use Rattle.codes.proofs.Outcomes.{coded_answers}
use Rattle.names.specs.Table.{names_of}
use Rattle.tables.specs.Rows.{fact_at, facts_of, rule_at, rules_of}
use Rattle.tables.specs.WellFormed.{RuleRow, RuleTable}
use Rattle.tables.proofs.Strides.{from_length}
use Rattle.store.specs.Store.{facts_in, literals_in, rules_in}
use Rattle.matchings.specs.Tables.{Tables, Comparing}
use Rattle.ranks.specs.Ranks.{Ranked}
use Rattle.orders.specs.Orders.{PlainRule, RulesInside}
use Rattle.judge.specs.declared.Judgement.{Judgement}
use Rattle.judge.specs.Judged.{said, Judged}
use Rattle.promise.specs.Answered.{rule_part}
use Rattle.promise.specs.Judged.{Settled}
use Rattle.fields.specs.Checked.{Answers}
use Rattle.fields.specs.declared.answer.Answer.{Answer}
use Rattle.verdict.specs.Told.{Small, Tells}
use Rattle.candidate.specs.declared.settled.Task.{Task}
use Rattle.candidate.specs.Standing.{Stands, Settling}
use Rattle.candidate.proofs.Clashing.{facts_apart}
use Rattle.candidate.proofs.Judging.{told}
use Rattle.candidate.proofs.Bounds.{small}

module _ (program output : Bytes) (names rules literals facts links : List ℕ) (count total : ℕ) where
  module _ (P : List (Rule Value)) (I : List (Fact Value)) (s : Stands program output names rules literals facts links count total P I) where
    facts_long : length (facts_of facts count) ≡ count
    facts_long = from_length (fact_at facts) count 0

    few_facts : length I ≤ 1_024
    few_facts = omega (arith, same_length s.held.facts_stand, facts_long, s.held.fact_table.few)

    few_rules : length P ≤ 1_024
    few_rules = omega (arith, same_length s.held.rules_held.rules_stand, from_length (rule_at rules literals) total 0, s.held.rules_held.rule_table.few)

    module _ (old new : List ℕ) (room : count ≤ length old) (j : Judgement) (judged : Judged (names_of program output names) (rules_of rules literals total) (facts_of facts count) old new j) where
      answers : meant.MeansOutcome values in_range P I (said j (length (facts_of facts count)) new)
      answers = (coded_answers (names_of program output names) s.held.rules_held.name_table.distinct s.held.rules_held.rules_stand s.held.facts_stand s.held.rules_held.safe_rules _).1 (sym judged.says)

      pub room_to_count : Small j
      room_to_count = small P I few_rules few_facts (length (facts_of facts count)) new j answers

      pub gives : (a : Answer) → Tells program count j a → Answers (Settled (rule_part program) P I old) old a new
      gives a t =
          told program P I old new count room s.held.fact_table.few j
          (rw facts_long at answers)
          (rw facts_long at judged.lent)
          (rw facts_long at judged.set_shown)
          a t

-- ---- the premises of `judge`, of ranks, and of the look for comparisons

module _ (store : List ℕ) where
  rules_long : length (rules_in store) ≤ 10_240
  rules_long = omega (arith, length-take 10_240 (drop 65_536 store))

  literals_long : length (literals_in store) ≤ 56_320
  literals_long = omega (arith, length-take 56_320 (drop 9_216 store))

  pub few_rows : (total : ℕ) → ((r : ℕ) → r < total → RuleRow (rules_in store) (literals_in store) r) → total ≤ 256
  few_rows zero row = omega arith
  few_rows (suc k) row = omega (arith, (row k (omega arith)).inside, rules_long)

module _ (program output : Bytes) (names store : List ℕ) (t : Task) (places : List ℕ) (s : Settling program output names store t places) where
  abbrev rules_table : RuleTable (rules_in store) (literals_in store) t.counts.rules
  rules_table = s.stands.held.rules_held.rule_table

  few : t.counts.rules ≤ 256
  few = few_rows store t.counts.rules rules_table.rule

  pub rules_inside : RulesInside store t.counts.rules
  rules_inside = record { long = s.long; few = few; body = λ r h. omega (arith, (rules_table.rule r h).within, literals_long store) }

  pub tables : Tables store t.counts.facts t.counts.rules
  tables =
      record {
        long = s.long;
        few = few;
        rule_table = rules_table;
        fact_table = s.stands.held.fact_table;
        linked = s.stands.linked;
        apart = facts_apart (names_of program output names) s.stands.held.rules_held.name_table.distinct (facts_in store) t.counts.facts s.candidate s.stands.held.facts_stand s.unclashing;
      }

-- ---- the ranks

module _ (texts : List Bytes) (ranks store : List ℕ) (total : ℕ) where
  -- they have the order of the texts
  pub comparing_ranked : Ranked texts ranks → Comparing texts ranks store total
  comparing_ranked r = record { ranked = λ _ _ _ _ _. r }

  -- any numbers where no rule asks for an order
  pub comparing_plain : PlainRule store total → Comparing texts ranks store total
  comparing_plain p = record { ranked = λ r l h b more. absurd (omega (arith, p.each r l h b)) }
