-- Rule after rule, and what the first subset that is left says.
use mathlib.Core.Path.{◌≡◌, refl, sym, ap, ◌∙◌}
use mathlib.Core.Bool.{Bool, true, false, cond, ◌&&◌, ◌||◌}
use mathlib.Core.Logic.{inr}
use mathlib.Core.Option.{none}
use mathlib.Core.List.{List, [], ◌∷◌}
use Prim.Native.Nat.{ℕ, ◌+◌, ◌*◌, ◌-◌, ◌/◌, ◌%◌, ◌^◌, ◌≤◌, ◌<◌}
use native.Mathlib.Omega.{arith}
use native.Mathlib.Decide.{dec_lt}
use native.Mathlib.Numerals.{add-one}
use borrow.Author.Tests.{lt-ltb, le-ltb, ltb-true}
use lib.Dec.{ltb}
use lib.Pow.{pow-lt, suc_ones}
use lib.ListN.{length, take, drop, replicate}
use Rattle.std.proofs.Math.Bool.{or-false, or_assoc}
use Rattle.meaning.specs.Sets.{every, any}
use Rattle.meaning.specs.Rules.{Bytes, Fact, Rule}
use Rattle.meaning.specs.Safety.{in_positives, positives, safe}
use Rattle.meaning.specs.Verdicts.{accepted, smaller}
use Rattle.meaning.specs.Quick.{clauses, smaller_set, shows}
use Rattle.meaning.proofs.Booleans.{and_left}
use Rattle.meaning.proofs.Sets.{any_append, any_one}
use Rattle.std.specs.Prelude.{Some, None}
use Rattle.codes.specs.Domains.{codes}
use Rattle.codes.proofs.Coded.{code_laws}
use Rattle.tables.specs.Rows.{from, fact_at, facts_of, rule_at, rules_of}
use Rattle.tables.proofs.Strides.{from_length, from_last, from_same, every_from}
use Rattle.derived_set.specs.declared.Derived.{Derived}
use Rattle.derived_set.specs.Members.{bit, holds}
use Rattle.derived_set.proofs.Bits.{bit_zero}
use Rattle.queue.proofs.Emptied.{same_everywhere, cut_length}
use Rattle.reach.proofs.Graphs.{apart_once}
use Rattle.store.specs.Store.{facts_in, literals_in, rules_in}
use Rattle.lookahead.specs.Goals.{facts_for, rule_for, Standing}
use Rattle.matchings.specs.Tables.{Tables, Comparing}
use Rattle.matchings.proofs.Tables.{goal_for, standing_in, comparable_in}
use Rattle.matchings.proofs.Leading.{knowing_nothing, knows_nothing}
use Rattle.subsets.specs.Table.{most_facts, most_words, ruled_out, FirstLeft}
use Rattle.subset_test.specs.declared.walk.Stand.{Stand}
use Rattle.subset_test.specs.Refuted.{refuted_from, refuted}
use Rattle.subset_test.specs.Stands.{left_from, Walking, Leading, Walked}
use Rattle.subset_test.specs.Smaller.{Refutes, own_number, Blank, Unrefuted, KeptFacts, told, Tested}
use Rattle.subset_test.proofs.Masks.{all_of_none}
use Rattle.subset_test.proofs.Least.{first_shown}

-- ---- no rule

pub none_refuted : (ranks store : List ℕ) (count total : ℕ) (table : List ℕ) → Refutes ranks store count total 0 table table
unfolding refuted any from
none_refuted ranks store count total table = record { long = refl; out = λ names c J h. sym (or-false (ruled_out table J)) }

-- ---- one rule

module _ (store : List ℕ) (count total : ℕ) (tables : Tables store count total) (few : count ≤ most_facts) (r : ℕ) (below : r < total) where
  abbrev start : Stand
  start = record { goal = goal_for count r false; next = 0; progress = record { done = 0; bound = 0 }; body = 0 }

  standing : Standing store (goal_for count r false)
  standing = standing_in store count total tables r below false

  pub walking_start : (values table : List ℕ) → 16 ≤ length values → length table ≤ most_words → Walking store start values table
  walking_start values table wide room = record { standing = standing; verdict = refl; few = few; knowing = knowing_nothing values wide; next = omega arith; small = omega arith; room = room }

  leading_start : (ranks : List ℕ) (names : List Bytes) → Comparing names ranks store total → (values : List ℕ) → Leading names ranks store start values (λ x. none)
  unfolding in_positives
  leading_start ranks names c values = record { comparable = comparable_in names ranks store count total c r below false; knows = knows_nothing names store (goal_for count r false) values; seen = λ x h. inr (rw standing.rule_row.positives_stored h) }

  -- some matching of a rule refutes J
  abbrev test : List Bytes → ℕ → Rule ℕ → Bool
  test names J s = refuted_from (codes names) (facts_of (facts_in store) count) s (positives s.body) (λ x. none) J

  module _ (ranks : List ℕ) (table₀ values table : List ℕ) (so : Refutes ranks store count total r table₀ table) (values' table' : List ℕ) (w : Walked ranks store start values table values' table') where
    pub rule_refuted : Refutes ranks store count total (r + 1) table₀ table'
    unfolding refuted
    rule_refuted = rw (add-one r) (record {
      long = w.long ∙ so.long;
      out = λ names c J h.
          let z : 0 + r ≡ r = omega arith in
          w.out names (λ x. none) (leading_start ranks names c values) J (omega (arith, so.long))
          ∙ ap (λ (b : Bool). ruled_out table J || (b && here names J)) (all_of_none J)
          ∙ ap (λ (b : Bool). b || here names J) (so.out names c J h)
          ∙ or_assoc (ruled_out table₀ J) (refuted (codes names) (facts_of (facts_in store) count) (rules_of (rules_in store) (literals_in store) r) J) (here names J)
          ∙ ap (λ (b : Bool). ruled_out table₀ J || b) (sym (ap (any (test names J)) (from_last (rule_at (rules_in store) (literals_in store)) r 0) ∙ any_append (test names J) (rules_of (rules_in store) (literals_in store) r) (rule_at (rules_in store) (literals_in store) (0 + r) ∷ []) ∙ ap (λ (b : Bool). any (test names J) (rules_of (rules_in store) (literals_in store) r) || b) (any_one (test names J) (rule_at (rules_in store) (literals_in store) (0 + r)) ∙ rw (z, ← standing.rule_row.positives_stored) refl)));
    })
      where
        here : List Bytes → ℕ → Bool
        here names J = refuted_from (codes names) (facts_for store (goal_for count r false)) (rule_for store (goal_for count r false)) (left_from store start) (λ x. none) J

-- ---- all rules

module _ (ranks store : List ℕ) (count total : ℕ) (table₀ table : List ℕ) (blank : Blank count table₀) (refutes : Refutes ranks store count total total table₀ table) where
  -- nothing was ruled out before
  refuted_out : (names : List Bytes) → Comparing names ranks store total → (J : ℕ) → J < 2 ^ count → refuted (codes names) (facts_of (facts_in store) count) (rules_of (rules_in store) (literals_in store) total) J ≡ ruled_out table J
  unfolding ruled_out
  refuted_out names c J h = sym (refutes.out names c J (omega (arith, blank.wide)) ∙ ap (λ (b : Bool). b || refuted (codes names) (facts_of (facts_in store) count) (rules_of (rules_in store) (literals_in store) total) J) (none_out J))
    where
      none_out : (J : ℕ) → ruled_out table₀ J ≡ false
      none_out J = rw (ruled_out, blank.zeros (J / 64)) (bit_zero (J % 64))

  pub first_unrefuted : (number : ℕ) → FirstLeft table (own_number count) number → Unrefuted ranks store count total number
  first_unrefuted number left = record {
    within = left.within;
    before = λ names c J h. refuted_out names c J (omega (arith, left.within, suc_ones count)) ∙ left.before J h;
    here = λ names c h. refuted_out names c number (omega (arith, h, suc_ones count)) ∙ left.here h;
  }

-- ---- what is answered

module _ (ranks store : List ℕ) (count total : ℕ) (tables : Tables store count total) (number : ℕ) (first : Unrefuted ranks store count total number) where
  abbrev I : List (Fact ℕ)
  I = facts_of (facts_in store) count

  abbrev P : List (Rule ℕ)
  P = rules_of (rules_in store) (literals_in store) total

  long : length I ≡ count
  long = from_length (fact_at (facts_in store)) count 0

  all_safe : every safe P ≡ true
  all_safe = every_from safe (rule_at (rules_in store) (literals_in store)) total 0 (λ i a b. (tables.rule_table.rule i (omega arith)).is_safe)

  shown : (names : List Bytes) → Comparing names ranks store total → shows I (smaller_set (codes names) (clauses (codes names) P I) I) ≡ cond (ltb number (own_number count)) (smaller (from (bit number) count 0)) (accepted count 0 [])
  shown names c = rw long at (first_shown (codes names) (code_laws names) P I all_safe (apart_once (facts_in store) count tables.apart) number (rw long first.within) (first.before names c) (λ h. first.here names c (rw long at h)))

  pub tested_none : own_number count ≤ number → Tested ranks store count total None
  unfolding told
  tested_none h = record { well_kept = tt; inside = tt; says = λ names c. rw (le-ltb number (own_number count) h) at (shown names c) }

  pub tested_some : number < own_number count → (set : Derived) → KeptFacts number count set → Tested ranks store count total (Some set)
  unfolding told
  tested_some h set kept = record {
    well_kept = kept.well_kept;
    inside = λ a b. ltb-true a count (and_left (ltb a count) (bit number a) (sym (kept.has a) ∙ b));
    says = λ names c. rw (lt-ltb number (own_number count) h, same_set) at (shown names c);
  }
    where
      same_set : from (bit number) count 0 ≡ from (holds set) count 0
      same_set = from_same (bit number) (holds set) count 0 (λ i a b. sym (kept.has i ∙ ap (λ (x : Bool). x && bit number i) (lt-ltb i count (omega arith))))

-- ---- the table as code cuts it

pub subsets_few : (count : ℕ) → count ≤ most_facts → 2 ^ count ≤ 1_048_576
subsets_few count few = go (dec_lt count 20)
  where
    go : Dec (count < 20) → 2 ^ count ≤ 1_048_576
    go (yes l) = let z : 2 ^ count < 2 ^ 20 = pow-lt l in omega arith
    go (no l) = let z : count ≡ 20 = omega arith in rw z (omega arith)

pub words_enough : (count : ℕ) → count ≤ most_facts → (2 ^ count ≤ 64 * ((2 ^ count + 63) / 64)) × ((2 ^ count + 63) / 64 ≤ most_words)
words_enough count few = at (2 ^ count) (subsets_few count few)
  where
    at : (n : ℕ) → n ≤ 1_048_576 → (n ≤ 64 * ((n + 63) / 64)) × ((n + 63) / 64 ≤ 16_384)
    at n h = (omega arith, omega arith)

pub blank_cut : (count words : ℕ) → 2 ^ count ≤ 64 * words → words ≤ most_words → Blank count (take (words - 0) (drop 0 (replicate 16_384 0)))
blank_cut count words wide room =
    let e : words - 0 ≡ words = omega arith in
    rw e (record { wide = omega (arith, cut_length words 16_384 0 room); room = omega (arith, cut_length words 16_384 0 room); zeros = λ k. same_everywhere words 16_384 0 k })
