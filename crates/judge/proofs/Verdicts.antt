-- From what the searches, the rounds and the test of subsets find to the outcome of the quick check.
use mathlib.Core.Path.{◌≡◌, refl, sym, ap, ◌∙◌, fun_ext}
use mathlib.Core.Bool.{Bool, true, false, true≢false}
use mathlib.Core.Option.{none, some}
use mathlib.Core.Logic.{inl, inr}
use mathlib.Core.List.{List, [], ◌∷◌, ◌++◌, map}
use Prim.Native.Nat.{ℕ, zero, suc, ◌+◌, ◌-◌, ◌≤◌, ◌<◌}
use native.Mathlib.Omega.{arith}
use native.Mathlib.Decide.{dec_lt}
use lib.ListN.{length, get_or, get_or-append, take, drop, replicate, length-append, length-drop}
use lib.Seq.{drop-cons, get_or-drop}
use Rattle.std.proofs.lemmas.List.{get_or-append_right}
use borrow.Author.Tests.{lt-ltb, le-ltb}
use Rattle.std.specs.Prelude.{Option, Some, None}
use Rattle.meaning.specs.Sets.{every}
use Rattle.meaning.specs.Domain.{Domain}
use Rattle.meaning.specs.Rules.{Bytes, Fact, Rule, disjunctive}
use Rattle.meaning.specs.Safety.{when}
use Rattle.meaning.specs.Instances.{same_fact}
use Rattle.meaning.specs.Graph.{level, least, rounds}
use Rattle.meaning.specs.Verdicts as verdicts
use Rattle.meaning.specs.Verdicts.{accepted, unsatisfied, smaller, way}
use Rattle.meaning.specs.Outcomes.{out_of_range, verdict}
use Rattle.meaning.specs.Quick as check
use Rattle.meaning.specs.Matcher.{Choice}
use Rattle.meaning.specs.Quick.{seek, breaks, overflows, overflow, broken, edges, clauses, by_levels, smaller_set, shows, quick_by, quick, settle, outcome}
use Rattle.meaning.proofs.Booleans.{never_true}
use Rattle.meaning.proofs.Sets.{every_in, at_in}
use Rattle.codes.specs.Domains.{codes, code_in_range}
use Rattle.tables.specs.Layout.{positives_column}
use Rattle.tables.specs.Rows.{from, fact_at, facts_of, rule_column}
use Rattle.tables.proofs.Strides.{from_length, from_map, from_same, every_from}
use Rattle.derived_set.specs.declared.Derived.{Derived}
use Rattle.derived_set.specs.Members.{places, holds, one_if, count, size, WellKept}
use Rattle.derived_set.proofs.Sizes.{count_most, count_all}
use Rattle.reach.proofs.Graphs.{below_fact}
use Rattle.store.specs.Store.{facts_in, rules_in}
use Rattle.matchings.specs.Tables.{Comparing}
use Rattle.search.specs.declared.Scan.{Scan}
use Rattle.search.specs.Searched.{stops, stopped, Stops}
use Rattle.derivation.specs.declared.Limit.{Limit}
use Rattle.derivation.specs.Rounds.{RoundsOf, rules_for, all_facts, SomeBroken, LimitOf}
use Rattle.queue.proofs.Emptied.{cut_length}
use Rattle.subset_test.specs.Smaller.{told, Tested}
use Rattle.judge.specs.Judged.{broken_judgement, said, Lent, SetShown, Judged, ShowsBroken, ShowsSet, Rejects, JudgedInRange}
use Rattle.judge.specs.declared.Judgement.TheVariants as judgements
use Rattle.judge.specs.declared.Judgement.TheVariants.{OutOfRange, Accepted, Minimal}
use Rattle.judge.specs.declared.Judgement.{Judgement}

-- ---- lists by their places

part_from : (l : List ℕ) (n k : ℕ) → k + n ≤ length l → take n (drop k l) ≡ from (λ i. get_or l i 0) n k
unfolding from
part_from l zero k h = refl
part_from l (suc n) k h = rw (drop-cons l k 0 (omega arith)) (ap (λ (t : List ℕ). get_or l k 0 ∷ t) (part_from l n (suc k) (omega arith)))

-- ---- how many pass

count_full : (f : ℕ → Bool) (n : ℕ) → n ≤ count f n → (a : ℕ) → a < n → f a ≡ true
unfolding count one_if
count_full f zero h a k = absurd (omega arith)
count_full f (suc n) h a k = go (f n) refl h (dec_lt a n) (λ l m. count_full f n l a m)
  where
    go : (b : Bool) → f n ≡ b → suc n ≤ count f n + one_if b → Dec (a < n) → (n ≤ count f n → a < n → f a ≡ true) → f a ≡ true
    go true e l (yes m) r = r (omega arith) m
    go true e l (no m) r = let z : a ≡ n = omega arith in rw z e
    go false e l m r = absurd (omega (arith, count_most f n))

count_past : (f : ℕ → Bool) (n m : ℕ) → ((a : ℕ) → n ≤ a → f a ≡ false) → count f (n + m) ≡ count f n
unfolding count one_if
count_past f n zero h = let e : n + 0 ≡ n = omega arith in rw e
count_past f n (suc m) h = let e : n + suc m ≡ suc (n + m) = omega arith in rw (e, count, h (n + m) (omega arith)) (omega (arith, count_past f n m h))

-- a set with no atom from place n on has as many as stand below
size_below : (s : Derived) (n : ℕ) → n ≤ places → ((a : ℕ) → n ≤ a → holds s a ≡ false) → size s ≡ count (holds s) n
unfolding size
size_below s n few clear = let e : places ≡ n + (places - n) = omega arith in ap (count (holds s)) e ∙ count_past (holds s) n (places - n) clear

-- ---- the outcome

module _ (names : List Bytes) (P : List (Rule ℕ)) (I : List (Fact ℕ)) where
  abbrev D : Domain ℕ
  D = codes names

  abbrev lev : ℕ → Fact ℕ → Bool
  lev k = level (same_fact D) (edges D P I) k

  abbrev R : ℕ
  R = rounds (same_fact D) (edges D P I) I

  pub outcome_over : (n : ℕ) → (at : List ℕ) × (overflow D code_in_range P I ≡ some (record { rule = n; at = at })) → out_of_range (suc n) ≡ outcome D code_in_range P I
  unfolding outcome settle
  outcome_over n o = rw o.1

  module _ (in_range : overflow D code_in_range P I ≡ none) where
    pub outcome_broken : (n : ℕ) (at : List ℕ) → broken D P I ≡ some (record { rule = n; at = at }) → verdict (unsatisfied (suc n) (map suc at)) ≡ outcome D code_in_range P I
    unfolding outcome settle quick quick_by check.judge
    outcome_broken n at e = rw (in_range, e)

    module _ (unbroken : broken D P I ≡ none) where
      -- no rule has several heads
      module _ (single : disjunctive P ≡ false) where
        pub outcome_accepted : every (lev R) I ≡ true → verdict (accepted (length I) R (map (λ a. least (λ k. lev k a) R 0) I)) ≡ outcome D code_in_range P I
        unfolding outcome settle quick quick_by way check.judge by_levels
        outcome_accepted t = rw (in_range, unbroken, single, by_levels, t)

        pub outcome_smaller : every (lev R) I ≡ false → verdict (smaller (map (lev R) I)) ≡ outcome D code_in_range P I
        unfolding outcome settle quick quick_by way check.judge by_levels
        outcome_smaller t = rw (in_range, unbroken, single, by_levels, t)

      -- some rule has
      pub outcome_tested : disjunctive P ≡ true → verdict (shows I (smaller_set D (clauses D P I) I)) ≡ outcome D code_in_range P I
      unfolding outcome settle quick quick_by way check.judge
      outcome_tested several = rw (in_range, unbroken, several)

-- ---- the judgement

module _ (names : List Bytes) (P : List (Rule ℕ)) (facts : List ℕ) (n : ℕ) where
  abbrev I : List (Fact ℕ)
  I = facts_of facts n

  abbrev levels : ℕ → Fact ℕ → Bool
  levels = lev names P I

  long : length I ≡ n
  long = from_length (fact_at facts) n 0

  -- the search for operations that leave the range decides
  pub judged_over : (rounds : List ℕ) (rule : ℕ) (at : List ℕ) → overflow (codes names) code_in_range P I ≡ some (record { rule = rule; at = at }) → Judged names P I rounds rounds (OutOfRange rule)
  unfolding said Lent SetShown
  judged_over rounds rule at o = record { says = outcome_over names P I rule (at, o); lent = refl; set_shown = tt }

  -- the first broken instance does
  pub judged_broken : overflow (codes names) code_in_range P I ≡ none → (rounds : List ℕ) (j : Judgement) → ShowsBroken names P I j → Judged names P I rounds rounds j
  unfolding said Lent SetShown
  judged_broken in_range rounds j b = rw b.is (record { says = outcome_broken names P I in_range b.rule (take b.long b.positions) b.first; lent = refl; set_shown = tt })

  -- the rounds decide
  module _ (single : disjunctive P ≡ false) (in_range : overflow (codes names) code_in_range P I ≡ none) (unbroken : broken (codes names) P I ≡ none) (table table' : List ℕ) (set : Derived) (k : ℕ) (found : RoundsOf (codes names) P I table table' set k) (only_facts : (a : ℕ) → n ≤ a → holds set a ≡ false) (few : n ≤ places) where
    sized : size set ≡ count (holds set) n
    sized = size_below set n few only_facts

    at_place : (a : ℕ) → a < n → holds set a ≡ levels k (fact_at facts a)
    at_place a h = found.is_set a (fact_at facts a) (below_fact facts n a h)

    whole : n ≤ size set → every (levels k) I ≡ true
    whole h = every_from (levels k) (fact_at facts) n 0 (λ i a b. sym (at_place i (omega arith)) ∙ count_full (holds set) n (omega (arith, sized)) i (omega arith))

    not_whole : size set < n → every (levels k) I ≡ false
    not_whole h = go (every (levels k) I) refl
      where
        go : (b : Bool) → every (levels k) I ≡ b → b ≡ false
        go false e = refl
        go true e = absurd (omega (arith, sized, count_all (holds set) n (λ a l. at_place a l ∙ every_in (levels k) I (fact_at facts a) (at_in I a (fact_at facts a) (below_fact facts n a l)) e)))

    pub judged_smaller : size set < n → WellKept set → (rounds : List ℕ) (j : Judgement) → ShowsSet names P I set j → Judged names P I rounds rounds j
    unfolding said Lent SetShown
    judged_smaller h w rounds j shows =
        let kept : from (holds set) (length I) 0 ≡ map (levels k) I = ap (λ (m : ℕ). from (holds set) m 0) long ∙ from_same (holds set) (λ i. levels k (fact_at facts i)) n 0 (λ i a b. at_place i (omega arith)) ∙ sym (from_map (levels k) (fact_at facts) n 0) in
        rw shows.is (record { says = rw kept (rw (← found.is_rounds) at (outcome_smaller names P I in_range unbroken single (rw (← found.is_rounds) (not_whole h)))); lent = refl; set_shown = record { well_kept = w; none_behind = λ a l. only_facts a (omega (arith, long, l)) } })

    module _ (h : n ≤ size set) (rounds rounds' : List ℕ) (put : rounds' ≡ table' ++ drop n rounds) (wide : length table ≡ n) (room : n ≤ length rounds) where
      abbrev round : Fact ℕ → ℕ
      round a = least (λ i. levels i a) k 0

      kept_long : length rounds' ≡ length rounds
      kept_long = ap length put ∙ simp length-append (omega (arith, found.long, length-drop n rounds))

      there : (i : ℕ) → i < n → get_or rounds' i 0 ≡ get_or table' i 0
      there i l = ap (λ (xs : List ℕ). get_or xs i 0) put ∙ get_or-append table' (drop n rounds) 0 i (omega (arith, found.long))

      rest : (a : ℕ) → n ≤ a → get_or rounds' a 0 ≡ get_or rounds a 0
      rest a g =
          let z : n + (a - n) ≡ a = omega arith in
          ap (λ (xs : List ℕ). get_or xs a 0) put ∙ get_or-append_right table' (drop n rounds) n a 0 (found.long ∙ wide) g ∙ get_or-drop n rounds (a - n) 0 ∙ ap (λ (i : ℕ). get_or rounds i 0) z

      written : take (length I) rounds' ≡ map round I
      written =
          ap (λ (m : ℕ). take m rounds') long
          ∙ part_from rounds' n 0 (omega (arith, kept_long))
          ∙ from_same (λ i. get_or rounds' i 0) (λ i. round (fact_at facts i)) n 0 (λ i a b. there i (omega arith) ∙ found.each i (fact_at facts i) (below_fact facts n i (omega arith)) (count_full (holds set) n (omega (arith, sized)) i (omega arith)))
          ∙ sym (from_map round (fact_at facts) n 0)

      pub judged_accepted : Judged names P I rounds rounds' (Accepted k)
      unfolding said Lent SetShown
      judged_accepted =
          record { says = rw written (rw (← found.is_rounds) at (outcome_accepted names P I in_range unbroken single (rw (← found.is_rounds) (whole h)))); lent = (kept_long, λ a g. rest a (omega (arith, long))); set_shown = tt }

-- the table that the rounds are worked out in, as code cuts it
pub cut_wide : (n size : ℕ) → n ≤ size → length {A = ℕ} (take (n - 0) (drop 0 (replicate size 0))) ≡ n
cut_wide n size h = let e : n - 0 ≡ n = omega arith in rw e (cut_length n size 0 h)

-- ---- what the searches say

same_over : (names : List Bytes) (I : List (Fact ℕ)) → stops true names I ≡ overflows (codes names) code_in_range
unfolding stops
same_over names I = fun_ext (λ r. fun_ext (λ c. refl))

same_broken : (names : List Bytes) (I : List (Fact ℕ)) → stops false names I ≡ breaks (codes names) I
unfolding stops
same_broken names I = fun_ext (λ r. fun_ext (λ c. refl))

module _ (names : List Bytes) (I : List (Fact ℕ)) (P : List (Rule ℕ)) where
  over_seek : (range : Bool) → range ≡ true → seek (codes names) (stops range names I) I 0 P ≡ overflow (codes names) code_in_range P I
  unfolding overflow
  over_seek true e = ap (λ (test : Rule ℕ → Choice ℕ → Bool). seek (codes names) test I 0 P) (same_over names I)
  over_seek false e = absurd (true≢false (sym e))

  broken_seek : (range : Bool) → range ≡ false → seek (codes names) (stops range names I) I 0 P ≡ broken (codes names) P I
  unfolding broken
  broken_seek false e = ap (λ (test : Rule ℕ → Choice ℕ → Bool). seek (codes names) test I 0 P) (same_broken names I)
  broken_seek true e = absurd (true≢false e)

module _ (ranks store : List ℕ) (scan : Scan) (positions positions' : List ℕ) (r : ℕ) (found : Stops ranks store scan positions positions' r) (names : List Bytes) (c : Comparing names ranks store scan.total) where
  at_rule : r < scan.total → stopped store scan.total r positions' ≡ some (record { rule = r; at = take (rule_column (rules_in store) r positives_column) positions' })
  unfolding when
  at_rule h = rw (lt-ltb r scan.total h) refl

  at_none : scan.total ≤ r → stopped store scan.total r positions' ≡ none
  unfolding when
  at_none h = rw (le-ltb r scan.total h) refl

  module _ (range : scan.range ≡ true) where
    whole_over : overflow (codes names) code_in_range (rules_for store scan.total) (all_facts store scan.count) ≡ stopped store scan.total r positions'
    whole_over = sym (over_seek names (all_facts store scan.count) (rules_for store scan.total) scan.range range) ∙ found.found names c

    pub over_at : r < scan.total → overflow (codes names) code_in_range (rules_for store scan.total) (all_facts store scan.count) ≡ some (record { rule = r; at = take (rule_column (rules_in store) r positives_column) positions' })
    over_at h = whole_over ∙ at_rule h

    pub over_none : scan.total ≤ r → overflow (codes names) code_in_range (rules_for store scan.total) (all_facts store scan.count) ≡ none
    over_none h = whole_over ∙ at_none h

  module _ (verdict_only : scan.range ≡ false) where
    whole_broken : broken (codes names) (rules_for store scan.total) (all_facts store scan.count) ≡ stopped store scan.total r positions'
    whole_broken = sym (broken_seek names (all_facts store scan.count) (rules_for store scan.total) scan.range verdict_only) ∙ found.found names c

    pub broken_at : r < scan.total → broken (codes names) (rules_for store scan.total) (all_facts store scan.count) ≡ some (record { rule = r; at = take (rule_column (rules_in store) r positives_column) positions' })
    broken_at h = whole_broken ∙ at_rule h

    pub broken_none : scan.total ≤ r → broken (codes names) (rules_for store scan.total) (all_facts store scan.count) ≡ none
    broken_none h = whole_broken ∙ at_none h

    pub shows_broken : r < scan.total → (j : Judgement) → j ≡ broken_judgement store r positions' → ShowsBroken names (rules_for store scan.total) (all_facts store scan.count) j
    shows_broken h j e = record { rule = _; long = _; positions = _; is = e; first = broken_at h }

    pub shows_set : scan.total ≤ r → (set : Derived) → ShowsSet names (rules_for store scan.total) (all_facts store scan.count) set (judgements.Smaller set)
    shows_set h set = record { is = refl; unbroken = broken_none h }

-- ---- a candidate that is not accepted

-- an instance is broken
module _ (ranks store : List ℕ) (scan : Scan) (set : Derived) (j : Judgement) (rejects : Rejects ranks store scan set j) (rounds : List ℕ) where
  pub judged_rejected : SomeBroken ranks store scan.count scan.total → JudgedInRange ranks store scan.count scan.total rounds rounds j
  judged_rejected b names c in_range =
      elim (rejects names c) [
        | inl s ↦ judged_broken names (rules_for store scan.total) (facts_in store) scan.count in_range rounds j s
        | inr s ↦ absurd (b names c s.unbroken)
      ]

-- none was met, and a fact is not derived
module _ (ranks store : List ℕ) (scan : Scan) (table table' : List ℕ) (limit : Limit) (found : LimitOf ranks store scan.count scan.total table table' limit) (few : scan.count ≤ places) (single : disjunctive (rules_for store scan.total) ≡ false) (j : Judgement) (rejects : Rejects ranks store scan limit.set j) (rounds : List ℕ) where
  pub judged_short : limit.set.size < scan.count → JudgedInRange ranks store scan.count scan.total rounds rounds j
  judged_short h names c in_range =
      elim (rejects names c) [
        | inl s ↦ judged_broken names (rules_for store scan.total) (facts_in store) scan.count in_range rounds j s
        | inr s ↦ judged_smaller names (rules_for store scan.total) (facts_in store) scan.count single in_range s.unbroken table table' limit.set limit.rounds (found.limit names c single s.unbroken) found.only_facts few (omega (arith, found.well_kept)) found.well_kept rounds j s
      ]

-- ---- a candidate all of whose facts are derived

module _ (ranks store : List ℕ) (n total : ℕ) (table table' : List ℕ) (limit : Limit) (found : LimitOf ranks store n total table table' limit) (few : n ≤ places) (single : disjunctive (rules_for store total) ≡ false) (h : n ≤ limit.set.size) (rounds rounds' : List ℕ) (put : rounds' ≡ table' ++ drop n rounds) (wide : length table ≡ n) (room : n ≤ length rounds) where
  pub judged_whole : JudgedInRange ranks store n total rounds rounds' (Accepted limit.rounds)
  judged_whole names c in_range =
      let full : n ≤ size limit.set = omega (arith, found.well_kept) in
      let sized = size_below limit.set n few found.only_facts in
      let unbroken = found.unbroken names c (count_full (holds limit.set) n (omega (arith, sized))) in
      judged_accepted names (rules_for store total) (facts_in store) n single in_range unbroken table table' limit.set limit.rounds (found.limit names c single unbroken) found.only_facts few full rounds rounds' put wide room

-- ---- a program in which some rule has several heads

module _ (ranks store : List ℕ) (n total : ℕ) (several : disjunctive (rules_for store total) ≡ true) (names : List Bytes) (c : Comparing names ranks store total) (in_range : overflow (codes names) code_in_range (rules_for store total) (all_facts store n) ≡ none) (unbroken : broken (codes names) (rules_for store total) (all_facts store n) ≡ none) (rounds : List ℕ) where
  tested_long : length (all_facts store n) ≡ n
  tested_long = from_length (fact_at (facts_in store)) n 0

  says_tested : (r : Option Derived) → Tested ranks store n total r → verdict (told r n) ≡ outcome (codes names) code_in_range (rules_for store total) (all_facts store n)
  says_tested r found = ap verdict (sym (found.says names c)) ∙ outcome_tested names (rules_for store total) (all_facts store n) in_range unbroken several

  pub judged_shown : (set : Derived) → Tested ranks store n total (Some set) → Judged names (rules_for store total) (all_facts store n) rounds rounds (judgements.Smaller set)
  unfolding said Lent SetShown told
  judged_shown set found = record { says = ap (λ (m : ℕ). verdict (verdicts.smaller (from (holds set) m 0))) tested_long ∙ says_tested (Some set) found; lent = refl; set_shown = record { well_kept = found.well_kept; none_behind = λ a l. never_true (holds set a) (λ t. omega (arith, found.inside a t, tested_long, l)) } }

  pub judged_minimal : Tested ranks store n total None → Judged names (rules_for store total) (all_facts store n) rounds rounds Minimal
  unfolding said Lent SetShown told
  judged_minimal found = record { says = ap (λ (m : ℕ). verdict (accepted m 0 [])) tested_long ∙ says_tested None found; lent = refl; set_shown = tt }
