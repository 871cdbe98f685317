-- Facts that clash do so over their numbers as over their values.
use mathlib.Core.Path.{◌≡◌, refl, sym, ap, ◌∙◌}
use mathlib.Core.Bool.{Bool, true, false, not}
use mathlib.Core.Logic.{◌⊎◌, inl, inr}
use mathlib.Core.Option.{some}
use Rattle.std.specs.Prelude.{Some, None}
use mathlib.Core.List.{List}
use Prim.Native.Nat.{ℕ, ◌+◌, ◌<◌, ◌≤◌}
use native.Mathlib.Decide.{dec_lt, ℕ_discrete}
use native.Mathlib.Omega.{arith}
use lib.ListN.{length, get_elem?}
use Rattle.meaning.specs.Rules.{Bytes, Fact}
use Rattle.meaning.specs.Values.{Value, values}
use Rattle.meaning.specs.Instances.{same_fact}
use Rattle.meaning.proofs.Booleans.{some_inj, not_twice}
use Rattle.meaning.proofs.Facts.{same_fact_test}
use Rattle.meaning.proofs.Values.{value_laws}
use Rattle.codes.specs.Codes.{Distinct, Coded}
use Rattle.codes.specs.Predicates.{CodedName}
use Rattle.codes.specs.Domains.{codes}
use Rattle.codes.specs.Related.{Pairwise, RelatedAtom}
use Rattle.codes.proofs.Pairwise.{same_length, within, at_right}
use Rattle.codes.proofs.Matches.{same_facts}
use Rattle.codes.proofs.Coded.{coded_domain, code_laws}
use Rattle.tables.specs.Rows.{fact_at, facts_of}
use Rattle.tables.proofs.Strides.{from_length, from_at}
use Rattle.reach.specs.Reach.{Apart}
use Rattle.clashes.specs.declared.Reason.{Reason}
use Rattle.clashes.specs.declared.Clashing.{Clashing}
use Rattle.clashes.specs.Clashes.{turned, alike, Earlier, Clear, First}
use Rattle.clashes.specs.Clashes as clashes
use Rattle.stages.specs.Parts.{Part}
use Rattle.stages.specs.Stage as stages
use Rattle.stages.specs.Stage.{stop, first}
use Rattle.texts.specs.Refusal.{number_of}
use Rattle.candidate.specs.Facts.{refusal_of}
use Rattle.promise.specs.Cases.{opposite, Clash, repeats, opposes}

-- ---- the same fact

abbrev pub Related : List Bytes → Fact ℕ → Fact Value → Type 0
Related names a v = RelatedAtom (CodedName names) (Coded names) a v

module _ (names : List Bytes) (table : Distinct names) where
  same_coded : (a b : Fact ℕ) (v w : Fact Value) → Related names a v → Related names b w → same_fact (codes names) a b ≡ same_fact values v w
  same_coded a b v w p q = let tests = (coded_domain names table).tests in same_facts (record { names = tests.names; same = tests.same }) a b v w p q

  pub coded_equal : (a b : Fact ℕ) (v w : Fact Value) → Related names a v → Related names b w → same_fact (codes names) a b ≡ true → v ≡ w
  coded_equal a b v w p q h = (same_fact_test values value_laws).sound v w (sym (same_coded a b v w p q) ∙ h)

  pub equal_coded : (a b : Fact ℕ) (v w : Fact Value) → Related names a v → Related names b w → v ≡ w → same_fact (codes names) a b ≡ true
  equal_coded a b v w p q e = same_coded a b v w p q ∙ rw e ((same_fact_test values value_laws).self w)

-- ---- an earlier fact that is the same, or the same with the other sign

twice_turned : (a : Fact Value) → opposite (opposite a) ≡ a
twice_turned a = ap (λ (b : Bool). record { negative = b; name = a.name; arguments = a.arguments }) (not_twice a.negative)

module _ (names : List Bytes) (table : Distinct names) (facts : List ℕ) (count : ℕ) (I : List (Fact Value)) (related : Pairwise (RelatedAtom (CodedName names) (Coded names)) (facts_of facts count) I) where
  pub counted : length I ≡ count
  counted = sym (same_length related) ∙ from_length (fact_at facts) count 0

  value_at : (k : ℕ) → k < count → (v : Fact Value) × (get_elem? I k ≡ some v) × Related names (fact_at facts k) v
  value_at k l = let z : 0 + k ≡ k = omega arith in at_right related k (from_at (fact_at facts) count 0 k l ∙ ap (λ (i : ℕ). some (fact_at facts i)) z)

  turned_related : (opposed : Bool) (a : Fact ℕ) (v : Fact Value) → Related names a v → Related names (turned opposed a) (turned opposed v)
  unfolding turned
  turned_related true a v r = record { negative = ap not r.negative; name = r.name; arguments = r.arguments }
  turned_related false a v r = r

  pub record Twin (opposed : Bool) (k : ℕ) : Type 0 where
    pub earlier : ℕ
    pub before : earlier < k
    pub one : Fact Value
    pub other : Fact Value
    pub there : get_elem? I earlier ≡ some one
    pub here : get_elem? I k ≡ some other
    pub same : turned opposed one ≡ other

  to_values : (opposed : Bool) (k : ℕ) → k < count → Earlier names facts opposed k → Twin opposed k
  unfolding alike
  to_values opposed k l (j, below, h) =
      let x = value_at j (omega (arith, below, l)) in
      let y = value_at k l in
      record { earlier = j; before = below; one = x.0; other = y.0; there = x.1; here = y.1; same = coded_equal names table _ _ _ _ (turned_related opposed _ _ x.2) y.2 h }

  to_numbers : (opposed : Bool) (k : ℕ) → Twin opposed k → Earlier names facts opposed k
  unfolding alike
  to_numbers opposed k t =
      let l : k < count = rw counted at (within I k t.here) in
      let x = value_at t.earlier (omega (arith, l, t.before)) in
      let y = value_at k l in
      let one : x.0 ≡ t.one = some_inj (sym x.1 ∙ t.there) in
      let other : y.0 ≡ t.other = some_inj (sym y.1 ∙ t.here) in
      (t.earlier, t.before, equal_coded names table _ _ _ _ (turned_related opposed _ _ x.2) y.2 (ap (turned opposed) one ∙ t.same ∙ sym other))

  -- ---- the cases of the paper

  twin_repeats : (k : ℕ) → Twin false k → Clash I k 6
  unfolding turned
  twin_repeats k t = repeats k t.earlier t.other t.before (t.there ∙ ap some t.same) t.here

  twin_opposes : (k : ℕ) → Twin true k → Clash I k 7
  unfolding turned
  twin_opposes k t = opposes k t.earlier t.other t.before (t.there ∙ ap some (sym (twice_turned t.one) ∙ ap opposite t.same)) t.here

  clash_twin : (k n : ℕ) → Clash I k n → ((n ≡ 6) × Twin false k) ⊎ ((n ≡ 7) × Twin true k)
  unfolding turned
  clash_twin k n (repeats _ j a l e f) = inl (refl, record { earlier = j; before = l; one = a; other = a; there = e; here = f; same = refl })
  clash_twin k n (opposes _ j a l e f) = inr (refl, record { earlier = j; before = l; one = opposite a; other = a; there = e; here = f; same = twice_turned a })

  -- a fact that stands has none
  stands_clear : (k : ℕ) → clashes.Clash names facts k None → (n : ℕ) → ¬ Clash I k n
  stands_clear k (clashes.stands never neither) n h = elim (clash_twin k n h) [ inl x ↦ never (to_numbers false k x.1) | inr y ↦ neither (to_numbers true k y.1) ]

  at_first : (k : ℕ) (r : Reason) → k < count → clashes.Clash names facts k (Some r) → Clash I k (number_of (refusal_of r)) × ((m : ℕ) → Clash I k m → number_of (refusal_of r) ≤ m)
  at_first k _ l (clashes.repeats e) = (twin_repeats k (to_values false k l e), λ m h. elim (clash_twin k m h) [ inl x ↦ omega (arith, x.0) | inr y ↦ omega (arith, y.0) ])
  at_first k _ l (clashes.opposes never e) = (twin_opposes k (to_values true k l e), λ m h. elim (clash_twin k m h) [ inl x ↦ absurd (never (to_numbers false k x.1)) | inr y ↦ omega (arith, y.0) ])

  -- where none clashes, no two facts are the same
  earlier_clash : ((i n : ℕ) → ¬ Clash I i n) → (i j : ℕ) → i < j → j < count → fact_at facts i ≡ fact_at facts j → ⊥
  unfolding alike turned
  earlier_clash clear i j l k e = clear j 6 (twin_repeats j (to_values false j k (i, l, rw e ((same_fact_test (codes names) (code_laws names)).self (fact_at facts j)))))

  pub facts_apart : ((i n : ℕ) → ¬ Clash I i n) → Apart facts count
  facts_apart clear i j l k e =
      elim (dec_lt i j) [
        | yes h ↦ absurd (earlier_clash clear i j h k e)
        | no h ↦ elim (dec_lt j i) [ yes g ↦ absurd (earlier_clash clear j i g l (sym e)) | no g ↦ omega (arith, h, g) ]
      ]

  module _ (r : Clashing) (found : First names facts count r) where
    later : (n : ℕ) → ((m : ℕ) → Clash I r.fact m → n ≤ m) → (j m : ℕ) → Clash I j m → (r.fact < j) ⊎ ((r.fact ≡ j) × (n ≤ m))
    later n lowest j m h =
        elim (dec_lt r.fact j) [
          | yes l ↦ inl l
          | no l ↦ elim (ℕ_discrete r.fact j) [ yes e ↦ inr (e, lowest m (rw e h)) | no e ↦ absurd (stands_clear j (found.before j (omega (arith, l, e))) m h) ]
        ]

    -- 6 or 7, at the first fact that has one
    pub first_clashes : (part : ℕ → Part) → stages.First part (Clash I) (stop (number_of (refusal_of r.reason)) (part r.fact))
    first_clashes part =
        let x = at_first r.fact r.reason found.inside found.here in
        first r.fact _ x.0 (later _ x.1)

  pub none_clashes : Clear names facts count → (i n : ℕ) → ¬ Clash I i n
  none_clashes clear i n h = stands_clear i (clear i below) n h
    where
      below : i < count
      below = elim (clash_twin i n h) [ inl x ↦ rw counted at (within I i x.1.here) | inr y ↦ rw counted at (within I i y.1.here) ]
