-- Words that get a pattern, one chosen number after the other; and the table behind it.
use mathlib.Core.Path.{◌≡◌, refl, sym, ap, ◌∙◌}
use mathlib.Core.Bool.{Bool, true, false, cond, ◌&&◌, ◌||◌, and-true, and-false, or-false}
use mathlib.Core.List.{List}
use Prim.Native.Nat.{ℕ, ◌+◌, ◌-◌, ◌/◌, ◌%◌, ◌^◌, ◌≤◌, ◌<◌}
use native.Mathlib.Decide.{ℕ_discrete, dec_lt}
use native.Mathlib.Omega.{arith}
use borrow.Author.Tests.{lt-ltb, le-ltb}
use lib.Dec.{ltb}
use lib.ListN.{length, get_or, set, length-set}
use lib.Seq.{get_or-set_same, get_or-set_other}
use lib.Bits.{bit_and, bit_or, or_lt, and_le_l}
use Rattle.meaning.proofs.Booleans.{never_true}
use Rattle.derived_set.specs.Members.{bit}
use Rattle.subsets.specs.Table.{most_words, suits, all_below, ruled_out, refutes, RulesOut}
use Rattle.subsets.specs.Words.{Leaves, chosen, WordsMarked}
use Rattle.subsets.proofs.Bits.{bit_or_lem}
use Rattle.subsets.proofs.Refuting.{refutes_parts}
use Rattle.subsets.proofs.Choosing.{Apart, suited_apart, beside_chosen, Beside, chosen_beside, Next, next_apart}

-- ---- from one chosen word to the next

module _ (body heads : ℕ) (small : body < 2 ^ 14) (narrow : heads < 2 ^ 14) where
  beside : (k : ℕ) → k < most_words → chosen body heads k ≡ true → Beside body heads k
  unfolding chosen
  beside k l c = chosen_beside 14 body heads k small narrow l c

  nothing_before : (k : ℕ) → k < most_words → (chosen body heads k && ltb k body) ≡ false
  nothing_before k l = go (chosen body heads k) refl
    where
      go : (c : Bool) → chosen body heads k ≡ c → (chosen body heads k && ltb k body) ≡ false
      go true e = rw e (le-ltb k body (omega (arith, (beside k l e).sum)))
      go false e = rw e

  -- a number that is passed over is not chosen
  nothing_between : (others next k : ℕ) → Next (bit_or body heads) others next → k < most_words → (k ≡ others + body → ⊥) → (chosen body heads k && ltb k (others + body)) ≡ (chosen body heads k && ltb k (next + body))
  nothing_between others next k n l ne = elim (dec_lt k (others + body)) [ yes b ↦ before b | no b ↦ behind (chosen body heads k) refl (omega arith) ]
    where
      before : k < others + body → (chosen body heads k && ltb k (others + body)) ≡ (chosen body heads k && ltb k (next + body))
      before b = rw (lt-ltb k (others + body) b, lt-ltb k (next + body) (omega (arith, n.more)))

      behind : (c : Bool) → chosen body heads k ≡ c → others + body < k → (chosen body heads k && ltb k (others + body)) ≡ (chosen body heads k && ltb k (next + body))
      behind false e b = rw e
      behind true e b =
          let o = beside k l e in
          let far : next ≤ o.y = n.first o.y o.apart (omega (arith, o.sum)) in
          rw (le-ltb k (others + body) (omega arith), le-ltb k (next + body) (omega (arith, o.sum)))

  pub fixed_small : bit_or body heads < 2 ^ 14
  fixed_small = or_lt 14 body heads small narrow

  -- how code comes from one to the next
  pub counted_on : (others : ℕ) → others < 2 ^ 14 → Apart others (bit_or body heads) → Next (bit_or body heads) others (bit_and (others + bit_or body heads + 1) (2 ^ 64 - 1 - bit_or body heads))
  counted_on others few a = next_apart 64 (bit_or body heads) others a (omega (arith, fixed_small)) (omega (arith, fixed_small))

  pub counted_few : (others : ℕ) → others < 2 ^ 14 → bit_and (others + bit_or body heads + 1) (2 ^ 64 - 1 - bit_or body heads) < 2 ^ 15
  counted_few others few = omega (arith, and_le_l (others + bit_or body heads + 1) (2 ^ 64 - 1 - bit_or body heads), fixed_small)

-- ---- the words before one

-- each chosen word before number `end` has the pattern, and every other is as it was
pub record MarkedTo (pattern body heads end : ℕ) (before after : List ℕ) : Type 0 where
  pub long : length after ≡ length before
  pub word : (k : ℕ) → k < length before → get_or after k 0 ≡ cond (chosen body heads k && ltb k end) (bit_or (get_or before k 0) pattern) (get_or before k 0)

module _ (pattern body heads : ℕ) (small : body < 2 ^ 14) (narrow : heads < 2 ^ 14) where
  pub marked_none : (table : List ℕ) → length table ≤ most_words → MarkedTo pattern body heads body table table
  marked_none table room = record { long = refl; word = λ k l. rw (nothing_before body heads small narrow k (omega arith)) refl }

  module _ (before after : List ℕ) (others next : ℕ) (room : length before ≤ most_words) (clear : Apart body heads) (m : MarkedTo pattern body heads (others + body) before after) where
    pub marked_more : Apart others (bit_or body heads) → Next (bit_or body heads) others next → others + body < length before → MarkedTo pattern body heads (next + body) before (set after (others + body) (bit_or (get_or after (others + body) 0) pattern))
    unfolding chosen
    marked_more a n l = record { long = simp length-set m.long; word = λ k h. elim (ℕ_discrete k (others + body)) [ yes e ↦ rw e (here (omega (arith, m.long))) | no ne ↦ other k h ne ] }
      where
        here : others + body < length after → get_or (set after (others + body) (bit_or (get_or after (others + body) 0) pattern)) (others + body) 0 ≡ cond (chosen body heads (others + body) && ltb (others + body) (next + body)) (bit_or (get_or before (others + body) 0) pattern) (get_or before (others + body) 0)
        here k =
            let same : get_or after (others + body) 0 ≡ get_or before (others + body) 0 = m.word (others + body) l ∙ rw (le-ltb (others + body) (others + body) (omega arith), and-false (chosen body heads (others + body))) refl in
            get_or-set_same after (others + body) _ 0 k ∙ ap (λ (w : ℕ). bit_or w pattern) same ∙ rw (beside_chosen 14 body heads others clear a, lt-ltb (others + body) (next + body) (omega (arith, n.more))) refl

        other : (k : ℕ) → k < length before → (k ≡ others + body → ⊥) → get_or (set after (others + body) (bit_or (get_or after (others + body) 0) pattern)) k 0 ≡ cond (chosen body heads k && ltb k (next + body)) (bit_or (get_or before k 0) pattern) (get_or before k 0)
        other k h ne = get_or-set_other after (others + body) k _ 0 ne ∙ m.word k h ∙ ap (λ (c : Bool). cond c (bit_or (get_or before k 0) pattern) (get_or before k 0)) (nothing_between body heads small narrow others next k n (omega arith) ne)

pub marked_all : (pattern body heads end : ℕ) (before after : List ℕ) → length before ≤ end → MarkedTo pattern body heads end before after → WordsMarked pattern body heads before after
marked_all pattern body heads end before after l m =
    record {
      long = m.long;
      word = λ k h. m.word k h ∙ ap (λ (c : Bool). cond c (bit_or (get_or before k 0) pattern) (get_or before k 0)) (ap (λ (t : Bool). chosen body heads k && t) (lt-ltb k end (omega arith)) ∙ and-true (chosen body heads k));
    }

-- ---- the table

module _ (body heads : ℕ) where
  pub rules_out : (pattern : ℕ) (before after : List ℕ) → Leaves 6 body heads pattern → WordsMarked pattern (body / 64) (heads / 64) before after → RulesOut body heads before after
  unfolding ruled_out
  rules_out pattern before after low m = record { long = m.long; out = λ J l. ap (λ (w : ℕ). bit w (J % 64)) (m.word (J / 64) (omega arith)) ∙ go J (chosen (body / 64) (heads / 64) (J / 64)) refl }
    where
      go : (J : ℕ) (c : Bool) → chosen (body / 64) (heads / 64) (J / 64) ≡ c → bit (cond (chosen (body / 64) (heads / 64) (J / 64)) (bit_or (get_or before (J / 64) 0) pattern) (get_or before (J / 64) 0)) (J % 64) ≡ (bit (get_or before (J / 64) 0) (J % 64) || refutes body heads J)
      go J true e = rw (refutes_parts body heads J, e, and-true (all_below (suits body heads (J % 64)) 6), ← (low (J % 64) (omega arith))) (bit_or_lem (get_or before (J / 64) 0) pattern (J % 64))
      go J false e = rw (refutes_parts body heads J, e, and-false (all_below (suits body heads (J % 64)) 6), or-false (bit (get_or before (J / 64) 0) (J % 64))) refl

  -- masks that ask for a fact and for its absence refute nothing
  pub rules_none : (table : List ℕ) → body < 2 ^ 20 → heads < 2 ^ 20 → (bit_and body heads ≡ 0 → ⊥) → RulesOut body heads table table
  unfolding refutes
  rules_none table small narrow clash = record { long = refl; out = λ J l. sym (ap (λ (b : Bool). ruled_out table J || b) (never_true (refutes body heads J) (λ r. clash (suited_apart 20 body heads J small narrow r))) ∙ or-false (ruled_out table J)) }
