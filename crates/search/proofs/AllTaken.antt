-- The queue in which every fact has its place, filled fact by fact.
use mathlib.Core.Path.{◌≡◌, refl, sym, ◌∙◌}
use mathlib.Core.Logic.{◌⊎◌, inl, inr}
use mathlib.Core.Bool.{Bool, true, false}
use mathlib.Core.List.{List}
use Prim.Native.Nat.{ℕ, suc, ◌+◌, ◌≤◌, ◌<◌}
use native.Mathlib.Omega.{arith}
use native.Mathlib.Decide.{dec_lt}
use borrow.Author.Tests.{lt-ltb, le-ltb}
use lib.ListN.{length, get_or, set, length-set}
use lib.Seq.{get_or-set_same, get_or-set_other}
use Rattle.meaning.proofs.Booleans.{same_or_not}
use Rattle.derived_set.specs.Members.{one_if, count}
use Rattle.derived_set.proofs.Sizes.{count_all}
use Rattle.queue.specs.Places.{upto}
use Rattle.queue.specs.Queue.{place, Fresh}
use Rattle.search.specs.Searched.{AllTaken}

-- the first k atoms have their places, and no other has one
pub record TakenTo (when₀ queue₀ when queue : List ℕ) (k : ℕ) : Type 0 where
  pub long : length when ≡ length when₀
  pub room : length queue ≡ length queue₀
  pub there : (a : ℕ) → a < k → place when a ≡ a
  pub back : (a : ℕ) → a < k → get_or queue a 0 ≡ a
  pub free : (a : ℕ) → k ≤ a → place when a ≡ 65535

pub taken_none : (when queue : List ℕ) → Fresh when queue → TakenTo when queue when queue 0
taken_none when queue f = record { long = refl; room = refl; there = λ a h. absurd (omega arith); back = λ a h. absurd (omega arith); free = λ a h. f.none a }

pub taken_more : (when₀ queue₀ when queue : List ℕ) (k : ℕ) → k < length when → k < length queue → TakenTo when₀ queue₀ when queue k → TakenTo when₀ queue₀ (set when k k) (set queue k k) (k + 1)
taken_more when₀ queue₀ when queue k h g t =
    record {
      long = length-set when k k ∙ t.long;
      room = length-set queue k k ∙ t.room;
      there = λ a l. there a l (same_or_not a k);
      back = λ a l. back a l (same_or_not a k);
      free = λ a l. get_or-set_other when k a k 65535 (λ e. omega arith) ∙ t.free a (omega arith);
    }
  where
    there : (a : ℕ) → a < k + 1 → (a ≡ k) ⊎ (a ≡ k → ⊥) → place (set when k k) a ≡ a
    there a l (inl e) = rw e (get_or-set_same when k k 65535 h)
    there a l (inr d) = get_or-set_other when k a k 65535 d ∙ t.there a (omega arith)

    back : (a : ℕ) → a < k + 1 → (a ≡ k) ⊎ (a ≡ k → ⊥) → get_or (set queue k k) a 0 ≡ a
    back a l (inl e) = rw e (get_or-set_same queue k k 0 g)
    back a l (inr d) = get_or-set_other queue k a k 0 d ∙ t.back a (omega arith)

count_before : (f : ℕ → Bool) (n : ℕ) → ((a : ℕ) → a < n → f a ≡ true) → f n ≡ false → count f (suc n) ≡ n
unfolding count one_if
count_before f n h e = rw e (omega (arith, count_all f n h))

pub taken_all : (when₀ queue₀ when queue : List ℕ) (k n : ℕ) → n ≤ k → k ≤ n → Fresh when₀ queue₀ → length when₀ ≡ suc n → TakenTo when₀ queue₀ when queue k → AllTaken n when queue
taken_all when₀ queue₀ when queue k n h g fresh wide t =
    let same : k ≡ n = omega arith in
    let long : length when ≡ suc n = t.long ∙ wide in
    let few : length when ≤ 1025 = omega (arith, t.long, fresh.few) in
    record {
      wide = long;
      queued =
          record {
            few = few;
            room = t.room ∙ fresh.room ∙ sym t.long;
            fits = omega arith;
            size = rw long (count_before (upto (place when) n) n (λ a l. lt-ltb (place when a) n (omega (arith, t.there a (omega arith)))) (le-ltb (place when n) n (let e = t.free n (omega arith) in omega arith)));
            back = λ a l. back a l (dec_lt a n);
            there = λ i l. rw (t.back i (omega arith)) (t.there i (omega arith));
            none = λ a l. none a l (dec_lt a n);
          };
      taken = λ a l. omega (arith, t.there a (omega arith));
      free = omega (arith, t.free n (omega arith));
    }
  where
    back : (a : ℕ) → place when a < n → Dec (a < n) → get_or queue (place when a) 0 ≡ a
    back a l (yes m) = rw (t.there a (omega arith)) (t.back a (omega arith))
    back a l (no m) = absurd (let e = t.free a (omega arith) in let s = t.long in let f = fresh.few in omega arith)

    none : (a : ℕ) → n ≤ place when a → Dec (a < n) → place when a ≡ 65535
    none a l (yes m) = absurd (omega (arith, t.there a (omega arith)))
    none a l (no m) = t.free a (omega arith)
