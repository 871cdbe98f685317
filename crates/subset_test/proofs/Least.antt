-- The first number that no matching refutes is that of the set that the search finds; where every number below the candidate's own is refuted, it
-- finds none.
use mathlib.Core.Path.{◌≡◌, refl, sym, ap, ◌∙◌}
use mathlib.Core.Bool.{Bool, true, false, cond, false≢true, true≢false}
use mathlib.Core.Logic.{inl, inr}
use mathlib.Core.Option.{Option, none, some}
use mathlib.Core.List.{List, [], ◌∷◌, map}
use Prim.Native.Nat.{ℕ, zero, suc, ◌+◌, ◌-◌, ◌^◌, ◌≤◌, ◌<◌}
use native.Mathlib.Omega.{arith}
use native.Mathlib.Decide.{dec_lt}
use borrow.Author.Tests.{lt-ltb, le-ltb}
use lib.Dec.{ltb}
use lib.ListN.{length, get_or, get_elem?, length-map}
use lib.Seq.{ext_get_or}
use Rattle.meaning.specs.Sets.{every, any, number}
use Rattle.meaning.specs.Domain.{Domain, Laws}
use Rattle.meaning.specs.Rules.{Fact, Rule}
use Rattle.meaning.specs.Safety.{safe}
use Rattle.meaning.specs.Instances.{Set, same_fact}
use Rattle.meaning.specs.Verdicts.{accepted, smaller}
use Rattle.meaning.specs.Clauses.{Clause, Respects}
use Rattle.meaning.specs.Quick.{clauses, smaller_set, shows}
use Rattle.meaning.proofs.Facts.{same_fact_test}
use Rattle.meaning.proofs.Numbers.{number_above}
use Rattle.meaning.proofs.Search.{Between}
use Rattle.meaning.proofs.Subsets.{Told, set_tells}
use Rattle.tables.specs.Rows.{from}
use Rattle.tables.proofs.Strides.{from_length}
use Rattle.derived_set.specs.Members.{bit}
use Rattle.reach.specs.Reach.{position}
use Rattle.reach.proofs.Positions.{only_position}
use Rattle.reach.proofs.Graphs.{Once}
use Rattle.subsets.proofs.Numbers.{number_small, number_bit, bits_number, all_number, number_all}
use Rattle.subset_test.specs.Refuted.{kept_at, refuted}
use Rattle.subset_test.proofs.Clauses.{respects_none, none_respects, map_at, refuted_is}

-- ---- lists by their places

at_some : {A : Type 0} (l : List A) (i : ℕ) → i < length l → (a : A) × (get_elem? l i ≡ some a)
at_some [] i h = absurd (omega arith)
at_some (x ∷ xs) zero h = (x, refl)
at_some (x ∷ xs) (suc i) h = at_some xs i (omega arith)

from_get_d : {A : Type 0} (f : ℕ → A) (n k i : ℕ) (d : A) → i < n → get_or (from f n k) i d ≡ f (k + i)
unfolding from
from_get_d f zero k i d h = absurd (omega arith)
from_get_d f (suc n) k zero d h = let z : k + 0 ≡ k = omega arith in ap f (sym z)
from_get_d f (suc n) k (suc i) d h = let z : suc k + i ≡ k + suc i = omega arith in from_get_d f n (suc k) i d (omega arith) ∙ ap f z

-- a set's members are the bits of its number
members : {A : Type 0} (f : A → Bool) (l : List A) → map f l ≡ from (bit (number f l)) (length l) 0
members f l = ext_get_or false (map f l) (from (bit (number f l)) (length l) 0) (length-map l f ∙ sym (from_length (bit (number f l)) (length l) 0)) (λ i h. let k : i < length l = omega (arith, h, length-map l f) in let z : 0 + i ≡ i = omega arith in sym (number_bit f l i k) ∙ ap (bit (number f l)) (sym z) ∙ sym (from_get_d (bit (number f l)) (length l) 0 i false k))

-- ---- the search

module _ {U : Type 0} (D : Domain U) (laws : Laws D) (P : List (Rule U)) (I : List (Fact U)) (all_safe : every safe P ≡ true) (once : Once I) where
  abbrev own : Clause (Fact U)
  own = record { heads = []; body = I }

  -- what the search asks of a set
  abbrev Asked : Set U → Type 0
  Asked S = Respects (own ∷ clauses D P I) S

  asked_says : (S : Set U) → Asked S → (refuted D I P (number S I) ≡ false) × (suc (number S I) < 2 ^ length I)
  unfolding any
  asked_says S h = (refuted_is D laws I S P ∙ respects_none S (clauses D P I) (λ c m. h c (inr m)), go (dec_lt (suc (number S I)) (2 ^ length I)))
    where
      go : Dec (suc (number S I) < 2 ^ length I) → suc (number S I) < 2 ^ length I
      go (yes k) = k
      go (no k) = absurd (false≢true (h own (inl refl) (number_all S I (omega (arith, number_small S I)))))

  says_asked : (S : Set U) → refuted D I P (number S I) ≡ false → suc (number S I) < 2 ^ length I → Asked S
  unfolding any
  says_asked S e l c (inl z) b = absurd (let all : every S I ≡ true = rw z at b in omega (arith, all_number S I all))
  says_asked S e l c (inr m) b = none_respects S (clauses D P I) (sym (refuted_is D laws I S P) ∙ e) c m b

  -- the set with a number
  with_number : ℕ → Set U
  with_number J f = kept_at J (position D 0 I f)

  number_with : (J : ℕ) → J < 2 ^ length I → number (with_number J) I ≡ J
  unfolding with_number kept_at
  number_with J h = bits_number (with_number J) I J h (λ i l. let q = at_some I i l in map_at (with_number J) I i q.0 q.1 ∙ rw (only_position D laws I once q.0 i q.1) refl)

  between : (S : Set U) → Between (same_fact D) (same_fact_test D laws) (own ∷ clauses D P I) (λ a. false) (λ a. false) S
  between S = record { has = λ a h. absurd (false≢true h); lacks = λ a h. absurd (false≢true h) }

  module _ (r : ℕ) (within : r ≤ 2 ^ length I - 1) (before : (J : ℕ) → J < r → refuted D I P J ≡ true) (here : r < 2 ^ length I - 1 → refuted D I P r ≡ false) where
    -- a number that is not refuted is a set's that the search asks for
    asked_here : r < 2 ^ length I - 1 → Asked (with_number r)
    asked_here l = let e : number (with_number r) I ≡ r = number_with r (omega arith) in says_asked (with_number r) (rw e (here l)) (rw e (omega arith))

    pub first_shown : shows I (smaller_set D (clauses D P I) I) ≡ cond (ltb r (2 ^ length I - 1)) (smaller (from (bit r) (length I) 0)) (accepted (length I) 0 [])
    unfolding shows
    first_shown = go (smaller_set D (clauses D P I) I) (set_tells D laws P I all_safe)
      where
        go : (o : Option (Set U)) → Told D laws P I all_safe o → shows I o ≡ cond (ltb r (2 ^ length I - 1)) (smaller (from (bit r) (length I) 0)) (accepted (length I) 0 [])
        go none t = at (dec_lt r (2 ^ length I - 1))
          where
            at : Dec (r < 2 ^ length I - 1) → accepted (length I) 0 [] ≡ cond (ltb r (2 ^ length I - 1)) (smaller (from (bit r) (length I) 0)) (accepted (length I) 0 [])
            at (yes l) = absurd (t (with_number r) (between (with_number r)) (asked_here l))
            at (no l) = rw (le-ltb r (2 ^ length I - 1) (omega arith)) refl
        go (some K) t = rw (lt-ltb r (2 ^ length I - 1) below, members K I, same) refl
          where
            said : (refuted D I P (number K I) ≡ false) × (suc (number K I) < 2 ^ length I)
            said = asked_says K t.respects

            low : r ≤ number K I
            low = at (dec_lt (number K I) r)
              where
                at : Dec (number K I < r) → r ≤ number K I
                at (yes l) = absurd (true≢false (sym (before (number K I) l) ∙ said.0))
                at (no l) = omega arith

            below : r < 2 ^ length I - 1
            below = omega (arith, said.1, low)

            high : number K I ≤ r
            high = rw (← (number_above K I), ← (number_above (with_number r) I), number_with r (omega (arith, below))) at (t.first (with_number r) (between (with_number r)) (asked_here below) 0)

            same : number K I ≡ r
            same = omega (arith, low, high)
