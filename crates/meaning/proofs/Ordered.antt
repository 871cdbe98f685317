-- One order is behind the six comparisons of values: numbers, then names, then strings. The statement stands at the end.
use mathlib.Core.Path.{◌≡◌, refl, sym, ap, ◌∙◌}
use mathlib.Core.Bool.{Bool, true, false, not, ◌||◌, false≢true, true≢false}
use mathlib.Core.List.{[], ◌∷◌}
use Prim.Native.Nat.{ℕ, zero, suc}
use native.Mathlib.Omega.{arith}
use lib.Dec.{eqb, ltb}
use lib.IntN.{ℤ, pos, negsuc}
use lib.Signed.{lt_z}
use borrow.Author.Tests.{ltb-true, ltb-false, lt-ltb, le-ltb}
use Rattle.meaning.specs.Rules.{Bytes}
use Rattle.meaning.specs.Values.{Value, number, name, string, same_number, same_value, decided, bytes_before, value_before, compare_by, compare_values, Ordered, OneOrder}
use Rattle.meaning.proofs.Booleans.{not_true, not_of_false, never_true, both_ways, eqb_sound, eqb_self}
use Rattle.meaning.proofs.Facts.{Test}
use Rattle.meaning.proofs.Values.{same_number_sound, same_number_self, same_value_sound, same_value_self}

-- ---- a first part that decides, and a rest: for each law, what it needs of both

module _ {A : Type 0} (same before : A → A → Bool) (test : Test same) where
  decided_irreflexive : (a : A) {r : Bool} → r ≡ false → decided (same a a) (before a a) r ≡ false
  decided_irreflexive a h = rw (test.self a) h

  decided_transitive : ((a : A) → before a a ≡ false) → (a b c : A) {r s t : Bool} → (before a b ≡ true → before b c ≡ true → before a c ≡ true) → (r ≡ true → s ≡ true → t ≡ true) → decided (same a b) (before a b) r ≡ true → decided (same b c) (before b c) s ≡ true → decided (same a c) (before a c) t ≡ true
  decided_transitive self a b c {r} {s} {t} h k = go (same a b) (same b c) refl refl
    where
      -- before, and so not the same
      apart : before a c ≡ true → decided (same a c) (before a c) t ≡ true
      apart e = rw (never_true (same a c) (λ p. true≢false (sym e ∙ rw (test.sound a c p) (self c)))) e

      go : (x y : Bool) → same a b ≡ x → same b c ≡ y → decided x (before a b) r ≡ true → decided y (before b c) s ≡ true → decided (same a c) (before a c) t ≡ true
      go true true e f p q = rw (test.sound a b e, f) (k p q)
      go true false e f p q = apart (rw (test.sound a b e) q)
      go false true e f p q = apart (rw (← (test.sound b c f)) p)
      go false false e f p q = apart (h p q)

  decided_total : (a b : A) {r s : Bool} → (before a b ≡ false → before b a ≡ false → a ≡ b) → decided (same a b) (before a b) r ≡ false → decided (same b a) (before b a) s ≡ false → (a ≡ b) × (r ≡ false) × (s ≡ false)
  decided_total a b {r} {s} h = go (same a b) (same b a) refl refl
    where
      go : (x y : Bool) → same a b ≡ x → same b a ≡ y → decided x (before a b) r ≡ false → decided y (before b a) s ≡ false → (a ≡ b) × (r ≡ false) × (s ≡ false)
      go true true e f p q = (test.sound a b e, p, q)
      go true false e f p q = absurd (true≢false (sym (test.self a) ∙ rw (← (test.sound a b e)) at f))
      go false true e f p q = absurd (true≢false (sym (test.self b) ∙ rw (← (test.sound b a f)) at e))
      go false false e f p q = let z : a ≡ b = h p q in absurd (true≢false (sym (test.self b) ∙ rw z at e))

-- ---- numbers and bytes

eqb_test : Test eqb
eqb_test = record { sound = eqb_sound; self = eqb_self }

naturals_ordered : Ordered ltb
naturals_ordered = record { irreflexive = λ a. le-ltb a a (omega arith); transitive = λ a b c h k. lt-ltb a c (omega (arith, ltb-true a b h, ltb-true b c k)); total = λ a b h k. omega (arith, ltb-false a b h, ltb-false b a k) }

whole_ordered : Ordered lt_z
whole_ordered = record { irreflexive = irreflexive; transitive = transitive; total = total }
  where
    irreflexive : (m : ℤ) → lt_z m m ≡ false
    irreflexive (pos a) = naturals_ordered.irreflexive a
    irreflexive (negsuc a) = naturals_ordered.irreflexive a

    transitive : (l m n : ℤ) → lt_z l m ≡ true → lt_z m n ≡ true → lt_z l n ≡ true
    transitive (pos a) (pos b) (pos c) h k = naturals_ordered.transitive a b c h k
    transitive (pos a) (pos b) (negsuc c) h k = k
    transitive (pos a) (negsuc b) n h k = absurd (false≢true h)
    transitive (negsuc a) m (pos c) h k = refl
    transitive (negsuc a) (pos b) (negsuc c) h k = absurd (false≢true k)
    transitive (negsuc a) (negsuc b) (negsuc c) h k = naturals_ordered.transitive c b a k h

    total : (m n : ℤ) → lt_z m n ≡ false → lt_z n m ≡ false → m ≡ n
    total (pos a) (pos b) h k = ap pos (naturals_ordered.total a b h k)
    total (pos a) (negsuc b) h k = absurd (true≢false k)
    total (negsuc a) (pos b) h k = absurd (true≢false h)
    total (negsuc a) (negsuc b) h k = ap negsuc (naturals_ordered.total a b k h)

bytes_ordered : Ordered bytes_before
unfolding bytes_before
bytes_ordered = record { irreflexive = irreflexive; transitive = transitive; total = total }
  where
    irreflexive : (a : Bytes) → bytes_before a a ≡ false
    irreflexive [] = refl
    irreflexive (x ∷ xs) = decided_irreflexive eqb ltb eqb_test x (irreflexive xs)

    transitive : (a b c : Bytes) → bytes_before a b ≡ true → bytes_before b c ≡ true → bytes_before a c ≡ true
    transitive [] [] c h k = absurd (false≢true h)
    transitive [] (y ∷ ys) [] h k = absurd (false≢true k)
    transitive [] (y ∷ ys) (z ∷ zs) h k = refl
    transitive (x ∷ xs) [] c h k = absurd (false≢true h)
    transitive (x ∷ xs) (y ∷ ys) [] h k = absurd (false≢true k)
    transitive (x ∷ xs) (y ∷ ys) (z ∷ zs) h k = decided_transitive eqb ltb eqb_test naturals_ordered.irreflexive x y z (naturals_ordered.transitive x y z) (transitive xs ys zs) h k

    total : (a b : Bytes) → bytes_before a b ≡ false → bytes_before b a ≡ false → a ≡ b
    total [] [] h k = refl
    total [] (y ∷ ys) h k = absurd (true≢false h)
    total (x ∷ xs) [] h k = absurd (true≢false k)
    total (x ∷ xs) (y ∷ ys) h k =
        let q = decided_total eqb ltb eqb_test x y (naturals_ordered.total x y) h k in
        let p = q.0 in
        let t = total xs ys q.1 q.2 in
        cc (p, t)

-- ---- values: a value is its kind, its number and its bytes, compared in this order

abbrev kind : Value → ℕ
kind (number m) = 0
kind (name a) = 1
kind (string a) = 2

abbrev size : Value → ℤ
size (number m) = m
size (name a) = pos 0
size (string a) = pos 0

abbrev text : Value → Bytes
text (number m) = []
text (name a) = a
text (string a) = a

abbrev made : ℕ → ℤ → Bytes → Value
made zero m a = number m
made (suc zero) m a = name a
made (suc (suc k)) m a = string a

made_again : (v : Value) → made (kind v) (size v) (text v) ≡ v
made_again (number m) = refl
made_again (name a) = refl
made_again (string a) = refl

abbrev within : Value → Value → Bool
within v w = decided (same_number (size v) (size w)) (lt_z (size v) (size w)) (bytes_before (text v) (text w))

whole_test : Test same_number
whole_test = record { sound = same_number_sound; self = same_number_self }

by_parts : (v w : Value) → value_before v w ≡ decided (eqb (kind v) (kind w)) (ltb (kind v) (kind w)) (within v w)
unfolding value_before same_number bytes_before
by_parts (number m) (number n) = go (same_number m n) refl
  where
    go : (b : Bool) → same_number m n ≡ b → lt_z m n ≡ decided b (lt_z m n) false
    go true e = rw (same_number_sound m n e) (whole_ordered.irreflexive n)
    go false e = refl
by_parts (number m) (name b) = refl
by_parts (number m) (string b) = refl
by_parts (name a) (number n) = refl
by_parts (name a) (name b) = refl
by_parts (name a) (string b) = refl
by_parts (string a) (number n) = refl
by_parts (string a) (name b) = refl
by_parts (string a) (string b) = refl

values_ordered : Ordered value_before
values_ordered = record { irreflexive = irreflexive; transitive = transitive; total = total }
  where
    irreflexive : (v : Value) → value_before v v ≡ false
    irreflexive v = by_parts v v ∙ decided_irreflexive eqb ltb eqb_test (kind v) (decided_irreflexive same_number lt_z whole_test (size v) (bytes_ordered.irreflexive (text v)))

    transitive : (u v w : Value) → value_before u v ≡ true → value_before v w ≡ true → value_before u w ≡ true
    transitive u v w h k =
        by_parts u w ∙ decided_transitive eqb ltb eqb_test naturals_ordered.irreflexive (kind u) (kind v) (kind w) (naturals_ordered.transitive (kind u) (kind v) (kind w)) (decided_transitive same_number lt_z whole_test whole_ordered.irreflexive (size u) (size v) (size w) (whole_ordered.transitive (size u) (size v) (size w)) (bytes_ordered.transitive (text u) (text v) (text w))) (sym (by_parts u v) ∙ h) (sym (by_parts v w) ∙ k)

    total : (v w : Value) → value_before v w ≡ false → value_before w v ≡ false → v ≡ w
    total v w h k =
        let p = decided_total eqb ltb eqb_test (kind v) (kind w) (naturals_ordered.total (kind v) (kind w)) (sym (by_parts v w) ∙ h) (sym (by_parts w v) ∙ k) in
        let q = decided_total same_number lt_z whole_test (size v) (size w) (whole_ordered.total (size v) (size w)) p.1 p.2 in
        let t = bytes_ordered.total (text v) (text w) q.1 q.2 in
        let kinds = p.0 in
        let sizes = q.0 in
        let z : made (kind v) (size v) (text v) ≡ made (kind w) (size w) (text w) = cc (kinds, sizes, t) in
        sym (made_again v) ∙ z ∙ made_again w

-- ---- the comparisons

-- not to be behind is to be before, or the same
at_most_is : (v w : Value) → not (value_before w v) ≡ (value_before v w || same_value v w)
at_most_is v w = both_ways (not (value_before w v)) (value_before v w || same_value v w) forth (λ h. back (value_before v w) (same_value v w) refl refl h)
  where
    forth : not (value_before w v) ≡ true → (value_before v w || same_value v w) ≡ true
    forth h = go (value_before v w) refl
      where
        go : (b : Bool) → value_before v w ≡ b → (b || same_value v w) ≡ true
        go true e = refl
        go false e = let p : v ≡ w = values_ordered.total v w e (not_true (value_before w v) h) in rw p (same_value_self w)

    back : (b c : Bool) → value_before v w ≡ b → same_value v w ≡ c → (b || c) ≡ true → not (value_before w v) ≡ true
    back true c e f h = not_of_false (value_before w v) (never_true (value_before w v) (λ k. true≢false (sym (values_ordered.transitive v w v e k) ∙ values_ordered.irreflexive v)))
    back false true e f h = rw (same_value_sound v w f, values_ordered.irreflexive w)
    back false false e f h = absurd (false≢true h)

-- one order is behind all six
pub value_order : OneOrder compare_values
unfolding compare_values compare_by
value_order =
    record {
      equality = λ v w. (same_value_sound v w, λ e. rw e (same_value_self w));
      order = values_ordered;
      differs = λ v w. refl;
      not_after = at_most_is;
      after = λ v w. refl;
      not_before = λ v w. refl;
    }
