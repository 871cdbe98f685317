-- The first unbound variable: how the code finds it, that there is one answer, and that it is by what is bound alone.
use mathlib.Core.Path.{◌≡◌, refl, sym, ap, ◌∙◌}
use mathlib.Core.Bool.{Bool, true, false, not, false≢true}
use mathlib.Core.List.{List}
use Prim.Native.Nat.{ℕ, ◌≤◌, ◌<◌}
use native.Mathlib.Omega.{arith}
use lib.Dec.{ltb}
use lib.ListN.{length, get_or, take}
use lib.Seq.{length-take-le}
use borrow.Author.Tests.{ltb-true, ltb-false, not-true, not-false}
use Rattle.std.specs.Prelude.{Option, Some, None, position}
use Rattle.std.specs.List.{position_or_len}
use Rattle.std.proofs.lemmas.Option.{none-some}
use Rattle.std.proofs.lemmas.List.{get_or-take}
use Rattle.std.proofs.lemmas.List.Quantifiers.{position-Some}
use Rattle.std.proofs.lemmas.List.Sums.{fails_before_first}
use Rattle.texts.specs.declared.place.Place.{Place}
use Rattle.texts.specs.Place.{text_start}
use Rattle.texts.specs.Places.{place_in, places_in}
use Rattle.texts.proofs.PlaceTables.{places_length, place_among}
use Rattle.rulesafety.specs.declared.bound.Bound.{Bound}
use Rattle.rulesafety.specs.Bound.{bits_of}
use Rattle.rulesafety.specs.Unbound.{FirstUnbound, found, all_bound}

-- every variable with a number below n is bound
abbrev pub AllBelow : (ℕ → Bool) → ℕ → Type 0
AllBelow B n = (x : ℕ) → x < n → B x ≡ true

-- ---- as the code finds it

none_passes : (p : Bool → Bool) (bits : List Bool) → position p bits ≡ None → (x : ℕ) → x < length bits → p (get_or bits x false) ≡ false
none_passes p bits e x h = go (ltb (position_or_len p bits) (length bits)) refl
  where
    go : (t : Bool) → ltb (position_or_len p bits) (length bits) ≡ t → p (get_or bits x false) ≡ false
    go true f = absurd (none-some (position_or_len p bits) (sym (rw f at e)))
    go false f = let all = ltb-false _ _ f in fails_before_first p bits x false (omega arith)

module _ (b : Bound) (variables : List ℕ) (count : ℕ) (few : count ≤ length b.bits) where
  pub unbound_here : (n : ℕ) → position not (take count b.bits) ≡ Some n → (p : Place) → p ≡ place_in variables n → FirstUnbound (bits_of b) (places_in variables count) (Some p)
  unfolding bits_of
  unbound_here n e p is =
      let l = places_length variables count in
      let size = length-take-le count b.bits few in
      let at = position-Some not (take count b.bits) n false e in
      let inside : n < count = omega (arith, at.0) in
      found n (omega arith) (not-true _ (rw (get_or-take count b.bits n false inside) at at.1)) (λ y h. not-false _ (rw (get_or-take count b.bits y false (omega arith)) at (at.2 y h))) (rw (place_among variables count n text_start inside, is))

  pub none_unbound : position not (take count b.bits) ≡ None → FirstUnbound (bits_of b) (places_in variables count) None
  unfolding bits_of
  none_unbound e =
      let l = places_length variables count in
      let size = length-take-le count b.bits few in
      all_bound (λ x h. (let inside : x < count = omega arith in not-false _ (rw (get_or-take count b.bits x false inside) at (none_passes not (take count b.bits) e x (omega arith))))) refl

-- ---- there is one answer

pub first_unbound_unique : (B : ℕ → Bool) (firsts : List Place) (r s : Option Place) → FirstUnbound B firsts r → FirstUnbound B firsts s → r ≡ s
first_unbound_unique B firsts r s (found x h u all p) (found y k v most q) = p ∙ ap (λ n. Some (get_or firsts n text_start)) (same (ltb x y) refl (ltb y x) refl) ∙ sym q
  where
    same : (a : Bool) → ltb x y ≡ a → (b : Bool) → ltb y x ≡ b → x ≡ y
    same true e b f = absurd (false≢true (sym u ∙ most x (ltb-true x y e)))
    same false e true f = absurd (false≢true (sym v ∙ all y (ltb-true y x f)))
    same false e false f = let le = ltb-false x y e in let ge = ltb-false y x f in omega arith
first_unbound_unique B firsts r s (found x h u all p) (all_bound every q) = absurd (false≢true (sym u ∙ every x h))
first_unbound_unique B firsts r s (all_bound every p) (found y k v most q) = absurd (false≢true (sym v ∙ every y k))
first_unbound_unique B firsts r s (all_bound every p) (all_bound all q) = p ∙ sym q

-- ---- the same where the same variables are bound

pub unbound_same : {B C : ℕ → Bool} {firsts : List Place} {r : Option Place} → ((x : ℕ) → B x ≡ C x) → FirstUnbound B firsts r → FirstUnbound C firsts r
unbound_same same (found x h u all e) = found x h (sym (same x) ∙ u) (λ y k. sym (same y) ∙ all y k) e
unbound_same same (all_bound all e) = all_bound (λ x h. sym (same x) ∙ all x h) e
