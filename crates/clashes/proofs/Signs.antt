-- The numbers of two predicates say whether they are the same, or differ in sign alone.
use mathlib.Core.Path.{◌≡◌, refl, ap}
use mathlib.Core.Bool.{Bool, true, false, not, ◌&&◌, cond, false≢true}
use mathlib.Core.List.{List}
use Prim.Native.Nat.{ℕ, zero, suc, ◌/◌, ◌%◌, ◌<◌}
use native.Mathlib.Omega.{arith}
use borrow.Author.Tests.{eqb-true}
use lib.Dec.{eqb}
use lib.ListN.{length}
use Rattle.meaning.specs.Rules.{predicate}
use Rattle.meaning.specs.Values.{same_bytes}
use Rattle.meaning.specs.Instances.{same_sign, same_predicate}
use Rattle.codes.specs.Predicates.{predicate_of}
use Rattle.codes.proofs.Predicates.{same_predicate_number}
use Rattle.tables.specs.Rows.{arity, atom_with}
use Rattle.tables.proofs.Predicates.{predicate_with}
use Rattle.clashes.specs.Clashes.{turned, differ_in_sign, related}

-- two bits
signs : (a b : ℕ) → a < 2 → b < 2 → same_sign (not (eqb a 1)) (eqb b 1) ≡ not (eqb a b)
unfolding same_sign
signs zero zero h k = refl
signs zero (suc zero) h k = refl
signs zero (suc (suc b)) h k = absurd (omega arith)
signs (suc zero) zero h k = refl
signs (suc zero) (suc zero) h k = refl
signs (suc zero) (suc (suc b)) h k = absurd (omega arith)
signs (suc (suc a)) b h k = absurd (omega arith)

tests : (s x y : Bool) → (s && ((x && true) && y)) ≡ cond x (cond y s false) false
tests true true true = refl
tests true true false = refl
tests true false y = refl
tests false true true = refl
tests false true false = refl
tests false false y = refl

opposite : {X : Type 0} (p q : ℕ) (xs : List X) → length xs ≡ arity p → same_predicate (predicate (turned true (atom_with p xs))) (predicate_of q) ≡ differ_in_sign p q
unfolding turned atom_with predicate predicate_of same_predicate same_bytes differ_in_sign
opposite p q xs h =
    let a : p / 9 % 2 < 2 = omega arith in
    let b : q / 9 % 2 < 2 = omega arith in
    rw (h, signs (p / 9 % 2) (q / 9 % 2) a b) (tests (not (eqb (p / 9 % 2) (q / 9 % 2))) (eqb (p / 18) (q / 18)) (eqb (p % 9) (q % 9)))

as_it_is : {X : Type 0} (p q : ℕ) (xs : List X) → length xs ≡ arity p → same_predicate (predicate (turned false (atom_with p xs))) (predicate_of q) ≡ eqb p q
unfolding turned
as_it_is p q xs h = rw (predicate_with p xs h) (same_predicate_number p q)

pub predicates_related : {X : Type 0} (opposed : Bool) (p q : ℕ) (xs : List X) → length xs ≡ arity p → same_predicate (predicate (turned opposed (atom_with p xs))) (predicate_of q) ≡ related opposed p q
unfolding related
predicates_related true p q xs h = opposite p q xs h
predicates_related false p q xs h = as_it_is p q xs h

pub related_parts : (opposed : Bool) (p q : ℕ) → related opposed p q ≡ true → (p / 18 ≡ q / 18) × (p % 9 ≡ q % 9)
unfolding related differ_in_sign
related_parts false p q h = let e = eqb-true p q h in (ap (λ (n : ℕ). n / 18) e, ap (λ (n : ℕ). n % 9) e)
related_parts true p q h = go (eqb (p / 18) (q / 18)) (eqb (p % 9) (q % 9)) refl refl h
  where
    go : (x y : Bool) → eqb (p / 18) (q / 18) ≡ x → eqb (p % 9) (q % 9) ≡ y → cond x (cond y (not (eqb (p / 9 % 2) (q / 9 % 2))) false) false ≡ true → (p / 18 ≡ q / 18) × (p % 9 ≡ q % 9)
    go true true e f k = (eqb-true (p / 18) (q / 18) e, eqb-true (p % 9) (q % 9) f)
    go true false e f k = absurd (false≢true k)
    go false y e f k = absurd (false≢true k)
