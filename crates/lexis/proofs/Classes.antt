-- Laws of `class_of`: the class of a byte from bounds on it.
use Prim.Native.Nat.{ℕ, ◌≤◌, ◌<◌}
use native.Mathlib.Omega.{arith}
use mathlib.Core.Bool.{Bool, true, false, cond, ◌&&◌}
use mathlib.Core.Path.{◌≡◌, refl}
use lib.Dec.{leb, eqb}
use borrow.Author.Tests.{le-leb, lt-leb, leb-true, eqb-true}
use Rattle.lexis.specs.declared.class.Class.TheVariants.{Lower, Upper, Digit, Underscore, Other}
use Rattle.lexis.specs.Class.{class_of}

in_range : (low high b : ℕ) → low ≤ b → b ≤ high → (leb low b && leb b high) ≡ true
in_range low high b h k = rw (le-leb low b h, le-leb b high k)

out_of_range : (low high b : ℕ) → (low ≤ b → high < b) → (leb low b && leb b high) ≡ false
out_of_range low high b h = go (leb low b) refl
  where
    go : (t : Bool) → leb low b ≡ t → (t && leb b high) ≡ false
    go true e = lt-leb b high (h (leb-true low b e))
    go false e = refl

module _ (b : ℕ) where
  pub class_digit : 48 ≤ b → b ≤ 57 → class_of b ≡ Digit
  unfolding class_of
  class_digit h k = rw (out_of_range 97 122 b (λ l. omega arith), out_of_range 65 90 b (λ l. omega arith), in_range 48 57 b h k)

-- and the one byte that is an underscore
pub underscore_byte : (b : ℕ) → class_of b ≡ Underscore → b ≡ 95
unfolding class_of
underscore_byte b = go (leb 97 b && leb b 122) (leb 65 b && leb b 90) (leb 48 b && leb b 57) (eqb b 95) refl
  where
    go : (l u d n : Bool) → eqb b 95 ≡ n → cond l Lower (cond u Upper (cond d Digit (cond n Underscore Other))) ≡ Underscore → b ≡ 95
    go true u d n q e = absurd (let z : ◌≡◌ {A = ℕ} 0 1 = cc in omega arith)
    go false true d n q e = absurd (let z : ◌≡◌ {A = ℕ} 0 1 = cc in omega arith)
    go false false true n q e = absurd (let z : ◌≡◌ {A = ℕ} 0 1 = cc in omega arith)
    go false false false true q e = eqb-true b 95 q
    go false false false false q e = absurd (let z : ◌≡◌ {A = ℕ} 0 1 = cc in omega arith)
