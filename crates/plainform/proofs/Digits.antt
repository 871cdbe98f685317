-- A number is written in one way only: its digits say it, and digits that say it are those.
use mathlib.Core.Path.{◌≡◌, refl, sym as inv, ap, ◌∙◌}
use mathlib.Core.Bool.{Bool, true, false, cond, ◌&&◌, true≢false}
use mathlib.Core.List.{[], ◌∷◌, ◌++◌, append_assoc, append-nil}
use Prim.Native.Nat.{ℕ, zero, suc, ◌+◌, ◌*◌, ◌-◌, ◌/◌, ◌%◌, ◌≤◌, ◌<◌}
use native.Mathlib.Nat.{mod-lt, mod-eq_of_lt, div-eq_of_lt, div-add-mod', div-lt_self, mul-add-div_right, mul-add-mod_self_right, add-zero}
use native.Mathlib.Omega.{arith}
use lib.Dec.{ltb, leb, eqb}
use lib.ListN.{length, get_or, length-append, get_or-append}
use borrow.Author.Tests.{ltb-true, ltb-false, lt-ltb, le-ltb, leb-true, eqb-true, eqb-false}
use Rattle.meaning.proofs.Booleans.{both}
use Rattle.lexis.specs.declared.class.Class.{Class}
use Rattle.lexis.specs.declared.class.Class.TheVariants.{Lower, Upper, Digit, Underscore, Other}
use Rattle.lexis.specs.declared.kind.Kind.TheVariants.{Number}
use Rattle.lexis.specs.declared.run.Run.TheVariants.{Digits}
use Rattle.lexis.specs.Class.{class_of, is_digit}
use Rattle.lexis.specs.Run.{goes_on}
use Rattle.lexis.specs.Number.{decimal_after, decimal}
use Rattle.texts.specs.Prefix.{every}
use Rattle.tokens.specs.Spells.{Starts, Spells}
use Rattle.lexis.proofs.Classes.{class_digit}
use Rattle.meaning.specs.Rules.{Bytes}
use Rattle.grammar.specs.Writing.{digits}

-- ---- digits, from the last

-- one digit is itself, and more are those of a tenth and the last
one_digit : (k n : ℕ) → n < 10 → digits k n ≡ (48 + n) ∷ []
unfolding digits
one_digit zero n h = refl
one_digit (suc k) n h = rw (lt-ltb n 10 h, digits)

more_digits : (k n : ℕ) → 10 ≤ n → digits (suc k) n ≡ digits k (n / 10) ++ (48 + n % 10) ∷ []
unfolding digits
more_digits k n h = rw (le-ltb n 10 h, digits)

tenth : (n : ℕ) → 10 ≤ n → n / 10 < n
tenth n h = div-lt_self (omega arith) (omega arith)

-- as many places as the number says are enough
enough : (k l n : ℕ) → n ≤ k → n ≤ l → digits k n ≡ digits l n
enough zero l n h g = one_digit zero n (omega arith) ∙ inv (one_digit l n (omega arith))
enough (suc k) zero n h g = one_digit (suc k) n (omega arith) ∙ inv (one_digit zero n (omega arith))
enough (suc k) (suc l) n h g = go (ltb n 10) refl (enough k l (n / 10))
  where
    go : (t : Bool) → ltb n 10 ≡ t → (n / 10 ≤ k → n / 10 ≤ l → digits k (n / 10) ≡ digits l (n / 10)) → digits (suc k) n ≡ digits (suc l) n
    go true e ih = let s = ltb-true n 10 e in one_digit (suc k) n s ∙ inv (one_digit (suc l) n s)
    go false e ih =
        let s = ltb-false n 10 e in
        let t = tenth n s in
        more_digits k n s ∙ ap (λ (b : Bytes). b ++ (48 + n % 10) ∷ []) (ih (omega arith) (omega arith)) ∙ inv (more_digits l n s)

last_digit : (n : ℕ) → 10 ≤ n → digits n n ≡ digits (n / 10) (n / 10) ++ (48 + n % 10) ∷ []
last_digit zero h = absurd (let z : ⊥ = omega arith in z)
last_digit (suc m) h =
    let t = tenth (suc m) h in
    more_digits m (suc m) h ∙ ap (λ (b : Bytes). b ++ (48 + suc m % 10) ∷ []) (enough m (suc m / 10) (suc m / 10) (omega arith) (omega arith))

-- what holds of one digit, and of more if it holds of those before the last, holds of all
by_tenths : (P : ℕ → Type 0) → ((n : ℕ) → n < 10 → P n) → ((n : ℕ) → 10 ≤ n → P (n / 10) → P n) → (k n : ℕ) → n ≤ k → P n
by_tenths P one more zero n h = one n (omega arith)
by_tenths P one more (suc k) n h = go (ltb n 10) refl (by_tenths P one more k (n / 10))
  where
    go : (t : Bool) → ltb n 10 ≡ t → (n / 10 ≤ k → P (n / 10)) → P n
    go true e ih = one n (ltb-true n 10 e)
    go false e ih = let s = ltb-false n 10 e in let t = tenth n s in more n s (ih (omega arith))

-- ---- they say the number

decimal_append : (n : ℕ) (a b : Bytes) → decimal_after n (a ++ b) ≡ decimal_after (decimal_after n a) b
unfolding decimal_after
decimal_append n [] b = refl
decimal_append n (c ∷ a) b = decimal_append (n * 10 + (c - 48)) a b

pub decimal_digits : (n : ℕ) → decimal (digits n n) ≡ n
unfolding decimal_after
decimal_digits n = by_tenths (λ n. decimal (digits n n) ≡ n) one more n n (omega arith)
  where
    one : (n : ℕ) → n < 10 → decimal (digits n n) ≡ n
    one n h = rw (one_digit n n h) (omega arith)

    more : (n : ℕ) → 10 ≤ n → decimal (digits (n / 10) (n / 10)) ≡ n / 10 → decimal (digits n n) ≡ n
    more n h ih = rw (last_digit n h, decimal_append 0 (digits (n / 10) (n / 10)) ((48 + n % 10) ∷ []), ih) (omega (arith, div-add-mod' n 10))

-- ---- they are a number token

abbrev all_digits : Bytes → Bool
all_digits b = every (goes_on Digits) b

every_join : (p : ℕ → Bool) (a b : Bytes) → every p a ≡ true → every p b ≡ true → every p (a ++ b) ≡ true
unfolding every
every_join p [] b h g = g
every_join p (c ∷ a) b h g = let q = both (p c) (every p a) h in rw q.0 (every_join p a b q.1 g)

digit_byte : (d : ℕ) → d < 10 → all_digits ((48 + d) ∷ []) ≡ true
unfolding every
digit_byte d h = rw (class_digit (48 + d) (omega arith) (omega arith))

-- a number's first digit is 0 only where it is 0
pub record Numeral (n : ℕ) (b : Bytes) : Type 0 where
  pub some : 1 ≤ length b
  pub all : all_digits b ≡ true
  pub first : 1 ≤ n → 49 ≤ get_or b 0 0

numeral : (n : ℕ) → Numeral n (digits n n)
numeral n = by_tenths (λ n. Numeral n (digits n n)) one more n n (omega arith)
  where
    one : (n : ℕ) → n < 10 → Numeral n (digits n n)
    one n h = rw (one_digit n n h) (record { some = omega arith; all = digit_byte n h; first = λ g. omega arith })

    tens : (n : ℕ) → 10 ≤ n → 1 ≤ n / 10
    tens n h = let e = div-add-mod' n 10 in let l : n % 10 < 10 = mod-lt n (omega arith) in omega arith

    more : (n : ℕ) → 10 ≤ n → Numeral (n / 10) (digits (n / 10) (n / 10)) → Numeral n (digits n n)
    more n h ih =
        let s = ih.some in
        rw (last_digit n h)
        (record {
          some = simp length-append (omega arith);
          all = every_join (goes_on Digits) _ _ ih.all (digit_byte (n % 10) (mod-lt n (omega arith)));
          first = λ g. rw (get_or-append (digits (n / 10) (n / 10)) ((48 + n % 10) ∷ []) 0 0 s) (ih.first (tens n h));
        })

is_digit_lem : (c : Class) → is_digit c ≡ true → c ≡ Digit
is_digit_lem Lower h = absurd (true≢false (inv h))
is_digit_lem Upper h = absurd (true≢false (inv h))
is_digit_lem Digit h = refl
is_digit_lem Underscore h = absurd (true≢false (inv h))
is_digit_lem Other h = absurd (true≢false (inv h))

pub number_spelled : (n : ℕ) → Spells Number (digits n n)
unfolding every
number_spelled n = (starts (digits n n) (numeral n).some (numeral n).all, λ e. go (eqb n 0) refl e)
  where
    starts : (b : Bytes) → 1 ≤ length b → all_digits b ≡ true → Starts Digit Digits b
    starts [] s a = absurd (let z : ⊥ = omega arith in z)
    starts (c ∷ r) s a = let q = both (goes_on Digits c) (all_digits r) a in record { some = s; first = is_digit_lem (class_of c) q.0; others = q.1 }

    go : (t : Bool) → eqb n 0 ≡ t → get_or (digits n n) 0 0 ≡ 48 → length (digits n n) ≡ 1
    go true z e = ap length (one_digit n n (let q = eqb-true n 0 z in omega arith))
    go false z e = absurd (let f = (numeral n).first (let q = eqb-false n 0 z in omega arith) in let w : ⊥ = omega arith in w)

-- ---- and no others say it

add_digit : (m d : ℕ) → 1 ≤ m → d < 10 → digits (m * 10 + d) (m * 10 + d) ≡ digits m m ++ (48 + d) ∷ []
add_digit m d h g =
    let q : (m * 10 + d) / 10 ≡ m = mul-add-div_right {m = 10} (omega arith) m d ∙ rw (div-eq_of_lt {n = d} {m = 10} g) (add-zero m) in
    let r : (m * 10 + d) % 10 ≡ d = mul-add-mod_self_right m 10 d ∙ mod-eq_of_lt g in
    last_digit (m * 10 + d) (omega arith) ∙ rw (q, r)

byte_bounds : (c : ℕ) → class_of c ≡ Digit → (48 ≤ c) × (c ≤ 57)
unfolding class_of
byte_bounds c = go (leb 97 c && leb c 122) (leb 65 c && leb c 90) (leb 48 c && leb c 57) refl (eqb c 95)
  where
    go : (l u d : Bool) → (leb 48 c && leb c 57) ≡ d → (n : Bool) → cond l Lower (cond u Upper (cond d Digit (cond n Underscore Other))) ≡ Digit → (48 ≤ c) × (c ≤ 57)
    go true u d q n e = absurd (let z : ◌≡◌ {A = ℕ} 0 1 = cc in omega arith)
    go false true d q n e = absurd (let z : ◌≡◌ {A = ℕ} 0 1 = cc in omega arith)
    go false false true q n e = let b = both (leb 48 c) (leb c 57) q in (leb-true 48 c b.0, leb-true c 57 b.1)
    go false false false q true e = absurd (let z : ◌≡◌ {A = ℕ} 0 1 = cc in omega arith)
    go false false false q false e = absurd (let z : ◌≡◌ {A = ℕ} 0 1 = cc in omega arith)

append_digits : (m : ℕ) (r : Bytes) → 1 ≤ m → all_digits r ≡ true → digits (decimal_after m r) (decimal_after m r) ≡ digits m m ++ r
unfolding decimal_after every
append_digits m [] h a = inv (append-nil (digits m m))
append_digits m (c ∷ r) h a =
    let q = both (goes_on Digits c) (all_digits r) a in
    let b = byte_bounds c (is_digit_lem (class_of c) q.0) in
    let e : 48 + (c - 48) ≡ c = omega (arith, b.0) in
    append_digits (m * 10 + (c - 48)) r (omega arith) q.1 ∙ rw (add_digit m (c - 48) h (omega (arith, b.0, b.1)), e, append_assoc (digits m m) (c ∷ []) r)

-- a number token is the digits of what it says
pub number_written : (b : Bytes) → Spells Number b → digits (decimal b) (decimal b) ≡ b
unfolding decimal_after
number_written [] s = absurd (let z : ⊥ = omega (arith, s.0.some) in z)
number_written (c ∷ r) s = go (eqb c 48) refl
  where
    low : 48 ≤ c
    low = (byte_bounds c s.0.first).0

    high : c ≤ 57
    high = (byte_bounds c s.0.first).1

    go : (t : Bool) → eqb c 48 ≡ t → digits (decimal (c ∷ r)) (decimal (c ∷ r)) ≡ c ∷ r
    go true e = alone r (s.1 (eqb-true c 48 e))
      where
        alone : (r : Bytes) → length (c ∷ r) ≡ 1 → digits (decimal (c ∷ r)) (decimal (c ∷ r)) ≡ c ∷ r
        alone [] l = let z : 0 * 10 + (48 - 48) ≡ 0 = omega arith in rw (eqb-true c 48 e, z, one_digit 0 0 (omega arith))
        alone (d ∷ r) l = absurd (let z : ⊥ = omega arith in z)
    go false e =
        let n = eqb-false c 48 e in
        let q : 48 + (c - 48) ≡ c = omega (arith, low) in
        let z : 0 * 10 + (c - 48) ≡ c - 48 = omega arith in
        rw (z, append_digits (c - 48) r (omega (arith, low)) s.0.others, one_digit (c - 48) (c - 48) (omega (arith, low, high)), q)
