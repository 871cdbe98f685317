-- Laws of `kind_of`: it says what `Spells` says.
use Prim.Native.Nat.{ℕ, suc}
use native.Mathlib.Omega.{arith}
use mathlib.Core.Path.{◌≡◌, refl, sym, ap, ◌∙◌}
use mathlib.Core.Bool.{Bool, true, false, cond, ◌&&◌, true≢false}
use mathlib.Core.List.{List, [], ◌∷◌, ◌++◌}
use lib.Dec.{eqb}
use lib.ListN.{length, get_or, drop, length-append}
use borrow.Author.Tests.{eqb-true, eqb-false, eq-eqb}
use Rattle.meaning.proofs.Booleans.{both}
use Rattle.lexis.specs.declared.class.Class.{Class}
use Rattle.lexis.specs.declared.class.Class.TheVariants.{Lower, Upper, Digit, Underscore, Other}
use Rattle.lexis.specs.declared.run.Run.{Run}
use Rattle.lexis.specs.declared.run.Run.TheVariants.{Word, Digits}
use Rattle.lexis.specs.declared.kind.Kind.{Kind}
use Rattle.lexis.specs.declared.kind.Kind.TheVariants.{Name, Not, Variable, Anonymous, Number, Open, Close, Comma, Dot, If, Minus, Plus, Times, Equal, Unequal, AlsoUnequal, Less, AtMost, Greater, AtLeast, End, Stray, String, Bar}
use Rattle.lexis.specs.Class.{class_of}
use Rattle.lexis.specs.Run.{goes_on}
use Rattle.lexis.specs.Strings.{quote, Quotable, quoted, closing}
use Rattle.lexis.specs.Kind.{is_stray}
use Rattle.lexis.specs.Spelling.{single_kind, pair_kind, mark_kind, name_kind, number_kind, anonymous_kind, string_kind, kind_from, kind_of}
use Rattle.texts.specs.Prefix.{every}
use Rattle.tokens.specs.Spells.{spelling, Starts, Spells}
use Rattle.lexis.proofs.Classes.{underscore_byte}
use Rattle.lexis.proofs.Strings.{string_kind_lem, closed_ends, quotable_closing}
use Rattle.texts.proofs.Every.{every_nil}

-- ---- from the kind to the bytes

abbrev Right : Kind → List ℕ → Type 0
Right kind bytes = is_stray kind ≡ false → Spells kind bytes

stray_right : (bytes : List ℕ) → Right Stray bytes
stray_right bytes e = absurd (true≢false e)

-- one test of the chain of marks of one byte, and of two
one_byte : (b n : ℕ) (kind other : Kind) → Spells kind (n ∷ []) → Right other (b ∷ []) → Right (cond (eqb b n) kind other) (b ∷ [])
one_byte b n kind other s r = go (eqb b n) refl
  where
    go : (t : Bool) → eqb b n ≡ t → Right (cond t kind other) (b ∷ [])
    go true e = λ q. rw (eqb-true b n e) s
    go false e = r

two_bytes : (b c n m : ℕ) (kind other : Kind) → Spells kind (n ∷ m ∷ []) → Right other (b ∷ c ∷ []) → Right (cond (eqb b n && eqb c m) kind other) (b ∷ c ∷ [])
two_bytes b c n m kind other s r = go (eqb b n && eqb c m) refl
  where
    go : (t : Bool) → (eqb b n && eqb c m) ≡ t → Right (cond t kind other) (b ∷ c ∷ [])
    go true e = let h = both (eqb b n) (eqb c m) e in λ q. rw (eqb-true b n h.0, eqb-true c m h.1) s
    go false e = r

single_right : (b : ℕ) → Right (single_kind b) (b ∷ [])
unfolding single_kind
single_right b =
    (one_byte b 40 Open _ refl
    (one_byte b 41 Close _ refl
    (one_byte b 44 Comma _ refl
    (one_byte b 46 Dot _ refl
    (one_byte b 45 Minus _ refl
    (one_byte b 43 Plus _ refl
    (one_byte b 42 Times _ refl
    (one_byte b 61 Equal _ refl
    (one_byte b 60 Less _ refl
    (one_byte b 62 Greater _ refl
    (one_byte b 124 Bar _ refl
    (stray_right (b ∷ [])))))))))))))

pair_right : (b c : ℕ) → Right (pair_kind b c) (b ∷ c ∷ [])
unfolding pair_kind
pair_right b c =
    (two_bytes b c 58 45 If _ refl
    (two_bytes b c 33 61 Unequal _ refl
    (two_bytes b c 60 61 AtMost _ refl
    (two_bytes b c 62 61 AtLeast _ refl
    (two_bytes b c 60 62 AlsoUnequal _ refl
    (stray_right (b ∷ c ∷ [])))))))

mark_right : (b : ℕ) (rest : List ℕ) → Right (mark_kind b rest) (b ∷ rest)
mark_right b [] = single_right b
mark_right b (c ∷ []) = pair_right b c
mark_right b (c ∷ d ∷ rest) = stray_right (b ∷ c ∷ d ∷ rest)

-- the test of `name_kind`, and what it says
abbrev not_test : List ℕ → Bool
not_test [] = false
not_test (b ∷ rest) = eqb (suc (length rest)) 3 && (eqb b 110 && (eqb (get_or rest 0 0) 111 && eqb (get_or rest 1 0) 116))

not_bytes : (b : ℕ) (rest : List ℕ) → not_test (b ∷ rest) ≡ true → b ∷ rest ≡ spelling Not
not_bytes b [] e = absurd (true≢false (sym e))
not_bytes b (c ∷ []) e = absurd (true≢false (sym e))
not_bytes b (c ∷ d ∷ []) e =
    let n = both (eqb b 110) (eqb c 111 && eqb d 116) e in
    let o = both (eqb c 111) (eqb d 116) n.1 in
    rw (eqb-true b 110 n.0, eqb-true c 111 o.0, eqb-true d 116 o.1)
not_bytes b (c ∷ d ∷ f ∷ rest) e =
    let l : suc (length (c ∷ d ∷ f ∷ rest)) ≡ 3 = eqb-true _ 3 (both (eqb (suc (length (c ∷ d ∷ f ∷ rest))) 3) _ e).0 in
    absurd (let z : ⊥ = omega arith in z)

name_right : (b : ℕ) (rest : List ℕ) → Starts Lower Word (b ∷ rest) → Spells (name_kind (suc (length rest)) b (get_or rest 0 0) (get_or rest 1 0)) (b ∷ rest)
unfolding name_kind
name_right b rest s = go (not_test (b ∷ rest)) refl
  where
    go : (t : Bool) → not_test (b ∷ rest) ≡ t → Spells (cond t Not Name) (b ∷ rest)
    go true e = not_bytes b rest e
    go false e = (s, λ q. true≢false (sym (ap not_test q) ∙ e))

-- by the class of the first byte
module _ (b : ℕ) (rest : List ℕ) where
  starts : (class : Class) → class_of b ≡ class → (run : Run) → every (goes_on run) rest ≡ true → Starts class run (b ∷ rest)
  starts class e run q = record { some = omega arith; first = e; others = q }

  right : (class : Class) → class_of b ≡ class → Right (kind_from class b rest) (b ∷ rest)
  right Lower e = go (every (goes_on Word) rest) refl
    where
      go : (t : Bool) → every (goes_on Word) rest ≡ t → Right (cond t (name_kind (suc (length rest)) b (get_or rest 0 0) (get_or rest 1 0)) Stray) (b ∷ rest)
      go true q = λ s. name_right b rest (starts Lower e Word q)
      go false q = stray_right (b ∷ rest)
  right Upper e = go (every (goes_on Word) rest) refl
    where
      go : (t : Bool) → every (goes_on Word) rest ≡ t → Right (cond t Variable Stray) (b ∷ rest)
      go true q = λ s. starts Upper e Word q
      go false q = stray_right (b ∷ rest)
  right Digit e = zero_or_not (eqb b 48) refl
    where
      alone : (r : List ℕ) → Right (number_kind true r) (b ∷ r)
      alone [] = λ s. (record { some = omega arith; first = e; others = every_nil (goes_on Digits) }, λ q. refl)
      alone (c ∷ r) = stray_right (b ∷ c ∷ r)

      go : (b ≡ 48 → ⊥) → (t : Bool) → every (goes_on Digits) rest ≡ t → Right (cond t Number Stray) (b ∷ rest)
      go h true q = λ s. (starts Digit e Digits q, λ z. absurd (h z))
      go h false q = stray_right (b ∷ rest)

      zero_or_not : (t : Bool) → eqb b 48 ≡ t → Right (number_kind t rest) (b ∷ rest)
      zero_or_not true q = alone rest
      zero_or_not false q = go (eqb-false b 48 q) (every (goes_on Digits) rest) refl
  right Underscore e = go rest
    where
      go : (r : List ℕ) → Right (anonymous_kind r) (b ∷ r)
      go [] = λ s. ap (λ (n : ℕ). n ∷ []) (underscore_byte b e)
      go (c ∷ r) = stray_right (b ∷ c ∷ r)
  right Other e = go (eqb b quote) refl
    where
      closed : b ≡ quote → (c : ℕ) (r : List ℕ) (t : Bool) → eqb (closing false (c ∷ r)) (suc (length r)) ≡ t → Right (cond t String Stray) (b ∷ c ∷ r)
      closed q c r true f =
          let x = closed_ends false (c ∷ r) (eqb-true _ _ f) (omega arith) in
          λ s. record { inner = x.inner; in_quotes = cc (q, x.in_quotes); quotable = x.quotable }
      closed q c r false f = stray_right (b ∷ c ∷ r)

      string_right : b ≡ quote → (r : List ℕ) → Right (string_kind r) (b ∷ r)
      string_right q [] = stray_right (b ∷ [])
      string_right q (c ∷ r) = closed q c r (eqb (closing false (c ∷ r)) (suc (length r))) refl

      go : (t : Bool) → eqb b quote ≡ t → Right (cond t (string_kind rest) (mark_kind b rest)) (b ∷ rest)
      go true q = string_right (eqb-true b quote q) rest
      go false q = mark_right b rest

-- the kind of bytes says how they are spelled
pub spells : (bytes : List ℕ) → is_stray (kind_of bytes) ≡ false → Spells (kind_of bytes) bytes
unfolding kind_of
spells [] e = absurd (true≢false e)
spells (b ∷ rest) e = right b rest (class_of b) refl e

-- ---- from the bytes to the kind

-- words and numbers, from what `Starts` says
first_byte : (class : Class) (run : Run) (bytes : List ℕ) → Starts class run bytes → kind_of bytes ≡ kind_from class (get_or bytes 0 0) (drop 1 bytes)
unfolding kind_of
first_byte class run [] s = absurd (let z : ⊥ = omega (arith, s.some) in z)
first_byte class run (b ∷ rest) s = rw s.first

name_kind_lem : (bytes : List ℕ) → Spells Name bytes → kind_of bytes ≡ Name
unfolding name_kind
name_kind_lem [] s = absurd (let z : ⊥ = omega (arith, s.0.some) in z)
name_kind_lem (b ∷ rest) s = first_byte Lower Word (b ∷ rest) s.0 ∙ rw s.0.others (go (not_test (b ∷ rest)) refl)
  where
    go : (t : Bool) → not_test (b ∷ rest) ≡ t → cond t Not Name ≡ Name
    go true e = absurd (s.1 (not_bytes b rest e))
    go false e = refl

variable_kind : (bytes : List ℕ) → Spells Variable bytes → kind_of bytes ≡ Variable
variable_kind bytes s = first_byte Upper Word bytes s ∙ rw s.others

number_kind_lem : (bytes : List ℕ) → Spells Number bytes → kind_of bytes ≡ Number
number_kind_lem [] s = absurd (let z : ⊥ = omega (arith, s.0.some) in z)
number_kind_lem (b ∷ rest) s = first_byte Digit Digits (b ∷ rest) s.0 ∙ go (eqb b 48) refl
  where
    alone : (r : List ℕ) → length (b ∷ r) ≡ 1 → number_kind true r ≡ Number
    alone [] e = refl
    alone (c ∷ r) e = absurd (let z : ⊥ = omega arith in z)

    go : (t : Bool) → eqb b 48 ≡ t → number_kind t rest ≡ Number
    go true e = alone rest (s.1 (eqb-true b 48 e))
    go false e = rw s.0.others

kind_of_string : (s : List ℕ) → Quotable s → kind_of (quoted s) ≡ String
unfolding kind_of class_of
kind_of_string s x =
    let len : length (s ++ quote ∷ []) ≡ suc (length s) = length-append s (quote ∷ []) ∙ omega arith in
    string_kind_lem (s ++ quote ∷ []) (omega arith) ∙ rw (quotable_closing x [], len, eq-eqb (suc (length s)) (suc (length s)) refl)

pub kind_of_spelled : (kind : Kind) (bytes : List ℕ) → Spells kind bytes → kind_of bytes ≡ kind
unfolding kind_of class_of single_kind pair_kind name_kind every
kind_of_spelled Name bytes s = name_kind_lem bytes s
kind_of_spelled Not bytes s = rw s
kind_of_spelled Variable bytes s = variable_kind bytes s
kind_of_spelled Anonymous bytes s = rw s
kind_of_spelled Number bytes s = number_kind_lem bytes s
kind_of_spelled Open bytes s = rw s
kind_of_spelled Close bytes s = rw s
kind_of_spelled Comma bytes s = rw s
kind_of_spelled Dot bytes s = rw s
kind_of_spelled If bytes s = rw s
kind_of_spelled Minus bytes s = rw s
kind_of_spelled Plus bytes s = rw s
kind_of_spelled Times bytes s = rw s
kind_of_spelled Equal bytes s = rw s
kind_of_spelled Unequal bytes s = rw s
kind_of_spelled AlsoUnequal bytes s = rw s
kind_of_spelled Less bytes s = rw s
kind_of_spelled AtMost bytes s = rw s
kind_of_spelled Greater bytes s = rw s
kind_of_spelled AtLeast bytes s = rw s
kind_of_spelled End bytes s = absurd s
kind_of_spelled Stray bytes s = absurd s
kind_of_spelled String bytes s = rw s.in_quotes (kind_of_string s.inner s.quotable)
kind_of_spelled Bar bytes s = rw s
