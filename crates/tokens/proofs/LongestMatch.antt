-- The token at a place is the longest match there, and the longest match is one.
use Prim.Native.Nat.{ℕ, zero, suc, ◌≤◌, ◌<◌}
use native.Mathlib.Nat.{le_antisymm}
use native.Mathlib.Omega.{arith}
use mathlib.Core.Path.{◌≡◌, refl, sym, ap, ◌∙◌}
use mathlib.Core.Bool.{Bool, true, false, cond, ◌&&◌, and-false, true≢false}
use mathlib.Core.List.{List, [], ◌∷◌}
use lib.Dec.{eqb, ltb}
use lib.ListN.{length, get_or, take}
use lib.Seq.{length-take-le, get_or-take}
use borrow.Author.Tests.{eqb-true, eqb-false, eq-eqb, ne_eqb, ltb-true, ltb-false}
use Rattle.lexis.specs.declared.class.Class.{Class}
use Rattle.lexis.specs.declared.class.Class.TheVariants.{Lower, Upper, Digit, Underscore, Other}
use Rattle.lexis.specs.declared.run.Run.TheVariants.{Word, Digits}
use Rattle.lexis.specs.declared.kind.Kind.{Kind}
use Rattle.texts.specs.declared.place.Place.{Place}
use Rattle.lexis.specs.declared.kind.Kind.TheVariants.{Name, Not, Variable, Anonymous, Number, Stray, String}
use Rattle.lexis.specs.Class.{class_of}
use Rattle.lexis.specs.Run.{goes_on}
use Rattle.texts.specs.Prefix.{prefix_len, every}
use Rattle.lexis.specs.Strings.{quote, closing}
use Rattle.lexis.specs.Kind.{is_stray}
use Rattle.lexis.specs.Spelling.{single_kind, pair_kind, mark_kind, name_kind, number_kind, anonymous_kind, string_kind, kind_from, kind_of}
use Rattle.tokens.specs.Longest.{Longest}
use Rattle.tokens.specs.Token.{mark_at, string_at, other_at, start_at}
use Rattle.texts.proofs.Every.{prefix_inside, every_prefix, not_every_beyond, not_every_longer}
use Rattle.lexis.proofs.Strings.{closing_inside, piece_kind}
use Rattle.lexis.proofs.KindNumber.{is_stray_lem}

-- ---- each class of a first byte

-- the longest match, by what the bytes behind the first make of it
from_first : (b : ℕ) (rest : List ℕ) (f : List ℕ → Kind) → ((r : List ℕ) → kind_of (b ∷ r) ≡ f r) → (kind : Kind) (m : ℕ) → m ≤ length rest → f (take m rest) ≡ kind
    → ((n : ℕ) → m < n → n ≤ length rest → f (take n rest) ≡ Stray) → (is_stray kind ≡ true → m ≡ 0) → Longest (b ∷ rest) kind (suc m)
from_first b rest f is kind m h spelled beyond stray =
    record {
      not_empty = omega arith;
      inside = omega arith;
      spelled = is (take m rest) ∙ spelled;
      longest = longer;
      stray = λ q. ap suc (stray (ap is_stray q));
    }
  where
    longer : (n : ℕ) → suc m < n → n ≤ suc (length rest) → kind_of (take n (b ∷ rest)) ≡ Stray
    longer zero l k = absurd (let z : ⊥ = omega arith in z)
    longer (suc n) l k = is (take n rest) ∙ beyond n (omega arith) (omega arith)

of_class : (b : ℕ) (class : Class) → class_of b ≡ class → (r : List ℕ) → kind_of (b ∷ r) ≡ kind_from class b r
unfolding kind_of
of_class b class e r = rw e

from_class : (b : ℕ) (rest : List ℕ) (class : Class) → class_of b ≡ class → (kind : Kind) (m : ℕ) → m ≤ length rest → kind_from class b (take m rest) ≡ kind
    → ((n : ℕ) → m < n → n ≤ length rest → kind_from class b (take n rest) ≡ Stray) → (is_stray kind ≡ true → m ≡ 0) → Longest (b ∷ rest) kind (suc m)
from_class b rest class e = from_first b rest (kind_from class b) (of_class b class e)

name_not_stray : (len a b c : ℕ) → is_stray (name_kind len a b c) ≡ false
unfolding name_kind
name_not_stray len a b c = go (eqb len 3 && (eqb a 110 && (eqb b 111 && eqb c 116)))
  where
    go : (t : Bool) → is_stray (cond t Not Name) ≡ false
    go true = refl
    go false = refl

-- a name's kind looks at its own bytes alone
name_within : (n b : ℕ) (rest : List ℕ) → name_kind (suc n) b (get_or (take n rest) 0 0) (get_or (take n rest) 1 0) ≡ name_kind (suc n) b (get_or rest 0 0) (get_or rest 1 0)
unfolding name_kind
name_within n b rest = go (eqb (suc n) 3) refl
  where
    go : (t : Bool) → eqb (suc n) 3 ≡ t → name_kind (suc n) b (get_or (take n rest) 0 0) (get_or (take n rest) 1 0) ≡ name_kind (suc n) b (get_or rest 0 0) (get_or rest 1 0)
    go true e =
        let two : suc n ≡ 3 = eqb-true (suc n) 3 e in
        rw (get_or-take n rest 0 0 (omega arith), get_or-take n rest 1 0 (omega arith))
    go false e = rw e

-- what is a token as one byte alone
alone : (f : List ℕ → Kind) → ((c : ℕ) (r : List ℕ) → f (c ∷ r) ≡ Stray) → (rest : List ℕ) (n : ℕ) → 0 < n → n ≤ length rest → f (take n rest) ≡ Stray
alone f h [] n l k = absurd (let z : ⊥ = omega arith in z)
alone f h (c ∷ r) zero l k = absurd (let z : ⊥ = omega arith in z)
alone f h (c ∷ r) (suc n) l k = h c (take n r)

pair_at_end : (b : ℕ) → pair_kind b 0 ≡ Stray
unfolding pair_kind
pair_at_end b = simp and-false

-- three bytes are no mark
mark_beyond : (b c : ℕ) (r : List ℕ) (n : ℕ) → 1 < n → n ≤ length (c ∷ r) → mark_kind b (take n (c ∷ r)) ≡ Stray
mark_beyond b c [] n l k = absurd (let z : ⊥ = omega arith in z)
mark_beyond b c (d ∷ r) zero l k = absurd (let z : ⊥ = omega arith in z)
mark_beyond b c (d ∷ r) (suc zero) l k = absurd (let z : ⊥ = omega arith in z)
mark_beyond b c (d ∷ r) (suc (suc n)) l k = refl

of_mark : (b : ℕ) → class_of b ≡ Other → eqb b quote ≡ false → (r : List ℕ) → kind_of (b ∷ r) ≡ mark_kind b r
of_mark b e q r = of_class b Other e r ∙ rw q

of_string : (b : ℕ) → class_of b ≡ Other → eqb b quote ≡ true → (r : List ℕ) → kind_of (b ∷ r) ≡ string_kind r
of_string b e q r = of_class b Other e r ∙ rw q

mark_longest : (at : Place) (b : ℕ) (rest : List ℕ) → class_of b ≡ Other → eqb b quote ≡ false → Longest (b ∷ rest) (mark_at at b (get_or rest 0 0)).kind (mark_at at b (get_or rest 0 0)).place.len
unfolding mark_at
mark_longest at b [] e f =
    rw (pair_at_end b)
    (from_first b [] (mark_kind b) (of_mark b e f) (single_kind b) 0 (omega arith) refl (λ n l k. absurd (let z : ⊥ = omega arith in z)) (λ q. refl))
mark_longest at b (c ∷ r) e f = go (is_stray (pair_kind b c)) refl
  where
    one : is_stray (pair_kind b c) ≡ true → (n : ℕ) → 0 < n → n ≤ length (c ∷ r) → mark_kind b (take n (c ∷ r)) ≡ Stray
    one q zero l k = absurd (let z : ⊥ = omega arith in z)
    one q (suc zero) l k = is_stray_lem (pair_kind b c) q
    one q (suc (suc n)) l k = mark_beyond b c r (suc (suc n)) (omega arith) k

    go : (t : Bool) → is_stray (pair_kind b c) ≡ t → Longest (b ∷ c ∷ r) (mark_at at b c).kind (mark_at at b c).place.len
    go true q = rw q (from_first b (c ∷ r) (mark_kind b) (of_mark b e f) (single_kind b) 0 (omega arith) refl (one q) (λ s. refl))
    go false q = rw q (from_first b (c ∷ r) (mark_kind b) (of_mark b e f) (pair_kind b c) 1 (omega arith) refl (mark_beyond b c r) (λ s. absurd (true≢false (sym s ∙ q))))

string_longest : (at : Place) (b : ℕ) (rest : List ℕ) → class_of b ≡ Other → eqb b quote ≡ true → Longest (b ∷ rest) (string_at at (closing false rest)).kind (string_at at (closing false rest)).place.len
unfolding string_at
string_longest at b rest e f = go (eqb (closing false rest) 0) refl
  where
    go : (t : Bool) → eqb (closing false rest) 0 ≡ t → Longest (b ∷ rest) (string_at at (closing false rest)).kind (string_at at (closing false rest)).place.len
    go true q = rw q (from_first b rest string_kind (of_string b e f) Stray 0 (omega arith) refl (λ n l k. piece_kind rest n l k ∙ rw (ne_eqb (closing false rest) n (λ z. omega (arith, eqb-true (closing false rest) 0 q)))) (λ s. refl))
    go false q = let n = closing false rest in rw q (from_first b rest string_kind (of_string b e f) String n (closing_inside false rest) (piece_kind rest n (let z = eqb-false n 0 q in omega arith) (closing_inside false rest) ∙ rw (eq-eqb n n refl)) (λ m l k. piece_kind rest m (omega arith) k ∙ rw (ne_eqb n m (λ z. omega arith))) (λ s. absurd (true≢false (sym s))))

other_longest : (at : Place) (b : ℕ) (rest : List ℕ) → class_of b ≡ Other → Longest (b ∷ rest) (other_at at b rest).kind (other_at at b rest).place.len
unfolding other_at
other_longest at b rest e = go (eqb b quote) refl
  where
    go : (t : Bool) → eqb b quote ≡ t → Longest (b ∷ rest) (other_at at b rest).kind (other_at at b rest).place.len
    go true q = rw q (string_longest at b rest e q)
    go false q = rw q (mark_longest at b rest e q)

pub start_longest : (at : Place) (b : ℕ) (rest : List ℕ) (class : Class) → class_of b ≡ class → Longest (b ∷ rest) (start_at at class b rest).kind (start_at at class b rest).place.len
start_longest at b rest Lower e =
    let n = prefix_len (goes_on Word) rest in
    let len : length (take n rest) ≡ n = length-take-le n rest (prefix_inside (goes_on Word) rest) in
    let named : kind_from Lower b (take n rest) ≡ name_kind (suc n) b (get_or rest 0 0) (get_or rest 1 0) = rw (every_prefix (goes_on Word) rest, len) (name_within n b rest) in
    from_class b rest Lower e _ n (prefix_inside (goes_on Word) rest) named
    (λ m l k. rw (not_every_beyond (goes_on Word) rest m l k))
    (λ s. absurd (true≢false (sym s ∙ name_not_stray (suc n) b (get_or rest 0 0) (get_or rest 1 0))))
start_longest at b rest Upper e =
    from_class b rest Upper e _ (prefix_len (goes_on Word) rest) (prefix_inside (goes_on Word) rest) (rw (every_prefix (goes_on Word) rest))
    (λ m l k. rw (not_every_beyond (goes_on Word) rest m l k))
    (λ s. absurd (true≢false (sym s)))
start_longest at b rest Digit e = go (eqb b 48) refl
  where
    go : (t : Bool) → eqb b 48 ≡ t → Longest (b ∷ rest) Number (cond (eqb b 48) 1 (suc (prefix_len (goes_on Digits) rest)))
    go true q =
        rw q
        (from_class b rest Digit e Number 0 (omega arith) (rw q) (λ m l k. rw q (alone (number_kind true) (λ c r. refl) rest m l k)) (λ s. refl))
    go false q =
        rw q
        (from_class b rest Digit e Number (prefix_len (goes_on Digits) rest) (prefix_inside (goes_on Digits) rest) (rw (q, every_prefix (goes_on Digits) rest))
        (λ m l k. rw (q, not_every_beyond (goes_on Digits) rest m l k))
        (λ s. absurd (true≢false (sym s))))
start_longest at b rest Underscore e = from_class b rest Underscore e Anonymous 0 (omega arith) refl (alone anonymous_kind (λ c r. refl) rest) (λ s. refl)
start_longest at b rest Other e = other_longest at b rest e

-- ---- there is one longest match

not_shorter : (text : List ℕ) (k l : Kind) (m n : ℕ) → Longest text k m → Longest text l n → m < n → ⊥
not_shorter text k l m n a b h =
    let one : n ≡ 1 = b.stray (sym b.spelled ∙ a.longest n h b.inside) in
    omega (arith, a.not_empty)

pub longest_unique : (text : List ℕ) (k l : Kind) (m n : ℕ) → Longest text k m → Longest text l n → (k ≡ l) × (m ≡ n)
longest_unique text k l m n a b = (sym a.spelled ∙ ap (λ (i : ℕ). kind_of (take i text)) same ∙ b.spelled, same)
  where
    no_less : (i j : ℕ) → (i < j → ⊥) → j ≤ i
    no_less i j h = go (ltb i j) refl
      where
        go : (t : Bool) → ltb i j ≡ t → j ≤ i
        go true e = absurd (h (ltb-true i j e))
        go false e = ltb-false i j e

    same : m ≡ n
    same = le_antisymm (no_less n m (not_shorter text l k n m b a)) (no_less m n (not_shorter text k l m n a b))

-- ---- it is enough that one byte more is no token

no_word : (t : Bool) (kind : Kind) → is_stray kind ≡ false → cond t kind Stray ≡ Stray → t ≡ false
no_word true kind h e = absurd (true≢false (sym (ap is_stray e) ∙ h))
no_word false kind h e = refl

beyond_string : (rest : List ℕ) (m : ℕ) → is_stray (string_kind (take m rest)) ≡ false → (n : ℕ) → m < n → n ≤ length rest → string_kind (take n rest) ≡ Stray
beyond_string rest zero t n l k = absurd (true≢false t)
beyond_string rest (suc m) t n l k = piece_kind rest n (omega arith) k ∙ rw (ne_eqb (closing false rest) n (λ z. omega (arith, ends)))
  where
    -- the string ends where those bytes do
    ends : closing false rest ≡ suc m
    ends = go (eqb (closing false rest) (suc m)) refl (sym (ap is_stray (piece_kind rest (suc m) (omega arith) (omega arith))) ∙ t)
      where
        go : (s : Bool) → eqb (closing false rest) (suc m) ≡ s → is_stray (cond s String Stray) ≡ false → closing false rest ≡ suc m
        go true q h = eqb-true _ (suc m) q
        go false q h = absurd (true≢false h)

beyond_mark : (b : ℕ) (rest : List ℕ) (m : ℕ) → mark_kind b (take (suc m) rest) ≡ Stray → (n : ℕ) → m < n → n ≤ length rest → mark_kind b (take n rest) ≡ Stray
beyond_mark b [] m e n l k = absurd (let z : ⊥ = omega arith in z)
beyond_mark b (c ∷ r) m e zero l k = absurd (let z : ⊥ = omega arith in z)
beyond_mark b (c ∷ r) m e (suc zero) l k = let z : m ≡ 0 = omega arith in rw z at e
beyond_mark b (c ∷ r) m e (suc (suc n)) l k = mark_beyond b c r (suc (suc n)) (omega arith) k

-- if some bytes are a token and one more is none, no more bytes are
beyond_next : (class : Class) (b : ℕ) (rest : List ℕ) (m : ℕ) → is_stray (kind_from class b (take m rest)) ≡ false → kind_from class b (take (suc m) rest) ≡ Stray → (n : ℕ) → m < n → n ≤ length rest → kind_from class b (take n rest) ≡ Stray
beyond_next Lower b rest m t e n l k =
    let f = no_word (every (goes_on Word) (take (suc m) rest)) _ (name_not_stray (suc (length (take (suc m) rest))) b (get_or (take (suc m) rest) 0 0) (get_or (take (suc m) rest) 1 0)) e in
    rw (not_every_longer (goes_on Word) rest (suc m) n f (omega arith))
beyond_next Upper b rest m t e n l k =
    let f = no_word (every (goes_on Word) (take (suc m) rest)) Variable refl e in
    rw (not_every_longer (goes_on Word) rest (suc m) n f (omega arith))
beyond_next Digit b rest m t e n l k = go (eqb b 48) e
  where
    go : (t : Bool) → number_kind t (take (suc m) rest) ≡ Stray → number_kind t (take n rest) ≡ Stray
    go true q = alone (number_kind true) (λ c r. refl) rest n (omega arith) k
    go false q =
        let f = no_word (every (goes_on Digits) (take (suc m) rest)) Number refl q in
        rw (not_every_longer (goes_on Digits) rest (suc m) n f (omega arith))
beyond_next Underscore b rest m t e n l k = alone anonymous_kind (λ c r. refl) rest n (omega arith) k
beyond_next Other b rest m t e n l k = go (eqb b quote) t e
  where
    go : (q : Bool) → is_stray (cond q (string_kind (take m rest)) (mark_kind b (take m rest))) ≡ false → cond q (string_kind (take (suc m) rest)) (mark_kind b (take (suc m) rest)) ≡ Stray → cond q (string_kind (take n rest)) (mark_kind b (take n rest)) ≡ Stray
    go true u f = beyond_string rest m u n l k
    go false u f = beyond_mark b rest m f n l k

pub longest_by_next : (text : List ℕ) (kind : Kind) (len : ℕ) → is_stray kind ≡ false → len ≤ length text → kind_of (take len text) ≡ kind → (len < length text → kind_of (take (suc len) text) ≡ Stray) → Longest text kind len
unfolding kind_of
longest_by_next [] kind len h i s m = absurd (true≢false (ap is_stray (sym (empty len) ∙ s) ∙ h))
  where
    empty : (n : ℕ) → kind_of (take n []) ≡ Stray
    empty zero = refl
    empty (suc n) = refl
longest_by_next (b ∷ rest) kind zero h i s m = absurd (true≢false (ap is_stray s ∙ h))
longest_by_next (b ∷ rest) kind (suc len) h i s m =
    from_class b rest (class_of b) refl kind len (omega arith) s
    (λ n l k. beyond_next (class_of b) b rest len (ap is_stray s ∙ h) (m (omega arith)) n l k)
    (λ q. absurd (true≢false (sym q ∙ h)))
