-- Codes come in the order of the values that they stand for (`code_order`).
use mathlib.Core.Path.{◌≡◌, refl, sym, ap, ap₂, ◌∙◌}
use mathlib.Core.Bool.{Bool, true, false, not, cond}
use mathlib.Core.Logic.{◌⊎◌, inl, inr}
use mathlib.Core.Option.{some}
use mathlib.Core.List.{List, [], ◌∷◌}
use Prim.Native.Nat.{ℕ, ◌+◌, ◌≤◌, ◌<◌}
use native.Mathlib.Omega.{arith}
use lib.Dec.{eqb, leb, ltb}
use lib.ListN.{length, get_elem?}
use lib.IntN.{ℤ}
use lib.Signed.{lt_z}
use borrow.Author.Tests.{ltb-true, ltb-false, leb-true, eqb-true, eq-eqb, ne_eqb, lt-ltb, le-ltb, le-leb}
use Rattle.meaning.specs.Domain.{Comparison, equal, unequal, less, at_most, greater, at_least}
use Rattle.meaning.specs.Rules.{Bytes}
use Rattle.meaning.specs.Values.{Value, number, in_range, bytes_before, value_before, compare_by}
use Rattle.meaning.proofs.Booleans.{and_left, and_right, both_ways, never_true, some_inj}
use Rattle.meaning.proofs.Sets.{element_at}
use Rattle.codes.specs.Codes.{no_value, first_name, first_string, is_number_code, number_code, number_of, Distinct, Coded, as_blank, as_number, as_name, as_string}
use Rattle.codes.specs.Domains.{kind_start, place_of, text_of, is_text, two_texts, before_names, in_order, code_before}
use Rattle.codes.proofs.Numbers.{number_least, number_greatest, code_is_number, number_back, order_less}
use Rattle.codes.proofs.Pairwise.{within}

-- ---- comparisons that go alike

module _ {A B : Type 0} (same before : A → A → Bool) (same' before' : B → B → Bool) where
  pub compare_alike : (k : Comparison) (v w : A) (a b : B) → same v w ≡ same' a b → before v w ≡ before' a b → before w v ≡ before' b a → compare_by same before k v w ≡ compare_by same' before' k a b
  unfolding compare_by
  compare_alike equal v w a b p q r = p
  compare_alike unequal v w a b p q r = ap not p
  compare_alike less v w a b p q r = q
  compare_alike at_most v w a b p q r = ap not r
  compare_alike greater v w a b p q r = r
  compare_alike at_least v w a b p q r = ap not q

-- ---- two names, or two strings

pub start_below : (c : ℕ) → first_name ≤ c → kind_start c ≤ c
unfolding kind_start
start_below c h = go (ltb c first_string) refl
  where
    go : (b : Bool) → ltb c first_string ≡ b → kind_start c ≤ c
    go true e = rw e h
    go false e = rw e (ltb-false c first_string e)

pub text_inside : (count c : ℕ) → is_text count c ≡ true → (first_name ≤ c) × (place_of c < count)
unfolding is_text
text_inside count c h = (leb-true first_name c (and_left (leb first_name c) _ h), ltb-true (place_of c) count (and_right (leb first_name c) _ h))

-- what the codes of two names or two strings have
pub record Two (count c d : ℕ) : Type 0 where
  pub alike : kind_start c ≡ kind_start d
  pub first : is_text count c ≡ true
  pub second : is_text count d ≡ true

pub are_two : (count c d : ℕ) → two_texts count c d ≡ true → Two count c d
unfolding two_texts
are_two count c d h =
    let both = and_right (eqb (kind_start c) (kind_start d)) _ h in
    record { alike = eqb-true (kind_start c) (kind_start d) (and_left (eqb (kind_start c) (kind_start d)) _ h); first = and_left (is_text count c) _ both; second = and_right (is_text count c) _ both }

two_are : (count c d : ℕ) → Two count c d → two_texts count c d ≡ true
unfolding two_texts
two_are count c d t = rw (eq-eqb (kind_start c) (kind_start d) t.alike, t.first, t.second)

pub turned : (count c d : ℕ) → two_texts count c d ≡ two_texts count d c
turned count c d = both_ways _ _ (turn c d) (turn d c)
  where
    turn : (a b : ℕ) → two_texts count a b ≡ true → two_texts count b a ≡ true
    turn a b h = let t = are_two count a b h in two_are count b a (record { first = t.second; second = t.first; alike = sym t.alike })

pub below_names : (count c d : ℕ) → c < first_name → two_texts count c d ≡ false
below_names count c d h = never_true _ (λ t. omega (arith, text_inside count c (are_two count c d t).first))

module _ (names : List Bytes) where
  pub by_bytes : (c d : ℕ) → two_texts (length names) c d ≡ true → code_before names c d ≡ bytes_before (text_of names c) (text_of names d)
  unfolding code_before
  by_bytes c d h = rw h

  pub by_code : (c d : ℕ) → two_texts (length names) c d ≡ false → code_before names c d ≡ ltb (in_order c) (in_order d)
  unfolding code_before
  by_code c d h = rw h

-- ---- codes in order

pub itself : (c : ℕ) → (c ≡ no_value → ⊥) → in_order c ≡ c
unfolding in_order
itself c h = rw (ne_eqb c no_value h)

module _ (names : List Bytes) where
  -- the names, or the strings, begin at a mark: a code before it comes first
  module _ (c d m : ℕ) (mark : (m ≡ first_name) ⊎ (m ≡ first_string)) (before : c < m) (behind : m ≤ d) where
    kinds_apart : two_texts (length names) c d ≡ false
    unfolding kind_start
    kinds_apart = go mark
      where
        go : (m ≡ first_name) ⊎ (m ≡ first_string) → two_texts (length names) c d ≡ false
        go (inl e) = below_names (length names) c d (omega arith)
        go (inr e) = never_true _ (λ t. let same : first_name ≡ first_string = rw (lt-ltb c first_string (omega arith), le-ltb d first_string (omega arith)) at (are_two (length names) c d t).alike in omega arith)

    in_front : in_order c < in_order d
    unfolding in_order
    in_front = rw (itself d (λ e. omega (arith, high))) (go (eqb c no_value))
      where
        high : first_name ≤ m
        high = elim (mark) [ inl e ↦ omega arith | inr e ↦ omega arith ]

        go : (b : Bool) → cond b before_names c < d
        go true = omega (arith, high)
        go false = omega arith

    first_before : code_before names c d ≡ true
    first_before = by_code names c d kinds_apart ∙ lt-ltb (in_order c) (in_order d) in_front

    second_behind : code_before names d c ≡ false
    second_behind = by_code names d c (turned (length names) d c ∙ kinds_apart) ∙ le-ltb (in_order d) (in_order c) (omega (arith, in_front))

-- ---- codes that stand for values

module _ (names : List Bytes) where
  -- the code of a text of the list, of the kind that starts so
  record Text (c start : ℕ) (b : Bytes) : Type 0 where
    starts : kind_start c ≡ start
    there : is_text (length names) c ≡ true
    is : text_of names c ≡ b

  text_at : (c start i : ℕ) (b : Bytes) → kind_start c ≡ start → first_name ≤ start → c ≡ start + i → get_elem? names i ≡ some b → Text c start b
  unfolding is_text
  text_at c start i b k l e g =
      let place : place_of c ≡ i = rw k (omega arith) in
      let inside = within names i g in
      record { starts = k; there = rw (le-leb first_name c (omega arith), place) (lt-ltb i (length names) inside); is = rw place (some_inj (sym (element_at names i [] inside) ∙ g)) }

  name_text : (c i : ℕ) (b : Bytes) → c ≡ first_name + i → c < first_string → get_elem? names i ≡ some b → Text c first_name b
  unfolding kind_start
  name_text c i b e l g = text_at c first_name i b (rw (lt-ltb c first_string l) refl) (omega arith) e g

  string_text : (c i : ℕ) (b : Bytes) → c ≡ first_string + i → get_elem? names i ≡ some b → Text c first_string b
  unfolding kind_start
  string_text c i b e g = text_at c first_string i b (rw (le-ltb c first_string (omega arith)) refl) (omega arith) e g

  texts_before : {c d start : ℕ} {a b : Bytes} → Text c start a → Text d start b → code_before names c d ≡ bytes_before a b
  texts_before {c} {d} p q = by_bytes names c d (two_are (length names) c d (record { first = p.there; second = q.there; alike = p.starts ∙ sym q.starts })) ∙ ap₂ bytes_before p.is q.is

  -- no value and numbers
  low_before : (c d a b : ℕ) → c < first_name → in_order c ≡ a → in_order d ≡ b → code_before names c d ≡ ltb a b
  low_before c d a b l p q = by_code names c d (below_names (length names) c d l) ∙ ap₂ ltb p q

  blank_in_order : (c : ℕ) → c ≡ no_value → in_order c ≡ before_names
  unfolding in_order
  blank_in_order c e = rw e refl

  -- a number's code
  record Numeric (c : ℕ) (z : ℤ) : Type 0 where
    low : c < before_names
    own : in_order c ≡ c
    is : number_of c ≡ z

  numeric : (c : ℕ) (z : ℤ) → c ≡ number_code z → in_range (number z) ≡ true → Numeric c z
  numeric c z e h =
      let is : is_number_code c ≡ true = rw e (code_is_number z h) in
      record { low = omega (arith, number_greatest c is); own = itself c (λ f. omega (arith, number_least c is)); is = rw e (number_back z h) }

  -- no bytes come before some, and none before no bytes
  nothing_before : (n : Bytes) → (n ≡ [] → ⊥) → bytes_before [] n ≡ true
  unfolding bytes_before
  nothing_before [] h = absurd (h refl)
  nothing_before (b ∷ n) h = refl

  before_nothing : (n : Bytes) → bytes_before n [] ≡ false
  unfolding bytes_before
  before_nothing [] = refl
  before_nothing (b ∷ n) = refl

  module _ (table : Distinct names) where
    pub code_order : {c d : ℕ} {v w : Value} → Coded names c v → Coded names d w → code_before names c d ≡ value_before v w
    unfolding value_before bytes_before
    code_order {c} {d} (as_blank e) (as_blank f) = low_before c d _ _ (omega arith) (blank_in_order c e) (blank_in_order d f)
    code_order {c} {d} (as_blank e) (as_number y f k) = let q = numeric d y f k in low_before c d _ _ (omega arith) (blank_in_order c e) q.own ∙ le-ltb before_names d (omega (arith, q.low))
    code_order {c} {d} (as_blank e) (as_name j f l k) = first_before names c d first_name (inl refl) (omega arith) (omega arith) ∙ sym (nothing_before _ (λ e. table.nonempty j (k ∙ ap some e)))
    code_order {c} {d} (as_blank e) (as_string j f k) = first_before names c d first_name (inl refl) (omega arith) (omega arith)
    code_order {c} {d} (as_number z e h) (as_blank f) = let p = numeric c z e h in low_before c d _ _ (omega (arith, p.low)) p.own (blank_in_order d f) ∙ lt-ltb c before_names p.low
    code_order {c} {d} (as_number z e h) (as_number y f k) = let p = numeric c z e h in let q = numeric d y f k in low_before c d _ _ (omega (arith, p.low)) p.own q.own ∙ sym (order_less c d) ∙ ap₂ lt_z p.is q.is
    code_order {c} {d} (as_number z e h) (as_name j f l k) = first_before names c d first_name (inl refl) (omega (arith, (numeric c z e h).low)) (omega arith)
    code_order {c} {d} (as_number z e h) (as_string j f k) = first_before names c d first_name (inl refl) (omega (arith, (numeric c z e h).low)) (omega arith)
    code_order {c} {d} (as_name i {n} e m g) (as_blank f) = second_behind names d c first_name (inl refl) (omega arith) (omega arith) ∙ sym (before_nothing n)
    code_order {c} {d} (as_name i e m g) (as_number y f k) = second_behind names d c first_name (inl refl) (omega (arith, (numeric d y f k).low)) (omega arith)
    code_order {c} {d} (as_name i e m g) (as_name j f l k) = texts_before (name_text c i _ e m g) (name_text d j _ f l k)
    code_order {c} {d} (as_name i e m g) (as_string j f k) = first_before names c d first_string (inr refl) m (omega arith)
    code_order {c} {d} (as_string i e g) (as_blank f) = second_behind names d c first_name (inl refl) (omega arith) (omega arith)
    code_order {c} {d} (as_string i e g) (as_number y f k) = second_behind names d c first_name (inl refl) (omega (arith, (numeric d y f k).low)) (omega arith)
    code_order {c} {d} (as_string i e g) (as_name j f l k) = second_behind names d c first_string (inr refl) l (omega arith)
    code_order {c} {d} (as_string i e g) (as_string j f k) = texts_before (string_text c i _ e g) (string_text d j _ f k)
