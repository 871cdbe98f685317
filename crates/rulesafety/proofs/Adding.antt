-- What a set of variables holds as those of terms, literals and a body are added to it.
use mathlib.Core.Path.{◌≡◌, refl, sym, ◌∙◌}
use mathlib.Core.Bool.{Bool, true, false, cond, ◌||◌, or-false}
use mathlib.Core.List.{List, [], ◌∷◌, ◌++◌, map, map-append}
use Prim.Native.Nat.{ℕ, suc, ◌+◌, ◌-◌, ◌*◌, ◌≤◌, ◌<◌}
use native.Mathlib.Omega.{arith}
use native.Mathlib.Numerals.{add-one}
use lib.Dec.{eqb, ltb}
use lib.ListN.{length, get_or, set, take, drop, length-set, get_or-replicate, get_or-eq_default}
use lib.Seq.{take-suc, get_or-set_same, get_or-set_other}
use borrow.Author.Tests.{lt-ltb, le-ltb, eq-eqb, ne_eqb, eqb-true, eqb-false, ltb-true, ltb-false}
use Rattle.meaning.specs.Sets.{any}
use Rattle.meaning.specs.Rules.{Literal, positive, negated, builtin}
use Rattle.meaning.specs.Safety.{in_term, in_atom, positives, in_positives}
use Rattle.meaning.proofs.Booleans.{or_turned}
use Rattle.codes.specs.Codes.{no_value}
use Rattle.codes.specs.Arithmetic.{comparison_at}
use Rattle.grammar.specs.Sizes.{most_variables}
use Rattle.tables.specs.Layout.{literal_stride, sort_column, predicate_column, comparison_column, terms_column, positive_sort, negated_sort}
use Rattle.tables.specs.Rows.{from, term_of, atom_with, arity, literal_column, atom_at, side_at, literal_at}
use Rattle.tables.proofs.Strides.{from_last}
use Rattle.rulesafety.specs.declared.bound.Bound.{Bound}
use Rattle.rulesafety.specs.Bound.{bits_of, no_variables, with_variable, Adds, in_literal}

-- ---- one thing more

or_grouped : (p q r : Bool) → (p || (q || r)) ≡ ((p || q) || r)
or_grouped true q r = refl
or_grouped false q r = refl

any_last : {A : Type 0} (f : A → Bool) (l : List A) (a : A) → any f (l ++ (a ∷ [])) ≡ (f a || any f l)
unfolding any
any_last f [] a = refl
any_last f (x ∷ l) a = rw (any_last f l a) (or_turned (f x) (f a) (any f l) ∙ sym (or_grouped (f a) (f x) (any f l)))

-- nothing is added
pub adds_none : (b : Bound) → length b.bits ≡ most_variables → Adds b b (λ x. false)
adds_none b room = record { room = room; bits = λ x. refl }

adds_on : {A : Type 0} (f : ℕ → A → Bool) (l : List A) (a : A) (b c d : Bound) → Adds b c (λ x. any (f x) l) → Adds c d (λ x. f x a) → Adds b d (λ x. any (f x) (l ++ (a ∷ [])))
adds_on f l a b c d p q = record { room = q.room; bits = λ x. q.bits x ∙ rw (p.bits x, any_last (f x) l a) (or_grouped (f x a) (any (f x) l) (bits_of b x)) }

-- ---- a variable

pub with_variable_adds : (b : Bound) (v : ℕ) → length b.bits ≡ most_variables → v < most_variables → Adds b (with_variable b v) (eqb v)
unfolding bits_of
with_variable_adds b v room h = record { room = length-set b.bits v true ∙ room; bits = λ x. go x (eqb v x) refl }
  where
    go : (x : ℕ) (t : Bool) → eqb v x ≡ t → get_or (set b.bits v true) x false ≡ (eqb v x || get_or b.bits x false)
    go x true e =
        let same = eqb-true v x e in
        let inside : v < length b.bits = omega arith in
        rw (e, ← same) (get_or-set_same b.bits v true false inside)
    go x false e = rw e (get_or-set_other b.bits v x true false (λ k. eqb-false v x e (sym k)))

-- ---- a term

pub value_adds : (b : Bound) (c : ℕ) → length b.bits ≡ most_variables → no_value ≤ c → Adds b b (λ x. in_term x (term_of c))
unfolding in_term term_of
value_adds b c room h = rw (le-ltb c no_value h) (adds_none b room)

pub variable_adds : (b c : Bound) (v : ℕ) → length b.bits ≡ most_variables → v < no_value → c ≡ with_variable b v → Adds b c (λ x. in_term x (term_of v))
unfolding in_term term_of
variable_adds b c v room h e = let a = with_variable_adds b v room h in rw (lt-ltb v no_value h, e) (record { room = a.room; bits = a.bits })

-- ---- terms of a row

pub terms_on : (terms : List ℕ) (i : ℕ) (b c d : Bound) → i < length terms → Adds b c (λ x. any (in_term x) (map term_of (take i terms))) → Adds c d (λ x. in_term x (term_of (get_or terms i 0))) → Adds b d (λ x. any (in_term x) (map term_of (take (i + 1) terms)))
terms_on terms i b c d inside p q =
    let longer : map term_of (take (i + 1) terms) ≡ map term_of (take i terms) ++ (term_of (get_or terms i 0) ∷ []) = rw (add-one i, take-suc terms i 0 inside) (map-append term_of (take i terms) (get_or terms i 0 ∷ [])) in
    rw longer (adds_on in_term (map term_of (take i terms)) (term_of (get_or terms i 0)) b c d p q)

-- ---- a literal

module _ (literals : List ℕ) (l : ℕ) (b : Bound) where
  pub other_adds : length b.bits ≡ most_variables → (literal_column literals l sort_column ≡ positive_sort → ⊥) → Adds b b (in_literal (literal_at literals l))
  unfolding literal_at in_positives positives any
  other_adds room n = rw (ne_eqb (literal_column literals l sort_column) positive_sort n) (go (eqb (literal_column literals l sort_column) negated_sort))
    where
      go : (t : Bool) → Adds b b (in_literal (cond t (negated (atom_at literals l)) (builtin (comparison_at (literal_column literals l comparison_column)) (term_of (literal_column literals l terms_column)) (side_at literals l))))
      go true = adds_none b room
      go false = adds_none b room

  pub positive_adds : (c : Bound) → literal_column literals l sort_column ≡ positive_sort → Adds b c (λ x. any (in_term x) (map term_of (take (arity (literal_column literals l predicate_column)) (drop (l * literal_stride + terms_column) literals)))) → Adds b c (in_literal (literal_at literals l))
  unfolding literal_at in_positives positives any in_atom atom_at atom_with
  positive_adds c e a = rw (eq-eqb (literal_column literals l sort_column) positive_sort e) (record { room = a.room; bits = λ x. a.bits x ∙ rw or-false })

-- ---- a body

-- x stands in one of the literals that are positive atoms
abbrev pub in_some : List (Literal ℕ) → ℕ → Bool
in_some ls x = any (λ l. in_literal l x) ls

one_by_one : (ls : List (Literal ℕ)) (x : ℕ) → in_some ls x ≡ in_positives ls x
unfolding any in_positives positives
one_by_one [] x = refl
one_by_one (positive a ∷ ls) x = rw (or-false (in_atom x a), one_by_one ls x)
one_by_one (negated a ∷ ls) x = one_by_one ls x
one_by_one (builtin c t e ∷ ls) x = one_by_one ls x

pub body_on : (literals : List ℕ) (first l : ℕ) (b c d : Bound) → first ≤ l → Adds b c (in_some (from (literal_at literals) (l - first) first)) → Adds c d (in_literal (literal_at literals l)) → Adds b d (in_some (from (literal_at literals) (l + 1 - first) first))
body_on literals first l b c d low p q =
    let longer : l + 1 - first ≡ suc (l - first) = omega arith in
    let here : first + (l - first) ≡ l = omega arith in
    rw (longer, from_last (literal_at literals) (l - first) first, here) (adds_on (λ x m. in_literal m x) (from (literal_at literals) (l - first) first) (literal_at literals l) b c d p q)

pub body_whole : (ls : List (Literal ℕ)) (b c : Bound) → Adds b c (in_some ls) → Adds b c (in_positives ls)
body_whole ls b c a = record { room = a.room; bits = λ x. a.bits x ∙ rw (one_by_one ls x) }

-- ---- a set that nothing was in

pub only_added : (S : ℕ → Bool) (b : Bound) → Adds no_variables b S → (x : ℕ) → bits_of b x ≡ S x
unfolding bits_of
only_added S b a x = a.bits x ∙ rw (go (ltb x most_variables) refl) (or-false (S x))
  where
    go : (t : Bool) → ltb x most_variables ≡ t → get_or no_variables.bits x false ≡ false
    go true e = get_or-replicate most_variables x false false (ltb-true x most_variables e)
    go false e = get_or-eq_default no_variables.bits false (ltb-false x most_variables e)
