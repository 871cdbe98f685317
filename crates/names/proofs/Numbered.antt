-- Laws of numbering: an answer is the only one, a number's codes stand for its name or string, and a table with room turns no text away.
use mathlib.Core.Path.{◌≡◌, refl, sym, ap, ◌∙◌}
use mathlib.Core.Logic.{◌⊎◌, inl, inr}
use mathlib.Core.Option.{some}
use mathlib.Core.List.{List, [], ◌∷◌, ◌++◌, append-nil}
use Prim.Native.Nat.{ℕ, ◌+◌, ◌≤◌, ◌<◌}
use native.Mathlib.Omega.{arith}
use lib.ListN.{length, get_elem?, length-append}
use Rattle.meaning.specs.Rules.{Bytes}
use Rattle.meaning.specs.Values.{name, string}
use Rattle.codes.specs.Codes.{first_name, first_string, quote, Distinct, Coded, as_name, as_string}
use Rattle.codes.specs.Predicates.{CodedName}
use Rattle.codes.proofs.Names.{last_at}
use Rattle.std.specs.Prelude.{Option, None, Some}
use Rattle.names.specs.Table.{most_names, capacity, count, name_at, names_of}
use Rattle.names.specs.Numbering.{Absent, Finds, Grown, held, added, Interns}
use Rattle.names.proofs.Firsts.{length_first, first_inside}

-- ---- a name is found at one place only

pub finds_once : (names : List Bytes) (n : Bytes) → Distinct names → (f g : Option ℕ) → Finds names n f → Finds names n g → f ≡ g
finds_once names n d (Some i) (Some j) p q = ap Some (d.once i j n p q)
finds_once names n d (Some i) None p q = absurd (q i p)
finds_once names n d None (Some j) p q = absurd (p j q)
finds_once names n d None None p q = refl

-- ---- the list with a name

module _ (names : List Bytes) (n : Bytes) where
  pub grown_at : (after : List Bytes) (i : ℕ) → Grown names n after i → get_elem? after i ≡ some n
  grown_at _ i (held h) = h
  grown_at _ _ (added h) = last_at names n

  -- what is put behind the list: nothing, or the name
  pub behind : (after : List Bytes) (i : ℕ) → Grown names n after i → List Bytes
  behind _ i (held h) = []
  behind _ _ (added h) = n ∷ []

  pub grown_list : (after : List Bytes) (i : ℕ) (g : Grown names n after i) → after ≡ names ++ behind after i g
  unfolding behind
  grown_list _ i (held h) = sym (append-nil names)
  grown_list _ _ (added h) = refl

  pub grown_length : (after : List Bytes) (i : ℕ) → Grown names n after i → length after ≤ length names + 1
  grown_length _ i (held h) = omega arith
  grown_length _ _ (added h) = rw (length-append names (n ∷ [])) (omega arith)

  pub grown_once : Distinct names → (a b : List Bytes) (i j : ℕ) → Grown names n a i → Grown names n b j → (a ≡ b) × (i ≡ j)
  grown_once d _ _ i j (held p) (held q) = (refl, d.once i j n p q)
  grown_once d _ _ i _ (held p) (added q) = absurd (q i p)
  grown_once d _ _ _ j (added p) (held q) = absurd (p j q)
  grown_once d _ _ _ _ (added p) (added q) = (refl, refl)

  pub grown_coded_name : (after : List Bytes) (i : ℕ) → Grown names n after i → CodedName after (i ∷ []) n
  grown_coded_name after i g = record { place = i; is_place = refl; is_name = grown_at after i g }

-- ---- interning

module _ (program output : Bytes) (table : List ℕ) (n : Bytes) where
  module _ (after : List ℕ) (i : ℕ) (interned : Interns program output table n after (Some i)) where
    stands_at : get_elem? (names_of program output after) i ≡ some n
    stands_at = grown_at (names_of program output table) n (names_of program output after) i interned.1

    pub interned_below : i < most_names
    interned_below = omega (arith, (first_inside (name_at program output after) (count after) i n stands_at).0, interned.0.room)

    -- so that its code as a name is below those of the strings
    pub interned_name : Coded (names_of program output after) (first_name + i) (name n)
    interned_name = as_name i refl (omega (arith, interned_below)) stands_at

    pub interned_string : (s : Bytes) → n ≡ quote ∷ s → Coded (names_of program output after) (first_string + i) (string s)
    interned_string s e = as_string i refl (stands_at ∙ ap some e)

  -- a name that has bytes has a number afterwards, where the table has room
  pub numbered : (after : List ℕ) (f : Option ℕ) → Interns program output table n after f → (n ≡ [] → ⊥) → length (names_of program output table) < capacity (length table) → (i : ℕ) × (f ≡ Some i)
  numbered after (Some i) h nonempty room = (i, refl)
  numbered after None h nonempty room = absurd (turned_away h.1)
    where
      turned_away : (n ≡ []) ⊎ (Absent (names_of program output table) n × (length (names_of program output table) ≡ capacity (length table))) → ⊥
      turned_away (inl e) = nonempty e
      turned_away (inr e) = let l = e.1 in omega arith

  not_both : (after : List ℕ) (i : ℕ) → Interns program output table n after (Some i) → (n ≡ []) ⊎ (Absent (names_of program output table) n × (length (names_of program output table) ≡ capacity (length table))) → ⊥
  not_both after i p (inl e) = p.0.distinct.nonempty i (grown_at _ n _ i p.1 ∙ ap some e)
  not_both after i p (inr e) = past (names_of program output after) i p.1 (let l = length_first (name_at program output after) (count after) in let r = p.0.room in let s = ap capacity p.2 in omega arith)
    where
      past : (names : List Bytes) (j : ℕ) → Grown (names_of program output table) n names j → length names ≤ capacity (length table) → ⊥
      past _ j (held h) l = e.0 j h
      past _ _ (added h) l = let k = length-append (names_of program output table) (n ∷ []) in let m = e.1 in omega arith

  -- the answer and the list afterwards are the only ones
  pub interns_once : Distinct (names_of program output table) → (a b : List ℕ) (f g : Option ℕ) → Interns program output table n a f → Interns program output table n b g → (f ≡ g) × (names_of program output a ≡ names_of program output b)
  interns_once d a b (Some i) (Some j) p q = let e = grown_once (names_of program output table) n d _ _ i j p.1 q.1 in (ap Some e.1, e.0)
  interns_once d a b (Some i) None p q = absurd (not_both a i p q.1)
  interns_once d a b None (Some j) p q = absurd (not_both b j q p.1)
  interns_once d a b None None p q = (refl, ap (names_of program output) (p.0 ∙ sym q.0))
