-- A rule is safe exactly where no variable that stands in it is unbound.
use mathlib.Core.Path.{◌≡◌, refl, sym, ◌∙◌}
use mathlib.Core.Bool.{Bool, true, false, ◌&&◌, false≢true}
use mathlib.Core.List.{List}
use Prim.Native.Nat.{ℕ, ◌<◌}
use lib.Dec.{ltb}
use lib.ListN.{length}
use borrow.Author.Tests.{ltb-true}
use Rattle.meaning.specs.Sets.{every, ◌⊆◌}
use Rattle.meaning.specs.Rules.{Term, constant, variable, Atom, Side, plain, computed, Literal, positive, negated, builtin, Rule}
use Rattle.meaning.specs.Herbrand.{in_rule}
use Rattle.meaning.specs.Safety.{term_bound, side_bound, atom_bound, literal_bound, head_bound, bound, safe}
use Rattle.meaning.proofs.Booleans.{and_left, and_right, and_both}
use Rattle.meaning.proofs.Sets.{every_more}
use Rattle.meaning.proofs.Herbrand.{bound_where_safe}
use Rattle.std.specs.Prelude.{Option, is_none}
use Rattle.texts.specs.declared.place.Place.{Place}
use Rattle.rulesafety.specs.Unbound.{FirstUnbound, found, all_bound}
use Rattle.rulesafety.proofs.FirstUnbound.{AllBelow}

-- ---- where more is bound, what was bound still is

module _ {U : Type 0} (B C : ℕ → Bool) (more : B ⊆ C) where
  term_more : (t : Term U) → term_bound B t ≡ true → term_bound C t ≡ true
  unfolding term_bound
  term_more (constant c) h = refl
  term_more (variable x) h = more x h

  two_more : (t u : Term U) → (term_bound B t && term_bound B u) ≡ true → (term_bound C t && term_bound C u) ≡ true
  two_more t u h = and_both _ _ (term_more t (and_left _ _ h)) (term_more u (and_right (term_bound B t) _ h))

  side_more : (e : Side U) → side_bound B e ≡ true → side_bound C e ≡ true
  unfolding side_bound
  side_more (plain t) h = term_more t h
  side_more (computed t o u) h = two_more t u h

  atom_more : (a : Atom (Term U)) → atom_bound B a ≡ true → atom_bound C a ≡ true
  unfolding atom_bound
  atom_more a h = every_more (term_bound B) (term_bound C) a.arguments term_more h

  literal_more : (l : Literal U) → literal_bound B l ≡ true → literal_bound C l ≡ true
  unfolding literal_bound
  literal_more (positive a) h = atom_more a h
  literal_more (negated a) h = atom_more a h
  literal_more (builtin c t e) h = and_both _ _ (term_more t (and_left _ _ h)) (side_more e (and_right (term_bound B t) _ h))

  heads_more : (hs : List (Atom (Term U))) → head_bound B hs ≡ true → head_bound C hs ≡ true
  unfolding head_bound
  heads_more hs h = every_more (atom_bound B) (atom_bound C) hs atom_more h

-- ---- safe

module _ {U : Type 0} (m : Rule U) where
  -- every variable of the heads and of the body has a number below n
  pub record NumbersBelow (n : ℕ) : Type 0 where
    pub in_its_heads : head_bound (λ x. ltb x n) m.heads ≡ true
    pub in_its_body : every (literal_bound (λ x. ltb x n)) m.body ≡ true

  pub safe_of_bound : (n : ℕ) → AllBelow (bound m) n → NumbersBelow n → safe m ≡ true
  unfolding safe
  safe_of_bound n all numbers =
      let more : (λ x. ltb x n) ⊆ bound m = λ x h. all x (ltb-true x n h) in
      and_both _ _ (heads_more _ _ more m.heads numbers.in_its_heads) (every_more _ _ m.body (literal_more _ _ more) numbers.in_its_body)

  pub unsafe_of_unbound : (x : ℕ) → in_rule x m ≡ true → bound m x ≡ false → safe m ≡ false
  unsafe_of_unbound x k u = go (safe m) refl
    where
      go : (b : Bool) → safe m ≡ b → safe m ≡ false
      go true e = absurd (false≢true (sym u ∙ bound_where_safe m e x k))
      go false e = e

  -- where the variables that stand in the rule are exactly those with a first occurrence
  pub safe_exactly : (firsts : List Place) (r : Option Place) → FirstUnbound (bound m) firsts r → NumbersBelow (length firsts) → ((x : ℕ) → x < length firsts → in_rule x m ≡ true) → safe m ≡ is_none r
  safe_exactly firsts r (found x h u all e) numbers stand = unsafe_of_unbound x (stand x h) u ∙ rw e
  safe_exactly firsts r (all_bound all e) numbers stand = safe_of_bound (length firsts) all numbers ∙ rw e
