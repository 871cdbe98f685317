-- The mask of a rule's heads at a matching, head after head.
use mathlib.Core.Path.{◌≡◌, refl, sym, ap, ◌∙◌}
use mathlib.Core.Bool.{Bool, true, false, not, ◌&&◌, ◌||◌}
use mathlib.Core.Option.{Option}
use mathlib.Core.List.{List, [], ◌∷◌}
use Prim.Native.Nat.{ℕ, suc, ◌+◌, ◌-◌, ◌^◌, ◌≤◌, ◌<◌}
use native.Mathlib.Omega.{arith}
use native.Mathlib.Numerals.{add-one}
use lib.Bits.{bit_or}
use Rattle.std.proofs.Math.Bool.{or-false}
use Rattle.meaning.specs.Sets.{any}
use Rattle.meaning.specs.Rules.{Bytes, Term, Atom}
use Rattle.meaning.specs.Instances.{instance}
use Rattle.meaning.proofs.Sets.{any_append, any_one}
use Rattle.codes.specs.Domains.{codes}
use Rattle.tables.specs.Rows.{from, facts_of, atom_at}
use Rattle.tables.proofs.Strides.{from_last}
use Rattle.derived_set.specs.Members.{bit}
use Rattle.lookup.specs.Place.{PlaceOf}
use Rattle.reach.specs.Reach.{Apart, position}
use Rattle.store.specs.Store.{facts_in, literals_in}
use Rattle.leaf.specs.Reads.{reads}
use Rattle.lookahead.specs.Ends.{atoms_from}
use Rattle.lookahead.proofs.HeadPlaces.{place_found, place_missing}
use Rattle.subsets.specs.Table.{most_facts}
use Rattle.subsets.proofs.Masks.{mask_small}
use Rattle.subset_test.specs.Refuted.{kept_at, keeps_one}
use Rattle.subset_test.specs.Stands.{HeadsMasked}
use Rattle.subset_test.proofs.Masks.{none_of_none, none_more}

no_more : (p q : Bool) → not (p || q) ≡ (not p && not q)
no_more true q = refl
no_more false q = refl

module _ (store : List ℕ) (count first : ℕ) (values : List ℕ) where
  abbrev Masked : ℕ → ℕ → Type 0
  Masked k m = HeadsMasked store count first k values m

  -- J keeps the instance of an atom
  abbrev kept : List Bytes → ℕ → Atom (Term ℕ) → Bool
  kept names J h = kept_at J (position (codes names) 0 (facts_of (facts_in store) count) (instance (reads values) h))

  -- no head before row l
  pub no_heads : (l : ℕ) → l ≤ first → Masked (l - first) 0
  unfolding keeps_one any from
  no_heads l h = let z : l - first ≡ 0 = omega arith in rw z (record { small = omega arith; is = λ names J. none_of_none J })

  module _ (k m : ℕ) (so : Masked k m) (p : ℕ) (at : (names : List Bytes) → PlaceOf names (facts_in store) count (instance (reads values) (atom_at (literals_in store) (first + k))) p) where
    abbrev before : List Bytes → ℕ → Bool
    before names J = keeps_one (codes names) (facts_of (facts_in store) count) (reads values) J (atoms_from store first k)

    -- with the last head's position
    kept_more : (names : List Bytes) (J : ℕ) → keeps_one (codes names) (facts_of (facts_in store) count) (reads values) J (atoms_from store first (suc k)) ≡ (keeps_one (codes names) (facts_of (facts_in store) count) (reads values) J (atoms_from store first k) || kept_at J (position (codes names) 0 (facts_of (facts_in store) count) (instance (reads values) (atom_at (literals_in store) (first + k)))))
    unfolding keeps_one
    kept_more names J =
        ap (any (kept names J)) (from_last (atom_at (literals_in store)) k first)
        ∙ any_append (kept names J) (from (atom_at (literals_in store)) k first) (atom_at (literals_in store) (first + k) ∷ [])
        ∙ ap (λ (b : Bool). any (kept names J) (from (atom_at (literals_in store)) k first) || b) (any_one (kept names J) (atom_at (literals_in store) (first + k)))

    masked : Apart (facts_in store) count → count ≤ most_facts → p < count → Masked (k + 1) (bit_or m (2 ^ p))
    unfolding kept_at
    masked apart few h = rw (add-one k) (record {
      small = mask_small m p so.small (omega arith);
      is = λ names J.
          none_more m p J (omega arith)
          ∙ ap (λ (b : Bool). b && not (bit J p)) (so.is names J)
          ∙ sym (no_more (before names J) (bit J p))
          ∙ ap not (sym (kept_more names J ∙ ap (λ (o : Option ℕ). before names J || kept_at J o) (place_found names (facts_in store) count _ p (at names) apart h)));
    })

    unmasked : count ≤ p → Masked (k + 1) m
    unfolding kept_at
    unmasked h = rw (add-one k) (record { small = so.small; is = λ names J. so.is names J ∙ ap not (sym (kept_more names J ∙ ap (λ (o : Option ℕ). before names J || kept_at J o) (place_missing names (facts_in store) count _ p (at names) h) ∙ or-false (before names J))) })

  -- the head at row l
  module _ (l m : ℕ) (low : first ≤ l) (so : Masked (l - first) m) (p : ℕ) (at : (names : List Bytes) → PlaceOf names (facts_in store) count (instance (reads values) (atom_at (literals_in store) l)) p) where
    at_head : (names : List Bytes) → PlaceOf names (facts_in store) count (instance (reads values) (atom_at (literals_in store) (first + (l - first)))) p
    at_head names = let z : first + (l - first) ≡ l = omega arith in rw z (at names)

    next_head : l - first + 1 ≡ l + 1 - first
    next_head = omega arith

    pub head_masked : Apart (facts_in store) count → count ≤ most_facts → p < count → Masked (l + 1 - first) (bit_or m (2 ^ p))
    head_masked apart few h = rw next_head at (masked (l - first) m so p at_head apart few h)

    pub head_unmasked : count ≤ p → Masked (l + 1 - first) m
    head_unmasked h = rw next_head at (unmasked (l - first) m so p at_head h)
