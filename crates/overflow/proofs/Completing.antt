-- Equations that bind, one after the other: each completes the values by its own.
use mathlib.Core.Path.{◌≡◌, refl, sym, ap, ◌∙◌, fun_ext}
use mathlib.Core.Bool.{Bool, true, false, cond, ◌||◌, true≢false}
use mathlib.Core.Logic.{◌⊎◌, inl, inr}
use mathlib.Core.Option.{none}
use mathlib.Core.List.{List, [], ◌∷◌, map}
use Prim.Native.Nat.{ℕ, ◌+◌, ◌^◌, ◌≤◌, ◌<◌}
use native.Mathlib.Numerals.{add-one}
use native.Mathlib.Decide.{ℕ_discrete}
use native.Mathlib.Omega.{arith}
use lib.Dec.{eqb}
use lib.Bits.{bit_or}
use lib.ListN.{length, get_or, set, drop, length-set, drop_of_length-le}
use lib.Seq.{get_or-set_same, get_or-set_other, drop-cons}
use Rattle.meaning.specs.Rules.{Bytes}
use Rattle.meaning.specs.Safety.{Equation, with}
use Rattle.meaning.specs.Matchings.{side?}
use Rattle.meaning.specs.Matcher.{bind, set_to, complete}
use Rattle.meaning.proofs.Booleans.{bool_cases, or_cases, or_left, or_right, eqb_sound, eqb_self}
use Rattle.codes.specs.Codes.{no_value}
use Rattle.codes.specs.Domains.{codes}
use Rattle.tables.specs.Layout.{terms_column}
use Rattle.tables.specs.Rows.{literal_column, side_at, equation_at}
use Rattle.tables.specs.WellFormed.{EquationRow}
use Rattle.derived_set.specs.Members.{bit}
use Rattle.derived_set.proofs.Bits.{bit_other}
use Rattle.matching.specs.Known.{values_in}
use Rattle.matching.proofs.Masks.{kept_all, kept_on, bound_to, bound_keeps, bound_more, still_mask}
use Rattle.settle.specs.Settling.{Knowing, SideSays}
use Rattle.settle.proofs.Values.{said_value, said_none}
use Rattle.overflow.specs.Leaving.{Adds, Fresh, CompletesOne, Completes}

-- ---- one equation

pub adds_none : (bound : ℕ) (values : List ℕ) → Knowing bound values → Adds bound values bound values
adds_none bound values k = record { knowing = k; kept = kept_all bound values; more = λ x b. b }

module _ (literals : List ℕ) (l bound : ℕ) (values : List ℕ) (row : EquationRow literals l) (known : Knowing bound values) where
  abbrev x : ℕ
  x = literal_column literals l terms_column

  still_only : (y : ℕ) → bit bound y ≡ true → with (bit bound) x y ≡ true
  unfolding with
  still_only y b = or_right (eqb x y) (bit bound y) b

  pub has_value : bit bound x ≡ true → CompletesOne literals l bound values bound values
  has_value b = record { adds = adds_none bound values known; only = still_only; is = λ n. absurd (true≢false (sym b ∙ n)) }

  module _ (right : ℕ) (s : (names : List Bytes) → SideSays names literals l bound values right) where
    -- a variable without a value is left without one
    pub no_right : bit bound x ≡ false → right ≤ no_value → CompletesOne literals l bound values bound values
    unfolding set_to values_in
    no_right n h = record { adds = adds_none bound values known; only = still_only; is = λ m names. fun_ext (λ y. same names y (eqb x y) refl) }
      where
        without : (y : ℕ) → eqb x y ≡ true → values_in bound values y ≡ none
        without y e = rw (← (eqb_sound x y e), n) refl

        same : (names : List Bytes) (y : ℕ) (t : Bool) → eqb x y ≡ t → values_in bound values y ≡ cond t (side? (codes names) (values_in bound values) (side_at literals l)) (values_in bound values y)
        same names y true e = without y e ∙ sym (said_none right h) ∙ (s names).partial
        same names y false e = refl

    pub has_right : bit bound x ≡ false → no_value < right → CompletesOne literals l bound values (bit_or bound (2 ^ x)) (set values x right)
    unfolding with bind set_to
    has_right n h =
        record {
          adds = record { knowing = record { mask = still_mask bound x known.mask row.left; wide = omega (arith, known.wide, longer); ground = λ y b. grown y b (ℕ_discrete y x) }; kept = bound_keeps bound x right values inside n; more = λ y b. bound_more bound x y b };
          only = only;
          is = λ m names. bound_to bound x right values inside ∙ bound_is names;
        }
      where
        inside : x < length values
        inside = omega (arith, row.left, known.wide)

        longer : length (set values x right) ≡ length values
        longer = simp length-set

        grown : (y : ℕ) → bit (bit_or bound (2 ^ x)) y ≡ true → Dec (y ≡ x) → no_value < get_or (set values x right) y 0
        grown y b (yes e) = rw (e, get_or-set_same values x right 0 inside) h
        grown y b (no d) = rw (get_or-set_other values x y right 0 d) (known.ground y (sym (bit_other bound x y d) ∙ b))

        only : (y : ℕ) → bit (bit_or bound (2 ^ x)) y ≡ true → with (bit bound) x y ≡ true
        only y b = elim (ℕ_discrete y x) [
          | yes e ↦ or_left (eqb x y) (bit bound y) (rw e (eqb_self x))
          | no d ↦ or_right (eqb x y) (bit bound y) (sym (bit_other bound x y d) ∙ b)
        ]

        bound_is : (names : List Bytes) → bind (values_in bound values) x right ≡ set_to (values_in bound values) x (side? (codes names) (values_in bound values) (side_at literals l))
        bound_is names = ap (set_to (values_in bound values) x) (sym (said_value right h) ∙ (s names).partial)

-- ---- equations that bind fresh variables

-- fewer variables before leave as many fresh
pub fresh_less : (B C : ℕ → Bool) → ((x : ℕ) → C x ≡ true → B x ≡ true) → (qs : List (Equation ℕ)) → Fresh B qs → Fresh C qs
unfolding Fresh with
fresh_less B C s [] f = tt
fresh_less B C s (q ∷ qs) f = (off (bool_cases (C q.left)), fresh_less (with B q.left) (with C q.left) wider qs f.1)
  where
    off : (C q.left ≡ true) ⊎ (C q.left ≡ false) → C q.left ≡ false
    off (inl e) = absurd (true≢false (sym (s q.left e) ∙ f.0))
    off (inr e) = e

    wider : (y : ℕ) → with C q.left y ≡ true → with B q.left y ≡ true
    wider y h = at (or_cases (eqb q.left y) (C y) h)
      where
        at : (eqb q.left y ≡ true) ⊎ (C y ≡ true) → (eqb q.left y || B y) ≡ true
        at (inl e) = or_left (eqb q.left y) (B y) e
        at (inr e) = or_right (eqb q.left y) (B y) (s y e)

-- ---- those from place i on

module _ (literals places : List ℕ) (bound : ℕ) (before : List ℕ) where
  abbrev left : ℕ → List (Equation ℕ)
  left i = map (equation_at literals) (drop i places)

  -- the equations before place i have completed what was known
  pub record From (i more : ℕ) (values : List ℕ) : Type 0 where
    pub adds : Adds bound before more values
    pub fresh : Fresh (bit bound) (left 0) → Fresh (bit more) (left i)
    pub same : Fresh (bit bound) (left 0) → (names : List Bytes) → complete (codes names) (left 0) (values_in bound before) ≡ complete (codes names) (left i) (values_in more values)

  pub none_completed : Knowing bound before → From 0 bound before
  none_completed k = record { adds = adds_none bound before k; fresh = λ f. f; same = λ f names. refl }

  module _ (i more : ℕ) (values : List ℕ) (d : From i more values) where
    pub all_completed : length places ≤ i → Completes (left 0) bound before more values
    unfolding complete
    all_completed h = record { adds = d.adds; is = λ f names. sym (d.same f names ∙ rw (drop_of_length-le places h) refl) }

    module _ (h : i < length places) (r : ℕ) (after : List ℕ) (s : CompletesOne literals (get_or places i 0) more values r after) where
      abbrev q : Equation ℕ
      q = equation_at literals (get_or places i 0)

      first : left i ≡ q ∷ left (i + 1)
      first = rw (drop-cons places i 0 h, add-one i) refl

      pub one_completed : From (i + 1) r after
      unfolding Fresh complete equation_at
      one_completed =
          record {
            adds = record { knowing = s.adds.knowing; kept = kept_on bound more before values after d.adds.more d.adds.kept s.adds.kept; more = λ x b. s.adds.more x (d.adds.more x b) };
            fresh = λ f. fresh_less (with (bit more) q.left) (bit r) s.only (left (i + 1)) (now f).1;
            same = λ f names. d.same f names ∙ ap (λ (qs : List (Equation ℕ)). complete (codes names) qs (values_in more values)) first ∙ ap (complete (codes names) (left (i + 1))) (sym (s.is (now f).0 names));
          }
        where
          now : Fresh (bit bound) (left 0) → (bit more q.left ≡ false) × Fresh (with (bit more) q.left) (left (i + 1))
          now f = rw first at (d.fresh f)
