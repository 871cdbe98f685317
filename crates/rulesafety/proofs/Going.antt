-- The scan under way: what it has found so far, and what the scan of the meaning finds from here on.
use mathlib.Core.Path.{◌≡◌, refl, sym, ap, ◌∙◌, fun_ext}
use mathlib.Core.Bool.{Bool}
use mathlib.Core.Logic.{◌⊎◌, inl, inr}
use mathlib.Core.Option.{none}
use mathlib.Core.List.{List, [], ◌∷◌, ◌++◌, map, map-append, append-nil, append_assoc}
use Prim.Native.Nat.{ℕ, zero, suc, ◌+◌, ◌-◌, ◌≤◌, zero-le, ◌<◌}
use native.Mathlib.Numerals.{add-one}
use native.Mathlib.Omega.{arith}
use lib.ListN.{length, set, take, length-set}
use lib.Seq.{take-suc-set}
use Rattle.std.specs.Prelude.{Some, None}
use Rattle.meaning.specs.Sets.{In}
use Rattle.meaning.specs.Rules.{Literal}
use Rattle.meaning.specs.Safety.{in_positives, Equation, next_gain, with, scan, equations, bound_after, bound}
use Rattle.meaning.proofs.Sets.{in_append}
use Rattle.meaning.proofs.Safety.{scan_stop, scan_step}
use Rattle.grammar.specs.Sizes.{most_literals, most_variables}
use Rattle.tables.specs.Layout.{terms_column}
use Rattle.tables.specs.Rows.{from, literal_column, literal_at, equation_at}
use Rattle.tables.proofs.Strides.{from_length}
use Rattle.rulesafety.specs.declared.bound.Bound.{Bound}
use Rattle.rulesafety.specs.declared.listed.Rows.{Rows}
use Rattle.rulesafety.specs.declared.scan.Scan.{Scan}
use Rattle.rulesafety.specs.Bound.{bits_of, no_variables, with_variable, Adds, body_at}
use Rattle.rulesafety.specs.Listed.{listed, no_rows}
use Rattle.rulesafety.specs.Scanned.{gains, first_gain, with_equation, Binds, Scanned}
use Rattle.rulesafety.proofs.Adding.{with_variable_adds, only_added}
use Rattle.rulesafety.proofs.Gaining.{gains_row, none_gains, Gains, one_gains}

-- what the meaning's scan finds where these are bound and k equations are found already
abbrev rest : List ℕ → ℕ → ℕ → (ℕ → Bool) → ℕ → List (Equation ℕ)
rest literals first count B k = scan (count - k) B (from (literal_at literals) count first)

pub record Going (literals : List ℕ) (first count : ℕ) (s : Scan) : Type 0 where
  pub room : length s.bound.bits ≡ most_variables
  pub rows_room : length s.equations.rows ≡ most_literals
  pub few : s.equations.count ≤ count
  pub ahead : equations (body_at literals first count) ≡ map (equation_at literals) (listed s.equations) ++ rest literals first count (bits_of s.bound) s.equations.count
  pub binds : (l : ℕ) → In l (listed s.equations) → Binds literals first count l
  pub bound_ahead : bound (body_at literals first count) ≡ bound_after (bits_of s.bound) (rest literals first count (bits_of s.bound) s.equations.count)

-- no gain is left
nothing : (n : ℕ) (B : ℕ → Bool) (ls : List (Literal ℕ)) → next_gain B ls ≡ none → scan n B ls ≡ []
unfolding scan
nothing zero B ls e = refl
nothing (suc n) B ls e = scan_stop n B ls e

module _ (literals : List ℕ) (first count : ℕ) where
  pub going_start : (b : Bound) (found : Rows) → Adds no_variables b (in_positives (from (literal_at literals) count first)) → found ≡ no_rows → Going literals first count (record { bound = b; equations = found })
  unfolding bound equations
  going_start b found a none_found =
      let all : length (from (literal_at literals) count first) ≡ count - 0 = from_length (literal_at literals) count first ∙ omega arith in
      let bits : bits_of b ≡ in_positives (from (literal_at literals) count first) = fun_ext (only_added _ b a) in
      rw none_found (record { room = a.room; rows_room = refl; few = zero-le; ahead = rw (all, bits); binds = λ l m. absurd m; bound_ahead = rw (all, bits) })

  module _ (short : count ≤ most_literals) (s : Scan) (g : Going literals first count s) where
    ended : rest literals first count (bits_of s.bound) s.equations.count ≡ [] → Scanned literals first count s
    unfolding bound_after
    ended e =
        record {
          bits = λ x. sym (ap (λ (f : ℕ → Bool). f x) (g.bound_ahead ∙ ap (bound_after (bits_of s.bound)) e));
          equations = sym (g.ahead ∙ ap (λ (qs : List (Equation ℕ)). map (equation_at literals) (listed s.equations) ++ qs) e ∙ append-nil _);
          few = let k = g.few in omega arith;
          binds = g.binds;
        }

    -- as many equations as literals
    pub going_full : count ≤ s.equations.count → Scanned literals first count s
    unfolding scan
    going_full h = let none_left : count - s.equations.count ≡ 0 = omega arith in ended (rw none_left)

    pub going_stop : None ≡ first_gain (gains (bits_of s.bound) literals) count first → Scanned literals first count s
    going_stop e = ended (nothing (count - s.equations.count) _ _ (none_gains (bits_of s.bound) literals count first (sym e)))

    module _ (l : ℕ) (e : Some l ≡ first_gain (gains (bits_of s.bound) literals) count first) where
      gain : Gains (bits_of s.bound) literals count first l
      gain = one_gains (bits_of s.bound) literals count first l (sym e)

      binding : Binds literals first count l
      binding = let row = gains_row (bits_of s.bound) literals l gain.here in record { from_first = gain.inside.0; before_end = gain.inside.1; built_in = row.0; left = row.1 }

      pub gain_low : literal_column literals l terms_column < most_variables
      gain_low = binding.left

      pub going_on : s.equations.count < count → (s' : Scan) → s' ≡ with_equation s l (literal_column literals l terms_column) → Going literals first count s'
      unfolding bound_after with equation_at
      going_on more s' is =
          let x = literal_column literals l terms_column in
          let found = s.equations in
          let adds = with_variable_adds s.bound x g.room gain_low in
          let bits : bits_of (with_variable s.bound x) ≡ with (bits_of s.bound) x = fun_ext adds.bits in
          let left : count - found.count ≡ suc (count - (found.count + 1)) = omega arith in
          let step : rest literals first count (bits_of s.bound) found.count ≡ equation_at literals l ∷ rest literals first count (bits_of (with_variable s.bound x)) (found.count + 1) = rw (left, bits) (scan_step _ _ _ (equation_at literals l) gain.next) in
          let fits : found.count < length found.rows = let r = g.rows_room in omega arith in
          let longer : take (found.count + 1) (set found.rows found.count l) ≡ listed found ++ (l ∷ []) = rw add-one (take-suc-set found.rows found.count l fits) in
          rw is
          (record {
            room = adds.room;
            rows_room = length-set found.rows found.count l ∙ g.rows_room;
            few = omega arith;
            ahead = g.ahead ∙ rw (step, longer, map-append, append_assoc);
            binds = λ k m. each k (in_append k (listed found) (l ∷ []) (rw longer at m));
            bound_ahead = g.bound_ahead ∙ rw (step, bits);
          })
        where
          each : (k : ℕ) → In k (listed s.equations) ⊎ In k (l ∷ []) → Binds literals first count k
          each k (inl old) = g.binds k old
          each k (inr (inl new)) = rw new binding
          each k (inr (inr past)) = absurd past
