-- The numbers of a rule, read where they are stored: seven, the equations' rows and the positive literals' rows, one behind the other.
use mathlib.Core.Path.{◌≡◌, refl, sym, ap, ◌∙◌}
use mathlib.Core.List.{List, [], ◌∷◌}
use Prim.Native.Nat.{ℕ, ◌+◌, ◌*◌, ◌≤◌, ◌<◌}
use native.Mathlib.Omega.{arith}
use lib.ListN.{length, get_or, take, drop}
use Rattle.std.specs.Int.{from_bool}
use Rattle.grammar.specs.Sizes.{most_literals}
use Rattle.tables.specs.Layout.{rule_rows, rule_stride, first_head_column, heads_column, first_literal_column, literals_column, has_operation_column, equations_column, positives_column, equation_places_column, positive_places_column}
use Rattle.tables.specs.Stored.{with_row, Kept}
use Rattle.tables.proofs.Stored.{number_of_part, put_kept_of, put_part_of, kept_then, kept_wider, kept_part}
use Rattle.rulesafety.specs.declared.rule_row.Numbers.{Numbers}
use Rattle.rulesafety.specs.RuleRow.{NumbersStored}

module _ (rules₀ : List ℕ) (number first : ℕ) (n : Numbers) (long : number * rule_stride + rule_stride ≤ length rules₀) where
  abbrev at : ℕ
  at = number * rule_stride

  abbrev header : List ℕ
  header = number * rule_rows ∷ n.heads ∷ first ∷ n.literals ∷ from_bool n.operation ∷ n.equations.count ∷ n.positives.count ∷ []

  module _ (rules₁ : List ℕ) (one : rules₁ ≡ with_row rules₀ at header) where
    kept₁ : Kept at (at + equation_places_column) rules₀ rules₁
    kept₁ = rw one (put_kept_of rules₀ at header (omega arith) equation_places_column refl)

    room₂ : length n.equations.rows ≡ most_literals → at + equation_places_column + length n.equations.rows ≤ length rules₁
    room₂ h = let l = kept₁.long in omega arith

    module _ (rules₂ : List ℕ) (two : rules₂ ≡ with_row rules₁ (at + equation_places_column) n.equations.rows) (sized : length n.equations.rows ≡ most_literals) where
      kept₂ : Kept (at + equation_places_column) (at + positive_places_column) rules₁ rules₂
      kept₂ = let q : at + positive_places_column ≡ at + equation_places_column + most_literals = omega arith in rw (two, q) (put_kept_of rules₁ (at + equation_places_column) n.equations.rows (room₂ sized) most_literals sized)

      room₃ : length n.positives.rows ≡ most_literals → at + positive_places_column + length n.positives.rows ≤ length rules₂
      room₃ h = let k = kept₁.long in let l = kept₂.long in omega arith

      module _ (rules₃ : List ℕ) (three : rules₃ ≡ with_row rules₂ (at + positive_places_column) n.positives.rows) (also : length n.positives.rows ≡ most_literals) where
        kept₃ : Kept (at + positive_places_column) (at + positive_places_column + most_literals) rules₂ rules₃
        kept₃ = rw three (put_kept_of rules₂ (at + positive_places_column) n.positives.rows (room₃ also) most_literals also)

        header_part : take equation_places_column (drop at rules₃) ≡ header
        header_part =
            kept_part kept₃ equation_places_column at (omega arith)
            ∙ kept_part kept₂ equation_places_column at (omega arith)
            ∙ ap (λ (t : List ℕ). take equation_places_column (drop at t)) one
            ∙ put_part_of rules₀ at header (omega arith) equation_places_column refl

        column : (j : ℕ) → j < equation_places_column → get_or rules₃ (at + j) 0 ≡ get_or header j 0
        column j h = sym (number_of_part equation_places_column at j rules₃ h) ∙ ap (λ (t : List ℕ). get_or t j 0) header_part

        pub numbers_stored : NumbersStored rules₀ number first n rules₃
        numbers_stored =
            let end = at + rule_stride in
            record {
              kept = kept_then (kept_wider kept₁ at end (omega arith) (omega arith)) (kept_then (kept_wider kept₂ at end (omega arith) (omega arith)) (kept_wider kept₃ at end (omega arith) (omega arith)));
              head_row = column first_head_column (omega arith);
              heads = column heads_column (omega arith);
              first_row = column first_literal_column (omega arith);
              literals = column literals_column (omega arith);
              operation = column has_operation_column (omega arith);
              equation_count = column equations_column (omega arith);
              positive_count = column positives_column (omega arith);
              equations =
                  kept_part kept₃ most_literals (at + equation_places_column) (omega arith)
                  ∙ ap (λ (t : List ℕ). take most_literals (drop (at + equation_places_column) t)) two
                  ∙ put_part_of rules₁ (at + equation_places_column) n.equations.rows (room₂ sized) most_literals sized;
              positives =
                  ap (λ (t : List ℕ). take most_literals (drop (at + positive_places_column) t)) three
                  ∙ put_part_of rules₂ (at + positive_places_column) n.positives.rows (room₃ also) most_literals also;
            }
