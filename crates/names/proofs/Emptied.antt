-- A table whose count and heads are zero is in order, and has no names.
use mathlib.Core.Path.{◌≡◌}
use mathlib.Core.List.{List, []}
use Prim.Native.Nat.{ℕ, ◌+◌, ◌≤◌, ◌<◌}
use native.Mathlib.Omega.{arith}
use lib.ListN.{length, get_or, replicate, length-replicate, get_or-replicate}
use Rattle.texts.specs.Sizes.{most_text}
use Rattle.meaning.specs.Rules.{Bytes}
use Rattle.codes.proofs.Names.{distinct_none}
use Rattle.names.specs.Table.{first_row, capacity, count, first, names_of, Table}
use Rattle.names.specs.Numbering.{Empty}

module _ (program output : Bytes) (table : List ℕ) (zeros : (j : ℕ) → j < first_row → get_or table j 0 ≡ 0) where
  pub no_names : names_of program output table ≡ []
  unfolding first
  no_names = rw (zeros 0 (omega arith))

  pub emptied : length program ≤ most_text → length output ≤ most_text → first_row ≤ length table → Table program output table
  emptied p o s =
      let none : count table ≡ 0 = zeros 0 (omega arith) in
      record {
        program_size = p;
        output_size = o;
        size = s;
        room = omega arith;
        distinct = rw no_names distinct_none;
        heads = λ slot h. (let e = zeros (slot + 1) (omega arith) in record { within = omega arith; in_slot = λ j q. absurd (let z : ⊥ = omega arith in z); latest = λ i k q. absurd (let z : ⊥ = omega arith in z) });
        links = λ i h. absurd (let z : ⊥ = omega arith in z);
      }

pub zeros_empty : (n size : ℕ) → first_row ≤ size → n ≤ capacity size → Empty n (replicate size 0)
zeros_empty n size h k =
    record {
      in_order = λ program output p o. emptied program output (replicate size 0) zeros p o (let l = length-replicate {A = ℕ} size 0 in omega arith);
      no_names = λ program output. no_names program output (replicate size 0) zeros;
      room = rw (length-replicate {A = ℕ} size 0) k;
    }
  where
    zeros : (j : ℕ) → j < first_row → get_or {A = ℕ} (replicate size 0) j 0 ≡ 0
    zeros j l = get_or-replicate size j 0 0 (omega arith)
