-- `number_of` meets its contract: a code and its number differ by a constant. Assumes nothing.
use native.Mathlib.Nat.{lt_of_le_of_lt}
use lib.Dec.{lit<}
use mathlib.Core.Path.{◌≡◌}
use mathlib.Core.Bool.{true}
use Prim.Native.Nat.{ℕ, ◌<◌, ◌^◌}
use mir.Syntax.{w64}
use mir.ValLaws.{to_z-of_z, to_z_pos}
use Rattle.codes.specs.Codes.{number_of, is_number_code}
use Rattle.codes.proofs.Numbers.{number_greatest, number_fits}
use Rattle.codes.proofs.number_of.Goals as goal

below : (code : ℕ) → is_number_code code ≡ true → code < 2 ^ 63
below code is = lt_of_le_of_lt (number_greatest code is) (lit< tt)

pub overflow_cast-result : goal.overflow_cast-result
overflow_cast-result c = record { sfits = below c.args.code c.requires }

pub overflow_sub-result : goal.overflow_sub-result
overflow_sub-result c = rw (to_z_pos w64 c.args.code (below c.args.code c.requires)) (number_fits c.args.code c.requires)

pub returns : goal.returns
unfolding number_of
returns c = rw (to_z_pos w64 c.args.code (below c.args.code c.requires)) (to_z-of_z w64 _ (number_fits c.args.code c.requires))
