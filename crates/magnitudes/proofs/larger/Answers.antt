-- `larger` meets its contract. Assumes nothing.
use Rattle.std.proofs.Common.{rules}
use Rattle.std.specs.List.{fold}
use mathlib.Core.Path.{◌≡◌}
use Prim.Native.Nat.{ℕ, max}
use Rattle.magnitudes.specs.Sizes.{size}
use Rattle.magnitudes.proofs.Facts.{larger_codes}
use Rattle.magnitudes.proofs.larger.Goals as goal

pub returns : goal.returns
returns c =
    let e : c.fold.result ≡ fold (λ (m x : ℕ). max m (size x)) c.args.most c.args.codes.now = search rules in
    larger_codes c.args.codes.now c.args.most c.requires c.fold.result e
