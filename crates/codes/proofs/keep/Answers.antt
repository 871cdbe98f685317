-- `keep` meets its contract. Assumes nothing.
use mathlib.Core.Path.{sym, ◌∙◌}
use mir.Syntax.{w64}
use mir.ValLaws.{to_z-of_z}
use Rattle.codes.proofs.Results.{kept_result, kept_out}
use Rattle.codes.proofs.keep.Goals as goal

pub code_of-requires : goal.code_of-requires
code_of-requires c = sym c.in_range.ensures ∙ c.if-in_range.true

pub returns-then-in_range : goal.returns-then-in_range
returns-then-in_range c = kept_result c.args.z _ (to_z-of_z w64 c.args.z c.ranges.z) _ c.in_range.ensures c.if-in_range.true _ c.code_of.ensures

pub returns : goal.returns
returns c = kept_out c.args.z _ (to_z-of_z w64 c.args.z c.ranges.z) _ c.in_range.ensures c.if-in_range.false
