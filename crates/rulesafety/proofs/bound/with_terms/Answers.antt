-- `bound::with_terms` meets its contract. The invariant: the variables of the terms before this one are added. Assumes nothing.
use mathlib.Core.Path.{◌≡◌}
use native.Mathlib.Omega.{arith}
use lib.ListN.{length}
use Rattle.meaning.specs.Sets.{any}
use Rattle.grammar.specs.Sizes.{most_variables}
use Rattle.rulesafety.proofs.Adding.{adds_none, terms_on}
use borrow.Author.Rules.{rules}
use Rattle.rulesafety.proofs.bound.with_terms.Goals as goal

pub loop-code-init : goal.loop-code-init
unfolding any
loop-code-init c = let room : length c.args.bound.bits ≡ most_variables = search rules in adds_none _ room

pub loop-code-preserved : goal.loop-code-preserved
loop-code-preserved c = terms_on c.args.terms.now c.loop-code.code-index _ _ _ (omega arith) c.loop-code.invariant c.with_term-bound.ensures
