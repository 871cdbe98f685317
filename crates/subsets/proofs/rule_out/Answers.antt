-- `rule_out` meets its contract: masks with a bit in common refute nothing, and others are put in by the bits of a word and by words. Assumes
-- nothing.
use native.Mathlib.Omega.{arith}
use Rattle.subsets.proofs.Choosing.{apart_past}
use Rattle.subsets.proofs.Marking.{rules_out, rules_none}
use Rattle.subsets.proofs.rule_out.Goals as goal

pub returns-then-body-heads-ne0 : goal.returns-then-body-heads-ne0
returns-then-body-heads-ne0 c = rules_none c.args.body c.args.heads _ c.requires.1 c.requires.2 c.if-body-heads-ne0.true

pub mark_words-requires : goal.mark_words-requires
mark_words-requires c =
    (c.requires.0, omega arith, omega arith, apart_past c.args.body c.args.heads 6 c.if-body-heads-ne0.false)

pub returns : goal.returns
returns c =
    rules_out c.args.body c.args.heads _ _ _ c.pattern-bits.ensures c.mark_words.ensures
