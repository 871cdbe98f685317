-- `cut` meets its contract: by whether the fact is in the body and among the heads. Assumes nothing.
use borrow.Author.Rules.{rules}
use Rattle.derived_set.specs.Members.{bit}
use Rattle.subsets.proofs.Patterns.{cut_all, cut_having, cut_lacking, cut_none}
use Rattle.subsets.proofs.cut.Goals as goal

pub returns-then-in_heads : goal.returns-then-in_heads
unfolding bit
returns-then-in_heads c = let a = c.args in cut_all a.left a.having a.fact a.body a.heads c.requires.1 c.requires.2 c.if-in_body.true-raw c.if-in_heads.true-raw

pub returns-then-in_body : goal.returns-then-in_body
unfolding bit
returns-then-in_body c = let a = c.args in cut_having a.left a.having a.fact a.body a.heads c.requires.1 c.requires.2 c.if-in_body.true-raw c.if-in_heads.false-raw

pub returns-then-in_heads-2 : goal.returns-then-in_heads-2
unfolding bit
returns-then-in_heads-2 c = let a = c.args in cut_lacking a.left a.having a.fact a.body a.heads c.requires.1 c.requires.2 (search rules) c.if-in_body.false-raw c.if-in_heads-2.true-raw

pub returns : goal.returns
unfolding bit
returns c = let a = c.args in cut_none a.left a.having a.fact a.body a.heads c.requires.1 c.requires.2 c.if-in_body.false-raw c.if-in_heads-2.false-raw
