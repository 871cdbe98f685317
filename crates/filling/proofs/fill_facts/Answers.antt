-- `fill_facts` meets its contract: facts, then chains, each in its part. Assumes nothing.
use native.Mathlib.Omega.{arith}
use Rattle.filling.proofs.Filled.{facts_filled}
use Rattle.filling.proofs.fill_facts.Goals as goal

pub put_row-requires : goal.put_row-requires
put_row-requires c = omega (arith, c.requires.long, c.requires.wide)

pub first_clash-requires : goal.first_clash-requires
first_clash-requires c =
    (c.requires.table, rw c.links.ensures c.link_facts.ensures.0)

pub returns : goal.returns
returns c =
    facts_filled _ _ _ c.requires.long c.requires.wide _ c.put_row.ensures _ c.link_facts.ensures.0 c.link_facts.ensures.1 _ c.first_clash.ensures
