-- `link_facts` meets its contract: the part of the chains is written, and nothing else. Assumes nothing.
use native.Mathlib.Omega.{arith}
use Rattle.filling.proofs.Filled.{put_kept, put_there}
use Rattle.filling.proofs.link_facts.Goals as goal

pub returns : goal.returns
returns c =
    let store = c.args.store.now in
    let part = c.build.new.links in
    let fits = c.build.ensures.long in
    (rw (put_there 75_776 106_496 store part (omega arith) (omega (arith, c.requires.long)) fits) c.build.ensures, put_kept 75_776 106_496 store part (omega arith) (omega (arith, c.requires.long)) fits)
