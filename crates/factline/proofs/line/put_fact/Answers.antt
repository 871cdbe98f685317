-- `put_fact` meets its contract, table by table. Assumes nothing.
use mathlib.Core.Path.{refl}
use borrow.Author.Rules.{rules}
use Rattle.factline.proofs.line.put_fact.Goals as goal

pub returns : goal.returns
returns c = record { row = c.fact_row-row.result; is_row = c.fact_row-row.ensures; nine = search rules; facts_so = c.put_row.ensures; starts_so = refl; lengths_so = refl }
