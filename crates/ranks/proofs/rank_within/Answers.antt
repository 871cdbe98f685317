-- `rank_within` meets its contract: sorting leaves each number once, and the places of all numbers in order are ranks. Assumes nothing.
use mathlib.Core.Path.{sym, ap, ◌∙◌}
use native.Mathlib.Omega.{arith}
use lib.ListN.{length}
use Rattle.names.specs.Table.{names_of, name_at, count}
use Rattle.names.proofs.Firsts.{length_first}
use Rattle.ranks.specs.Sorting.{times, numbers}
use Rattle.ranks.proofs.Sortedness.{all_numbers, all_apart, all_below, ranked}
use Rattle.ranks.proofs.rank_within.Goals as goal

pub place-requires : goal.place-requires
place-requires c =
    let n = length c.args.order.now in
    let order = c.sort.new.order in
    let same = all_numbers n _ order c.number.ensures c.sort.ensures.same in
    let kept = c.sort.auto in
    let numbered = c.number.auto.order in
    let p = c.requires in
    let room = p.0.room in
    (omega arith, all_apart n order same, λ k h. let below = all_below n order same k h in omega arith)

pub returns : goal.returns
returns c =
    let a = c.args in
    let p = c.requires in
    let long = length_first (name_at a.program.now a.output.now a.names.now) (count a.names.now) in
    let order = c.sort.new.order in
    let same = all_numbers (length a.order.now) _ order c.number.ensures c.sort.ensures.same in
    ranked (names_of a.program.now a.output.now a.names.now) p.0.distinct order c.place.new.ranks c.sort.ensures.sorted (λ x. same x ∙ ap (λ n. times x (numbers n)) (p.1 ∙ sym long)) c.place.ensures (c.place.auto.ranks ∙ c.sort.auto.scratch ∙ p.2 ∙ sym long)
