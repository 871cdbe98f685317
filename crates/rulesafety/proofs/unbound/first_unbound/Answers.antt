-- `unbound::first_unbound` meets its contract: the chain is over what is known of the first `count` variables. Assumes nothing.
use mathlib.Core.Path.{◌≡◌}
use mathlib.Core.Bool.{not}
use Prim.Native.Nat.{◌≤◌}
use lib.ListN.{length, take}
use borrow.Author.Rules.{rules}
use Rattle.std.proofs.Common.{tests}
use Rattle.std.specs.Prelude.{position}
use Rattle.std.proofs.lemmas.Iterator.{YieldsList-from_slice}
use Rattle.std.proofs.lemmas.Iterator.Search.{position_from_yields_List}
use Rattle.rulesafety.proofs.FirstUnbound.{unbound_here, none_unbound}
use Rattle.rulesafety.proofs.unbound.first_unbound.Goals as goal

pub returns-in_err-number : goal.returns-in_err-number
returns-in_err-number c =
    let a = c.args in
    let is : c.position.result ≡ position not (take a.count a.bound.bits) = position_from_yields_List not _ _ c.position.result c.position.ensures.ran (YieldsList-from_slice (take a.count a.bound.bits) c.iter.ensures.rest) (λ x b q k. search (rules, tests)) in
    let few : a.count ≤ length a.bound.bits = search rules in
    rw c.from_residual.ensures (none_unbound a.bound a.variables.now a.count few (rw is at c.in_err-number.was))

pub returns : goal.returns
returns c =
    let a = c.args in
    let is : c.position.result ≡ position not (take a.count a.bound.bits) = position_from_yields_List not _ _ c.position.result c.position.ensures.ran (YieldsList-from_slice (take a.count a.bound.bits) c.iter.ensures.rest) (λ x b q k. search (rules, tests)) in
    let few : a.count ≤ length a.bound.bits = search rules in
    unbound_here a.bound a.variables.now a.count few c.in_ok-number.number (rw is at c.in_ok-number.was) _ c.place_in.ensures
