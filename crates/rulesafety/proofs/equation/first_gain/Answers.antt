-- `equation::first_gain` meets its contract: the chain is over the numbers of the body's rows. Assumes nothing.
use mathlib.Core.Path.{refl, sym, ◌∙◌}
use Prim.Native.Nat.{◌+◌}
use native.Mathlib.Omega.{arith}
use borrow.Author.Rules.{rules}
use Rattle.std.proofs.Common.{tests}
use Rattle.std.proofs.lemmas.Iterator.{YieldsList-from_range}
use Rattle.std.proofs.lemmas.Iterator.Adapters.{option_map_id}
use Rattle.std.proofs.lemmas.Iterator.Search.{find_from_yields_List}
use Rattle.rulesafety.specs.Bound.{bits_of}
use Rattle.rulesafety.specs.Scanned.{gains}
use Rattle.rulesafety.proofs.Gaining.{gain_found, gain_inside}
use Rattle.rulesafety.proofs.equation.first_gain.Goals as goal

pub returns : goal.returns
returns c =
    let a = c.args in
    let found = find_from_yields_List (gains (bits_of a.bound) a.literals.now) _ _ c.find.result c.find.ensures.ran (YieldsList-from_range a.first (a.first + a.count) a.count refl (omega arith)) (λ x b q k. search (rules, tests)) in
    let is = sym (option_map_id c.find.result) ∙ found ∙ gain_found (gains (bits_of a.bound) a.literals.now) a.count a.first in
    record { is = is; inside = gain_inside (bits_of a.bound) a.literals.now a.count a.first _ is }
