-- `variable::variable_number` meets its contract. The invariant: the variable is none of those passed, so its number is what has been
-- passed and its number among the others. Assumes nothing.
use native.Mathlib.Omega.{arith}
use mathlib.Core.Path.{refl, ap}
use mathlib.Core.List.{map}
use Rattle.texts.specs.Parts.{part}
use Rattle.texts.specs.Places.{places_in}
use Rattle.syntax.specs.Variables.{first_among}
use Rattle.syntax.proofs.Variables.{among_here, among_on, among_end}
use Rattle.syntax.proofs.variable.variable_number.Goals as goal

pub returns-then-same_bytes : goal.returns-then-same_bytes
returns-then-same_bytes c =
    let h = among_here c.args.text.now c.part-name.result.now c.args.variables.now c.args.met c.loop-i.i (omega arith) _ _ refl _ c.place_in.ensures c.part.ensures _ c.same_bytes.ensures c.if-same_bytes.true in
    let e = ap (λ b. first_among b (map (part c.args.text.now) (places_in c.args.variables.now c.args.met))) c.part-name.ensures in
    omega (arith, c.loop-i.invariant)

pub loop-i-preserved : goal.loop-i-preserved
loop-i-preserved c =
    let h = among_on c.args.text.now c.part-name.result.now c.args.variables.now c.args.met c.loop-i.i (omega arith) _ _ refl _ c.place_in.ensures c.part.ensures _ c.same_bytes.ensures c.if-same_bytes.false in
    omega (arith, c.loop-i.invariant)

pub returns : goal.returns
returns c =
    let h = among_end c.args.text.now c.part-name.result.now c.args.variables.now c.args.met c.loop-i.i (omega arith) in
    let e = ap (λ b. first_among b (map (part c.args.text.now) (places_in c.args.variables.now c.args.met))) c.part-name.ensures in
    omega (arith, c.loop-i.invariant, c.loop-i.auto.i-end)
