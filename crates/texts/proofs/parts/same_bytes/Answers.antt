-- `parts::same_bytes` meets its contract. The invariant: the bytes seen, from the last one back, are the same. Assumes nothing.
use Prim.Native.Nat.{◌+◌, ◌-◌}
use native.Mathlib.Omega.{arith}
use mathlib.Core.Path.{◌≡◌, sym, ap, ◌∙◌}
use lib.ListN.{length, get_or}
use Rattle.texts.proofs.PartBytes.{told_apart, same_behind, same_on}
use Rattle.texts.proofs.parts.same_bytes.Goals as goal

pub returns-then-a-b : goal.returns-then-a-b
returns-then-a-b c = sym (told_apart _ _ (λ e. let l = ap length e in omega (arith, c.if-a-b.true)))

pub loop-seen-init : goal.loop-seen-init
loop-seen-init c =
    let args = c.args in
    same_behind args.a.now args.b.now (length args.a.now - 0) (omega arith) (omega arith)

pub returns-then-a-i : goal.returns-then-a-i
returns-then-a-i c =
    sym (told_apart _ _ (λ e. c.if-a-i.true (ap (λ bytes. get_or bytes (length c.args.a.now - 1 - c.loop-seen.seen) 0) e)))

pub loop-seen-preserved : goal.loop-seen-preserved
loop-seen-preserved c =
    let len = length c.args.a.now in
    let seen = c.loop-seen.seen in
    let here : len - (seen + 1) ≡ len - 1 - seen = omega arith in
    let next : len - 1 - seen + 1 ≡ len - seen = omega arith in
    rw here (same_on c.args.a.now c.args.b.now (len - 1 - seen) (omega arith) (omega arith) c.if-a-i.false ∙ rw next c.loop-seen.invariant)

pub returns : goal.returns
returns c =
    let none_left : length c.args.a.now - c.loop-seen.seen ≡ 0 = omega arith in
    sym (rw none_left at c.loop-seen.invariant)
