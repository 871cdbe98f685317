-- `compare_numbers` meets its contract: each return knows its comparison. Assumes nothing.
use mathlib.Core.Path.{◌≡◌, refl}
use native.Mathlib.Omega.{arith}
use borrow.Author.Tests.{ne_eqb}
use Rattle.meaning.specs.Values.{compare_by}
use Rattle.codes.specs.Arithmetic.{comparison_at}
use Rattle.codes.proofs.Numbers.{not_after}
use Rattle.codes.proofs.compare_numbers.Goals as goal

pub returns-then-comparison-eq-EQUAL : goal.returns-then-comparison-eq-EQUAL
unfolding compare_by comparison_at
returns-then-comparison-eq-EQUAL c = rw c.if-comparison-eq-EQUAL.true refl

pub returns-then-comparison-lt-LESS : goal.returns-then-comparison-lt-LESS
unfolding compare_by comparison_at
returns-then-comparison-lt-LESS c =
    let is : c.args.comparison ≡ 1 = omega (arith, c.if-comparison-lt-LESS.true, c.if-comparison-eq-EQUAL.false) in
    rw is refl

pub returns-then-comparison-eq-LESS : goal.returns-then-comparison-eq-LESS
unfolding compare_by comparison_at
returns-then-comparison-eq-LESS c = rw c.if-comparison-eq-LESS.true refl

pub returns-then-comparison-lt-GREATER : goal.returns-then-comparison-lt-GREATER
unfolding compare_by comparison_at
returns-then-comparison-lt-GREATER c =
    let is : c.args.comparison ≡ 3 = omega (arith, c.if-comparison-lt-LESS.false, c.if-comparison-lt-GREATER.true, c.if-comparison-eq-LESS.false) in
    rw is (not_after c.args.first c.args.second)

pub returns-then-comparison-eq-GREATER : goal.returns-then-comparison-eq-GREATER
unfolding compare_by comparison_at
returns-then-comparison-eq-GREATER c = rw c.if-comparison-eq-GREATER.true refl

pub returns : goal.returns
unfolding compare_by comparison_at
returns c =
    let n = c.args.comparison in
    let most = c.if-comparison-lt-GREATER.false in
    rw (ne_eqb n 0 (λ e. omega arith), ne_eqb n 1 (λ e. omega arith), ne_eqb n 2 (λ e. omega arith), ne_eqb n 3 (λ e. omega arith), ne_eqb n 4 c.if-comparison-eq-GREATER.false) (not_after c.args.second c.args.first)
