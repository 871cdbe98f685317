-- `earlier` meets its contract. The invariant: no fact before j is alike, and j stands in the chain of the row or past the last fact. The
-- measure is how many facts before k are left. Assumes nothing.
use Rattle.clashes.proofs.Search.{passed_first, passed_more, none_earlier}
use Rattle.chains.specs.Links.{row_chain}
use Rattle.chains.proofs.Keys.{row_below}
use Rattle.tables.specs.Rows.{arity, fact_predicate}
use Rattle.tables.proofs.Strides.{part_is}
use native.Mathlib.Omega.{arith}
use Prim.Native.Nat.{ℕ, ◌+◌, ◌*◌, ◌<◌}
use mathlib.Core.Bool.{true≢false, false≢true}
use mathlib.Core.List.{List}
use mathlib.Core.Path.{ap, sym, ◌∙◌}
use Rattle.clashes.proofs.earlier.Goals as goal

pub first-j-requires : goal.first-j-requires
first-j-requires c = (rw c.row_chain-c.ensures (row_below _ _), c.requires.2.long)

pub loop-j-init : goal.loop-j-init
loop-j-init c = λ count table linked below.
    let a = c.args in
    let q = c.first-j.ensures a.facts.now count linked in
    (q.within, q.inside, λ names. passed_first names a.facts.now count a.opposed a.k _ table below (c.row_chain-c.ensures ∙ ap (λ (vs : List ℕ). row_chain (fact_predicate a.facts.now a.k) vs) (part_is (a.k * 9 + 1) (arity (fact_predicate a.facts.now a.k)) a.facts.now)) _ q)

pub alike-requires : goal.alike-requires
alike-requires c =
    (c.requires.0, c.requires.1, omega (arith, c.loop-j-test.true, c.requires.3), c.requires.3)

pub returns-then-alike : goal.returns-then-alike
returns-then-alike c = λ names. (λ e. (c.loop-j.j, c.loop-j-test.true, sym (c.alike.ensures names) ∙ c.if-alike.true), λ e. absurd (true≢false e))

pub next-j-requires : goal.next-j-requires
next-j-requires c =
    (rw c.row_chain-c.ensures (row_below _ _), omega (arith, c.requires.1.few, c.loop-j-test.true, c.requires.3), c.requires.2.long)

pub loop-j-smaller : goal.loop-j-smaller
loop-j-smaller c =
    let i = c.loop-j.invariant c.requires.0 c.requires.1 c.requires.2 c.requires.3 in
    let h : c.loop-j.j < c.requires.0 = omega (arith, c.loop-j-test.true, c.requires.3) in
    let q = c.next-j.ensures c.args.facts.now c.requires.0 c.requires.2 h (i.1 h) in
    omega (arith, q.rises, c.loop-j-test.true)

pub loop-j-preserved : goal.loop-j-preserved
loop-j-preserved c =
    λ count table linked below.
    let a = c.args in
    let i = c.loop-j.invariant count table linked below in
    let h : c.loop-j.j < count = omega (arith, c.loop-j-test.true, below) in
    let q = c.next-j.ensures a.facts.now count linked h (i.1 h) in
    (q.within, q.inside, λ names. passed_more names a.facts.now count a.opposed a.k _ table below (c.row_chain-c.ensures ∙ ap (λ (vs : List ℕ). row_chain (fact_predicate a.facts.now a.k) vs) (part_is (a.k * 9 + 1) (arity (fact_predicate a.facts.now a.k)) a.facts.now)) _ _ q (sym (c.alike.ensures names) ∙ c.if-alike.false) (i.2 names))

pub returns : goal.returns
returns c =
    λ names. (λ e. absurd (false≢true e), λ e. none_earlier names c.args.facts.now c.args.opposed c.args.k c.loop-j.j c.loop-j-test.false ((c.loop-j.invariant c.requires.0 c.requires.1 c.requires.2 c.requires.3).2 names))
