-- `stays_in_range` meets its contract: a rule without an operation, and one whose operations are bounded. Assumes nothing.
use mathlib.Core.Bool.{false≢true}
use Rattle.meaning.specs.Safety.{equations}
use Rattle.meaning.specs.Matcher.{complete}
use Rattle.codes.specs.Domains.{codes, code_in_range}
use Rattle.tables.specs.Layout.{equations_column}
use Rattle.tables.specs.Rows.{rule_column, rule_at}
use Rattle.tables.proofs.Strides.{part_is}
use Rattle.overflow.proofs.Operations.{none_leaves}
use Rattle.magnitudes.proofs.Whole.{start_modest, rule_stays}
use Prim.Native.Nat.{◌+◌, ◌*◌}
use native.Mathlib.Omega.{arith}
use borrow.Author.Tests.{not-false}
use Rattle.magnitudes.proofs.stays_in_range.Goals as goal

pub returns-then-rules-r-eq0 : goal.returns-then-rules-r-eq0
returns-then-rules-r-eq0 c = let a = c.args in let rule = rule_at a.rules.now a.literals.now a.r in λ z names ρ w. none_leaves (codes names) code_in_range (complete (codes names) (equations rule) ρ) rule.body (c.requires.0.no_operation c.if-rules-r-eq0.true)

pub equations_stay-requires : goal.equations_stay-requires
equations_stay-requires c =
    let a = c.args in (rw (part_is (a.r * 40 + 7) (rule_column a.rules.now a.r equations_column) a.rules.now) c.requires.0.equation, omega arith, start_modest a.most c.requires.1)

pub returns-then-not-equations_stay : goal.returns-then-not-equations_stay
returns-then-not-equations_stay c = λ z. absurd (false≢true z)

pub literals_stay-requires : goal.literals_stay-requires
literals_stay-requires c =
    (c.requires.0.body, omega (arith, c.equations_stay.ensures.0), c.equations_stay.ensures.1)

pub returns : goal.returns
returns c =
    let a = c.args in λ z. rule_stays a.most a.rules.now a.literals.now a.r c.requires.0 c.equations_stay.new.bounds (c.equations_stay.ensures.2 (not-false _ c.if-not-equations_stay.false-raw)) (c.literals_stay.ensures z)
