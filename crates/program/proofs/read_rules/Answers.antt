-- `read_rules` meets its contract. The invariant: so many rules have been read as far as here and stand in the tables, and what is
-- remembered is the first case of refusal 5 among their tokens. The measure is how many more rules there may be. Assumes nothing.
use native.Mathlib.Omega.{arith}
use Rattle.program.proofs.Loop.{going_start, going_puttable, stops_there, at_end, goes_on}
use Rattle.std.proofs.lemmas.Result.{err_from_is_err_and}
use borrow.Author.Rules.{rules}
use Rattle.program.proofs.read_rules.Goals as goal

pub loop-rule-init : goal.loop-rule-init
loop-rule-init c = going_start c.args.program.now c.args.output.now _ _ _ c.requires.0 c.requires.1 _ (search rules)

pub slice_bounds-put_rule-end : goal.slice_bounds-put_rule-end
slice_bounds-put_rule-end c = search (rules, c.loop-rule.invariant.variables_long)

pub put_rule-requires : goal.put_rule-requires
put_rule-requires c =
    going_puttable c.args.program.now c.args.output.now _ _ _ c.requires.0 c.requires.1 _ _ _ _ _ _ _ c.loop-rule.invariant _ (omega arith)

pub returns-in_err-rule : goal.returns-in_err-rule
returns-in_err-rule c =
    let p = err_from_is_err_and c.from_residual.result c.from_residual.ensures.1 in
    rw (p.1, p.2) (stops_there c.args.program.now c.args.output.now _ _ _ c.requires.0 c.requires.1 _ _ _ _ _ _ _ c.loop-rule.invariant _ _ c.in_err-rule.ensures)

pub returns-in_default : goal.returns-in_default
returns-in_default c =
    rw c.finished.ensures (at_end c.args.program.now c.args.output.now _ _ _ c.requires.0 c.requires.1 _ _ _ _ _ _ _ c.loop-rule.invariant _ _ _ _ (rw c.in_default.is at c.in_ok-rule.ensures))

pub loop-rule-preserved : goal.loop-rule-preserved
loop-rule-preserved c =
    goes_on c.args.program.now c.args.output.now _ _ _ c.requires.0 c.requires.1 _ _ _ _ _ _ _ c.loop-rule.invariant _ _ _ _ (rw c.in-Some.is at c.in_ok-rule.ensures) (search (rules, c.loop-rule.invariant.names_long)) _ (search (rules, c.loop-rule.invariant.variables_long)) _ c.or-unbound.ensures
