-- `put::put_rule` meets its contract. Assumes nothing.
use Rattle.program.proofs.Puts.{few_numbered, put_goes}
use borrow.Author.Rules.{rules}
use Rattle.program.proofs.put.put_rule.Goals as goal

pub first_unbound-unbound-requires : goal.first_unbound-unbound-requires
first_unbound-unbound-requires c =
    let a = c.args in
    few_numbered a.program.now a.output.now a.names.now a.variables.now a.rules.now a.literals.now a.start c.requires c.in-Some.rule c.rule_at.new.names c.rule_at.new.variables c.rule_at.new.literals (rw c.in-Some.is at c.in_ok-rule.ensures) (search rules)

pub returns : goal.returns
returns c =
    let a = c.args in
    put_goes a.program.now a.output.now a.names.now a.variables.now a.rules.now a.literals.now a.start c.requires c.in-Some.rule c.rule_at.new.names c.rule_at.new.variables c.rule_at.new.literals (rw c.in-Some.is at c.in_ok-rule.ensures) _ _ c.put_rule_row-bound.ensures _ c.first_unbound-unbound.ensures
