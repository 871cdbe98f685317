-- `with_names` meets its contract: the program's stage, and then the stages behind it. Assumes nothing.
use Rattle.checker.proofs.Filling.{cut_at, program_readable}
use Rattle.checker.proofs.Rules.{rules_ready, rules_answer, refusal_answer}
use borrow.Author.Rules.{rules}
use Rattle.checker.proofs.with_names.Goals as goal

pub fill_rules-requires : goal.fill_rules-requires
fill_rules-requires c = program_readable _ c.args.output.now _ _ c.requires _ (cut_at _ c.bytes_in-within.ensures c.span_from.ensures) (search rules)

pub returns-in-Err : goal.returns-in-Err
returns-in-Err c = refusal_answer _ _ _ _ _ _ _ _ c.in-Err.ensures _ _ _ c.of_fault.ensures

pub reported-requires : goal.reported-requires
reported-requires c =
    rules_ready _ _ _ _ _ _ _ c.requires (cut_at _ c.bytes_in-within.ensures c.span_from.ensures) _ c.in-Ok.ensures

pub returns-in-Ok : goal.returns-in-Ok
returns-in-Ok c =
    rules_answer _ _ _ _ _ _ _ c.requires (cut_at _ c.bytes_in-within.ensures c.span_from.ensures) _ c.in-Ok.ensures _ _ _ _ c.reported.ensures
