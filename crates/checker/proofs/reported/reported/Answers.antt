-- `reported` meets its contract: its ways are those of the stages, one after the other. Assumes nothing.
use Rattle.checker.proofs.Facts.{tables_lent, puttable, candidate_ready, candidate_answer}
use Rattle.checker.proofs.Ways.{by_output, by_code, by_none, by_unknown}
use borrow.Author.Rules.{rules}
use Rattle.checker.proofs.reported.reported.Goals as goal

pub read_output-requires : goal.read_output-requires
read_output-requires c = tables_lent _ _ _ _ _ c.requires (search rules) (search rules) (search rules) (search rules)

pub returns-in-Err : goal.returns-in-Err
returns-in-Err c =
    λ d held. by_output _ _ _ _ d _ c.in-Err.ensures.given _ (search rules)

pub returns-then-not-agrees : goal.returns-then-not-agrees
returns-then-not-agrees c =
    λ d held. by_code _ _ _ _ d _ c.in-Ok.ensures.given _ c.agrees.ensures c.if-not-agrees.true-raw _ (search rules)

pub put_facts-fault-requires : goal.put_facts-fault-requires
put_facts-fault-requires c = puttable _ _ _ _ _ c.in-Ok.ensures c.in-Answer.is _ c.requires.long (search rules) (search rules) (search rules)

pub with_facts-requires : goal.with_facts-requires
with_facts-requires c =
    candidate_ready _ _ _ _ _ c.in-Ok.ensures c.in-Answer.is _ _ _ c.put_facts-fault.ensures _ c.requires

pub shape_of-names-in-Answer : goal.shape_of-names-in-Answer
shape_of-names-in-Answer c = search (rules, c.names-1.given)

pub returns-in-Answer : goal.returns-in-Answer
returns-in-Answer c =
    λ d held. candidate_answer _ _ _ _ _ c.in-Ok.ensures c.in-Answer.is _ _ _ c.put_facts-fault.ensures _ _ _ d held _ c.agrees.ensures c.if-not-agrees.false-raw _ _ c.with_facts.ensures

pub returns-in-Inconsistent : goal.returns-in-Inconsistent
returns-in-Inconsistent c =
    λ d held. by_none _ _ _ _ d _ c.in-Ok.ensures.given _ c.agrees.ensures c.if-not-agrees.false-raw c.in-Inconsistent.is

pub returns-in-Unknown : goal.returns-in-Unknown
returns-in-Unknown c =
    λ d held. by_unknown _ _ _ _ d _ c.in-Ok.ensures.given _ c.agrees.ensures c.if-not-agrees.false-raw c.in-Unknown.is
