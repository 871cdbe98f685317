-- `judged` meets its contract: the judgement over the store, and the answer that it gives. Assumes nothing.
use Rattle.candidate.proofs.Settling.{tables, room_to_count, gives}
use Rattle.candidate.proofs.settled.judged.Goals as goal

pub judge-judgement-requires : goal.judge-judgement-requires
judge-judgement-requires c =
    let s = c.requires.settling in
    (tables _ _ _ _ _ _ s, s.room, s.several, s.tested)

pub verdict-requires : goal.verdict-requires
verdict-requires c =
    let p = c.requires in
    let s = p.settling in
    room_to_count _ p.output p.names _ _ _ _ _ _ s.program_rules s.candidate s.stands _ _ s.room c.judge-judgement.result (c.judge-judgement.ensures _ p.comparing)

pub returns : goal.returns
returns c =
    λ output names P I s k. gives _ output names _ _ _ _ _ _ P I s _ _ c.requires.settling.room c.judge-judgement.result (c.judge-judgement.ensures _ k) _ c.verdict.ensures
