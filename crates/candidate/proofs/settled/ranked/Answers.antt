-- `ranked` meets its contract: ranks of all names, and then the judgement. Assumes nothing.
use Rattle.candidate.proofs.Settling.{comparing_ranked}
use Rattle.candidate.proofs.settled.ranked.Goals as goal

pub rank_names-requires : goal.rank_names-requires
rank_names-requires c = (c.requires.0.stands.held.rules_held.name_table, c.requires.1)

pub judged-requires : goal.judged-requires
judged-requires c =
    record { output = c.args.output.now; names = c.args.names.now; settling = c.requires.0; comparing = comparing_ranked _ _ _ _ c.rank_names.ensures }

pub returns : goal.returns
returns c =
    λ P I s. c.judged.ensures _ _ P I s (comparing_ranked _ _ _ _ c.rank_names.ensures)
