use Rattle.pt_sched.proofs.InTurn.{turn-schedule, turn-lengths}
use Rattle.pt_sched.proofs.forward.in_turn.Goals as goal

pub returns-clause-order : goal.returns-clause-order
returns-clause-order c = turn-schedule c.args.n c.args.edges.now c.args.q.now c.requires.channels c.requires.counted c.requires.forward _ c.in_ok-one_each.ensures

pub returns-clause-lengths : goal.returns-clause-lengths
returns-clause-lengths c = turn-lengths c.args.n c.args.edges.now c.args.q.now c.requires.channels c.requires.counted c.requires.forward _ _ c.in_ok-one_each.ensures c.in_ok-lengths_of.ensures
