use Rattle.pt_pn.proofs.NotedLaws.{all-stop}
use Rattle.pt_pn.proofs.pn.Core.next_of_all.Goals as goal

pub stopped-requires-clause-stopped : goal.stopped-requires-clause-stopped
stopped-requires-clause-stopped c = all-stop c.self.inside c.self.invariant c.args.self.now c.self.view_is (c.are_settled.ensures c.if-are_settled.true)
