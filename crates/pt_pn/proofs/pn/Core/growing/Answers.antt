use Rattle.std.proofs.Common.{◌<◌, length, arith}
use Rattle.pt_pn.proofs.StepLaws.{list-in-net, read-first, none-next}
use Rattle.pt_pn.proofs.GrowingLaws.{none-grows, nobody-grows}
use Rattle.pt_pn.proofs.pn.Core.growing.Goals as goal

pub returns-then-process-len-clause-none : goal.returns-then-process-len-clause-none
returns-then-process-len-clause-none c = nobody-grows c.self.inside c.self.invariant c.args.self.now c.self.view_is c.args.process c.args.channel (omega (arith, c.if-process-len.true, c.len.ensures, c.self.inside.processes.ok.0))

pub growing_at-requires : goal.growing_at-requires
growing_at-requires c =
    let l : c.args.process < length c.self.inside.processes.items = omega (arith, c.if-process-len.false, c.len.ensures, c.self.inside.processes.ok.0) in
    read-first c.self.inside c.self.invariant c.args.self.now c.self.view_is c.args.process c.in-Some.next c.index.result.now (list-in-net c.self.inside c.self.invariant c.args.self.now c.self.view_is c.args.process l) c.index.ensures c.in-Some.ensures

pub returns-in-None-clause-none : goal.returns-in-None-clause-none
returns-in-None-clause-none c =
    let l : c.args.process < length c.self.inside.processes.items = omega (arith, c.if-process-len.false, c.len.ensures, c.self.inside.processes.ok.0) in
    none-grows c.args.self.now c.args.process c.args.channel (none-next c.self.inside c.self.invariant c.args.self.now c.self.view_is c.args.process c.index.result.now (list-in-net c.self.inside c.self.invariant c.args.self.now c.self.view_is c.args.process l) c.index.ensures c.in-None.ensures)
