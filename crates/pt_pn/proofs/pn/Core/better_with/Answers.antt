use Rattle.std.proofs.Common.{arith}
use Rattle.std.proofs.lemmas.List.{get_or_read}
use Rattle.pt_pn.proofs.BestLaws.{full-grown, stays-best, next-best}
use Rattle.pt_pn.proofs.StepLaws.{capacity-there, on-net, read-capacity, read-greatest}
use Rattle.pt_pn.proofs.pn.Core.better_with.Goals as goal

pub index-capacity-requires : goal.index-capacity-requires
index-capacity-requires c = let l = capacity-there c.self.inside c.self.invariant c.args.self.now c.self.view_is c.args.process c.args.channel c.requires.puts in omega (arith, l, c.self.inside.capacity.ok.0)

pub returns-then-capacity-greatest-clause-best : goal.returns-then-capacity-greatest-clause-best
returns-then-capacity-greatest-clause-best c =
    let l = capacity-there c.self.inside c.self.invariant c.args.self.now c.self.view_is c.args.process c.args.channel c.requires.puts in
    full-grown c.args.self.now c.args.process c.args.channel c.index-capacity.result.now c.greatest.result c.args.best c.requires.puts (read-capacity c.self.inside c.self.invariant c.args.self.now c.self.view_is c.args.channel c.index-capacity.result.now (get_or_read c.self.inside.capacity.items c.args.channel c.index-capacity.result.now l c.index-capacity.ensures 0))
    (read-greatest c.self.inside c.self.invariant c.args.self.now c.self.view_is c.args.channel c.greatest.result c.greatest.ensures) c.if-capacity-greatest.true c.requires.best

pub returns-then-stays_best-clause-best : goal.returns-then-stays_best-clause-best
returns-then-stays_best-clause-best c =
    let l = capacity-there c.self.inside c.self.invariant c.args.self.now c.self.view_is c.args.process c.args.channel c.requires.puts in
    stays-best c.args.self.now c.args.process c.args.channel c.index-capacity.result.now c.args.best c.requires.puts (read-capacity c.self.inside c.self.invariant c.args.self.now c.self.view_is c.args.channel c.index-capacity.result.now (get_or_read c.self.inside.capacity.items c.args.channel c.index-capacity.result.now l c.index-capacity.ensures 0))
    (c.stays_best.ensures.yes c.if-stays_best.true) (c.stays_best.ensures.stays c.if-stays_best.true) c.requires.best

pub returns-clause-best : goal.returns-clause-best
returns-clause-best c =
    let l = capacity-there c.self.inside c.self.invariant c.args.self.now c.self.view_is c.args.process c.args.channel c.requires.puts in
    next-best c.args.self.now c.args.process c.args.channel c.index-capacity.result.now c.greatest.result c.args.best c.requires.puts (read-capacity c.self.inside c.self.invariant c.args.self.now c.self.view_is c.args.channel c.index-capacity.result.now (get_or_read c.self.inside.capacity.items c.args.channel c.index-capacity.result.now l c.index-capacity.ensures 0))
    (read-greatest c.self.inside c.self.invariant c.args.self.now c.self.view_is c.args.channel c.greatest.result c.greatest.ensures) c.if-capacity-greatest.false (c.stays_best.ensures.no c.if-stays_best.false) c.requires.best

pub returns-clause-within : goal.returns-clause-within
returns-clause-within c = on-net c.self.inside c.self.invariant c.args.self.now c.self.view_is c.args.process c.args.channel c.requires.puts
