use Rattle.std.proofs.Common.{refl}
use Rattle.pt_pn.proofs.MoveLaws.{stays-open, not-moved, join, comes-after, goes-after}
use Rattle.pt_pn.proofs.pn.Core.next_on.Goals as goal

pub loop-init : goal.loop-init
loop-init c = not-moved c.args.self.now c.args.self.now refl

pub go_on_next-requires : goal.go_on_next-requires
go_on_next-requires c = stays-open c.args.self.now c.loop.self c.loop.invariant c.requires

pub returns-in-Some : goal.returns-in-Some
returns-in-Some c = goes-after c.args.self.now c.loop.self c.go_on_next.new.self c.in-Some.ask c.loop.invariant c.in-Some.ensures

pub loop-preserved : goal.loop-preserved
loop-preserved c = join c.args.self.now c.loop.self c.go_on_next.new.self c.loop.invariant c.in-None.ensures

pub next-requires : goal.next-requires
next-requires c = stays-open c.args.self.now c.loop.self c.loop.invariant c.requires

pub returns : goal.returns
returns c = comes-after c.args.self.now c.loop.self c.next.new.self c.next.result c.loop.invariant c.next.ensures
