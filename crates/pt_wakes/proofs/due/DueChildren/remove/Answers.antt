use Rattle.std.proofs.Common.{false, ap}
use Rattle.pt_wakes.specs.Due.{with_due}
use Rattle.pt_wakes.proofs.KeyLaws.{kept, there}
use Rattle.pt_wakes.proofs.due.DueChildren.remove.Goals as goal

pub take-requires : goal.take-requires
take-requires c = there c.self.inside.depths.items c.self.inside.due.items c.self.inside.queue c.self.invariant c.args.self.now c.self.view_is c.args.child c.requires

pub invariant_of-self : goal.invariant_of-self
invariant_of-self c = kept c.self.inside.depths.items c.self.inside.due.items c.self.inside.queue c.self.invariant c.args.child false c.take.new.self c.take.ensures

pub returns-then-index : goal.returns-then-index
returns-then-index c = ap (λ s. with_due s c.args.child false) c.self.view_is
