use Rattle.pt_sr.proofs.SignalLaws.{cleared, cleared-is}
use Rattle.pt_sr.proofs.signals.Signals.forget.Goals as goal

pub invariant_of-self : goal.invariant_of-self
invariant_of-self c = cleared c.self.inside.flags.items c.lower.new.flags.items c.self.inside.lists.items c.empty.new.lists.items c.self.invariant c.lower.ensures c.empty.ensures

pub returns : goal.returns
returns c = cleared-is c.self.inside.flags.items c.lower.new.flags.items c.self.inside.lists.items c.empty.new.lists.items c.self.invariant c.lower.ensures c.empty.ensures c.args.self.now c.self.view_is
