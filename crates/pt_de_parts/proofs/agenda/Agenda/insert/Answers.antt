use Rattle.std.proofs.Common.{true, arith}
use Rattle.pt_de_parts.proofs.AgendaLaws.{set-agenda, set-seen, there-seen}
use Rattle.pt_de_parts.proofs.agenda.Agenda.insert.Goals as goal

pub insert-requires : goal.insert-requires
insert-requires c = omega (arith, c.self.invariant, there-seen c.self.inside.wakes c.self.inside.due c.self.inside.due c.args.self.now c.self.view_is c.args.child c.requires)

pub invariant_of-self : goal.invariant_of-self
invariant_of-self c = set-agenda c.self.inside.wakes c.self.inside.due c.insert.new.self c.args.child true c.self.invariant c.insert.ensures

pub returns : goal.returns
returns c = set-seen c.self.inside.wakes c.self.inside.due c.insert.new.self c.args.self.now c.self.view_is c.args.child true c.insert.ensures
