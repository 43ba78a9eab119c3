use Rattle.std.proofs.Common.{false, arith}
use Rattle.pt_de_parts.proofs.AgendaLaws.{set-agenda, set-seen, there-seen}
use Rattle.pt_de_parts.proofs.agenda.Agenda.remove.Goals as goal

pub remove-requires : goal.remove-requires
remove-requires c = omega (arith, c.self.invariant, there-seen c.self.inside.wakes c.self.inside.due c.self.inside.due c.args.self.now c.self.view_is c.args.child c.requires)

pub invariant_of-self : goal.invariant_of-self
invariant_of-self c = set-agenda c.self.inside.wakes c.self.inside.due c.remove.new.self c.args.child false c.self.invariant c.remove.ensures

pub returns : goal.returns
returns c = set-seen c.self.inside.wakes c.self.inside.due c.remove.new.self c.args.self.now c.self.view_is c.args.child false c.remove.ensures
