use Rattle.std.proofs.Common.{sym}
use Rattle.pt_de_parts.proofs.AgendaLaws.{woken-agenda, woken-seen}
use Rattle.pt_de_parts.proofs.agenda.Agenda.wake.Goals as goal

pub wake_due-requires : goal.wake_due-requires
wake_due-requires c = sym c.self.invariant

pub invariant_of-self : goal.invariant_of-self
invariant_of-self c = woken-agenda c.args.tag c.self.inside.wakes c.self.inside.due c.wake_due.new.children c.self.invariant c.wake_due.ensures

pub returns : goal.returns
returns c = woken-seen c.self.inside.wakes c.self.inside.due c.wake_due.new.children c.args.self.now c.self.view_is c.args.tag c.wake_due.ensures
