use Rattle.std.proofs.Common.{set, ap, sym, ◌∙◌, length, length-set}
use Rattle.pt_de_parts.specs.Agenda.{Dates}
use Rattle.pt_de_parts.proofs.AgendaLaws.{there-seen}
use Rattle.pt_de_parts.proofs.agenda.Agenda.set_wake.Goals as goal

pub set-requires : goal.set-requires
set-requires c = there-seen c.self.inside.wakes c.self.inside.due c.self.inside.due c.args.self.now c.self.view_is c.args.child c.requires

pub invariant_of-self : goal.invariant_of-self
invariant_of-self c = c.self.invariant ∙ sym (ap (λ v. length v) c.set.ensures ∙ length-set c.self.inside.wakes c.args.child c.args.wake)

pub returns : goal.returns
returns c =
    ap (λ v. let d : Dates = record { wakes = v; set = c.self.inside.due } in d) c.set.ensures ∙ ap (λ (n : Dates). let d : Dates = record { wakes = set n.wakes c.args.child c.args.wake; set = n.set } in d) c.self.view_is
