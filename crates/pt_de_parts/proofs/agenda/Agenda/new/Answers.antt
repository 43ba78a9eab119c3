use Rattle.std.proofs.Common.{length, sym, ap, ◌∙◌}
use Rattle.std.proofs.lemmas.List.{length-replicate}
use Rattle.pt_wakes.specs.Due.{DueSet}
use Rattle.pt_de_parts.proofs.agenda.Agenda.new.Goals as goal

pub invariant_of-result : goal.invariant_of-result
invariant_of-result c = ap (λ (s : DueSet). length s.due) c.in_ok-due.ensures ∙ length-replicate (length c.args.depths.now) _ ∙ c.requires ∙ sym (ap (λ v. length v) c.in_ok-wakes.ensures)
