use Rattle.std.proofs.Common.{length, ap, ◌∙◌, sym}
use Rattle.pt_de_parts.proofs.TurnLaws.{fresh-turns}
use Rattle.pt_de_parts.proofs.turns.Turns.new.Goals as goal

pub invariant_of-result : goal.invariant_of-result
invariant_of-result c = ap (λ v. length v) c.in_ok-answered.ensures ∙ sym (ap (λ v. length v) c.in_ok-over.ensures)

pub returns : goal.returns
returns c = fresh-turns c.args.count c.in_ok-answered.answered c.in_ok-over.over c.in_ok-answered.ensures c.in_ok-over.ensures
