use Rattle.std.proofs.Common.{length, set, true, ap, ◌∙◌, sym, length-set, arith}
use Rattle.pt_de_laws.specs.State.{Over}
use Rattle.pt_de_parts.specs.Turns.{turns_in}
use Rattle.pt_de_parts.proofs.TurnLaws.{turn-there, over-set}
use Rattle.pt_de_parts.proofs.turns.Turns.end.Goals as goal

pub mark-requires : goal.mark-requires
mark-requires c = omega (arith, c.self.invariant, turn-there c.self.inside.answered c.self.inside.over c.args.self.now c.args.child c.self.invariant c.self.view_is c.requires)

pub invariant_of-self : goal.invariant_of-self
invariant_of-self c = c.self.invariant ∙ sym (ap (λ v. length v) c.mark.ensures ∙ length-set c.self.inside.over c.args.child true)

pub returns : goal.returns
returns c = ap (λ v. turns_in c.self.inside.answered v) c.mark.ensures ∙ over-set c.self.inside.answered c.self.inside.over c.args.child c.self.invariant ∙ ap (λ ts. set ts c.args.child Over) c.self.view_is
