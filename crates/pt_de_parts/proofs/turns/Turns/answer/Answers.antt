use Rattle.std.proofs.Common.{length, get_or, set, true, ap, ◌∙◌, length-set}
use Rattle.pt_de_laws.specs.State.{Answered, Over}
use Rattle.pt_de_parts.specs.Turns.{turns_in}
use Rattle.pt_de_parts.proofs.TurnLaws.{turn-there, answered-set}
use Rattle.pt_de_parts.proofs.turns.Turns.answer.Goals as goal

pub mark-requires : goal.mark-requires
mark-requires c = turn-there c.self.inside.answered c.self.inside.over c.args.self.now c.args.child c.self.invariant c.self.view_is c.requires.there

pub invariant_of-self : goal.invariant_of-self
invariant_of-self c = ap (λ v. length v) c.mark.ensures ∙ length-set c.self.inside.answered c.args.child true ∙ c.self.invariant

pub returns : goal.returns
returns c =
    ap (λ v. turns_in v c.self.inside.over) c.mark.ensures ∙ answered-set c.self.inside.answered c.self.inside.over c.args.child c.self.invariant (ap (λ ts. get_or ts c.args.child Over) c.self.view_is ∙ c.requires.waits) ∙ ap (λ ts. set ts c.args.child Answered) c.self.view_is
