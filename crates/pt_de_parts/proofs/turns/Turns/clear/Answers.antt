use Rattle.std.proofs.Common.{length, replicate, false, ap, ◌∙◌, sym}
use Rattle.std.proofs.lemmas.List.{length-replicate}
use Rattle.pt_de_laws.specs.State.{Waits}
use Rattle.pt_de_parts.proofs.TurnLaws.{cleared-turns}
use Rattle.pt_de_parts.proofs.turns.Turns.clear.Goals as goal

pub invariant_of-self : goal.invariant_of-self
invariant_of-self c =
    ap (λ v. length v) c.clear.ensures ∙ length-replicate (length c.self.inside.answered) false ∙ c.self.invariant ∙ sym (ap (λ v. length v) c.clear-2.ensures ∙ length-replicate (length c.self.inside.over) false)

pub returns : goal.returns
returns c = cleared-turns c.self.inside.answered c.self.inside.over c.clear.new.self c.clear-2.new.self c.self.invariant c.clear.ensures c.clear-2.ensures ∙ ap (λ ts. replicate (length ts) Waits) c.self.view_is
