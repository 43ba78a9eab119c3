use Rattle.std.proofs.Common.{◌≡◌, IfSome, subst, sym, ◌∙◌}
use Rattle.pt_sr.specs.Clauses.{State}
use Rattle.pt_meaning.specs.Valuation.{tokens_of}
use Rattle.pt_sr.specs.declared.sr.Stage as declared
use Rattle.pt_sr.specs.State.{asked_child, lent_of, inputs_of}
use Rattle.pt_sr.specs.Clauses.{stage_of, StageFits}
use Rattle.pt_sr.proofs.sr.Core.lent.Goals as goal

pub inputs-requires : goal.inputs-requires
inputs-requires c = subst (λ (g : declared.Stage). StageFits g c.self.inside.tick) c.in-Asked.is c.self.invariant

pub returns : goal.returns
returns c =
    subst (λ (s : State). IfSome (asked_child s.stage) (λ i. c.of.result ≡ lent_of s i)) c.self.view_is
    (subst (λ (g : declared.Stage). IfSome (asked_child (stage_of g)) (λ i. c.of.result ≡ tokens_of (inputs_of c.self.inside.tick i))) (sym c.in-Asked.is) (c.of.ensures ∙ c.inputs.ensures))
