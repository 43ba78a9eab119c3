use Rattle.std.proofs.Common.{ap, ◌∙◌, sym, subst}
use Rattle.pt_value.specs.declared.token.Token.{Token}
use Rattle.pt_sr.specs.State.{TickState}
use Rattle.pt_sr.specs.Clauses.{State, StageFits, stage_of}
use Rattle.pt_sr.proofs.sr.Core.copy.Goals as goal

pub invariant_of-result : goal.invariant_of-result
invariant_of-result c = subst (λ (t : TickState Token). StageFits c.self.inside.stage t) (sym c.in_ok-tick.ensures) c.self.invariant

pub returns : goal.returns
returns c = ap (λ (t : TickState Token). let s : State = record { tick = t; tag = c.self.inside.tag; stage = stage_of c.self.inside.stage } in s) c.in_ok-tick.ensures ∙ c.self.view_is
