use Rattle.std.proofs.Common.{ap, ◌∙◌, sym}
use Rattle.pt_value.specs.declared.token.Token.{Token}
use Rattle.pt_sr.specs.Clauses.{State}
use Rattle.pt_meaning.specs.Tag.{origin}
use Rattle.pt_sr.specs.State.{TickState, Idle, restarted, restarted_tick}
use Rattle.pt_sr.proofs.sr.Core.reset.Goals as goal

pub invariant_of-self : goal.invariant_of-self
invariant_of-self c = c.forget.ensures ∙ sym (ap (λ (t : TickState Token). restarted_tick t) c.forget.ensures)

pub returns : goal.returns
returns c = ap (λ (t : TickState Token). let s : State = record { tick = t; tag = origin; stage = Idle } in s) c.forget.ensures ∙ ap (λ (s : State). restarted s) c.self.view_is
