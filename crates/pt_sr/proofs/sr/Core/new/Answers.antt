use Rattle.std.proofs.Common.{ap, ◌∙◌, sym}
use Rattle.pt_value.specs.declared.token.Token.{Token}
use Rattle.pt_meaning.specs.Tag.{origin}
use Rattle.pt_sr.specs.State.{TickState, Idle, restarted_tick}
use Rattle.pt_sr.specs.Clauses.{State}
use Rattle.pt_sr.proofs.sr.Core.new.Goals as goal

pub invariant_of-result : goal.invariant_of-result
invariant_of-result c = c.in_ok-tick.ensures ∙ sym (ap (λ (t : TickState Token). restarted_tick t) c.in_ok-tick.ensures)

pub returns : goal.returns
returns c = ap (λ (t : TickState Token). let s : State = record { tick = t; tag = origin; stage = Idle } in s) c.in_ok-tick.ensures
