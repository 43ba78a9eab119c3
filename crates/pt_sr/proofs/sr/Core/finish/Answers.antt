use Rattle.std.proofs.Common.{ap, ◌∙◌, sym}
use Rattle.pt_value.specs.declared.token.Token.{Token}
use Rattle.pt_sr.specs.Clauses.{State}
use Rattle.pt_meaning.specs.Tag.{origin}
use Rattle.pt_sr.specs.State.{TickState, Idle, closed, own_of, restarted_tick}
use Rattle.pt_sr.proofs.sr.Core.finish.Goals as goal

pub invariant_of-self-2 : goal.invariant_of-self-2
invariant_of-self-2 c = c.in_ok-outputs.ensures.left ∙ sym (ap (λ (t : TickState Token). restarted_tick t) c.in_ok-outputs.ensures.left)

pub returns-clause-core : goal.returns-clause-core
returns-clause-core c = ap (λ (t : TickState Token). let s : State = record { tick = t; tag = origin; stage = Idle } in s) c.in_ok-outputs.ensures.left ∙ ap (λ (s : State). closed s) c.self.view_is

pub returns-clause-given : goal.returns-clause-given
returns-clause-given c = c.in_ok-outputs.ensures.given ∙ ap (λ (s : State). own_of s) c.self.view_is
