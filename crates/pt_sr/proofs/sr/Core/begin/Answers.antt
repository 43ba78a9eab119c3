use Rattle.std.proofs.Common.{ap, ◌∙◌}
use Rattle.pt_value.specs.declared.token.Token.{Token}
use Rattle.pt_sr.specs.Clauses.{State}
use Rattle.pt_sr.specs.State.{TickState, Open, begun}
use Rattle.pt_sr.proofs.CoreLaws.{idle-fresh}
use Rattle.pt_sr.proofs.sr.Core.begin.Goals as goal

pub begin-requires : goal.begin-requires
begin-requires c = idle-fresh c.self.inside.stage c.self.inside.tick c.self.invariant (ap (λ (s : State). s.stage) c.self.view_is ∙ c.requires.idle)

pub returns-clause-begun : goal.returns-clause-begun
returns-clause-begun c =
    ap (λ (t : TickState Token). let s : State = record { tick = t; tag = c.args.tag; stage = Open } in s) c.in_ok-begin.ensures.begun ∙ ap (λ (s : State). begun c.args.tag c.args.inputs.now s) c.self.view_is
