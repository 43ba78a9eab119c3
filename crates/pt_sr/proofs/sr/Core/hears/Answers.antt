use Rattle.std.proofs.Common.{ap, ◌∙◌}
use Rattle.pt_value.specs.declared.token.Token.{Token}
use Rattle.pt_sr.specs.State.{TickState, Open, listened_child, after_heard}
use Rattle.pt_sr.specs.Clauses.{State}
use Rattle.pt_sr.proofs.CoreLaws.{listened-there}
use Rattle.pt_sr.proofs.sr.Core.hears.Goals as goal

pub hears-requires : goal.hears-requires
hears-requires c = listened-there c.self.inside.stage c.self.inside.tick c.args.child c.self.invariant (ap (λ (s : State). listened_child s.stage) c.self.view_is ∙ c.requires.asked)

pub returns-clause-heard : goal.returns-clause-heard
returns-clause-heard c =
    ap (λ (t : TickState Token). let s : State = record { tick = t; tag = c.self.inside.tag; stage = Open } in s) c.in_ok-hears.ensures.heard ∙ ap (λ (s : State). after_heard c.args.child c.args.early.now s) c.self.view_is
