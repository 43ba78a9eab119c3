use Rattle.std.proofs.Common.{◌<◌, length, get_or, ap, ◌∙◌, sym, subst, arith}
use Rattle.pt_meaning.specs.Streams.{at}
use Rattle.pt_value.specs.declared.token.Token.{Token}
use Rattle.pt_de_laws.specs.State.{DeState, Waits}
use Rattle.pt_de_due.specs.Due.{with_wake}
use Rattle.pt_de_reaction.proofs.ReactionLaws.{staged-over, told-whole, told-early-whole}
use Rattle.pt_de_reaction.proofs.reaction.Reaction.told.Goals as goal

pub returns-then-is_early-clause-told : goal.returns-then-is_early-clause-told
returns-then-is_early-clause-told c = told-early-whole c.args.child c.args.outputs c.args.wake c.args.self.now.state c.set_wake.new.self.state c.requires.running (sym c.is_early.ensures ∙ c.if-is_early.true) c.set_wake.ensures.state

pub set_wake-requires-2-clause-there : goal.set_wake-requires-2-clause-there
set_wake-requires-2-clause-there c = subst (λ (s : DeState Token). c.args.child < length s.plan.net.places) (sym c.stage_given.ensures.state) c.requires.there

pub set_wake-requires-2-clause-running : goal.set_wake-requires-2-clause-running
set_wake-requires-2-clause-running c = ap (λ (s : DeState Token). s.stage) c.stage_given.ensures.state ∙ c.requires.running

pub set_wake-requires-2-clause-over : goal.set_wake-requires-2-clause-over
set_wake-requires-2-clause-over c = ap (λ (s : DeState Token). get_or s.turns c.args.child Waits) c.stage_given.ensures.state ∙ c.requires.over

pub deliver-requires-clause-there : goal.deliver-requires-clause-there
deliver-requires-clause-there c =
    let e = ap (λ (s : DeState Token). length s.plan.net.places) (c.set_wake-2.ensures.state ∙ ap (λ (s : DeState Token). with_wake c.args.child c.args.wake s) c.stage_given.ensures.state) in
    omega (arith, c.requires.there, e)

pub deliver-requires-clause-running : goal.deliver-requires-clause-running
deliver-requires-clause-running c = ap (λ (s : DeState Token). s.stage) (c.set_wake-2.ensures.state ∙ ap (λ (s : DeState Token). with_wake c.args.child c.args.wake s) c.stage_given.ensures.state) ∙ c.requires.running

pub deliver-requires-clause-staged : goal.deliver-requires-clause-staged
deliver-requires-clause-staged c = (
  at c.args.outputs,
  staged-over (at c.args.outputs) c.args.child c.args.self.now.state c.stage_given.new.self.state c.set_wake-2.new.self.state c.stage_given.new.staged.items c.stage_given.new.self.spares c.set_wake-2.new.self.spares c.stage_given.ensures.state (ap (λ (s : DeState Token). s.plan) c.set_wake-2.ensures.state) c.set_wake-2.ensures.spares
      c.in_ok-stage_given.ensures.staged,
)

pub returns-clause-told : goal.returns-clause-told
returns-clause-told c =
    told-whole c.args.child c.args.outputs c.args.wake c.args.self.now.state c.set_wake-2.new.self.state c.deliver.new.self.state c.stage_given.ensures.shaped c.requires.there c.requires.running (sym c.is_early.ensures ∙ c.if-is_early.false)
    (c.set_wake-2.ensures.state ∙ ap (λ (s : DeState Token). with_wake c.args.child c.args.wake s) c.stage_given.ensures.state)
    (c.deliver.ensures (at c.args.outputs)
    (staged-over (at c.args.outputs) c.args.child c.args.self.now.state c.stage_given.new.self.state c.set_wake-2.new.self.state c.stage_given.new.staged.items c.stage_given.new.self.spares c.set_wake-2.new.self.spares c.stage_given.ensures.state (ap (λ (s : DeState Token). s.plan) c.set_wake-2.ensures.state)
    c.set_wake-2.ensures.spares c.in_ok-stage_given.ensures.staged))
