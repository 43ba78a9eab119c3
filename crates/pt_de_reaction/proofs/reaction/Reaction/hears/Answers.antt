use Rattle.std.proofs.Common.{◌<◌, length, get_or, ap, ◌∙◌, sym, subst, arith}
use Rattle.pt_reaction.specs.Given.{known_on}
use Rattle.pt_value.specs.declared.token.Token.{Token}
use Rattle.pt_de_laws.specs.State.{DeState, Answered, Over}
use Rattle.pt_de_due.specs.Due.{with_turn}
use Rattle.pt_de_reaction.proofs.ReactionLaws.{staged-over, heard-whole}
use Rattle.pt_de_reaction.proofs.reaction.Reaction.hears.Goals as goal

pub note_answer-requires-clause-there : goal.note_answer-requires-clause-there
note_answer-requires-clause-there c = subst (λ (s : DeState Token). c.args.child < length s.plan.net.places) (sym c.stage_early.ensures.state) c.requires.there

pub note_answer-requires-clause-running : goal.note_answer-requires-clause-running
note_answer-requires-clause-running c = ap (λ (s : DeState Token). s.stage) c.stage_early.ensures.state ∙ c.requires.running

pub note_answer-requires-clause-waits : goal.note_answer-requires-clause-waits
note_answer-requires-clause-waits c = ap (λ (s : DeState Token). get_or s.turns c.args.child Over) c.stage_early.ensures.state ∙ c.requires.waits

pub deliver-requires-clause-there : goal.deliver-requires-clause-there
deliver-requires-clause-there c =
    let e = ap (λ (s : DeState Token). length s.plan.net.places) (c.note_answer.ensures.state ∙ ap (λ (s : DeState Token). with_turn c.args.child Answered s) c.stage_early.ensures.state) in
    omega (arith, c.requires.there, e)

pub deliver-requires-clause-running : goal.deliver-requires-clause-running
deliver-requires-clause-running c = ap (λ (s : DeState Token). s.stage) (c.note_answer.ensures.state ∙ ap (λ (s : DeState Token). with_turn c.args.child Answered s) c.stage_early.ensures.state) ∙ c.requires.running

pub deliver-requires-clause-staged : goal.deliver-requires-clause-staged
deliver-requires-clause-staged c = (
  known_on c.args.early.now,
  staged-over (known_on c.args.early.now) c.args.child c.args.self.now.state c.stage_early.new.self.state c.note_answer.new.self.state c.stage_early.new.staged.items c.stage_early.new.self.spares c.note_answer.new.self.spares c.stage_early.ensures.state (ap (λ (s : DeState Token). s.plan) c.note_answer.ensures.state) c.note_answer.ensures.spares
      c.in_ok-stage_early.ensures.staged,
)

pub returns-clause-heard : goal.returns-clause-heard
returns-clause-heard c =
    heard-whole c.args.child c.args.early.now c.args.self.now.state c.note_answer.new.self.state c.deliver.new.self.state c.stage_early.ensures.shaped c.requires.there c.requires.running
    (c.note_answer.ensures.state ∙ ap (λ (s : DeState Token). with_turn c.args.child Answered s) c.stage_early.ensures.state)
    (c.deliver.ensures (known_on c.args.early.now)
    (staged-over (known_on c.args.early.now) c.args.child c.args.self.now.state c.stage_early.new.self.state c.note_answer.new.self.state c.stage_early.new.staged.items c.stage_early.new.self.spares c.note_answer.new.self.spares c.stage_early.ensures.state (ap (λ (s : DeState Token). s.plan) c.note_answer.ensures.state)
    c.note_answer.ensures.spares c.in_ok-stage_early.ensures.staged))
