use Rattle.std.proofs.Common.{length, ap, sym, ◌∙◌, arith}
use Rattle.pt_meaning.specs.Streams.{at}
use Rattle.pt_value.specs.declared.token.Token.{Token}
use Rattle.pt_de_laws.specs.State.{DeState}
use Rattle.pt_de_due.specs.Due.{opened}
use Rattle.pt_de_reaction.proofs.ReactionLaws.{staged-own, begun-whole}
use Rattle.pt_de_reaction.proofs.SignalLaws.{begun-unfed}
use Rattle.pt_de_reaction.proofs.reaction.Reaction.begin.Goals as goal

pub returns-then-fed-eq0-clause-begun : goal.returns-then-fed-eq0-clause-begun
returns-then-fed-eq0-clause-begun c = begun-unfed c.args.tag c.args.inputs.now c.children-row.result c.args.self.now.state c.start.new.self.state c.start.ensures.lawful c.children-row.ensures (sym c.fed.ensures ∙ c.if-fed-eq0.true) c.start.ensures.state

pub start-requires-2 : goal.start-requires-2
start-requires-2 c = ap (λ (s : DeState Token). s.stage) c.stage_own.ensures.state ∙ c.requires

pub deliver-requires-clause-there : goal.deliver-requires-clause-there
deliver-requires-clause-there c =
    let e = ap (λ (s : DeState Token). length s.plan.net.places) (c.start-2.ensures.state ∙ ap (λ (s : DeState Token). opened c.args.tag s) c.stage_own.ensures.state) in
    omega (arith, c.children-row.ensures, e)

pub deliver-requires-clause-running : goal.deliver-requires-clause-running
deliver-requires-clause-running c = ap (λ (s : DeState Token). s.stage) c.start-2.ensures.state

pub deliver-requires-clause-staged : goal.deliver-requires-clause-staged
deliver-requires-clause-staged c = (
  at c.args.inputs.now,
  staged-own (at c.args.inputs.now) c.children-row.result c.args.self.now.state c.stage_own.new.self.state c.start-2.new.self.state c.stage_own.new.staged.items c.stage_own.new.self.spares c.start-2.new.self.spares c.stage_own.ensures.state (ap (λ (s : DeState Token). s.plan) c.start-2.ensures.state) c.start-2.ensures.spares
      (c.children-row.ensures ∙ sym (ap (λ (s : DeState Token). length s.plan.net.places) (c.start-2.ensures.state ∙ ap (λ (s : DeState Token). opened c.args.tag s) c.stage_own.ensures.state))) c.in_ok-stage_own.ensures.staged,
)

pub returns-clause-begun : goal.returns-clause-begun
returns-clause-begun c =
    let e = c.start-2.ensures.state ∙ ap (λ (s : DeState Token). opened c.args.tag s) c.stage_own.ensures.state in
    begun-whole c.args.tag c.args.inputs.now c.children-row.result c.args.self.now.state c.start-2.new.self.state c.deliver.new.self.state c.stage_own.ensures.lawful c.children-row.ensures e
    (c.deliver.ensures (at c.args.inputs.now)
    (staged-own (at c.args.inputs.now) c.children-row.result c.args.self.now.state c.stage_own.new.self.state c.start-2.new.self.state c.stage_own.new.staged.items c.stage_own.new.self.spares c.start-2.new.self.spares c.stage_own.ensures.state (ap (λ (s : DeState Token). s.plan) c.start-2.ensures.state) c.start-2.ensures.spares
    (c.children-row.ensures ∙ sym (ap (λ (s : DeState Token). length s.plan.net.places) e)) c.in_ok-stage_own.ensures.staged))
