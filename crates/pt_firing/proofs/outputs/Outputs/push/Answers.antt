use Rattle.std.proofs.Common.{◌≡◌, ◌<◌, length, subst, sym, ap, ◌∙◌}
use Rattle.pt_firing.specs.Outputs.{on_first, streams_in}
use Rattle.pt_firing.proofs.Streams.{set-pushed}
use Rattle.pt_firing.proofs.outputs.Outputs.push.Goals as goal

pub returns-in_ok-lists-in-OnFirst-2-clause-streams : goal.returns-in_ok-lists-in-OnFirst-2-clause-streams
returns-in_ok-lists-in-OnFirst-2-clause-streams c =
    let e : c.args.self.now ≡ c.spread.new.lists.items = sym c.self.view_is ∙ ap streams_in c.in-OnFirst.is ∙ sym (c.spread.ensures ∙ ap (on_first c.in-OnFirst.ports) c.take.ensures.taken) in
    rw e (set-pushed _ c.spread.new.lists.items c.args.port c.index_mut.result.now c.push-pushed.new.self c.args.token (subst (λ X. c.args.port < length X) e c.requires) c.index_mut.ensures.value c.push-pushed.ensures.tokens)

pub returns-in-All-clause-streams : goal.returns-in-All-clause-streams
returns-in-All-clause-streams c =
    let e : c.args.self.now ≡ c.in-All.lists.items = sym c.self.view_is ∙ ap streams_in c.in-All.is in
    rw e (set-pushed _ c.in-All.lists.items c.args.port c.index_mut-in-All.result.now c.push-in-All.new.self c.args.token (subst (λ X. c.args.port < length X) e c.requires) c.index_mut-in-All.ensures.value c.push-in-All.ensures.tokens)
