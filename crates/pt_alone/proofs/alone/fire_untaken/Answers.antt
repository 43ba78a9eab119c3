use Rattle.std.proofs.Common.{refl, sym, ap, ◌∙◌}
use Rattle.pt_directors.specs.Directors.{Director}
use Rattle.pt_node.specs.declared.body.Body.TheVariants as body
use Rattle.pt_node.specs.Shown.{shown_node}
use Rattle.pt_turns.proofs.Entering.{actor-enters, actor-named, actor-stays}
use Rattle.pt_alone.proofs.Untaken.{within-untaken, fits-untaken, untaken-enters, untaken-stays, untaken-named}
use Rattle.pt_alone.proofs.alone.fire_untaken.Goals as goal

pub returns-in-Actor-clause-goes : goal.returns-in-Actor-clause-goes
returns-in-Actor-clause-goes g c = within-untaken (shown_node c.args.node.now) c.args.tag c.args.inputs.now _ c.fire_actor-within.result c.without_outputs.result c.without_outputs.ensures (actor-enters c.args.node.now _ _ _ c.in-Actor.held c.fire_actor-within.new.held c.node.view_is refl c.in-Actor.is c.args.tag c.args.inputs.now c.fire_actor-within.result c.fire_actor-within.ensures.goes refl)

pub returns-in-Actor-clause-fit : goal.returns-in-Actor-clause-fit
returns-in-Actor-clause-fit g c = fits-untaken (shown_node c.args.node.now) c.args.tag c.args.inputs.now _ c.fire_actor-within.result c.without_outputs.result c.without_outputs.ensures (actor-stays c.args.node.now _ _ _ c.in-Actor.held c.fire_actor-within.new.held c.node.view_is refl c.in-Actor.is c.args.tag c.args.inputs.now c.fire_actor-within.result c.fire_actor-within.ensures.goes refl c.requires.fit)

pub returns-in-Actor-clause-outline : goal.returns-in-Actor-clause-outline
returns-in-Actor-clause-outline g c = actor-named c.args.node.now _ _ _ c.in-Actor.held c.fire_actor-within.new.held c.node.view_is refl c.in-Actor.is c.args.tag c.args.inputs.now c.fire_actor-within.result c.fire_actor-within.ensures.goes refl

pub returns-in-Composite-clause-goes : goal.returns-in-Composite-clause-goes
returns-in-Composite-clause-goes g c = untaken-enters c.args.node.now _ _ _ c.get_mut.result.now c.fire_closed.new.director _ c.fire_closed.new.meetings c.node.view_is refl (c.in-Composite.is ∙ ap (λ (d : Director). body.Composite d) (sym c.get_mut.ensures.value)) refl c.args.tag c.args.inputs.now c.args.left.now c.fire_closed.new.left c.fire_closed.result c.fire_closed.ensures

pub returns-in-Composite-clause-fit : goal.returns-in-Composite-clause-fit
returns-in-Composite-clause-fit g c = untaken-stays c.args.node.now _ _ _ c.get_mut.result.now c.fire_closed.new.director _ c.fire_closed.new.meetings c.node.view_is refl (c.in-Composite.is ∙ ap (λ (d : Director). body.Composite d) (sym c.get_mut.ensures.value)) refl c.args.tag c.args.inputs.now c.args.left.now c.fire_closed.new.left c.fire_closed.result c.fire_closed.ensures

pub returns-in-Composite-clause-outline : goal.returns-in-Composite-clause-outline
returns-in-Composite-clause-outline g c = untaken-named c.args.node.now _ _ _ c.get_mut.result.now c.fire_closed.new.director _ c.fire_closed.new.meetings c.node.view_is refl (c.in-Composite.is ∙ ap (λ (d : Director). body.Composite d) (sym c.get_mut.ensures.value)) refl c.args.tag c.args.inputs.now c.args.left.now c.fire_closed.new.left c.fire_closed.result c.fire_closed.ensures
