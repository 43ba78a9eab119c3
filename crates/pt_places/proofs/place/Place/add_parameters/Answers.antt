use Rattle.std.proofs.Common.{map, sym, ap, ◌∙◌}
use Rattle.std.specs.Prelude.{slice_get, option_map}
use Rattle.pt_inequalities.proofs.Steps.{first-mapped}
use Rattle.pt_document.specs.View.{properties_view}
use Rattle.pt_scopes.specs.Given.{held_view}
use Rattle.pt_inequalities.specs.Inequalities.{of_parameters}
use Rattle.pt_places.proofs.Parts.{parameters-more}
use Rattle.pt_places.proofs.place.Place.add_parameters.Goals as goal

pub loop-index-preserved : goal.loop-index-preserved
loop-index-preserved c =
    let own = c.args.self.now in
    let vs = own.values.now.parameters.items in
    let i = c.loop-index.index in
    parameters-more own.number own.entity.now.class c.deref-property-items.result.now vs i c.property-item.result c.name_of.result.now (option_map (λ v. held_view v.now) c.value_at-value.result) c.args.inequalities.now.items c.loop-index.inequalities.items c.add_parameter.new.inequalities.items
    (of_parameters own.number own.entity.now.class (properties_view own.entity.now.parameters.items) (map held_view vs)) c.loop-index-test.true c.property-item.is c.name_of.ensures
    (first-mapped held_view vs i ∙ ap (λ xs. slice_get (map held_view xs) i) (sym c.as_slice.ensures.value) ∙ sym c.value_at-value.ensures) c.loop-index.invariant c.in_ok-add_parameter.ensures
