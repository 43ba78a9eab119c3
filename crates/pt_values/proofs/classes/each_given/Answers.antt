use Rattle.std.proofs.Common.{◌+◌, List, take, sym, subst, map, rules}
use Rattle.std.specs.List.{AllZip}
use Rattle.pt_document.specs.Document.{PropertyTree}
use Rattle.pt_document.specs.View.{property_view, properties_view}
use Rattle.pt_scopes.specs.declared.parameter_value.ParameterValue.{ParameterValue}
use Rattle.pt_scopes.specs.Given.{held_view}
use Rattle.pt_scopes.specs.Names.{seen_scope}
use Rattle.pt_scopes.specs.PortNames.{names_port_of}
use Rattle.pt_scopes.specs.Sites.{director_form}
use Rattle.pt_scopes.specs.Told.{IsToldAt}
use Rattle.pt_scopes.specs.ClassParameters.{IsParameterOf, IsFaultAmong}
use Rattle.pt_scopes.proofs.Turns.{view-all}
use Rattle.pt_scopes.proofs.Pushed.{given-more, given-fault}
use Rattle.pt_values.proofs.classes.each_given.Goals as goal

pub loop-property-preserved : goal.loop-property-preserved
loop-property-preserved c =
    let is_port = names_port_of c.args.ports.now in
    let scope = seen_scope c.args.seen.now in
    let forms = director_form c.args.owner.now.parent c.args.owner.now.class.now in
    let more = given-more is_port scope forms c.args.properties.now c.loop-property.property-index c.property-item.result c.name_of.result.now c.text_of.result.now c.form-form.result c.loop-property-test.true c.property-item.is c.name_of.ensures c.text_of.ensures c.form-form.ensures c.loop-property.values.items c.in_ok-value.value c.loop-property.invariant c.in_ok-value.ensures.ok in
    subst (λ (vs : List ParameterValue). AllZip (IsParameterOf is_port scope forms) (properties_view (take (c.loop-property.property-index + 1) c.args.properties.now)) (map held_view vs)) (sym c.in_ok-push.ensures.items) more

pub returns-in_err-value-clause-told : goal.returns-in_err-value-clause-told
returns-in_err-value-clause-told c =
    let is_port = names_port_of c.args.ports.now in
    let scope = seen_scope c.args.seen.now in
    let forms = director_form c.args.owner.now.parent c.args.owner.now.class.now in
    let told : IsToldAt c.args.path.now (IsFaultAmong is_port scope forms (properties_view c.args.properties.now)) c.in_err-value.field-0.0 =
    given-fault is_port scope forms c.args.properties.now c.loop-property.property-index c.property-item.result c.name_of.result.now c.text_of.result.now c.form-form.result c.loop-property-test.true c.property-item.is c.name_of.ensures c.text_of.ensures c.form-form.ensures c.args.path.now c.in_err-value.field-0.0 c.in_err-value.ensures.told in
    let h = c.from_residual-in_err-value.ensures in
    search (rules, told, h)

pub returns-clause-ok : goal.returns-clause-ok
returns-clause-ok c =
    let is_port = names_port_of c.args.ports.now in
    let scope = seen_scope c.args.seen.now in
    let forms = director_form c.args.owner.now.parent c.args.owner.now.class.now in
    subst (λ (qs : List PropertyTree). AllZip (IsParameterOf is_port scope forms) qs (map held_view c.loop-property.values.items)) (view-all property_view c.args.properties.now c.loop-property.property-index c.loop-property-test.false) c.loop-property.invariant
