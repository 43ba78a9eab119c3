use Rattle.std.proofs.Common.{◌++◌, ℕ, List, map, Option, option_map, option_to_list, ap, ◌∙◌, Bor}
use Rattle.pt_value.specs.Value.{Value}
use Rattle.pt_value.specs.Token.{value_of}
use Rattle.pt_value.specs.declared.token.Token.{Token}
use Rattle.pt_datatypes.specs.Datatype.{Datatype}
use Rattle.pt_datatypes.specs.Token.{type_of_value}
use Rattle.pt_document.specs.Document.{property_name}
use Rattle.pt_document.specs.View.{property_view, properties_view}
use Rattle.pt_types.specs.Entry.{typed_entry}
use Rattle.pt_machine.specs.Typed.{variable_if, typed_variables}
use Rattle.pt_machine_parts.proofs.ListLaws.{kept-more, kept-all, map-through}
use Rattle.pt_machine_parts.proofs.typed.typed_variables.Goals as goal

pub loop-number-preserved : goal.loop-number-preserved
loop-number-preserved c =
    let p = property_view c.index-variables-number.result in
    let old = map typed_entry c.loop-number.list.items in
    let entry : Value → List ℕ × Datatype = λ v. (property_name p, type_of_value v) in
    let same = map-through entry (λ (v : Bor Token). value_of v.now) c.value_at.result ∙ ap (λ (o : Option Value). option_map entry o) c.value_at.ensures in
    kept-more (variable_if (map value_of c.args.values.now)) property_view c.args.variables.now c.loop-number.number c.index-variables-number.result old (map typed_entry c.add_variable.new.list.items) (typed_variables (map value_of c.args.values.now) (properties_view c.args.variables.now)) c.loop-number-test.true c.index-variables-number.is c.loop-number.invariant
    (c.in_ok-add_variable.ensures ∙ ap (λ (o : Option (List ℕ × Datatype)). old ++ option_to_list o) same)

pub returns : goal.returns
returns c =
    kept-all (variable_if (map value_of c.args.values.now)) property_view c.args.variables.now c.loop-number.number (map typed_entry c.loop-number.list.items) (typed_variables (map value_of c.args.values.now) (properties_view c.args.variables.now)) c.loop-number-test.false c.loop-number.invariant
