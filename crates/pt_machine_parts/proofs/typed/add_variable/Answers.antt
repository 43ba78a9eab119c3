use Rattle.std.proofs.Common.{◌++◌, ◌∷◌, [], ℕ, List, map, Option, option_map, option_to_list, sym, ap, ◌∙◌, Bor}
use Rattle.pt_value.specs.declared.token.Token.{Token}
use Rattle.pt_value.specs.Token.{value_of}
use Rattle.pt_datatypes.specs.Datatype.{Datatype}
use Rattle.pt_datatypes.specs.Token.{type_of_value}
use Rattle.pt_document.specs.Document.{property_name}
use Rattle.pt_document.specs.View.{property_view}
use Rattle.pt_scopes.proofs.Turns.{view-push}
use Rattle.pt_inequalities.proofs.Steps.{append-none}
use Rattle.pt_types.specs.Entry.{typed_entry}
use Rattle.pt_machine_parts.proofs.typed.add_variable.Goals as goal

pub returns-in_ok-push-in-Some : goal.returns-in_ok-push-in-Some
returns-in_ok-push-in-Some c =
    let old = map typed_entry c.args.list.now.items in
    let entry : Bor Token → List ℕ × Datatype = λ v. (property_name (property_view c.args.variable.now), type_of_value (value_of v.now)) in
    ap (map typed_entry) c.in_ok-push-in-Some.ensures.items ∙ view-push typed_entry c.args.list.now.items c.in_ok-entry-in-Some.entry
    ∙ ap (λ (e : List ℕ × Datatype). old ++ e ∷ []) c.in_ok-entry-in-Some.ensures
    ∙ ap (λ (o : Option (Bor Token)). old ++ option_to_list (option_map entry o)) (sym c.in-Some.is)

pub returns-in-None : goal.returns-in-None
returns-in-None c =
    let old = map typed_entry c.args.list.now.items in
    let entry : Bor Token → List ℕ × Datatype = λ v. (property_name (property_view c.args.variable.now), type_of_value (value_of v.now)) in
    sym (append-none old) ∙ ap (λ (o : Option (Bor Token)). old ++ option_to_list (option_map entry o)) (sym c.in-None.is)
