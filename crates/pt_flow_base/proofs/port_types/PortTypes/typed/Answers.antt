use Rattle.std.proofs.Common.{◌≡◌, ℕ, List, Option, ap, ◌∙◌}
use Rattle.std.proofs.lemmas.Result.{IfOk-weaker}
use Rattle.pt_datatypes.specs.Datatype.{Datatype}
use Rattle.pt_flow_base.specs.PortTypes.{type_named, typed_names}
use Rattle.pt_flow_base.specs.TypeTable.{types_in}
use Rattle.pt_flow_base.proofs.port_types.PortTypes.typed.Goals as goal

pub returns : goal.returns
returns c =
    let types : List (List ℕ × Datatype) = c.args.self.now in
    let held : (name : List ℕ) → types_in c.in_ok-table.table name ≡ type_named name types = λ name. c.in_ok-table.ensures name ∙ ap (λ ts. type_named name ts) c.as_slice.ensures in
    IfOk-weaker c.typed_by-typed.result
    (λ (typed : Option (List (List ℕ × Datatype))). (ts : List (List ℕ × Datatype)) → ((name : List ℕ) → types_in c.in_ok-table.table name ≡ type_named name ts) → typed ≡ typed_names ts c.as_slice-names.result.now)
    (λ (typed : Option (List (List ℕ × Datatype))). typed ≡ typed_names types c.args.names.now) (λ typed is. is types held ∙ ap (λ ns. typed_names types ns) c.as_slice-names.ensures) c.typed_by-typed.ensures
