use Rattle.std.proofs.Common.{◌≡◌, ℕ, List, Some, ap, ◌∙◌, if◌then◌else◌}
use Rattle.std.specs.Str.{bytes_eq}
use Rattle.std.proofs.lemmas.Result.{on_ok_weaker}
use Rattle.pt_datatypes.specs.Normal.{normal}
use Rattle.pt_types.specs.Ty.{type_of}
use Rattle.pt_flow_base.specs.TypeTable.{types_in}
use Rattle.pt_flow_base.proofs.type_table.TypeTable.put_copy.Goals as goal

pub returns : goal.returns
returns c =
    let entry = c.args.entry.now in
    let old = types_in c.args.self.now in
    let same : ((other : List ℕ) → types_in c.put.new.self other ≡ (if bytes_eq c.as_str.result.now other then Some (type_of c.in_ok-ty.ty) else old other)) → (other : List ℕ) → types_in c.put.new.self other ≡ (if bytes_eq entry.0 other then Some (type_of entry.1) else old other) =
    λ put other. put other ∙ ap (λ name. if bytes_eq name other then Some (type_of c.in_ok-ty.ty) else old other) c.as_str.ensures ∙ ap (λ t. if bytes_eq entry.0 other then Some t else old other) (ap normal c.in_ok-ty.ensures)
    in
    on_ok_weaker _ same c.put.ensures
