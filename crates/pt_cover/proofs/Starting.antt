-- What pt_start starts is started by parameters of the class of its entity.
use Rattle.std.proofs.Common.{◌≡◌, ℕ, Option, Some, map, sym, ap, ◌∙◌}
use Rattle.std.specs.Prelude.{option_map}
use Rattle.std.proofs.lemmas.Option.{same_Some, slice_get-map}
use Rattle.std.specs.List.{slice_get}
use Rattle.pt_net.specs.declared.net.Net.{Net}
use Rattle.pt_net.specs.declared.net.NetEntity.{NetEntity}
use Rattle.pt_net.specs.Net.{NetEntityTree, entity_view}
use Rattle.pt_scopes.specs.declared.values.Values.{Values}
use Rattle.pt_start.specs.Started.{PortTyping, IsStart}
use Rattle.pt_library.specs.declared.library_actor.LibraryActor.{LibraryActor}
use Rattle.pt_flow_base.specs.declared.params.Params.{Params}
use Rattle.pt_library.specs.LibraryActor.{start}
use Rattle.pt_trees.specs.Trees.{IsEntity}

pub by-class : (net : Net) (values : Values) (typing : PortTyping) (k : ℕ) (e : NetEntity) (a : LibraryActor) → IsEntity net k e → IsStart net values typing k (Some a) → (params : Params) × (params.class ≡ e.class) × (start params ≡ Some a)
by-class net values typing k e a at started =
    let f = started.started_from in
    let seen : slice_get (map entity_view net.entities.items) k ≡ Some (entity_view e) = slice_get-map entity_view net.entities.items k ∙ ap (λ (o : Option NetEntity). option_map entity_view o) at in
    let same : f.entity ≡ entity_view e = same_Some f.entity (entity_view e) (sym f.at ∙ seen) in
    (started.params, f.from.class_is ∙ ap (λ (x : NetEntityTree). x.class) same, started.is)
