-- A run of the model of the net of a document keeps to the types of the net.
use Rattle.std.proofs.Common.{◌≡◌, ◌<◌, ℕ, inl, inr, Bool, true, false, length, refl, sym, ap, subst, ◌∙◌, arith}
use Rattle.std.specs.Prelude.{Option, Some, None, slice_get}
use Rattle.std.proofs.lemmas.Option.{none-some, same_Some, slice_get_within}
use Rattle.pt_net.specs.declared.net.Net.{Net}
use Rattle.pt_net.specs.declared.net.NetDirector.{NetDirector}
use Rattle.pt_net.specs.declared.net.NetEntity.{NetEntity}
use Rattle.pt_net.specs.Net.{NetEntityTree, entity_view}
use Rattle.pt_typing.specs.Least.{Assignment}
use Rattle.pt_scopes.specs.Scopes.{is_composite_class}
use Rattle.pt_scopes.specs.declared.values.Values.{Values}
use Rattle.pt_library.specs.declared.library_actor.LibraryActor.{LibraryActor}
use Rattle.pt_start.specs.Started.{PortTyping, IsStart}
use Rattle.pt_start.proofs.Outward.{view-at}
use Rattle.pt_node.specs.View.{node_of}
use Rattle.pt_trees.specs.Trees.{IsEntity, Starts}
use Rattle.pt_trees.proofs.DirectorLaws.{decided}
use Rattle.pt_trees.proofs.TopLaws.{is-whole}
use Rattle.pt_order.proofs.TreeCover.{no-start}
use Rattle.pt_typed.specs.RowLaw.{types_of_ports, AreStartedIn}
use Rattle.pt_typed.proofs.TypedNets.{typed-nets-keep-types}
use Rattle.pt_elaboration.specs.Resolved.{IsPlaced, AreStartsOf}
use Rattle.pt_model.specs.Typed.{ModelsKeepTypes}
use Rattle.pt_elaboration.proofs.Lists.{read}
use Rattle.pt_model.proofs.TopLaws.{top-directed, top-core}

-- what starts as an actor is of no class of composites
plain-class : (net : Net) (values : Values) (typing : PortTyping) (k : ℕ) (e : NetEntity) (a : LibraryActor) → IsEntity net k e → IsStart net values typing k (Some a) → is_composite_class e.class ≡ false
plain-class net values typing k e a at s =
    let from = s.started_from in
    let view : from.entity ≡ entity_view e = same_Some from.entity (entity_view e) (sym from.at ∙ view-at entity_view net.entities.items k e at) in
    let classed : s.params.class ≡ e.class = from.from.class_is ∙ ap (λ (x : NetEntityTree). x.class) view in
    by-class (is_composite_class e.class) refl classed
  where
    by-class : (b : Bool) → is_composite_class e.class ≡ b → s.params.class ≡ e.class → is_composite_class e.class ≡ false
    by-class false h classed = h
    by-class true h classed = absurd (none-some a (sym (no-start s.params (ap is_composite_class classed ∙ h)) ∙ s.is))

-- each library actor starts as its parameters and types start it
pub started-in : (net : Net) (values : Values) (typing : Assignment) (starts : Starts) → AreStartsOf net values typing starts.actors → AreStartedIn net values typing starts
started-in net values typing starts are k a is =
    let there : k < length net.entities.items = let h = slice_get_within starts.actors k (Some a) is in omega (arith, h, are.counted) in
    let found : (e : NetEntity) × IsEntity net k e = read net.entities.items k there in
    elim (decided found.0) [
      | inl undirected ↦ (
          let r = are.actors k found.0 found.1 undirected in
          let start = subst (λ (s : Option LibraryActor). IsStart net values (types_of_ports typing) k s) (same_Some r.0 (Some a) (sym r.1 ∙ is)) r.2 in
          (found.0, found.1, plain-class net values (types_of_ports typing) k found.0 a found.1 start, start))
      | inr directed ↦ (
          let none : slice_get starts.actors k ≡ Some None = are.others k found.0 found.1 directed in
          absurd (none-some a (same_Some None (Some a) (sym none ∙ is))))
    ]

-- the top has a director
pub directed-top : (net : Net) (values : Values) (e : NetEntity) → IsPlaced net values → IsEntity net 0 e → (d : NetDirector) × (e.director ≡ Some d)
directed-top net values e placed at = by_director e.director refl
  where
    by_director : (o : Option NetDirector) → e.director ≡ o → (d : NetDirector) × (e.director ≡ Some d)
    by_director (Some d) is = (d, is)
    by_director None is = absurd (top-directed net values e placed at is)

pub models-keep-types : ModelsKeepTypes
models-keep-types net top j doc model =
    let s = model.started in
    let has = top-core net model.values model.starts top s.placed model.built in
    let d = directed-top net model.values has.entity s.placed has.at in
    typed-nets-keep-types net model.values model.typing model.starts has.entity d.0 (node_of top) j doc s.resolved.valued s.resolved.typed s.resolved.sound (started-in net model.values model.typing model.starts s.started) s.machines model.tree has.at d.1 model.supplied
    (is-whole j (node_of top) model.fits)
