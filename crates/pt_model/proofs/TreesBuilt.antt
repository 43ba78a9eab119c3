-- Of what a builder of trees may lack, the net of a document lacks nothing: there is a tree of it, unless a director refuses a composite.
use Rattle.std.proofs.Common.{◌≡◌, inl, inr, ℕ, List, Bool, true, false, ◌||◌, bytes_eq, codes, refl, sym, ap, ◌∙◌, arith}
use Rattle.std.specs.Prelude.{Option, Some, None, is_some, slice_get}
use Rattle.std.proofs.lemmas.Option.{none-some}
use Rattle.pt_document.specs.declared.classes.Director.{Director}
use Rattle.pt_document.specs.declared.classes.Director.TheVariants.{Sdf, Pn, Rendezvous, Sr, De}
use Rattle.pt_net.specs.declared.net.Net.{Net}
use Rattle.pt_net.specs.declared.net.NetDirector.{NetDirector}
use Rattle.pt_net.specs.declared.net.NetEntity.{NetEntity}
use Rattle.pt_net.specs.Inside.{children_of}
use Rattle.pt_scopes.specs.declared.values.Values.{Values}
use Rattle.pt_scopes.specs.Scopes.{is_composite_class}
use Rattle.pt_typing.specs.Least.{Assignment}
use Rattle.pt_library.specs.declared.library_actor.LibraryActor.{LibraryActor}
use Rattle.pt_node.specs.View.{Tree}
use Rattle.pt_trees.specs.declared.directing.Directing.{Directing}
use Rattle.pt_trees.specs.declared.directing.Directing.TheVariants.{By, Modal}
use Rattle.pt_trees.specs.Composite.{trees_of}
use Rattle.pt_trees.specs.Sr.{IsWired}
use Rattle.pt_trees.specs.Directors.{director_of, IsDirectedBy, composing}
use Rattle.pt_trees.specs.Trees.{IsEntity, IsUndirected, around_in, Starts, StartsAs, AreTrees}
use Rattle.pt_trees.specs.Built as built
use Rattle.pt_trees.proofs.DirectorLaws.{undirected-none, is-directed}
use Rattle.pt_builder.proofs.TreeLaws.{built-trees}
use Rattle.pt_order.specs.Laws.{IsNetOfDocument, IsInOrder}
use Rattle.pt_typed.specs.RowLaw.{AreStartedIn}
use Rattle.std.proofs.Math.Bool.{or-true}
use Rattle.pt_buildable.specs.Composites.{HasUnstatedProcesses}
use Rattle.pt_buildable.specs.Laws.{HasChannels}
use Rattle.pt_buildable.proofs.Joined.{tops-there, entities-shallow, directors-of-composites, children-steady, composites-directed, composites-channels, nets-ordered, begin-at-outputs}
use Rattle.pt_startable.proofs.Joined.{library-actors-start}
use Rattle.pt_placed.proofs.Trees.{composites-wired, composites-met}
use Rattle.pt_plannable.proofs.Joined.{insides-there}
use Rattle.pt_fitting.proofs.Joined.{modals-fit}
use Rattle.pt_elaboration.specs.Resolved.{IsStarted, port_typing}
use Rattle.pt_model.proofs.StatedLaws.{processes-state, lawful-for, rated-for}
use Rattle.pt_start.specs.Started.{IsStart}
use Rattle.pt_stated.specs.Laws.{StatedIsLawful, ProcessesAreStated}
use Rattle.pt_model.proofs.Refinements.{opaque-refinements}
use Rattle.pt_model.proofs.TypedLaws.{started-in, directed-top}

-- ---- which director it is

abbrev is_rendezvous : Director → Bool
is_rendezvous Sdf = false
is_rendezvous Sr = false
is_rendezvous De = false
is_rendezvous Pn = false
is_rendezvous Rendezvous = true

other-director : (by : Director) → is_rendezvous by ≡ false → by ≡ Rendezvous → ⊥
other-director by other same = let no : false ≡ true = sym other ∙ ap is_rendezvous same in cc

-- ---- the tree of a net

module _ (law : StatedIsLawful) (stating : ProcessesAreStated) (net : Net) (values : Values) (typing : Assignment) (starts : Starts) (doc : IsNetOfDocument net) (started : IsStarted net values typing starts) where
  -- each composite is directed, since the top is
  undirected-composite : (k : ℕ) (e : NetEntity) → IsEntity net k e → is_composite_class e.class ≡ true → director_of e ≡ None → ⊥
  undirected-composite k e at composite none =
      let top = tops-there net doc in
      let d = directed-top net values top.0 started.placed top.1 in
      let h : false ≡ true = ap is_some (sym none) ∙ composites-directed net top.0 d.0 doc top.1 d.1 k e at composite in
      cc

  -- so there is no entity that is no library actor, and that nothing directs
  nameless : (k : ℕ) (e : NetEntity) → IsEntity net k e → (IsUndirected e → ⊥) → director_of e ≡ None → ⊥
  nameless k e at directed none = undirected-composite k e at (by-director e.director refl (bytes_eq e.class (codes "Modal")) refl) none
    where
      by-director : (o : Option NetDirector) → e.director ≡ o → (b : Bool) → bytes_eq e.class (codes "Modal") ≡ b → is_composite_class e.class ≡ true
      by-director (Some d) is b modal = directors-of-composites net k e d doc at is
      by-director None is true modal = ap (λ c. bytes_eq e.class (codes "Composite") || c) modal ∙ or-true (bytes_eq e.class (codes "Composite"))
      by-director None is false modal = absurd (directed (record { unnamed = is; plain = modal }))

  -- each library actor starts
  startless : (k : ℕ) (e : NetEntity) → IsEntity net k e → IsUndirected e → ((a : LibraryActor) → StartsAs starts k a → ⊥) → ⊥
  startless k e at undirected none = let r = started.started.actors k e at undirected in by-class (is_composite_class e.class) refl r.0 r.1 r.2
    where
      by-class : (b : Bool) → is_composite_class e.class ≡ b → (s : Option LibraryActor) → slice_get starts.actors k ≡ Some s → IsStart net values (port_typing typing) k s → ⊥
      by-class true is s start began = undirected-composite k e at is (undirected-none e undirected)
      by-class false is None start began = library-actors-start net values typing k e doc started.resolved.valued started.resolved.typed started.resolved.sound at is began
      by-class false is (Some a) start began = none a start

  order : IsInOrder net
  order =
      let top = tops-there net doc in
      let d = directed-top net values top.0 started.placed top.1 in
      nets-ordered net top.0 d.0 doc (opaque-refinements net values typing starts doc started.machines) top.1 d.1

  actors : AreStartedIn net values typing starts
  actors = started-in net values typing starts started.started

  channels : (k : ℕ) (e : NetEntity) (by : Director) → IsEntity net k e → IsDirectedBy e (By by) → HasChannels (around_in net starts k e)
  channels k e by at directed = let d = is-directed e by directed in composites-channels net starts k e d.director doc order at d.has

  -- a composite of a director other than Rendezvous has its wiring
  wired : (k : ℕ) (e : NetEntity) (by : Director) (kids : List Tree) → is_rendezvous by ≡ false → IsEntity net k e → IsDirectedBy e (By by) → AreTrees net starts (children_of net.entities.items k) kids → IsWired (around_in net starts k e) kids
  wired k e by kids other at directed all = composites-wired net values typing starts k e by kids started.placed order actors at directed (other-director by other) all (channels k e by at directed)

  -- each composite of processes states its numbers
  none-unstated : HasUnstatedProcesses net starts → ⊥
  none-unstated has = let s = processes-state law stating net values starts started.stated started.resolved.valued has.number has.entity has.at has.director has.by has.processes in none-some s.0 (sym has.unstated ∙ s.1)

  -- a composite fits its director, whichever
  unfit : (k : ℕ) (e : NetEntity) (director : Directing) (kids : List Tree) → IsEntity net k e → IsDirectedBy e director → AreTrees net starts (children_of net.entities.items k) kids → (composing director).IsMisfit (around_in net starts k e) kids → ⊥
  unfit k e (By Sdf) kids at by all (inl unsteady) = none-unstated (children-steady net values typing starts k e kids started.resolved.valued started.placed actors at by all unsteady)
  unfit k e (By Sdf) kids at by all (inr bad) =
      bad.without (insides-there law net values typing starts k e kids order started.resolved.valued started.placed actors started.stated started.machines none-unstated at by all (wired k e Sdf kids refl at by all) bad.few)
  unfit k e (By Sr) kids at by all bad = bad (wired k e Sr kids refl at by all)
  unfit k e (By De) kids at by all bad = bad (record { wired = wired k e De kids refl at by all; begin = begin-at-outputs net values typing starts k e kids order actors at all })
  unfit k e (By Pn) kids at by all bad =
      let s = processes-state law stating net values starts started.stated started.resolved.valued k e at (By Pn) by refl in
      bad (record { wired = wired k e Pn kids refl at by all; stated = s.0; is = s.1; lawful = lawful-for law stating net values starts started.stated k e s.0 at by s.1 })
  unfit k e (By Rendezvous) kids at by all bad =
      let s = processes-state law stating net values starts started.stated started.resolved.valued k e at (By Rendezvous) by refl in
      bad (record { met = composites-met net values typing starts k e Rendezvous kids order actors at by all (channels k e Rendezvous at by); stated = s.0; is = s.1; rated = rated-for law stating net values starts started.stated k e s.0 at s.1 })
  unfit k e Modal kids at by all bad = bad (modals-fit net values typing starts k e kids doc started.resolved.valued started.resolved.typed started.resolved.sound started.machines at by all)

  -- so there is a tree
  pub has-tree : built.IsUnbuilt net starts → ⊥
  has-tree (built.absent none) = let top = tops-there net doc in none top.0 top.1
  has-tree (built.undirected k e at directed none) = nameless k e at directed none
  has-tree (built.unstarted k e at undirected none) = startless k e at undirected none
  has-tree (built.misfit k e director kids at by all bad) = unfit k e director (trees_of kids) at by (built-trees all) bad
  has-tree (built.deep k nested) = let few = entities-shallow net k 32 doc nested in omega (arith, few)
