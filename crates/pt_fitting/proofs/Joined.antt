-- A Modal entity with a machine is wired as its director asks.
use Rattle.std.proofs.Common.{◌≡◌, ℕ, zero, suc, ◌<◌, List, [], ◌∷◌, length, count_by, true, Option, Some, None, get_or, codes, bytes_eq, sym, ap, subst, ◌∙◌, arith}
use Rattle.std.specs.Prelude.{slice_get}
use Rattle.std.proofs.lemmas.Bool.{both_ways}
use Rattle.std.proofs.lemmas.List.{length-map}
use Rattle.std.proofs.lemmas.Option.{none-some, slice_get_within, same_Some}
use Rattle.pt_meaning.specs.NodeFacts.{need_of}
use Rattle.pt_meaning.specs.Streams.{get}
use Rattle.pt_document.specs.declared.job.Direction.TheVariants.{Input, Output}
use Rattle.pt_net.specs.declared.net.Net.{Net}
use Rattle.pt_net.specs.declared.net.NetEntity.{NetEntity}
use Rattle.pt_net.specs.Net.{NetEntityTree, entity_view}
use Rattle.pt_net.specs.Inside.{children_of, is_input, is_output}
use Rattle.pt_scopes.specs.declared.values.Values.{Values}
use Rattle.pt_typing.specs.Least.{Assignment}
use Rattle.pt_inequalities.specs.Frames.{frames_of}
use Rattle.pt_inequalities.specs.ModalScopes.{modal_scope}
use Rattle.pt_chart.specs.Machine.{Machine}
use Rattle.pt_machine.specs.Children as machine
use Rattle.pt_machine.specs.Children.{kids_in, is_parted}
use Rattle.pt_machine.specs.Names.{names_along}
use Rattle.pt_machine.specs.Machines.{IsMachineIn, IsMachineOf, IsPortMap}
use Rattle.pt_machine.proofs.Clean.{got-among, all-of}
use Rattle.pt_library.specs.LibraryActor.{rows}
use Rattle.pt_start.proofs.Outward.{view-at}
use Rattle.pt_node.specs.View.{Tree}
use Rattle.pt_trees.specs.declared.directing.Directing.TheVariants.{Modal}
use Rattle.pt_trees.specs.Modal.{AreOpaque, IsFor, HasRefinements, IsModalWired, places_of, taken_by}
use Rattle.pt_trees.specs.Trees.{IsEntity, Starts, IsTree, AreTrees, around_in}
use Rattle.pt_trees.proofs.DirectorLaws.{is-modal}
use Rattle.pt_cover.proofs.Nesting.{get-within}
use Rattle.pt_order.proofs.Children.{child-stands}
use Rattle.pt_typed.proofs.ModalPorts.{kid-of, input-way, output-way}
use Rattle.pt_placed.specs.Counted.{IsCounted}
use Rattle.pt_placed.proofs.Composites.{composites-counted}
use Rattle.pt_fitting.specs.Laws.{ModalsFit}
use Rattle.pt_fitting.proofs.Sound.{machine-typed}
use Rattle.pt_fitting.proofs.Kids.{tree-among, trees-counted, children-counted, opaque-tree, ArePlanned, plan-needs}
use Rattle.pt_fitting.proofs.Machines.{names-counted, places-at, zip-counted, machine-for}

got-read : {A : Type 0} (xs : List (Option A)) (k : ℕ) (x : Option A) → slice_get xs k ≡ Some x → get_or xs k None ≡ x
got-read [] k x e = absurd (none-some x e)
got-read (o ∷ xs) zero x e = same_Some o x e
got-read (o ∷ xs) (suc k) x e = got-read xs k x e

-- a child of a Modal entity: its number, its entity, and its tree
record IsKid (net : Net) (starts : Starts) (k i : ℕ) (kid : Tree) : Type 0 where
  number : ℕ
  entity : NetEntity
  there : slice_get (children_of net.entities.items k) i ≡ Some number
  at : IsEntity net number entity
  tree : IsTree net starts number kid

module _ (net : Net) (values : Values) (typing : Assignment) (starts : Starts) (k : ℕ) (e : NetEntity) (kids : List Tree) (at : IsEntity net k e) (all : AreTrees net starts (children_of net.entities.items k) kids) (x : Machine) (w : IsMachineIn net values typing k x) where
  kid-at : (i : ℕ) (kid : Tree) → get kids i ≡ Some kid → IsKid net starts k i kid
  kid-at i kid is =
      let t = tree-among net starts all i kid is in
      let f = child-stands k net.entities.items i t.0 t.1 in
      record { number = t.0; entity = f.0; there = t.1; at = f.1; tree = t.2 }

  kid-seen : (i : ℕ) (kid : Tree) (y : IsKid net starts k i kid) → slice_get (kids_in net k) i ≡ Some (entity_view y.entity)
  kid-seen i kid y = kid-of net.entities.items k i y.number y.entity y.there y.at

  opaque : AreOpaque kids
  opaque i kid is =
      let y = kid-at i kid is in
      opaque-tree net starts y.entity y.at (all-of (λ (z : NetEntityTree). machine.is_opaque z ≡ true) (kids_in net k) w.is.refinements.opaque (entity_view y.entity) (got-among (kids_in net k) i (entity_view y.entity) (kid-seen i kid y))) y.tree

  counted : length kids ≡ length (kids_in net k)
  counted = trees-counted net starts all ∙ children-counted k 0 net.entities.items

  fits : IsFor (count_by is_input e.ports.items) (count_by is_output e.ports.items) (length kids) x
  fits =
      let same = same_Some (entity_view e) w.entity (sym (view-at entity_view net.entities.items k e at) ∙ w.modal.at) in
      let own = machine-for typing (modal_scope (frames_of net values) k w.entity w.held) k w.entity w.held (kids_in net k) (is_parted net k) x w.is in
      subst (λ n. IsFor n (count_by is_output e.ports.items) (length kids) x) (ap (λ (y : NetEntityTree). length (names_along Input y.ports)) (sym same) ∙ names-counted Input is_input input-way e.ports.items)
      (subst (λ n. IsFor (length (names_along Input w.entity.ports)) n (length kids) x) (ap (λ (y : NetEntityTree). length (names_along Output y.ports)) (sym same) ∙ names-counted Output is_output output-way e.ports.items)
      (subst (λ n. IsFor (length (names_along Input w.entity.ports)) (length (names_along Output w.entity.ports)) n x) (sym counted) own))

  -- each child needs a count for each place that the machine gives it
  kid-needs : (i p : ℕ) (kid : Tree) → get kids i ≡ Some kid → slice_get (places_of x) i ≡ Some p → IsCounted p (need_of rows kid)
  kid-needs i p kid is there =
      let y = kid-at i kid is in
      let places : count_by is_input y.entity.ports.items ≡ p = sym (names-counted Input is_input input-way y.entity.ports.items) ∙ places-at w.entity (kids_in net k) x.ports w.is.ports i p (entity_view y.entity) (kid-seen i kid y) there in
      subst (λ n. IsCounted n (need_of rows kid)) places (composites-counted net starts y.number y.entity kid y.at y.tree (opaque i kid is))

  needs-planned : ArePlanned (places_of x) kids
  needs-planned = plan-needs (places_of x) kids (counted ∙ sym (length-map x.ports taken_by ∙ zip-counted (IsPortMap w.entity) (kids_in net k) x.ports w.is.ports)) kid-needs

  pub refinements-fit : HasRefinements (count_by is_input e.ports.items) (count_by is_output e.ports.items) kids x
  refinements-fit = record { opaque = opaque; fits = fits; needs = needs-planned.needs; needed = needs-planned.needed; counted = needs-planned.counted }

pub modals-fit : ModalsFit
modals-fit net values typing starts k e kids doc valued typed whole machines at by all =
    let short : k < length starts.machines = (let h = slice_get_within net.entities.items k e at in let n = machines.counted in omega (arith, h, n)) in
    by_machine (get-within starts.machines k short)
  where
    wired : (x : Machine) → slice_get starts.machines k ≡ Some (Some x) → IsMachineIn net values typing k x → IsModalWired (around_in net starts k e) kids
    wired x is w = record {
      machine = x;
      is = got-read starts.machines k (Some x) is;
      typed = machine-typed net values typing doc valued typed whole k e x at w;
      refinements = refinements-fit net values typing starts k e kids at all x w;
    }

    by_is : (o : Option Machine) → slice_get starts.machines k ≡ Some o → IsMachineOf net values typing k (entity_view e) o → IsModalWired (around_in net starts k e) kids
    by_is None is w = absurd (both_ways (bytes_eq e.class (codes "Modal")) w (is-modal e by).modal)
    by_is (Some x) is w = wired x is w

    by_machine : (o : Option Machine) × (slice_get starts.machines k ≡ Some o) → IsModalWired (around_in net starts k e) kids
    by_machine g = by_is g.0 g.1 (machines.each k (entity_view e) g.0 (view-at entity_view net.entities.items k e at) g.1)
