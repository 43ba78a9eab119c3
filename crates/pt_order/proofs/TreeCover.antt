-- Each entity of a net of which a tree is built is in that tree: a library actor that is started, or a composite with a director.
use Rattle.std.proofs.Common.{◌≡◌, ◌⊎◌, inl, inr, ◌<◌, ℕ, zero, suc, List, Bool, true, false, ◌||◌, cond, Option, Some, None, codes, bytes_eq, refl, sym, ap, subst, ◌∙◌, arith}
use Rattle.std.specs.Prelude.{option_map}
use Rattle.std.specs.Option.{option_or}
use Rattle.std.proofs.Math.Bool.{or-true}
use Rattle.std.proofs.lemmas.Bool.{both_ways, eq-eqb}
use Rattle.std.proofs.lemmas.Option.{none-some, same_Some, slice_get_within}
use Rattle.std.specs.List.{slice_get}
use Rattle.pt_meaning.specs.Streams.{get}
use Rattle.pt_document.specs.Document.{JobTree}
use Rattle.pt_document.specs.Classes.{Class as ClassRow, Kind, Composite, Modal, Actor, kind_of, class_row}
use Rattle.pt_net.specs.declared.net.Net.{Net}
use Rattle.pt_net.specs.declared.net.NetDirector.{NetDirector}
use Rattle.pt_net.specs.declared.net.NetEntity.{NetEntity}
use Rattle.pt_net.specs.Net.{IsNetOf}
use Rattle.pt_scopes.specs.Scopes.{is_composite_class}
use Rattle.pt_net.specs.Inside.{is_number, is_child, children_of, child_number}
use Rattle.pt_lib_flow.specs.declared.flow_actor.Class.{Class}
use Rattle.pt_flow_base.specs.declared.params.Params.{Params}
use Rattle.pt_lib_flow.specs.FlowActor as flow_actor
use Rattle.pt_lib_data.specs.declared.function.Class.{Class as DataClass}
use Rattle.pt_lib_data.specs.Function as function
use Rattle.pt_lib_data.specs.DataActor as data_actor
use Rattle.pt_lib_time.specs.declared.time_actor.Class.{Class as TimeClass}
use Rattle.pt_lib_time.specs.TimeActor as time_actor
use Rattle.pt_lib_timed.specs.declared.timed_actor.Class.{Class as TimedClass}
use Rattle.pt_lib_timed.specs.TimedActor as timed_actor
use Rattle.pt_library.specs.declared.library_actor.LibraryActor.TheVariants.{Flow, Data, Time, Timed}
use Rattle.pt_library.specs.LibraryActor.{start}
use Rattle.pt_node.specs.View.{Tree}
use Rattle.pt_trees.specs.declared.directing.Directing.{Directing}
use Rattle.pt_trees.specs.declared.directing.Directing.TheVariants.{By}
use Rattle.pt_trees.specs.declared.directing.Directing.TheVariants as directing
use Rattle.pt_trees.specs.Directors.{IsDirectedBy}
use Rattle.pt_trees.specs.Modal.{is_opaque, AreOpaque}
use Rattle.pt_trees.specs.Trees.{Starts, IsEntity, IsDirected, IsTree, of_actor, of_composite, AreTrees, no_trees, more_trees}
use Rattle.pt_trees.proofs.DirectorLaws.{is-directed, is-modal}
use Rattle.pt_cover.specs.Leaves.{ActorsAreLeaves, AreStartedByClass}
use Rattle.pt_cover.proofs.Nesting.{get-within, net-nested, net-rooted}
use Rattle.pt_cover.proofs.Nodes.{AreChildless, AreRooted}
use Rattle.pt_cover.proofs.Numbering.{childless, entities-rooted}
use Rattle.pt_order.proofs.ClassNames.{composite-or-modal}
use Rattle.pt_order.proofs.Children.{child-number, get-is}

-- ---- what starts as an actor is of a class of actors

-- no library has a class of this name
no-class : {C : Type 0} (class_of : List ℕ → Option C) → class_of (codes "Composite") ≡ None → class_of (codes "Modal") ≡ None → (class : List ℕ) → is_composite_class class ≡ true → class_of class ≡ None
no-class class_of composite modal class passes = by-name (composite-or-modal class passes)
  where
    by-name : (class ≡ codes "Composite") ⊎ (class ≡ codes "Modal") → class_of class ≡ None
    by-name (inl is) = ap class_of is ∙ composite
    by-name (inr is) = ap class_of is ∙ modal

pub no-start : (params : Params) → is_composite_class params.class ≡ true → start params ≡ None
no-start params passes =
    let of-flow : flow_actor.start params ≡ None = ap (λ (c : Option Class). flow_actor.start_in c params) (no-class flow_actor.class_of refl refl params.class passes) in
    let of-data : data_actor.start params.class params.values params.ports ≡ None = ap (λ (c : Option DataClass). data_actor.start_in c params.values params.ports) (no-class function.class_of refl refl params.class passes) in
    let of-time : time_actor.start params ≡ None = ap (λ (c : Option TimeClass). time_actor.start_in c params) (no-class time_actor.class_of refl refl params.class passes) in
    let of-timed : timed_actor.start params ≡ None = ap (λ (c : Option TimedClass). timed_actor.start_in c params) (no-class timed_actor.class_of refl refl params.class passes) in
    ap (λ o. option_or (option_map Flow o) (option_or (option_map Data (data_actor.start params.class params.values params.ports)) (option_or (option_map Time (time_actor.start params)) (option_map Timed (timed_actor.start params))))) of-flow
    ∙ ap (λ o. option_or (option_map Data o) (option_or (option_map Time (time_actor.start params)) (option_map Timed (timed_actor.start params)))) of-data ∙ ap (λ o. option_or (option_map Time o) (option_map Timed (timed_actor.start params))) of-time ∙ ap (option_map Timed) of-timed

-- a class that is no composite's is one of actors
pub actor-kind : (class : List ℕ) (kind : Kind) → kind_of class ≡ Some kind → is_composite_class class ≡ false → (row : ClassRow) × (kind_of class ≡ Some (Actor row))
unfolding kind_of
actor-kind class kind e other = by-name (bytes_eq class (codes "Composite")) (bytes_eq class (codes "Modal")) refl refl other
  where
    of-row : (o : Option ClassRow) → kind_of class ≡ option_map Actor o → (row : ClassRow) × (kind_of class ≡ Some (Actor row))
    of-row None is = absurd (none-some kind (sym is ∙ e))
    of-row (Some row) is = (row, is)

    by-name : (b c : Bool) → bytes_eq class (codes "Composite") ≡ b → bytes_eq class (codes "Modal") ≡ c → (b || c) ≡ false → (row : ClassRow) × (kind_of class ≡ Some (Actor row))
    by-name true c is also o = absurd (let h : true ≡ false = o in cc)
    by-name false true is also o = absurd (let h : true ≡ false = o in cc)
    by-name false false is also o = of-row (class_row class) (ap (λ b. cond b (Some Composite) (cond (bytes_eq class (codes "Modal")) (Some Modal) (option_map Actor (class_row class)))) is ∙ ap (λ c. cond c (Some Modal) (option_map Actor (class_row class))) also)

-- ---- what directs an entity

-- an entity has a director or none
other-director : (f e : NetEntity) (d : NetDirector) → f ≡ e → f.director ≡ None → e.director ≡ Some d → ⊥
other-director f e d same none directed = none-some d (sym (subst (λ (x : NetEntity). x.director ≡ None) same none) ∙ directed)

-- what is directed is of a class of composites
pub directed-class : (e : NetEntity) (director : Directing) → IsDirectedBy e director → is_composite_class e.class ≡ true
directed-class e (By director) by = ap (λ b. b || bytes_eq e.class (codes "Modal")) (is-directed e director by).composite
directed-class e directing.Modal by = ap (λ b. bytes_eq e.class (codes "Composite") || b) (is-modal e by).modal ∙ or-true (bytes_eq e.class (codes "Composite"))

-- ---- the trees of entities

module _ (job : JobTree) (net : Net) (starts : Starts) (top : Tree) (leaves : ActorsAreLeaves job) (is : IsNetOf job net) (by_class : AreStartedByClass net starts) (tree : IsTree net starts 0 top) where
  abbrev HasTree : ℕ → Type 0
  HasTree k = (t : Tree) × IsTree net starts k t

  tree-among : {cs : List ℕ} {ts : List Tree} → AreTrees net starts cs ts → (i c : ℕ) → slice_get cs i ≡ Some c → HasTree c
  tree-among no_trees i c at = absurd (none-some c at)
  tree-among (more_trees k ks t ts a b) zero c at = subst HasTree (same_Some k c at) (t, a)
  tree-among (more_trees k ks t ts a b) (suc i) c at = tree-among b i c at

  rooted : AreRooted net
  rooted = entities-rooted net (net-rooted job net leaves is)

  alone : AreChildless net starts
  alone = childless net starts (net-nested job net leaves is) by_class

  number-of : (c : ℕ) (o : Option ℕ) → o ≡ Some c → is_number c o ≡ true
  number-of c o e = ap (is_number c) e ∙ eq-eqb c c refl

  among-trees : {ts : List Tree} (j k : ℕ) (e f : NetEntity) → IsEntity net j f → AreTrees net starts (children_of net.entities.items j) ts → IsEntity net k e → e.parent ≡ Some j → HasTree k
  among-trees j k e f at trees there round =
      let number : slice_get (children_of net.entities.items j) (child_number net.entities.items k) ≡ Some k = sym (get-is (children_of net.entities.items j) (child_number net.entities.items k)) ∙ child-number net.entities.items k j e f there round at in
      tree-among trees (child_number net.entities.items k) k number

  -- what stands in an entity that has a tree has one
  tree-below : {j : ℕ} {t : Tree} → IsTree net starts j t → (k : ℕ) (e : NetEntity) → IsEntity net k e → e.parent ≡ Some j → HasTree k
  tree-below (of_actor j f a at undirected started) k e there round = absurd (both_ways (is_child j e) (alone j f a at started k e there) (number-of j e.parent round))
  tree-below (of_composite j f director kids core at directed trees has) k e there round = among-trees {ts = kids} j k e f at trees there round

  tree-within : (n k : ℕ) → k < n → (e : NetEntity) → IsEntity net k e → HasTree k
  tree-within zero k below e at = absurd (omega (arith, below))
  tree-within (suc n) zero below e at = (top, tree)
  tree-within (suc n) (suc k) below e at =
      let r = rooted.others (suc k) e (omega arith) at in
      let w = slice_get_within net.entities.items (suc k) e at in
      let f = get-within net.entities.items r.0 (omega (arith, r.2, w)) in
      let h : HasTree r.0 = tree-within n r.0 (omega (arith, r.2, below)) f.0 f.1 in
      tree-below {t = h.0} h.1 (suc k) e at r.1

  tree-at : (k : ℕ) (e : NetEntity) → IsEntity net k e → HasTree k
  tree-at k e at = tree-within (suc k) k (omega arith) e at

  -- ---- so each entity is

  of-directed : {k : ℕ} {t : Tree} → IsTree net starts k t → (e : NetEntity) (d : NetDirector) → IsEntity net k e → e.director ≡ Some d → IsDirected e
  of-directed (of_actor k f a there undirected started) e d at directed = absurd (other-director f e d (same_Some f e (sym there ∙ at)) undirected.unnamed directed)
  of-directed (of_composite k f (By director) kids core there by trees has) e d at directed = subst IsDirected (same_Some f e (sym there ∙ at)) (is-directed f director by)
  of-directed (of_composite k f directing.Modal kids core there by trees has) e d at directed = absurd (other-director f e d (same_Some f e (sym there ∙ at)) (is-modal f by).unnamed directed)

  -- one with a director is a composite
  pub directed-composite : (k : ℕ) (e : NetEntity) (d : NetDirector) → IsEntity net k e → e.director ≡ Some d → IsDirected e
  directed-composite k e d at directed = of-directed (tree-at k e at).1 e d at directed

  -- what has the tree of a composite is of a class of composites
  of-plain : {k : ℕ} {t : Tree} → IsTree net starts k t → (e : NetEntity) → IsEntity net k e → is_composite_class e.class ≡ false → is_opaque t ≡ false
  of-plain (of_actor k f a there undirected started) e at plain = refl
  of-plain (of_composite k f director kids core there by trees has) e at plain = absurd (both_ways (is_composite_class e.class) plain (subst (λ (x : NetEntity). is_composite_class x.class ≡ true) (same_Some f e (sym there ∙ at)) (directed-class f director by)))

  kid-at : {cs : List ℕ} {ts : List Tree} → AreTrees net starts cs ts → (i c : ℕ) → slice_get cs i ≡ Some c → (t : Tree) × (get ts i ≡ Some t) × IsTree net starts c t
  kid-at no_trees i c at = absurd (none-some c at)
  kid-at (more_trees k ks t ts a b) zero c at = (t, refl, subst (λ (j : ℕ). IsTree net starts j t) (same_Some k c at) a)
  kid-at (more_trees k ks t ts a b) (suc i) c at = kid-at b i c at

  -- what stands in a Modal entity is none of a library
  no-plain : (j k : ℕ) (kids : List Tree) (e f : NetEntity) → IsEntity net j f → AreTrees net starts (children_of net.entities.items j) kids → AreOpaque kids → IsEntity net k e → e.parent ≡ Some j → is_composite_class e.class ≡ false → ⊥
  no-plain j k kids e f at trees opaque there round plain =
      let number : slice_get (children_of net.entities.items j) (child_number net.entities.items k) ≡ Some k = sym (get-is (children_of net.entities.items j) (child_number net.entities.items k)) ∙ child-number net.entities.items k j e f there round at in
      let w = kid-at trees (child_number net.entities.items k) k number in
      both_ways (is_opaque w.0) (of-plain w.2 e there plain) (opaque (child_number net.entities.items k) w.0 w.1)

  of-holder : {j : ℕ} {t : Tree} → IsTree net starts j t → (k : ℕ) (e : NetEntity) → IsEntity net k e → e.parent ≡ Some j → is_composite_class e.class ≡ false → (f : NetEntity) × IsEntity net j f × IsDirected f
  of-holder (of_actor j f a at undirected started) k e there round plain = absurd (both_ways (is_child j e) (alone j f a at started k e there) (number-of j e.parent round))
  of-holder (of_composite j f (By director) kids core at directed trees has) k e there round plain = (f, at, is-directed f director directed)
  of-holder (of_composite j f directing.Modal kids core at directed trees has) k e there round plain = absurd (no-plain j k kids e f at trees has.wired.refinements.opaque there round plain)

  -- each entity but the top stands in one before it
  pub stands-in : (k : ℕ) (e : NetEntity) → IsEntity net k e → (k ≡ 0 → ⊥) → (j : ℕ) × (e.parent ≡ Some j)
  stands-in zero e at later = absurd (later refl)
  stands-in (suc k) e at later = let r = rooted.others (suc k) e (omega arith) at in (r.0, r.1)

  parent-below : (k j : ℕ) (e : NetEntity) → IsEntity net k e → e.parent ≡ Some j → j < k
  parent-below zero j e at round = absurd (none-some j (sym (rooted.top e at) ∙ round))
  parent-below (suc k) j e at round = let r = rooted.others (suc k) e (omega arith) at in let same : r.0 ≡ j = same_Some r.0 j (sym r.1 ∙ round) in omega (arith, same, r.2)

  -- and where it is of a library, that is a composite with a director
  pub holder-composite : (k j : ℕ) (e : NetEntity) → IsEntity net k e → e.parent ≡ Some j → is_composite_class e.class ≡ false → (f : NetEntity) × IsEntity net j f × IsDirected f
  holder-composite k j e at round plain =
      let w = slice_get_within net.entities.items k e at in
      let f = get-within net.entities.items j (omega (arith, w, parent-below k j e at round)) in
      of-holder (tree-at j f.0 f.1).1 k e at round plain
