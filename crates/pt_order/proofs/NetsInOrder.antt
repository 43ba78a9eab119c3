-- The net of a document without faults of links is in order, where a tree can be built of it.
use Rattle.std.proofs.Common.{◌≡◌, ◌⊎◌, inl, inr, ℕ, List, true, ◌||◌, Some, codes, bytes_eq, sym, ap, subst, ◌∙◌}
use Rattle.std.proofs.lemmas.Bool.{both_ways}
use Rattle.std.proofs.lemmas.Option.{same_Some}
use Rattle.std.specs.List.{slice_get}
use Rattle.pt_document.specs.Classes.{kind_of}
use Rattle.pt_document.specs.Document.{Parts, parts}
use Rattle.pt_net.specs.declared.net.Net.{Net}
use Rattle.pt_net.specs.declared.net.NetDirector.{NetDirector}
use Rattle.pt_net.specs.declared.net.NetEntity.{NetEntity}
use Rattle.pt_net.specs.Standing.{entities}
use Rattle.pt_net.specs.Net.{NetEntityTree, net_ports_of_kind, net_ports, entity_view}
use Rattle.pt_scopes.specs.Scopes.{net_view, is_composite_class}
use Rattle.pt_start.specs.Nested.{IsNested}
use Rattle.pt_node.specs.View.{Tree}
use Rattle.pt_trees.specs.Trees.{Starts, IsTree}
use Rattle.pt_cover.specs.Leaves.{ActorsAreLeaves, AreStartedByClass}
use Rattle.pt_cover.proofs.Reading.{documents-leaves}
use Rattle.pt_cover.proofs.Walk.{ArePlaced, all-placed}
use Rattle.pt_cover.proofs.Nesting.{net-nested}
use Rattle.pt_order.specs.ClassPorts.{HaveOwnNames}
use Rattle.pt_order.specs.Wired.{IsWired}
use Rattle.pt_order.specs.ClassPorts.{HaveClassPorts}
use Rattle.pt_order.specs.Laws.{IsNetOfDocument, NetsAreInOrder}
use Rattle.pt_order.proofs.PortRules.{own-names}
use Rattle.pt_order.proofs.Standings.{AreSeen, documents-seen}
use Rattle.pt_order.proofs.NetStandings.{standing-of}
use Rattle.pt_order.proofs.ClassNames.{composite-or-modal}
use Rattle.pt_order.proofs.WiredNets.{wired}
use Rattle.pt_order.proofs.ClassPortsHeld.{class-ports-held}
use Rattle.pt_order.proofs.TreeCover.{actor-kind, directed-composite, holder-composite, stands-in}

-- the ports of a Composite or a Modal entity are those that it declares
pub composite-declares : (own : Parts) → is_composite_class own.class ≡ true → net_ports own ≡ own.ports
unfolding kind_of
composite-declares own e = by-name (composite-or-modal own.class e)
  where
    by-name : (own.class ≡ codes "Composite") ⊎ (own.class ≡ codes "Modal") → net_ports own ≡ own.ports
    by-name (inl is) = ap (λ (n : List ℕ). net_ports_of_kind (kind_of n) own.ports) is
    by-name (inr is) = ap (λ (n : List ℕ). net_ports_of_kind (kind_of n) own.ports) is

module _ (net : Net) (starts : Starts) (top : Tree) (doc : IsNetOfDocument net) (by_class : AreStartedByClass net starts) (tree : IsTree net starts 0 top) where
  leaves : ActorsAreLeaves doc.job
  leaves = documents-leaves doc.bytes doc.job doc.read

  seen : AreSeen (entities doc.job)
  seen = documents-seen doc.bytes doc.job doc.read

  placed : ArePlaced (entities doc.job)
  placed = all-placed doc.job leaves

  nested : IsNested (net_view net)
  nested = net-nested doc.job net leaves doc.made

  is-wired : IsWired net
  is-wired = wired doc.job net seen placed doc.made nested doc.clean (directed-composite doc.job net starts top leaves doc.made by_class tree)

  have-class-ports : (e : NetEntity) (d : NetDirector) → slice_get net.entities.items 0 ≡ Some e → e.director ≡ Some d → HaveClassPorts net
  have-class-ports first d at directed k e there plain =
      let st = standing-of doc.job net placed doc.made k e there in
      let read = (seen st.place st.standing st.at).read in
      let same : (parts st.standing.tree).class ≡ e.class = ap (λ (x : NetEntityTree). x.class) (sym st.same) in
      let kind = actor-kind e.class read.kind (ap kind_of (sym same) ∙ read.kind_is) plain in
      let top_class = ap (λ b. b || bytes_eq first.class (codes "Modal")) (directed-composite doc.job net starts top leaves doc.made by_class tree 0 first d at directed).composite in
      let later = λ (zero : k ≡ 0). both_ways (is_composite_class e.class) plain (ap (λ (x : NetEntity). is_composite_class x.class) (same_Some e first (sym there ∙ ap (slice_get net.entities.items) zero ∙ at)) ∙ top_class) in
      let round = stands-in doc.job net starts top leaves doc.made by_class tree k e there later in
      let f = holder-composite doc.job net starts top leaves doc.made by_class tree k round.0 e there round.1 plain in
      class-ports-held doc.job net seen placed doc.made nested doc.clean k round.0 e f.0 kind.0 there round.1 f.1 f.2 kind.1

  have-own-names : (k : ℕ) (e : NetEntity) → slice_get net.entities.items k ≡ Some e → is_composite_class e.class ≡ true → HaveOwnNames (entity_view e).ports
  have-own-names k e at class =
      let st = standing-of doc.job net placed doc.made k e at in
      let own = parts st.standing.tree in
      let read = (seen st.place st.standing st.at).read in
      let composite : is_composite_class own.class ≡ true = ap (λ (x : NetEntityTree). is_composite_class x.class) (sym st.same) ∙ class in
      let ports : own.ports ≡ (entity_view e).ports = sym (ap (λ (x : NetEntityTree). x.ports) st.same ∙ composite-declares own composite) in
      subst HaveOwnNames ports (own-names own.ports read.distinct)

pub nets-in-order : NetsAreInOrder
nets-in-order net starts e d top doc by_class tree at directed = record {
  wired = is-wired net starts top doc by_class tree;
  class_ports = have-class-ports net starts top doc by_class tree e d at directed;
  own_names = have-own-names net starts top doc by_class tree;
}
