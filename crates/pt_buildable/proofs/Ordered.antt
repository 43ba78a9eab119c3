-- The net of a document without faults of links whose composites are directed is in order.
use Rattle.std.proofs.Common.{◌≡◌, ℕ, true, ◌||◌, Some, codes, bytes_eq, sym, ap, subst, ◌∙◌}
use Rattle.std.proofs.lemmas.Bool.{both_ways}
use Rattle.std.proofs.lemmas.Option.{same_Some}
use Rattle.std.specs.List.{slice_get}
use Rattle.pt_document.specs.Classes.{kind_of}
use Rattle.pt_document.specs.Document.{parts}
use Rattle.pt_net.specs.declared.net.Net.{Net}
use Rattle.pt_net.specs.declared.net.NetDirector.{NetDirector}
use Rattle.pt_net.specs.declared.net.NetEntity.{NetEntity}
use Rattle.pt_net.specs.Standing.{entities}
use Rattle.pt_net.specs.Net.{NetEntityTree, entity_view}
use Rattle.pt_scopes.specs.Scopes.{net_view, is_composite_class}
use Rattle.pt_start.specs.Nested.{IsNested}
use Rattle.pt_trees.specs.Trees.{IsEntity, IsDirected}
use Rattle.pt_cover.specs.Leaves.{ActorsAreLeaves}
use Rattle.pt_cover.proofs.Reading.{documents-leaves}
use Rattle.pt_cover.proofs.Walk.{ArePlaced, all-placed}
use Rattle.pt_cover.proofs.Nesting.{IsRooted, net-nested, net-rooted}
use Rattle.pt_order.specs.ClassPorts.{HaveOwnNames, HaveClassPorts}
use Rattle.pt_order.specs.Wired.{IsWired}
use Rattle.pt_order.specs.Laws.{IsNetOfDocument, IsInOrder}
use Rattle.pt_order.proofs.PortRules.{own-names}
use Rattle.pt_order.proofs.Standings.{AreSeen, documents-seen}
use Rattle.pt_order.proofs.NetStandings.{standing-of}
use Rattle.pt_order.proofs.WiredNets.{wired}
use Rattle.pt_order.proofs.ClassPortsHeld.{class-ports-held}
use Rattle.pt_order.proofs.TreeCover.{actor-kind}
use Rattle.pt_order.proofs.NetsInOrder.{composite-declares}
use Rattle.pt_buildable.specs.Composites.{HasDirectedComposites, HasOpaqueRefinements}
use Rattle.pt_buildable.proofs.Composites.{directed-there, holder-directed, stands-in}

module _ (net : Net) (doc : IsNetOfDocument net) where
  pub leaves : ActorsAreLeaves doc.job
  leaves = documents-leaves doc.bytes doc.job doc.read

  pub seen : AreSeen (entities doc.job)
  seen = documents-seen doc.bytes doc.job doc.read

  pub placed : ArePlaced (entities doc.job)
  placed = all-placed doc.job leaves

  pub nested : IsNested (net_view net)
  nested = net-nested doc.job net leaves doc.made

  pub rooted : IsRooted (net_view net)
  rooted = net-rooted doc.job net leaves doc.made

  module _ (all : HasDirectedComposites net) where
    pub owner : (k : ℕ) (e : NetEntity) (d : NetDirector) → IsEntity net k e → e.director ≡ Some d → IsDirected e
    owner = directed-there doc.job net seen placed doc.made nested rooted all

    is-wired : IsWired net
    is-wired = wired doc.job net seen placed doc.made nested doc.clean owner

    have-class-ports : HasOpaqueRefinements net → (e : NetEntity) (d : NetDirector) → IsEntity net 0 e → e.director ≡ Some d → HaveClassPorts net
    have-class-ports opaque first d at directed k e there plain =
        let st = standing-of doc.job net placed doc.made k e there in
        let read = (seen st.place st.standing st.at).read in
        let same : (parts st.standing.tree).class ≡ e.class = ap (λ (x : NetEntityTree). x.class) (sym st.same) in
        let kind = actor-kind e.class read.kind (ap kind_of (sym same) ∙ read.kind_is) plain in
        let top_class = ap (λ b. b || bytes_eq first.class (codes "Modal")) (owner 0 first d at directed).composite in
        let later = λ (zero : k ≡ 0). both_ways (is_composite_class e.class) plain (ap (λ (x : NetEntity). is_composite_class x.class) (same_Some e first (sym there ∙ ap (slice_get net.entities.items) zero ∙ at)) ∙ top_class) in
        let round = stands-in doc.job net seen placed doc.made nested rooted all k e there later in
        let f = holder-directed doc.job net seen placed doc.made nested rooted all opaque k round.0 e there round.1 plain in
        class-ports-held doc.job net seen placed doc.made nested doc.clean k round.0 e f.0 kind.0 there round.1 f.1 f.2 kind.1

    have-own-names : (k : ℕ) (e : NetEntity) → IsEntity net k e → is_composite_class e.class ≡ true → HaveOwnNames (entity_view e).ports
    have-own-names k e at class =
        let st = standing-of doc.job net placed doc.made k e at in
        let own = parts st.standing.tree in
        let read = (seen st.place st.standing st.at).read in
        let composite : is_composite_class own.class ≡ true = ap (λ (x : NetEntityTree). is_composite_class x.class) (sym st.same) ∙ class in
        let ports : own.ports ≡ (entity_view e).ports = sym (ap (λ (x : NetEntityTree). x.ports) st.same ∙ composite-declares own composite) in
        subst HaveOwnNames ports (own-names own.ports read.distinct)

    pub ordered : HasOpaqueRefinements net → (e : NetEntity) (d : NetDirector) → IsEntity net 0 e → e.director ≡ Some d → IsInOrder net
    ordered opaque e d at directed = record { wired = is-wired; class_ports = have-class-ports opaque e d at directed; own_names = have-own-names }
