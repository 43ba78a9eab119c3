-- The ports of an Expression in the net of a document: the inputs that it declares, under other names than its output, which is the last.
use Rattle.std.proofs.Common.{◌≡◌, ℕ, List, [], ◌∷◌, ◌++◌, map, false, Option, Some, refl, sym, ap, subst, ◌∙◌, codes, bytes_eq}
use Rattle.std.specs.List.{AllByRecursion, slice_get}
use Rattle.pt_document.specs.declared.job.Direction.{Direction}
use Rattle.pt_document.specs.declared.job.Direction.TheVariants.{Input, Output}
use Rattle.pt_document.specs.Classes.{ClassPort, Class, Kind, Actor, kind_of, class_row, classes}
use Rattle.pt_document.specs.Document.{PortTree, parts}
use Rattle.pt_net.specs.declared.net.Net.{Net}
use Rattle.pt_net.specs.declared.net.NetEntity.{NetEntity}
use Rattle.pt_net.specs.Table.{joined_ports}
use Rattle.pt_net.specs.Net.{NetEntityTree, row_port, net_ports_of_kind, entity_view}
use Rattle.pt_cover.proofs.Reading.{documents-leaves}
use Rattle.pt_cover.proofs.Walk.{all-placed}
use Rattle.pt_order.specs.Laws.{IsNetOfDocument}
use Rattle.pt_order.proofs.PortRules.{actor-declares}
use Rattle.pt_order.proofs.Standings.{documents-seen}
use Rattle.pt_order.proofs.NetStandings.{standing-of}
use Rattle.pt_lib_flow.specs.declared.flow_actor.Class.TheVariants as class
use Rattle.pt_typed.proofs.ClassPorts.{heads_in, declares_in}
use Rattle.pt_typed.proofs.FlowClasses as flow_classes
use Rattle.pt_typed.proofs.RecordRows.{one-row, directions-all}

expression-declares : declares_in (kind_of (codes "Expression")) ≡ Some Input
unfolding kind_of class_row classes
expression-declares = refl

-- inputs before one output
pub record AreExpressionPorts (ports : List PortTree) : Type 0 where
  pub declared : List PortTree
  pub output : PortTree
  pub are : ports ≡ declared ++ (output ∷ [])
  pub inputs : AllByRecursion (λ (p : PortTree). Input ≡ p.direction) declared
  pub others : AllByRecursion (λ (p : PortTree). bytes_eq p.name (codes "output") ≡ false) declared
  pub named : output.name ≡ codes "output"
  pub way : output.direction ≡ Output

named-apart : (o : Option Direction) (row : ClassPort) (ps : List PortTree) → row.name ≡ codes "output" → AllByRecursion (λ (p : PortTree). (o ≡ Some p.direction) × AllByRecursion (λ (r : ClassPort). bytes_eq p.name r.name ≡ false) (row ∷ [])) ps → AllByRecursion (λ (p : PortTree). bytes_eq p.name (codes "output") ≡ false) ps
named-apart o row [] called a = tt
named-apart o row (p ∷ ps) called a = (subst (λ n. bytes_eq p.name n ≡ false) called a.0.1.0, named-apart o row ps called a.1)

pub expression-ports : (net : Net) (k : ℕ) (e : NetEntity) (c : Class) → IsNetOfDocument net → slice_get net.entities.items k ≡ Some e → e.class ≡ codes "Expression" → kind_of e.class ≡ Some (Actor c) → AreExpressionPorts (entity_view e).ports
expression-ports net k e c doc at named kind =
    let placed = all-placed doc.job (documents-leaves doc.bytes doc.job doc.read) in
    let st = standing-of doc.job net placed doc.made k e at in
    let own = parts st.standing.tree in
    let read = (documents-seen doc.bytes doc.job doc.read st.place st.standing st.at).read in
    let kind-own : kind_of own.class ≡ Some (Actor c) = ap (λ (x : NetEntityTree). kind_of x.class) (sym st.same) ∙ kind in
    let whole : kind_of (codes "Expression") ≡ Some (Actor c) = ap kind_of (sym named) ∙ kind in
    let declares : c.declares ≡ Some Input = sym (ap declares_in whole) ∙ expression-declares in
    let row = one-row c.ports (codes "output", Output) (sym (ap heads_in whole) ∙ flow_classes.heads-are class.Expression) in
    let called : row.0.name ≡ codes "output" = ap (λ (h : List ℕ × Direction). h.0) row.2 in
    let fit : AllByRecursion (λ (p : PortTree). (c.declares ≡ Some p.direction) × AllByRecursion (λ (r : ClassPort). bytes_eq p.name r.name ≡ false) (row.0 ∷ [])) own.ports =
    subst (λ qs. AllByRecursion (λ (p : PortTree). (c.declares ≡ Some p.direction) × AllByRecursion (λ (r : ClassPort). bytes_eq p.name r.name ≡ false) qs) own.ports) row.1 (actor-declares own c read kind-own) in
    record {
      declared = own.ports;
      output = row_port row.0;
      are = ap (λ (x : NetEntityTree). x.ports) st.same ∙ ap (λ (o : Option Kind). net_ports_of_kind o own.ports) kind-own ∙ ap (λ o. joined_ports o own.ports (map row_port c.ports)) declares ∙ ap (λ qs. own.ports ++ map row_port qs) row.1;
      inputs = directions-all c.declares Input (row.0 ∷ []) own.ports declares fit;
      others = named-apart c.declares row.0 own.ports called fit;
      named = called;
      way = ap (λ (h : List ℕ × Direction). h.1) row.2;
    }
