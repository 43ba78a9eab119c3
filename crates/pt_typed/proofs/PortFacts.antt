-- What the typing of a net says of the ports of an entity.
use Rattle.std.proofs.Common.{◌≡◌, ℕ, zero, suc, ◌+◌, List, [], ◌∷◌, ◌++◌, map, Some, refl, ap, subst, slice_get, arith}
use Rattle.std.proofs.lemmas.List.Elements.{recursion_from_All}
use Rattle.std.specs.List.{AllByRecursion}
use Rattle.std.proofs.lemmas.List.Elements.{All-contains, All-from_recursion}
use Rattle.pt_datatypes.specs.Datatype.{Datatype, Int, Boolean, Words}
use Rattle.pt_datatypes.specs.Normal.{array_of}
use Rattle.pt_datatypes.specs.Order.{IsBelow}
use Rattle.pt_language.specs.Types.{Types}
use Rattle.pt_language.specs.Typing.{or_general}
use Rattle.pt_language.specs.TreeType.{element}
use Rattle.pt_document.specs.declared.job.Direction.{Direction}
use Rattle.pt_document.specs.Document.{PortTree}
use Rattle.pt_net.specs.declared.net.Channel.{Channel}
use Rattle.pt_net.specs.declared.net.Net.{Net}
use Rattle.pt_net.specs.Net.{NetEntityTree, entity_view}
use Rattle.pt_scopes.specs.declared.values.Values.{Values}
use Rattle.pt_scopes.specs.Scopes.{net_view}
use Rattle.pt_scopes.specs.Valued.{EntityView, inputs_view}
use Rattle.pt_scopes.specs.Valued as valued
use Rattle.pt_typing.specs.declared.variable.Variable.TheVariants.{Port, Row}
use Rattle.pt_typing.specs.Least.{Assignment, IsMet}
use Rattle.pt_inequalities.specs.declared.row.PortType.{PortType}
use Rattle.pt_inequalities.specs.declared.row.PortType.TheVariants as port
use Rattle.pt_inequalities.specs.Rows.{port_type, port_type_in, port_rows, declared_output, seedings}
use Rattle.pt_inequalities.specs.Frames.{Frames, frames_of, seen_types}
use Rattle.pt_inequalities.specs.Inequalities.{of_channel, of_port, of_ports, of_parameters, of_standards, of_entity, of_entities, of_inputs, top_inputs, inequalities}
use Rattle.pt_inequalities.specs.Typing.{IsTyping}
use Rattle.pt_typed.specs.NetTypes.{source_type, place_type, TypesGoUp}

-- ---- lists

pub all-front : {X : Type 0} (P : X → Type 0) (xs ys : List X) → AllByRecursion P (xs ++ ys) → AllByRecursion P xs
all-front P [] ys a = tt
all-front P (x ∷ xs) ys a = (a.0, all-front P xs ys a.1)

pub all-back : {X : Type 0} (P : X → Type 0) (xs ys : List X) → AllByRecursion P (xs ++ ys) → AllByRecursion P ys
all-back P [] ys a = a
all-back P (x ∷ xs) ys a = all-back P xs ys a.1

all-mapped : {X Y : Type 0} (P : Y → Type 0) (f : X → Y) (xs : List X) → AllByRecursion P (map f xs) → AllByRecursion (λ x. P (f x)) xs
all-mapped P f [] a = tt
all-mapped P f (x ∷ xs) a = (a.0, all-mapped P f xs a.1)

-- ---- all inequalities

pub all-met : (net : Net) (values : Values) (typing : Assignment) → IsTyping net values typing → AllByRecursion (IsMet typing) (inequalities net values)
all-met net values typing is = recursion_from_All (IsMet typing) (inequalities net values) is.above.meets.met

-- along channels
pub channels-go-up : (net : Net) (values : Values) (typing : Assignment) → IsTyping net values typing → TypesGoUp net typing
channels-go-up net values typing is k there =
    let ks = net.channels.items in
    let all = all-mapped (IsMet typing) of_channel ks (all-front (IsMet typing) (map of_channel ks) _ (all-met net values typing is)) in
    All-contains (λ (c : Channel). IsBelow (source_type typing c) (place_type typing c)) ks k (All-from_recursion (λ (c : Channel). IsBelow (source_type typing c) (place_type typing c)) ks all) there

-- of one entity
entity-at : (frames : Frames) (typing : Assignment) (i : ℕ) (es : List NetEntityTree) (vs : List EntityView) (n : ℕ) (e : NetEntityTree) (v : EntityView) → AllByRecursion (IsMet typing) (of_entities frames i es vs) → slice_get es n ≡ Some e → slice_get vs n ≡ Some v →
    AllByRecursion (IsMet typing) (of_entity frames (i + n) e (Some v))
entity-at frames typing i [] vs n e v a at held = absurd (cc)
entity-at frames typing i (d ∷ es) [] n e v a at held = absurd (cc)
entity-at frames typing i (d ∷ es) (w ∷ vs) zero e v a at held =
    let same : d ≡ e = cc in
    let value : w ≡ v = cc in
    let here = all-front (IsMet typing) (of_entity frames i d (Some w)) (of_entities frames (suc i) es vs) a in
    subst (λ m. AllByRecursion (IsMet typing) (of_entity frames m e (Some v))) (let z : i ≡ i + 0 = omega arith in z)
    (subst (λ u. AllByRecursion (IsMet typing) (of_entity frames i e (Some u))) value (subst (λ c. AllByRecursion (IsMet typing) (of_entity frames i c (Some w))) same here))
entity-at frames typing i (d ∷ es) (w ∷ vs) (suc n) e v a at held =
    subst (λ m. AllByRecursion (IsMet typing) (of_entity frames m e (Some v))) (let z : suc i + n ≡ i + suc n = omega arith in z)
    (entity-at frames typing (suc i) es vs n e v (all-back (IsMet typing) (of_entity frames i d (Some w)) (of_entities frames (suc i) es vs) a) at held)

pub entity-met : (net : Net) (values : Values) (typing : Assignment) (k : ℕ) (e : NetEntityTree) (v : EntityView) → IsTyping net values typing → slice_get (map entity_view net.entities.items) k ≡ Some e → slice_get (map valued.entity_view values.entities.items) k ≡ Some v →
    AllByRecursion (IsMet typing) (of_entity (frames_of net values) k e (Some v))
entity-met net values typing k e v is at held =
    let frames = frames_of net values in
    let es = map entity_view net.entities.items in
    let vs = map valued.entity_view values.entities.items in
    let rest = of_inputs (top_inputs es) (net_view net).inputs (inputs_view values) in
    let entities = all-front (IsMet typing) (of_entities frames 0 es vs) rest (all-back (IsMet typing) (map of_channel net.channels.items) (of_entities frames 0 es vs ++ rest) (all-met net values typing is)) in
    subst (λ m. AllByRecursion (IsMet typing) (of_entity frames m e (Some v))) (let z : 0 + k ≡ k = omega arith in z) (entity-at frames typing 0 es vs k e v entities at held)

-- ---- the ports of an entity

-- what is known of the type t of a port, by what passes there, where r is the type of the row
abbrev pub PortFact : (r t : Datatype) → PortType → Type 0
PortFact r t port.Free = Unit {0}
PortFact r t port.Int = IsBelow Int t
PortFact r t port.Boolean = IsBelow Boolean t
PortFact r t port.Words = IsBelow Words t
PortFact r t port.Row = IsBelow r t × IsBelow t r
PortFact r t port.RowArray = IsBelow (array_of r) t × IsBelow (or_general (element t)) r
PortFact r t port.Tree = Unit {0}
PortFact r t port.Assembled = Unit {0}
PortFact r t port.Field = Unit {0}

abbrev pub PortFacts : (r : Datatype) → (ℕ → Datatype) → ℕ → List PortType → Type 0
PortFacts r types i [] = Unit {0}
PortFacts r types i (t ∷ ts) = PortFact r (types i) t × PortFacts r types (suc i) ts

port-fact : (typing : Assignment) (k : ℕ) (e : NetEntityTree) (v : EntityView) (types : Types) (i : ℕ) (name : List ℕ) (t : PortType) → AllByRecursion (IsMet typing) (of_port k e v types i name t) → PortFact (typing.types (Row k)) (typing.types (Port k i)) t
port-fact typing k e v types i name port.Free a = tt
port-fact typing k e v types i name port.Int a = a.0
port-fact typing k e v types i name port.Boolean a = a.0
port-fact typing k e v types i name port.Words a = a.0
port-fact typing k e v types i name port.Row a = (a.0, a.1.0)
port-fact typing k e v types i name port.RowArray a = (a.0, a.1.0)
port-fact typing k e v types i name port.Tree a = tt
port-fact typing k e v types i name port.Assembled a = tt
port-fact typing k e v types i name port.Field a = tt

ports-facts : (typing : Assignment) (k : ℕ) (e : NetEntityTree) (v : EntityView) (types : Types) (i : ℕ) (ps : List PortTree) → AllByRecursion (IsMet typing) (of_ports k e v types i ps) → PortFacts (typing.types (Row k)) (λ n. typing.types (Port k n)) i (map (port_type e.class) ps)
ports-facts typing k e v types i [] a = tt
ports-facts typing k e v types i (p ∷ ps) a = (
  port-fact typing k e v types i p.name (port_type e.class p) (all-front (IsMet typing) (of_port k e v types i p.name (port_type e.class p)) (of_ports k e v types (suc i) ps) a),
  ports-facts typing k e v types (suc i) ps (all-back (IsMet typing) (of_port k e v types i p.name (port_type e.class p)) (of_ports k e v types (suc i) ps) a),
)

-- the ports by their names and directions
abbrev pub head : PortTree → List ℕ × Direction
head p = (p.name, p.direction)

unfoldable pub head_type : List ℕ → List ℕ × Direction → PortType
head_type class h = declared_output class h.1 (port_type_in port_rows class h.0)

heads-types : (class : List ℕ) (ps : List PortTree) → map (port_type class) ps ≡ map (head_type class) (map head ps)
unfolding head_type port_type
heads-types class [] = refl
heads-types class (p ∷ ps) = ap (λ ts. declared_output class p.direction (port_type_in port_rows class p.name) ∷ ts) (heads-types class ps)

pub entity-facts : (net : Net) (values : Values) (typing : Assignment) (k : ℕ) (e : NetEntityTree) (v : EntityView) → IsTyping net values typing → slice_get (map entity_view net.entities.items) k ≡ Some e → slice_get (map valued.entity_view values.entities.items) k ≡ Some v →
    PortFacts (typing.types (Row k)) (λ n. typing.types (Port k n)) 0 (map (head_type e.class) (map head e.ports))
entity-facts net values typing k e v is at held =
    let types = seen_types (frames_of net values) e.within e.parent in
    let all = entity-met net values typing k e v is at held in
    subst (λ ts. PortFacts (typing.types (Row k)) (λ n. typing.types (Port k n)) 0 ts) (heads-types e.class e.ports)
    (ports-facts typing k e v types 0 e.ports (all-front (IsMet typing) (of_ports k e v types 0 e.ports) (of_parameters k e.class e.parameters v.parameters ++ of_standards k e.class e.parameters seedings) all))
