-- The ports of the entities of a document's net have names.
use Rattle.std.proofs.Common.{◌≡◌, ℕ, zero, suc, List, [], ◌∷◌, ◌++◌, Bool, true, false, cond, Option, Some, None, map, refl, sym, ap, subst, ◌∙◌}
use Rattle.std.proofs.lemmas.Option.{none-some, same_Some, slice_get-map}
use Rattle.std.specs.List.{list_all}
use Rattle.std.specs.Prelude.{slice_get, option_map, bytes_eq, codes}
use Rattle.pt_document.specs.declared.job.Direction.{Direction}
use Rattle.pt_document.specs.declared.job.Direction.TheVariants.{Input, Output}
use Rattle.pt_document.specs.declared.job.Port.{Port}
use Rattle.pt_document.specs.Classes.{Class, ClassPort, Kind, Composite, Modal, Actor, classes, class_in, class_row, kind_of}
use Rattle.pt_document.specs.Document.{PortTree, parts}
use Rattle.pt_document.specs.Names.{is_name}
use Rattle.pt_document.specs.View as view
use Rattle.pt_net.specs.declared.net.Net.{Net}
use Rattle.pt_net.specs.declared.net.NetEntity.{NetEntity}
use Rattle.pt_net.specs.Net.{NetEntityTree, row_port, net_ports_of_kind, net_ports}
use Rattle.pt_net.specs.Table.{joined_ports}
use Rattle.pt_order.specs.Laws.{IsNetOfDocument}
use Rattle.pt_order.proofs.ReadParts.{AreNamed}
use Rattle.pt_order.proofs.Standings.{documents-seen}
use Rattle.pt_trace.specs.ReportForm.{IsName}
use Rattle.pt_tellable.proofs.Names.{and-left, and-right, name-of}
use Rattle.pt_tellable.proofs.NetPaths.{stands}

named-append : (ps qs : List PortTree) → AreNamed ps → AreNamed qs → AreNamed (ps ++ qs)
named-append [] qs g h = h
named-append (p ∷ ps) qs g h = (g.0, named-append ps qs g.1 h)

-- ---- the classes of library actors

ports_have_names : List ClassPort → Bool
ports_have_names ps = list_all (λ (p : ClassPort). is_name p.name) ps

classes_have_names : List Class → Bool
classes_have_names cs = list_all (λ (c : Class). ports_have_names c.ports) cs

all-classes : classes_have_names classes ≡ true
unfolding classes_have_names ports_have_names classes is_name
all-classes = refl

rows-named : (ps : List ClassPort) → ports_have_names ps ≡ true → AreNamed (map row_port ps)
unfolding ports_have_names
rows-named [] e = tt
rows-named (p ∷ ps) e = (and-left (is_name p.name) (list_all (λ (q : ClassPort). is_name q.name) ps) e, rows-named ps (and-right (is_name p.name) (list_all (λ (q : ClassPort). is_name q.name) ps) e))

found-named : (cs : List Class) (name : List ℕ) (class : Class) → classes_have_names cs ≡ true → class_in cs name ≡ Some class → ports_have_names class.ports ≡ true
unfolding classes_have_names
found-named [] name class e h = absurd (none-some class h)
found-named (c ∷ cs) name class e h = by_name (λ g. found-named cs name class (and-right (ports_have_names c.ports) (list_all (λ (v : Class). ports_have_names v.ports) cs) e) g) (bytes_eq c.name name) h
  where
    by_name : (class_in cs name ≡ Some class → ports_have_names class.ports ≡ true) → (b : Bool) → cond b (Some c) (class_in cs name) ≡ Some class → ports_have_names class.ports ≡ true
    by_name ih true g = subst (λ (v : Class). ports_have_names v.ports ≡ true) (same_Some c class g) (and-left (ports_have_names c.ports) (list_all (λ (v : Class). ports_have_names v.ports) cs) e)
    by_name ih false g = ih g

-- ---- what an entity has

actor-ports : (class : Class) (ps : List PortTree) → ports_have_names class.ports ≡ true → AreNamed ps → AreNamed (joined_ports class.declares ps (map row_port class.ports))
actor-ports class ps e h = by_direction class.declares
  where
    by_direction : (d : Option Direction) → AreNamed (joined_ports d ps (map row_port class.ports))
    by_direction None = named-append ps (map row_port class.ports) h (rows-named class.ports e)
    by_direction (Some Input) = named-append ps (map row_port class.ports) h (rows-named class.ports e)
    by_direction (Some Output) = named-append (map row_port class.ports) ps (rows-named class.ports e) h

kind-ports : (kind : Option Kind) (ps : List PortTree) → ((class : Class) → kind ≡ Some (Actor class) → ports_have_names class.ports ≡ true) → AreNamed ps → AreNamed (net_ports_of_kind kind ps)
kind-ports (Some (Actor class)) ps named h = actor-ports class ps (named class refl) h
kind-ports (Some Composite) ps named h = h
kind-ports (Some Modal) ps named h = h
kind-ports None ps named h = h

-- a kind of library actors is that of a class
class-named : (name : List ℕ) (class : Class) → kind_of name ≡ Some (Actor class) → ports_have_names class.ports ≡ true
unfolding kind_of class_row
class-named name class e = by_name (bytes_eq name (codes "Composite")) (bytes_eq name (codes "Modal")) e
  where
    of_row : (o : Option Class) → class_in classes name ≡ o → option_map Actor o ≡ Some (Actor class) → ports_have_names class.ports ≡ true
    of_row None is g = absurd (none-some (Actor class) g)
    of_row (Some row) is g =
        let kinds : Actor row ≡ Actor class = same_Some (Actor row) (Actor class) g in
        let same : row ≡ class = cc in
        subst (λ (c : Class). ports_have_names c.ports ≡ true) same (found-named classes name row all-classes is)

    by_name : (b c : Bool) → cond b (Some Composite) (cond c (Some Modal) (option_map Actor (class_in classes name))) ≡ Some (Actor class) → ports_have_names class.ports ≡ true
    by_name true c g = let clash : Composite ≡ Actor class = same_Some Composite (Actor class) g in absurd (cc)
    by_name false true g = let clash : Modal ≡ Actor class = same_Some Modal (Actor class) g in absurd (cc)
    by_name false false g = of_row (class_in classes name) refl g

-- ---- a port of an entity of the net

each-named : (ps : List PortTree) (i : ℕ) (p : PortTree) → AreNamed ps → slice_get ps i ≡ Some p → is_name p.name ≡ true
each-named [] i p h e = absurd (none-some p e)
each-named (q ∷ ps) zero p h e = let same : q ≡ p = same_Some q p e in subst (λ (v : PortTree). is_name v.name ≡ true) same h.0
each-named (q ∷ ps) (suc i) p h e = each-named ps i p h.1 e

pub port-named : (net : Net) (doc : IsNetOfDocument net) (k : ℕ) (e : NetEntity) (i : ℕ) (p : Port) → slice_get net.entities.items k ≡ Some e → slice_get e.ports.items i ≡ Some p → IsName p.name
port-named net doc k e i p at there =
    let s = stands net doc k e at in
    let read = (documents-seen doc.bytes doc.job doc.read s.place s.standing s.at).read in
    let own = parts s.standing.tree in
    let all : AreNamed (net_ports own) = kind-ports (kind_of own.class) own.ports (λ class is. class-named own.class class is) read.names in
    let seen : slice_get (net_ports own) i ≡ Some (view.port_view p) =
    ap (λ (t : NetEntityTree). slice_get t.ports i) (sym s.same) ∙ slice_get-map view.port_view e.ports.items i ∙ ap (λ (o : Option Port). option_map view.port_view o) there
    in
    name-of p.name (each-named (net_ports own) i (view.port_view p) all seen)
