-- What a recorded port of a net is: an output of an entity that is there, told by the path of that entity and its own name.
use Rattle.std.proofs.Common.{◌≡◌, ◌⊎◌, inl, inr, ◌+◌, ℕ, zero, suc, List, [], ◌∷◌, ◌++◌, true, not, Option, Some, None, map, refl, sym, ap, ap₂, subst, ◌∙◌, arith}
use Rattle.std.specs.Prelude.{option_map}
use Rattle.std.proofs.lemmas.List.{map-append}
use Rattle.std.proofs.lemmas.List.Elements.{Contains-append_cases}
use Rattle.std.proofs.lemmas.Option.{none-some, same_Some, slice_get-map}
use Rattle.std.specs.List.{AllZip, Contains, slice_get}
use Rattle.pt_document.specs.declared.job.Direction.{Direction}
use Rattle.pt_document.specs.declared.job.Direction.TheVariants.{Input, Output}
use Rattle.pt_document.specs.declared.job.Port.{Port}
use Rattle.pt_document.specs.Document.{PortTree, Parts, parts, JobTree}
use Rattle.pt_document.specs.Classes.{ClassPort, Kind, Composite, Modal, Actor, kind_of}
use Rattle.pt_document.specs.Names.{below}
use Rattle.pt_document.specs.View.{port_view}
use Rattle.pt_net.specs.declared.net.Net.{Net}
use Rattle.pt_net.specs.declared.net.NetEntity.{NetEntity}
use Rattle.pt_net.specs.declared.net.NetPort.{NetPort}
use Rattle.pt_net.specs.Standing.{Standing, entities}
use Rattle.pt_net.specs.Table.{PortAt, declared_port, joined_ports, ports_of_kind, ports_of, numbered_ports, ports_from, tables_of, port_path}
use Rattle.pt_net.specs.Wires as wires
use Rattle.pt_net.specs.Net.{NetEntityTree, row_port, net_ports_of_kind, net_ports, net_port, entity_view, entity_tree, Records, IsNetOf}
use Rattle.pt_net.proofs.Opaque.{opaque_kept}
use Rattle.pt_net.proofs.Members.{contains_here, contains_later, contains_cases, slice_contains}
use Rattle.pt_scopes.specs.Scopes.{net_view}
use Rattle.pt_net.specs.Inside.{is_inward, is_output}
use Rattle.pt_trees.specs.Trees.{IsEntity}
use Rattle.pt_cover.specs.Leaves.{ActorsAreLeaves}
use Rattle.pt_cover.proofs.Walk.{all-placed}
use Rattle.pt_cover.proofs.Nesting.{viewed, entity-there}

-- ---- ports of a job

-- the port stands in this entity, at its number behind those before
record IsPortOf (s : Standing) (n : ℕ) (ps : List ClassPort) (p : PortAt) : Type 0 where
  standing : s ≡ p.standing
  place : ℕ
  number_is : n + place ≡ p.number
  at : slice_get ps place ≡ Some p.port

port-of : (e : ℕ) (s : Standing) (p : PortAt) (n : ℕ) (ps : List ClassPort) → Contains (numbered_ports e s n ps) p → IsPortOf s n ps p
port-of e s p n [] v = absurd (omega (arith, v.1))
port-of e s p n (q ∷ ps) v = by_place (contains_cases (record { entity = e; standing = s; number = n; port = q }) (numbered_ports e s (n + 1) ps) p v) (λ u. port-of e s p (n + 1) ps u)
  where
    by_place : (record { entity = e; standing = s; number = n; port = q } ≡ p) ⊎ Contains (numbered_ports e s (n + 1) ps) p → (Contains (numbered_ports e s (n + 1) ps) p → IsPortOf s (n + 1) ps p) → IsPortOf s n (q ∷ ps) p
    by_place (inl g) rest =
        let number : n ≡ p.number = ap (λ (x : PortAt). x.number) g in
        record { standing = ap (λ (x : PortAt). x.standing) g; place = 0; number_is = omega (arith, number); at = ap (λ (x : PortAt). Some x.port) g }
    by_place (inr u) rest = let r = rest u in record { standing = r.standing; place = suc r.place; number_is = omega (arith, r.number_is); at = r.at }

-- an entity of the job has it
record IsPortIn (all : List Standing) (p : PortAt) : Type 0 where
  there : Contains all p.standing
  at : slice_get (ports_of (parts p.standing.tree)) p.number ≡ Some p.port

port-in : (e : ℕ) (all : List Standing) (p : PortAt) → Contains (ports_from e all) p → IsPortIn all p
port-in e [] p w = absurd (omega (arith, w.1))
port-in e (s ∷ ss) p w = by_part (Contains-append_cases (numbered_ports e s 0 (ports_of (parts s.tree))) (ports_from (e + 1) ss) p w) (λ v. port-in (e + 1) ss p v)
  where
    by_part : Contains (numbered_ports e s 0 (ports_of (parts s.tree))) p ⊎ Contains (ports_from (e + 1) ss) p → (Contains (ports_from (e + 1) ss) p → IsPortIn ss p) → IsPortIn (s ∷ ss) p
    by_part (inl v) rest =
        let o = port-of e s p 0 (ports_of (parts s.tree)) v in
        let number : o.place ≡ p.number = omega (arith, o.number_is) in
        record {
          there = subst (λ (x : Standing). Contains (s ∷ ss) x) o.standing (contains_here s ss);
          at = subst (λ (x : Standing). slice_get (ports_of (parts x.tree)) p.number ≡ Some p.port) o.standing (subst (λ (n : ℕ). slice_get (ports_of (parts s.tree)) n ≡ Some p.port) number o.at);
        }
    by_part (inr v) rest = let r = rest v in record { there = contains_later s ss p.standing r.there; at = r.at }

-- ---- the same ports in the net: names and directions

record Head : Type 0 where
  name : List ℕ
  direction : Direction

abbrev head : PortTree → Head
head p = record { name = p.name; direction = p.direction }

abbrev class_head : ClassPort → Head
class_head p = record { name = p.name; direction = p.direction }

heads-declared : (ps : List PortTree) → map head ps ≡ map class_head (map declared_port ps)
heads-declared [] = refl
heads-declared (p ∷ ps) = ap (λ (hs : List Head). head p ∷ hs) (heads-declared ps)

heads-rows : (ps : List ClassPort) → map head (map row_port ps) ≡ map class_head ps
heads-rows [] = refl
heads-rows (p ∷ ps) = ap (λ (hs : List Head). class_head p ∷ hs) (heads-rows ps)

heads-joined : (d : Option Direction) (ps : List PortTree) (rows : List ClassPort) → map head (joined_ports d ps (map row_port rows)) ≡ map class_head (joined_ports d (map declared_port ps) rows)
heads-joined (Some Output) ps rows = map-append head (map row_port rows) ps ∙ ap₂ (λ a b. a ++ b) (heads-rows rows) (heads-declared ps) ∙ sym (map-append class_head rows (map declared_port ps))
heads-joined (Some Input) ps rows = map-append head ps (map row_port rows) ∙ ap₂ (λ a b. a ++ b) (heads-declared ps) (heads-rows rows) ∙ sym (map-append class_head (map declared_port ps) rows)
heads-joined None ps rows = map-append head ps (map row_port rows) ∙ ap₂ (λ a b. a ++ b) (heads-declared ps) (heads-rows rows) ∙ sym (map-append class_head (map declared_port ps) rows)

heads-kind : (kind : Option Kind) (ps : List PortTree) → map head (net_ports_of_kind kind ps) ≡ map class_head (ports_of_kind kind (map declared_port ps))
heads-kind (Some (Actor class)) ps = heads-joined class.declares ps class.ports
heads-kind (Some Composite) ps = heads-declared ps
heads-kind (Some Modal) ps = heads-declared ps
heads-kind None ps = heads-declared ps

heads : (own : Parts) → map head (net_ports own) ≡ map class_head (ports_of own)
unfolding ports_of
heads own = heads-kind (kind_of own.class) own.ports

-- the port of an entity of the net that a port of the job is
record IsPort (ports : List Port) (p : PortAt) : Type 0 where
  own : Port
  at : slice_get ports p.number ≡ Some own
  name_is : own.name ≡ p.port.name
  direction_is : own.direction ≡ p.port.direction

port-at : (ports : List Port) (p : PortAt) → map port_view ports ≡ net_ports (parts p.standing.tree) → slice_get (ports_of (parts p.standing.tree)) p.number ≡ Some p.port → IsPort ports p
port-at ports p are at =
    let seen : option_map (λ (x : Port). head (port_view x)) (slice_get ports p.number) ≡ Some (class_head p.port) =
    sym (slice_get-map (λ (x : Port). head (port_view x)) ports p.number) ∙ ap (λ (hs : List Head). slice_get hs p.number) (heads-view ports ∙ ap (map head) are ∙ heads (parts p.standing.tree)) ∙ slice_get-map class_head (ports_of (parts p.standing.tree)) p.number ∙ ap (option_map class_head) at in
    let w = viewed (λ (x : Port). head (port_view x)) (slice_get ports p.number) (class_head p.port) seen in
    record { own = w.0; at = w.1; name_is = ap (λ (h : Head). h.name) w.2; direction_is = ap (λ (h : Head). h.direction) w.2 }
  where
    heads-view : (xs : List Port) → map (λ (x : Port). head (port_view x)) xs ≡ map head (map port_view xs)
    heads-view [] = refl
    heads-view (x ∷ xs) = ap (λ (hs : List Head). head (port_view x) ∷ hs) (heads-view xs)

output-of : (own : Port) (p : PortAt) → own.direction ≡ p.port.direction → not (wires.is_input p) ≡ true → is_output own ≡ true
output-of own p is out = ap (λ (d : Direction). not (is_inward d)) is ∙ same p.port.direction ∙ out
  where
    same : (d : Direction) → not (is_inward d) ≡ not (wires.is_inward d)
    same Input = refl
    same Output = refl

-- ---- recorded ports

-- the text, the entity and the port there of a recorded port of the net
pub record IsRecordedOf (net : Net) (n : ℕ) (port : NetPort) : Type 0 where
  pub text : List ℕ
  pub text_is : slice_get net.records.items n ≡ Some text
  pub entity : NetEntity
  pub is_entity : IsEntity net port.entity entity
  pub own : Port
  pub is_port : slice_get entity.ports.items port.port ≡ Some own
  pub output : is_output own ≡ true
  pub names : text ≡ below entity.path own.name

zip-at : {A B : Type 0} (R : A → B → Type 0) (xs : List A) (ys : List B) (k : ℕ) (y : B) → AllZip R xs ys → slice_get ys k ≡ Some y → (x : A) × (slice_get xs k ≡ Some x) × R x y
zip-at R [] [] k y all at = absurd (none-some y at)
zip-at R [] (z ∷ ys) k y all at = absurd all
zip-at R (x ∷ xs) [] k y all at = absurd all
zip-at R (x ∷ xs) (z ∷ ys) zero y all at = (x, refl, subst (R x) (same_Some z y at) all.0)
zip-at R (x ∷ xs) (z ∷ ys) (suc k) y all at = zip-at R xs ys k y all.1 at

described : (net : Net) (n : ℕ) (port : NetPort) (text : List ℕ) (p : PortAt) (e : NetEntity) → slice_get net.records.items n ≡ Some text → port_path p ≡ text → not (wires.is_input p) ≡ true → port ≡ net_port p → slice_get (ports_of (parts p.standing.tree)) p.number ≡ Some p.port →
    slice_get net.entities.items p.standing.number ≡ Some e → entity_view e ≡ entity_tree p.standing → IsRecordedOf net n port
described net n port text p e text_is told output is port_is there same =
    let own = port-at e.ports.items p (ap (λ (x : NetEntityTree). x.ports) same) port_is in
    let path : p.standing.path ≡ e.path = ap (λ (x : NetEntityTree). x.path) (sym same) in
    let name : p.port.name ≡ own.own.name = sym own.name_is in
    record {
      text = text;
      text_is = text_is;
      entity = e;
      is_entity = subst (λ (q : NetPort). IsEntity net q.entity e) (sym is) there;
      own = own.own;
      is_port = subst (λ (q : NetPort). slice_get e.ports.items q.port ≡ Some own.own) (sym is) own.at;
      output = output-of own.own p own.direction_is output;
      names = sym told ∙ ap (λ (t : List ℕ). below t p.port.name) path ∙ ap (below e.path) name;
    }

pub recorded-there : (job : JobTree) (net : Net) → ActorsAreLeaves job → IsNetOf job net → (n : ℕ) (port : NetPort) → slice_get net.recorded.items n ≡ Some port → IsRecordedOf net n port
recorded-there job net leaves is n port at =
    let z = zip-at (Records (tables_of job)) job.records net.recorded.items n port is.recorded at in
    let p = z.2.0 in
    let names = z.2.1 in
    let there = port-in 0 (entities job) p names.there in
    let s = slice_contains (entities job) p.standing there.there in
    let seen : slice_get (map entity_view net.entities.items) p.standing.number ≡ Some (entity_tree p.standing) = entity-there (entities job) (net_view net) (all-placed job leaves) is.each_entity is.each_transparent s.0 p.standing s.1 (opaque_kept p.standing names.opaque) in
    let held = viewed entity_view (slice_get net.entities.items p.standing.number) (entity_tree p.standing) (sym (slice_get-map entity_view net.entities.items p.standing.number) ∙ seen) in
    described net n port z.0 p held.0 (ap (λ (ts : List (List ℕ)). slice_get ts n) is.records ∙ z.1) names.told names.output z.2.2 there.at held.1 held.2
