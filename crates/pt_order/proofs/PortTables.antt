-- The ports and the relations of a document in its tables, and what its wires join.
use Rattle.std.proofs.Common.{◌≡◌, inl, inr, ℕ, suc, ◌+◌, Bool, true, false, cond, ◌==◌, nat_eq, List, [], ◌∷◌, ◌++◌, Option, Some, None, bytes_eq, codes, refl, sym, ap, subst, ◌∙◌, arith}
use Rattle.std.proofs.lemmas.Bool.{and_parts, eqb-true}
use Rattle.std.proofs.lemmas.List.Elements.{Contains-append_cases}
use Rattle.std.proofs.lemmas.List.Quantifiers.{position-Some}
use Rattle.std.proofs.lemmas.Option.{none-some, same_Some, slice_get-get_or}
use Rattle.std.specs.List.{Contains, position, slice_get}
use Rattle.std.specs.Option.{option_eq}
use Rattle.pt_document.specs.declared.job.Link.{Link}
use Rattle.pt_document.specs.declared.job.Link.TheVariants as link
use Rattle.pt_document.specs.declared.job.Relation.{Relation}
use Rattle.pt_document.specs.Classes.{ClassPort}
use Rattle.pt_document.specs.Document.{parts, entity_name}
use Rattle.pt_net.specs.declared.wire.Wire.{Wire}
use Rattle.pt_net.specs.declared.wire.Wire.TheVariants.{Outside, Inside, Bond}
use Rattle.pt_net.specs.Standing.{Standing}
use Rattle.pt_net.specs.Table.{PortAt, RelationAt, Tables, ports_of, numbered_ports, ports_from, relations_in, relations_from}
use Rattle.pt_net.specs.Wires.{names_inside, names_outside, names_relation, relation_named, end_of_text, joined_at, bonded_at, wire_between, wire_of, relation_outside, relation_inside, outside_of, inside_of}
use Rattle.pt_net.specs.Net.{wires}
use Rattle.pt_net.proofs.Members.{filter_map_contains, map_contains, contains_cases}

-- ---- ports

-- a port is one of those of an entity of these, which are numbered from here on
pub record IsPortOf (e : ℕ) (ss : List Standing) (p : PortAt) : Type 0 where
  pub place : ℕ
  pub at : slice_get ss place ≡ Some p.standing
  pub entity_is : p.entity ≡ e + place
  pub port : slice_get (ports_of (parts p.standing.tree)) p.number ≡ Some p.port

-- a port is one of these of an entity, which are numbered from here on
record IsNumbered (e : ℕ) (s : Standing) (n : ℕ) (ps : List ClassPort) (p : PortAt) : Type 0 where
  place : ℕ
  entity_is : p.entity ≡ e
  standing_is : p.standing ≡ s
  number_is : p.number ≡ n + place
  port : slice_get ps place ≡ Some p.port

numbered : (e : ℕ) (s : Standing) (n : ℕ) (ps : List ClassPort) (p : PortAt) → Contains (numbered_ports e s n ps) p → IsNumbered e s n ps p
numbered e s n [] p w = absurd (omega (arith, w.1))
numbered e s n (q ∷ ps) p w =
    elim (contains_cases (record { entity = e; standing = s; number = n; port = q }) (numbered_ports e s (n + 1) ps) p w) [
      | inl same ↦ record {
        place = 0;
        entity_is = ap (λ (x : PortAt). x.entity) (sym same);
        standing_is = ap (λ (x : PortAt). x.standing) (sym same);
        number_is = ap (λ (x : PortAt). x.number) (sym same) ∙ (let z : n ≡ n + 0 = omega arith in z);
        port = ap (λ (x : PortAt). Some x.port) same;
      }
      | inr later ↦ (let r = numbered e s (n + 1) ps p later in record {
        place = suc r.place;
        entity_is = r.entity_is;
        standing_is = r.standing_is;
        number_is = r.number_is ∙ (let z : n + 1 + r.place ≡ n + suc r.place = omega arith in z);
        port = r.port;
      })
    ]

pub port-of : (e : ℕ) (ss : List Standing) (p : PortAt) → Contains (ports_from e ss) p → IsPortOf e ss p
port-of e [] p w = absurd (omega (arith, w.1))
port-of e (s ∷ ss) p w =
    elim (Contains-append_cases (numbered_ports e s 0 (ports_of (parts s.tree))) (ports_from (e + 1) ss) p w) [
      | inl here ↦ (let r = numbered e s 0 (ports_of (parts s.tree)) p here in record {
        place = 0;
        at = ap (λ (x : Standing). Some x) (sym r.standing_is);
        entity_is = r.entity_is ∙ (let z : e ≡ e + 0 = omega arith in z);
        port = ap (λ (x : Standing). slice_get (ports_of (parts x.tree)) p.number) r.standing_is ∙ ap (slice_get (ports_of (parts s.tree))) (r.number_is ∙ (let z : 0 + r.place ≡ r.place = omega arith in z)) ∙ r.port;
      })
      | inr later ↦ (let r = port-of (e + 1) ss p later in record {
        place = suc r.place;
        at = r.at;
        entity_is = r.entity_is ∙ (let z : e + 1 + r.place ≡ e + suc r.place = omega arith in z);
        port = r.port;
      })
    ]

-- ---- relations

pub record IsRelationOf (e : ℕ) (ss : List Standing) (r : RelationAt) : Type 0 where
  pub place : ℕ
  pub at : slice_get ss place ≡ Some r.standing
  pub composite_is : r.composite ≡ e + place

pub relation-of : (e : ℕ) (ss : List Standing) (r : RelationAt) → Contains (relations_from e ss) r → IsRelationOf e ss r
relation-of e [] r w = absurd (omega (arith, w.1))
relation-of e (s ∷ ss) r w =
    elim (Contains-append_cases (relations_in e s) (relations_from (e + 1) ss) r w) [
      | inl here ↦ (let v = map_contains (λ (x : Relation). record { composite = e; standing = s; name = x.name }) (parts s.tree).relations r here in record {
        place = 0;
        at = ap (λ (x : RelationAt). Some x.standing) v.2;
        composite_is = ap (λ (x : RelationAt). x.composite) (sym v.2) ∙ (let z : e ≡ e + 0 = omega arith in z);
      })
      | inr later ↦ (let v = relation-of (e + 1) ss r later in record {
        place = suc v.place;
        at = v.at;
        composite_is = v.composite_is ∙ (let z : e + 1 + v.place ≡ e + suc v.place = omega arith in z);
      })
    ]

-- ---- wires

-- what a wire joins stands in one composite
abbrev pub IsLaid : Tables → Wire → Type 0
IsLaid t (Outside g r) = (p : PortAt) × (x : RelationAt) × (slice_get t.ports g ≡ Some p) × (slice_get t.relations r ≡ Some x) × (p.standing.round.outer ≡ Some x.composite)
IsLaid t (Inside g r) = (p : PortAt) × (x : RelationAt) × (slice_get t.ports g ≡ Some p) × (slice_get t.relations r ≡ Some x) × (p.entity ≡ x.composite)
IsLaid t (Bond a b) = (x : RelationAt) × (y : RelationAt) × (slice_get t.relations a ≡ Some x) × (slice_get t.relations b ≡ Some y) × (x.composite ≡ y.composite)

-- what is found at a place passes the test
found : {X : Type 0} (test : X → Bool) (xs : List X) (i : ℕ) → position test xs ≡ Some i → (x : X) × (slice_get xs i ≡ Some x) × (test x ≡ true)
found test [] i e = absurd (none-some i e)
found {X = X} test (z ∷ zs) i e =
    let h = position-Some test (z ∷ zs) i z e in
    (_, slice_get-get_or (z ∷ zs) i z h.0, h.1)

outer-is : (c : ℕ) (o : Option ℕ) → option_eq ◌==◌ (Some c) o ≡ true → o ≡ Some c
outer-is c None e = absurd (let h : false ≡ true = e in cc)
outer-is c (Some n) e = ap (λ m. Some m) (sym (eqb-true c n e))

module _ (t : Tables) (c : ℕ) where
  named : (text : List ℕ) (r : ℕ) → relation_named t.ports t.relations c text ≡ Some r → (x : RelationAt) × (slice_get t.relations r ≡ Some x) × (c ≡ x.composite)
  named text r e = let f = found (names_relation c text) t.relations r e in (f.0, f.1, eqb-true c f.0.composite (and_parts (nat_eq c f.0.composite) (bytes_eq text f.0.name) f.2).0)

  inside : (text : List ℕ) (g : ℕ) → position (names_inside c text) t.ports ≡ Some g → (p : PortAt) × (slice_get t.ports g ≡ Some p) × (c ≡ p.entity)
  inside text g e = let f = found (names_inside c text) t.ports g e in (f.0, f.1, eqb-true c f.0.entity (and_parts (nat_eq c f.0.entity) (bytes_eq text f.0.port.name) f.2).0)

  outside : (text : List ℕ) (g : ℕ) → position (names_outside c text) t.ports ≡ Some g → (p : PortAt) × (slice_get t.ports g ≡ Some p) × (p.standing.round.outer ≡ Some c)
  outside text g e =
      let f = found (names_outside c text) t.ports g e in
      (f.0, f.1, outer-is c f.0.standing.round.outer (and_parts (option_eq ◌==◌ (Some c) f.0.standing.round.outer) (bytes_eq text (entity_name f.0.standing.tree ++ codes "." ++ f.0.port.name)) f.2).0)

  laid-joined : (port relation : List ℕ) (a b r : Option ℕ) (w : Wire) → position (names_inside c port) t.ports ≡ a → position (names_outside c port) t.ports ≡ b → relation_named t.ports t.relations c relation ≡ r → joined_at (end_of_text a b) r ≡ Some w → IsLaid t w
  laid-joined port relation (Some g) b (Some r) w ha hb hr e =
      let h : Inside g r ≡ w = cc in
      let p = inside port g ha in
      let x = named relation r hr in
      subst (IsLaid t) h (p.0, x.0, p.1, x.1, sym p.2 ∙ x.2)
  laid-joined port relation None (Some g) (Some r) w ha hb hr e =
      let h : Outside g r ≡ w = cc in
      let p = outside port g hb in
      let x = named relation r hr in
      subst (IsLaid t) h (p.0, x.0, p.1, x.1, p.2 ∙ ap (λ m. Some m) x.2)
  laid-joined port relation (Some g) b None w ha hb hr e = absurd cc
  laid-joined port relation None (Some g) None w ha hb hr e = absurd cc
  laid-joined port relation None None r w ha hb hr e = absurd cc

  laid-bonded : (first second : List ℕ) (a b : Option ℕ) (w : Wire) → relation_named t.ports t.relations c first ≡ a → relation_named t.ports t.relations c second ≡ b → bonded_at a b ≡ Some w → IsLaid t w
  laid-bonded first second (Some a) (Some b) w ha hb e =
      let h : Bond a b ≡ w = cc in
      let x = named first a ha in
      let y = named second b hb in
      subst (IsLaid t) h (x.0, y.0, x.1, y.1, sym x.2 ∙ y.2)
  laid-bonded first second (Some a) None w ha hb e = absurd cc
  laid-bonded first second None b w ha hb e = absurd cc

  laid-between : (l : Link) (w : Wire) → wire_between t.ports t.relations c l ≡ Some w → IsLaid t w
  laid-between (link.Port port relation) w e = laid-joined port relation (position (names_inside c port) t.ports) (position (names_outside c port) t.ports) (relation_named t.ports t.relations c relation) w refl refl refl e
  laid-between (link.Relations first second) w e = laid-bonded first second (relation_named t.ports t.relations c first) (relation_named t.ports t.relations c second) w refl refl e

pub laid : (t : Tables) (w : Wire) → Contains (wires t) w → IsLaid t w
laid t w h = let l = filter_map_contains (wire_of t.ports t.relations) t.links w h in laid-between t l.0.composite l.0.link w l.2

-- ---- the relations at a port

tested : (b : Bool) (s r : ℕ) → cond b (Some s) None ≡ Some r → (b ≡ true) × (s ≡ r)
tested true s r e = (refl, same_Some s r e)
tested false s r e = absurd (none-some r e)

outside-wire : (g r : ℕ) (w : Wire) → relation_outside g w ≡ Some r → w ≡ Outside g r
outside-wire g r (Outside p s) e = let h = tested (nat_eq g p) s r e in let k : g ≡ p = eqb-true g p h.0 in ap (λ n. Outside n s) (sym k) ∙ ap (Outside g) h.1
outside-wire g r (Inside p s) e = absurd (none-some r e)
outside-wire g r (Bond a b) e = absurd (none-some r e)

inside-wire : (g r : ℕ) (w : Wire) → relation_inside g w ≡ Some r → w ≡ Inside g r
inside-wire g r (Inside p s) e = let h = tested (nat_eq g p) s r e in let k : g ≡ p = eqb-true g p h.0 in ap (λ n. Inside n s) (sym k) ∙ ap (Inside g) h.1
inside-wire g r (Outside p s) e = absurd (none-some r e)
inside-wire g r (Bond a b) e = absurd (none-some r e)

pub laid-outside : (t : Tables) (g r : ℕ) → Contains (outside_of (wires t) g) r → IsLaid t (Outside g r)
laid-outside t g r h = let w = filter_map_contains (relation_outside g) (wires t) r h in subst (IsLaid t) (outside-wire g r w.0 w.2) (laid t w.0 w.1)

pub laid-inside : (t : Tables) (g r : ℕ) → Contains (inside_of (wires t) g) r → IsLaid t (Inside g r)
laid-inside t g r h = let w = filter_map_contains (relation_inside g) (wires t) r h in subst (IsLaid t) (inside-wire g r w.0 w.2) (laid t w.0 w.1)
