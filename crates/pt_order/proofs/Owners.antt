-- In which opaque composite a relation stands, and that what a path joins stands in one.
use Rattle.std.proofs.Common.{◌≡◌, ◌⊎◌, inl, inr, ℕ, ◌+◌, Bool, true, false, cond, List, [], ◌∷◌, Option, Some, None, refl, sym, ap, subst, ◌∙◌, arith}
use Rattle.std.proofs.lemmas.Bool.{not-true}
use Rattle.std.proofs.lemmas.List.Elements.{Contains-append_cases}
use Rattle.std.proofs.lemmas.Option.{none-some, same_Some}
use Rattle.std.specs.Prelude.{unwrap_or}
use Rattle.std.specs.List.{Contains, enumerate_from, flat_map, slice_get}
use Rattle.pt_net.specs.declared.wire.Wire.TheVariants.{Outside, Inside, Bond}
use Rattle.pt_net.specs.Joined.{here, along, against}
use Rattle.pt_net.specs.Standing.{Standing, Round, is_kept, round_in, no_round}
use Rattle.pt_net.specs.Table.{PortAt, RelationAt, Tables, tables_from}
use Rattle.pt_net.specs.Wires.{outside_of, inside_of, is_input, taken_from, Meets, bonded, crossed, AreJoined, IsSource, Place, places_along, places_of, input_places, output_places}
use Rattle.pt_net.specs.Net.{wires, all_places, composite_of}
use Rattle.pt_net.proofs.Members.{contains_here, contains_later, contains_cases, contains_slice, flat_map_contains, enumerate_contains}
use Rattle.pt_cover.proofs.Walk.{IsWithin, IsTop, ArePlaced}
use Rattle.pt_order.proofs.Standings.{IsIn, AreSeen}
use Rattle.pt_order.proofs.PortTables.{port-of, relation-of, IsLaid, laid, laid-outside, laid-inside}

-- a relation stands in this opaque composite, be it in a transparent one there
pub record HasOwner (t : Tables) (r : ℕ) (owner : Option ℕ) : Type 0 where
  pub relation : RelationAt
  pub at : slice_get t.relations r ≡ Some relation
  pub is : (round_in relation.composite relation.standing).parent ≡ owner

pub one-owner : (t : Tables) (r : ℕ) (o p : Option ℕ) → HasOwner t r o → HasOwner t r p → o ≡ p
one-owner t r o p a b =
    let same : a.relation ≡ b.relation = same_Some a.relation b.relation (sym a.at ∙ b.at) in
    sym a.is ∙ ap (λ (x : RelationAt). (round_in x.composite x.standing).parent) same ∙ b.is

-- a place is at a port of an entity that stays in the net, and at a relation from which that takes tokens
pub record IsPlaceAt (t : Tables) (place : Place) : Type 0 where
  pub port : slice_get t.ports place.port ≡ Some place.at
  pub kept : is_kept place.at.standing ≡ true
  pub linked : Contains (taken_from (wires t) place.port place.at) place.relation

in-along : (g : ℕ) (p : PortAt) (n : ℕ) (rs : List ℕ) (place : Place) → Contains (places_along g p n rs) place → (place.port ≡ g) × (place.at ≡ p) × Contains rs place.relation
in-along g p n [] place w = absurd (omega (arith, w.1))
in-along g p n (r ∷ rs) place w =
    elim (contains_cases (record { port = g; at = p; index = n; relation = r }) (places_along g p (n + 1) rs) place w) [
      | inl same ↦ (ap (λ (x : Place). x.port) (sym same), ap (λ (x : Place). x.at) (sym same), subst (Contains (r ∷ rs)) (ap (λ (x : Place). x.relation) same) (contains_here r rs))
      | inr later ↦ (let h = in-along g p (n + 1) rs place later in (h.0, h.1, contains_later r rs place.relation h.2))
    ]

module _ (t : Tables) where
  in-places : (q : ℕ × PortAt) (place : Place) → slice_get t.ports q.0 ≡ Some q.1 → Contains (places_of (wires t) q) place → IsPlaceAt t place
  in-places q place at w = chosen (is_kept q.1.standing) refl w
    where
      chosen : (b : Bool) → is_kept q.1.standing ≡ b → Contains (cond b (places_along q.0 q.1 0 (taken_from (wires t) q.0 q.1)) []) place → IsPlaceAt t place
      chosen true kept w =
          let h = in-along q.0 q.1 0 (taken_from (wires t) q.0 q.1) place w in
          record {
            port = ap (slice_get t.ports) h.0 ∙ at ∙ ap (λ (p : PortAt). Some p) (sym h.1);
            kept = ap (λ (p : PortAt). is_kept p.standing) h.1 ∙ kept;
            linked = subst (λ (g : ℕ). Contains (taken_from (wires t) g place.at) place.relation) (sym h.0) (subst (λ (p : PortAt). Contains (taken_from (wires t) q.0 p) place.relation) (sym h.1) h.2);
          }
      chosen false kept w = absurd (omega (arith, w.1))

  in-side : (of : ℕ × PortAt → List Place) (place : Place) → ((q : ℕ × PortAt) → Contains (of q) place → Contains (places_of (wires t) q) place) → Contains (flat_map of (enumerate_from 0 t.ports)) place → IsPlaceAt t place
  in-side of place narrow w =
      let v = flat_map_contains of (enumerate_from 0 t.ports) place w in
      let i = enumerate_contains 0 t.ports v.0 v.1 in
      let n : i.0 ≡ v.0.0 = omega (arith, i.1) in
      in-places v.0 place (ap (slice_get t.ports) (sym n) ∙ i.2) (narrow v.0 v.2)

  pub place-at : (place : Place) → Contains (all_places t) place → IsPlaceAt t place
  place-at place w =
      elim (Contains-append_cases (flat_map (input_places (wires t)) (enumerate_from 0 t.ports)) (flat_map (output_places (wires t)) (enumerate_from 0 t.ports)) place w) [
        | inl ins ↦ in-side (input_places (wires t)) place (λ q v. of-input (is_input q.1) (places_of (wires t) q) v) ins
        | inr outs ↦ in-side (output_places (wires t)) place (λ q v. of-output (is_input q.1) (places_of (wires t) q) v) outs
      ]
    where
      of-input : (b : Bool) (ps : List Place) → Contains (cond b ps []) place → Contains ps place
      of-input true ps v = v
      of-input false ps v = absurd (omega (arith, v.1))

      of-output : (b : Bool) (ps : List Place) → Contains (cond b [] ps) place → Contains ps place
      of-output false ps v = v
      of-output true ps v = absurd (omega (arith, v.1))

-- an own input gives tokens within its composite, and an output within what is round its entity
abbrev pub giver : PortAt → Option ℕ
giver p = cond (is_input p) (Some p.standing.number) p.standing.round.parent

module _ (all : List Standing) (seen : AreSeen all) (placed : ArePlaced all) where
  abbrev t : Tables
  t = tables_from all

  pub port-there : (g : ℕ) (p : PortAt) → slice_get t.ports g ≡ Some p → slice_get all p.entity ≡ Some p.standing
  port-there g p at = let h = port-of 0 all p (contains_slice t.ports g p at) in ap (slice_get all) (h.entity_is ∙ (let z : 0 + h.place ≡ h.place = omega arith in z)) ∙ h.at

  relation-there : (r : ℕ) (x : RelationAt) → slice_get t.relations r ≡ Some x → slice_get all x.composite ≡ Some x.standing
  relation-there r x at = let h = relation-of 0 all x (contains_slice t.relations r x at) in ap (slice_get all) (h.composite_is ∙ (let z : 0 + h.place ≡ h.place = omega arith in z)) ∙ h.at

  -- what is linked outside stands in something
  pub has-parent : (g : ℕ) (p : PortAt) (c : ℕ) → slice_get t.ports g ≡ Some p → p.standing.round.outer ≡ Some c → (d : ℕ) × (p.standing.round.parent ≡ Some d)
  has-parent g p c at outer = of-round (placed p.entity p.standing (port-there g p at)).round
    where
      of-round : IsTop p.entity p.standing.round ⊎ IsWithin all p.entity p.standing.round → (d : ℕ) × (p.standing.round.parent ≡ Some d)
      of-round (inl top) = absurd (none-some c (sym (ap (λ (x : Round). x.outer) top.1) ∙ outer))
      of-round (inr w) = (w.parent, w.parent_is)

  -- a relation outside a port stands in the composite round its entity
  record IsOutside (p : PortAt) (r : ℕ) : Type 0 where
    outer : ℕ
    outer_is : p.standing.round.outer ≡ Some outer
    owner : HasOwner t r p.standing.round.parent

  outside-owner : (g r : ℕ) (p : PortAt) → slice_get t.ports g ≡ Some p → Contains (outside_of (wires t) g) r → IsOutside p r
  outside-owner g r p at linked = of-laid (laid-outside t g r linked)
    where
      of-laid : IsLaid t (Outside g r) → IsOutside p r
      of-laid (q, x, there, is, outer) =
          let same : q ≡ p = same_Some q p (sym there ∙ at) in
          of-round x is (subst (λ (y : PortAt). y.standing.round.outer ≡ Some x.composite) same outer) (seen p.entity p.standing (port-there g p at)).round
        where
          of-round : (x : RelationAt) → slice_get t.relations r ≡ Some x → p.standing.round.outer ≡ Some x.composite → (p.standing.round ≡ no_round) ⊎ IsIn all p.standing.round → IsOutside p r
          of-round x is outer (inl top) = absurd (none-some x.composite (sym (ap (λ (y : Round). y.outer) top) ∙ outer))
          of-round x is outer (inr i) =
              let number : i.outer ≡ x.composite = same_Some i.outer x.composite (sym (ap (λ (y : Round). y.outer) i.is) ∙ outer) in
              let holder : x.standing ≡ i.outer_at = same_Some x.standing i.outer_at (sym (relation-there r x is) ∙ ap (slice_get all) (sym number) ∙ i.at) in
              record {
                outer = x.composite;
                outer_is = outer;
                owner = record {
                  relation = x;
                  at = is;
                  is = ap (λ (s : Standing). (round_in x.composite s).parent) holder ∙ ap (λ (n : ℕ). (round_in n i.outer_at).parent) (sym number) ∙ sym (ap (λ (y : Round). y.parent) i.is);
                };
              }

  pub outside-round : (g r : ℕ) (p : PortAt) → slice_get t.ports g ≡ Some p → Contains (outside_of (wires t) g) r → (d : ℕ) × (p.standing.round.parent ≡ Some d)
  outside-round g r p at linked = let o = outside-owner g r p at linked in has-parent g p o.outer at o.outer_is

  -- one inside it in the entity itself, or in what that stands in
  inside-owner : (g r : ℕ) (p : PortAt) → slice_get t.ports g ≡ Some p → Contains (inside_of (wires t) g) r → HasOwner t r (cond (is_kept p.standing) (Some p.standing.number) p.standing.round.parent)
  inside-owner g r p at linked = of-laid (laid-inside t g r linked)
    where
      of-laid : IsLaid t (Inside g r) → HasOwner t r (cond (is_kept p.standing) (Some p.standing.number) p.standing.round.parent)
      of-laid (q, x, there, is, own) =
          let same : q ≡ p = same_Some q p (sym there ∙ at) in
          let number : p.entity ≡ x.composite = ap (λ (y : PortAt). y.entity) (sym same) ∙ own in
          let holder : x.standing ≡ p.standing = same_Some x.standing p.standing (sym (relation-there r x is) ∙ ap (slice_get all) (sym number) ∙ port-there g p at) in
          record { relation = x; at = is; is = ap (λ (s : Standing). (round_in x.composite s).parent) holder }

  -- what a step joins stands in one
  record HaveOwner (a b : ℕ) : Type 0 where
    owner : Option ℕ
    first : HasOwner t a owner
    second : HasOwner t b owner

  meets-owner : (a b : ℕ) → Meets t.ports (wires t) a b → HaveOwner a b
  meets-owner a b (bonded x y w) = of-laid (laid t (Bond x y) w)
    where
      of-laid : IsLaid t (Bond x y) → HaveOwner x y
      of-laid (u, v, at, there, same) =
          let holder : v.standing ≡ u.standing = same_Some v.standing u.standing (sym (relation-there y v there) ∙ ap (slice_get all) (sym same) ∙ relation-there x u at) in
          record {
            owner = (round_in u.composite u.standing).parent;
            first = record { relation = u; at = at; is = refl };
            second = record { relation = v; at = there; is = ap (λ (s : Standing). (round_in v.composite s).parent) holder ∙ ap (λ (n : ℕ). (round_in n u.standing).parent) (sym same) };
          }
  meets-owner a b (crossed g p x y at free out ins) = record {
    owner = p.standing.round.parent;
    first = (outside-owner g x p at out).owner;
    second = subst (λ (k : Bool). HasOwner t y (cond k (Some p.standing.number) p.standing.round.parent)) (not-true (is_kept p.standing) free) (inside-owner g y p at ins);
  }

  pub joined-owner : (a b : ℕ) (o : Option ℕ) → AreJoined t.ports (wires t) a b → HasOwner t a o → HasOwner t b o
  joined-owner a b o (here x) h = h
  joined-owner a b o (along x y z s p) h = let m = meets-owner x y s in joined-owner y z o p (subst (HasOwner t y) (one-owner t x m.owner o m.first h) m.second)
  joined-owner a b o (against x y z s p) h = let m = meets-owner y x s in joined-owner y z o p (subst (HasOwner t y) (one-owner t x m.owner o m.second h) m.first)

  pub source-owner : (g r : ℕ) (p : PortAt) → IsSource t.ports (wires t) g p r → HasOwner t r (giver p)
  source-owner g r p s = chosen (is_input p) s.gives.linked
    where
      chosen : (b : Bool) → Contains (cond b (inside_of (wires t) g) (outside_of (wires t) g)) r → HasOwner t r (cond b (Some p.standing.number) p.standing.round.parent)
      chosen true linked = subst (λ (k : Bool). HasOwner t r (cond k (Some p.standing.number) p.standing.round.parent)) (s.kept) (inside-owner g r p s.gives.port linked)
      chosen false linked = (outside-owner g r p s.gives.port linked).owner

  -- the place of a channel stands in its composite
  pub place-owner : (place : Place) → IsPlaceAt t place → HasOwner t place.relation (Some (composite_of place.at))
  place-owner place h = chosen (is_input place.at) refl h.linked
    where
      of-parent : (c : ℕ) (o : Option ℕ) → o ≡ Some c → HasOwner t place.relation o → HasOwner t place.relation (Some (unwrap_or o 0))
      of-parent c None e w = absurd (none-some c e)
      of-parent c (Some d) e w = w

      chosen : (b : Bool) → is_input place.at ≡ b → Contains (cond b (outside_of (wires t) place.port) (inside_of (wires t) place.port)) place.relation → HasOwner t place.relation (Some (cond b (unwrap_or place.at.standing.round.parent 0) place.at.standing.number))
      chosen true is linked = let d = outside-round place.port place.relation place.at h.port linked in of-parent d.0 place.at.standing.round.parent d.1 (outside-owner place.port place.relation place.at h.port linked).owner
      chosen false is linked = subst (λ (k : Bool). HasOwner t place.relation (cond k (Some place.at.standing.number) place.at.standing.round.parent)) h.kept (inside-owner place.port place.relation place.at h.port linked)
