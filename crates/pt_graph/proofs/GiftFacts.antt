-- Gifts, groups and the relations of wires.
use Rattle.std.proofs.Common.{◌≡◌, ℕ, ◌+◌, ◌<◌, Bool, true, false, not, ◌||◌, cond, Some, None, List, [], length, get_or, map, nat_eq, refl, sym, ap, subst, arith}
use Rattle.std.proofs.lemmas.List.Elements.{All-contains, Contains-get_or}
use Rattle.std.specs.List.{All, Contains, filter_map, enumerate_from, slice_get}
use Rattle.pt_net.specs.declared.wire.Wire.{Wire}
use Rattle.pt_net.specs.declared.wire.Wire.TheVariants.{Outside, Inside, Bond}
use Rattle.pt_net.specs.Standing.{is_kept}
use Rattle.pt_net.specs.Table.{PortAt, RelationAt, Tables, relation_path}
use Rattle.pt_net.specs.Stands.{IsTwoSources}
use Rattle.pt_net.specs.Joined.{Joined, here, along, against, Pairs, IsGrouping}
use Rattle.pt_net.specs.Wires.{relation_outside, relation_inside, outside_of, inside_of, is_input, given_to, taken_from, IsOneGroup, Gives}
use Rattle.pt_links.specs.Ties.{IsWithin}
use Rattle.pt_net.specs.Net.{wires}
use Rattle.pt_graph.specs.Sources.{giving, gifts, gifts_among, bond_of, HaveOneSource, HasOneGiver, HasTwoGivers}
pub use Rattle.pt_graph.proofs.GroupSteps.{AreEnds}
use Rattle.pt_net.proofs.Members.{contains_map, map_contains, contains_filter_map, filter_map_contains, contains_flat_map, flat_map_contains, contains_enumerate, enumerate_contains}

-- ---- gifts

gift_of : (g : ℕ) (x : ℕ × ℕ) (r : ℕ) → (g, r) ≡ x → (g ≡ x.0) × (r ≡ x.1)
gift_of g x r e = (ap (λ (p : ℕ × ℕ). p.0) e, ap (λ (p : ℕ × ℕ). p.1) e)

module _ (ports : List PortAt) (ws : List Wire) (kept_only : Bool) where
  pub gives_gift : (g : ℕ) (p : PortAt) (r : ℕ) → Gives ports ws g p r → (not kept_only || is_kept p.standing) ≡ true → Contains (gifts_among ws kept_only ports) (g, r)
  gives_gift g p r gives fits =
      let z : 0 + g ≡ g = omega arith in
      let among : Contains (enumerate_from 0 ports) (g, p) = subst (λ (n : ℕ). Contains (enumerate_from 0 ports) (n, p)) z (contains_enumerate 0 ports g p gives.port) in
      let given : Contains (giving ws kept_only (g, p)) r = subst (λ (b : Bool). Contains (cond b (given_to ws g p) []) r) (sym fits) gives.linked in
      contains_flat_map (λ q. map (λ s. (q.0, s)) (giving ws kept_only q)) (enumerate_from 0 ports) (g, p) (g, r) among (contains_map (λ s. (g, s)) (giving ws kept_only (g, p)) r given)

  pub gift_gives : (g r : ℕ) → Contains (gifts_among ws kept_only ports) (g, r) → (p : PortAt) × Gives ports ws g p r × ((not kept_only || is_kept p.standing) ≡ true)
  gift_gives g r w =
      let a = flat_map_contains (λ q. map (λ s. (q.0, s)) (giving ws kept_only q)) (enumerate_from 0 ports) (g, r) w in
      let q : ℕ × PortAt = a.0 in
      let b = map_contains (λ s. (q.0, s)) (giving ws kept_only q) (g, r) a.2 in
      let c = enumerate_contains 0 ports q a.1 in
      let e : (q.0 ≡ g) × (b.0 ≡ r) = gift_of q.0 (g, r) b.0 b.2 in
      let n : c.0 ≡ g = omega (arith, c.1, e.0) in
      given q.1 (subst (λ (k : ℕ). slice_get ports k ≡ Some q.1) n c.2) (not kept_only || is_kept q.1.standing) refl (subst (λ (s : ℕ). Contains (giving ws kept_only (g, q.1)) s) e.1 (subst (λ (k : ℕ). Contains (giving ws kept_only (k, q.1)) b.0) e.0 b.1))
    where
      given : (p : PortAt) → slice_get ports g ≡ Some p → (b : Bool) → (not kept_only || is_kept p.standing) ≡ b → Contains (giving ws kept_only (g, p)) r → (p : PortAt) × Gives ports ws g p r × ((not kept_only || is_kept p.standing) ≡ true)
      given p is true e h = (p, record { port = is; linked = subst (λ (b : Bool). Contains (cond b (given_to ws g p) []) r) e h }, e)
      given p is false e h = let none : Contains [] r = subst (λ (b : Bool). Contains (cond b (given_to ws g p) []) r) e h in absurd (omega (arith, none.1))

-- ---- the relations of wires are those of the tables

outside_within : (n m g r : ℕ) (w : Wire) → IsWithin n m w → relation_outside g w ≡ Some r → r < m
outside_within n m g r (Outside p s) h e = chosen (nat_eq g p) e
  where
    chosen : (b : Bool) → cond b (Some s) None ≡ Some r → r < m
    chosen true f = let k : s ≡ r = cc in subst (λ j. j < m) k h.1
    chosen false f = absurd cc
outside_within n m g r (Inside p s) h e = absurd cc
outside_within n m g r (Bond a b) h e = absurd cc

inside_within : (n m g r : ℕ) (w : Wire) → IsWithin n m w → relation_inside g w ≡ Some r → r < m
inside_within n m g r (Inside p s) h e = chosen (nat_eq g p) e
  where
    chosen : (b : Bool) → cond b (Some s) None ≡ Some r → r < m
    chosen true f = let k : s ≡ r = cc in subst (λ j. j < m) k h.1
    chosen false f = absurd cc
inside_within n m g r (Outside p s) h e = absurd cc
inside_within n m g r (Bond a b) h e = absurd cc

module _ (n m : ℕ) (ws : List Wire) (all : All (IsWithin n m) ws) where
  pub outside_below : (g r : ℕ) → Contains (outside_of ws g) r → r < m
  outside_below g r w = let a = filter_map_contains (relation_outside g) ws r w in outside_within n m g r a.0 (All-contains (IsWithin n m) ws a.0 all a.1) a.2

  pub inside_below : (g r : ℕ) → Contains (inside_of ws g) r → r < m
  inside_below g r w = let a = filter_map_contains (relation_inside g) ws r w in inside_within n m g r a.0 (All-contains (IsWithin n m) ws a.0 all a.1) a.2

  either_below : (b : Bool) (g r : ℕ) → Contains (cond b (inside_of ws g) (outside_of ws g)) r → r < m
  either_below true g r w = inside_below g r w
  either_below false g r w = outside_below g r w

  pub given_below : (g : ℕ) (p : PortAt) (r : ℕ) → Contains (given_to ws g p) r → r < m
  given_below g p r w = either_below (is_input p) g r w

  taken_either : (b : Bool) (g r : ℕ) → Contains (cond b (outside_of ws g) (inside_of ws g)) r → r < m
  taken_either true g r w = outside_below g r w
  taken_either false g r w = inside_below g r w

  pub taken_below : (g : ℕ) (p : PortAt) (r : ℕ) → Contains (taken_from ws g p) r → r < m
  taken_below g p r w = taken_either (is_input p) g r w

  bond_within : (a b : ℕ) (w : Wire) → IsWithin n m w → bond_of w ≡ Some (a, b) → (a < m) × (b < m)
  bond_within a b (Bond x y) h e =
      let q : (x, y) ≡ (a, b) = cc in
      let i : x ≡ a = ap (λ (k : ℕ × ℕ). k.0) q in
      let j : y ≡ b = ap (λ (k : ℕ × ℕ). k.1) q in
      (subst (λ k. k < m) i h.0, subst (λ k. k < m) j h.1)
  bond_within a b (Outside p r) h e = absurd cc
  bond_within a b (Inside p r) h e = absurd cc

  pub bonds_below : AreEnds m (filter_map bond_of ws)
  bonds_below k d below =
      let link = get_or (filter_map bond_of ws) k d in
      let a = filter_map_contains bond_of ws link (Contains-get_or (filter_map bond_of ws) k d below) in
      bond_within link.0 link.1 a.0 (All-contains (IsWithin n m) ws a.0 all a.1) a.2

-- ---- groups

pub joined_by : {S T : ℕ → ℕ → Type 0} → ((a b : ℕ) → S a b → T a b) → (a b : ℕ) → Joined S a b → Joined T a b
joined_by f a b (here x) = here x
joined_by f a b (along x y z s p) = along x y z (f x y s) (joined_by f y z p)
joined_by f a b (against x y z s p) = against x y z (f y x s) (joined_by f y z p)

pub bond_is : (a b : ℕ) (w : Wire) → bond_of w ≡ Some (a, b) → w ≡ Bond a b
bond_is a b (Bond x y) e =
    let q : (x, y) ≡ (a, b) = cc in
    ap (λ (k : ℕ × ℕ). Bond k.0 k.1) q
bond_is a b (Outside p r) e = absurd cc
bond_is a b (Inside p r) e = absurd cc

pub bonded_group : (ws : List Wire) (a b : ℕ) → Joined (Pairs (filter_map bond_of ws)) a b → IsOneGroup ws a b
bonded_group ws a b p = joined_by (λ x y w. let h = filter_map_contains bond_of ws (x, y) w in subst (λ v. Contains ws v) (bond_is x y h.0 h.2) h.1) a b p

pub group_bonded : (ws : List Wire) (a b : ℕ) → IsOneGroup ws a b → Joined (Pairs (filter_map bond_of ws)) a b
group_bonded ws a b p = joined_by (λ x y w. contains_filter_map bond_of ws (Bond x y) (x, y) w refl) a b p

-- ---- the sources of groups

module _ (t : Tables) (all : All (IsWithin (length t.ports) (length t.relations)) (wires t)) where
  pub gifts_below : (kept_only : Bool) → All (λ gift. gift.1 < length t.relations) (gifts t kept_only)
  gifts_below kept_only k d below =
      let gift = get_or (gifts t kept_only) k d in
      let a = gift_gives t.ports (wires t) kept_only gift.0 gift.1 (Contains-get_or (gifts t kept_only) k d below) in
      given_below (length t.ports) (length t.relations) (wires t) all gift.0 a.0 gift.1 a.1.linked

  pub two_below : (group : List ℕ) (r : ℕ) → HasTwoGivers group (gifts t false) r → r < length t.relations
  two_below group r w =
      let a = gift_gives t.ports (wires t) false w.first r w.gives_first in
      given_below (length t.ports) (length t.relations) (wires t) all w.first a.0 r a.1.linked

  module _ (group : List ℕ) (grouping : IsGrouping (length t.relations) (filter_map bond_of (wires t)) group) where
    pub one_source : HasOneGiver group (gifts t false) → HaveOneSource t
    one_source one g p a h q b gives gives' together =
        one g a h b (gives_gift t.ports (wires t) false g p a gives refl) (gives_gift t.ports (wires t) false h q b gives' refl)
        ((grouping.joined a b (given_below (length t.ports) (length t.relations) (wires t) all g p a gives.linked) (given_below (length t.ports) (length t.relations) (wires t) all h q b gives'.linked)).1 (group_bonded (wires t) a b together))

    pub two_sources : (r : ℕ) (relation : RelationAt) → slice_get t.relations r ≡ Some relation → HasTwoGivers group (gifts t false) r → IsTwoSources t (relation_path relation)
    two_sources r relation is w =
        let a = gift_gives t.ports (wires t) false w.first r w.gives_first in
        let b = gift_gives t.ports (wires t) false w.second w.other w.gives_second in
        let x = given_below (length t.ports) (length t.relations) (wires t) all w.first a.0 r a.1.linked in
        let y = given_below (length t.ports) (length t.relations) (wires t) all w.second b.0 w.other b.1.linked in
        record {
          number = r;
          relation = relation;
          is = is;
          first = w.first;
          first_at = a.0;
          first_relation = r;
          gives_first = a.1;
          first_in = here r;
          second = w.second;
          second_at = b.0;
          second_relation = w.other;
          gives_second = b.1;
          second_in = bonded_group (wires t) w.other r ((grouping.joined w.other r y x).0 (sym w.together));
          apart = w.apart;
          told = refl;
        }
