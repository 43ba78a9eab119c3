-- What the ways between relations join.
use Rattle.std.proofs.Common.{◌≡◌, ℕ, ◌+◌, ◌<◌, ◌≤◌, inl, inr, Bool, true, false, not, IsTrue, cond, Option, Some, None, List, [], ◌∷◌, length, get_or, refl, sym, ap, subst, ◌∙◌, arith}
use Rattle.std.proofs.lemmas.Bool.{not_from_false, not-true, both_ways}
use Rattle.std.proofs.lemmas.List.{get_or_default}
use Rattle.std.proofs.lemmas.List.Elements.{All-contains, Contains-append_left, Contains-append_right, Contains-append_cases, Contains-get_or}
use Rattle.std.specs.Option.{MatchOption, is_some}
use Rattle.std.specs.List.{All, Contains, filter_map, enumerate_from, slice_get}
use Rattle.pt_net.specs.declared.wire.Wire.{Wire}
use Rattle.pt_net.specs.declared.wire.Wire.TheVariants.{Bond}
use Rattle.pt_net.specs.Standing.{is_kept}
use Rattle.pt_net.specs.Table.{PortAt, Tables}
use Rattle.pt_net.specs.Joined.{Joined, Pairs, IsGrouping}
use Rattle.pt_net.specs.Wires.{outside_of, inside_of, Meets, bonded, crossed, AreJoined}
use Rattle.pt_links.specs.Ties.{IsWithin}
use Rattle.pt_net.specs.Net.{wires}
use Rattle.pt_graph.specs.Sources.{bond_of, gifts}
use Rattle.pt_graph.specs.Origins.{first_pair, crossing, crossings_among, ways, IsSourceOf, HasNoSource, AreOrigins}
use Rattle.pt_links.specs.Wiring.{IsOwned, AreOwned, AreFine}
use Rattle.pt_graph.proofs.GroupSteps.{AreEnds}
use Rattle.pt_net.proofs.Members.{contains_here, contains_slice, contains_flat_map, flat_map_contains, contains_filter_map, filter_map_contains, contains_enumerate, enumerate_contains}
use Rattle.pt_graph.proofs.GiftFacts.{gift_gives, gives_gift, given_below, joined_by, outside_below, inside_below, bonds_below, bond_is}
use Rattle.pt_graph.proofs.Singles.{transparent_single, one_of}

pair_in : (xs ys : List ℕ) (a b : ℕ) → Contains (first_pair xs ys) (a, b) → Contains xs a × Contains ys b
pair_in [] ys a b w = absurd (omega (arith, w.1))
pair_in (x ∷ xs) [] a b w = absurd (omega (arith, w.1))
pair_in (x ∷ xs) (y ∷ ys) a b w =
    let k : w.0 ≡ 0 = omega (arith, w.1) in
    let e : (x, y) ≡ (a, b) = sym (ap (λ n. get_or ((x, y) ∷ []) n (a, b)) k) ∙ w.2 in
    (subst (λ z. Contains (x ∷ xs) z) (ap (λ (p : ℕ × ℕ). p.0) e) (contains_here x xs), subst (λ z. Contains (y ∷ ys) z) (ap (λ (p : ℕ × ℕ). p.1) e) (contains_here y ys))

in_pair : (xs ys : List ℕ) (a b : ℕ) → length xs ≤ 1 → length ys ≤ 1 → Contains xs a → Contains ys b → Contains (first_pair xs ys) (a, b)
in_pair [] ys a b m n v w = absurd (omega (arith, v.1))
in_pair (x ∷ xs) [] a b m n v w = absurd (omega (arith, w.1))
in_pair (x ∷ xs) (y ∷ ys) a b m n v w =
    let e : x ≡ a = one_of (x ∷ xs) x a m (contains_here x xs) v in
    let f : y ≡ b = one_of (y ∷ ys) y b n (contains_here y ys) w in
    subst (λ z. Contains {X = ℕ × ℕ} ((x, y) ∷ []) (a, z)) f (subst (λ z. Contains {X = ℕ × ℕ} ((x, y) ∷ []) (z, y)) e (contains_here (x, y) []))

module _ (t : Tables) (own : AreOwned t) (fine : AreFine t) (all : All (IsWithin (length t.ports) (length t.relations)) (wires t)) where
  abbrev ws : List Wire
  ws = wires t

  outside_short : (g : ℕ) (p : PortAt) → slice_get t.ports g ≡ Some p → IsTrue (not (is_kept p.standing)) → length (outside_of ws g) ≤ 1
  outside_short g p is free = (fine g p is).single (transparent_single (length t.entities) p (All-contains (IsOwned (length t.entities)) t.ports p own (contains_slice t.ports g p is)) free)

  crossing_in : (q : ℕ × PortAt) (a b : ℕ) (kept : Bool) → is_kept q.1.standing ≡ kept → Contains (cond kept [] (first_pair (outside_of ws q.0) (inside_of ws q.0))) (a, b) → (IsTrue (not (is_kept q.1.standing))) × Contains (outside_of ws q.0) a × Contains (inside_of ws q.0) b
  crossing_in q a b true e w = absurd (omega (arith, w.1))
  crossing_in q a b false e w = let p = pair_in (outside_of ws q.0) (inside_of ws q.0) a b w in (not_from_false (is_kept q.1.standing) e, p.0, p.1)

  crossing_meets : (a b : ℕ) → Contains (crossings_among ws t.ports) (a, b) → (g : ℕ) × (p : PortAt) × (slice_get t.ports g ≡ Some p) × IsTrue (not (is_kept p.standing)) × Contains (outside_of ws g) a × Contains (inside_of ws g) b
  crossing_meets a b w =
      let v = flat_map_contains (crossing ws) (enumerate_from 0 t.ports) (a, b) w in
      let q : ℕ × PortAt = v.0 in
      let i = enumerate_contains 0 t.ports q v.1 in
      let n : i.0 ≡ q.0 = omega (arith, i.1) in
      let c = crossing_in q a b (is_kept q.1.standing) refl v.2 in
      (q.0, q.1, subst (λ (k : ℕ). slice_get t.ports k ≡ Some q.1) n i.2, c.0, c.1, c.2)

  way_meets : (a b : ℕ) → Pairs (ways t) a b → Meets t.ports ws a b
  way_meets a b w =
      elim (Contains-append_cases (filter_map bond_of ws) (crossings_among ws t.ports) (a, b) w) [
        | inl h ↦ (let v = filter_map_contains bond_of ws (a, b) h in bonded a b (subst (λ u. Contains ws u) (bond_is a b v.0 v.2) v.1))
        | inr h ↦ (let v = crossing_meets a b h in crossed v.0 v.1 a b v.2 v.3 v.4 v.5)
      ]

  meets_way : (a b : ℕ) → Meets t.ports ws a b → Pairs (ways t) a b
  meets_way a b (bonded x y w) = Contains-append_left (filter_map bond_of ws) (crossings_among ws t.ports) (x, y) (contains_filter_map bond_of ws (Bond x y) (x, y) w refl)
  meets_way a b (crossed g p x y is free out ins) =
      let z : 0 + g ≡ g = omega arith in
      let among : Contains (enumerate_from 0 t.ports) (g, p) = subst (λ (n : ℕ). Contains (enumerate_from 0 t.ports) (n, p)) z (contains_enumerate 0 t.ports g p is) in
      let pair = in_pair (outside_of ws g) (inside_of ws g) x y (outside_short g p is free) (fine g p is).single_inside out ins in
      let here' : Contains (crossing ws (g, p)) (x, y) = subst (λ (k : Bool). Contains (cond k [] (first_pair (outside_of ws g) (inside_of ws g))) (x, y)) (sym (not-true (is_kept p.standing) free)) pair in
      Contains-append_right (filter_map bond_of ws) (crossings_among ws t.ports) (x, y) (contains_flat_map (crossing ws) (enumerate_from 0 t.ports) (g, p) (x, y) among here')

  pub ways_joined : (a b : ℕ) → Joined (Pairs (ways t)) a b → AreJoined t.ports ws a b
  ways_joined a b p = joined_by way_meets a b p

  pub joined_ways : (a b : ℕ) → AreJoined t.ports ws a b → Joined (Pairs (ways t)) a b
  joined_ways a b p = joined_by meets_way a b p

  pub ways_below : AreEnds (length t.relations) (ways t)
  ways_below k d below =
      let link : ℕ × ℕ = get_or (ways t) k d in
      elim (Contains-append_cases (filter_map bond_of ws) (crossings_among ws t.ports) link (Contains-get_or (ways t) k d below)) [
        | inl h ↦ All-contains (λ (l : ℕ × ℕ). (l.0 < length t.relations) × (l.1 < length t.relations)) (filter_map bond_of ws) link (bonds_below (length t.ports) (length t.relations) ws all) h
        | inr h ↦ (let v = crossing_meets link.0 link.1 h in (outside_below (length t.ports) (length t.relations) ws all v.0 link.0 v.4, inside_below (length t.ports) (length t.relations) ws all v.0 link.1 v.5))
      ]

  -- ---- sources

  module _ (class : List ℕ) (sources : List (Option ℕ)) (classes : IsGrouping (length t.relations) (ways t) class) (origins : AreOrigins (length t.relations) (length (gifts t true)) class (gifts t true) sources) (r : ℕ) (below : r < length t.relations) where
    gift_below : (g s : ℕ) → Contains (gifts t true) (g, s) → s < length t.relations
    gift_below g s w = let v = gift_gives t.ports ws true g s w in given_below (length t.ports) (length t.relations) ws all g v.0 s v.1.linked

    has_source : (g : ℕ) → get_or sources (get_or class r 0) None ≡ Some g → IsSourceOf t r g
    has_source g e =
        let v = origins.sound (get_or class r 0) g e in
        let w = gift_gives t.ports ws true g v.0 v.1 in
        record { at = w.0; relation = v.0; source = record { kept = w.2; gives = w.1 }; joined = ways_joined v.0 r ((classes.joined v.0 r (gift_below g v.0 v.1) below).0 v.2) }

    has_none : get_or sources (get_or class r 0) None ≡ None → HasNoSource t r
    has_none e g s =
        let w = gives_gift t.ports ws true g s.at s.relation s.source.gives s.source.kept in
        let same : get_or class s.relation 0 ≡ get_or class r 0 = (classes.joined s.relation r (gift_below g s.relation w) below).1 (joined_ways s.relation r s.joined) in
        let k : get_or (gifts t true) w.0 (0, 0) ≡ (g, s.relation) = get_or_default (gifts t true) w.0 (0, 0) (g, s.relation) w.1 ∙ w.2 in
        let found : is_some (get_or sources (get_or class s.relation 0) None) ≡ true = subst (λ (q : ℕ × ℕ). is_some (get_or sources (get_or class q.1 0) None) ≡ true) k (origins.complete w.0 w.1) in
        let h : is_some (get_or sources (get_or class s.relation 0) None) ≡ false = ap (λ c. is_some (get_or sources c None)) same ∙ ap (λ o. is_some o) e in
        both_ways (is_some (get_or sources (get_or class s.relation 0) None)) h found

    pub source_is : (o : Option ℕ) → get_or sources (get_or class r 0) None ≡ o → MatchOption o (HasNoSource t r) (λ g. IsSourceOf t r g)
    source_is None e = has_none e
    source_is (Some g) e = has_source g e
