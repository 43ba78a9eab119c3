-- Channels, one place on.
use Rattle.std.proofs.Common.{cond, None, zero, suc, take, ◌≡◌, ℕ, ◌+◌, ◌<◌, Bool, true, false, not, IsTrue, ◌↔◌, Some, List, [], ◌∷◌, ◌++◌, length, get_or, refl, sym, ap, subst, ◌∙◌, arith}
use Rattle.std.proofs.lemmas.Bool.{both_ways}
use Rattle.std.proofs.lemmas.List.{take_more, length-take-le, append_assoc, append-nil}
use Rattle.std.proofs.lemmas.List.Elements.{Contains-append_left, Contains-append_right}
use Rattle.std.specs.List.{Contains, AllZip, slice_get, flat_map, enumerate_from}
use Rattle.pt_net.specs.declared.net.Channel.{Channel}
use Rattle.pt_net.specs.Table.{PortAt, Tables, port_path}
use Rattle.pt_net.specs.Wires.{is_input, taken_from, Place, places_along, places_of, input_places, output_places}
use Rattle.pt_net.specs.declared.wire.Wire.{Wire}
use Rattle.pt_net.specs.Standing.{is_opaque, is_kept}
use Rattle.pt_net.specs.Net.{wires, all_places, channel, ReachesIn}
use Rattle.pt_net.specs.Stands.{IsLinkFault, no_source, passed_on}
use Rattle.pt_graph.specs.Origins.{IsSourceOf, HasNoSource}
use Rattle.pt_graph.specs.ChannelTable.{IsGoodChannel, Adds, place_at}
use Rattle.pt_net.proofs.Members.{zip_push, contains_here, contains_later, contains_flat_map, contains_enumerate}

module _ (t : Tables) (place : Place) where
  reaches_of : (g : ℕ) (s : IsSourceOf t place.relation g) → ReachesIn t g s.at place
  reaches_of g s = record { relation = s.relation; source = s.source; joined = s.joined }

  pub sourceless : Contains (all_places t) place → HasNoSource t place.relation → IsLinkFault t (port_path place.at)
  sourceless there none = no_source place there (λ g p r. none g (record { at = p; relation = r.relation; source = r.source; joined = r.joined }))

  module _ (g : ℕ) (s : IsSourceOf t place.relation g) (p : PortAt) (is : slice_get t.ports g ≡ Some p) where
    same : s.at ≡ p
    same = let a = s.source.gives.port in cc

    reaches : ReachesIn t g p place
    reaches = subst (λ (q : PortAt). ReachesIn t g q place) same (reaches_of g s)

    pub passed : Contains (all_places t) place → IsTrue (is_opaque place.at.standing) → IsTrue (not (is_input place.at)) → IsTrue (is_input p) → p.entity ≡ place.at.entity → IsLinkFault t (port_path place.at)
    passed there opaque output input own = passed_on g p place there opaque output input reaches own

    pub added : (test : Bool) → (IsTrue test ↔ (IsTrue (is_opaque place.at.standing) × IsTrue (not (is_input place.at)) × IsTrue (is_input p) × (p.entity ≡ place.at.entity))) → test ≡ false → (old new : List Channel) (k : Channel) → k ≡ channel p place → new ≡ old ++ k ∷ [] → Adds t (place ∷ []) old new
    added test tells failed old new k is_k is_new before zip =
        subst (λ ks. AllZip (IsGoodChannel t) (before ++ place ∷ []) ks) (sym is_new)
        (zip_push (IsGoodChannel t) before old place k zip (record { source = g; source_at = p; reaches = reaches; is = is_k; apart = λ o a b e. both_ways test failed (tells.1 (o, a, b, e)) }))

-- ---- the places of a port

along-push : (g : ℕ) (p : PortAt) (k : ℕ) (rs : List ℕ) (r : ℕ) → places_along g p k (rs ++ r ∷ []) ≡ places_along g p k rs ++ place_at g p (k + length rs) r ∷ []
along-push g p k [] r = ap (λ n. place_at g p n r ∷ []) (let e : k ≡ k + 0 = omega arith in e)
along-push g p k (s ∷ rs) r = ap (λ ps. place_at g p k s ∷ ps) (along-push g p (k + 1) rs r ∙ ap (λ n. places_along g p (k + 1) rs ++ place_at g p n r ∷ []) (let e : k + 1 + length rs ≡ k + length (s ∷ rs) = omega arith in e))

pub along_more : (g : ℕ) (p : PortAt) (rs : List ℕ) (i d : ℕ) → i < length rs → places_along g p 0 (take (i + 1) rs) ≡ places_along g p 0 (take i rs) ++ place_at g p i (get_or rs i d) ∷ []
along_more g p rs i d within =
    ap (λ ss. places_along g p 0 ss) (take_more rs i d within)
    ∙ along-push g p 0 (take i rs) (get_or rs i d)
    ∙ ap (λ n. places_along g p 0 (take i rs) ++ place_at g p n (get_or rs i d) ∷ []) (let l = length-take-le i rs (omega arith) in let z : 0 + length (take i rs) ≡ i = omega (arith, l) in z)

along_contains : (g : ℕ) (p : PortAt) (k : ℕ) (rs : List ℕ) (i r : ℕ) → slice_get rs i ≡ Some r → Contains (places_along g p k rs) (place_at g p (k + i) r)
along_contains g p k [] i r e = let h : None ≡ Some r = e in absurd cc
along_contains g p k (s ∷ rs) zero r e =
    let h : s ≡ r = cc in
    let z : k ≡ k + 0 = omega arith in
    subst (λ n. Contains (places_along g p k (s ∷ rs)) (place_at g p n r)) z (subst (λ q. Contains (places_along g p k (s ∷ rs)) (place_at g p k q)) h (contains_here (place_at g p k s) (places_along g p (k + 1) rs)))
along_contains g p k (s ∷ rs) (suc i) r e =
    let z : k + 1 + i ≡ k + suc i = omega arith in
    contains_later (place_at g p k s) (places_along g p (k + 1) rs) (place_at g p (k + suc i) r) (subst (λ n. Contains (places_along g p (k + 1) rs) (place_at g p n r)) z (along_contains g p (k + 1) rs i r e))

-- a link of a port that stays in the net is one of the places
pub place_contains : (t : Tables) (g : ℕ) (p : PortAt) (i r : ℕ) → slice_get t.ports g ≡ Some p → is_kept p.standing ≡ true → slice_get (taken_from (wires t) g p) i ≡ Some r → Contains (all_places t) (place_at g p i r)
place_contains t g p i r is kept linked = on_side (is_input p) refl
  where
    ws : List Wire
    ws = wires t

    among : Contains (enumerate_from 0 t.ports) (g, p)
    among = let z : 0 + g ≡ g = omega arith in subst (λ (n : ℕ). Contains (enumerate_from 0 t.ports) (n, p)) z (contains_enumerate 0 t.ports g p is)

    here : Contains (places_of (wires t) (g, p)) (place_at g p i r)
    here =
        let z : 0 + i ≡ i = omega arith in
        subst (λ (b : Bool). Contains (cond b (places_along g p 0 (taken_from (wires t) g p)) []) (place_at g p i r)) (sym kept) (subst (λ n. Contains (places_along g p 0 (taken_from (wires t) g p)) (place_at g p n r)) z (along_contains g p 0 (taken_from (wires t) g p) i r linked))

    on_side : (b : Bool) → is_input p ≡ b → Contains (all_places t) (place_at g p i r)
    on_side true e =
        Contains-append_left (flat_map (input_places (wires t)) (enumerate_from 0 t.ports)) (flat_map (output_places (wires t)) (enumerate_from 0 t.ports)) (place_at g p i r)
        (contains_flat_map (input_places (wires t)) (enumerate_from 0 t.ports) (g, p) (place_at g p i r) among (subst (λ (b : Bool). Contains (cond b (places_of (wires t) (g, p)) []) (place_at g p i r)) (sym e) here))
    on_side false e =
        Contains-append_right (flat_map (input_places (wires t)) (enumerate_from 0 t.ports)) (flat_map (output_places (wires t)) (enumerate_from 0 t.ports)) (place_at g p i r)
        (contains_flat_map (output_places (wires t)) (enumerate_from 0 t.ports) (g, p) (place_at g p i r) among (subst (λ (b : Bool). Contains (cond b [] (places_of (wires t) (g, p))) (place_at g p i r)) (sym e) here))

-- one place after others
pub adds_more : (t : Tables) (first later all : List Place) (a b c : List Channel) → all ≡ first ++ later → Adds t first a b → Adds t later b c → Adds t all a c
adds_more t first later all a b c is x y before zip =
    subst (λ (ps : List Place). AllZip (IsGoodChannel t) ps c) (append_assoc before first later ∙ ap (λ (ps : List Place). before ++ ps) (sym is)) (y (before ++ first) (x before zip))

pub adds_none : (t : Tables) (a : List Channel) → Adds t [] a a
adds_none t a before zip = subst (λ (ps : List Place). AllZip (IsGoodChannel t) ps a) (sym (append-nil before)) zip
