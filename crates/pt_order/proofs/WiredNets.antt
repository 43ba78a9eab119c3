-- The net of a document in which no link is at fault is wired: its channels stand in order, begin at ports that are there, and a composite has one to each of its ports.
use Rattle.std.proofs.Common.{◌≡◌, ℕ, suc, ◌+◌, Bool, true, false, not, cond, nat_eq, List, [], ◌∷◌, ◌++◌, Option, Some, None, length, map, filter, refl, sym, ap, ap₂, subst, ◌∙◌, arith}
use Rattle.std.proofs.lemmas.Option.{same_Some, slice_get-map}
use Rattle.std.specs.List.{AllByRecursion, flat_map, slice_get}
use Rattle.std.specs.Prelude.{option_map}
use Rattle.pt_document.specs.declared.job.Direction.{Direction}
use Rattle.pt_document.specs.declared.job.Direction.TheVariants.{Input, Output}
use Rattle.pt_document.specs.declared.job.Port.{Port}
use Rattle.pt_document.specs.declared.classes.Arity.TheVariants.{Single}
use Rattle.pt_document.specs.Classes.{ClassPort}
use Rattle.pt_document.specs.Document.{parts, JobTree}
use Rattle.pt_net.specs.declared.net.Channel.{Channel}
use Rattle.pt_net.specs.declared.net.Net.{Net}
use Rattle.pt_net.specs.declared.net.NetDirector.{NetDirector}
use Rattle.pt_net.specs.declared.net.NetEntity.{NetEntity}
use Rattle.pt_net.specs.Standing.{Standing, is_kept, is_composite, entities}
use Rattle.pt_net.specs.Table.{PortAt, Tables, tables_of, ports_of}
use Rattle.pt_net.specs.Wires.{is_inward, is_input as is_input_at, outside_of, inside_of}
use Rattle.pt_net.specs.Net.{NetEntityTree, entity_view, entity_tree, wires, composite_of, IsChannel, IsNetOf}
use Rattle.pt_net.proofs.Members.{contains_slice}
use Rattle.pt_scopes.specs.Scopes.{net_view}
use Rattle.pt_start.specs.Nested.{IsNested}
use Rattle.pt_net.specs.Inside as wiring
use Rattle.pt_net.specs.Inside.{is_number, children_from, children_of, channels_in, is_input, is_output}
use Rattle.pt_trees.specs.Trees.{IsDirected}
use Rattle.pt_cover.proofs.Walk.{ArePlaced}
use Rattle.pt_cover.proofs.Nesting.{viewed}
use Rattle.pt_scopes.specs.Scopes.{is_composite_class}
use Rattle.pt_order.specs.Wired.{arrivals, departures, goes_out, number_if, port_numbers, BeginsIn, at_own, at_child, IsWired}
use Rattle.pt_order.specs.Laws.{HasNoLinkFault}
use Rattle.pt_order.proofs.Standings.{AreSeen}
use Rattle.pt_order.proofs.Blocks.{is_some_of, numbers_of, block-at, blocks-each, grouped}
use Rattle.pt_order.proofs.Ends.{spread, spread-once, comes, goes, in-both}
use Rattle.pt_order.proofs.PlaceBlocks.{way, to_entity, to_port, IsOf, IsPortBlock}
use Rattle.pt_order.proofs.PortTables.{port-of}
use Rattle.pt_order.proofs.Owners.{one-owner, port-there, giver, source-owner, joined-owner, place-at, place-owner}
use Rattle.pt_order.proofs.Sides.{is_outward, ComesIn, GoesOut, AreParted, parted}
use Rattle.pt_order.proofs.NetStandings.{port_way, net-ways, port-in-net, is-directed, IsStandingOf, standing-of, entity-of}
use Rattle.pt_order.proofs.LinkFacts.{composite-single, class-composite, single-linked, inside-linked}

-- ---- numbers

same-way : (d : Direction) → wiring.is_inward d ≡ is_inward d
same-way Input = refl
same-way Output = refl

input-numbers : (n : ℕ) (ps : List Port) → numbers_of is_inward n (map port_way ps) ≡ port_numbers is_input n ps
input-numbers n [] = refl
input-numbers n (p ∷ ps) = chosen (is_inward p.direction) (wiring.is_inward p.direction) (same-way p.direction) (input-numbers (suc n) ps)
  where
    chosen : (a b : Bool) → b ≡ a → {xs ys : List ℕ} → xs ≡ ys → cond a (n ∷ xs) xs ≡ number_if b n ys
    chosen true true e h = ap (λ zs. n ∷ zs) h
    chosen false false e h = h
    chosen true false e h = absurd (let k : false ≡ true = e in cc)
    chosen false true e h = absurd (let k : true ≡ false = e in cc)

output-numbers : (n : ℕ) (ps : List Port) → numbers_of is_outward n (map port_way ps) ≡ port_numbers is_output n ps
output-numbers n [] = refl
output-numbers n (p ∷ ps) = chosen (is_inward p.direction) (wiring.is_inward p.direction) (same-way p.direction) (output-numbers (suc n) ps)
  where
    chosen : (a b : Bool) → b ≡ a → {xs ys : List ℕ} → xs ≡ ys → cond (not a) (n ∷ xs) xs ≡ number_if (not b) n ys
    chosen true true e h = h
    chosen false false e h = ap (λ zs. n ∷ zs) h
    chosen true false e h = absurd (let k : false ≡ true = e in cc)
    chosen false true e h = absurd (let k : true ≡ false = e in cc)

same-number : (c : ℕ) (o : Option ℕ) → is_number c o ≡ is_some_of c o
same-number c None = refl
same-number c (Some p) = refl

-- the children of a composite of the net are those of the document that stay in it
children-are : (c j : ℕ) (es : List NetEntity) (ss : List Standing) → map entity_view es ≡ map entity_tree ss → children_from c j es ≡ numbers_of (λ (s : Standing). is_some_of c s.round.parent) j ss
children-are c j [] [] e = refl
children-are c j [] (s ∷ ss) e = absurd cc
children-are c j (x ∷ es) [] e = absurd cc
children-are c j (x ∷ es) (s ∷ ss) e =
    let first : entity_view x ≡ entity_tree s = cc in
    let rest : map entity_view es ≡ map entity_tree ss = cc in
    chosen (is_number c x.parent) (is_some_of c s.round.parent) (same-number c x.parent ∙ ap (λ (y : NetEntityTree). is_some_of c y.parent) first) (children-are c (suc j) es ss rest)
  where
    chosen : (a b : Bool) → a ≡ b → {xs ys : List ℕ} → xs ≡ ys → wiring.child_if a j xs ≡ cond b (j ∷ ys) ys
    chosen true true e h = ap (λ zs. j ∷ zs) h
    chosen false false e h = h
    chosen true false e h = absurd (let k : true ≡ false = e in cc)
    chosen false true e h = absurd (let k : false ≡ true = e in cc)

flat-same : {X : Type 0} (f g : ℕ → List X) → ((i : ℕ) → f i ≡ g i) → (is : List ℕ) → flat_map f is ≡ flat_map g is
flat-same f g h [] = refl
flat-same f g h (i ∷ is) = ap₂ (λ xs ys. xs ++ ys) (h i) (flat-same f g h is)

module _ (job : JobTree) (net : Net) (seen : AreSeen (entities job)) (placed : ArePlaced (entities job)) (is : IsNetOf job net) (nested : IsNested (net_view net)) where
  abbrev all : List Standing
  all = entities job

  abbrev t : Tables
  t = tables_of job

  abbrev ks : List Channel
  ks = net.channels.items

  abbrev es : List NetEntity
  es = net.entities.items

  pub in-parts : AreParted all ks
  in-parts = parted all seen placed ks is.numbered

  abbrev within : Channel → ℕ
  within x = x.composite

  tree-there : (i : ℕ) (s : Standing) → slice_get (filter is_kept all) i ≡ Some s → slice_get (net_view net).entities i ≡ Some (entity_tree s)
  tree-there i s at = ap (λ (xs : List NetEntityTree). slice_get xs i) is.each_entity ∙ slice_get-map entity_tree (filter is_kept all) i ∙ ap (λ (o : Option Standing). option_map entity_tree o) at

  pub apart : AllByRecursion (λ x. within x ≡ to_entity x → ⊥) in-parts.ins
  apart =
      blocks-each to_entity (IsOf ComesIn) (IsPortBlock t.ports (outside_of (wires t)) is_inward) (λ x. within x ≡ to_entity x → ⊥) 0 (filter is_kept all) in-parts.ins in-parts.come
      (λ i s x at ends h same. (let below = nested.parent_before i x.composite (entity_tree s) (tree-there i s at) h.1 in omega (arith, below, ends, same)))

  pub own : AllByRecursion (λ x. within x ≡ to_entity x) in-parts.outs
  own =
      blocks-each to_entity (IsOf GoesOut) (IsPortBlock t.ports (inside_of (wires t)) is_outward) (λ x. within x ≡ to_entity x) 0 (filter is_kept all) in-parts.outs in-parts.go
      (λ i s x at ends h. sym h.1 ∙ sym h.0)

  abbrev ending : ℕ → Channel → Bool
  ending i x = nat_eq x.to.entity i

  arrivals-are : (k : ℕ) → arrivals ks k ≡ filter (ending k) in-parts.ins
  arrivals-are k = ap (filter (wiring.comes_to k)) in-parts.are ∙ comes to_entity within to_port in-parts.ins in-parts.outs apart own k

  departures-are : (k : ℕ) → departures ks k ≡ filter (ending k) in-parts.outs
  departures-are k = ap (filter (goes_out k)) in-parts.are ∙ goes to_entity within to_port in-parts.ins in-parts.outs apart own k

  -- the channels of a composite are those to its children, and then its own
  in-order : (k : ℕ) → channels_in ks k ≡ flat_map (arrivals ks) (children_of es k) ++ departures ks k
  in-order k =
      ap (filter (wiring.is_within k)) in-parts.are ∙ in-both to_entity within to_port in-parts.ins in-parts.outs apart own k
      ∙ ap₂ (λ (xs ys : List Channel). xs ++ ys)
      (grouped to_entity (IsOf ComesIn) (IsPortBlock t.ports (outside_of (wires t)) is_inward) within (λ (s : Standing). s.round.parent) (λ s x h. h.1) k 0 (filter is_kept all) in-parts.ins in-parts.come
      ∙ ap (flat_map (λ i. filter (ending i) in-parts.ins)) (sym (children-are k 0 es (filter is_kept all) is.each_entity))
      ∙ flat-same (λ i. filter (ending i) in-parts.ins) (arrivals ks) (λ i. sym (arrivals-are i)) (children_of es k))
      (sym (departures-are k))

  -- ---- where channels begin

  begins : (x : Channel) → IsChannel t x → BeginsIn net x
  begins x c =
      let p : PortAt = c.source_at in
      let there = c.reaches.source.gives.port in
      let owner = one-owner t c.place.relation (giver p) (Some (composite_of c.place.at)) (joined-owner all seen placed c.reaches.relation c.place.relation (giver p) c.reaches.joined (source-owner all seen placed c.source c.reaches.relation p c.reaches.source)) (place-owner all seen placed c.place (place-at t c.place c.is_place)) in
      let e = entity-of job net placed is p.entity p.standing (port-there all seen placed c.source p there) c.reaches.source.kept in
      let q = port-in-net e.0 p.standing p.number p.port e.2 (port-of 0 all p (contains_slice t.ports c.source p there)).port in
      let number : x.from.entity ≡ p.standing.number = ap (λ (y : Channel). y.from.entity) c.is in
      let at-port : slice_get e.0.ports.items x.from.port ≡ Some q.0 = ap (slice_get e.0.ports.items) (ap (λ (y : Channel). y.from.port) c.is) ∙ q.1 in
      chosen p e.0 q.0 number (ap (slice_get es) number ∙ e.1) (ap (λ (y : NetEntityTree). y.parent) e.2) at-port (ap wiring.is_inward q.2 ∙ same-way p.port.direction) (owner ∙ ap (λ n. Some n) (sym (ap (λ (y : Channel). y.composite) c.is))) (is_input_at p) refl
    where
      chosen : (p : PortAt) (e : NetEntity) (q : Port) → x.from.entity ≡ p.standing.number → slice_get es x.from.entity ≡ Some e → e.parent ≡ p.standing.round.parent → slice_get e.ports.items x.from.port ≡ Some q → is_input q ≡ is_input_at p → giver p ≡ Some x.composite → (b : Bool) → is_input_at p ≡ b → BeginsIn net x
      chosen p e q number at round at-port way owner true input =
          let same : p.standing.number ≡ x.composite = same_Some p.standing.number x.composite (sym (ap (λ b. cond b (Some p.standing.number) p.standing.round.parent) input) ∙ owner) in
          at_own e q (number ∙ same) at at-port (way ∙ input)
      chosen p e q number at round at-port way owner false output =
          let holder : e.parent ≡ Some x.composite = round ∙ sym (ap (λ b. cond b (Some p.standing.number) p.standing.round.parent) output) ∙ owner in
          let there : slice_get (net_view net).entities x.from.entity ≡ Some (entity_view e) = slice_get-map entity_view es x.from.entity ∙ ap (λ (o : Option NetEntity). option_map entity_view o) at in
          let below = nested.parent_before x.from.entity x.composite (entity_view e) there holder in
          at_child e q (λ same. omega (arith, below, same)) at holder at-port (ap not (way ∙ output))

  -- ---- the ports of entities

  -- the channels to an entity, by the links of its ports
  pub arriving : (k : ℕ) (e : NetEntity) (st : IsStandingOf all k e) → (b : IsPortBlock t.ports (outside_of (wires t)) is_inward k st.standing (filter (ending k) in-parts.ins)) × (map to_port (arrivals ks k) ≡ spread is_inward (λ m. length (outside_of (wires t) (b.first + m))) 0 (map way (ports_of (parts st.standing.tree))))
  arriving k e st =
      let z : 0 + k ≡ k = omega arith in
      let b = subst (λ (m : ℕ). IsPortBlock t.ports (outside_of (wires t)) is_inward m st.standing (filter (ending m) in-parts.ins)) z (block-at to_entity (IsOf ComesIn) (IsPortBlock t.ports (outside_of (wires t)) is_inward) 0 (filter is_kept all) in-parts.ins k st.standing in-parts.come st.among) in
      (b, ap (map to_port) (arrivals-are k) ∙ b.ends)

  pub departing : (k : ℕ) (e : NetEntity) (st : IsStandingOf all k e) → (b : IsPortBlock t.ports (inside_of (wires t)) is_outward k st.standing (filter (ending k) in-parts.outs)) × (map to_port (departures ks k) ≡ spread is_outward (λ m. length (inside_of (wires t) (b.first + m))) 0 (map way (ports_of (parts st.standing.tree))))
  departing k e st =
      let z : 0 + k ≡ k = omega arith in
      let b = subst (λ (m : ℕ). IsPortBlock t.ports (inside_of (wires t)) is_outward m st.standing (filter (ending m) in-parts.outs)) z (block-at to_entity (IsOf GoesOut) (IsPortBlock t.ports (inside_of (wires t)) is_outward) 0 (filter is_kept all) in-parts.outs k st.standing in-parts.go st.among) in
      (b, ap (map to_port) (departures-are k) ∙ b.ends)

  -- a single input of what stands in a composite with a director has one link
  pub linked : HasNoLinkFault t → (k c : ℕ) (e f : NetEntity) (st : IsStandingOf all k e) (g n m : ℕ) (q : ClassPort) → slice_get es k ≡ Some e → e.parent ≡ Some c → slice_get es c ≡ Some f → IsDirected f → slice_get t.ports g ≡ Some (record { entity = n; standing = st.standing; number = m; port = q }) → is_inward q.direction ≡ true → q.arity ≡ Single → length (outside_of (wires t) g) ≡ 1
  linked clean k c e f st g n m q at round holder directed there input single =
      single-linked job net seen placed is clean g (record { entity = n; standing = st.standing; number = m; port = q }) c f there st.kept input single (sym (ap (λ (y : NetEntityTree). y.parent) st.same) ∙ round) holder directed

  -- where each entity with a director is a composite
  module _ (clean : HasNoLinkFault t) (owner : (k : ℕ) (e : NetEntity) (d : NetDirector) → slice_get es k ≡ Some e → e.director ≡ Some d → IsDirected e) where
    input-ports : (k c : ℕ) (e f : NetEntity) (d : NetDirector) → slice_get es k ≡ Some e → is_composite_class e.class ≡ true → e.parent ≡ Some c → slice_get es c ≡ Some f → f.director ≡ Some d → map to_port (arrivals ks k) ≡ port_numbers is_input 0 e.ports.items
    input-ports k c e f d at class round holder directed =
        let st = standing-of job net placed is k e at in
        let b = arriving k e st in
        let composite : is_composite_class (parts st.standing.tree).class ≡ true = ap (λ (x : NetEntityTree). is_composite_class x.class) (sym st.same) ∙ class in
        b.1
        ∙ spread-once is_inward (λ m. length (outside_of (wires t) (b.0.first + m))) 0 (map way (ports_of (parts st.standing.tree))) (λ m w there input. once st b.0 composite m w there input)
        ∙ ap (numbers_of is_inward 0) (sym (net-ways e st.standing st.same)) ∙ input-numbers 0 e.ports.items
      where
        once : (st : IsStandingOf all k e) (b : IsPortBlock t.ports (outside_of (wires t)) is_inward k st.standing (filter (ending k) in-parts.ins)) → is_composite_class (parts st.standing.tree).class ≡ true → (m : ℕ) (w : Direction) → slice_get (map way (ports_of (parts st.standing.tree))) m ≡ Some w → is_inward w ≡ true → length (outside_of (wires t) (b.first + (0 + m))) ≡ 1
        once st b composite m w there input =
            let q = viewed way (slice_get (ports_of (parts st.standing.tree)) m) w (sym (slice_get-map way (ports_of (parts st.standing.tree)) m) ∙ there) in
            let z : b.first + m ≡ b.first + (0 + m) = omega arith in
            linked clean k c e f st (b.first + (0 + m)) b.place m q.0 at round holder (owner c f d holder directed) (ap (slice_get t.ports) (sym z) ∙ b.ports_at m q.0 q.1) (ap is_inward q.2 ∙ input) (composite-single (parts st.standing.tree) m q.0 composite q.1)

    output-ports : (k : ℕ) (e : NetEntity) (d : NetDirector) → slice_get es k ≡ Some e → e.director ≡ Some d → map to_port (departures ks k) ≡ port_numbers is_output 0 e.ports.items
    output-ports k e d at directed =
        let st = standing-of job net placed is k e at in
        let b = departing k e st in
        let composite = class-composite e st.standing st.same (owner k e d at directed) in
        b.1
        ∙ spread-once is_outward (λ m. length (inside_of (wires t) (b.0.first + m))) 0 (map way (ports_of (parts st.standing.tree))) (λ m w there output. once st b.0 composite m w there)
        ∙ ap (numbers_of is_outward 0) (sym (net-ways e st.standing st.same)) ∙ output-numbers 0 e.ports.items
      where
        once : (st : IsStandingOf all k e) (b : IsPortBlock t.ports (inside_of (wires t)) is_outward k st.standing (filter (ending k) in-parts.outs)) → is_composite (parts st.standing.tree) ≡ true → (m : ℕ) (w : Direction) → slice_get (map way (ports_of (parts st.standing.tree))) m ≡ Some w → length (inside_of (wires t) (b.first + (0 + m))) ≡ 1
        once st b composite m w there =
            let q = viewed way (slice_get (ports_of (parts st.standing.tree)) m) w (sym (slice_get-map way (ports_of (parts st.standing.tree)) m) ∙ there) in
            let z : b.first + m ≡ b.first + (0 + m) = omega arith in
            inside-linked job net seen placed is clean (b.first + (0 + m)) (record { entity = b.place; standing = st.standing; number = m; port = q.0 }) (ap (slice_get t.ports) (sym z) ∙ b.ports_at m q.0 q.1) composite
            ((seen st.place st.standing st.at).directed ∙ is-directed e st.standing d st.same directed)

    pub wired : IsWired net
    wired = record {
      grouped = λ k e d at directed. in-order k;
      inputs = λ k c e f d at class round holder directed. input-ports k c e f d at class round holder directed;
      outputs = λ k e d at directed. output-ports k e d at directed;
      begin = λ x there. begins x ((is.channels x).0 there);
    }
