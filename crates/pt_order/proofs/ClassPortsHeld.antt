-- The ports of the library actors of such a net are those of their classes, and a single input has one channel.
use Rattle.std.proofs.Common.{◌≡◌, ℕ, suc, ◌+◌, true, not, cond, ◌&&◌, nat_eq, List, [], ◌∷◌, ◌++◌, Option, Some, length, map, filter, replicate, refl, sym, ap, subst, ◌∙◌, arith}
use Rattle.std.specs.Prelude.{option_map}
use Rattle.std.proofs.lemmas.Option.{slice_get-map}
use Rattle.std.specs.List.{count_by, slice_get}
use Rattle.pt_document.specs.declared.job.Direction.{Direction}
use Rattle.pt_document.specs.declared.job.Direction.TheVariants.{Input, Output}
use Rattle.pt_document.specs.Classes.{ClassPort, Class, Kind, Actor, kind_of}
use Rattle.pt_document.specs.Document.{Parts, parts, JobTree}
use Rattle.pt_net.specs.declared.net.Net.{Net}
use Rattle.pt_net.specs.declared.net.NetEntity.{NetEntity}
use Rattle.pt_net.specs.Standing.{entities}
use Rattle.pt_net.specs.Table.{joined_ports, declared_port, ports_of_kind, ports_of, tables_of}
use Rattle.pt_net.specs.Wires.{is_inward, outside_of, inside_of}
use Rattle.pt_net.specs.Net.{NetEntityTree, net_ports_of_kind, entity_view, wires, IsNetOf}
use Rattle.pt_scopes.specs.Scopes.{net_view}
use Rattle.pt_start.specs.Nested.{IsNested}
use Rattle.pt_trees.specs.Trees.{IsDirected}
use Rattle.pt_cover.proofs.Walk.{ArePlaced}
use Rattle.pt_order.specs.ClassPorts.{ends_from, channels_at, HasClassPorts}
use Rattle.pt_order.specs.Laws.{HasNoLinkFault}
use Rattle.pt_order.proofs.PortRules.{actor-declares, declares-none}
use Rattle.pt_order.proofs.Standings.{AreSeen}
use Rattle.pt_order.proofs.Ends.{spread, spread-same, spread-times, times, counted}
use Rattle.pt_order.proofs.PlaceBlocks.{way, to_entity, to_port}
use Rattle.pt_order.proofs.Sides.{is_outward}
use Rattle.pt_order.proofs.NetStandings.{tree_way, tree-ways, IsStandingOf, standing-of}
use Rattle.pt_order.proofs.WiredNets.{in-parts, apart, own, arriving, departing, linked}

-- inputs, each as often as channels end there
spread-ends : (counts : ℕ → ℕ) (n : ℕ) (ds : List Direction) → spread is_inward counts n ds ≡ ends_from counts n ds
spread-ends counts n [] = refl
spread-ends counts n (Input ∷ ds) = ap (λ xs. replicate (counts n) n ++ xs) (spread-ends counts (suc n) ds)
spread-ends counts n (Output ∷ ds) = spread-ends counts (suc n) ds

-- the ports of an actor are those of its class and those that it declares
class-ports : (own : Parts) (class : Class) → kind_of own.class ≡ Some (Actor class) → ports_of own ≡ joined_ports class.declares (map declared_port own.ports) class.ports
unfolding ports_of
class-ports own class kind = ap (λ (k : Option Kind). ports_of_kind k (map declared_port own.ports)) kind

module _ (job : JobTree) (net : Net) (seen : AreSeen (entities job)) (placed : ArePlaced (entities job)) (is : IsNetOf job net) (nested : IsNested (net_view net)) where
  -- so many channels end at an input as it has links
  ends-at-input : (k m : ℕ) (e : NetEntity) (st : IsStandingOf (entities job) k e) (d : Direction) → slice_get (map way (ports_of (parts st.standing.tree))) m ≡ Some d → is_inward d ≡ true → length (outside_of (wires (tables_of job)) ((arriving job net seen placed is nested k e st).0.first + m)) ≡ channels_at net k m
  ends-at-input k m e st d at input =
      let p = in-parts job net seen placed is nested in
      let ds = map way (ports_of (parts st.standing.tree)) in
      let ins = (arriving job net seen placed is nested k e st).0 in
      let outs = (departing job net seen placed is nested k e st).0 in
      let z : 0 + m ≡ m = omega arith in
      let counts = λ (n : ℕ). length (outside_of (wires (tables_of job)) (ins.first + n)) in
      let whole : channels_at net k m ≡ times m (map to_port (filter (λ x. nat_eq (to_entity x) k) p.ins)) + times m (map to_port (filter (λ x. nat_eq (to_entity x) k) p.outs)) =
      ap (count_by (λ x. nat_eq (to_entity x) k && nat_eq (to_port x) m)) p.are ∙ counted to_entity (λ x. x.composite) to_port p.ins p.outs (apart job net seen placed is nested) (own job net seen placed is nested) k m in
      let first : times m (map to_port (filter (λ x. nat_eq (to_entity x) k) p.ins)) ≡ cond (is_inward d) (counts m) 0 =
      ap (times m) ins.ends ∙ subst (λ (n : ℕ). times n (spread is_inward counts 0 ds) ≡ cond (is_inward d) (counts n) 0) z (spread-times is_inward counts 0 ds m d at) in
      let second : times m (map to_port (filter (λ x. nat_eq (to_entity x) k) p.outs)) ≡ cond (is_outward d) (length (inside_of (wires (tables_of job)) (outs.first + m))) 0 =
      ap (times m) outs.ends ∙ subst (λ (n : ℕ). times n (spread is_outward (λ n. length (inside_of (wires (tables_of job)) (outs.first + n))) 0 ds) ≡ cond (is_outward d) (length (inside_of (wires (tables_of job)) (outs.first + n))) 0) z (spread-times is_outward (λ n. length (inside_of (wires (tables_of job)) (outs.first + n))) 0 ds m d at) in
      let all : cond (is_inward d) (counts m) 0 ≡ counts m = ap (λ b. cond b (counts m) 0) input in
      let none : cond (is_outward d) (length (inside_of (wires (tables_of job)) (outs.first + m))) 0 ≡ 0 = ap (λ b. cond (not b) (length (inside_of (wires (tables_of job)) (outs.first + m))) 0) input in
      let value : counts m ≡ channels_at net k m = omega (arith, whole, first, second, all, none) in
      value

  -- a library actor in a composite with a director has the ports of its class
  pub class-ports-held : HasNoLinkFault (tables_of job) → (k c : ℕ) (e f : NetEntity) (class : Class) → slice_get net.entities.items k ≡ Some e → e.parent ≡ Some c → slice_get net.entities.items c ≡ Some f → IsDirected f → kind_of e.class ≡ Some (Actor class) → HasClassPorts net k e
  class-ports-held clean k c e f class at round holder directed kind =
      let st = standing-of job net placed is k e at in
      let own = parts st.standing.tree in
      let kind-own : kind_of own.class ≡ Some (Actor class) = ap (λ (x : NetEntityTree). kind_of x.class) (sym st.same) ∙ kind in
      let read = (seen st.place st.standing st.at).read in
      let fit = actor-declares own class read kind-own in
      let b = arriving job net seen placed is nested k e st in
      let ways : map way (ports_of own) ≡ map tree_way (entity_view e).ports = sym (tree-ways own) ∙ ap (λ (x : NetEntityTree). map tree_way x.ports) (sym st.same) in
      record {
        class = class;
        declared = own.ports;
        kind = kind;
        ports = ap (λ (x : NetEntityTree). x.ports) st.same ∙ ap (λ (o : Option Kind). net_ports_of_kind o own.ports) kind-own;
        none = declares-none class own.ports fit;
        fit = fit;
        ends = b.1
            ∙ spread-same is_inward (λ m. length (outside_of (wires (tables_of job)) (b.0.first + m))) (channels_at net k) 0 (map way (ports_of own)) (λ m d there input. (let z : m ≡ 0 + m = omega arith in subst (λ (n : ℕ). length (outside_of (wires (tables_of job)) (b.0.first + n)) ≡ channels_at net k n) z (ends-at-input k m e st d there input)))
            ∙ spread-ends (channels_at net k) 0 (map way (ports_of own)) ∙ ap (ends_from (channels_at net k) 0) ways;
        single = λ i q there input single. (
            let here : slice_get (ports_of own) i ≡ Some q = ap (λ ps. slice_get ps i) (class-ports own class kind-own) ∙ there in
            let inward : is_inward q.direction ≡ true = ap is_inward input in
            let dirs : slice_get (map way (ports_of own)) i ≡ Some q.direction = slice_get-map way (ports_of own) i ∙ ap (λ (o : Option ClassPort). option_map way o) here in
            sym (ends-at-input k i e st q.direction dirs inward) ∙ linked job net seen placed is nested clean k c e f st (b.0.first + i) b.0.place i q at round holder directed (b.0.ports_at i q here) inward single);
      }
