-- The channels of a net in two parts: those to the inputs of entities, and those to own outputs of composites.
use Rattle.std.proofs.Common.{◌≡◌, ℕ, ◌+◌, Bool, true, false, not, cond, List, [], ◌++◌, Option, Some, None, filter, refl, sym, ap, ◌∙◌, arith}
use Rattle.std.specs.Prelude.{unwrap_or}
use Rattle.std.proofs.lemmas.Option.{none-some}
use Rattle.std.specs.List.{AllZip, enumerate_from, flat_map, slice_get}
use Rattle.pt_document.specs.declared.job.Direction.{Direction}
use Rattle.pt_net.specs.declared.net.Channel.{Channel}
use Rattle.pt_net.specs.Standing.{Standing, is_kept}
use Rattle.pt_net.specs.Table.{PortAt, Tables, tables_from}
use Rattle.pt_net.specs.Wires.{is_inward, is_input, outside_of, inside_of, taken_from, Place, places_along, input_places, output_places}
use Rattle.pt_net.specs.Net.{wires, all_places, IsChannelTo}
use Rattle.pt_net.proofs.Members.{zip_weaker}
use Rattle.pt_cover.proofs.Walk.{ArePlaced}
use Rattle.pt_order.proofs.Standings.{AreSeen}
use Rattle.pt_order.proofs.Blocks.{AreBlocks}
use Rattle.pt_order.proofs.Owners.{outside-round}
use Rattle.pt_order.proofs.PlaceBlocks.{EndsAt, to_entity, IsOf, IsSide, IsPortBlock, AreCounted, counted-from, zip-split, blocks}

-- the direction of an output
abbrev pub is_outward : Direction → Bool
is_outward d = not (is_inward d)

-- the composite of the channel is what is round the entity, or the entity itself
abbrev pub ComesIn : Standing → Channel → Type 0
ComesIn s k = s.round.parent ≡ Some k.composite

abbrev pub GoesOut : Standing → Channel → Type 0
GoesOut s k = s.number ≡ k.composite

ends-at : (t : Tables) (place : Place) (k : Channel) → IsChannelTo t place k → EndsAt place k
ends-at t place k c = record { composite_is = ap (λ (x : Channel). x.composite) c.is; entity_is = ap (λ (x : Channel). x.to.entity) c.is; port_is = ap (λ (x : Channel). x.to.port) c.is }

-- where the entity of a port stays in the net
input-kept : (k i : Bool) (out ins : List Place) → k ≡ true → cond i (cond k (cond i out ins) []) [] ≡ cond i out []
input-kept k true out ins e = ap (λ b. cond b out []) e
input-kept k false out ins e = refl

input-left : (k i : Bool) (ps : List Place) → k ≡ false → cond i (cond k ps []) [] ≡ []
input-left k true ps e = ap (λ b. cond b ps []) e
input-left k false ps e = refl

output-kept : (k i : Bool) (out ins : List Place) → k ≡ true → cond i [] (cond k (cond i out ins) []) ≡ cond (not i) ins []
output-kept k true out ins e = refl
output-kept k false out ins e = ap (λ b. cond b ins []) e

output-left : (k i : Bool) (ps : List Place) → k ≡ false → cond i [] (cond k ps []) ≡ []
output-left k true ps e = refl
output-left k false ps e = ap (λ b. cond b ps []) e

along-either : (i : Bool) (g : ℕ) (p : PortAt) (out ins : List ℕ) → places_along g p 0 (cond i out ins) ≡ cond i (places_along g p 0 out) (places_along g p 0 ins)
along-either true g p out ins = refl
along-either false g p out ins = refl

inward : (p : PortAt) (o : Option ℕ) (c : ℕ) (b : Bool) → b ≡ true → o ≡ Some c → (k : ℕ) → k ≡ cond b (unwrap_or o 0) p.standing.number → o ≡ Some k
inward p None c b t e k is = absurd (none-some c e)
inward p (Some d) c b t e k is = ap (λ m. Some m) (sym (is ∙ ap (λ x. cond x d p.standing.number) t))

outward : (p : PortAt) (n : ℕ) (b : Bool) → not b ≡ true → (k : ℕ) → k ≡ cond b n p.standing.number → p.standing.number ≡ k
outward p n true t k is = absurd (let h : false ≡ true = t in cc)
outward p n false t k is = sym is

-- the channels in two parts, each in blocks
pub record AreParted (all : List Standing) (ks : List Channel) : Type 0 where
  pub ins : List Channel
  pub outs : List Channel
  pub are : ks ≡ ins ++ outs
  pub come : AreBlocks to_entity (IsOf ComesIn) (IsPortBlock (tables_from all).ports (outside_of (wires (tables_from all))) is_inward) 0 (filter is_kept all) ins
  pub go : AreBlocks to_entity (IsOf GoesOut) (IsPortBlock (tables_from all).ports (inside_of (wires (tables_from all))) is_outward) 0 (filter is_kept all) outs

module _ (all : List Standing) (seen : AreSeen all) (placed : ArePlaced all) where
  abbrev t : Tables
  t = tables_from all

  pub input-side : IsSide t.ports (input_places (wires t)) (outside_of (wires t)) is_inward ComesIn
  input-side = record {
    kept = λ q e.
        (ap (λ ps. cond (is_input q.1) (cond (is_kept q.1.standing) ps []) []) (along-either (is_input q.1) q.0 q.1 (outside_of (wires t) q.0) (inside_of (wires t) q.0))
        ∙ input-kept (is_kept q.1.standing) (is_input q.1) (places_along q.0 q.1 0 (outside_of (wires t) q.0)) (places_along q.0 q.1 0 (inside_of (wires t) q.0)) e);
    left = λ q e. input-left (is_kept q.1.standing) (is_input q.1) (places_along q.0 q.1 0 (taken_from (wires t) q.0 q.1)) e;
    holds = λ g r p k at kept way linked is. (let d = outside-round all seen placed g r p at linked in inward p p.standing.round.parent d.0 (is_input p) way d.1 k.composite is);
  }

  pub output-side : IsSide t.ports (output_places (wires t)) (inside_of (wires t)) is_outward GoesOut
  output-side = record {
    kept = λ q e.
        (ap (λ ps. cond (is_input q.1) [] (cond (is_kept q.1.standing) ps [])) (along-either (is_input q.1) q.0 q.1 (outside_of (wires t) q.0) (inside_of (wires t) q.0))
        ∙ output-kept (is_kept q.1.standing) (is_input q.1) (places_along q.0 q.1 0 (outside_of (wires t) q.0)) (places_along q.0 q.1 0 (inside_of (wires t) q.0)) e);
    left = λ q e. output-left (is_kept q.1.standing) (is_input q.1) (places_along q.0 q.1 0 (taken_from (wires t) q.0 q.1)) e;
    holds = λ g r p k at kept way linked is. outward p (unwrap_or p.standing.round.parent 0) (is_input p) way k.composite is;
  }

  pub parted : (ks : List Channel) → AllZip (IsChannelTo t) (all_places t) ks → AreParted all ks
  parted ks zip =
      let r = zip-split EndsAt (flat_map (input_places (wires t)) (enumerate_from 0 t.ports)) (flat_map (output_places (wires t)) (enumerate_from 0 t.ports)) ks (zip_weaker (IsChannelTo t) EndsAt (ends-at t) (all_places t) ks zip) in
      let counted : AreCounted 0 all = counted-from 0 all (λ n s at. (placed n s at).number ∙ omega arith) in
      let stand = λ (i : ℕ) (x : PortAt) (at : slice_get t.ports i ≡ Some x). ap (slice_get t.ports) (let z : 0 + i ≡ i = omega arith in z) ∙ at in
      record {
        ins = r.0;
        outs = r.1;
        are = r.2;
        come = blocks t.ports (input_places (wires t)) (outside_of (wires t)) is_inward ComesIn input-side 0 all 0 0 r.0 counted stand r.3;
        go = blocks t.ports (output_places (wires t)) (inside_of (wires t)) is_outward GoesOut output-side 0 all 0 0 r.1 counted stand r.4;
      }
