-- How many links the ports of a net have in which no link is at fault.
use Rattle.std.proofs.Common.{◌≡◌, ◌⊎◌, inl, inr, ◌<◌, ℕ, List, [], ◌∷◌, Bool, true, false, not, cond, ◌&&◌, ◌||◌, Some, length, map, bytes_eq, codes, refl, sym, ap, ◌∙◌, arith}
use Rattle.std.specs.Option.{is_some, is_none}
use Rattle.std.proofs.lemmas.Bool.{and_from, or_parts}
use Rattle.std.proofs.lemmas.Option.{none-some, same_Some, slice_get-map}
use Rattle.std.proofs.lemmas.Slice.Eq.{bytes_eq-Decides}
use Rattle.std.specs.List.{slice_get}
use Rattle.pt_document.specs.declared.classes.Arity.TheVariants.{Single}
use Rattle.pt_document.specs.Classes.{ClassPort, kind_of}
use Rattle.pt_document.specs.Document.{Parts, parts, JobTree}
use Rattle.pt_net.specs.declared.net.Net.{Net}
use Rattle.pt_net.specs.declared.net.NetEntity.{NetEntity}
use Rattle.pt_net.specs.Standing.{Standing, Round, is_kept, is_composite, is_modal, no_round, entities}
use Rattle.pt_net.specs.Table.{PortAt, Tables, tables_of, port_path, declared_port, ports_of_kind, ports_of}
use Rattle.pt_net.specs.Wires.{is_input, outside_of, inside_of}
use Rattle.pt_net.specs.Net.{NetEntityTree, entity_view, entity_tree, wires, IsNetOf}
use Rattle.pt_net.specs.Stands.{has_one_at_most, has_one, twice_outside, twice_inside, no_link, no_link_inside, needs_link}
use Rattle.pt_trees.specs.Trees.{IsDirected}
use Rattle.pt_cover.proofs.Walk.{ArePlaced}
use Rattle.pt_scopes.specs.Scopes.{is_composite_class}
use Rattle.pt_cover.proofs.Nesting.{viewed}
use Rattle.pt_order.specs.Laws.{HasNoLinkFault}
use Rattle.pt_order.proofs.Standings.{IsIn, AreSeen}
use Rattle.pt_order.proofs.Owners.{port-there}
use Rattle.pt_order.proofs.ClassNames.{composite-or-modal}
use Rattle.pt_order.proofs.NetStandings.{entity-of}

one-long : (xs : List ℕ) → (1 < length xs → ⊥) → (xs ≡ [] → ⊥) → length xs ≡ 1
one-long [] short some = absurd (some refl)
one-long (x ∷ []) short some = refl
one-long (x ∷ y ∷ xs) short some = absurd (short (omega arith))

-- a Composite is no Modal entity
modal-not : (own : Parts) → is_composite own ≡ true → is_modal own ≡ false
modal-not own e = ap (λ (c : List ℕ). bytes_eq c (codes "Modal")) ((bytes_eq-Decides own.class (codes "Composite")).0 e)

-- a Composite and a Modal entity have the ports that they declare
composite-ports : (own : Parts) → is_composite_class own.class ≡ true → ports_of own ≡ map declared_port own.ports
unfolding ports_of kind_of
composite-ports own e = by-name (composite-or-modal own.class e)
  where
    by-name : (own.class ≡ codes "Composite") ⊎ (own.class ≡ codes "Modal") → ports_of own ≡ map declared_port own.ports
    by-name (inl is) = ap (λ (n : List ℕ). ports_of_kind (kind_of n) (map declared_port own.ports)) is
    by-name (inr is) = ap (λ (n : List ℕ). ports_of_kind (kind_of n) (map declared_port own.ports)) is

pub composite-single : (own : Parts) (i : ℕ) (q : ClassPort) → is_composite_class own.class ≡ true → slice_get (ports_of own) i ≡ Some q → q.arity ≡ Single
composite-single own i q e at =
    let v = viewed declared_port (slice_get own.ports i) q (sym (slice_get-map declared_port own.ports i) ∙ ap (λ ps. slice_get ps i) (sym (composite-ports own e)) ∙ at) in
    ap (λ (p : ClassPort). p.arity) (sym v.2)

-- the class of a composite with a director
pub class-composite : (e : NetEntity) (s : Standing) → entity_view e ≡ entity_tree s → IsDirected e → is_composite (parts s.tree) ≡ true
class-composite e s same directed = ap (λ (x : NetEntityTree). bytes_eq x.class (codes "Composite")) (sym same) ∙ directed.composite

-- what isn't in the net is a Composite
left-composite : (s : Standing) → is_kept s ≡ false → is_composite (parts s.tree) ≡ true
left-composite s out = of-not (is_composite (parts s.tree)) (or_parts (is_none s.round.outer) (not (is_composite (parts s.tree))) (or_parts (is_none s.round.outer || not (is_composite (parts s.tree))) s.is_directed out).0).1
  where
    of-not : (b : Bool) → not b ≡ false → b ≡ true
    of-not true e = refl
    of-not false e = absurd (let h : true ≡ false = e in cc)

module _ (job : JobTree) (net : Net) (seen : AreSeen (entities job)) (placed : ArePlaced (entities job)) (is : IsNetOf job net) (clean : HasNoLinkFault (tables_of job)) where
  abbrev t : Tables
  t = tables_of job

  -- what stands in a composite with a director is no refinement
  module _ (s : Standing) (c : ℕ) (f : NetEntity) (round : s.round.parent ≡ Some c) (at : slice_get net.entities.items c ≡ Some f) (directed : IsDirected f) where
    holder-composite : (i : IsIn (entities job) s.round) → is_composite (parts i.outer_at.tree) ≡ true
    holder-composite i = chosen (is_kept i.outer_at) refl
      where
        chosen : (b : Bool) → is_kept i.outer_at ≡ b → is_composite (parts i.outer_at.tree) ≡ true
        chosen true kept =
            let number : i.outer_at.number ≡ c = same_Some i.outer_at.number c (sym (ap (λ (r : Round). r.parent) i.is ∙ ap (λ b. cond b (Some i.outer_at.number) i.outer_at.round.parent) kept) ∙ round) in
            let e = entity-of job net placed is i.outer i.outer_at i.at kept in
            let same : e.0 ≡ f = same_Some e.0 f (sym e.1 ∙ ap (slice_get net.entities.items) number ∙ at) in
            class-composite f i.outer_at (ap (λ (x : NetEntity). entity_view x) (sym same) ∙ e.2) directed
        chosen false out = left-composite i.outer_at out

    within : (s.round ≡ no_round) ⊎ IsIn (entities job) s.round → (is_some s.round.outer ≡ true) × (not s.round.is_refinement ≡ true)
    within (inl top) = absurd (none-some c (sym (ap (λ (r : Round). r.parent) top) ∙ round))
    within (inr i) = (ap (λ (r : Round). is_some r.outer) i.is, ap (λ (r : Round). not r.is_refinement) i.is ∙ ap not (modal-not (parts i.outer_at.tree) (holder-composite i)))

  -- a single input there has one link
  pub single-linked : (g : ℕ) (p : PortAt) (c : ℕ) (f : NetEntity) → slice_get t.ports g ≡ Some p → is_kept p.standing ≡ true → is_input p ≡ true → p.port.arity ≡ Single → p.standing.round.parent ≡ Some c → slice_get net.entities.items c ≡ Some f → IsDirected f → length (outside_of (wires t) g) ≡ 1
  single-linked g p c f there kept input single round at composite =
      let w = within p.standing c f round at composite (seen p.entity p.standing (port-there (entities job) seen placed g p there)).round in
      let needs : needs_link p ≡ true =
      and_from (is_input p && has_one p.port.arity && is_kept p.standing && is_some p.standing.round.outer) (not p.standing.round.is_refinement)
      (and_from (is_input p && has_one p.port.arity && is_kept p.standing) (is_some p.standing.round.outer)
      (and_from (is_input p && has_one p.port.arity) (is_kept p.standing) (and_from (is_input p) (has_one p.port.arity) input (ap has_one single)) kept) w.0) w.1 in
      one-long (outside_of (wires t) g) (λ many. clean (port_path p) (twice_outside g p there (ap has_one_at_most single) many)) (λ none. clean (port_path p) (no_link g p there needs none))

  -- a port of a composite with a director has one inside
  pub inside-linked : (g : ℕ) (p : PortAt) → slice_get t.ports g ≡ Some p → is_composite (parts p.standing.tree) ≡ true → p.standing.is_directed ≡ true → length (inside_of (wires t) g) ≡ 1
  inside-linked g p there composite directed =
      one-long (inside_of (wires t) g) (λ many. clean (port_path p) (twice_inside g p there many)) (λ none. clean (port_path p) (no_link_inside g p there (and_from (is_composite (parts p.standing.tree)) p.standing.is_directed composite directed) none))
