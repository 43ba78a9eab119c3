use Rattle.std.proofs.Common.{◌≡◌, ◌∙◌, ℕ, List, length, map, true, sym, ap, subst}
use Rattle.pt_chart.specs.declared.written.Ports.{Ports}
use Rattle.pt_chart.specs.Views.{machine_of, ports_view}
use Rattle.pt_node.specs.Shown.{shown}
use Rattle.pt_node.specs.View.{Tree}
use Rattle.pt_trees.specs.Composite.{trees_of}
use Rattle.pt_trees.specs.Modal.{taken_by, places_of}
use Rattle.pt_trees.proofs.NodeLaws.{trees-length}
use Rattle.pt_wired.specs.Needs.{AreNeeds, NeedAll}
use Rattle.pt_modal_composite.proofs.ModalLaws.{places-are, refinements-if, none-needed}
use Rattle.pt_modal_composite.proofs.modal.has_refinements.Goals as goal

pub returns-then-not-are_opaque : goal.returns-then-not-are_opaque
returns-then-not-are_opaque c = λ has. c.are_opaque.ensures.no c.if-not-are_opaque.true has.opaque

pub returns-in-Some : goal.returns-in-Some
returns-in-Some c =
    let kids : List Tree = trees_of (map shown c.args.children.now) in
    let w = c.args.machine.now in
    let places : c.deref-2.result.now ≡ places_of (machine_of w) = c.deref-2.ensures.value ∙ places-are c.in_ok-places.places.items w (c.in_ok-places.ensures ∙ ap (λ (v : List Ports). map (λ p. taken_by (ports_view p)) v) c.deref.ensures.value) in
    let all : NeedAll kids (places_of (machine_of w)) c.in-Some.field-0.items = subst (λ (v : List ℕ). NeedAll kids v c.in-Some.field-0.items) places (subst (λ o. AreNeeds kids c.deref-2.result.now o) c.in-Some.is c.in_ok-needs_of.ensures) in
    refinements-if w kids c.args.inputs c.args.outputs (length c.args.children.now) c.in-Some.field-0.items c.is_for.result (sym (trees-length c.args.children.now)) (c.are_opaque.ensures.yes c.if-not-are_opaque.false) all c.is_for.ensures

pub returns : goal.returns
returns c =
    let kids : List Tree = trees_of (map shown c.args.children.now) in
    let w = c.args.machine.now in
    let places : c.deref-2.result.now ≡ places_of (machine_of w) = c.deref-2.ensures.value ∙ places-are c.in_ok-places.places.items w (c.in_ok-places.ensures ∙ ap (λ (v : List Ports). map (λ p. taken_by (ports_view p)) v) c.deref.ensures.value) in
    none-needed w kids c.args.inputs c.args.outputs (subst (λ (v : List ℕ). (ns : List ℕ) → NeedAll kids v ns → ⊥) places (subst (λ o. AreNeeds kids c.deref-2.result.now o) c.in-None.is c.in_ok-needs_of.ensures))
