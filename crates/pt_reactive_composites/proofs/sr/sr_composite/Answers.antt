use Rattle.std.proofs.Common.{◌≡◌, Bool, List, map, None, sym, ap, ◌∙◌, subst}
use Rattle.pt_sr.specs.State.{started}
use Rattle.pt_directors.specs.Directors.{Director, of_sr}
use Rattle.pt_node.specs.declared.node.Node.{Node}
use Rattle.pt_node.specs.Shown.{Shown, shown}
use Rattle.pt_trees.specs.Around.{around_of}
use Rattle.pt_trees.specs.Sr.{sr, tick_plan, IsWired, IsWiredIf}
use Rattle.pt_trees.specs.Composite.{trees_of, IsComposed}
use Rattle.pt_composite_node.specs.Nodes.{built}
use Rattle.pt_wired.specs.Nonstrict.{is_nonstrict}
use Rattle.pt_reactive_composites.proofs.SrLaws.{composite-is}
use Rattle.pt_reactive_composites.proofs.sr.sr_composite.Goals as goal

pub returns-then-not-branch-clause-stands : goal.returns-then-not-branch-clause-stands
returns-then-not-branch-clause-stands c =
    subst (λ (b : Bool). IsWiredIf (around_of c.args.wiring) (trees_of (map shown c.args.children.items)) b) c.if-not-branch.true
    (subst (λ (v : List Node). IsWiredIf (around_of c.args.wiring) (trees_of (map shown v)) c.in_ok-is_wired.field-0) c.deref.ensures.value c.in_ok-is_wired.ensures)

pub core_of-requires : goal.core_of-requires
core_of-requires c =
    subst (λ (v : List Node). IsWired (around_of c.args.wiring) (trees_of (map shown v))) (sym c.deref-2.ensures.value)
    (subst (λ (b : Bool). IsWiredIf (around_of c.args.wiring) (trees_of (map shown c.args.children.items)) b) c.if-not-branch.false
    (subst (λ (v : List Node). IsWiredIf (around_of c.args.wiring) (trees_of (map shown v)) c.in_ok-is_wired.field-0) c.deref.ensures.value c.in_ok-is_wired.ensures))

pub returns-clause-node : goal.returns-clause-node
returns-clause-node c =
    let kids : List Shown = map shown c.args.children.items in
    let wired : IsWired (around_of c.args.wiring) (trees_of kids) =
    subst (λ (b : Bool). IsWiredIf (around_of c.args.wiring) (trees_of kids) b) c.if-not-branch.false (subst (λ (v : List Node). IsWiredIf (around_of c.args.wiring) (trees_of (map shown v)) c.in_ok-is_wired.field-0) c.deref.ensures.value c.in_ok-is_wired.ensures) in
    let is : c.in_ok-core.core ≡ started (tick_plan (around_of c.args.wiring)) (map is_nonstrict (trees_of kids)) =
    c.in_ok-core.ensures ∙ ap (λ (v : List Node). started (tick_plan (around_of c.args.wiring)) (map is_nonstrict (trees_of (map shown v)))) c.deref-2.ensures.value in
    subst (λ (s : Shown). IsComposed sr (around_of c.args.wiring) kids c.args.path c.args.records c.args.labels s)
    (sym (c.composite_node.ensures ∙ ap (λ (d : Director). built d None kids c.args.path c.args.records c.args.labels) (c.in_ok-director.ensures ∙ c.sr.ensures ∙ ap of_sr is)))
    (composite-is (around_of c.args.wiring) kids c.args.path c.args.records c.args.labels wired c.requires.fresh c.requires.empty)
