use Rattle.std.proofs.Common.{◌+◌, map, refl, sym, ap, ap₂, subst, ◌∙◌}
use Rattle.pt_node.specs.declared.node.Node.{Node, out-Node}
use Rattle.pt_node.specs.declared.node.Node.TheOpen as opens
use Rattle.pt_node.specs.Shown.{shown, shown_node}
use Rattle.pt_node.specs.Firing.{recorded_times}
use Rattle.pt_node.specs.View.{outline_of, count_of}
use Rattle.pt_blocks.specs.Made.{IsAsBefore, MadeInTurn}
use Rattle.pt_blocks.proofs.BareLaws.{as-before, outline-as-before, count-as-before}
use Rattle.pt_blocks.proofs.MadeLaws.{block-made, block-outline, block-counted}
use Rattle.pt_blocks.proofs.TopLaws.{frame_in, children-shown}
use Rattle.pt_blocks.proofs.block.fire_block.Goals as goal

-- where the children are as before, but for notes
pub returns-then-not-fire_children-clause-made : goal.returns-then-not-fire_children-clause-made
returns-then-not-fire_children-clause-made c =
    let x : opens.Node-F Node = out-Node c.args.top.now in
    subst (λ v. IsAsBefore (shown_node c.args.top.now) v) (sym (children-shown x c.fire_children.new.children))
    (as-before (frame_in x) (map shown x.children.items) (map shown c.fire_children.new.children.items) c.if-not-fire_children.ensures.1 c.requires.live)

pub returns-then-not-fire_children-clause-outline : goal.returns-then-not-fire_children-clause-outline
returns-then-not-fire_children-clause-outline c =
    let x : opens.Node-F Node = out-Node c.args.top.now in
    ap (λ s. outline_of s) (children-shown x c.fire_children.new.children)
    ∙ outline-as-before (frame_in x) (map shown x.children.items) (map shown c.fire_children.new.children.items) c.if-not-fire_children.ensures.1

pub returns-then-not-fire_children-clause-counted : goal.returns-then-not-fire_children-clause-counted
returns-then-not-fire_children-clause-counted c =
    let x : opens.Node-F Node = out-Node c.args.top.now in
    ap₂ (λ m n. m + n)
    (ap (λ s. count_of s) (children-shown x c.fire_children.new.children) ∙ count-as-before (frame_in x) (map shown x.children.items) (map shown c.fire_children.new.children.items) c.if-not-fire_children.ensures.1)
    c.if-not-fire_children.ensures.0

-- where they made their firings
pub returns-clause-made : goal.returns-clause-made
returns-clause-made c =
    let x : opens.Node-F Node = out-Node c.args.top.now in
    subst (λ v. MadeInTurn c.args.iterations c.args.tag (shown_node c.args.top.now) v) (sym (c.record_row.ensures ∙ ap (λ s. recorded_times c.args.tag c.args.iterations s) (children-shown x c.fire_children.new.children)))
    (block-made c.args.tag c.args.iterations c.args.left.now c.fire_children.new.left (frame_in x) (map shown x.children.items) (map shown c.fire_children.new.children.items) (c.if-not-has_room.ensures.alone refl) c.requires.live c.if-not-fire_children.ensures)

pub returns-clause-outline : goal.returns-clause-outline
returns-clause-outline c =
    let x : opens.Node-F Node = out-Node c.args.top.now in
    ap (λ s. outline_of s) (c.record_row.ensures ∙ ap (λ s. recorded_times c.args.tag c.args.iterations s) (children-shown x c.fire_children.new.children))
    ∙ block-outline c.args.tag c.args.iterations c.args.left.now c.fire_children.new.left (frame_in x) (map shown x.children.items) (map shown c.fire_children.new.children.items) (c.if-not-has_room.ensures.alone refl) c.requires.live c.if-not-fire_children.ensures

pub returns-clause-counted : goal.returns-clause-counted
returns-clause-counted c =
    let x : opens.Node-F Node = out-Node c.args.top.now in
    ap (λ s. count_of s + c.fire_children.new.left) (c.record_row.ensures ∙ ap (λ s. recorded_times c.args.tag c.args.iterations s) (children-shown x c.fire_children.new.children))
    ∙ block-counted c.args.tag c.args.iterations c.args.left.now c.fire_children.new.left (frame_in x) (map shown x.children.items) (map shown c.fire_children.new.children.items) (c.if-not-has_room.ensures.alone refl) c.requires.live c.if-not-fire_children.ensures
