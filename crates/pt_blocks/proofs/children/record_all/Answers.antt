use Rattle.std.proofs.Common.{◌≡◌, ℕ, ◌+◌, ◌*◌, ◌<◌, ◌^◌, List, length, map, get_or, set, sym, ap, subst, ◌∙◌, arith}
use Rattle.std.proofs.lemmas.List.{length-map}
use Rattle.pt_node.specs.declared.node.Node.{Node}
use Rattle.pt_node.specs.Shown.{shown, shown_node}
use Rattle.pt_node.specs.Firing.{recorded_times}
use Rattle.pt_blocks.specs.Children.{EachTo, IsRecorded, with_actor, fired_by}
use Rattle.pt_blocks.proofs.EachLaws.{AreLeft, each-long, each-next, each-none, left-none, shown-set, shown-get, record-more}
use Rattle.pt_blocks.proofs.children.record_all.Goals as goal

pub loop-i-init : goal.loop-i-init
loop-i-init c = (each-none (IsRecorded c.args.repetitions.now c.args.tag c.args.iterations c.args.actors.now.items) (map shown c.args.children.now.items), left-none c.args.actors.now.items)

pub index_mut-child-requires : goal.index_mut-child-requires
index_mut-child-requires c =
    let olds : List Node = c.args.children.now.items in
    let long = each-long (IsRecorded c.args.repetitions.now c.args.tag c.args.iterations c.args.actors.now.items) c.loop-i.i (map shown olds) (map shown c.loop-i.children.items) c.loop-i.invariant.0 in
    omega (arith, c.loop-i-test.true, c.len-i-end.ensures, long, length-map olds shown, length-map c.loop-i.children.items shown)

pub overflow_mul-repetitions : goal.overflow_mul-repetitions
overflow_mul-repetitions c =
    let olds : List Node = c.args.children.now.items in
    let few = c.requires.few c.loop-i.i (omega (arith, c.loop-i-test.true, c.len-i-end.ensures, length-map olds shown)) (shown c.index_mut-child.result.now) in
    omega (arith, few)

pub record_child-requires : goal.record_child-requires
record_child-requires c =
    let olds : List Node = c.args.children.now.items in
    let kids : List Node = c.loop-i.children.items in
    let i : ℕ = c.loop-i.i in
    let node : Node = c.index_mut-child.result.now in
    let few = c.requires.few i (omega (arith, c.loop-i-test.true, c.len-i-end.ensures, length-map olds shown)) (shown node) in
    let child : shown_node node ≡ get_or (map shown olds) i (shown node) = shown-get kids i node node c.index_mut-child.ensures.value ∙ each-next (IsRecorded c.args.repetitions.now c.args.tag c.args.iterations c.args.actors.now.items) i (map shown olds) (map shown kids) c.loop-i.invariant.0 (shown node) in
    subst (λ s. fired_by s + get_or c.args.repetitions.now i 0 * c.args.iterations < 2 ^ 64) (sym child) few

pub loop-i-preserved : goal.loop-i-preserved
loop-i-preserved c =
    let olds : List Node = c.args.children.now.items in
    let kids : List Node = c.loop-i.children.items in
    let i : ℕ = c.loop-i.i in
    let node : Node = c.index_mut-child.result.now in
    let there : i < length (map shown olds) = omega (arith, c.loop-i-test.true, c.len-i-end.ensures, length-map olds shown) in
    let child : shown_node node ≡ get_or (map shown kids) i (shown node) = shown-get kids i node node c.index_mut-child.ensures.value in
    subst (λ v. EachTo (IsRecorded c.args.repetitions.now c.args.tag c.args.iterations c.args.actors.now.items) (i + 1) (map shown olds) v × AreLeft (i + 1) c.args.actors.now.items (set c.loop-i.actors.items i c.record_child.new.actor)) (sym (shown-set kids i c.record_child.new.child))
    (record-more c.args.repetitions.now c.args.tag c.args.iterations c.args.actors.now.items i (map shown olds) (map shown kids) c.loop-i.actors.items c.loop-i.invariant (shown node) (shown_node c.record_child.new.child) c.index_mut-actor.result.now c.record_child.new.actor there (omega (arith, there, c.requires.count)) c.index_mut-actor.ensures.value
    (c.record_child.ensures ∙ ap (λ s. recorded_times c.args.tag (get_or c.args.repetitions.now i 0 * c.args.iterations) (with_actor c.index_mut-actor.result.now s)) child))
