use Rattle.std.proofs.Common.{◌≡◌, ℕ, ◌+◌, ◌*◌, ◌<◌, ◌^◌, List, [], ◌∷◌, length, map, get_or, refl, sym, ap, subst, ◌∙◌, arith}
use Rattle.std.proofs.lemmas.List.{length-map}
use Rattle.pt_value.specs.declared.token.Token.TheVariants.{Int}
use Rattle.pt_node.specs.declared.node.Node.{Node, out-Node}
use Rattle.pt_node.specs.Shown.{shown, shown_node}
use Rattle.pt_node.specs.Firing.{noted, bare}
use Rattle.pt_blocks.specs.Children.{Each, IsBareAs, IsNoted, AllNotedTo, fired_by}
use Rattle.pt_blocks.proofs.EachLaws.{each-long, each-none, noted-all-bare, note-more, note-fails, shown-set, shown-get, get-any}
use Rattle.pt_blocks.proofs.children.note_all.Goals as goal

pub returns-in_err-after-clause-bare : goal.returns-in_err-after-clause-bare
returns-in_err-after-clause-bare c = noted-all-bare c.args.repetitions.now c.args.given.now c.args.tag c.args.iterations 0 (map shown c.args.children.now.items) (map shown c.args.children.now.items) (each-none (IsNoted c.args.repetitions.now c.args.given.now c.args.tag c.args.iterations) (map shown c.args.children.now.items))

pub loop-i-init : goal.loop-i-init
loop-i-init c = record {
  each = each-none (IsNoted c.args.repetitions.now c.args.given.now c.args.tag c.args.iterations) (map shown c.args.children.now.items);
  left_is = grind (arith, c.in_ok-after.ensures);
}

pub returns-in_err-firings-clause-bare : goal.returns-in_err-firings-clause-bare
returns-in_err-firings-clause-bare c = noted-all-bare c.args.repetitions.now c.args.given.now c.args.tag c.args.iterations c.loop-i.i (map shown c.args.children.now.items) (map shown c.loop-i.children.items) c.loop-i.invariant.each

pub returns-in_err-rest-clause-bare : goal.returns-in_err-rest-clause-bare
returns-in_err-rest-clause-bare c = noted-all-bare c.args.repetitions.now c.args.given.now c.args.tag c.args.iterations c.loop-i.i (map shown c.args.children.now.items) (map shown c.loop-i.children.items) c.loop-i.invariant.each

pub index_mut-child-requires : goal.index_mut-child-requires
index_mut-child-requires c =
    let olds : List Node = c.args.children.now.items in
    let long = each-long (IsNoted c.args.repetitions.now c.args.given.now c.args.tag c.args.iterations) c.loop-i.i (map shown olds) (map shown c.loop-i.children.items) c.loop-i.invariant.each in
    omega (arith, c.loop-i-test.true, c.len-i-end.ensures, long, length-map olds shown, length-map c.loop-i.children.items shown)

pub returns-then-not-note_child-clause-bare : goal.returns-then-not-note_child-clause-bare
returns-then-not-note_child-clause-bare c =
    let kids : List Node = c.loop-i.children.items in
    let node : Node = c.index_mut-child.result.now in
    subst (λ v. Each IsBareAs (map shown c.args.children.now.items) v) (sym (shown-set kids c.loop-i.i c.note_child.new.child))
    (note-fails c.args.repetitions.now c.args.given.now c.args.tag c.args.iterations c.args.left c.loop-i.i (map shown c.args.children.now.items) (map shown kids) c.loop-i.after c.loop-i.invariant (shown node) (shown_node c.note_child.new.child)
    (c.note_child.ensures.bare ∙ ap (λ s. bare s) (shown-get kids c.loop-i.i node node c.index_mut-child.ensures.value)))

pub loop-i-preserved : goal.loop-i-preserved
loop-i-preserved c =
    let olds : List Node = c.args.children.now.items in
    let kids : List Node = c.loop-i.children.items in
    let i : ℕ = c.loop-i.i in
    let node : Node = c.index_mut-child.result.now in
    let there : i < length (map shown olds) = omega (arith, c.loop-i-test.true, c.len-i-end.ensures, length-map olds shown) in
    let child : shown_node node ≡ get_or (map shown kids) i (shown node) = shown-get kids i node node c.index_mut-child.ensures.value in
    let firings : c.in_ok-firings.firings ≡ get_or c.args.repetitions.now i 0 * c.args.iterations = grind (arith, c.in_ok-firings.ensures) in
    let row : c.as_slice.result.now ≡ get_or c.args.given.now i [] = c.as_slice.ensures ∙ c.index-given-i.is ∙ get-any c.args.given.now i c.index-given-i.result [] (omega (arith, there, c.requires.rows, length-map olds shown)) in
    subst (λ v. AllNotedTo (i + 1) c.args.repetitions.now c.args.given.now c.args.tag c.args.iterations c.args.left (map shown olds) v c.in_ok-rest.rest) (sym (shown-set kids i c.note_child.new.child))
    (note-more c.args.repetitions.now c.args.given.now c.args.tag c.args.iterations c.args.left i (map shown olds) (map shown kids) c.loop-i.after c.in_ok-rest.rest c.loop-i.invariant (shown node) (shown_node c.note_child.new.child) there
    (c.if-not-note_child.ensures.noted refl ∙ ap (λ ns. noted c.args.tag (map Int ns ∷ []) (shown_node node)) row ∙ ap (λ s. noted c.args.tag (map Int (get_or c.args.given.now i []) ∷ []) s) child)
    (subst (λ s. fired_by s + get_or c.args.repetitions.now i 0 * c.args.iterations < 2 ^ 64) child (subst (λ n. (out-Node node).past.made + n < 2 ^ 64) firings (c.if-not-note_child.ensures.few refl)))
    (grind (arith, firings, c.in_ok-rest.ensures)))

pub returns-clause-bare : goal.returns-clause-bare
returns-clause-bare c = noted-all-bare c.args.repetitions.now c.args.given.now c.args.tag c.args.iterations c.loop-i.i (map shown c.args.children.now.items) (map shown c.loop-i.children.items) c.loop-i.invariant.each
