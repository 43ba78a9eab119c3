use Rattle.std.proofs.Common.{◌<◌, ◌++◌, ℕ, List, [], get_or, length, sym, subst, map, arith}
use Rattle.std.proofs.lemmas.List.{get_or_default}
use Rattle.std.proofs.lemmas.Option.{slice_get_within}
use Rattle.pt_net.specs.Inside.{children_of}
use Rattle.pt_node.specs.declared.node.Node.{Node, out-Node}
use Rattle.pt_node.specs.Shown.{shown, all_of}
use Rattle.pt_meetings.specs.Sites.{own_site, sites_below}
use Rattle.pt_meetings.proofs.Walking.{Telling, kid_depth, next-number, next-child, telling-first, telling-next, telling-last, can-split}
use Rattle.pt_meetings.proofs.table.Table.+write.Goals as goal

pub write_own-requires-clause-there : goal.write_own-requires-clause-there
write_own-requires-clause-there t c = slice_get_within c.args.self.now.net.now.entities.items c.args.k c.requires.stands.0.0 c.requires.stands.0.1

pub write_own-requires-clause-told : goal.write_own-requires-clause-told
write_own-requires-clause-told t c =
    (can-split c.args.self.now.net.now (own_site c.args.k (out-Node c.args.node.now).meetings)
    (sites_below c.args.self.now.net.now.entities.items 0 (children_of c.args.self.now.net.now.entities.items c.args.k) (all_of (map shown (out-Node c.args.node.now).children.items))) c.requires.told).0

pub children_of-numbers-requires-clause-there : goal.children_of-numbers-requires-clause-there
children_of-numbers-requires-clause-there t c = slice_get_within c.args.self.now.net.now.entities.items c.args.k c.requires.stands.0.0 c.requires.stands.0.1

pub loop-place-init : goal.loop-place-init
loop-place-init t c =
    let net = c.args.self.now.net.now in
    let kids : List Node = (out-Node c.args.node.now).children.items in
    let own = own_site c.args.k (out-Node c.args.node.now).meetings in
    let left = sites_below net.entities.items 0 (children_of net.entities.items c.args.k) (all_of (map shown kids)) in
    subst (λ (cs : List ℕ). Telling net cs kids 0 c.args.out.now.items c.write_own.new.out.items (own ++ left)) (sym c.children_of-numbers.ensures)
    (telling-first net (children_of net.entities.items c.args.k) kids c.args.out.now.items c.write_own.new.out.items own c.requires.stands.1 (can-split net own left c.requires.told).1 c.in_ok-write_own.ensures)

pub bounds-numbers-place : goal.bounds-numbers-place
bounds-numbers-place t c =
    let kids : List Node = (out-Node c.args.node.now).children.items in
    let l : c.loop-place.place < length kids = omega (arith, c.loop-place-test.true, c.len-place-end.ensures, (out-Node c.args.node.now).children.ok.0) in
    next-number c.args.self.now.net.now c.children_of-numbers.result.now kids c.loop-place.place c.index-child.result.now [] c.loop-place.invariant.lists _ c.loop-place.invariant.gathering l c.index-child.ensures

pub write-requires : goal.write-requires
write-requires t c =
    let net = c.args.self.now.net.now in
    let numbers = c.children_of-numbers.result.now in
    let kids : List Node = (out-Node c.args.node.now).children.items in
    let place = c.loop-place.place in
    let child = c.index-child.result.now in
    let so_far = c.loop-place.invariant in
    let l : place < length kids = omega (arith, c.loop-place-test.true, c.len-place-end.ensures, (out-Node c.args.node.now).children.ok.0) in
    let m = next-number net numbers kids place child [] so_far.lists _ so_far.gathering l c.index-child.ensures in
    let next = next-child net numbers kids place (get_or numbers place 0) child [] so_far.lists _ so_far.gathering l c.index-child.ensures m (get_or_default numbers place 0 (get_or numbers place 0) m) in
    let deep = kid_depth kids place child l c.index-child.ensures in
    (omega (arith, c.decreases, deep), (c.requires.prepared, (next.0, next.1)))

pub loop-place-preserved : goal.loop-place-preserved
loop-place-preserved t c =
    let net = c.args.self.now.net.now in
    let numbers = c.children_of-numbers.result.now in
    let kids : List Node = (out-Node c.args.node.now).children.items in
    let place = c.loop-place.place in
    let child = c.index-child.result.now in
    let so_far = c.loop-place.invariant in
    let l : place < length kids = omega (arith, c.loop-place-test.true, c.len-place-end.ensures, (out-Node c.args.node.now).children.ok.0) in
    let m = next-number net numbers kids place child [] so_far.lists _ so_far.gathering l c.index-child.ensures in
    telling-next net numbers kids place (get_or numbers place 0) child c.args.out.now.items c.loop-place.out.items c.write.new.out.items _ so_far l c.index-child.ensures m (get_or_default numbers place 0 (get_or numbers place 0) m) c.in_ok-write.ensures

pub returns : goal.returns
returns t c =
    telling-last c.args.self.now.net.now c.children_of-numbers.result.now (out-Node c.args.node.now).children.items c.loop-place.place c.args.out.now.items c.loop-place.out.items _ c.loop-place.invariant
    (omega (arith, c.loop-place-test.false, c.len-place-end.ensures, (out-Node c.args.node.now).children.ok.0))
