use Rattle.std.proofs.Common.{◌≡◌, ◌+◌, ◌<◌, arith, sym, ap, subst, length, map, ◌∙◌}
use Rattle.pt_node.specs.declared.node.Node.{out-Node}
use Rattle.pt_node.specs.Shown.{shown, all_of}
use Rattle.pt_trees.specs.Ports.{AreBelow, outputs_below, filled}
use Rattle.pt_reporting.proofs.Gathering.{below-left}
use Rattle.pt_reporting.proofs.Walking.{all-stay, stay-next, stay-more, stay-made, count-made, kid_depth, filling_first, filling_kid, filling_next, filling_last}
use Rattle.pt_reporting.proofs.reporting.+gather.Goals as goal

pub put_own-requires : goal.put_own-requires
put_own-requires t c =
    let node = out-Node c.args.node.now in
    let own : c.into_ports.result.items ≡ node.records = c.into_ports.ensures ∙ c.replace-records.ensures.value in
    subst (λ rs. AreBelow (length c.args.traces.now.items) rs) (sym own) (below-left (length c.args.traces.now.items) node.records (outputs_below (all_of (map shown node.children.items))) c.requires)

pub loop-k-init : goal.loop-k-init
loop-k-init t c =
    let node = out-Node c.args.node.now in
    let own : c.into_ports.result.items ≡ node.records = c.into_ports.ensures ∙ c.replace-records.ensures.value in
    (stay-made 0 node.children.items _ (all-stay node.children.items), filling_first node.records (outputs_below (all_of (map shown node.children.items))) c.args.traces.now.items c.put_own.new.traces.items c.requires (c.put_own.ensures ∙ ap (λ rs. filled rs c.args.traces.now.items) own))

pub gather-requires : goal.gather-requires
gather-requires t c =
    let kids = (out-Node c.args.node.now).children.items in
    let kid = c.index_mut.result.now in
    let count : c.len-k-end.result ≡ length kids = c.len-k-end.ensures ∙ count-made _ in
    let there : c.loop-k.k < length kids = omega (arith, c.loop-k-test.true, count) in
    let same = stay-next c.loop-k.k kids (out-Node c.loop-k.node).children.items kid c.loop-k.invariant.0 there c.index_mut.ensures.value in
    let deep = kid_depth kids c.loop-k.k kid there same in
    (omega (arith, c.decreases, deep), filling_kid kids c.loop-k.k kid c.loop-k.traces.items _ c.loop-k.invariant.1 there same)

pub loop-k-preserved : goal.loop-k-preserved
loop-k-preserved t c =
    let kids = (out-Node c.args.node.now).children.items in
    let left = (out-Node c.loop-k.node).children.items in
    let kid = c.index_mut.result.now in
    let count : c.len-k-end.result ≡ length kids = c.len-k-end.ensures ∙ count-made _ in
    let there : c.loop-k.k < length kids = omega (arith, c.loop-k-test.true, count) in
    let same = stay-next c.loop-k.k kids left kid c.loop-k.invariant.0 there c.index_mut.ensures.value in
    (stay-made (c.loop-k.k + 1) kids _ (stay-more c.loop-k.k kids left c.gather.new.node c.loop-k.invariant.0), filling_next kids c.loop-k.k kid c.loop-k.traces.items c.gather.new.traces.items _ c.loop-k.invariant.1 there same c.gather.ensures)

pub returns : goal.returns
returns t c =
    let kids = (out-Node c.args.node.now).children.items in
    let count : c.len-k-end.result ≡ length kids = c.len-k-end.ensures ∙ count-made _ in
    filling_last kids c.loop-k.k c.loop-k.traces.items _ c.loop-k.invariant.1 (omega (arith, c.loop-k-test.false, count))
