use Rattle.std.proofs.Common.{rules, ◌+◌, ◌≤◌, length, get_or, refl, sym, ap, ◌∙◌, arith}
use Rattle.std.proofs.lemmas.Grind.{common_steps}
use Rattle.pt_de_plan.proofs.EdgeLaws.{edges-next}
use Rattle.pt_de_plan.proofs.TotalLaws.{offset-within, total-more}
use Rattle.pt_de_plan.proofs.edges.edges_of.Goals as goal

pub overflow_add-end : goal.overflow_add-end
overflow_add-end c =
    let b : c.loop-child.first + get_or c.args.places.now c.loop-child.child 0 ≤ length c.args.sources.now = offset-within c.args.places.now c.loop-child.child c.loop-child.first (length c.args.sources.now) c.loop-child-test.true c.loop-child.invariant.offset c.requires.channels in
    first_of (search (rules, b), grind (arith, common_steps, b))

pub offset_bounds-sources-first : goal.offset_bounds-sources-first
offset_bounds-sources-first c =
    let b : c.loop-child.first + get_or c.args.places.now c.loop-child.child 0 ≤ length c.args.sources.now = offset-within c.args.places.now c.loop-child.child c.loop-child.first (length c.args.sources.now) c.loop-child-test.true c.loop-child.invariant.offset c.requires.channels in
    first_of (search (rules, b), grind (arith, common_steps, b))

pub slice_bounds-add_edges-end : goal.slice_bounds-add_edges-end
slice_bounds-add_edges-end c = omega (arith, offset-within c.args.places.now c.loop-child.child c.loop-child.first (length c.args.sources.now) c.loop-child-test.true c.loop-child.invariant.offset c.requires.channels)

pub slice_bounds-add_edges-end-in-loop-child : goal.slice_bounds-add_edges-end-in-loop-child
slice_bounds-add_edges-end-in-loop-child c = omega (arith, c.requires.delayed, offset-within c.args.places.now c.loop-child.child c.loop-child.first (length c.args.sources.now) c.loop-child-test.true c.loop-child.invariant.offset c.requires.channels)

pub loop-child-preserved : goal.loop-child-preserved
loop-child-preserved c = record {
  listed = edges-next c.args.places.now c.loop-child.child c.args.sources.now c.args.delayed.now c.loop-child.first (c.loop-child.first + get_or c.args.places.now c.loop-child.child 0) c.loop-child.edges.items c.add_edges.new.edges.items c.loop-child-test.true c.loop-child.invariant.offset refl c.in_ok-add_edges.ensures c.loop-child.invariant.listed;
  offset = ap (λ n. n + get_or c.args.places.now c.loop-child.child 0) c.loop-child.invariant.offset ∙ sym (total-more c.args.places.now c.loop-child.child c.loop-child-test.true);
}
