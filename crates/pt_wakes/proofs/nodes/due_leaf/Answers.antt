use Rattle.std.proofs.Common.{◌≡◌, ◌+◌, ap, sym, ◌∙◌, None, arith}
use Rattle.std.proofs.lemmas.List.{get_or_read}
use Rattle.pt_meaning.specs.Tag.{is_due}
use Rattle.pt_wakes.specs.Nodes.{node}
use Rattle.pt_wakes.proofs.WalkLaws.{at-leaf, below}
use Rattle.pt_wakes.proofs.nodes.due_leaf.Goals as goal

pub loop-p-preserved : goal.loop-p-preserved
loop-p-preserved c =
    let p = c.loop-p.p in
    let read : c.index-nodes-p.result ≡ node c.args.nodes.now (p + p) = get_or_read c.args.nodes.now (p + p) c.index-nodes-p.result (omega (arith, c.requires.tree.len, c.loop-p-test.true)) c.index-nodes-p.is None in
    let b =
    below c.args.tag c.args.leaves c.args.nodes.now c.requires.tree p (p + p + c.from.result) c.is_due.result c.loop-p.invariant.due c.loop-p.invariant.above c.loop-p-test.true (c.is_due.ensures ∙ ap (is_due c.args.tag) read) (ap (λ k. p + p + k) c.from.ensures) in
    record { above = b.above; within = b.within; due = b.due; first = b.same ∙ c.loop-p.invariant.first }

pub returns-clause-first : goal.returns-clause-first
returns-clause-first c = sym c.loop-p.invariant.first ∙ at-leaf c.args.tag c.args.leaves c.args.nodes.now c.loop-p.p c.loop-p.invariant.due c.loop-p.invariant.above c.loop-p-test.false c.loop-p.invariant.within
