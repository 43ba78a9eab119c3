use Rattle.std.proofs.Common.{◌≡◌, ap, subst, ◌∙◌, arith}
use Rattle.pt_rates.proofs.Starts.{AreAlone, alone-more, starts-held, starts-spanned}
use Rattle.pt_rates.proofs.parts.Parts.new.Goals as goal

pub loop-node-preserved : goal.loop-node-preserved
loop-node-preserved c =
    let old = c.loop-node.parts in
    let new = c.add_alone.new.self in
    let done = c.in_ok-add_alone.ensures in (
      alone-more c.loop-node.node old.labels.items new.labels.items old.members.items new.members.items c.loop-node.invariant.0 done.labels done.members,
      ap (λ q. q.items) done.repetitions ∙ c.loop-node.invariant.1,
      done.sum ∙ c.loop-node.invariant.2,
    )

pub returns-clause-held : goal.returns-clause-held
returns-clause-held c =
    let parts = c.loop-node.parts in
    let over : c.loop-node.node ≡ c.args.n = omega (arith, c.loop-node-test.false, c.loop-node.auto.node-end) in
    starts-held c.args.n parts c.loop-node.invariant.1 (subst (λ k. AreAlone k parts.labels.items parts.members.items) over c.loop-node.invariant.0) c.loop-node.invariant.2

pub returns-clause-spanned : goal.returns-clause-spanned
returns-clause-spanned c =
    let parts = c.loop-node.parts in
    let over : c.loop-node.node ≡ c.args.n = omega (arith, c.loop-node-test.false, c.loop-node.auto.node-end) in
    starts-spanned c.args.n parts c.loop-node.invariant.1 (subst (λ k. AreAlone k parts.labels.items parts.members.items) over c.loop-node.invariant.0)
