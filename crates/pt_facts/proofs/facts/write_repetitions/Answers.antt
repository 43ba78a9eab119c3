use Rattle.std.proofs.Common.{List, ℕ, codes}
use Rattle.pt_facts.specs.CheckText.{number_line}
use Rattle.pt_facts.proofs.LineLaws.{one-more}
use Rattle.pt_facts.proofs.facts.write_repetitions.Goals as goal

-- the line of one child more
pub loop-child-preserved : goal.loop-child-preserved
loop-child-preserved c =
    one-more (λ (r : List ℕ × ℕ). number_line (codes "repetitions ") r.0 r.1) c.args.repetitions.now c.loop-child.child-index c.loop-child-item.result c.args.out.now.items c.loop-child.out.items c.write_line.new.out.items c.loop-child-test.true c.loop-child-item.is c.loop-child.invariant c.in_ok-write_line.ensures
