use Rattle.pt_gen.proofs.Ranges.{links_more}
use Rattle.pt_gen.proofs.chain.links.Goals as goal

pub loop-i-preserved : goal.loop-i-preserved
loop-i-preserved c = links_more c.args.n c.loop-i.i c.loop-i.links.items c.add_joint.new.links.items c.in_ok-add_joint.ensures c.loop-i.invariant
