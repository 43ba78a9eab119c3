use Rattle.pt_gen.proofs.Ranges.{relations_more}
use Rattle.pt_gen.proofs.chain.relations.Goals as goal

pub loop-i-preserved : goal.loop-i-preserved
loop-i-preserved c = relations_more c.loop-i.i c.in_ok-name.name c.loop-i.relations.items c.push.new.self.items c.in_ok-push.ensures.items c.in_ok-name.ensures c.loop-i.invariant
