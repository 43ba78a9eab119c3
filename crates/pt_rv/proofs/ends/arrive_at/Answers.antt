use Rattle.pt_rv.specs.Ends.{no_inlet}
use Rattle.pt_rv.proofs.EndLaws.{arrived-set, inlet-other}
use Rattle.pt_rv.proofs.ends.arrive_at.Goals as goal

pub returns-clause-puts : goal.returns-clause-puts
returns-clause-puts c = arrived-set c.args.inlets.now.items c.args.port c.index_mut.result.now c.arrive.new.self c.requires c.index_mut.ensures.value c.arrive.ensures.puts

pub returns-clause-others : goal.returns-clause-others
returns-clause-others c j z = inlet-other c.args.inlets.now.items c.args.port j c.arrive.new.self no_inlet z
