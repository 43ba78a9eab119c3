use Rattle.pt_words.proofs.PartLaws.{asks_gen, asks_demo}
use Rattle.pt_words.proofs.line.asked.Goals as goal

pub returns-in-gen : goal.returns-in-gen
returns-in-gen c = asks_gen c.args.first.now c.args.parts c.generation.result c.in-gen.is c.generation.ensures

pub returns-in-demo : goal.returns-in-demo
returns-in-demo c = asks_demo c.args.first.now c.args.parts c.demonstration.result c.in-demo.is c.demonstration.ensures
