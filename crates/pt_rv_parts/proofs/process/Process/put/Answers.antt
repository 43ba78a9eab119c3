use Rattle.pt_rv_parts.proofs.StepLaws.{put-first, put-made}
use Rattle.pt_rv_parts.proofs.process.Process.put.Goals as goal

pub returns-clause-put : goal.returns-clause-put
returns-clause-put c = put-first c.self.inside c.args.self.now c.in-Some.put c.pop_front.new.self.items c.self.view_is c.in-Some.ensures.items

pub returns-clause-left : goal.returns-clause-left
returns-clause-left c = put-made c.self.inside c.args.self.now c.in-Some.put c.pop_front.new.self.items c.self.view_is c.in-Some.ensures.items
