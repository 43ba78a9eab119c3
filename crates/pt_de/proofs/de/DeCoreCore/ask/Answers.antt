use Rattle.pt_de.proofs.CoreLaws.{row-more, row-keeps, row-gives, row-is}
use Rattle.pt_de.proofs.de.DeCoreCore.ask.Goals as goal

pub go_on-requires : goal.go_on-requires
go_on-requires c = row-more c.self.inside c.self.invariant c.args.self.now c.self.view_is c.in-Between.child c.in-Between.is

pub invariant_of-self : goal.invariant_of-self
invariant_of-self c = row-keeps c.self.inside c.self.invariant c.args.self.now c.self.view_is c.in-Between.child c.go_on.new.self c.in-Between.is c.go_on.ensures.width

pub returns-in-Between-clause-gives : goal.returns-in-Between-clause-gives
returns-in-Between-clause-gives c = row-gives c.self.inside c.self.invariant c.args.self.now c.self.view_is c.in-Between.child c.tag.result c.in-Between.is c.tag.ensures

pub returns-in-Between-clause-state : goal.returns-in-Between-clause-state
returns-in-Between-clause-state c = row-is c.self.inside c.self.invariant c.args.self.now c.self.view_is c.in-Between.child c.go_on.new.self c.in-Between.is c.go_on.ensures.rows
