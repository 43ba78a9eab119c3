use Rattle.pt_de.proofs.CoreLaws.{open-now, take-keeps, take-gives, take-is, listen-keeps, listen-gives, listen-is, over-keeps, over-gives, over-is}
use Rattle.pt_de.proofs.de.DeCore.ask_next.Goals as goal

pub next-requires : goal.next-requires
next-requires c = open-now c.self.inside c.self.invariant c.args.self.now c.self.view_is c.requires

pub invariant_of-self : goal.invariant_of-self
invariant_of-self c = take-keeps c.self.inside c.self.invariant c.args.self.now c.self.view_is c.in-Fire.child c.take_turn.new.self.state c.take_turn.new.rows c.in-Fire.ensures c.take_turn.ensures.state c.take_turn.ensures.over c.take_turn.ensures.width

pub invariant_of-self-in-Early : goal.invariant_of-self-in-Early
invariant_of-self-in-Early c = listen-keeps c.self.inside c.self.invariant c.args.self.now c.self.view_is c.in-Early.child c.requires c.in-Early.ensures

pub invariant_of-self-in-Finished : goal.invariant_of-self-in-Finished
invariant_of-self-in-Finished c = over-keeps c.self.inside c.self.invariant c.args.self.now c.self.view_is c.requires c.in-Finished.ensures

pub returns-in-Fire-clause-gives : goal.returns-in-Fire-clause-gives
returns-in-Fire-clause-gives c = take-gives c.self.inside c.self.invariant c.args.self.now c.self.view_is c.in-Fire.child c.tag-tag.result c.requires c.in-Fire.ensures c.tag-tag.ensures

pub returns-in-Fire-clause-state : goal.returns-in-Fire-clause-state
returns-in-Fire-clause-state c = take-is c.self.inside c.self.invariant c.args.self.now c.self.view_is c.in-Fire.child c.take_turn.new.self.state c.take_turn.new.rows c.requires c.take_turn.ensures.state c.take_turn.ensures.rows

pub returns-in-Early-clause-gives : goal.returns-in-Early-clause-gives
returns-in-Early-clause-gives c = listen-gives c.self.inside c.self.invariant c.args.self.now c.self.view_is c.in-Early.child c.tag-tag.result c.requires c.in-Early.ensures c.tag-tag.ensures

pub returns-in-Early-clause-state : goal.returns-in-Early-clause-state
returns-in-Early-clause-state c = listen-is c.self.inside c.self.invariant c.args.self.now c.self.view_is c.in-Early.child

pub returns-in-Finished-clause-gives : goal.returns-in-Finished-clause-gives
returns-in-Finished-clause-gives c = over-gives c.self.inside c.self.invariant c.args.self.now c.self.view_is c.requires c.in-Finished.ensures

pub returns-in-Finished-clause-state : goal.returns-in-Finished-clause-state
returns-in-Finished-clause-state c = over-is c.self.inside c.self.invariant c.args.self.now c.self.view_is
