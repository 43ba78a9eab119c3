use Rattle.std.proofs.Common.{◌-◌, get_or, ap, ◌∙◌, arith}
use Rattle.std.proofs.lemmas.List.{get_or-set_same}
use Rattle.pt_de_laws.specs.State.{Waits, Over}
use Rattle.pt_de_reaction.proofs.ReactionLaws.{child-there, turns-long, wakes-long, lasts-long, places-seen, between, ask-within, ask-keeps, ask-is, rows-are}
use Rattle.pt_de_reaction.proofs.reaction.Reaction.take_turn.Goals as goal

pub first-first-requires : goal.first-first-requires
first-first-requires c = child-there c.self.inside c.self.invariant c.args.self.now c.self.view_is c.args.child c.requires.there

pub behind-end-requires : goal.behind-end-requires
behind-end-requires c = child-there c.self.inside c.self.invariant c.args.self.now c.self.view_is c.args.child c.requires.there

pub takes_whole-whole-requires : goal.takes_whole-whole-requires
takes_whole-whole-requires c = child-there c.self.inside c.self.invariant c.args.self.now c.self.view_is c.args.child c.requires.there

pub take-requires-clause-within : goal.take-requires-clause-within
take-requires-clause-within c = (between c.self.inside c.self.invariant c.args.self.now c.self.view_is c.args.child c.first-first.result c.behind-end.result c.requires.there c.first-first.ensures c.behind-end.ensures).0

pub take-requires-clause-room : goal.take-requires-clause-room
take-requires-clause-room c = omega (arith, c.requires.room, (between c.self.inside c.self.invariant c.args.self.now c.self.view_is c.args.child c.first-first.result c.behind-end.result c.requires.there c.first-first.ensures c.behind-end.ensures).1, places-seen c.self.inside c.self.invariant c.args.self.now c.self.view_is c.args.child)

pub take-requires-clause-there : goal.take-requires-clause-there
take-requires-clause-there c = omega (arith, (between c.self.inside c.self.invariant c.args.self.now c.self.view_is c.args.child c.first-first.result c.behind-end.result c.requires.there c.first-first.ensures c.behind-end.ensures).0, ask-within c.self.inside c.self.invariant c.args.self.now c.self.view_is c.args.child c.first-first.result (c.behind-end.result - c.first-first.result) c.requires.there c.first-first.ensures (between c.self.inside c.self.invariant c.args.self.now c.self.view_is c.args.child c.first-first.result c.behind-end.result c.requires.there c.first-first.ensures c.behind-end.ensures).1)

pub end-requires : goal.end-requires
end-requires c = omega (arith, child-there c.self.inside c.self.invariant c.args.self.now c.self.view_is c.args.child c.requires.there, turns-long c.self.inside c.self.invariant c.args.self.now c.self.view_is)

pub remove-requires : goal.remove-requires
remove-requires c = omega (arith, child-there c.self.inside c.self.invariant c.args.self.now c.self.view_is c.args.child c.requires.there, wakes-long c.self.inside c.self.invariant c.args.self.now c.self.view_is)

pub remove-requires-2 : goal.remove-requires-2
remove-requires-2 c = omega (arith, child-there c.self.inside c.self.invariant c.args.self.now c.self.view_is c.args.child c.requires.there, lasts-long c.self.inside c.self.invariant c.args.self.now c.self.view_is)

pub invariant_of-self : goal.invariant_of-self
invariant_of-self c =
    ask-keeps c.self.inside c.self.invariant c.args.self.now c.self.view_is c.requires.running c.args.child c.requires.there c.first-first.result (c.behind-end.result - c.first-first.result) c.first-first.ensures (between c.self.inside c.self.invariant c.args.self.now c.self.view_is c.args.child c.first-first.result c.behind-end.result c.requires.there c.first-first.ensures c.behind-end.ensures).1 c.take.new.channels.lists c.end.new.self c.remove.new.self c.remove-2.new.self c.take.ensures.left c.end.ensures c.remove.ensures c.remove-2.ensures

pub returns-clause-state : goal.returns-clause-state
returns-clause-state c = ask-is c.self.inside c.self.invariant c.args.self.now c.self.view_is c.requires.running c.args.child c.first-first.result (c.behind-end.result - c.first-first.result) c.first-first.ensures (between c.self.inside c.self.invariant c.args.self.now c.self.view_is c.args.child c.first-first.result c.behind-end.result c.requires.there c.first-first.ensures c.behind-end.ensures).1 c.take.new.channels.lists c.end.new.self c.remove.new.self c.take.ensures.left c.end.ensures c.remove.ensures

pub returns-clause-over : goal.returns-clause-over
returns-clause-over c = ap (λ ts. get_or ts c.args.child Waits) c.end.ensures ∙ get_or-set_same c.self.inside.turns c.args.child Over Waits (omega (arith, child-there c.self.inside c.self.invariant c.args.self.now c.self.view_is c.args.child c.requires.there, turns-long c.self.inside c.self.invariant c.args.self.now c.self.view_is))

pub returns-clause-rows : goal.returns-clause-rows
returns-clause-rows c = rows-are c.self.inside c.self.invariant c.args.self.now c.self.view_is c.args.child c.first-first.result (c.behind-end.result - c.first-first.result) c.takes_whole-whole.result _ c.first-first.ensures (between c.self.inside c.self.invariant c.args.self.now c.self.view_is c.args.child c.first-first.result c.behind-end.result c.requires.there c.first-first.ensures c.behind-end.ensures).1 c.takes_whole-whole.ensures c.take.ensures.rows
