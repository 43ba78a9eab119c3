use Rattle.std.proofs.Common.{drop, ap, ◌∙◌, sym}
use Rattle.pt_de_laws.specs.State.{own_of}
use Rattle.pt_de_reaction.specs.Reaction.{Flow}
use Rattle.pt_de_reaction.proofs.ReactionLaws.{lists-long, room-keeps, room-is, on-err, end-keeps, end-is}
use Rattle.pt_de_reaction.proofs.reaction.Reaction.hand_out.Goals as goal

pub own_outputs-requires : goal.own_outputs-requires
own_outputs-requires c = record { there = c.channels.ensures ∙ sym (lists-long c.self.inside c.self.invariant c.args.self.now c.self.view_is) }

pub invariant_of-self : goal.invariant_of-self
invariant_of-self c = room-keeps c.self.inside c.self.invariant c.args.self.now c.self.view_is c.own_outputs.new.channels.lists c.in_err-outputs.ensures.kept

pub invariant_of-self-2 : goal.invariant_of-self-2
invariant_of-self-2 c =
    end-keeps c.self.inside c.self.invariant c.args.self.now c.self.view_is c.requires.running c.requires.over c.own_outputs.new.channels.lists c.clear.new.self.lists c.clear-2.new.self c.own_outputs.ensures.long c.clear.ensures c.clear-2.ensures

pub returns-in_err-outputs-clause-kept : goal.returns-in_err-outputs-clause-kept
returns-in_err-outputs-clause-kept c = on-err c.from_residual.result (room-is c.self.inside c.self.invariant c.args.self.now c.self.view_is c.own_outputs.new.channels.lists c.in_err-outputs.ensures.kept)

pub returns-clause-state : goal.returns-clause-state
returns-clause-state c = end-is c.self.inside c.self.invariant c.args.self.now c.self.view_is c.own_outputs.new.channels.lists c.clear.new.self.lists c.clear-2.new.self c.own_outputs.ensures.long c.clear.ensures c.clear-2.ensures

pub returns-clause-given : goal.returns-clause-given
returns-clause-given c = c.in_ok-outputs.ensures.given ∙ ap (λ n. drop n c.self.inside.channels.lists) c.end.ensures ∙ ap (λ (f : Flow). own_of f.state) c.self.view_is
