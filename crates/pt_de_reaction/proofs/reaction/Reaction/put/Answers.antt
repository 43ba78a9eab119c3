use Rattle.std.proofs.Common.{ap, ◌∙◌, sym, arith, refl, true≢false}
use Rattle.pt_reaction.specs.Channels.{spare_at}
use Rattle.pt_de_reaction.specs.Reaction.{Flow}
use Rattle.pt_de_reaction.proofs.ReactionLaws.{channel-there, list-there, turns-long, wakes-long, dues-long, lasts-long, none-put, put-keeps, put-is}
use Rattle.pt_de_reaction.proofs.reaction.Reaction.put.Goals as goal

pub put_all-requires-clause-there : goal.put_all-requires-clause-there
put_all-requires-clause-there c = list-there c.self.inside c.self.invariant c.args.self.now c.self.view_is c.args.channel c.requires.there

pub tell_reader-requires-clause-there : goal.tell_reader-requires-clause-there
tell_reader-requires-clause-there c = channel-there c.self.inside c.self.invariant c.args.self.now c.self.view_is c.args.channel c.requires.there

pub tell_reader-requires-clause-turns : goal.tell_reader-requires-clause-turns
tell_reader-requires-clause-turns c = turns-long c.self.inside c.self.invariant c.args.self.now c.self.view_is

pub tell_reader-requires-clause-wakes : goal.tell_reader-requires-clause-wakes
tell_reader-requires-clause-wakes c = wakes-long c.self.inside c.self.invariant c.args.self.now c.self.view_is

pub tell_reader-requires-clause-dues : goal.tell_reader-requires-clause-dues
tell_reader-requires-clause-dues c = dues-long c.self.inside c.self.invariant c.args.self.now c.self.view_is

pub tell_reader-requires-clause-lasts : goal.tell_reader-requires-clause-lasts
tell_reader-requires-clause-lasts c = lasts-long c.self.inside c.self.invariant c.args.self.now c.self.view_is

pub put_all-requires-clause-room : goal.put_all-requires-clause-room
put_all-requires-clause-room c = omega (arith, c.requires.room, ap (λ (f : Flow). spare_at f.spares c.args.channel) c.self.view_is)

pub invariant_of-self : goal.invariant_of-self
invariant_of-self c =
    put-keeps c.self.inside c.self.invariant c.args.self.now c.self.view_is c.requires.running c.args.channel c.args.tokens (λ e. absurd (true≢false (sym (c.is_empty.ensures.1 e) ∙ c.if-is_empty.false))) c.put_all.new.channels.lists c.tell_reader.new.agenda c.tell_reader.new.last c.put_all.ensures.lists c.tell_reader.ensures.agenda
    c.tell_reader.ensures.last

pub returns-then-is_empty-clause-state : goal.returns-then-is_empty-clause-state
returns-then-is_empty-clause-state c = none-put c.args.self.now.state c.args.channel c.args.tokens (c.is_empty.ensures.0 c.if-is_empty.true)

pub returns-then-is_empty-clause-others : goal.returns-then-is_empty-clause-others
returns-then-is_empty-clause-others c = λ d h. refl

pub returns-clause-state : goal.returns-clause-state
returns-clause-state c = put-is c.self.inside c.self.invariant c.args.self.now c.self.view_is c.args.channel c.args.tokens c.put_all.new.channels.lists c.tell_reader.new.agenda c.put_all.ensures.lists c.tell_reader.ensures.agenda

pub returns-clause-others : goal.returns-clause-others
returns-clause-others c = λ d h. c.put_all.ensures.others d h ∙ ap (λ (f : Flow). spare_at f.spares d) c.self.view_is
