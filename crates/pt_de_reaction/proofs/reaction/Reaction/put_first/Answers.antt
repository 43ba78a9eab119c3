use Rattle.std.proofs.Common.{[], ◌∷◌, ap, ◌∙◌, true≢false}
use Rattle.pt_meaning.specs.Streams.{at}
use Rattle.pt_de_laws.specs.State.{is_some_token}
use Rattle.pt_de_reaction.specs.Reaction.{Flow}
use Rattle.pt_de_reaction.proofs.ReactionLaws.{channel-there, list-there, turns-long, wakes-long, dues-long, lasts-long, put-keeps, put-is}
use Rattle.pt_de_reaction.proofs.SignalLaws.{first-put}
use Rattle.pt_de_reaction.proofs.reaction.Reaction.put_first.Goals as goal

pub put_first-requires-clause-there : goal.put_first-requires-clause-there
put_first-requires-clause-there c = list-there c.self.inside c.self.invariant c.args.self.now c.self.view_is c.args.channel c.requires.there

pub put_first-requires-clause-empty : goal.put_first-requires-clause-empty
put_first-requires-clause-empty c = ap (λ (f : Flow). at f.state.tokens c.args.channel) c.self.view_is ∙ c.requires.empty

pub tell_reader-requires-clause-there : goal.tell_reader-requires-clause-there
tell_reader-requires-clause-there c = channel-there c.self.inside c.self.invariant c.args.self.now c.self.view_is c.args.channel c.requires.there

pub tell_reader-requires-clause-turns : goal.tell_reader-requires-clause-turns
tell_reader-requires-clause-turns c = turns-long c.self.inside c.self.invariant c.args.self.now c.self.view_is

pub tell_reader-requires-clause-wakes : goal.tell_reader-requires-clause-wakes
tell_reader-requires-clause-wakes c = wakes-long c.self.inside c.self.invariant c.args.self.now c.self.view_is

pub tell_reader-requires-clause-dues : goal.tell_reader-requires-clause-dues
tell_reader-requires-clause-dues c = dues-long c.self.inside c.self.invariant c.args.self.now c.self.view_is

pub tell_reader-requires-clause-lasts : goal.tell_reader-requires-clause-lasts
tell_reader-requires-clause-lasts c = lasts-long c.self.inside c.self.invariant c.args.self.now c.self.view_is

pub invariant_of-self : goal.invariant_of-self
invariant_of-self c =
    put-keeps c.self.inside c.self.invariant c.args.self.now c.self.view_is c.requires.running c.args.channel (c.args.token ∷ []) (λ e. absurd (true≢false (ap (λ ts. is_some_token ts) e))) c.put_first.new.self.lists c.tell_reader.new.agenda c.tell_reader.new.last
    (c.put_first.ensures ∙ first-put c.self.inside.channels.lists c.args.channel (c.args.token ∷ []) (ap (λ (f : Flow). at f.state.tokens c.args.channel) c.self.view_is ∙ c.requires.empty)) c.tell_reader.ensures.agenda c.tell_reader.ensures.last

pub returns : goal.returns
returns c =
    put-is c.self.inside c.self.invariant c.args.self.now c.self.view_is c.args.channel (c.args.token ∷ []) c.put_first.new.self.lists c.tell_reader.new.agenda
    (c.put_first.ensures ∙ first-put c.self.inside.channels.lists c.args.channel (c.args.token ∷ []) (ap (λ (f : Flow). at f.state.tokens c.args.channel) c.self.view_is ∙ c.requires.empty)) c.tell_reader.ensures.agenda
