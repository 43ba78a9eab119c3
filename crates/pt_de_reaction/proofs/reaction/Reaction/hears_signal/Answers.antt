use Rattle.std.proofs.Common.{w64, SFits, rules, ◌<◌, [], ◌∷◌, length, ap, ◌∙◌, sym, subst}
use Rattle.std.proofs.lemmas.Int.{to_z-of_z}
use Rattle.pt_value.specs.declared.token.Token.{Token}
use Rattle.pt_value.specs.declared.token.Token.TheVariants.{Int}
use Rattle.pt_de_laws.specs.State.{DeState, after_heard}
use Rattle.pt_de_reaction.specs.Signals.{HasRoom, signal_of}
use Rattle.pt_meaning.specs.Machine.{Known}
use Rattle.pt_de_reaction.proofs.SignalLaws.{Gave, is-none, heard-absent, heard-present}
use Rattle.pt_de_reaction.proofs.reaction.Reaction.hears_signal.Goals as goal

pub give-requires-clause-there : goal.give-requires-clause-there
give-requires-clause-there c = subst (λ (s : DeState Token). c.args.child < length s.plan.net.places) (sym c.note_answer.ensures.state) c.requires.there

pub give-requires-clause-running : goal.give-requires-clause-running
give-requires-clause-running c = ap (λ (s : DeState Token). s.stage) c.note_answer.ensures.state ∙ c.requires.running

pub give-requires-clause-room : goal.give-requires-clause-room
give-requires-clause-room c = subst (λ (s : DeState Token). HasRoom s c.args.child) (sym c.note_answer.ensures.state) c.requires.room

pub returns-in_default : goal.returns-in_default
returns-in_default c = heard-absent c.args.child c.args.self.now.state c.note_answer.new.self.state c.note_answer.ensures.shaped c.requires.there c.requires.running c.note_answer.ensures.state ∙ ap (λ g. after_heard c.args.child (Known (signal_of g) ∷ []) c.args.self.now.state) (sym (is-none c.args.early c.in_default.not-Some))

pub returns : goal.returns
returns c =
    let fits : SFits w64 c.in-Some.number = search rules in
    heard-present c.args.child (Int c.in-Some.number ∷ []) c.args.self.now.state c.note_answer.new.self.state c.give.new.self.state c.note_answer.ensures.shaped c.requires.there c.requires.running c.note_answer.ensures.state (subst (λ z. Gave c.args.child c.note_answer.new.self.state c.give.new.self.state z) (to_z-of_z w64 c.in-Some.number fits) c.give.ensures) ∙
    ap (λ g. after_heard c.args.child (Known (signal_of g) ∷ []) c.args.self.now.state) (sym c.in-Some.is)
