use Rattle.std.proofs.Common.{w64, SFits, rules, ◌<◌, [], ◌∷◌, length, get_or, ap, ◌∙◌, sym, subst, false}
use Rattle.std.proofs.lemmas.Int.{to_z-of_z}
use Rattle.pt_value.specs.declared.token.Token.{Token}
use Rattle.pt_value.specs.declared.token.Token.TheVariants.{Int}
use Rattle.pt_de_laws.specs.State.{DeState, after_told}
use Rattle.pt_de_reaction.specs.Signals.{HasRoom, signal_of}
use Rattle.pt_de_reaction.proofs.ReactionLaws.{told-whole, told-early-whole}
use Rattle.pt_de_reaction.proofs.SignalLaws.{Gave, is-none, told-absent}
use Rattle.pt_de_reaction.proofs.reaction.Reaction.told_signal.Goals as goal

pub is_early-requires : goal.is_early-requires
is_early-requires c = subst (λ (s : DeState Token). c.args.child < length s.plan.net.places) (sym c.set_wake.ensures.state) c.requires.there

pub returns-then-is_early : goal.returns-then-is_early
returns-then-is_early c =
    told-early-whole c.args.child (signal_of c.args.given ∷ []) c.args.wake c.args.self.now.state c.set_wake.new.self.state c.requires.running (sym (c.is_early.ensures ∙ ap (λ (s : DeState Token). get_or s.roles.early c.args.child false) c.set_wake.ensures.state) ∙ c.if-is_early.true) c.set_wake.ensures.state

pub give-requires-clause-there : goal.give-requires-clause-there
give-requires-clause-there c = subst (λ (s : DeState Token). c.args.child < length s.plan.net.places) (sym c.set_wake.ensures.state) c.requires.there

pub give-requires-clause-running : goal.give-requires-clause-running
give-requires-clause-running c = ap (λ (s : DeState Token). s.stage) c.set_wake.ensures.state ∙ c.requires.running

pub give-requires-clause-room : goal.give-requires-clause-room
give-requires-clause-room c = subst (λ (s : DeState Token). HasRoom s c.args.child) (sym c.set_wake.ensures.state) c.requires.room

pub returns-in_default : goal.returns-in_default
returns-in_default c =
    told-absent c.args.child c.args.wake c.args.self.now.state c.set_wake.new.self.state c.set_wake.ensures.shaped c.requires.there c.requires.running (sym (c.is_early.ensures ∙ ap (λ (s : DeState Token). get_or s.roles.early c.args.child false) c.set_wake.ensures.state) ∙ c.if-is_early.false) c.set_wake.ensures.state ∙
    ap (λ g. after_told c.args.child (signal_of g ∷ []) c.args.wake c.args.self.now.state) (sym (is-none c.args.given c.in_default.not-Some))

pub returns : goal.returns
returns c =
    let fits : SFits w64 c.in-Some.number = search rules in
    told-whole c.args.child ((Int c.in-Some.number ∷ []) ∷ []) c.args.wake c.args.self.now.state c.set_wake.new.self.state c.give.new.self.state c.set_wake.ensures.shaped c.requires.there c.requires.running (sym (c.is_early.ensures ∙ ap (λ (s : DeState Token). get_or s.roles.early c.args.child false) c.set_wake.ensures.state) ∙ c.if-is_early.false) c.set_wake.ensures.state (subst (λ z. Gave c.args.child c.set_wake.new.self.state c.give.new.self.state z) (to_z-of_z w64 c.in-Some.number fits) c.give.ensures) ∙
    ap (λ g. after_told c.args.child (signal_of g ∷ []) c.args.wake c.args.self.now.state) (sym c.in-Some.is)
