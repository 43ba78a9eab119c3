use Rattle.std.proofs.Common.{◌≡◌, true, false, ap, ◌∙◌, sym}
use Rattle.pt_meaning.specs.Sr.{all_single}
use Rattle.pt_value.specs.declared.token.Token.{Token}
use Rattle.pt_sr.specs.State.{TickState, Open, Wrong, asked_child, if_told, in_stage}
use Rattle.pt_sr.specs.Clauses.{State}
use Rattle.pt_sr.proofs.CoreLaws.{asked-there}
use Rattle.pt_sr.proofs.sr.Core.told.Goals as goal

pub invariant_of-self : goal.invariant_of-self
invariant_of-self c = asked-there c.self.inside.stage c.self.inside.tick c.args.child c.self.invariant (ap (λ (s : State). asked_child s.stage) c.self.view_is ∙ c.requires.asked)

pub returns-then-not-are_single-clause-told : goal.returns-then-not-are_single-clause-told
returns-then-not-are_single-clause-told c =
    let a : all_single c.args.outputs ≡ false = sym c.are_single.ensures ∙ c.if-not-are_single.true in
    ap (λ (s : State). in_stage (Wrong c.args.child) s) c.self.view_is ∙ ap (λ b. if_told b c.args.child c.args.outputs c.args.self.now) (sym a)

pub told-requires : goal.told-requires
told-requires c = asked-there c.self.inside.stage c.self.inside.tick c.args.child c.self.invariant (ap (λ (s : State). asked_child s.stage) c.self.view_is ∙ c.requires.asked)

pub returns-clause-told : goal.returns-clause-told
returns-clause-told c =
    let a : all_single c.args.outputs ≡ true = sym c.are_single.ensures ∙ c.if-not-are_single.false in
    ap (λ (t : TickState Token). let s : State = record { tick = t; tag = c.self.inside.tag; stage = Open } in s) c.in_ok-told.ensures.told ∙ ap (λ (s : State). if_told true c.args.child c.args.outputs s) c.self.view_is ∙ ap (λ b. if_told b c.args.child c.args.outputs c.args.self.now) (sym a)
