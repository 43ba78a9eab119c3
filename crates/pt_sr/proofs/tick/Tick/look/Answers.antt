use Rattle.std.proofs.Common.{◌≡◌, get_or, false, true, ap, ◌∙◌, sym, subst, arith}
use Rattle.pt_value.specs.declared.token.Token.{Token}
use Rattle.pt_sr.specs.State.{TickState, MayFire, MayAnswer, HasNothing, HasTold, MayTell, inputs_of, unknown_in}
use Rattle.pt_sr.proofs.TickLaws.{child-there, has-fired, may-fire, strict-waits, heard-waits, told-waits, may-answer}
use Rattle.pt_sr.proofs.tick.Tick.look.Goals as goal

pub index-fired-requires : goal.index-fired-requires
index-fired-requires c = omega (arith, child-there c.self.inside c.args.self.now c.args.child c.self.view_is c.requires, c.self.invariant.fired, c.self.inside.fired.ok.0)

pub returns-then-fired : goal.returns-then-fired
returns-then-fired c =
    subst (λ (s : TickState Token). get_or s.fired c.args.child false ≡ true) c.self.view_is (has-fired c.self.inside c.self.invariant c.args.child (child-there c.self.inside c.args.self.now c.args.child c.self.view_is c.requires) c.index-fired.result.now c.index-fired.ensures c.if-fired.true)

pub returns-then-unknown-eq0 : goal.returns-then-unknown-eq0
returns-then-unknown-eq0 c =
    subst (λ (s : TickState Token). MayFire s c.args.child) c.self.view_is
    (may-fire c.self.inside c.self.invariant c.args.child (child-there c.self.inside c.args.self.now c.args.child c.self.view_is c.requires) c.index-fired.result.now c.index-fired.ensures c.if-fired.false c.unknown_of-unknown.result
    (c.unknown_of-unknown.ensures ∙ ap (λ (s : TickState Token). unknown_in (inputs_of s c.args.child)) (sym c.self.view_is)) c.if-unknown-eq0.true)

pub index-nonstrict-requires : goal.index-nonstrict-requires
index-nonstrict-requires c = omega (arith, child-there c.self.inside c.args.self.now c.args.child c.self.view_is c.requires, c.self.invariant.lawful.kinds, c.self.inside.plan.nonstrict.ok.0)

pub returns-then-not-nonstrict : goal.returns-then-not-nonstrict
returns-then-not-nonstrict c =
    subst (λ (s : TickState Token). HasNothing s c.args.child) c.self.view_is
    (strict-waits c.self.inside c.self.invariant c.args.child (child-there c.self.inside c.args.self.now c.args.child c.self.view_is c.requires) c.index-fired.result.now c.index-fired.ensures c.if-fired.false c.unknown_of-unknown.result
    (c.unknown_of-unknown.ensures ∙ ap (λ (s : TickState Token). unknown_in (inputs_of s c.args.child)) (sym c.self.view_is)) c.if-unknown-eq0.false c.index-nonstrict.result.now c.index-nonstrict.ensures c.if-not-nonstrict.true)

pub index-heard-requires : goal.index-heard-requires
index-heard-requires c = omega (arith, child-there c.self.inside c.args.self.now c.args.child c.self.view_is c.requires, c.self.invariant.heard, c.self.inside.heard.ok.0)

pub returns-then-heard-unknown : goal.returns-then-heard-unknown
returns-then-heard-unknown c =
    subst (λ (s : TickState Token). HasNothing s c.args.child) c.self.view_is
    (heard-waits c.self.inside c.self.invariant c.args.child (child-there c.self.inside c.args.self.now c.args.child c.self.view_is c.requires) c.index-fired.result.now c.index-fired.ensures c.if-fired.false c.unknown_of-unknown.result
    (c.unknown_of-unknown.ensures ∙ ap (λ (s : TickState Token). unknown_in (inputs_of s c.args.child)) (sym c.self.view_is)) c.if-unknown-eq0.false c.index-heard.result.now c.index-heard.ensures c.if-heard-unknown.true)

pub returns-then-told : goal.returns-then-told
returns-then-told c =
    subst (λ (s : TickState Token). HasNothing s c.args.child) c.self.view_is
    (told-waits c.self.inside c.self.invariant c.args.child (child-there c.self.inside c.args.self.now c.args.child c.self.view_is c.requires) c.index-fired.result.now c.index-fired.ensures c.if-fired.false c.unknown_of-unknown.result
    (c.unknown_of-unknown.ensures ∙ ap (λ (s : TickState Token). unknown_in (inputs_of s c.args.child)) (sym c.self.view_is)) c.if-unknown-eq0.false (subst (λ (s : TickState Token). HasTold s c.args.child) (sym c.self.view_is) (c.has_told-told.ensures.all c.if-told.true)))

pub returns : goal.returns
returns c =
    subst (λ (s : TickState Token). MayAnswer s c.args.child) c.self.view_is
    (may-answer c.self.inside c.self.invariant c.args.child (child-there c.self.inside c.args.self.now c.args.child c.self.view_is c.requires) c.index-fired.result.now c.index-fired.ensures c.if-fired.false c.unknown_of-unknown.result
    (c.unknown_of-unknown.ensures ∙ ap (λ (s : TickState Token). unknown_in (inputs_of s c.args.child)) (sym c.self.view_is)) c.if-unknown-eq0.false c.index-nonstrict.result.now c.index-nonstrict.ensures c.if-not-nonstrict.false c.index-heard.result.now c.index-heard.ensures c.if-heard-unknown.false
    (subst (λ (s : TickState Token). MayTell s c.args.child) (sym c.self.view_is) (c.has_told-told.ensures.some c.if-told.false)))
