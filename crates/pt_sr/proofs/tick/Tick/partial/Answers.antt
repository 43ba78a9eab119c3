use Rattle.std.proofs.Common.{◌≡◌, IfOk, get_or, ap, ◌∙◌, subst, arith}
use Rattle.pt_sr.specs.State.{TickState, inputs_of}
use Rattle.pt_sr.proofs.TickLaws.{child-there, offset-there, span-within, span-is}
use Rattle.pt_value.specs.declared.token.Token.{Token}
use Rattle.pt_sr.proofs.tick.Tick.partial.Goals as goal

pub index-from-requires : goal.index-from-requires
index-from-requires c = omega (arith, offset-there c.self.inside c.self.invariant c.args.child (child-there c.self.inside c.args.self.now c.args.child c.self.view_is c.requires), c.self.inside.offsets.ok.0)

pub partial-requires : goal.partial-requires
partial-requires c = span-within c.self.inside c.self.invariant c.args.child (child-there c.self.inside c.args.self.now c.args.child c.self.view_is c.requires) c.index-from.result.now _ c.index-from.ensures (ap (λ v. get_or v c.args.child 0) c.as_slice.ensures)

pub returns : goal.returns
returns c =
    subst (λ V. IfOk c.partial.result (λ p. p ≡ V))
    (span-is c.self.inside c.self.invariant c.args.child (child-there c.self.inside c.args.self.now c.args.child c.self.view_is c.requires) c.index-from.result.now _ c.index-from.ensures (ap (λ v. get_or v c.args.child 0) c.as_slice.ensures) ∙
    ap (λ (s : TickState Token). inputs_of s c.args.child) c.self.view_is) c.partial.ensures
