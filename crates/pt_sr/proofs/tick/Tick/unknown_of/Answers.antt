use Rattle.std.proofs.Common.{get_or, ap, ◌∙◌, arith}
use Rattle.pt_sr.specs.State.{TickState, inputs_of, unknown_in}
use Rattle.pt_sr.proofs.TickLaws.{child-there, offset-there, span-within, span-is}
use Rattle.pt_value.specs.declared.token.Token.{Token}
use Rattle.pt_sr.proofs.tick.Tick.unknown_of.Goals as goal

pub index-from-requires : goal.index-from-requires
index-from-requires c = omega (arith, offset-there c.self.inside c.self.invariant c.args.child (child-there c.self.inside c.args.self.now c.args.child c.self.view_is c.requires), c.self.inside.offsets.ok.0)

pub unknown_in-requires : goal.unknown_in-requires
unknown_in-requires c = span-within c.self.inside c.self.invariant c.args.child (child-there c.self.inside c.args.self.now c.args.child c.self.view_is c.requires) c.index-from.result.now _ c.index-from.ensures (ap (λ v. get_or v c.args.child 0) c.as_slice.ensures)

pub returns : goal.returns
returns c =
    c.unknown_in.ensures ∙
    ap (λ v. unknown_in v) (span-is c.self.inside c.self.invariant c.args.child (child-there c.self.inside c.args.self.now c.args.child c.self.view_is c.requires) c.index-from.result.now _ c.index-from.ensures (ap (λ v. get_or v c.args.child 0) c.as_slice.ensures)) ∙
    ap (λ (s : TickState Token). unknown_in (inputs_of s c.args.child)) c.self.view_is
