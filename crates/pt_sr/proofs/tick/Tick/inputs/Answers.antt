use Rattle.std.proofs.Common.{length, take, drop, get_or, ap, ◌∙◌, sym, arith}
use Rattle.pt_meaning.specs.Valuation.{tokens_of}
use Rattle.pt_sr.specs.State.{TickState, inputs_of}
use Rattle.pt_sr.proofs.TickLaws.{child-there, offset-there, span-within, span-is}
use Rattle.pt_value.specs.declared.token.Token.{Token}
use Rattle.pt_sr.proofs.SignalLaws.{tokens-long, tokens-among}
use Rattle.pt_sr.proofs.tick.Tick.inputs.Goals as goal

pub index-from-requires : goal.index-from-requires
index-from-requires c = omega (arith, offset-there c.self.inside c.self.invariant c.args.child (child-there c.self.inside c.args.self.now c.args.child c.self.view_is c.requires), c.self.inside.offsets.ok.0)

pub some_lists-requires : goal.some_lists-requires
some_lists-requires c =
    let a = span-within c.self.inside c.self.invariant c.args.child (child-there c.self.inside c.args.self.now c.args.child c.self.view_is c.requires) c.index-from.result.now _ c.index-from.ensures (ap (λ v. get_or v c.args.child 0) c.as_slice.ensures) in
    omega (arith, a, ap (λ v. length v) c.tokens.ensures, tokens-long c.self.inside.signals)

pub returns : goal.returns
returns c =
    c.some_lists.ensures ∙ ap (λ v. take (get_or c.as_slice.result.now c.args.child 0) (drop c.index-from.result.now v)) c.tokens.ensures ∙ sym (tokens-among c.index-from.result.now (get_or c.as_slice.result.now c.args.child 0) c.self.inside.signals) ∙
    ap (λ v. tokens_of v) (span-is c.self.inside c.self.invariant c.args.child (child-there c.self.inside c.args.self.now c.args.child c.self.view_is c.requires) c.index-from.result.now _ c.index-from.ensures (ap (λ v. get_or v c.args.child 0) c.as_slice.ensures)) ∙
    ap (λ (s : TickState Token). tokens_of (inputs_of s c.args.child)) c.self.view_is
