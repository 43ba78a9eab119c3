use Rattle.std.proofs.Common.{length, ap, ◌∙◌, arith}
use Rattle.pt_value.specs.declared.token.Token.{Token}
use Rattle.pt_pn_laws.specs.State as state
use Rattle.pt_pn_laws.specs.State.{offset_of}
use Rattle.pt_process.proofs.NetworkLaws.{offset-long, offset-is}
use Rattle.pt_process.proofs.network.Network.offset.Goals as goal

pub index-requires : goal.index-requires
index-requires c =
    let a = offset-long c.self.inside c.self.invariant in
    let b = ap (λ (n : state.Network Token). length n.plan.net.places) c.self.view_is in
    omega (arith, a, b, c.requires, c.self.inside.offsets.ok.0)

pub returns : goal.returns
returns c =
    let b = ap (λ (n : state.Network Token). length n.plan.net.places) c.self.view_is in
    offset-is c.self.inside c.self.invariant c.args.process (omega (arith, b, c.requires)) c.index.result.now c.index.ensures ∙ ap (λ (n : state.Network Token). offset_of n.plan.net.places c.args.process) c.self.view_is
