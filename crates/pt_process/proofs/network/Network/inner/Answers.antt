use Rattle.std.proofs.Common.{length, get_or, ap, ◌∙◌, arith}
use Rattle.pt_meaning.specs.Running.{total}
use Rattle.pt_value.specs.declared.token.Token.{Token}
use Rattle.pt_pn_laws.specs.State as state
use Rattle.pt_process.proofs.NetworkLaws.{offset-long, offset-is}
use Rattle.pt_puts.proofs.FanLaws.{total-whole}
use Rattle.pt_process.proofs.network.Network.inner.Goals as goal

pub index-requires : goal.index-requires
index-requires c =
    let a = offset-long c.self.inside c.self.invariant in
    omega (arith, a, c.len.ensures, c.self.inside.offsets.ok.0)

pub returns : goal.returns
returns c =
    offset-is c.self.inside c.self.invariant (length c.self.inside.plan.places) (omega arith) c.index.result.now (c.index.ensures ∙ ap (λ k. get_or c.self.inside.offsets.items k c.index.result.now) c.len.ensures) ∙ total-whole c.self.inside.plan.places ∙ ap (λ (n : state.Network Token). total n.plan.net.places) c.self.view_is
