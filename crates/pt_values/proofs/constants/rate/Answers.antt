use Rattle.std.proofs.Common.{◌≡◌, [], ◌∷◌, Some, sym, rules}
use Rattle.pt_document.specs.View.{port_view}
use Rattle.pt_scopes.specs.Sites.{rate_of}
use Rattle.pt_scopes.specs.Told.{IsToldAt, IsRateFault}
use Rattle.pt_values.proofs.Unseen.{rate-told}
use Rattle.pt_values.proofs.constants.rate.Goals as goal

pub returns-in_err-rate_at-in-Some-clause-told : goal.returns-in_err-rate_at-in-Some-clause-told
returns-in_err-rate_at-in-Some-clause-told c =
    let declared : rate_of (port_view c.args.port.now) ≡ Some c.in-Some.text.now = sym c.in-Some.ensures in
    let told : IsToldAt c.args.path.now (IsRateFault (port_view c.args.port.now ∷ [])) c.in_err-rate_at-in-Some.field-0.0 =
    rate-told c.args.path.now (port_view c.args.port.now) c.in-Some.text.now c.in_err-rate_at-in-Some.field-0.0 declared c.in_err-rate_at-in-Some.ensures.told in
    let h = c.from_residual.ensures in
    search (rules, told, h)
