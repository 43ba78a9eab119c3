use Rattle.std.proofs.Common.{◌≡◌, false, sym, ◌∙◌}
use Rattle.pt_value.specs.Token.{value_of}
use Rattle.pt_scopes.specs.declared.tables.TheConstants.{RATE}
use Rattle.pt_scopes.specs.Forms.{fits}
use Rattle.pt_values.proofs.Unseen.{misfit-told}
use Rattle.pt_values.proofs.constants.rate_at.Goals as goal

pub returns-else-fits-clause-told : goal.returns-else-fits-clause-told
returns-else-fits-clause-told c =
    let misfits : fits RATE (value_of c.in_ok-token.token) ≡ false = sym c.fits.ensures ∙ c.if-fits.false in
    misfit-told c.args.path.now c.args.text.now (value_of c.in_ok-token.token) c.refused.result c.in_ok-token.ensures.ok misfits c.refused.ensures
