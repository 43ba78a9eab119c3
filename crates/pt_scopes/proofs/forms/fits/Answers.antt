use Rattle.std.proofs.Common.{sym, ap, ◌∙◌}
use Rattle.std.specs.Prelude.{negsuc, zero}
use Rattle.pt_value.specs.Token.{value_of}
use Rattle.pt_scopes.specs.Forms.{fits, ascend_from}
use Rattle.pt_scopes.proofs.Fitting.{full, ascending}
use Rattle.pt_scopes.proofs.forms.fits.Goals as goal

pub returns-in-Array-token : goal.returns-in-Array-token
returns-in-Array-token c =
    full c.in-Array-token.items c.is_empty.result c.is_empty.ensures
    ∙ (λ i. fits (sym c.in-FullArray.is i) (value_of (sym c.in-Array-token.is i)))

pub returns-in-Array-token-2 : goal.returns-in-Array-token-2
returns-in-Array-token-2 c =
    c.ascend.ensures ∙ ap (ascend_from (negsuc zero)) c.as_slice.ensures.values ∙ ascending c.in-Array-token-2.items
    ∙ (λ i. fits (sym c.in-Offsets.is i) (value_of (sym c.in-Array-token-2.is i)))
