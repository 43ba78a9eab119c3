use Rattle.std.proofs.Common.{Some, sym, ap, ◌∙◌}
use Rattle.pt_value.specs.declared.token.Token.{Token}
use Rattle.pt_value.specs.Value.{list_of-values_of}
use Rattle.pt_value.specs.Token.{value_of}
use Rattle.pt_scopes.specs.Agreement.{elements}
use Rattle.pt_parameter.proofs.agreement.elements.Goals as goal

pub returns-in-Array : goal.returns-in-Array
returns-in-Array c =
    ap Some (c.as_slice.ensures.values ∙ sym (list_of-values_of c.in-Array.items)) ∙ ap (λ (t : Token). elements (value_of t)) (sym c.in-Array.is)
