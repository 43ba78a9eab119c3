use Rattle.std.proofs.Common.{inr, Some, sym, ap, ◌∙◌, Bor}
use Rattle.std.specs.Prelude.{option_map}
use Rattle.pt_value.specs.declared.token.Token.{Token}
use Rattle.pt_value.specs.Token.{value_of}
use Rattle.pt_scopes.proofs.NameTests.{there}
use Rattle.pt_parameter.proofs.giving.is_in_scope.Goals as goal

pub returns-else-are_named_by-clause-yes : goal.returns-else-are_named_by-clause-yes
returns-else-are_named_by-clause-yes c =
    λ e. let w = there (λ (t : Bor Token). value_of t.now) c.get.result _ c.get.ensures (sym c.is_some.ensures ∙ e) in
    inr (record { held = Some w.0; is = ap (option_map Some) w.1 })
