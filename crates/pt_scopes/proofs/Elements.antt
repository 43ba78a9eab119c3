-- The elements of an array that a parameter has.
use Rattle.std.proofs.Common.{◌≡◌, List, map, Some, None, sym, ap}
use Rattle.std.specs.Prelude.{Option, unwrap_or}
use Rattle.pt_value.specs.declared.token.Token.{Token}
use Rattle.pt_value.specs.Value.{Value}
use Rattle.pt_value.specs.Token.{value_of}
use Rattle.pt_scopes.specs.Agreement.{elements_in, given_elements}

-- where some are given they count, and else the others
pub elements-some : (v : Option Value) (other : List Value) (ts : List Token) → Some (map value_of ts) ≡ given_elements v → elements_in v other ≡ map value_of ts
elements-some v other ts e = ap (λ o. unwrap_or o other) (sym e)

pub elements-none : (v : Option Value) (other : List Value) → None ≡ given_elements v → elements_in v other ≡ other
elements-none v other e = ap (λ o. unwrap_or o other) (sym e)
