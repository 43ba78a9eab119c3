-- The values of the tokens of Variables.
use Rattle.std.proofs.Common.{◌≡◌, List, [], ◌∷◌, map, Some, refl, ap}
use Rattle.pt_value.specs.declared.token.Token.{Token}
use Rattle.pt_value.specs.Token.{value_of}
use Rattle.pt_inequalities.specs.Frames.{some_value}

pub some-values : (ts : List Token) → map some_value ts ≡ map Some (map value_of ts)
some-values [] = refl
some-values (t ∷ ts) = ap (λ vs. Some (value_of t) ∷ vs) (some-values ts)
