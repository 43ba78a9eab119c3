-- What contracts see of an own input.
use Rattle.std.specs.Prelude.{List, refl}
use Rattle.std.specs.Coded.{Coded, code_by, coded×, coded_list}
use Rattle.pt_meaning.specs.Process.{Put}
use Rattle.pt_value.specs.declared.token.Token.{Token}
use Rattle.pt_puts.specs.Codes.{coded_put}

-- an own input: what it has to put, and what is to come behind that
pub record Arriving : Type 0 where
  pub puts : List (Put Token)
  pub coming : List (Put Token)

abbrev pub coded_arriving : Coded Arriving
coded_arriving = code_by (List (Put Token) × List (Put Token)) (coded× (coded_list coded_put) (coded_list coded_put)) (λ a. (a.puts, a.coming)) (λ c. record { puts = c.0; coming = c.1 }) (λ _. refl)
