-- What is known of a place, told apart by its tokens.
use Rattle.std.specs.Prelude.{◌≡◌, List, Option, Some, None, refl}
use Rattle.std.specs.Coded.{Coded, code_by, coded_list, coded_option}
use Rattle.pt_meaning.specs.Machine.{Partial, Unknown, Known}
use Rattle.pt_value.specs.declared.token.Token.{Token}
use Rattle.pt_value.specs.Token.{coded_token}

abbrev to_option : Partial Token → Option (List Token)
to_option Unknown = None
to_option (Known tokens) = Some tokens

abbrev from_option : Option (List Token) → Partial Token
from_option None = Unknown
from_option (Some tokens) = Known tokens

pub from_option-to_option : (p : Partial Token) → from_option (to_option p) ≡ p
from_option-to_option Unknown = refl
from_option-to_option (Known tokens) = refl

abbrev pub coded_partial : Coded (Partial Token)
coded_partial = code_by (Option (List Token)) (coded_option (coded_list coded_token)) to_option from_option from_option-to_option
