-- Lists of tokens by port, of which those of the first port alone are kept in place.
use Rattle.std.specs.Prelude.{ℕ, zero, suc, List, [], ◌∷◌, replicate}
use Rattle.pt_meaning.specs.Basics.{Streams}
use Rattle.pt_value.specs.declared.token.Token.{Token}
use Rattle.pt_firing.specs.declared.outputs.Lists.{Lists}
use Rattle.pt_firing.specs.declared.outputs.Lists.TheVariants.{OnFirst, All}

-- tokens on the first of so many ports, and none on the others
abbrev pub on_first : {T : Type 0} → ℕ → List T → Streams T
on_first zero tokens = []
on_first (suc ports) tokens = tokens ∷ replicate ports []

abbrev pub streams_in : Lists → Streams Token
streams_in (OnFirst ports first) = on_first ports first
streams_in (All lists) = lists.items
