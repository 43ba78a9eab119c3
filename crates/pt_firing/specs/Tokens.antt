-- A list of tokens, of which a single one is kept in place.
use Rattle.std.specs.Prelude.{◌<◌, List, [], ◌∷◌, vec_capacity}
use Rattle.std.specs.Vec.Iter.{into_iter_items}
use Rattle.pt_value.specs.declared.token.Token.{Token}
use Rattle.pt_firing.specs.declared.tokens.Held.{Held}
use Rattle.pt_firing.specs.declared.tokens.Held.TheVariants.{Nothing, One, Many}
use Rattle.pt_firing.specs.declared.tokens.Rest.{Rest}
use Rattle.pt_firing.specs.declared.tokens.Rest.TheVariants as rest

abbrev pub tokens_in : Held → List Token
tokens_in Nothing = []
tokens_in (One token) = token ∷ []
tokens_in (Many tokens) = tokens.items

-- a list with an allocation has room for one token at least
abbrev pub HasRoom : Held → Type 0
HasRoom Nothing = Unit {0}
HasRoom (One token) = Unit {0}
HasRoom (Many tokens) = 0 < vec_capacity tokens

-- what an iterator over such a list has left
abbrev pub tokens_left : Rest → List Token
tokens_left rest.Nothing = []
tokens_left (rest.One token) = token ∷ []
tokens_left (rest.Many tokens) = into_iter_items tokens
