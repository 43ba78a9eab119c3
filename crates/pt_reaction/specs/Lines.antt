-- The tokens of a channel, of which a single one is kept in place.
use Rattle.std.specs.Prelude.{ℕ, zero, suc, ◌-◌, List, [], ◌∷◌, length, vec_capacity}
use Rattle.pt_value.specs.declared.token.Token.{Token}
use Rattle.pt_reaction.specs.declared.line.Held.{Held}
use Rattle.pt_reaction.specs.declared.line.Held.TheVariants.{Nothing, One, Many}

abbrev pub held_list : Held → List Token
held_list Nothing = []
held_list (One token) = token ∷ []
held_list (Many tokens) = tokens.items

-- the room for so many more
abbrev pub held_spare : Held → ℕ
held_spare Nothing = 1
held_spare (One token) = 0
held_spare (Many tokens) = vec_capacity tokens - length tokens.items

-- what a list has at a number, if it is so long
abbrev pub first_from : {T : Type 0} → ℕ → List T → List T
first_from n [] = []
first_from zero (x ∷ xs) = x ∷ []
first_from (suc n) (x ∷ xs) = first_from n xs
