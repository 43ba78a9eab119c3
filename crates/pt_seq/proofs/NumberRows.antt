-- The turn of a child that gave numbers alone, of which the director was told.
use Rattle.std.proofs.Common.{◌≡◌, ℤ, ℕ, List, [], ◌∷◌, Option, Some, map}
use Rattle.pt_meaning.specs.Basics.{Tag}
use Rattle.pt_value.specs.declared.token.Token.TheVariants.{Int}
use Rattle.pt_directors.specs.Directors.{Director, director_calls}
use Rattle.pt_node.specs.Shown.{Shown}
use Rattle.pt_turns.specs.declared.turn.Turn.{Turn}
use Rattle.pt_turns.specs.Within.{Gave, made_of}
use Rattle.pt_turns.specs.Turns.{TellTo, TurnFrom}
use Rattle.pt_turns.proofs.Turning.{turn-told}
use Rattle.pt_turns.proofs.Loop.{none-given}

pub turn-of-several : (d : Director) (given : Option ℤ) → ((n : ℤ) → given ≡ Some n → ⊥) → (child mid : Shown) (i : ℕ) (tag : Tag) (ns : List ℤ) (t : Turn) (d' : Director) (after : Shown) →
    Gave child (director_calls.lent_of d) (map Int ns ∷ []) mid → made_of mid ≡ made_of child → TellTo director_calls d mid i tag (map Int ns ∷ []) t d' after → TurnFrom director_calls given d child i tag t d' after
turn-of-several d given f child mid i tag ns t d' after g p told =
    none-given director_calls given d child i tag t d' after f
    (turn-told director_calls d child mid i tag (map Int ns ∷ []) t d' after (g.goes tag) g.fit g.outline p told)
