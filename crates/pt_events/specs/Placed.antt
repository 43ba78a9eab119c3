-- Lists in the order of a test, which says whether an element may come before another.
use Rattle.std.specs.Prelude.{Bool, ◌&&◌, List, [], ◌∷◌, Option, Some, None, if◌then◌else◌}

module _ {X : Type 0} (before : X → X → Bool) where
  -- x in its place: before the first that it may come before
  abbrev pub placed : X → List X → List X
  placed x [] = x ∷ []
  placed x (y ∷ ys) = if before x y then x ∷ y ∷ ys else y ∷ placed x ys

  -- the elements in order
  abbrev pub in_order : List X → List X
  in_order [] = []
  in_order (x ∷ xs) = placed x (in_order xs)

  -- each of two may come before the other, which in a total order is so of equal ones alone
  abbrev pub ties : X → X → Bool
  ties x y = before x y && before y x

  -- the list with one x less, where there is any
  abbrev pub without : X → List X → List X
  without x [] = []
  without x (y ∷ ys) = if ties x y then ys else y ∷ without x ys

  -- of an element and of what is the least of others, if there are any, the one that comes first
  abbrev pub lesser : X → Option X → X
  lesser x None = x
  lesser x (Some y) = if before x y then x else y

  -- the least element, if there is any
  abbrev pub least_of : List X → Option X
  least_of [] = None
  least_of (x ∷ xs) = Some (lesser x (least_of xs))
