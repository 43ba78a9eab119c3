-- The children of each entity, as far as the entities are looked at.
use Rattle.std.specs.Prelude.{◌≡◌, ℕ, ◌<◌, List, [], length, take, get_or, slice_get}
use Rattle.pt_net.specs.declared.net.NetEntity.{NetEntity}
use Rattle.pt_net.specs.Inside.{children_of, number_among, parent_of}

-- Of a net with so many entities these come first: the lists have their children, and the numbers are theirs.
pub record AreChildren (count : ℕ) (es : List NetEntity) (lists : List (List ℕ)) (numbers : List ℕ) : Type 0 where
  pub counted : length lists ≡ count
  pub listed : (c : ℕ) → c < count → get_or lists c [] ≡ children_of es c
  pub numbered : length numbers ≡ length es
  pub each : (i : ℕ) → i < length es → get_or numbers i 0 ≡ number_among (take i es) count (parent_of (slice_get es i))
