-- What has a count for each place.
use Rattle.std.specs.Prelude.{◌≡◌, ℕ, List, length}
use Rattle.pt_meaning.specs.Machine.{Need, Counts}

-- what is needed has a count for each of so many places
pub record IsCounted (places : ℕ) (need : Need) : Type 0 where
  pub counts : List ℕ
  pub is : need ≡ Counts counts
  pub counted : length counts ≡ places
