-- Numbers that are claimed, as states claim the refinements that they name.
use Rattle.std.specs.Prelude.{◌≡◌, ℕ, ◌<◌, List, [], length, get_or, set, Bool, true, false, Option, Some, None, slice_get}
use Rattle.std.specs.List.{All}
use Rattle.pt_net.specs.Net.{NetEntityTree}
use Rattle.pt_chart.specs.Machine.{ModeTree}
use Rattle.pt_machine.specs.declared.cause.Cause.{Cause}
use Rattle.pt_machine.specs.declared.cause.Cause.TheVariants.{SharedRefinement, IdleChild}
use Rattle.pt_machine.specs.Machines as machines
use Rattle.pt_machine.specs.Machines.{IsRefined, IsNamed}

-- ---- claims

-- each number that is claimed is below this count
abbrev pub AreWithin : ℕ → List (Option ℕ) → Type 0
AreWithin count claims = (i r : ℕ) → slice_get claims i ≡ Some (Some r) → r < count

-- no two claim one number
abbrev pub AreApart : List (Option ℕ) → Type 0
AreApart claims = (i j r : ℕ) → slice_get claims i ≡ Some (Some r) → slice_get claims j ≡ Some (Some r) → i ≡ j

-- some claim is for this number
abbrev pub IsClaimed : List (Option ℕ) → ℕ → Type 0
IsClaimed claims r = (i : ℕ) × (slice_get claims i ≡ Some (Some r))

-- two claim one number
pub record IsShared (claims : List (Option ℕ)) : Type 0 where
  pub number : ℕ
  pub first : ℕ
  pub second : ℕ
  pub differ : first ≡ second → ⊥
  pub one : slice_get claims first ≡ Some (Some number)
  pub two : slice_get claims second ≡ Some (Some number)

-- none claims this number, which is below the count
pub record IsIdle (count : ℕ) (claims : List (Option ℕ)) : Type 0 where
  pub number : ℕ
  pub short : number < count
  pub none : (i : ℕ) → slice_get claims i ≡ Some (Some number) → ⊥

pub data IsMisclaimed (count : ℕ) (claims : List (Option ℕ)) : Cause → Type 0 where
  shared : IsShared claims → IsMisclaimed count claims SharedRefinement
  idle : IsIdle count claims → IsMisclaimed count claims IdleChild

-- ---- what is taken while claims are looked at

abbrev pub itself : Bool → Bool
itself b = b

-- what becomes of what is taken: a number that is claimed and was free is taken now
abbrev pub IsClaim : Option ℕ → List Bool → Bool → List Bool → Type 0
IsClaim None old free new = (free ≡ true) × (new ≡ old)
IsClaim (Some r) old true new = (r < length old) × (get_or old r false ≡ false) × (new ≡ set old r true)
IsClaim (Some r) old false new = r < length old → get_or old r false ≡ true

-- the claims before this place are looked at: no two of them claim one number, and those that they claim are taken
pub record IsTaken (count : ℕ) (claims : List (Option ℕ)) (n : ℕ) (taken : List Bool) : Type 0 where
  pub counted : length taken ≡ count
  pub marked : (r : ℕ) → get_or taken r false ≡ true → (i : ℕ) × (i < n) × (slice_get claims i ≡ Some (Some r))
  pub noted : (i r : ℕ) → i < n → slice_get claims i ≡ Some (Some r) → get_or taken r false ≡ true
  pub apart : (i j r : ℕ) → i < n → j < n → slice_get claims i ≡ Some (Some r) → slice_get claims j ≡ Some (Some r) → i ≡ j

-- ---- states

-- a state with this refinement, which no transition leaves
abbrev pub bare_mode : Option ℕ → ModeTree
bare_mode refinement = record { refinement = refinement; preemptive = []; others = [] }

-- what states name stands in the entity, and each that stands there is named by one state
pub record AreNamedOnce (e : NetEntityTree) (kids : List NetEntityTree) : Type 0 where
  pub named : All (IsRefined e kids) e.states
  pub each : (r : ℕ) → r < length kids → IsNamed e kids r
  pub apart : machines.AreApart e kids e.states
