-- Rules on the types of numbered things, and the least types that meet them.
use Rattle.std.specs.Prelude.{◌≡◌, ℕ, List, length, All, Bool, true, false, slice_index_or, slice_set}
use Rattle.pt_datatypes.specs.Datatype.{Datatype, Unknown}
use Rattle.pt_datatypes.specs.Normal.{IsType}
use Rattle.pt_datatypes.specs.Order.{is_below, IsBelow}
use Rattle.pt_datatypes.specs.Join.{join}

-- the type of a number, and unknown past the last
abbrev pub type_at : List Datatype → ℕ → Datatype
type_at types k = slice_index_or types k Unknown

-- each type of the first list is below the one of the same number in the second
pub record AllBelow (xs ys : List Datatype) : Type 0 where
  pub counted : length xs ≡ length ys
  pub each : (k : ℕ) → IsBelow (type_at xs k) (type_at ys k)

-- each rule's value is below the type of its target
abbrev pub AreMet : {R : Type 0} → (R → ℕ) → (R → List Datatype → Datatype) → List R → List Datatype → Type 0
AreMet target value rules types = All (λ rule. IsBelow (value rule types) (type_at types (target rule))) rules

-- n types that meet the rules
pub record IsSolution {R : Type 0} (target : R → ℕ) (value : R → List Datatype → Datatype) (n : ℕ) (rules : List R) (types : List Datatype) : Type 0 where
  pub counted : length types ≡ n
  pub are_types : All IsType types
  pub met : AreMet target value rules types

-- types below each solution
pub record IsReached {R : Type 0} (target : R → ℕ) (value : R → List Datatype → Datatype) (rules : List R) (types : List Datatype) : Type 0 where
  pub are_types : All IsType types
  pub least : (other : List Datatype) → IsSolution target value (length types) rules other → AllBelow types other

-- the least of all solutions
pub record IsLeastSolution {R : Type 0} (target : R → ℕ) (value : R → List Datatype → Datatype) (n : ℕ) (rules : List R) (types : List Datatype) : Type 0 where
  pub solution : IsSolution target value n rules types
  pub least : (other : List Datatype) → IsSolution target value n rules other → AllBelow types other

-- the type of number v is raised to its join with w where w isn't below it, and all else stays
abbrev pub IsRaised : ℕ → Datatype → List Datatype → List Datatype → Bool → Type 0
IsRaised v w xs ys true = (is_below w (type_at xs v) ≡ false) × (ys ≡ slice_set xs v (join (type_at xs v) w))
IsRaised v w xs ys false = IsBelow w (type_at xs v) × (ys ≡ xs)
