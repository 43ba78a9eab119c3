-- The machines of a net, by the numbers of its entities.
use Rattle.std.proofs.Common.{◌≡◌, ℕ, zero, suc, List, [], ◌∷◌, map, get_or, refl, ap, ap₂}
use Rattle.std.specs.Prelude.{Option, None, option_map}
use Rattle.pt_chart.specs.Views.{machine_of}
use Rattle.pt_chart.specs.declared.written.Written.{Written}
use Rattle.pt_library.specs.declared.library_actor.LibraryActor.{LibraryActor}
use Rattle.pt_stated.specs.declared.stated.Stated.{Stated}
use Rattle.pt_trees.specs.Around.{declared_as}
use Rattle.pt_trees.specs.Trees.{declared_by}
use Rattle.pt_within.specs.Gives.{machine_in, declared_in}
use Rattle.pt_builder.specs.Starts.{starts_of}

pub machine-is : (machines : List (Option Written)) (k : ℕ) → machine_in machines k ≡ get_or (map (option_map machine_of) machines) k None
machine-is [] k = refl
machine-is (m ∷ ms) zero = refl
machine-is (m ∷ ms) (suc k) = machine-is ms k

-- what is declared of some entities
pub declared-are : (actors : List (Option LibraryActor)) (stated : List (Option Stated)) (machines : List (Option Written)) (ks : List ℕ) → map (declared_in stated machines) ks ≡ map (declared_by (starts_of actors stated machines)) ks
declared-are actors stated machines [] = refl
declared-are actors stated machines (k ∷ ks) =
    ap₂ (λ (d : Option (List ℕ)) (ds : List (Option (List ℕ))). d ∷ ds) (ap (λ m. declared_as (get_or stated k None) m) (machine-is machines k)) (declared-are actors stated machines ks)
