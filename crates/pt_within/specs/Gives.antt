-- What is known of the entities of a net by their numbers: the machine of one, and what one declares that it gives.
use Rattle.std.specs.Prelude.{ℕ, List, Option, None, get_or, option_map}
use Rattle.pt_chart.specs.Machine.{Machine}
use Rattle.pt_chart.specs.Views.{machine_of}
use Rattle.pt_chart.specs.declared.written.Written.{Written}
use Rattle.pt_stated.specs.declared.stated.Stated.{Stated}
use Rattle.pt_trees.specs.Around.{declared_as}

-- the machine of the entity of that number, if it is a Modal entity
abbrev pub machine_in : List (Option Written) → ℕ → Option Machine
machine_in machines k = option_map machine_of (get_or machines k None)

-- how many tokens a firing of it is to give on each of its outputs, where that is declared
abbrev pub declared_in : List (Option Stated) → List (Option Written) → ℕ → Option (List ℕ)
declared_in stated machines k = declared_as (get_or stated k None) (machine_in machines k)
