-- What the builder is given beside a net: which actors its entities start as, what its process networks state, and the machines of its Modal entities.
use Rattle.std.specs.Prelude.{List, Option, map, option_map}
use Rattle.pt_chart.specs.Views.{machine_of}
use Rattle.pt_chart.specs.declared.written.Written.{Written}
use Rattle.pt_library.specs.declared.library_actor.LibraryActor.{LibraryActor}
use Rattle.pt_stated.specs.declared.stated.Stated.{Stated}
use Rattle.pt_trees.specs.Trees.{Starts}
use Rattle.pt_builder.specs.declared.builder.Builder.{Builder}

abbrev pub starts_of : List (Option LibraryActor) → List (Option Stated) → List (Option Written) → Starts
starts_of actors stated machines = record { actors = actors; stated = stated; machines = map (option_map machine_of) machines }

-- what a builder has been given
abbrev pub starts_in : Builder → Starts
starts_in b = starts_of b.starts.now b.stated.now b.machines.now
