-- What the code has of a net before its tree is built, among the definitions.
use Rattle.std.specs.Prelude.{map, option_map}
use Rattle.pt_chart.specs.Views.{machine_of}
use Rattle.pt_trees.specs.Trees.{Starts}
use Rattle.pt_elaboration.specs.declared.started.Started.{Started}

-- what its library actors start as, what its process networks state, and the machines of its Modal entities
abbrev pub starts_in : Started → Starts
starts_in s = record { actors = s.starts.items; stated = s.stated.items; machines = map (option_map machine_of) s.machines.items }
