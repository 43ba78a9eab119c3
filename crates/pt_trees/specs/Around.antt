-- What is round a composite, but for its children, and what is stated of it and of these.
use Rattle.std.specs.Prelude.{ℕ, List, Option, Some, None, length, map, option_map, get_or, replicate}
use Rattle.pt_meaning.specs.Net as net
use Rattle.pt_core.specs.Source.{source_of}
use Rattle.pt_chart.specs.Machine.{Machine}
use Rattle.pt_chart.specs.Views.{machine_of}
use Rattle.pt_stated.specs.declared.stated.Stated.{Stated}
use Rattle.pt_trees.specs.declared.wiring.Wiring.{Wiring}

-- Where the channels of a composite begin, how many places each child has, how many own ports there are, what it states of its ports and of its channels where its children are processes,
-- how many tokens a firing of each child is to give on each of its outputs, where that is declared, and its machine, where it is a Modal entity.
pub record Around : Type 0 where
  pub sources : List net.Source
  pub places : List ℕ
  pub inputs : ℕ
  pub outputs : ℕ
  pub stated : Option Stated
  pub declared : List (Option (List ℕ))
  pub machine : Option Machine

abbrev pub around_of : Wiring → Around
around_of w = record { sources = map source_of w.sources.items; places = w.places; inputs = w.inputs; outputs = w.outputs; stated = w.stated; declared = w.declared.items; machine = option_map machine_of w.machine }

-- a Modal entity is to give one token on each of its outputs
abbrev pub ones_of : Machine → List ℕ
ones_of m = replicate (length m.names.outputs) 1

-- how many tokens a firing of an entity is to give: of a composite of processes what it states, one on each output of a Modal entity, and of others nothing is declared
abbrev pub declared_as : Option Stated → Option Machine → Option (List ℕ)
declared_as (Some stated) machine = Some stated.gives
declared_as None machine = option_map ones_of machine

-- what is declared of the child of that number
abbrev pub declared_at : List (Option (List ℕ)) → ℕ → Option (List ℕ)
declared_at declared i = get_or declared i None
