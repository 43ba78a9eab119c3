-- The processes of a Rendezvous composite as it is built.
use Rattle.std.specs.Prelude.{ℕ, List, map}
use Rattle.pt_meaning.specs.Net as net
use Rattle.pt_meaning.specs.NodeFacts.{need_of}
use Rattle.pt_library.specs.LibraryActor.{rows}
use Rattle.pt_node.specs.View.{Tree}
use Rattle.pt_rv_laws.specs.State.{Processes}
use Rattle.pt_trees.specs.Rendezvous.{is_barrier}

-- Its net has these channels and places, a firing takes as many tokens as are stated, and of each child it is told whether it is a Barrier, and what it needs at its start.
abbrev pub processes_round : List net.Source → (places takes : List ℕ) → List Tree → Processes
processes_round sources places takes kids = record { plan = record { net = record { sources = sources; places = places }; barriers = map is_barrier kids; takes = takes }; starts = map (need_of rows) kids }
