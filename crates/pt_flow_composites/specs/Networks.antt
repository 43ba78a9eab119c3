-- The network of a PN composite as it is built.
use Rattle.std.specs.Prelude.{ℕ, List, map}
use Rattle.pt_meaning.specs.Net as net
use Rattle.pt_meaning.specs.NodeFacts.{need_of}
use Rattle.pt_meaning.specs.Start.{first_held}
use Rattle.pt_value.specs.declared.token.Token.{Token}
use Rattle.pt_pn_laws.specs.State.{Network}
use Rattle.pt_library.specs.LibraryActor.{rows}
use Rattle.pt_node.specs.View.{Tree}
use Rattle.pt_stated.specs.declared.capacities.Capacities.{Capacities}

-- Its net has these channels and places, a firing takes and each channel may hold as many tokens as are stated, and a channel begins with its first tokens; and each child needs what it needs at its start.
abbrev pub network_round : List net.Source → (places takes : List ℕ) → Capacities → List Tree → Network Token
network_round sources places takes capacities kids =
    record { plan = record { net = record { sources = sources; places = places }; takes = takes }; initial = capacities.initial; maximum = capacities.maximum; first = first_held rows kids sources; starts = map (need_of rows) kids }
