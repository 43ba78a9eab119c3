-- Children of which none waits for a token at any one place.
use Rattle.std.specs.Prelude.{◌≡◌, ℕ, List, Some}
use Rattle.pt_meaning.specs.NodeFacts.{need_of}
use Rattle.pt_meaning.specs.Streams.{get}
use Rattle.pt_process.specs.Process.{IsKept}
use Rattle.pt_library.specs.LibraryActor.{rows}
use Rattle.pt_node.specs.View.{Tree}

-- each needs counts, or is over
abbrev pub AreKept : List Tree → Type 0
AreKept kids = (i : ℕ) (kid : Tree) → get kids i ≡ Some kid → IsKept (need_of rows kid)
