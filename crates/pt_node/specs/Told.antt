-- What a director is told of a child that has fired.
use Rattle.std.specs.Prelude.{◌≡◌, ℕ}
use Rattle.pt_meaning.specs.Basics.{Tag, Streams}
use Rattle.pt_meaning.specs.NodeFacts.{need_of, next_of}
use Rattle.pt_value.specs.declared.token.Token.{Token}
use Rattle.pt_core.specs.Acts.{Calls}
use Rattle.pt_library.specs.LibraryActor.{rows}
use Rattle.pt_node.specs.Shown.{Shown}
use Rattle.pt_node.specs.Firing.{recorded}
use Rattle.pt_node.specs.View.{node_of}

module _ {D : Type 0} (c : Calls D) where
  -- it was told what child i gave, with the wake and the need that the child has once its firing is recorded, at whatever tag
  abbrev pub IsTold : D → Shown → ℕ → Streams Token → D → Type 0
  IsTold s child i out s' = (tag : Tag) → let after = node_of (recorded tag child) in s' ≡ c.told i out (next_of rows after) (need_of rows after) s
