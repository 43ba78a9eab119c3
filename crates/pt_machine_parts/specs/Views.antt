-- What the program holds of the entities that stand in a Modal one.
use Rattle.std.specs.Prelude.{List, map}
use Rattle.std.specs.Borrow.{Bor}
use Rattle.pt_net.specs.declared.net.NetEntity.{NetEntity}
use Rattle.pt_net.specs.Net.{NetEntityTree, entity_view}

abbrev pub kid_view : Bor NetEntity → NetEntityTree
kid_view kid = entity_view kid.now

abbrev pub kids_view : List (Bor NetEntity) → List NetEntityTree
kids_view kids = map kid_view kids
