-- Laws of the library actors of a document's net.
use Rattle.std.specs.Prelude.{◌≡◌, ℕ, List, true, false, Some, None}
use Rattle.pt_document.specs.Classes.{Class, Actor, kind_of}
use Rattle.pt_net.specs.declared.net.Net.{Net}
use Rattle.pt_net.specs.declared.net.NetEntity.{NetEntity}
use Rattle.pt_scopes.specs.declared.values.Values.{Values}
use Rattle.pt_scopes.specs.Scopes.{net_view, is_composite_class}
use Rattle.pt_scopes.specs.Valued.{IsValued}
use Rattle.pt_typing.specs.Least.{Assignment}
use Rattle.pt_inequalities.specs.Typing.{IsTyping}
use Rattle.pt_resolve.specs.Faults.{IsWhole}
use Rattle.pt_start.specs.Started.{IsStart}
use Rattle.pt_trees.specs.Trees.{IsEntity}
use Rattle.pt_order.specs.Laws.{IsNetOfDocument}
use Rattle.pt_typed.specs.RowLaw.{types_of_ports}
use Rattle.pt_startable.specs.Classes.{is_of_library}

-- A library has each class of actors that a document may have.
abbrev pub ClassesAreOfLibraries : Type 0
ClassesAreOfLibraries = (name : List ℕ) (class : Class) → kind_of name ≡ Some (Actor class) → is_of_library name ≡ true

-- An entity that is no composite starts as an actor, where the texts of its net come to these values, and the net has this typing, which breaks nowhere.
abbrev pub LibraryActorsStart : Type 0
LibraryActorsStart =
    (net : Net) (values : Values) (typing : Assignment) (k : ℕ) (e : NetEntity) → IsNetOfDocument net → IsValued (net_view net) values → IsTyping net values typing → IsWhole net values typing → IsEntity net k e → is_composite_class e.class ≡ false → IsStart net values (types_of_ports typing) k None → ⊥
