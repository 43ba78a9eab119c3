-- Whether a node begins by itself, and the wake that it has once it has fired, by its body.
use Rattle.std.specs.Prelude.{Bool, Option}
use Rattle.pt_meaning.specs.Basics.{Tag}
use Rattle.pt_meaning.specs.Tree as tree
use Rattle.pt_meaning.specs.NodeFacts.{core_begins, core_wake, wakes_of}
use Rattle.pt_library.specs.LibraryActor as library
use Rattle.pt_node.specs.declared.body.Body.{Body}
use Rattle.pt_node.specs.declared.body.Body.TheVariants.{Actor, Composite}
use Rattle.pt_node.specs.Shown.{Shown, Branch}
use Rattle.pt_node.specs.View.{Trees, core_of, nodes_of}

-- a node with this body begins by itself
abbrev pub body_begins : Body → Bool
body_begins (Actor held) = library.begins held.actor
body_begins (Composite director) = core_begins (core_of director)

abbrev pub begins : Shown → Bool
begins (Branch f ks) = body_begins f.body

-- the wake of a node with this body and these children that has fired
abbrev pub body_wake : Body → Trees → Option Tag
body_wake (Actor held) kids = library.next held.actor
body_wake (Composite director) kids = core_wake (core_of director) (wakes_of library.rows kids)

abbrev pub own_wake : Shown → Option Tag
own_wake (Branch f ks) = body_wake f.body (nodes_of ks)

-- the past of a node
abbrev pub past_of : Shown → tree.Past
past_of (Branch f ks) = f.past
