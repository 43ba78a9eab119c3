-- When a node may fire: no firing of it is under way, each composite fits its children, and where its director makes meetings they are recorded.
use Rattle.std.specs.Prelude.{◌≡◌, ℕ, suc, List, Bool, true, Option, None}
use Rattle.pt_meaning.specs.Basics.{Tag, Streams}
use Rattle.pt_meaning.specs.Log.{Meeting}
use Rattle.pt_meaning.specs.Tree as tree
use Rattle.pt_value.specs.declared.token.Token.{Token}
use Rattle.pt_directors.specs.Directors.{Director, director_calls}
use Rattle.pt_library.specs.LibraryActor as library
use Rattle.pt_node.specs.declared.body.Body.{Body}
use Rattle.pt_node.specs.declared.body.Body.TheVariants.{Actor, Composite}
use Rattle.pt_node.specs.Acts.{acts}
use Rattle.pt_past.specs.Meetings.{Serves}
use Rattle.pt_node.specs.Shown.{Frame, Shown, AllShown, Branch, none, more}
use Rattle.pt_node.specs.View.{nodes_of}

-- no firing of the composite is under way, and its director fits these children, whatever they fire
abbrev pub IsReady : Director → AllShown → Type 0
IsReady director ks = acts.Fits director (tree.list_of (nodes_of ks))

abbrev pub IsReadyBody : Body → AllShown → Type 0
IsReadyBody (Actor held) ks = Unit {0}
IsReadyBody (Composite director) ks = IsReady director ks

-- the meetings that its director has told in a firing under way, None of one that makes none and of a library actor
abbrev pub met_in : Body → Option (List Meeting)
met_in (Actor held) = None
met_in (Composite director) = director_calls.met director

-- what is recorded of its meetings serves its firing of number n
abbrev pub ServesBody : ℕ → Frame → Type 0
ServesBody n f = Serves (met_in f.body) n f.meetings

-- each composite within is ready, and what is recorded of its meetings serves its next firing
abbrev mutual
  pub IsFit : Shown → Type 0
  IsFit (Branch f ks) = IsReadyBody f.body ks × AllFit ks × ServesBody f.past.made f

  pub AllFit : AllShown → Type 0
  AllFit none = Unit {0}
  AllFit (more s ss) = IsFit s × AllFit ss

-- Its firing is done and isn't recorded yet: the node fits once it is.
abbrev pub HasFired : Shown → Type 0
HasFired (Branch f ks) = IsReadyBody f.body ks × AllFit ks × ServesBody (suc f.past.made) f

-- it is ready, be its last firing recorded or not
abbrev pub IsReadyNode : Shown → Type 0
IsReadyNode (Branch f ks) = IsReadyBody f.body ks

-- what the node tells
abbrev pub is_live : Shown → Bool
is_live (Branch f ks) = f.live

-- a node that may fire
abbrev pub IsLive : Shown → Type 0
IsLive s = (is_live s ≡ true) × IsFit s

-- the inputs fit the director: a list for each own input
abbrev pub TakenBy : Director → Streams Token → Type 0
TakenBy director X = acts.calls.Takes director X

-- the inputs that the node takes at a tag
abbrev pub TakesBody : Tag → Body → Streams Token → Type 0
TakesBody tag (Actor held) X = library.Takes tag held.actor X
TakesBody tag (Composite director) X = TakenBy director X

abbrev pub Takes : Tag → Shown → Streams Token → Type 0
Takes tag (Branch f ks) X = TakesBody tag f.body X
