-- A composite that is built from its children, by its director.
use Rattle.std.specs.Prelude.{◌≡◌, ℕ, List, map, Option}
use Rattle.pt_meaning.specs.Tree as tree
use Rattle.pt_value.specs.declared.token.Token.{Token}
use Rattle.pt_records.specs.Kept.{Made}
use Rattle.pt_node.specs.declared.body.Body.{Body}
use Rattle.pt_past.specs.Recorded.{RecordedPort}
use Rattle.pt_node.specs.Shown.{Shown, Branch, Frame, list_of}
use Rattle.pt_node.specs.View.{Tree, node_of, maximum_in}
use Rattle.pt_trees.specs.declared.directing.Directing.{Directing}
use Rattle.pt_trees.specs.declared.composite_fault.CompositeFault.{CompositeFault}
use Rattle.pt_trees.specs.declared.composite_fault.CompositeFault.TheVariants.{Unbuilt, Refused, Memory}
use Rattle.pt_trees.specs.Around.{Around}
use Rattle.pt_trees.specs.Composing.{Composing}
use Rattle.pt_trees.specs.De.{PlansDepths}
use Rattle.pt_trees.specs.Directors.{composing}
use Rattle.pt_trees.specs.Fresh.{IsFresh}

-- what the nodes of the code are among the definitions
abbrev pub trees_of : List Shown → List Tree
trees_of kids = map node_of kids

-- the fields of a node, and its children
abbrev pub frame_in : Shown → Frame
frame_in (Branch f ks) = f

abbrev pub children_in : Shown → List Shown
children_in (Branch f ks) = list_of ks

-- The node is a fresh composite with a core of this kind, such depths, this maximum capacity and this record of meetings round these children, under its path, with its recorded outputs and with its channels told so.
pub record IsRound (IsCore : tree.Core Token → Type 0) (HasDepths : Body → Type 0) (maximum : ℕ) (meetings : Option Made) (kids : List Shown) (path : List ℕ) (records : List RecordedPort) (labels : List (List ℕ)) (s : Shown) : Type 0 where
  pub core : tree.Core Token
  pub is_core : IsCore core
  pub depths : HasDepths (frame_in s).body
  pub maximum_is : maximum_in (frame_in s).body ≡ maximum
  pub node : node_of s ≡ tree.composite core (trees_of kids)
  pub children : children_in s ≡ kids
  pub path_is : (frame_in s).path ≡ path
  pub records_are : (frame_in s).records ≡ records
  pub labels_are : (frame_in s).labels ≡ labels
  pub meetings_are : (frame_in s).meetings ≡ meetings
  pub fresh : IsFresh s

-- the node is the composite that a director makes with this wiring round these children
abbrev pub IsComposed : Composing → Around → List Shown → (path : List ℕ) → List RecordedPort → (labels : List (List ℕ)) → Shown → Type 0
IsComposed how around kids path records labels s = IsRound (how.IsCore around (trees_of kids)) (PlansDepths around (trees_of kids)) (how.maximum around) how.meetings kids path records labels s

abbrev pub IsComposite : Directing → Around → List Shown → (path : List ℕ) → List RecordedPort → (labels : List (List ℕ)) → Shown → Type 0
IsComposite director around kids path records labels s = IsComposed (composing director) around kids path records labels s

-- why there is none
abbrev pub IsUncomposed : Composing → Around → List Shown → CompositeFault → Type 0
IsUncomposed how around kids Unbuilt = how.IsMisfit around (trees_of kids)
IsUncomposed how around kids (Refused code) = how.IsRefused around (trees_of kids) code
IsUncomposed how around kids Memory = Unit {0}

abbrev pub CompositeFaultStands : Directing → Around → List Shown → CompositeFault → Type 0
CompositeFaultStands director around kids fault = IsUncomposed (composing director) around kids fault
