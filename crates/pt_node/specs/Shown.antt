-- The tree of the code, as data: what each node has in its fields, and its children.
use Rattle.std.specs.Prelude.{ℕ, List, [], ◌∷◌, Bool, map, Option}
use Rattle.pt_meaning.specs.Tree as tree
use Rattle.pt_records.specs.Kept.{Made}
use Rattle.pt_node.specs.declared.body.Body.{Body}
use Rattle.pt_node.specs.declared.node.Node.{Node, out-Node}
use Rattle.pt_node.specs.declared.node.Node.TheFolds.{fold-Node}
use Rattle.pt_node.specs.declared.node.Node.TheOpen as opens
use Rattle.pt_past.specs.Recorded.{RecordedPort}

-- a node without its children
pub record Frame : Type 0 where
  pub past : tree.Past
  pub body : Body
  pub records : List RecordedPort
  pub path : List ℕ
  pub labels : List (List ℕ)
  pub meetings : Option Made
  pub live : Bool

mutual
  pub data Shown : Type 0 where
    Branch : Frame → AllShown → Shown

  pub data AllShown : Type 0 where
    none : AllShown
    more : Shown → AllShown → AllShown

-- a list of nodes as children, and back
abbrev pub all_of : List Shown → AllShown
all_of [] = none
all_of (s ∷ ss) = more s (all_of ss)

abbrev pub list_of : AllShown → List Shown
list_of none = []
list_of (more s ss) = s ∷ list_of ss

-- one level of the code's tree, where the children are shown already
abbrev pub node_step : opens.Node-F Shown → Shown
node_step x = Branch (record { past = x.past; body = x.body; records = x.records; path = x.path; labels = x.labels; meetings = x.meetings; live = x.live }) (all_of x.children.items)

-- what a node shows
unfoldable pub shown : Node → Shown
shown = fold-Node Shown node_step

-- what it shows by its fields
abbrev pub level : opens.Node-F Node → Shown
level x = Branch (record { past = x.past; body = x.body; records = x.records; path = x.path; labels = x.labels; meetings = x.meetings; live = x.live }) (all_of (map shown x.children.items))

abbrev pub shown_node : Node → Shown
shown_node n = level (out-Node n)
