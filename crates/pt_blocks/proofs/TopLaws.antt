-- A top in the code, before a block and after it.
use Rattle.std.proofs.Common.{◌≡◌, map, Vec, ap}
use Rattle.std.specs.Global.{Global}
use Rattle.pt_node.specs.declared.node.Node.{Node, roll-Node}
use Rattle.pt_node.specs.declared.node.Node.TheViews.{out-roll-Node}
use Rattle.pt_node.specs.declared.node.Node.TheOpen as opens
use Rattle.pt_node.specs.Shown.{Frame, Branch, all_of, shown, shown_node, level}

-- a node without its children
abbrev pub frame_in : opens.Node-F Node → Frame
frame_in x = record { past = x.past; body = x.body; records = x.records; path = x.path; labels = x.labels; meetings = x.meetings; live = x.live }

-- it has other children
abbrev pub with_children : opens.Node-F Node → Vec Node Global → opens.Node-F Node
with_children x ks = record { past = x.past; records = x.records; live = x.live; body = x.body; children = ks; path = x.path; labels = x.labels; meetings = x.meetings }

pub children-shown : (x : opens.Node-F Node) (ks : Vec Node Global) → shown_node (roll-Node (with_children x ks)) ≡ Branch (frame_in x) (all_of (map shown ks.items))
children-shown x ks = ap (λ y. level y) (out-roll-Node (with_children x ks))
