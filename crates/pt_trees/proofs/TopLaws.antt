-- A job for a composite has all of its lists.
use Rattle.pt_meaning.specs.Tree as tree
use Rattle.pt_value.specs.declared.token.Token.{Token}
use Rattle.pt_node.specs.View.{Tree}
use Rattle.pt_trees.specs.declared.top.Top.{Top}
use Rattle.pt_trees.specs.declared.top.Top.TheVariants.{Sdf, Sr, De, Once}
use Rattle.pt_trees.specs.Top.{FitsCore, IsJobFor, IsWhole}

core-whole : (j : Top) (d : tree.Core Token) → FitsCore j d → IsWhole j
core-whole (Sdf j) (tree.Sdf p X) h = h.1
core-whole (Sdf j) (tree.Pn p X) h = absurd h
core-whole (Sdf j) (tree.Sr p) h = absurd h
core-whole (Sdf j) (tree.De p) h = absurd h
core-whole (Sdf j) (tree.Rv p X) h = absurd h
core-whole (Sdf j) (tree.Modal chart m) h = absurd h
core-whole (Sr j) d h = tt
core-whole (De j) (tree.Sdf p X) h = absurd h
core-whole (De j) (tree.Pn p X) h = absurd h
core-whole (De j) (tree.Sr p) h = absurd h
core-whole (De j) (tree.De p) h = h.1
core-whole (De j) (tree.Rv p X) h = absurd h
core-whole (De j) (tree.Modal chart m) h = absurd h
core-whole (Once j) d h = tt

pub is-whole : (j : Top) (n : Tree) → IsJobFor j n → IsWhole j
is-whole j (tree.Actor h a b) g = absurd g
is-whole j (tree.Composite h c d kids) g = core-whole j d g
