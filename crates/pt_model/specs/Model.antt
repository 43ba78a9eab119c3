-- The model of a net: the tree that is fired, and what the job asks of its top.
use Rattle.std.specs.Prelude.{ℕ, List}
use Rattle.pt_net.specs.declared.net.Net.{Net}
use Rattle.pt_scopes.specs.declared.values.Values.{Values}
use Rattle.pt_scopes.specs.Scopes.{net_view}
use Rattle.pt_typing.specs.Least.{Assignment}
use Rattle.pt_job.specs.Inputs.{AreSupplied, IsInputFault}
use Rattle.pt_node.specs.declared.body.Body.{Body}
use Rattle.pt_node.specs.declared.body.Body.TheVariants.{Actor, Composite}
use Rattle.pt_node.specs.Shown.{Shown}
use Rattle.pt_node.specs.View.{node_of}
use Rattle.pt_trees.specs.Trees.{Starts, IsTree}
use Rattle.pt_trees.specs.Built.{IsBuilt}
use Rattle.pt_trees.specs.declared.top.Top.{Top}
use Rattle.pt_trees.specs.Top.{supply_of, IsJobFor}
use Rattle.pt_elaboration.specs.Resolved.{IsStarted}
use Rattle.pt_elaboration.specs.Asked.{HasTags, Lasts}

-- This tree of nodes, with this job for its top, is the model of the net: no fault stands in the net, the tree is that of its entities as they start, each node under
-- its path and with the outputs that are recorded of it, and the job is one for the top: it supplies the tokens, at the tags, and lasts as long as the document states.
pub record IsModel (net : Net) (top : Shown) (job : Top) : Type 0 where
  pub values : Values
  pub typing : Assignment
  pub starts : Starts
  pub started : IsStarted net values typing starts
  pub tree : IsTree net starts 0 (node_of top)
  pub built : IsBuilt net starts 0 top
  pub accepted : (path : List ℕ) → IsInputFault (net_view net) path → ⊥
  pub supplied : AreSupplied (net_view net) values (supply_of job)
  pub tags : HasTags (net_view net) job
  pub lasts : Lasts (net_view net) values job
  pub fits : IsJobFor job (node_of top)

-- the node is a composite
abbrev pub IsCompositeBody : Body → Type 0
IsCompositeBody (Actor held) = ⊥
IsCompositeBody (Composite director) = Unit {0}
