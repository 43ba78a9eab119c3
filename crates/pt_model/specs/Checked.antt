-- What a check tells of a net: facts of a model of it.
use Rattle.pt_facts.specs.declared.facts.Facts.{Facts}
use Rattle.pt_net.specs.declared.net.Net.{Net}
use Rattle.pt_node.specs.Shown.{Shown}
use Rattle.pt_trees.specs.declared.top.Top.{Top}
use Rattle.pt_check.specs.Facts.{AreFacts}
use Rattle.pt_model.specs.Model.{IsModel}

-- the types are those of the net's least typing, and the numbers those of the tree that is the model
pub record AreFactsOf (net : Net) (facts : Facts) : Type 0 where
  pub top : Shown
  pub job : Top
  pub model : IsModel net top job
  pub are : AreFacts net model.typing top facts
