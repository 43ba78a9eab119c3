-- Laws of what the texts of a net come to.
use Rattle.std.specs.Prelude.{◌≡◌, ℕ, List, map}
use Rattle.pt_document.specs.declared.code.Code.{Code}
use Rattle.pt_document.specs.Document.{JobTree}
use Rattle.pt_net.specs.declared.net.Net.{Net}
use Rattle.pt_net.specs.Net.{IsNetOf}
use Rattle.pt_scopes.specs.declared.values.Values.{Values}
use Rattle.pt_scopes.specs.Scopes.{NetTree, net_view}
use Rattle.pt_scopes.specs.Order.{IsOrdered}
use Rattle.pt_scopes.specs.Valued.{entity_view, transparent_values, inputs_view, IsValued, Stands}

-- the net of a job is in order
abbrev pub NetsAreOrdered : Type 0
NetsAreOrdered = (job : JobTree) (net : Net) → IsNetOf job net → IsOrdered (net_view net)

-- where all texts of a net have what they come to, no cause to refuse stands
abbrev pub ValuedNetsAreClean : Type 0
ValuedNetsAreClean = (net : NetTree) (values : Values) → IsValued net values → (cause : Code) (path : List ℕ) → Stands net cause path → ⊥

-- two of what a program holds are one in what the definitions see of them
pub record AreSame (v w : Values) : Type 0 where
  pub entities : map entity_view v.entities.items ≡ map entity_view w.entities.items
  pub transparent : transparent_values v.transparent.items ≡ transparent_values w.transparent.items
  pub inputs : inputs_view v ≡ inputs_view w

-- the texts of a net come to one thing
abbrev pub ValuesAreUnique : Type 0
ValuesAreUnique = (net : NetTree) (v w : Values) → IsValued net v → IsValued net w → AreSame v w
