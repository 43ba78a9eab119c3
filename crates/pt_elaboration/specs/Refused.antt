-- Why a net has no model. A fault of one kind is told only where none of the kinds before it stands: values, guards and actions, types, places and states, plans, inputs.
use Rattle.std.specs.Prelude.{◌≡◌, ℕ}
use Rattle.pt_document.specs.declared.code.Code.{Code}
use Rattle.pt_document.specs.declared.code.Code.TheVariants as code
use Rattle.pt_document.specs.declared.refusal.DocFault.{DocFault}
use Rattle.pt_document.specs.declared.refusal.DocFault.TheVariants.{Refused, Memory}
use Rattle.pt_document.specs.declared.refusal.Refusal.{Refusal}
use Rattle.pt_net.specs.declared.net.Net.{Net}
use Rattle.pt_net.specs.declared.net.NetEntity.{NetEntity}
use Rattle.pt_scopes.specs.declared.values.Values.{Values}
use Rattle.pt_scopes.specs.Scopes.{net_view}
use Rattle.pt_scopes.specs.Valued as valued
use Rattle.pt_scopes.specs.Valued.{IsValued}
use Rattle.pt_typing.specs.Least.{Assignment}
use Rattle.pt_resolve.specs.Faults.{IsTypeFault}
use Rattle.pt_charts.specs.Readable.{AreReadable, IsUnreadableAt}
use Rattle.pt_start.specs.Misplaced.{IsMisplaced}
use Rattle.pt_machine.specs.declared.cause.Cause.{Cause}
use Rattle.pt_machine.specs.Causes.{IsFaultIn}
use Rattle.pt_job.specs.Inputs.{IsInputFault}
use Rattle.pt_node.specs.Shown.{Shown}
use Rattle.pt_trees.specs.Trees.{IsEntity, Starts}
use Rattle.pt_trees.specs.Built as built
use Rattle.pt_trees.specs.Built.{IsBuilt}
use Rattle.pt_elaboration.specs.Resolved.{IsResolved, IsStarted}

-- A refusal of a net stands: for a text, for a guard or an action of a Modal entity, for types, for where an entity stands, for a Modal entity whose states, transitions and refinements don't agree, for a composite without a plan, or for an input of the top.
pub data IsRefused (net : Net) (r : Refusal) : Type 0 where
  for_values : valued.Stands (net_view net) r.code r.path → IsRefused net r
  for_guards : (values : Values) (k : ℕ) (e : NetEntity) → IsValued (net_view net) values → IsUnreadableAt net values r.code k → IsEntity net k e → r.path ≡ e.path → IsRefused net r
  for_types : (values : Values) → IsValued (net_view net) values → AreReadable net values → r.code ≡ code.Type → IsTypeFault net values r.path → IsRefused net r
  for_place : (values : Values) (typing : Assignment) (k : ℕ) (e : NetEntity) → IsResolved net values typing → IsMisplaced (net_view net) values r.code k → IsEntity net k e → r.path ≡ e.path → IsRefused net r
  for_states : (values : Values) (typing : Assignment) (why : Cause) (k : ℕ) (e : NetEntity) → IsResolved net values typing → IsFaultIn net k why → IsEntity net k e → r.code ≡ code.States → r.path ≡ e.path → IsRefused net r
  for_plan : (values : Values) (typing : Assignment) (starts : Starts) → IsStarted net values typing starts → built.IsRefused net starts r → IsRefused net r
  for_inputs : (values : Values) (typing : Assignment) (starts : Starts) (top : Shown) → IsStarted net values typing starts → IsBuilt net starts 0 top → r.code ≡ code.Inputs → IsInputFault (net_view net) r.path → IsRefused net r

-- a fault is want of memory, or a refusal that stands
abbrev pub FaultStands : Net → DocFault → Type 0
FaultStands net Memory = Unit {0}
FaultStands net (Refused r) = IsRefused net r
