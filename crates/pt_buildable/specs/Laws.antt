-- Laws of the net of a document: what the builder of trees needs of it is there.
use Rattle.std.specs.Prelude.{◌≡◌, ◌⊎◌, ℕ, ◌+◌, ◌≤◌, List, length, true, Some}
use Rattle.std.specs.List.{All}
use Rattle.pt_meaning.specs.Running.{total}
use Rattle.pt_laws.specs.StartedRuns.{AllThere}
use Rattle.pt_document.specs.declared.code.Code.{Code}
use Rattle.pt_document.specs.declared.classes.Director.TheVariants.{Sdf, Sr}
use Rattle.pt_net.specs.declared.net.Net.{Net}
use Rattle.pt_net.specs.declared.net.NetDirector.{NetDirector}
use Rattle.pt_net.specs.declared.net.NetEntity.{NetEntity}
use Rattle.pt_net.specs.Inside.{children_of}
use Rattle.pt_scopes.specs.declared.values.Values.{Values}
use Rattle.pt_scopes.specs.Scopes.{net_view, is_composite_class}
use Rattle.pt_scopes.specs.Valued.{IsValued}
use Rattle.pt_typing.specs.Least.{Assignment}
use Rattle.pt_start.specs.Misplaced.{IsMisplaced}
use Rattle.pt_job.specs.Iterations.{iterations}
use Rattle.pt_node.specs.View.{Tree}
use Rattle.pt_trees.specs.declared.directing.Directing.TheVariants.{By}
use Rattle.pt_trees.specs.Around.{Around}
use Rattle.pt_trees.specs.De.{BeginsAtOutput}
use Rattle.pt_trees.specs.Rates.{HasUnsteady}
use Rattle.pt_trees.specs.Directors.{IsDirectedBy}
use Rattle.pt_trees.specs.Trees.{IsEntity, Starts, StartsAs, AreTrees, around_in}
use Rattle.pt_trees.specs.Built.{IsNested}
use Rattle.pt_order.specs.Laws.{IsNetOfDocument, IsInOrder}
use Rattle.pt_typed.specs.RowLaw.{AreStartedIn}
use Rattle.pt_buildable.specs.Composites.{HasDirectedComposites, HasOpaqueRefinements, HasUnstatedProcesses}

-- its top is there
abbrev pub TopsAreThere : Type 0
TopsAreThere = (net : Net) → IsNetOfDocument net → (e : NetEntity) × IsEntity net 0 e

-- an entity stands below at most fifteen composites
abbrev pub EntitiesAreShallow : Type 0
EntitiesAreShallow = (net : Net) (k depth : ℕ) → IsNetOfDocument net → IsNested net k depth → depth ≤ 15

-- only composites have directors
abbrev pub DirectorsAreOfComposites : Type 0
DirectorsAreOfComposites = (net : Net) (k : ℕ) (e : NetEntity) (d : NetDirector) → IsNetOfDocument net → IsEntity net k e → e.director ≡ Some d → is_composite_class e.class ≡ true

-- a top with the director SDF or SR has a number of iterations
abbrev pub TopsHaveIterations : Type 0
TopsHaveIterations = (net : Net) (values : Values) (e : NetEntity) → IsNetOfDocument net → IsValued (net_view net) values → IsEntity net 0 e → IsDirectedBy e (By Sdf) ⊎ IsDirectedBy e (By Sr) → (n : ℕ) × (iterations (net_view net) values ≡ Some n)

-- where the top has a director, each composite has one or is a Modal entity
abbrev pub CompositesAreDirected : Type 0
CompositesAreDirected = (net : Net) (e : NetEntity) (d : NetDirector) → IsNetOfDocument net → IsEntity net 0 e → e.director ≡ Some d → HasDirectedComposites net

-- and where nothing of a library stands in a Modal entity the net is in order, whether or not a tree can be built of it
abbrev pub DirectedNetsAreInOrder : Type 0
DirectedNetsAreInOrder = (net : Net) (e : NetEntity) (d : NetDirector) → IsNetOfDocument net → HasOpaqueRefinements net → IsEntity net 0 e → e.director ≡ Some d → IsInOrder net

-- Each channel of a composite begins at an own input or at a child, and there is one for each place of a child and for each own output. There are few of them, and few children.
pub record HasChannels (around : Around) : Type 0 where
  pub counted : length around.sources ≡ total around.places + around.outputs
  pub there : AllThere around.inputs (length around.places) around.sources
  pub few : length around.sources ≤ 100000
  pub fewer : length around.places ≤ 10000

-- so it is of each composite of such a net
abbrev pub CompositesHaveChannels : Type 0
CompositesHaveChannels =
    (net : Net) (starts : Starts) (k : ℕ) (e : NetEntity) (d : NetDirector) → IsNetOfDocument net → IsInOrder net → IsEntity net k e → e.director ≡ Some d → HasChannels (around_in net starts k e)

-- Under SDF each child needs and gives the same at each firing, where the texts of a net come to these values, each entity may stand where it stands, and its actors start so; unless it isn't known of some composite of processes what it states.
abbrev pub ChildrenAreSteady : Type 0
ChildrenAreSteady =
    (net : Net) (values : Values) (typing : Assignment) (starts : Starts) (k : ℕ) (e : NetEntity) (kids : List Tree) → IsValued (net_view net) values → ((cause : Code) (n : ℕ) → IsMisplaced (net_view net) values cause n → ⊥) → AreStartedIn net values typing starts → IsEntity net k e → IsDirectedBy e (By Sdf) →
    AreTrees net starts (children_of net.entities.items k) kids → HasUnsteady (around_in net starts k e) kids → HasUnstatedProcesses net starts

-- Where a channel of a composite begins at a child that answers early, it begins at an output that this child has.
abbrev pub ChannelsBeginAtOutputs : Type 0
ChannelsBeginAtOutputs =
    (net : Net) (values : Values) (typing : Assignment) (starts : Starts) (k : ℕ) (e : NetEntity) (kids : List Tree) → IsInOrder net → AreStartedIn net values typing starts → IsEntity net k e → AreTrees net starts (children_of net.entities.items k) kids → All (BeginsAtOutput kids) (around_in net starts k e).sources
