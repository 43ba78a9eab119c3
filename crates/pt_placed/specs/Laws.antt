-- Laws of the needs of a net: what each of its entities needs at its start has as many counts as it has places.
use Rattle.std.specs.Prelude.{◌≡◌, ℕ, List, count_by, true, Some}
use Rattle.pt_meaning.specs.Machine.{Over}
use Rattle.pt_meaning.specs.NodeFacts.{need_of}
use Rattle.pt_meaning.specs.Tree as tree
use Rattle.pt_document.specs.declared.code.Code.{Code}
use Rattle.pt_document.specs.declared.classes.Director.{Director}
use Rattle.pt_document.specs.declared.classes.Director.TheVariants.{Rendezvous}
use Rattle.pt_net.specs.declared.net.Net.{Net}
use Rattle.pt_net.specs.declared.net.NetEntity.{NetEntity}
use Rattle.pt_net.specs.Inside.{children_of, place_count, is_input}
use Rattle.pt_scopes.specs.declared.values.Values.{Values}
use Rattle.pt_scopes.specs.Scopes.{net_view}
use Rattle.pt_typing.specs.Least.{Assignment}
use Rattle.pt_start.specs.Misplaced.{IsMisplaced}
use Rattle.pt_flow_base.specs.declared.params.Params.{Params}
use Rattle.pt_library.specs.declared.library_actor.LibraryActor.{LibraryActor}
use Rattle.pt_library.specs.LibraryActor.{rows, need, start}
use Rattle.pt_node.specs.View.{Tree}
use Rattle.pt_trees.specs.declared.directing.Directing.TheVariants.{By}
use Rattle.pt_trees.specs.Directors.{IsDirectedBy}
use Rattle.pt_trees.specs.Modal.{is_opaque}
use Rattle.pt_trees.specs.Rendezvous.{IsPlaced, IsMet}
use Rattle.pt_trees.specs.Sr.{IsWired}
use Rattle.pt_trees.specs.Trees.{IsEntity, Starts, StartsAs, IsTree, AreTrees, around_in}
use Rattle.pt_order.specs.Laws.{IsInOrder}
use Rattle.pt_typed.specs.RowLaw.{AreStartedIn}
use Rattle.pt_buildable.specs.Laws.{HasChannels}
use Rattle.pt_placed.specs.Counted.{IsCounted}

-- each entity of the net may stand where it stands
abbrev pub IsAllowed : Net → Values → Type 0
IsAllowed net values = (cause : Code) (k : ℕ) → IsMisplaced (net_view net) values cause k → ⊥

-- the entity stands in a composite of that number with this director
pub record IsUnder (net : Net) (e : NetEntity) (director : Director) : Type 0 where
  pub number : ℕ
  pub parent : e.parent ≡ Some number
  pub owner : NetEntity
  pub at : IsEntity net number owner
  pub by : IsDirectedBy owner (By director)

-- ---- actors

-- An actor of a net in order needs at its start a count for each of its places, or one token from any. None is over.
abbrev pub ActorsArePlaced : Type 0
ActorsArePlaced = (net : Net) (values : Values) (typing : Assignment) (starts : Starts) (k : ℕ) (a : LibraryActor) → IsInOrder net → AreStartedIn net values typing starts → StartsAs starts k a → IsPlaced (place_count net.channels.items k) (need_of rows (tree.actor a))

-- Whatever its net, none is over that parameters start.
abbrev pub ActorsAreNotOver : Type 0
ActorsAreNotOver = (params : Params) (a : LibraryActor) → start params ≡ Some a → need a ≡ Over → ⊥

-- Where each entity may stand where it stands, one in a composite with a director other than Rendezvous needs a count for each.
abbrev pub ActorsAreCounted : Type 0
ActorsAreCounted =
    (net : Net) (values : Values) (typing : Assignment) (starts : Starts) (k : ℕ) (e : NetEntity) (a : LibraryActor) (director : Director) → IsAllowed net values → IsInOrder net → AreStartedIn net values typing starts → IsEntity net k e → StartsAs starts k a → IsUnder net e director → (director ≡ Rendezvous → ⊥) →
    IsCounted (place_count net.channels.items k) (need_of rows (tree.actor a))

-- ---- composites

-- A composite needs a count for each of its own inputs, whatever its net.
abbrev pub CompositesAreCounted : Type 0
CompositesAreCounted = (net : Net) (starts : Starts) (k : ℕ) (e : NetEntity) (t : Tree) → IsEntity net k e → IsTree net starts k t → is_opaque t ≡ true → IsCounted (count_by is_input e.ports.items) (need_of rows t)

-- ---- trees

-- the tree of an entity in a composite with a director: of a net in order it needs a count for each of its places, or one token from any
abbrev pub TreesArePlaced : Type 0
TreesArePlaced = (net : Net) (values : Values) (typing : Assignment) (starts : Starts) (k : ℕ) (e : NetEntity) (t : Tree) (director : Director) → IsInOrder net → AreStartedIn net values typing starts → IsEntity net k e → IsUnder net e director → IsTree net starts k t → IsPlaced (place_count net.channels.items k) (need_of rows t)

-- where each entity may stand where it stands, and the director isn't Rendezvous, a count for each
abbrev pub TreesAreCounted : Type 0
TreesAreCounted =
    (net : Net) (values : Values) (typing : Assignment) (starts : Starts) (k : ℕ) (e : NetEntity) (t : Tree) (director : Director) → IsAllowed net values → IsInOrder net → AreStartedIn net values typing starts → IsEntity net k e → IsUnder net e director → (director ≡ Rendezvous → ⊥) → IsTree net starts k t →
    IsCounted (place_count net.channels.items k) (need_of rows t)

-- ---- composites round their children

-- So a composite with a director other than Rendezvous, which has its channels, is wired round its children as SR, DE and PN ask of it. Of one of SDF this has the needs of its children.
abbrev pub CompositesAreWired : Type 0
CompositesAreWired =
    (net : Net) (values : Values) (typing : Assignment) (starts : Starts) (k : ℕ) (e : NetEntity) (director : Director) (kids : List Tree) → IsAllowed net values → IsInOrder net → AreStartedIn net values typing starts → IsEntity net k e → IsDirectedBy e (By director) → (director ≡ Rendezvous → ⊥) →
    AreTrees net starts (children_of net.entities.items k) kids → HasChannels (around_in net starts k e) → IsWired (around_in net starts k e) kids

-- and one of any director has what Rendezvous asks of it
abbrev pub CompositesAreMet : Type 0
CompositesAreMet =
    (net : Net) (values : Values) (typing : Assignment) (starts : Starts) (k : ℕ) (e : NetEntity) (director : Director) (kids : List Tree) → IsInOrder net → AreStartedIn net values typing starts → IsEntity net k e → IsDirectedBy e (By director) → AreTrees net starts (children_of net.entities.items k) kids → HasChannels (around_in net starts k e) → IsMet (around_in net starts k e) kids
