-- The tree of a net among the definitions, and what the nodes of the code are: each entity of the net at its start.
use Rattle.std.specs.Prelude.{◌≡◌, ℕ, List, [], ◌∷◌, Option, Some, None, map, get_or, count_by, slice_get, codes, true, false, bytes_eq}
use Rattle.pt_meaning.specs.Tree as tree
use Rattle.pt_value.specs.declared.token.Token.{Token}
use Rattle.pt_net.specs.declared.net.Net.{Net}
use Rattle.pt_net.specs.declared.net.NetDirector.{NetDirector}
use Rattle.pt_net.specs.declared.net.NetEntity.{NetEntity}
use Rattle.pt_net.specs.Inside.{children_of, place_count, source_of, channels_in, is_input, is_output}
use Rattle.pt_chart.specs.Machine.{Machine}
use Rattle.pt_library.specs.declared.library_actor.LibraryActor.{LibraryActor}
use Rattle.pt_flow_base.specs.declared.params.Params.{Params}
use Rattle.pt_library.specs.LibraryActor.{start}
use Rattle.pt_node.specs.View.{Tree}
use Rattle.pt_stated.specs.declared.stated.Stated.{Stated}
use Rattle.pt_trees.specs.declared.directing.Directing.{Directing}
use Rattle.pt_trees.specs.Around.{Around, declared_as}
use Rattle.pt_trees.specs.Directors.{IsDirectedBy, composing}

-- ---- entities

-- the entity of that number is this one
abbrev pub IsEntity : Net → ℕ → NetEntity → Type 0
IsEntity net k e = slice_get net.entities.items k ≡ Some e

-- it is a library actor: it has no director, and is no Modal entity
pub record IsUndirected (e : NetEntity) : Type 0 where
  pub unnamed : e.director ≡ None
  pub plain : bytes_eq e.class (codes "Modal") ≡ false

-- it is a Modal entity
pub record IsModalEntity (e : NetEntity) : Type 0 where
  pub modal : bytes_eq e.class (codes "Modal") ≡ true
  pub unnamed : e.director ≡ None

-- it is a composite with a director, whichever
pub record IsDirected (e : NetEntity) : Type 0 where
  pub composite : bytes_eq e.class (codes "Composite") ≡ true
  pub director : NetDirector
  pub has : e.director ≡ Some director

-- ---- what a net starts with

-- Which actor each entity starts as, what each states of its ports and of its channels, where its children are processes, and the machine of each, where it is a Modal entity.
pub record Starts : Type 0 where
  pub actors : List (Option LibraryActor)
  pub stated : List (Option Stated)
  pub machines : List (Option Machine)

-- the entity of that number starts as this actor
abbrev pub StartsAs : Starts → ℕ → LibraryActor → Type 0
StartsAs starts k a = slice_get starts.actors k ≡ Some (Some a)

-- each of these actors is one that parameters start
abbrev pub AreStarted : Starts → Type 0
AreStarted starts = (k : ℕ) (a : LibraryActor) → StartsAs starts k a → (params : Params) × (start params ≡ Some a)

-- what the entity of that number states
abbrev pub stated_at : Starts → ℕ → Option Stated
stated_at starts k = get_or starts.stated k None

-- the machine of it, if it is a Modal entity
abbrev pub machine_at : Starts → ℕ → Option Machine
machine_at starts k = get_or starts.machines k None

-- how many tokens a firing of it is to give on each of its outputs: where its children are processes as it states, and one where it is a Modal entity
abbrev pub declared_by : Starts → ℕ → Option (List ℕ)
declared_by starts k = declared_as (stated_at starts k) (machine_at starts k)

-- the wiring of a composite of the net
abbrev pub around_in : Net → Starts → ℕ → NetEntity → Around
around_in net starts k e = record {
  sources = map (source_of net.entities.items) (channels_in net.channels.items k);
  places = map (place_count net.channels.items) (children_of net.entities.items k);
  inputs = count_by is_input e.ports.items;
  outputs = count_by is_output e.ports.items;
  stated = stated_at starts k;
  declared = map (declared_by starts) (children_of net.entities.items k);
  machine = machine_at starts k;
}

-- ---- the tree

-- This is the tree of the entity of that number, at its start. A library actor is as it starts. A composite is round the trees of its children in the order
-- of the document, with a core of its director.
mutual
  pub data IsTree (net : Net) (starts : Starts) : ℕ → Tree → Type 0 where
    of_actor : (k : ℕ) (e : NetEntity) (a : LibraryActor) → IsEntity net k e → IsUndirected e → StartsAs starts k a → IsTree net starts k (tree.actor a)
    of_composite : (k : ℕ) (e : NetEntity) (director : Directing) (kids : List Tree) (core : tree.Core Token) → IsEntity net k e → IsDirectedBy e director → AreTrees net starts (children_of net.entities.items k) kids →
        (composing director).IsCore (around_in net starts k e) kids core → IsTree net starts k (tree.composite core kids)

  pub data AreTrees (net : Net) (starts : Starts) : List ℕ → List Tree → Type 0 where
    no_trees : AreTrees net starts [] []
    more_trees : (k : ℕ) (ks : List ℕ) (t : Tree) (ts : List Tree) → IsTree net starts k t → AreTrees net starts ks ts → AreTrees net starts (k ∷ ks) (t ∷ ts)
