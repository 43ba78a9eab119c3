-- Composites of SR: the net of the wiring, round children of any kind.
use Rattle.std.specs.Prelude.{◌≡◌, ℕ, ◌+◌, ◌^◌, ◌<◌, List, length, Bool, true, false, None}
use Rattle.pt_meaning.specs.NodeFacts.{facts_of}
use Rattle.pt_meaning.specs.Running.{total}
use Rattle.pt_meaning.specs.Valuation.{TickPlan}
use Rattle.pt_meaning.specs.Tree as tree
use Rattle.pt_laws.specs.StartedRuns.{AllThere}
use Rattle.pt_value.specs.declared.token.Token.{Token}
use Rattle.pt_sdf_parts.specs.ByNeed.{needs_of, planned}
use Rattle.pt_library.specs.LibraryActor.{rows}
use Rattle.pt_node.specs.View.{Tree}
use Rattle.pt_trees.specs.Around.{Around}
use Rattle.pt_trees.specs.Composing.{Composing}

-- the net of an SR composite with this wiring, and how many own inputs it has
abbrev pub tick_plan : Around → TickPlan
tick_plan around = record { net = record { sources = around.sources; places = around.places }; inputs = around.inputs }

-- The wiring is one of an SR composite round these children: each child has so many places, by its need, a channel ends at each place and at each own output, and begins at an own input or at a child. There are few enough of both.
pub record IsWired (around : Around) (kids : List Tree) : Type 0 where
  pub needs : List ℕ
  pub needed : needs_of (facts_of rows) kids ≡ planned around.places needs
  pub counted : length needs ≡ total around.places
  pub channels : length around.sources ≡ total around.places + around.outputs
  pub there : AllThere around.inputs (length around.places) around.sources
  pub few : length around.sources < 2 ^ 32
  pub fewer : length around.places < 2 ^ 32

-- whether it is one
abbrev pub IsWiredIf : Around → List Tree → Bool → Type 0
IsWiredIf around kids true = IsWired around kids
IsWiredIf around kids false = IsWired around kids → ⊥

-- the core of SR: its net is that of the wiring
pub record IsSrCore (around : Around) (kids : List Tree) (core : tree.Core Token) : Type 0 where
  pub wired : IsWired around kids
  pub is : core ≡ tree.Sr (tick_plan around)

-- no composite of SR is refused
abbrev pub sr : Composing
sr = record { IsCore = IsSrCore; IsMisfit = λ around kids. IsWired around kids → ⊥; IsRefused = λ around kids code. ⊥; maximum = λ around. 0; meetings = None }
