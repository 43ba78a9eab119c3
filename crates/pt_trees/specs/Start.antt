-- A tree before a run: at its start, with nothing recorded.
use Rattle.std.specs.Prelude.{◌≡◌, List, [], ◌∷◌}
use Rattle.pt_meaning.specs.Start.{IsAtStart}
use Rattle.pt_laws.specs.Heights.{IsFitting}
use Rattle.pt_laws.specs.StartedRuns.{ArePlans}
use Rattle.pt_node.specs.declared.body.Body.{Body}
use Rattle.pt_node.specs.declared.body.Body.TheVariants.{Actor, Composite}
use Rattle.pt_library.specs.LibraryActor.{rows}
use Rattle.pt_node.specs.Shown.{Shown, AllShown, Branch, none, more}
use Rattle.pt_node.specs.View.{node_of}
use Rattle.pt_node.specs.Live.{IsLive}
use Rattle.pt_past.specs.Recorded.{RecordedPort}
use Rattle.pt_trees.specs.declared.top.Top.{Top}
use Rattle.pt_trees.specs.Fresh.{IsBlank}
use Rattle.pt_trees.specs.Top.{IsJobFor}

-- a library actor has no children
abbrev pub IsBranched : Body → AllShown → Type 0
IsBranched (Actor held) ks = ks ≡ none
IsBranched (Composite director) ks = Unit {0}

-- so it is in all of the tree
abbrev mutual
  pub HasLeaves : Shown → Type 0
  HasLeaves (Branch f ks) = IsBranched f.body ks × AllHaveLeaves ks

  pub AllHaveLeaves : AllShown → Type 0
  AllHaveLeaves none = Unit {0}
  AllHaveLeaves (more s ss) = HasLeaves s × AllHaveLeaves ss

-- nothing is recorded on any port of the tree
abbrev pub AreUntold : List RecordedPort → Type 0
AreUntold [] = Unit {0}
AreUntold (r ∷ rs) = (r.trace ≡ []) × AreUntold rs

-- nor any meeting of a node of it
abbrev mutual
  pub IsUnrecorded : Shown → Type 0
  IsUnrecorded (Branch f ks) = AreUntold f.records × IsBlank f.meetings × AllUnrecorded ks

  pub AllUnrecorded : AllShown → Type 0
  AllUnrecorded none = Unit {0}
  AllUnrecorded (more s ss) = IsUnrecorded s × AllUnrecorded ss

-- A top that may be run by this job: it is live and at its start, its plans fit, nothing is recorded, and the job is one for it.
pub record IsRunnable (job : Top) (top : Shown) : Type 0 where
  pub live : IsLive top
  pub start : IsAtStart rows (node_of top)
  pub fitting : IsFitting (node_of top)
  pub planned : ArePlans (node_of top)
  pub leaves : HasLeaves top
  pub unrecorded : IsUnrecorded top
  pub fits : IsJobFor job (node_of top)
