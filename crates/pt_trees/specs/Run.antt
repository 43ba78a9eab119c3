-- What a run of the top is, by the meaning of its job.
use Rattle.std.specs.Prelude.{◌≡◌, ℕ, ◌<◌, List, Some}
use Rattle.pt_meaning.specs.Asked.{IsJamOf}
use Rattle.pt_meaning.specs.Basics.{Path, Log}
use Rattle.pt_meaning.specs.Machine.{Fault}
use Rattle.pt_meaning.specs.Job as job
use Rattle.pt_meaning.specs.Job.{Schedule, AreLegal, IsStuckPlace, meaning}
use Rattle.pt_meaning.specs.Schedule.{schedule_of}
use Rattle.pt_meaning.specs.Headline.{Ending, Defined, Faulty, Spent, Queued, IsReportOf, count_in}
use Rattle.pt_meaning.specs.Meetings.{Meets}
use Rattle.pt_value.specs.declared.token.Token.{Token}
use Rattle.pt_library.specs.declared.library_actor.LibraryActor.{LibraryActor}
use Rattle.pt_library.specs.LibraryActor.{rows}
use Rattle.pt_node.specs.Shown.{Shown}
use Rattle.pt_node.specs.View.{node_of, kept_of, outline_of, text_at, maximum_at}
use Rattle.pt_node.specs.Full.{IsToldFull}
use Rattle.pt_node.specs.Stuck.{fault_of}
use Rattle.pt_trees.specs.declared.top.Top.{Top}
use Rattle.pt_trees.specs.declared.ended.Ended.{Ended}
use Rattle.pt_trees.specs.declared.ended.Ended.TheVariants as ended
use Rattle.pt_trees.specs.Ports.{recorded_ports, ports_of, traces_of}
use Rattle.pt_trees.specs.Top.{top_of}

-- how the job fires the top
abbrev pub schedule : Top → Schedule Token LibraryActor
schedule j = schedule_of rows (top_of j)

-- the maximum capacity that the director of each composite of a tree states, by its path
abbrev pub maxima_of : Shown → Path → ℕ
maxima_of s p = maximum_at (outline_of s) p

-- how many firings a tree has counted at each path, none where it has no node
abbrev pub counts_of : Shown → Path → ℕ
counts_of s p = (kept_of s p).count

-- What the tree has recorded is the report of a run of the job from the tree as it was, with this ending, under these meetings, by the log of this very run: of each path it has as many firings as the tree has counted. Ports are those of the numbers below count, in order.
abbrev pub Reports : Meets → Top → (budget count : ℕ) → (old new : Shown) → Ending → Type 0
Reports m j budget count old new e = IsReportOf rows m (schedule j) (node_of old) (ports_of (recorded_ports count old)) budget (maxima_of old) (counts_of new) (traces_of (recorded_ports count new)) e

-- the same by the end that is told; a fault and a jam are told by the text of a path, and the full channels by their labels
abbrev pub IsRun : Meets → Top → (budget : ℕ) → (old new : Shown) → Ended → Type 0
IsRun m j budget old new ended.Iterations = (count : ℕ) → Reports m j budget count old new (Defined job.Iterations)
IsRun m j budget old new ended.Inputs = (count : ℕ) → Reports m j budget count old new (Defined job.Inputs)
IsRun m j budget old new ended.Stop = (count : ℕ) → Reports m j budget count old new (Defined job.Stop)
IsRun m j budget old new ended.Idle = (count : ℕ) → Reports m j budget count old new (Defined job.Idle)
IsRun m j budget old new ended.Deadlock = (count : ℕ) → Reports m j budget count old new (Defined job.Deadlock)
IsRun m j budget old new (ended.Fault place) = (p : Path) × (text_at (outline_of old) p ≡ Some place.path) × ((count : ℕ) → Reports m j budget count old new (Faulty (fault_of p place)))
IsRun m j budget old new (ended.Full blocked) = (p : Path) × (full : List (ℕ × ℕ)) × IsToldFull (outline_of old) p full blocked × ((count : ℕ) → Reports m j budget count old new (Queued p full))
IsRun m j budget old new (ended.Spent firings) = (count : ℕ) → Reports m j budget count old new (Spent firings)

-- a run ended as the definitions say
abbrev pub IsDefined : Ended → Type 0
IsDefined ended.Iterations = Unit {0}
IsDefined ended.Inputs = Unit {0}
IsDefined ended.Stop = Unit {0}
IsDefined ended.Idle = Unit {0}
IsDefined ended.Deadlock = Unit {0}
IsDefined (ended.Fault place) = ⊥
IsDefined (ended.Full blocked) = ⊥
IsDefined (ended.Spent firings) = ⊥

-- Under every legal list of meetings the meaning has no stuck place and no jam, by the maximum capacities of the tree, and stays below the budget at every fuel.
pub record IsAffordable (j : Top) (budget : ℕ) (top : Shown) : Type 0 where
  pub never_stuck : (m : Meets) → AreLegal rows m (schedule j) (node_of top) → (f : Fault) → IsStuckPlace rows m (schedule j) (node_of top) f → ⊥
  pub never_jammed : (m : Meets) → AreLegal rows m (schedule j) (node_of top) → (l : Log Token) (p : Path) (full : List (ℕ × ℕ)) → IsJamOf rows m (schedule j) (node_of top) (maxima_of top) l p full → ⊥
  pub within_budget : (m : Meets) → AreLegal rows m (schedule j) (node_of top) → (k : ℕ) → count_in (meaning k rows m (schedule j) (node_of top)) (node_of top) < budget
