-- What the job asks of the top next, among the definitions.
use Rattle.std.specs.Prelude.{◌≡◌, ℕ, [], Option, Some}
use Rattle.pt_meaning.specs.Basics.{Tag}
use Rattle.pt_meaning.specs.Job as job
use Rattle.pt_meaning.specs.Job.{Schedule}
use Rattle.pt_meaning.specs.Schedule.{first_event, due_after, lesser, de_turn_at}
use Rattle.pt_value.specs.declared.token.Token.{Token}
use Rattle.pt_firing.specs.declared.answer.Place.{Place}
use Rattle.pt_firing.specs.declared.fault.RunFault.TheVariants.{TimeLimit}
use Rattle.pt_agenda.specs.Events.{events_of}
use Rattle.pt_library.specs.declared.library_actor.LibraryActor.{LibraryActor}
use Rattle.pt_node.specs.Shown.{Shown}
use Rattle.pt_node.specs.View.{Tree, outline_of, text_at}
use Rattle.pt_trees.specs.declared.top.DeJob.{DeJob}
use Rattle.pt_trees.specs.declared.ended.Ended.{Ended}
use Rattle.pt_trees.specs.declared.ended.Ended.TheVariants as ended
use Rattle.pt_next.specs.declared.turn.End.{End}
use Rattle.pt_next.specs.declared.turn.End.TheVariants.{Iterations, Inputs, Stop, Idle, Deadlock}
use Rattle.pt_next.specs.declared.turn.Turn.{Turn}
use Rattle.pt_next.specs.declared.turn.Turn.TheVariants.{Fire, Ends, Limit}

abbrev pub end_of : End → job.End
end_of Iterations = job.Iterations
end_of Inputs = job.Inputs
end_of Stop = job.Stop
end_of Idle = job.Idle
end_of Deadlock = job.Deadlock

abbrev pub turn_of : Turn → job.Turn Token
turn_of (Fire firing) = job.Fire firing.tag firing.inputs.items
turn_of (Ends e) = job.Ends (end_of e)
turn_of Limit = job.Limit

-- After so many firings, the last of them at this tag, this turn comes next by the schedule at a top that stands so.
abbrev pub IsNext : Schedule Token LibraryActor → ℕ → (last : Option Tag) → Tree → Turn → Type 0
IsNext plan fired last top t = plan fired last top ≡ turn_of t

-- the same whatever the last tag and however the top stands
abbrev pub IsAlwaysNext : Schedule Token LibraryActor → ℕ → Turn → Type 0
IsAlwaysNext plan fired t = (last : Option Tag) (top : Tree) → IsNext plan fired last top t

-- this turn comes next at a DE top with this wake
abbrev pub IsDue : DeJob → (last wake : Option Tag) → Turn → Type 0
IsDue j last wake t = de_turn_at j.stop (events_of j.inputs.items) (lesser (first_event last (events_of j.inputs.items)) (due_after wake last)) ≡ turn_of t

-- the place is the top's at its firing of that number, of which the tag is past the limit
pub record IsPastLimit (top : Shown) (fired : ℕ) (place : Place) : Type 0 where
  pub path : text_at (outline_of top) [] ≡ Some place.path
  pub firing : place.firing ≡ fired
  pub kind : place.kind ≡ TimeLimit

-- how an end is told
abbrev pub ended_by : End → Ended
ended_by Iterations = ended.Iterations
ended_by Inputs = ended.Inputs
ended_by Stop = ended.Stop
ended_by Idle = ended.Idle
ended_by Deadlock = ended.Deadlock
