-- What a DE top without inputs is asked next, by its wake alone.
use Rattle.std.proofs.Common.{◌≡◌, ℕ, List, [], Option, None, ap, sym, ◌∙◌}
use Rattle.pt_meaning.specs.Basics.{Tag}
use Rattle.pt_meaning.specs.Job as job
use Rattle.pt_meaning.specs.NodeFacts.{next_of}
use Rattle.pt_meaning.specs.Schedule.{first_event, due_after, lesser, de_turn_at}
use Rattle.pt_value.specs.declared.token.Token.{Token}
use Rattle.pt_library.specs.LibraryActor.{rows}
use Rattle.pt_node.specs.View.{Tree}
use Rattle.pt_agenda.specs.declared.turn.Turn.{Turn}
use Rattle.pt_agenda.specs.declared.turn.Turn.TheVariants.{Fire}
use Rattle.pt_agenda.specs.Events.{Event, Input, events_of}
use Rattle.pt_agenda.specs.Turn.{turn_of}
use Rattle.pt_trees.specs.declared.top.DeJob.{DeJob}
use Rattle.pt_trees.specs.declared.top.Top.TheVariants.{De}
use Rattle.pt_trees.specs.Run.{schedule}

-- what is asked at this wake where there are no events
abbrev pub IsTurnAt : Option ℕ → (wake last : Option Tag) → Turn → Type 0
IsTurnAt stop wake last t = (inputs : List (List Event)) → turn_of inputs t ≡ de_turn_at stop inputs (lesser None (due_after wake last))

-- so it is with the job's own inputs, of which there are none
abbrev de-turn : DeJob → (wake last : Option Tag) → List Input → job.Turn Token
de-turn j wake last inputs = de_turn_at j.stop (events_of inputs) (lesser (first_event last (events_of inputs)) (due_after wake last))

module _ (j : DeJob) (alone : j.inputs.items ≡ []) (n : ℕ) (last : Option Tag) (top : Tree) (wake : Option Tag) (is : wake ≡ next_of rows top) (t : Turn) (turn : IsTurnAt j.stop wake last t) where
  abbrev none-due : List (List Event)
  none-due = []

  pub reaction-turn : schedule (De j) n last top ≡ turn_of none-due t
  reaction-turn =
      let here : de-turn j (next_of rows top) last j.inputs.items ≡ de-turn j (next_of rows top) last [] = ap (λ inputs. de-turn j (next_of rows top) last inputs) alone in
      here ∙ ap (λ w. de-turn j w last []) (sym is) ∙ sym (turn none-due)

  -- a firing takes nothing
  pub reaction-fires : (tag : Tag) → t ≡ Fire tag → schedule (De j) n last top ≡ job.Fire tag []
  reaction-fires tag fires = reaction-turn ∙ ap (λ u. turn_of none-due u) fires
