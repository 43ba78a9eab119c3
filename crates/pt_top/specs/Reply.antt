-- What is answered to a net: a run of its model, told by its report or by a summary, or the line of a refusal.
use Rattle.std.specs.Prelude.{◌≡◌, ℕ, List, length, All}
use Rattle.pt_meaning.specs.Meetings.{Meets}
use Rattle.pt_document.specs.declared.refusal.Refusal.{Refusal}
use Rattle.pt_net.specs.declared.net.Net.{Net}
use Rattle.pt_trace.specs.Report.{Meetings, Report}
use Rattle.pt_trace.specs.ReportForm.{AreMeetings}
use Rattle.pt_reply.specs.declared.form.Form.{Form}
use Rattle.pt_reply.specs.declared.status.Status.{Status}
use Rattle.pt_reply.specs.declared.status.Status.TheVariants.{Done, Document, Fault, Budget, Queue}
use Rattle.pt_reply.specs.Texts.{refusal_text, text_in}
use Rattle.pt_node.specs.Shown.{Shown}
use Rattle.pt_node.specs.View.{outline_of}
use Rattle.pt_trees.specs.declared.top.Top.{Top}
use Rattle.pt_trees.specs.declared.ended.Ended.{Ended}
use Rattle.pt_trees.specs.declared.ended.Ended.TheVariants as ended
use Rattle.pt_trees.specs.Ports.{AreNumbered, recorded_ports, told_of}
use Rattle.pt_trees.specs.Report.{end_of}
use Rattle.pt_trees.specs.Meetings.{TellMeetings}
use Rattle.pt_trees.specs.Run.{IsRun, IsAffordable}
use Rattle.pt_meetings.specs.Laws.{AreListed}
use Rattle.pt_run.specs.Ran.{IsCount}
use Rattle.pt_model.specs.Model.{IsModel}
use Rattle.pt_elaboration.specs.Refused as unmodelled

-- the status of a run by how it ended
abbrev pub status_of : Ended → Status
status_of ended.Iterations = Done
status_of ended.Inputs = Done
status_of ended.Stop = Done
status_of ended.Idle = Done
status_of ended.Deadlock = Done
status_of (ended.Fault place) = Fault
status_of (ended.Full blocked) = Queue
status_of (ended.Spent firings) = Budget

-- what a tree has recorded of the ports that the net records, in the order of the document, these meetings, and how the run ended
abbrev pub report_of : Net → List Meetings → Shown → Ended → Report
report_of net meetings top e = record { traces = told_of (recorded_ports (length net.recorded.items) top); meetings = meetings; end = end_of e }

-- A run of the model of a net within a budget, with its status and what is written of it. It is a run under the meetings that the lines of its report tell.
pub record IsReport (form : Form) (net : Net) (budget : ℕ) (status : Status) (text : List ℕ) : Type 0 where
  -- the tree before the run, with one recorded port for each number of those that the net records, and what the job asks of its top
  pub top : Shown
  pub job : Top
  pub is_model : IsModel net top job
  pub numbered : AreNumbered (length net.recorded.items) top
  -- the tree after it, which has kept the names of its nodes and of its recorded ports
  pub after : Shown
  pub named : outline_of after ≡ outline_of top
  -- the meetings that the report lists, for each node that records any in the order of the document, and those that they are in the model
  pub meetings : List Meetings
  pub listed : AreListed net after meetings
  pub formed : All AreMeetings meetings
  pub meets : Meets
  pub read : TellMeetings net (outline_of top) meetings meets
  -- how the run ended and how many firings it made, and what is told of it
  pub ended : Ended
  pub is_run : IsRun meets job budget top after ended
  pub firings : ℕ
  pub counted : IsCount top after firings
  pub told : status ≡ status_of ended
  pub printed : text ≡ text_in form firings (report_of net meetings after ended)

-- A status and its text answer a net in a form.
abbrev pub AnswersNet : Form → Net → (budget : ℕ) → Status → List ℕ → Type 0
AnswersNet f net budget Done text = IsReport f net budget Done text
AnswersNet f net budget Fault text = IsReport f net budget Fault text
AnswersNet f net budget Budget text = IsReport f net budget Budget text
AnswersNet f net budget Queue text = IsReport f net budget Queue text
AnswersNet f net budget Document text = (r : Refusal) × unmodelled.IsRefused net r × (text ≡ refusal_text r)
AnswersNet f net budget _ text = ⊥

-- no model of the net is stuck anywhere or gets into a jam, and each stays below the budget
abbrev pub IsAffordableNet : Net → (budget : ℕ) → Type 0
IsAffordableNet net budget = (top : Shown) (job : Top) → IsModel net top job → IsAffordable job budget top
