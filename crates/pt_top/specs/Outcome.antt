-- What a run of the program tells, and why.
use Rattle.std.specs.Prelude.{◌≡◌, ◌⊎◌, ℕ, ◌+◌, ◌≤◌, List, [], length, Option, Some, codes}
use Rattle.pt_words.specs.declared.line.Line.{Line}
use Rattle.pt_words.specs.declared.line.Task.{Task}
use Rattle.pt_words.specs.declared.line.Task.TheVariants.{Run, Check, Generate, Demonstrate}
use Rattle.pt_words.specs.Parts.{IsLineFor}
use Rattle.pt_document.specs.declared.refusal.Refusal.{Refusal}
use Rattle.pt_document.specs.declared.code.Code.{Code}
use Rattle.pt_document.specs.Document.{JobTree}
use Rattle.pt_moml.specs.Reading.{IsJobOf}
use Rattle.pt_moml.specs.Stands as reading
use Rattle.pt_reply.specs.declared.form.Form.{Form}
use Rattle.pt_reply.specs.declared.form.Form.TheVariants as form
use Rattle.pt_reply.specs.declared.status.Status.{Status}
use Rattle.pt_reply.specs.declared.status.Status.TheVariants as status
use Rattle.pt_reply.specs.declared.status.Status.TheVariants.{Done, Document, Fault, Budget, Read, Memory, Queue, Length}
use Rattle.pt_reply.specs.Texts.{line, refusal_text}
use Rattle.pt_generated.specs.Text.{generated_text}
use Rattle.pt_net.specs.declared.net.Net.{Net}
use Rattle.pt_net.specs.Net.{IsNetOf}
use Rattle.pt_net.specs.Stands as linking
use Rattle.pt_elaboration.specs.Refused as unmodelled
use Rattle.pt_model.specs.Typed.{KeepsTypes}
use Rattle.pt_top.specs.Reply.{IsReport, IsAffordableNet}
use Rattle.pt_top.specs.Check.{IsCheck}

-- ---- documents

-- no refusal stands in how the links of a job join its ports
abbrev pub IsWellLinked : JobTree → Type 0
IsWellLinked job = (code : Code) (path : List ℕ) → linking.Stands code path job → ⊥

-- No refusal stands in the text of a document, nor in its links. These are its job and its net.
pub record HasNet (bytes : List ℕ) (job : JobTree) (net : Net) : Type 0 where
  pub is_job : IsJobOf bytes job
  pub is_net : IsNetOf job net
  pub well_formed : reading.IsClean bytes
  pub well_linked : IsWellLinked job

-- A document is refused for a cause that stands in its text, in how its links join its ports, or in its net.
pub data IsRefused (bytes : List ℕ) (r : Refusal) : Type 0 where
  in_text : reading.Stands r.code r.path bytes → IsRefused bytes r
  in_links : (job : JobTree) → IsJobOf bytes job → reading.IsClean bytes → linking.Stands r.code r.path job → IsRefused bytes r
  in_net : (job : JobTree) (net : Net) → HasNet bytes job net → unmodelled.IsRefused net r → IsRefused bytes r

-- A run of a document within a budget, told in a form. In the meaning of its model no finished firing took or gave a token of another type than its port's.
pub record IsReportOf (form : Form) (bytes : List ℕ) (budget : ℕ) (status : Status) (text : List ℕ) : Type 0 where
  pub job : JobTree
  pub net : Net
  pub accepted : HasNet bytes job net
  pub report : IsReport form net budget status text
  pub typed : KeepsTypes net report.top report.job report.is_model

-- A status and its text answer a job in a form.
abbrev pub AnswersJob : Form → JobTree → (budget : ℕ) → Status → List ℕ → Type 0
AnswersJob f job budget Done text = (net : Net) × IsNetOf job net × IsWellLinked job × IsReport f net budget Done text
AnswersJob f job budget Fault text = (net : Net) × IsNetOf job net × IsWellLinked job × IsReport f net budget Fault text
AnswersJob f job budget Budget text = (net : Net) × IsNetOf job net × IsWellLinked job × IsReport f net budget Budget text
AnswersJob f job budget Queue text = (net : Net) × IsNetOf job net × IsWellLinked job × IsReport f net budget Queue text
AnswersJob f job budget Document text = (r : Refusal) × (linking.Stands r.code r.path job ⊎ ((net : Net) × IsNetOf job net × IsWellLinked job × unmodelled.IsRefused net r)) × (text ≡ refusal_text r)
AnswersJob f job budget _ text = ⊥

-- A status and its text answer a document in a form.
abbrev pub AnswersAs : Form → List ℕ → (budget : ℕ) → Status → List ℕ → Type 0
AnswersAs f bytes budget Done text = IsReportOf f bytes budget Done text
AnswersAs f bytes budget Fault text = IsReportOf f bytes budget Fault text
AnswersAs f bytes budget Budget text = IsReportOf f bytes budget Budget text
AnswersAs f bytes budget Queue text = IsReportOf f bytes budget Queue text
AnswersAs f bytes budget Document text = (r : Refusal) × IsRefused bytes r × (text ≡ refusal_text r)
AnswersAs f bytes budget Memory text = text ≡ line (codes "refused memory")
AnswersAs f bytes budget _ text = ⊥

-- no refusal of the document stands
abbrev pub IsAccepted : List ℕ → Type 0
IsAccepted bytes = (r : Refusal) → IsRefused bytes r → ⊥

-- No refusal of the document stands, and no model of its net is stuck anywhere, gets into a jam or comes to the budget.
pub record IsFaultless (bytes : List ℕ) (budget : ℕ) : Type 0 where
  pub accepted : IsAccepted bytes
  pub affordable : (job : JobTree) (net : Net) → HasNet bytes job net → IsAffordableNet net budget

-- A check of a document.
pub record IsCheckOf (bytes : List ℕ) (text : List ℕ) : Type 0 where
  pub job : JobTree
  pub net : Net
  pub accepted : HasNet bytes job net
  pub check : IsCheck net text

-- A status and its text answer a document that is checked.
abbrev pub Checks : List ℕ → Status → List ℕ → Type 0
Checks bytes Done text = IsCheckOf bytes text
Checks bytes Document text = (r : Refusal) × IsRefused bytes r × (text ≡ refusal_text r)
Checks bytes Memory text = text ≡ line (codes "refused memory")
Checks bytes _ text = ⊥

-- the task was done to its end, or memory ran out
abbrev pub IsReported : Status → Type 0
IsReported told = (told ≡ Done) ⊎ (told ≡ Memory)

-- ---- runs of the program

abbrev pub limit : ℕ
limit = 16777216

-- A status and its text are due for a task that reads a document, where these bytes were taken from the source, and this is what answers them.
abbrev pub IsDueBy : (Answers : Status → List ℕ → Type 0) → List ℕ → (rose ended : Type 0) → Status → List ℕ → Type 0
IsDueBy Answers bytes rose ended Read text = rose × (length bytes ≤ limit) × (text ≡ line (codes "refused read"))
IsDueBy Answers bytes rose ended Length text = (length bytes ≡ limit + 1) × (text ≡ line (codes "refused length"))
IsDueBy Answers bytes rose ended Memory text = (length bytes ≤ limit) × (text ≡ line (codes "refused memory"))
IsDueBy Answers bytes rose ended Done text = (length bytes ≤ limit) × ended × Answers Done text
IsDueBy Answers bytes rose ended Fault text = (length bytes ≤ limit) × ended × Answers Fault text
IsDueBy Answers bytes rose ended Budget text = (length bytes ≤ limit) × ended × Answers Budget text
IsDueBy Answers bytes rose ended Queue text = (length bytes ≤ limit) × ended × Answers Queue text
IsDueBy Answers bytes rose ended Document text = (length bytes ≤ limit) × ended × Answers Document text
IsDueBy Answers bytes rose ended _ text = ⊥

-- They are due for a run within a budget.
abbrev pub IsDueFor : (budget : ℕ) → List ℕ → (rose ended : Type 0) → Status → List ℕ → Type 0
IsDueFor budget bytes rose ended s text = IsDueBy (AnswersAs form.Report bytes budget) bytes rose ended s text

-- the generated document is written, or memory ran out
abbrev pub IsGenerated : (stages : ℕ) → Status → List ℕ → Type 0
IsGenerated stages Done text = text ≡ generated_text stages
IsGenerated stages Memory text = text ≡ line (codes "refused memory")
IsGenerated stages _ text = ⊥

-- the words are refused
abbrev pub AreRefused : Status → List ℕ → Type 0
AreRefused s text = (s ≡ status.Words) × (text ≡ line (codes "refused words"))

-- the words aren't read, for want of memory
abbrev pub AreUnread : Status → List ℕ → Type 0
AreUnread s text = (s ≡ Memory) × (text ≡ line (codes "refused memory"))

-- The same for any task. A run of the generated document is told by a summary.
pub data IsDueForTask (task : Task) (budget : ℕ) (bytes : List ℕ) (rose ended : Type 0) (s : Status) (text : List ℕ) : Type 0 where
  for_run : task ≡ Run → IsDueFor budget bytes rose ended s text → IsDueForTask task budget bytes rose ended s text
  for_check : task ≡ Check → IsDueBy (Checks bytes) bytes rose ended s text → IsDueForTask task budget bytes rose ended s text
  for_generation : (stages : ℕ) → task ≡ Generate stages → bytes ≡ [] → IsGenerated stages s text → IsDueForTask task budget bytes rose ended s text
  for_demonstration : (stages : ℕ) → task ≡ Demonstrate stages → bytes ≡ [] → AnswersAs form.Summary (generated_text stages) budget s text → IsDueForTask task budget bytes rose ended s text

-- The same for any words: those that are no line are refused. Where they are refused, or memory runs out before they are read, nothing is taken.
abbrev pub IsDue : List (List ℕ) → List ℕ → (rose ended : Type 0) → Status → List ℕ → Type 0
IsDue words bytes rose ended s text =
    ((l : Line) × IsLineFor words l × IsDueForTask l.task l.budget bytes rose ended s text) ⊎ ((((l : Line) → IsLineFor words l → ⊥) × (bytes ≡ []) × AreRefused s text) ⊎ ((bytes ≡ []) × AreUnread s text))

-- a task that reads a document
abbrev pub Reads : Task → Type 0
Reads Run = Unit {0}
Reads Check = Unit {0}
Reads _ = ⊥

-- the words are a line that reads a document
abbrev pub DoRead : List (List ℕ) → Type 0
DoRead words = (l : Line) × IsLineFor words l × Reads l.task

-- No device failed, so with a document of this kind the task is done to its end, or memory ran out.
abbrev pub IsCompleteWhere : (IsGood : List ℕ → Type 0) → (left : Option (List ℕ)) → (read_rose written_rose : Type 0) → Status → Type 0
IsCompleteWhere IsGood left read_rose written_rose told =
    (bytes : List ℕ) → left ≡ Some bytes → length bytes ≤ limit → IsGood bytes → (read_rose → ⊥) → (written_rose → ⊥) → IsReported told

-- A document that is faultless within the budget is answered by its whole report.
abbrev pub IsCompleteFor : (budget : ℕ) → (left : Option (List ℕ)) → (read_rose written_rose : Type 0) → Status → Type 0
IsCompleteFor budget left read_rose written_rose told = IsCompleteWhere (λ bytes. IsFaultless bytes budget) left read_rose written_rose told

-- No device failed, so a document is checked if no refusal of it stands, a generated document is written, its run is told if it is faultless within the budget, or memory ran out.
abbrev pub IsCompleteForTask : Task → (budget : ℕ) → (left : Option (List ℕ)) → (read_rose written_rose : Type 0) → Status → Type 0
IsCompleteForTask Run budget left read_rose written_rose told = IsCompleteFor budget left read_rose written_rose told
IsCompleteForTask Check budget left read_rose written_rose told = IsCompleteWhere IsAccepted left read_rose written_rose told
IsCompleteForTask (Generate stages) budget left read_rose written_rose told = (written_rose → ⊥) → IsReported told
IsCompleteForTask (Demonstrate stages) budget left read_rose written_rose told = IsFaultless (generated_text stages) budget → (written_rose → ⊥) → IsReported told

-- The same for any words, with the task and the budget that they give.
abbrev pub IsComplete : (words : List (List ℕ)) → (left : Option (List ℕ)) → (read_rose written_rose : Type 0) → Status → Type 0
IsComplete words left read_rose written_rose told = (l : Line) → IsLineFor words l → IsCompleteForTask l.task l.budget left read_rose written_rose told
