-- The answer to a document, from the answer to its job and to its net.
use Rattle.std.proofs.Common.{◌≡◌, ℕ, List, Result, Ok, Err, IfOk, ◌⊎◌, inl, inr, subst, ◌≤◌, length, arith}
use Rattle.std.specs.declared.alloc.AllocError.{AllocError}
use Rattle.pt_document.specs.Document.{JobTree}
use Rattle.pt_moml.specs.Reading.{IsJobOf}
use Rattle.pt_document.specs.declared.code.Code.TheVariants as code
use Rattle.pt_moml.specs.Stands as reading
use Rattle.pt_net.specs.declared.net.Net.{Net}
use Rattle.pt_net.specs.Net.{IsNetOf}
use Rattle.pt_reply.specs.declared.reply.Reply.{Reply}
use Rattle.pt_reply.specs.declared.form.Form.{Form}
use Rattle.pt_reply.specs.declared.form.Form.TheVariants as form
use Rattle.pt_reply.specs.declared.status.Status.{Status}
use Rattle.pt_reply.specs.declared.status.Status.TheVariants.{Done, Words, Document, Fault, Budget, Read, Write, Memory, Queue, Length}
use Rattle.pt_order.specs.Laws.{IsNetOfDocument}
use Rattle.pt_model.proofs.TypedLaws.{models-keep-types}
use Rattle.pt_top.specs.Reply.{IsReport, AnswersNet}
use Rattle.pt_top.specs.Outcome.{in_links, in_net, IsReportOf, AnswersJob, AnswersAs, IsWellLinked, IsFaultless, IsDueFor, limit}

from-net : (f : Form) (job : JobTree) (net : Net) (budget : ℕ) → IsNetOf job net → IsWellLinked job → (s : Status) (text : List ℕ) → AnswersNet f net budget s text → AnswersJob f job budget s text
from-net f job net budget n c Done text a = (net, n, c, a)
from-net f job net budget n c Fault text a = (net, n, c, a)
from-net f job net budget n c Budget text a = (net, n, c, a)
from-net f job net budget n c Document text a = (a.0, inr (net, n, c, a.1), a.2)
from-net f job net budget n c Words text a = absurd a
from-net f job net budget n c Read text a = absurd a
from-net f job net budget n c Write text a = absurd a
from-net f job net budget n c Memory text a = absurd a
from-net f job net budget n c Queue text a = (net, n, c, a)
from-net f job net budget n c Length text a = absurd a

-- the answer to a net answers its job
pub net-answers : (f : Form) (job : JobTree) (net : Net) (budget : ℕ) (reply : Result Reply AllocError) → IsNetOf job net → IsWellLinked job → IfOk reply (λ r. AnswersNet f net budget r.status r.text.items) → IfOk reply (λ r. AnswersJob f job budget r.status r.text.items)
net-answers f job net budget (Ok r) n c a = from-net f job net budget n c r.status r.text.items a
net-answers f job net budget (Err e) n c a = tt

-- no link of a document is at fault whose net this is
pub net-of-document : (bytes : List ℕ) (job : JobTree) (net : Net) → IsJobOf bytes job → IsNetOf job net → IsWellLinked job → IsNetOfDocument net
net-of-document bytes job net j n l = record { bytes = bytes; job = job; read = j; made = n; clean = λ path h. l code.Link path h; few = λ path h. l code.Limit path h }

-- a report of the net of a document is that of the document
reported : (f : Form) (bytes : List ℕ) (job : JobTree) (budget : ℕ) → IsJobOf bytes job → reading.IsClean bytes → (s : Status) (text : List ℕ) (net : Net) → IsNetOf job net → IsWellLinked job → IsReport f net budget s text → IsReportOf f bytes budget s text
reported f bytes job budget j c s text net n l a = record {
  job = job;
  net = net;
  accepted = record { is_job = j; is_net = n; well_formed = c; well_linked = l };
  report = a;
  typed = models-keep-types net a.top a.job (net-of-document bytes job net j n l) a.is_model;
}

from-job : (f : Form) (bytes : List ℕ) (job : JobTree) (budget : ℕ) → IsJobOf bytes job → reading.IsClean bytes → (s : Status) (text : List ℕ) → AnswersJob f job budget s text → AnswersAs f bytes budget s text
from-job f bytes job budget j c Done text (net, n, l, a) = reported f bytes job budget j c Done text net n l a
from-job f bytes job budget j c Fault text (net, n, l, a) = reported f bytes job budget j c Fault text net n l a
from-job f bytes job budget j c Budget text (net, n, l, a) = reported f bytes job budget j c Budget text net n l a
from-job f bytes job budget j c Document text (r, inl h, t) = (r, in_links job j c h, t)
from-job f bytes job budget j c Document text (r, inr (net, n, l, h), t) = (r, in_net job net (record { is_job = j; is_net = n; well_formed = c; well_linked = l }) h, t)
from-job f bytes job budget j c Words text a = absurd a
from-job f bytes job budget j c Read text a = absurd a
from-job f bytes job budget j c Write text a = absurd a
from-job f bytes job budget j c Memory text a = absurd a
from-job f bytes job budget j c Queue text (net, n, l, a) = reported f bytes job budget j c Queue text net n l a
from-job f bytes job budget j c Length text a = absurd a

-- the answer to a job answers the document that was read as it
pub job-answers : (f : Form) (bytes : List ℕ) (job : JobTree) (budget : ℕ) (reply : Result Reply AllocError) → IsJobOf bytes job → reading.IsClean bytes → IfOk reply (λ r. AnswersJob f job budget r.status r.text.items) → IfOk reply (λ r. AnswersAs f bytes budget r.status r.text.items)
job-answers f bytes job budget (Ok r) j c a = from-job f bytes job budget j c r.status r.text.items a
job-answers f bytes job budget (Err e) j c a = tt

-- a faultless document isn't answered by a refusal
pub never-refused : (f : Form) (bytes : List ℕ) (budget : ℕ) (reply : Result Reply AllocError) → IsFaultless bytes budget → IfOk reply (λ r. AnswersAs f bytes budget r.status r.text.items) → IfOk reply (λ r. (r.status ≡ Done) ⊎ (r.status ≡ Document)) → IfOk reply (λ r. r.status ≡ Done)
never-refused f bytes budget (Err e) faultless a h = tt
never-refused f bytes budget (Ok r) faultless a (inl done) = done
never-refused f bytes budget (Ok r) faultless a (inr refused) = let answer = subst (λ s. AnswersAs f bytes budget s r.text.items) refused a in absurd (faultless.accepted answer.0 answer.1)

-- the answer to a document that was read to its end is due
pub document-due : (budget : ℕ) (bytes : List ℕ) (rose ended : Type 0) (s : Status) (text : List ℕ) → length bytes ≤ limit → ended → AnswersAs form.Report bytes budget s text → IsDueFor budget bytes rose ended s text
document-due budget bytes rose ended Done text l e a = (l, e, a)
document-due budget bytes rose ended Fault text l e a = (l, e, a)
document-due budget bytes rose ended Budget text l e a = (l, e, a)
document-due budget bytes rose ended Document text l e a = (l, e, a)
document-due budget bytes rose ended Memory text l e a = (l, a)
document-due budget bytes rose ended Words text l e a = absurd a
document-due budget bytes rose ended Read text l e a = absurd a
document-due budget bytes rose ended Write text l e a = absurd a
document-due budget bytes rose ended Queue text l e a = (l, e, a)
document-due budget bytes rose ended Length text l e a = absurd a

-- not one byte more than the limit
pub within-limit : (n : ℕ) → n ≤ 16777217 → (n ≡ 16777217 → ⊥) → n ≤ limit
within-limit n most other = grind (arith)
