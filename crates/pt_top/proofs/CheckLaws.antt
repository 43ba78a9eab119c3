-- The answer to a document that is checked, from the facts of its net.
use Rattle.std.proofs.Common.{◌≡◌, inl, inr, ℕ, List, ◌≤◌, length, map, refl, sym, ap, subst, ◌∙◌}
use Rattle.std.specs.Prelude.{Result, Ok, Err, IfOk}
use Rattle.std.specs.declared.alloc.AllocError.{AllocError}
use Rattle.pt_datatypes.specs.Datatype.{Datatype}
use Rattle.pt_document.specs.Document.{JobTree}
use Rattle.pt_document.specs.declared.refusal.Refusal.{Refusal}
use Rattle.pt_moml.specs.Reading.{IsJobOf}
use Rattle.pt_moml.specs.Stands.{IsClean}
use Rattle.pt_facts.specs.declared.facts.Facts.{Facts}
use Rattle.pt_facts.specs.CheckText.{typed, check_text}
use Rattle.pt_net.specs.declared.net.Net.{Net}
use Rattle.pt_net.specs.Net.{IsNetOf}
use Rattle.pt_typing.specs.Least.{Assignment}
use Rattle.pt_node.specs.Shown.{Shown}
use Rattle.pt_check.specs.Facts.{AreFacts, text_of}
use Rattle.pt_model.specs.Checked.{AreFactsOf}
use Rattle.pt_reply.specs.declared.reply.Reply.{Reply}
use Rattle.pt_reply.specs.declared.form.Form.TheVariants as form
use Rattle.pt_reply.specs.declared.status.Status.{Status}
use Rattle.pt_reply.specs.declared.status.Status.TheVariants.{Done, Words, Document, Fault, Budget, Read, Write, Memory, Queue, Length}
use Rattle.pt_reply.specs.Texts.{refusal_text}
use Rattle.pt_top.specs.Reply.{AnswersNet}
use Rattle.pt_top.specs.Check.{IsCheck, ChecksNet}
use Rattle.pt_top.specs.Outcome.{in_net, HasNet, IsRefused, IsAccepted, IsWellLinked, IsReported, Checks, IsDueBy, limit}

-- the text of facts is that of what they are
same-text : (ts us : List (List ℕ × Datatype)) (qs rs ds es : List (List ℕ × ℕ)) → ts ≡ us → qs ≡ rs → ds ≡ es → check_text ts qs ds ≡ check_text us rs es
same-text ts us qs rs ds es t q d = ap (λ x. check_text x qs ds) t ∙ ap (λ x. check_text us x ds) q ∙ ap (λ x. check_text us rs x) d

pub facts-text : (net : Net) (typing : Assignment) (top : Shown) (facts : Facts) → AreFacts net typing top facts → check_text (map typed facts.types.items) facts.repetitions.items facts.depths.items ≡ text_of net typing top
facts-text net typing top facts are = same-text _ _ _ _ _ _ are.types are.repetitions are.depths

pub told-checks : (net : Net) (facts : Facts) (text : List ℕ) → AreFactsOf net facts → text ≡ check_text (map typed facts.types.items) facts.repetitions.items facts.depths.items → IsCheck net text
told-checks net facts text of told = record {
  top = of.top;
  job = of.job;
  is_model = of.model;
  printed = told ∙ facts-text net of.model.typing of.top facts of.are;
}

-- a refusal of a net answers it, as it does where it is run
pub fault-checks : (net : Net) (reply : Result Reply AllocError) → IfOk reply (λ r. AnswersNet form.Report net 0 r.status r.text.items) → IfOk reply (λ r. r.status ≡ Document) → IfOk reply (λ r. ChecksNet net r.status r.text.items)
fault-checks net (Ok r) answers refused =
    let answer : AnswersNet form.Report net 0 Document r.text.items = subst (λ s. AnswersNet form.Report net 0 s r.text.items) refused answers in
    subst (λ s. ChecksNet net s r.text.items) (sym refused) answer
fault-checks net (Err e) answers refused = tt

-- the answer to a net answers its document
module _ (bytes : List ℕ) (job : JobTree) (net : Net) (is : IsJobOf bytes job) (clean : IsClean bytes) (made : IsNetOf job net) (linked : IsWellLinked job) where
  has : HasNet bytes job net
  has = record { is_job = is; is_net = made; well_formed = clean; well_linked = linked }

  from-net : (s : Status) (text : List ℕ) → ChecksNet net s text → Checks bytes s text
  from-net Done text a = record { job = job; net = net; accepted = has; check = a }
  from-net Document text a = (a.0, in_net job net has a.1, a.2)
  from-net Words text a = absurd a
  from-net Fault text a = absurd a
  from-net Budget text a = absurd a
  from-net Read text a = absurd a
  from-net Write text a = absurd a
  from-net Memory text a = absurd a
  from-net Queue text a = absurd a
  from-net Length text a = absurd a

  pub net-checks : (reply : Result Reply AllocError) → IfOk reply (λ r. ChecksNet net r.status r.text.items) → IfOk reply (λ r. Checks bytes r.status r.text.items)
  net-checks (Ok r) a = from-net r.status r.text.items a
  net-checks (Err e) a = tt

-- so does a refusal of the document
pub refused-checks : (bytes : List ℕ) (why : Refusal) (reply : Result Reply AllocError) → IsRefused bytes why → IfOk reply (λ r. (r.status ≡ Document) × (r.text.items ≡ refusal_text why)) → IfOk reply (λ r. Checks bytes r.status r.text.items)
refused-checks bytes why (Ok r) stands told = subst (λ s. Checks bytes s r.text.items) (sym told.0) (why, stands, told.1)
refused-checks bytes why (Err e) stands told = tt

-- the answer to a document that was read to its end is due
pub check-due : (bytes : List ℕ) (rose ended : Type 0) (s : Status) (text : List ℕ) → length bytes ≤ limit → ended → Checks bytes s text → IsDueBy (Checks bytes) bytes rose ended s text
check-due bytes rose ended Done text l e a = (l, e, a)
check-due bytes rose ended Document text l e a = (l, e, a)
check-due bytes rose ended Memory text l e a = (l, a)
check-due bytes rose ended Words text l e a = absurd a
check-due bytes rose ended Fault text l e a = absurd a
check-due bytes rose ended Budget text l e a = absurd a
check-due bytes rose ended Read text l e a = absurd a
check-due bytes rose ended Write text l e a = absurd a
check-due bytes rose ended Queue text l e a = absurd a
check-due bytes rose ended Length text l e a = absurd a

-- one that no refusal stands of is answered as checked, or memory ran out
pub check-reported : (bytes : List ℕ) (s : Status) (text : List ℕ) → Checks bytes s text → IsAccepted bytes → IsReported s
check-reported bytes Done text a accepted = inl refl
check-reported bytes Document text a accepted = absurd (accepted a.0 a.1)
check-reported bytes Memory text a accepted = inr refl
check-reported bytes Words text a accepted = absurd a
check-reported bytes Fault text a accepted = absurd a
check-reported bytes Budget text a accepted = absurd a
check-reported bytes Read text a accepted = absurd a
check-reported bytes Write text a accepted = absurd a
check-reported bytes Queue text a accepted = absurd a
check-reported bytes Length text a accepted = absurd a
