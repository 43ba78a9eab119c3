-- What is due and told for the task of a line.
use Rattle.std.proofs.Common.{◌≡◌, ◌⊎◌, inl, inr, ℕ, List, [], Option, Some, None, ◌<◌, take, length, refl, sym, subst, ◌∙◌}
use Rattle.std.specs.Io.KnownBytes.{Appends, Consumes}
use Rattle.pt_io.specs.Causes.{Rose}
use Rattle.pt_words.specs.declared.line.Task.{Task}
use Rattle.pt_words.specs.declared.line.Task.TheVariants.{Run, Check, Generate, Demonstrate}
use Rattle.pt_reply.specs.declared.status.Status.{Status}
use Rattle.pt_reply.specs.declared.status.Status.TheVariants.{Words, Read, Write, Memory}
use Rattle.pt_reply.specs.Tells.{Tells}
use Rattle.pt_top.specs.Outcome.{IsReported, IsDueForTask, for_run, for_check, for_generation, for_demonstration, IsDue, IsCompleteForTask}
use Rattle.pt_top.proofs.Completeness.{told-due}

pub nothing-taken : (left : Option (List ℕ)) → Consumes left left []
nothing-taken None = tt
nothing-taken (Some xs) = refl

not-words : Read ≡ Words → ⊥
not-words e = cc

not-read : Write ≡ Read → ⊥
not-read e = cc

write-not-words : Write ≡ Words → ⊥
write-not-words e = cc

not-memory : Read ≡ Memory → ⊥
not-memory e = cc

write-not-memory : Write ≡ Memory → ⊥
write-not-memory e = cc

-- a failed read is due only where reading failed
due-read : (t : Task) (budget : ℕ) (bytes : List ℕ) (rose ended : Type 0) (text : List ℕ) → IsDueForTask t budget bytes rose ended Read text → rose
due-read t budget bytes rose ended text (for_run is h) = h.0
due-read t budget bytes rose ended text (for_check is h) = h.0
due-read t budget bytes rose ended text (for_generation n is none h) = absurd h
due-read t budget bytes rose ended text (for_demonstration n is none h) = absurd h

-- a failed write is due nowhere
due-write : (t : Task) (budget : ℕ) (bytes : List ℕ) (rose ended : Type 0) (text : List ℕ) → IsDueForTask t budget bytes rose ended Write text → ⊥
due-write t budget bytes rose ended text (for_run is h) = h
due-write t budget bytes rose ended text (for_check is h) = h
due-write t budget bytes rose ended text (for_generation n is none h) = h
due-write t budget bytes rose ended text (for_demonstration n is none h) = h

-- Reading and writing are told to have failed only where they did.
module _ (words : List (List ℕ)) (bytes : List ℕ) (rose ended : Type 0) (before after : ℕ) (old new : Option (List ℕ)) (due told : Status) (text : List ℕ) (d : IsDue words bytes rose ended due text) (t : Tells before after old new due text told) where
  pub read-rose : told ≡ Read → rose
  read-rose e = by_written t.written
    where
      by_due : IsDue words bytes rose ended Read text → rose
      by_due (inl h) = due-read h.0.task h.0.budget bytes rose ended text h.2
      by_due (inr (inl h)) = absurd (not-words h.2.0)
      by_due (inr (inr h)) = absurd (not-memory h.1.0)

      by_written : ((told ≡ due) × Appends old new text) ⊎ ((told ≡ Write) × Rose before after × (n : ℕ) × (n < length text) × Appends old new (take n text)) → rose
      by_written (inl x) = by_due (subst (λ s. IsDue words bytes rose ended s text) (sym x.0 ∙ e) d)
      by_written (inr x) = absurd (not-read (sym x.0 ∙ e))

  pub write-rose : told ≡ Write → Rose before after
  write-rose e = by_written t.written
    where
      by_due : IsDue words bytes rose ended Write text → ⊥
      by_due (inl h) = due-write h.0.task h.0.budget bytes rose ended text h.2
      by_due (inr (inl h)) = write-not-words h.2.0
      by_due (inr (inr h)) = write-not-memory h.1.0

      by_written : ((told ≡ due) × Appends old new text) ⊎ ((told ≡ Write) × Rose before after × (n : ℕ) × (n < length text) × Appends old new (take n text)) → Rose before after
      by_written (inl x) = absurd (by_due (subst (λ s. IsDue words bytes rose ended s text) (sym x.0 ∙ e) d))
      by_written (inr x) = x.1

-- where no device failed, what is due as reported is told so
pub reported-told : (before after : ℕ) (old new : Option (List ℕ)) (due told : Status) (text : List ℕ) → Tells before after old new due text told → (Rose before after → ⊥) → IsReported due → IsReported told
reported-told before after old new due told text t calm r = subst (λ s. IsReported s) (sym (told-due before after old new due told text t calm)) r

-- want of memory completes any task
pub memory-completes : (t : Task) (budget : ℕ) (left : Option (List ℕ)) (read_rose : Type 0) (before after : ℕ) (old new : Option (List ℕ)) (told : Status) (text : List ℕ) → Tells before after old new Memory text told → IsCompleteForTask t budget left read_rose (Rose before after) told
memory-completes Run budget left read_rose before after old new told text t = λ bytes is short faultless still calm. reported-told before after old new Memory told text t calm (inr refl)
memory-completes Check budget left read_rose before after old new told text t = λ bytes is short faultless still calm. reported-told before after old new Memory told text t calm (inr refl)
memory-completes (Generate stages) budget left read_rose before after old new told text t = λ calm. reported-told before after old new Memory told text t calm (inr refl)
memory-completes (Demonstrate stages) budget left read_rose before after old new told text t = λ faultless calm. reported-told before after old new Memory told text t calm (inr refl)
