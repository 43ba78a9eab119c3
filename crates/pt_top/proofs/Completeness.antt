-- A task on a document is done to its end, unless memory or a device fails.
use Rattle.std.proofs.Common.{◌≡◌, ◌⊎◌, inl, inr, ℕ, List, ◌++◌, Option, Some, None, ◌<◌, take, length, append-nil, sym, ap, subst, ◌∙◌}
use Rattle.std.specs.Io.KnownBytes.{Appends, Consumes, IsAtEnd}
use Rattle.pt_io.specs.Causes.{Rose}
use Rattle.pt_top.specs.Outcome.{IsReported}
use Rattle.pt_reply.specs.declared.status.Status.{Status}
use Rattle.pt_reply.specs.declared.status.Status.TheVariants.{Write}
use Rattle.pt_reply.specs.Tells.{Tells}

-- what was read to the end is all that the source had
read-all : (left after : Option (List ℕ)) (read bytes : List ℕ) → Consumes left after read → left ≡ Some bytes → IsAtEnd after → read ≡ bytes
read-all None after read bytes h e end = absurd (cc)
read-all (Some xs) None read bytes h e end = absurd h
read-all (Some xs) (Some ys) read bytes h e end = let same : xs ≡ bytes = cc in sym (sym same ∙ h ∙ ap (λ zs. read ++ zs) end ∙ append-nil read)

-- where no device failed, what is due is told
pub told-due : (before after : ℕ) (old new : Option (List ℕ)) (due told : Status) (text : List ℕ) → Tells before after old new due text told → (Rose before after → ⊥) → told ≡ due
told-due before after old new due told text h calm = by_case h.written
  where
    by_case : ((told ≡ due) × Appends old new text) ⊎ ((told ≡ Write) × Rose before after × (n : ℕ) × (n < length text) × Appends old new (take n text)) → told ≡ due
    by_case (inl x) = x.0
    by_case (inr x) = absurd (calm x.1)

-- where no device failed, what is due as reported of a document of this kind, which was read to its end, is told so
pub complete-due : (IsGood : List ℕ → Type 0) (left after : Option (List ℕ)) (read bytes : List ℕ) (before now : ℕ) (old new : Option (List ℕ)) (due told : Status) (text : List ℕ) → Consumes left after read → IsAtEnd after → (IsGood read → IsReported due) → Tells before now old new due text told →
    left ≡ Some bytes → IsGood bytes → (Rose before now → ⊥) → IsReported told
complete-due IsGood left after read bytes before now old new due told text consumed end complete tells known good still =
    let whole : read ≡ bytes = read-all left after read bytes consumed known end in
    subst (λ s. IsReported s) (sym (told-due before now old new due told text tells still)) (complete (subst IsGood (sym whole) good))
