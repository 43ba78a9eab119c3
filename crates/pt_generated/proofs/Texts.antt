-- The text of the document of a generated job.
use Rattle.std.proofs.Common.{◌≡◌, ℕ, List, Result, Ok, Err, IfOk}
use Rattle.std.specs.declared.alloc.AllocError.{AllocError}
use Rattle.pt_write.specs.Text.{document_text}
use Rattle.pt_gen.specs.Generated.{generated}
use Rattle.pt_generated.specs.Text.{generated_text}

is-generated : (stages : ℕ) (text : List ℕ) → text ≡ document_text (generated stages) → text ≡ generated_text stages
unfolding generated_text
is-generated stages text e = e

pub document-is-generated : {A : Type 0} (items : A → List ℕ) (stages : ℕ) (r : Result A AllocError) → IfOk r (λ a. items a ≡ document_text (generated stages)) → IfOk r (λ a. items a ≡ generated_text stages)
document-is-generated items stages (Ok a) h = is-generated stages (items a) h
document-is-generated items stages (Err e) h = tt
