-- The text of the document of a generated job.
use Rattle.std.specs.Prelude.{ℕ, List}
use Rattle.pt_write.specs.Text.{document_text}
use Rattle.pt_gen.specs.Generated.{generated}

-- the document of the generated job of so many stages
unfoldable pub generated_text : (stages : ℕ) → List ℕ
generated_text stages = document_text (generated stages)
