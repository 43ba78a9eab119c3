-- The text of a document, and which jobs a document can say.
use Rattle.std.specs.Prelude.{ℕ, List}
use Rattle.json.specs.Print.{print}
use Rattle.pt_document.specs.Document.{JobTree}
use Rattle.pt_moml.specs.Reading.{IsJobOf}
use Rattle.pt_write.specs.Written.{tokens}
use Rattle.pt_write.specs.Document.{document}

-- the bytes of the job's document, without a blank
abbrev pub document_text : JobTree → List ℕ
document_text job = print (tokens (document job))

-- some bytes are read as this job
abbrev pub IsReadable : JobTree → Type 0
IsReadable job = (bytes : List ℕ) × IsJobOf bytes job
