-- The text of a job's document is read as the job.
use Rattle.std.proofs.Common.{◌≡◌, ℕ, List, IsUtf8}
use Rattle.json.specs.Lex as lex
use Rattle.pt_document.specs.Document.{JobTree}
use Rattle.pt_moml.specs.Reading.{IsJobOf}
use Rattle.pt_write.specs.Written.{tokens, data_of}
use Rattle.pt_write.specs.Document.{document}
use Rattle.pt_write.specs.Form.{IsSayable}
use Rattle.pt_write.proofs.Json.{read_back}
use Rattle.pt_write.proofs.Wholes.{document_whole}
use Rattle.pt_write.proofs.EntitiesBack.{job_back}

pub written_is_read : (job : JobTree) (bytes : List ℕ) → IsUtf8 bytes → lex.tokens bytes ≡ tokens (document job) → IsSayable job → IsJobOf bytes job
written_is_read job bytes utf8 same h = (data_of (document job), (utf8, read_back (document job) (document_whole job h.inputs) h.shallow bytes same), job_back job h)
