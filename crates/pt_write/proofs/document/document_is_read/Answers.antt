use Rattle.pt_write.proofs.JobFormed.{read_is_sayable}
use Rattle.pt_write.proofs.document.document_is_read.Goals as goal

pub returns : goal.returns
returns c = read_is_sayable
