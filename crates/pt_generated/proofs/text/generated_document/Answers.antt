use Rattle.pt_generated.proofs.Texts.{document-is-generated}
use Rattle.pt_generated.proofs.text.generated_document.Goals as goal

pub returns : goal.returns
returns c = document-is-generated _ c.args.stages c.document_of_generated.result c.document_of_generated.ensures.text
