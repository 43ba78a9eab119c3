use Rattle.pt_readback.proofs.Bytes.{names_bytes, path_utf8}
use Rattle.pt_readback.proofs.names.names.Goals as goal

pub returns-then-are_names-clause-found : goal.returns-then-are_names-clause-found
returns-then-are_names-clause-found c = λ h. c.text_of.ensures.found (path_utf8 c.args.bytes.now (names_bytes c.args.bytes.now h))
