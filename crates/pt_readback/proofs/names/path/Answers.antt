use Rattle.pt_readback.proofs.Bytes.{path_bytes, path_utf8}
use Rattle.pt_readback.proofs.names.path.Goals as goal

pub returns-then-is_path-clause-found : goal.returns-then-is_path-clause-found
returns-then-is_path-clause-found c = λ h. c.text_of.ensures.found (path_utf8 c.args.bytes.now (path_bytes c.args.bytes.now h))
