use Rattle.pt_readback.proofs.Bytes.{name_bytes, name_in_path, path_utf8}
use Rattle.pt_readback.proofs.names.name.Goals as goal

pub returns-then-is_name-clause-found : goal.returns-then-is_name-clause-found
returns-then-is_name-clause-found c = λ h. c.text_of.ensures.found (path_utf8 c.args.bytes.now (name_in_path c.args.bytes.now (name_bytes c.args.bytes.now h)))
