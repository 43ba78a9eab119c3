use Rattle.std.proofs.Common.{◌≡◌, Err}
use Rattle.pt_language.specs.declared.parse_fault.ParseFault.TheVariants.{Syntax}
use Rattle.pt_parameter.proofs.reading.read.Goals as goal

pub returns-in-Err-Syntax-clause-told : goal.returns-in-Err-Syntax-clause-told
returns-in-Err-Syntax-clause-told c =
    let e : c.parse.result ≡ Err Syntax = cc in
    record { shallow = c.parse.ensures.syntax e; none = c.parse.ensures.refuses e }
