use Rattle.std.proofs.Common.{◌≡◌, Err}
use Rattle.pt_language.specs.declared.parse_fault.ParseFault.TheVariants.{Syntax}
use Rattle.pt_charts.proofs.modal_texts.parsed.Goals as goal

pub returns-in-Ok : goal.returns-in-Ok
returns-in-Ok c = (record { shallow = c.in-Ok.ensures.shallow; reads = c.in-Ok.ensures.tree }, λ other r. c.in-Ok.ensures.only other r.reads)

pub returns-in-Err-Syntax : goal.returns-in-Err-Syntax
returns-in-Err-Syntax c = let e : c.parse.result ≡ Err Syntax = cc in λ t r. c.parse.ensures.refuses e t r.reads
