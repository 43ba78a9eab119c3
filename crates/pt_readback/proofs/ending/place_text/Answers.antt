use Rattle.std.proofs.Common.{◌≡◌, ◌∙◌, sym, subst}
use Rattle.std.proofs.lemmas.Result.{IfOk-weaker}
use Rattle.pt_readback.specs.Report.{IsShortPlace}
use Rattle.pt_readback.proofs.Bytes.{Has, path_byte, path_utf8, place_bytes}
use Rattle.pt_readback.proofs.Listed.{same_fault}
use Rattle.pt_readback.proofs.ending.place_text.Goals as goal

pub returns-clause-found : goal.returns-clause-found
returns-clause-found c = λ h. c.text_of.ensures.found (path_utf8 c.args.text.now (subst (Has path_byte) (sym h.is) (place_bytes h.place h.form)))
