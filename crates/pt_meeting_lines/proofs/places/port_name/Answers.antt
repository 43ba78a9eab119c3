use Rattle.std.proofs.Common.{◌≡◌, List, ℕ, Some, slice_get, sym, subst}
use Rattle.std.proofs.lemmas.Result.{IfOk-weaker}
use Rattle.pt_document.specs.declared.job.Port.{Port}
use Rattle.pt_meeting_lines.proofs.places.port_name.Goals as goal

pub item_at-port-requires : goal.item_at-port-requires
item_at-port-requires c = (c.requires.1.0, subst (λ (ps : List Port). slice_get ps c.args.number ≡ Some c.requires.1.0) (sym c.as_slice-ports.ensures.value) c.requires.1.1)

pub returns : goal.returns
returns c =
    let port = c.item_at-port.result.now in
    let there = subst (λ (ps : List Port). slice_get ps c.args.number ≡ Some port) c.as_slice-ports.ensures.value c.item_at-port.ensures in
    IfOk-weaker c.copy.result _ _ (λ (t : List ℕ) e. (port, there, sym e)) c.copy.ensures
