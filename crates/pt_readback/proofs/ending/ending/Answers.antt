use Rattle.std.proofs.Common.{◌≡◌, ◌∙◌, refl, sym, ap}
use Rattle.pt_readback.specs.Lines.{rows_of, last_line}
use Rattle.pt_readback.proofs.Listed.{same_fault}
use Rattle.pt_readback.proofs.Ends.{end_listed, last_front, run_rows, run_last}
use Rattle.pt_readback.proofs.ending.ending.Goals as goal

pub returns-in_err-rows-clause-found : goal.returns-in_err-rows-clause-found
returns-in_err-rows-clause-found c = λ e h f k t.
    same_fault _ c.from_residual.result c.in_err-rows.field-0.0 e c.from_residual.ensures.1 (c.in_err-rows.ensures.found (rows_of e) (last_line e) (run_rows e f k) (last_front e) refl (end_listed e ∙ t))

pub returns-clause-found : goal.returns-clause-found
returns-clause-found c = λ e h f k t.
    let q = c.in_ok-rows.ensures.found (rows_of e) (last_line e) (run_rows e f k) (last_front e) refl (end_listed e ∙ t) in
    c.end.ensures.found e (run_last e h k) (sym (ap (λ r. r.0) q) ∙ sym c.of.ensures) (sym (ap (λ r. r.1) q))
