use Rattle.std.proofs.Common.{◌≡◌, ◌++◌, ◌∷◌, ◌∙◌, [], true, false, sym, ap, rules}
use Rattle.std.specs.Char.{is_ascii_digit}
use Rattle.std.proofs.lemmas.Bool.{false_from_ne_true}
use Rattle.std.proofs.lemmas.Bool.Decides.{Decides-eqb}
use Rattle.pt_readback.specs.Lines.{IsRunRow, IsRowForm, begins_row, never, say_row}
use Rattle.pt_readback.proofs.Lines.{row_starts, row_stops}
use Rattle.pt_readback.specs.Listed.{front}
use Rattle.pt_readback.proofs.Listed.{same_fault, so_far_none, so_far_more, so_far_fails, so_far_all}
use Rattle.pt_readback.proofs.ending.rows.Goals as goal

pub loop-alloc-preserved : goal.loop-alloc-preserved
loop-alloc-preserved c =
    let b : c.push.new.self.items ≡ c.loop-alloc.rows.items ++ c.in_ok-row.row ∷ [] = search rules in
    let t : begins_row (front c.loop-alloc.rest.now) ≡ true = (Decides-eqb (front c.loop-alloc.rest.now) 102).1 (sym c.front.ensures ∙ c.loop-alloc-test.true) in
    rw b (so_far_more say_row IsRunRow IsRowForm begins_row never row_starts row_stops c.args.text.now c.loop-alloc.rest.now c.in_ok-row.behind.now c.loop-alloc.rows.items c.in_ok-row.row c.loop-alloc.invariant t c.in_ok-row.ensures.found c.in_ok-row.ensures.form c.in_ok-row.ensures.shorter)

pub returns-in_err-row-clause-found : goal.returns-in_err-row-clause-found
returns-in_err-row-clause-found c = λ all after h n s e.
    let t : begins_row (front c.loop-alloc.rest.now) ≡ true = (Decides-eqb (front c.loop-alloc.rest.now) 102).1 (sym c.front.ensures ∙ c.loop-alloc-test.true) in
    same_fault _ c.from_residual.result c.in_err-row.field-0.0 (all, after) c.from_residual.ensures.1 (so_far_fails say_row IsRunRow IsRowForm begins_row never row_starts row_stops _ c.args.text.now c.loop-alloc.rest.now c.loop-alloc.rows.items c.loop-alloc.invariant t c.in_err-row.ensures.found all after h n s e)

pub returns-clause-found : goal.returns-clause-found
returns-clause-found c = λ all after h n s e.
    let t : begins_row (front c.loop-alloc.rest.now) ≡ false = false_from_ne_true _ (λ h. c.loop-alloc-test.false (c.front.ensures ∙ (Decides-eqb (front c.loop-alloc.rest.now) 102).0 h)) in
    so_far_all say_row IsRunRow IsRowForm begins_row never row_starts row_stops c.args.text.now c.loop-alloc.rest.now c.loop-alloc.rows.items c.loop-alloc.invariant t all after h n s e
