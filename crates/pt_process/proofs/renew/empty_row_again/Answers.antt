use Rattle.std.proofs.Common.{set, ◌∙◌, arith, length-set}
use Rattle.pt_pn_laws.proofs.ListLaws.{at-set, at-set-other}
use Rattle.pt_process.proofs.RoomLaws.{empties-more}
use Rattle.pt_process.proofs.renew.empty_row_again.Goals as goal

pub loop-place-preserved : goal.loop-place-preserved
loop-place-preserved c = record {
  counted = length-set c.loop-place.row.items c.loop-place.place c.new.result ∙ c.loop-place.invariant.counted;
  empty = empties-more c.loop-place.row.items (set c.loop-place.row.items c.loop-place.place c.new.result) c.loop-place.place c.loop-place.invariant.empty
      (at-set c.loop-place.row.items c.loop-place.place c.new.result (omega (arith, c.loop-place.invariant.counted, c.loop-place-test.true, c.len-place-end.ensures, c.args.row.now.ok.0)) ∙ c.new.ensures) (λ q z. at-set-other c.loop-place.row.items c.loop-place.place q c.new.result z);
}

pub returns-clause-empty : goal.returns-clause-empty
returns-clause-empty c = λ q l. c.loop-place.invariant.empty q (omega (arith, l, c.loop-place.invariant.counted, c.loop-place-test.false, c.len-place-end.ensures, c.args.row.now.ok.0))
