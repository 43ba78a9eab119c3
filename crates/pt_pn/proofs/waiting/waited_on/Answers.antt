use Rattle.std.proofs.Common.{◌∙◌, subst, arith}
use Rattle.std.proofs.lemmas.List.{take_all}
use Rattle.pt_process.specs.Process.{Standing}
use Rattle.pt_puts.specs.Puts.{PutsFirst}
use Rattle.pt_pn_work.specs.Core.{nobody, puts_of_all}
use Rattle.pt_pn_work.proofs.CoreLaws.{read-as}
use Rattle.pt_pn.specs.Waiting.{MarksWaited}
use Rattle.pt_pn.proofs.WaitLaws.{marks-more}
use Rattle.pt_pn.proofs.waiting.waited_on.Goals as goal

pub loop-process-preserved : goal.loop-process-preserved
loop-process-preserved c = record {
  counted = c.mark.ensures.counted ∙ c.loop-process.invariant.counted;
  marks = marks-more c.args.processes.now c.loop-process.process c.next_put.result c.loop-process.marks.items c.mark.new.marks.items (omega (arith, c.loop-process-test.true))
      (subst (λ (p : Standing). PutsFirst p.puts c.next_put.result) (read-as c.args.processes.now c.loop-process.process c.index-processes-process.result nobody (omega (arith, c.loop-process-test.true)) c.index-processes-process.is) c.next_put.ensures)
      c.mark.ensures.counted c.loop-process.invariant.marks c.mark.ensures.marked;
}

pub returns-clause-marks : goal.returns-clause-marks
returns-clause-marks c = subst (λ ps. MarksWaited c.loop-process.marks.items (puts_of_all ps)) (take_all c.loop-process.process c.args.processes.now (omega (arith, c.loop-process-test.false))) c.loop-process.invariant.marks
