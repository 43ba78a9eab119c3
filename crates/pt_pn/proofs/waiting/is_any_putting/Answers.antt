use Rattle.std.proofs.Common.{get_or, subst, sym, ◌∙◌, arith}
use Rattle.pt_process.specs.Process.{Standing}
use Rattle.pt_puts.specs.Puts.{PutsFirst}
use Rattle.pt_pn_work.specs.Core.{nobody}
use Rattle.pt_pn_work.proofs.CoreLaws.{read-as}
use Rattle.pt_pn.proofs.WaitLaws.{none-next, none-put, some-first, none-first}
use Rattle.pt_pn.proofs.waiting.is_any_putting.Goals as goal

pub returns-then-is_some-clause-some : goal.returns-then-is_some-clause-some
returns-then-is_some-clause-some c _ =
    some-first c.args.processes.now c.loop-process.process c.next_put-channel.result (sym c.is_some.ensures ∙ c.if-is_some.true)
    (subst (λ (p : Standing). PutsFirst p.puts c.next_put-channel.result) (read-as c.args.processes.now c.loop-process.process c.index-processes-process.result nobody (omega (arith, c.loop-process-test.true)) c.index-processes-process.is) c.next_put-channel.ensures)

pub loop-process-preserved : goal.loop-process-preserved
loop-process-preserved c =
    none-next c.args.processes.now c.loop-process.process c.loop-process.invariant
    (none-first (get_or c.args.processes.now c.loop-process.process nobody).puts c.next_put-channel.result (sym c.is_some.ensures ∙ c.if-is_some.false)
    (subst (λ (p : Standing). PutsFirst p.puts c.next_put-channel.result) (read-as c.args.processes.now c.loop-process.process c.index-processes-process.result nobody (omega (arith, c.loop-process-test.true)) c.index-processes-process.is) c.next_put-channel.ensures))

pub returns-clause-none : goal.returns-clause-none
returns-clause-none c _ = none-put c.args.processes.now c.loop-process.process (omega (arith, c.loop-process-test.false)) c.loop-process.invariant
