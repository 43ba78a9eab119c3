use Rattle.std.proofs.Common.{ap, ◌∙◌, arith}
use Rattle.std.proofs.lemmas.List.{take_all}
use Rattle.pt_puts.specs.Puts.{puts_in}
use Rattle.pt_puts.proofs.PutLaws.{puts-next}
use Rattle.pt_puts.proofs.puts.puts_again.Goals as goal

pub loop-k-preserved : goal.loop-k-preserved
loop-k-preserved c = ap puts_in c.in-Ok.ensures.items ∙ puts-next c.args.puts.now.items c.loop-k.copies.items c.loop-k.k c.index.result.now c.in_ok-copy.copy (omega (arith, c.loop-k-test.true, c.len-k-end.ensures, c.args.puts.now.ok.0)) c.index.ensures c.in_ok-copy.ensures c.loop-k.invariant

pub returns : goal.returns
returns c = c.loop-k.invariant ∙ ap puts_in (take_all c.loop-k.k c.args.puts.now.items (omega (arith, c.loop-k-test.false, c.len-k-end.ensures, c.args.puts.now.ok.0)))
