use Rattle.std.proofs.Common.{ap, ◌∙◌}
use Rattle.pt_process.specs.Process.{Standing, with_puts}
use Rattle.pt_puts.specs.Puts.{puts_in}
use Rattle.pt_process.proofs.process.Process.told.Goals as goal

pub returns-clause-told : goal.returns-clause-told
returns-clause-told c = c.stage.ensures ∙ ap (λ (s : Standing). with_puts (puts_in c.args.puts.now.items) s) c.in_ok-renew.ensures.renewed
