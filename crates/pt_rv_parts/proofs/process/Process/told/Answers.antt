use Rattle.std.proofs.Common.{ap, ◌∙◌}
use Rattle.pt_value.specs.declared.token.Token.{Token}
use Rattle.pt_puts.specs.Puts.{puts_in}
use Rattle.pt_rv_work.specs.Core.{Standing}
use Rattle.pt_rv_parts.specs.Process.{with_puts}
use Rattle.pt_rv_parts.proofs.process.Process.told.Goals as goal

pub returns-clause-told : goal.returns-clause-told
returns-clause-told c = c.stage.ensures ∙ ap (λ (s : Standing Token). with_puts (puts_in c.args.puts.now.items) s) c.in_ok-renew.ensures.renewed
