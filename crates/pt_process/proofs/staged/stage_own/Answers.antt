use Rattle.std.proofs.Common.{[], ◌∷◌, ◌++◌, append-nil, ap, sym, ◌∙◌, arith}
use Rattle.pt_meaning.specs.Process.{puts_of_port}
use Rattle.pt_puts.specs.Puts.{puts_in}
use Rattle.pt_puts.proofs.LineLaws.{at-past}
use Rattle.pt_process.proofs.staged.stage_own.Goals as goal

pub returns-then-port-places : goal.returns-then-port-places
returns-then-port-places c = sym (append-nil (puts_in c.args.staged.now.items)) ∙ ap (λ v. puts_in c.args.staged.now.items ++ puts_of_port (c.args.channel ∷ []) v) (sym (at-past c.args.inputs.now c.args.port (omega (arith, c.if-port-places.true, c.places-places.ensures))))
