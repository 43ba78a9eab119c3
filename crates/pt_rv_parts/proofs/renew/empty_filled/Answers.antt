use Rattle.std.proofs.Common.{subst}
use Rattle.pt_rv_parts.specs.Process.{FilledAt}
use Rattle.pt_rv_parts.proofs.renew.empty_filled.Goals as goal

pub empty_at-requires : goal.empty_at-requires
empty_at-requires c = subst (λ f. FilledAt f c.args.row.now.items) c.in-Some.is c.requires

pub returns-in-None-clause-empty : goal.returns-in-None-clause-empty
returns-in-None-clause-empty c = subst (λ f. FilledAt f c.args.row.now.items) c.in-None.is c.requires
