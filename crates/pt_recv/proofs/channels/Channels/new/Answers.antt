use Rattle.std.proofs.Common.{◌∙◌, [], ap₂}
use Rattle.std.proofs.lemmas.List.{length-replicate}
use Rattle.pt_value.specs.declared.token.Token.TheVariants.{Int}
use Rattle.pt_recv.specs.Fronts.{joined, lessened}
use Rattle.pt_recv.proofs.FrontLaws.{joined-none, lessened-none, covered-none}
use Rattle.pt_recv.proofs.channels.Channels.new.Goals as goal

pub invariant_of-result : goal.invariant_of-result
invariant_of-result c =
    rw (c.in_ok-pool.ensures.lists, c.in_ok-pool.ensures.spares, c.in_ok-runs.ensures) record {
      lists = length-replicate c.args.n [];
      spares = length-replicate c.args.n 0;
      runs = length-replicate c.args.n [];
      covered = covered-none Int c.args.n;
    }

pub returns-clause-lists : goal.returns-clause-lists
returns-clause-lists c = ap₂ (joined Int) c.in_ok-runs.ensures c.in_ok-pool.ensures.lists ∙ joined-none Int c.args.n

pub returns-clause-spares : goal.returns-clause-spares
returns-clause-spares c = ap₂ lessened c.in_ok-runs.ensures c.in_ok-pool.ensures.spares ∙ lessened-none Int c.args.n
