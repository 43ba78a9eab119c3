use Rattle.std.proofs.Common.{sym, subst}
use Rattle.pt_node.specs.Shown.{shown_node}
use Rattle.pt_buildable.proofs.Ordered.{leaves}
use Rattle.pt_check.specs.Facts.{AreFacts}
use Rattle.pt_model.proofs.Outcomes.{on-ok, at-ok}
use Rattle.pt_model.proofs.check.check_net.Goals as goal

-- the facts are of the types of the model
pub returns-clause-facts : goal.returns-clause-facts
returns-clause-facts c = on-ok c.facts_with.result (λ facts is.
    let model = c.in_ok-model.model in
    record {
      top = shown_node model.top;
      job = model.job;
      model = c.in_ok-model.ensures.model.0;
      are = subst (λ typing. AreFacts c.args.net.now typing (shown_node model.top) facts) (sym c.in_ok-model.ensures.model.1) (at-ok _ is c.facts_with.ensures.facts);
    })

pub of-requires : goal.of-requires
of-requires c = (c.requires.job, leaves c.args.net.now c.requires, c.requires.made)
