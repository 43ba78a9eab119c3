use Rattle.std.specs.Prelude.{IsOk}
use Rattle.std.proofs.Common.{refl, sym, subst}
use Rattle.std.specs.Prelude.{◌≡◌, Some}
use Rattle.pt_typing.specs.Least.{assignment}
use Rattle.pt_node.specs.Shown.{shown_node}
use Rattle.pt_node.specs.View.{node_of}
use Rattle.pt_trees.specs.Trees.{IsTree, StartsAs}
use Rattle.pt_trees.specs.Built.{IsBuilt}
use Rattle.pt_trees.specs.Top.{IsJobFor}
use Rattle.pt_model.proofs.Outcomes.{on-ok, at-ok}
use Rattle.pt_elaboration.specs.Begun.{starts_in}
use Rattle.pt_model.proofs.model.model_with.Goals as goal

pub returns-clause-model : goal.returns-clause-model
returns-clause-model c = on-ok c.with_job.result (λ model is.
    let told = at-ok _ is c.with_job.ensures.ok in (
      record {
        values = c.args.started.now.values;
        typing = assignment c.args.started.now.typing;
        starts = starts_in c.args.started.now;
        started = c.requires.started;
        tree = subst (λ top. IsTree c.args.net.now (starts_in c.args.started.now) 0 (node_of (shown_node top))) (sym told.0) c.in_ok-top.ensures.tree;
        built = subst (λ top. IsBuilt c.args.net.now (starts_in c.args.started.now) 0 (shown_node top)) (sym told.0) c.in_ok-top.ensures.built;
        accepted = c.job_of-job.ensures.accepted (subst (λ job. IsOk job) (sym told.1) refl);
        supplied = at-ok _ told.1 c.job_of-job.ensures.supplied;
        tags = at-ok _ told.1 c.job_of-job.ensures.tags;
        lasts = at-ok _ told.1 c.job_of-job.ensures.lasts;
        fits = subst (λ top. IsJobFor model.job (node_of (shown_node top))) (sym told.0) (at-ok _ told.1 c.job_of-job.ensures.fits);
      },
      refl,
    ))
