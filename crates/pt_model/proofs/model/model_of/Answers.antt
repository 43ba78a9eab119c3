use Rattle.pt_typing.specs.Least.{assignment}
use Rattle.pt_node.specs.Shown.{shown_node}
use Rattle.pt_model.proofs.Outcomes.{on-ok, at-ok}
use Rattle.pt_elaboration.proofs.StartLaws.{started-by-class}
use Rattle.pt_model.proofs.TopLaws.{is-runnable}
use Rattle.pt_buildable.proofs.Ordered.{leaves}
use Rattle.pt_elaboration.specs.Begun.{starts_in}
use Rattle.pt_model.proofs.model.model_of.Goals as goal

pub returns-clause-model : goal.returns-clause-model
returns-clause-model c = on-ok c.model_with-model.result (λ model is. (at-ok _ is c.model_with-model.ensures.model).0)

pub returns-clause-runnable : goal.returns-clause-runnable
returns-clause-runnable c = on-ok c.model_with-model.result (λ model is.
    let made = (at-ok _ is c.model_with-model.ensures.model).0 in
    is-runnable c.args.net.now (starts_in c.in_ok-started.started) (shown_node model.top) model.job (at-ok _ is c.model_with-model.ensures.built) (at-ok _ is c.model_with-model.ensures.fresh) made.fits)

pub returns-clause-numbered : goal.returns-clause-numbered
returns-clause-numbered c = on-ok c.model_with-model.result (λ model is.
    let s = c.in_ok-started.started in
    let by_class = started-by-class c.args.net.now s.values (assignment s.typing) (starts_in s) c.in_ok-started.ensures.started.started in
    c.ports_are_numbered.ensures c.requires.job c.args.net.now (starts_in s) (shown_node model.top) (leaves c.args.net.now c.requires) c.requires.made by_class (at-ok _ is c.model_with-model.ensures.built))

pub of-requires : goal.of-requires
of-requires c = (c.requires.job, leaves c.args.net.now c.requires, c.requires.made)
