use Rattle.std.proofs.Common.{sym, ap, ◌∙◌}
use Rattle.pt_typing.specs.Least.{assignment}
use Rattle.pt_core.specs.declared.either.Either.TheVariants.{Other}
use Rattle.pt_node.specs.declared.body.Body.TheVariants.{Composite}
use Rattle.pt_node.specs.Shown.{shown_node}
use Rattle.pt_model.proofs.TopLaws.{top-core, top-directs, sdf-iterates, sr-iterates, de-timed, sdf-top, pn-top, rv-top, modal-top, sdf-fits, sr-fits, de-fits, pn-fits, rv-fits}
use Rattle.pt_elaboration.specs.Begun.{starts_in}
use Rattle.pt_model.proofs.job.job_of.Goals as goal

-- a top of SDF or SR has a number of iterations or ticks
pub sdf_job-requires-clause-iterates : goal.sdf_job-requires-clause-iterates
sdf_job-requires-clause-iterates c =
    let s = c.args.started.now in
    sdf-iterates c.args.net.now s.values (shown_node c.args.top.now) c.requires.document c.requires.started.resolved.valued (top-core c.args.net.now s.values (starts_in s) (shown_node c.args.top.now) c.requires.started.placed c.requires.built) c.in-First.core (c.director_of.ensures ∙ ap Composite c.in-First.is)

pub sr_job-requires-clause-iterates : goal.sr_job-requires-clause-iterates
sr_job-requires-clause-iterates c =
    let s = c.args.started.now in
    sr-iterates c.args.net.now s.values (shown_node c.args.top.now) c.requires.document c.requires.started.resolved.valued (top-core c.args.net.now s.values (starts_in s) (shown_node c.args.top.now) c.requires.started.placed c.requires.built) c.in-First-other.field-0
    (c.director_of.ensures ∙ ap Composite (c.in-Other.is ∙ ap (λ v. Other v) c.in-First-other.is))

-- a top of DE is timed
pub de_job-requires-clause-timed : goal.de_job-requires-clause-timed
de_job-requires-clause-timed c =
    let s = c.args.started.now in
    de-timed c.args.net.now (shown_node c.args.top.now) (top-core c.args.net.now s.values (starts_in s) (shown_node c.args.top.now) c.requires.started.placed c.requires.built) c.in-First-later.field-0
    (c.director_of.ensures ∙ ap Composite (c.in-Other.is ∙ ap (λ v. Other v) (c.in-Other-other.is ∙ ap (λ v. Other v) c.in-First-later.is)))

pub director_of-requires : goal.director_of-requires
director_of-requires c =
    let s = c.args.started.now in
    top-directs c.args.net.now (shown_node c.args.top.now) (top-core c.args.net.now s.values (starts_in s) (shown_node c.args.top.now) c.requires.started.placed c.requires.built)

-- under SDF, PN and Rendezvous no token may be absent
pub sdf_job-requires-clause-present : goal.sdf_job-requires-clause-present
sdf_job-requires-clause-present c =
    let s = c.args.started.now in
    sdf-top c.args.net.now (shown_node c.args.top.now) (top-core c.args.net.now s.values (starts_in s) (shown_node c.args.top.now) c.requires.started.placed c.requires.built) c.in-First.core (c.director_of.ensures ∙ ap Composite c.in-First.is)

pub once_job-requires-clause-present : goal.once_job-requires-clause-present
once_job-requires-clause-present c =
    let s = c.args.started.now in
    pn-top c.args.net.now (shown_node c.args.top.now) (top-core c.args.net.now s.values (starts_in s) (shown_node c.args.top.now) c.requires.started.placed c.requires.built) c.in-First-last.field-0
    (c.director_of.ensures ∙ ap Composite (c.in-Other.is ∙ ap (λ v. Other v) (c.in-Other-other.is ∙ ap (λ v. Other v) (c.in-Other-later.is ∙ ap (λ v. Other v) c.in-First-last.is))))

pub returns-in_ok-job-in-First-clause-fits : goal.returns-in_ok-job-in-First-clause-fits
returns-in_ok-job-in-First-clause-fits c =
    let s = c.args.started.now in
    sdf-fits c.args.net.now s.values (shown_node c.args.top.now) (top-core c.args.net.now s.values (starts_in s) (shown_node c.args.top.now) c.requires.started.placed c.requires.built) c.in-First.core c.in_ok-job-in-First.job (c.director_of.ensures ∙ ap Composite c.in-First.is) c.in_ok-job-in-First.ensures.supplied
    (c.in_ok-job-in-First.ensures.takes ∙ c.takes.ensures)

pub returns-in_ok-job-in-First-other-clause-fits : goal.returns-in_ok-job-in-First-other-clause-fits
returns-in_ok-job-in-First-other-clause-fits c =
    let s = c.args.started.now in
    sr-fits c.args.net.now s.values (shown_node c.args.top.now) (top-core c.args.net.now s.values (starts_in s) (shown_node c.args.top.now) c.requires.started.placed c.requires.built) c.in-First-other.field-0 c.in_ok-job-in-First-other.job
    (c.director_of.ensures ∙ ap Composite (c.in-Other.is ∙ ap (λ v. Other v) c.in-First-other.is)) c.in_ok-job-in-First-other.ensures.supplied

pub returns-in_ok-job-in-First-later-clause-fits : goal.returns-in_ok-job-in-First-later-clause-fits
returns-in_ok-job-in-First-later-clause-fits c =
    let s = c.args.started.now in
    de-fits c.args.net.now s.values (shown_node c.args.top.now) (top-core c.args.net.now s.values (starts_in s) (shown_node c.args.top.now) c.requires.started.placed c.requires.built) c.in-First-later.field-0 c.in_ok-job-in-First-later.job
    (c.director_of.ensures ∙ ap Composite (c.in-Other.is ∙ ap (λ v. Other v) (c.in-Other-other.is ∙ ap (λ v. Other v) c.in-First-later.is))) c.in_ok-job-in-First-later.ensures.supplied c.in_ok-job-in-First-later.ensures.ascend

pub returns-in_ok-job-in-First-last-clause-fits : goal.returns-in_ok-job-in-First-last-clause-fits
returns-in_ok-job-in-First-last-clause-fits c =
    let s = c.args.started.now in
    pn-fits c.args.net.now s.values (shown_node c.args.top.now) (top-core c.args.net.now s.values (starts_in s) (shown_node c.args.top.now) c.requires.started.placed c.requires.built) c.in-First-last.field-0 c.in_ok-job-in-First-last.job
    (c.director_of.ensures ∙ ap Composite (c.in-Other.is ∙ ap (λ v. Other v) (c.in-Other-other.is ∙ ap (λ v. Other v) (c.in-Other-later.is ∙ ap (λ v. Other v) c.in-First-last.is)))) c.in_ok-job-in-First-last.ensures.supplied

pub once_job-requires-in-Other-end-clause-present : goal.once_job-requires-in-Other-end-clause-present
once_job-requires-in-Other-end-clause-present c =
    let s = c.args.started.now in
    rv-top c.args.net.now (shown_node c.args.top.now) (top-core c.args.net.now s.values (starts_in s) (shown_node c.args.top.now) c.requires.started.placed c.requires.built) c.in-Other-end.field-0
    (c.director_of.ensures ∙ ap Composite (c.in-Other.is ∙ ap (λ v. Other v) (c.in-Other-other.is ∙ ap (λ v. Other v) (c.in-Other-later.is ∙ ap (λ v. Other v) (c.in-Other-last.is ∙ ap (λ v. Other v) c.in-Other-end.is)))))

pub returns-in_ok-job-in-Other-end-clause-fits : goal.returns-in_ok-job-in-Other-end-clause-fits
returns-in_ok-job-in-Other-end-clause-fits c =
    let s = c.args.started.now in
    rv-fits c.args.net.now s.values (shown_node c.args.top.now) (top-core c.args.net.now s.values (starts_in s) (shown_node c.args.top.now) c.requires.started.placed c.requires.built) c.in-Other-end.field-0 c.in_ok-job-in-Other-end.job
    (c.director_of.ensures ∙ ap Composite (c.in-Other.is ∙ ap (λ v. Other v) (c.in-Other-other.is ∙ ap (λ v. Other v) (c.in-Other-later.is ∙ ap (λ v. Other v) (c.in-Other-last.is ∙ ap (λ v. Other v) c.in-Other-end.is))))) c.in_ok-job-in-Other-end.ensures.supplied

-- no top is Modal
pub unreachable-requires : goal.unreachable-requires
unreachable-requires c =
    let s = c.args.started.now in
    modal-top c.args.net.now (shown_node c.args.top.now) (top-core c.args.net.now s.values (starts_in s) (shown_node c.args.top.now) c.requires.started.placed c.requires.built) c.in-First-end.field-0
    (c.director_of.ensures ∙ ap Composite (c.in-Other.is ∙ ap (λ v. Other v) (c.in-Other-other.is ∙ ap (λ v. Other v) (c.in-Other-later.is ∙ ap (λ v. Other v) (c.in-Other-last.is ∙ ap (λ v. Other v) c.in-First-end.is)))))
