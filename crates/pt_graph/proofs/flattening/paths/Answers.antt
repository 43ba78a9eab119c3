use Rattle.std.proofs.Common.{ap, subst}
use Rattle.std.proofs.lemmas.Result.{IfOk-weaker}
use Rattle.pt_survey.specs.Survey.{tables_view}
use Rattle.pt_net.specs.Table.{Tables}
use Rattle.pt_net.specs.Net.{AreJoints}
use Rattle.pt_graph.proofs.flattening.paths.Goals as goal

pub returns-clause-joints : goal.returns-clause-joints
returns-clause-joints c =
    IfOk-weaker c.wired_paths-paths.result _ _ (λ paths joined. subst (λ (t : Tables). AreJoints t paths.joints.items) (ap tables_view c.in_ok-wiring.ensures.tables) joined) c.wired_paths-paths.ensures.joints
