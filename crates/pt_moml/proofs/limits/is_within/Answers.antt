use Rattle.std.proofs.Common.{ap, ◌∙◌, option_map}
use Rattle.std.specs.Prelude.{is_some}
use Rattle.pt_json.specs.View.{view}
use Rattle.pt_moml.specs.Limits.{nest_field}
use Rattle.pt_moml.proofs.Nests.{is_within_is}
use Rattle.pt_moml.proofs.limits.is_within.Goals as goal

pub returns : goal.returns
returns c =
    c.is_some.ensures ∙ ap is_some c.room_behind.ensures ∙ is_within_is (nest_field (option_map (λ v. view v.now) c.args.field))
