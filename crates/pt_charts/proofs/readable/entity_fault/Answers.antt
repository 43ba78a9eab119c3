use Rattle.std.proofs.Common.{sym, ap, ◌∙◌}
use Rattle.std.specs.Prelude.{option_map}
use Rattle.std.proofs.lemmas.Result.{IfOk-weaker}
use Rattle.pt_net.specs.Net.{entity_view}
use Rattle.pt_scopes.specs.Valued as valued
use Rattle.pt_frames.specs.Views.{frames_view}
use Rattle.pt_inequalities.proofs.RefinementLaws.{class-modal}
use Rattle.pt_charts.proofs.ReadableLaws.{other-class, no-values, entity-found}
use Rattle.pt_charts.proofs.readable.entity_fault.Goals as goal

pub returns-then-not-is_modal : goal.returns-then-not-is_modal
returns-then-not-is_modal c = other-class (frames_view c.args.frames.now) c.args.number (entity_view c.args.entity.now) _ (sym c.is_modal.ensures ∙ c.if-not-is_modal.true)

pub returns-in-Some : goal.returns-in-Some
returns-in-Some c =
    IfOk-weaker c.chart_fault.result _ _
    (entity-found (frames_view c.args.frames.now) c.args.number (entity_view c.args.entity.now) (valued.entity_view c.in-Some.values.now) _ (class-modal c.args.entity.now.class (sym c.is_modal.ensures ∙ c.if-not-is_modal.false)) (ap (option_map (λ v. valued.entity_view v.now)) c.in-Some.is))
    c.chart_fault.ensures

pub returns-in-None : goal.returns-in-None
returns-in-None c = no-values (frames_view c.args.frames.now) c.args.number (entity_view c.args.entity.now) _ (ap (option_map (λ v. valued.entity_view v.now)) c.in-None.is)
