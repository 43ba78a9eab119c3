use Rattle.std.proofs.Common.{ap, ap₂, ◌∙◌}
use Rattle.pt_meaning.specs.Process.{puts_of_port}
use Rattle.pt_rv_plan.specs.Ends.{Arriving}
use Rattle.pt_rv_parts.proofs.ListLaws.{where-ok}
use Rattle.pt_rv.specs.Ends.{no_inlet}
use Rattle.pt_rv.proofs.EndLaws.{input-same, inlet-here, inlet-other}
use Rattle.pt_rv.proofs.ends.stage_input.Goals as goal

pub returns-clause-puts : goal.returns-clause-puts
returns-clause-puts c = input-same c.args.inlets.now.items c.args.port c.index_mut.result.now c.stage.new.self c.index_mut.ensures.value c.stage.ensures.puts

pub returns-clause-coming : goal.returns-clause-coming
returns-clause-coming c =
    where-ok c.stage.result (λ e. ap (λ (i : Arriving). i.coming) (inlet-here c.args.inlets.now.items c.args.port c.stage.new.self no_inlet c.requires) ∙ e ∙ ap₂ (λ v w. puts_of_port v w) c.own_fan-fan.ensures c.list_at-tokens.ensures) c.stage.ensures.coming

pub returns-clause-others : goal.returns-clause-others
returns-clause-others c j z = inlet-other c.args.inlets.now.items c.args.port j c.stage.new.self no_inlet z
