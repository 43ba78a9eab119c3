use Rattle.std.proofs.Common.{◌∙◌}
use Rattle.std.proofs.lemmas.Result.{on_ok_weaker}
use Rattle.pt_expr.specs.Env.{scope_of}
use Rattle.pt_chart.specs.Views.{names_view}
use Rattle.pt_guards.specs.Reads.{reads_view}
use Rattle.pt_guards.proofs.NameLaws.{over-parameters}
use Rattle.pt_guards.proofs.bindings.Bindings.bind.Goals as goal

pub returns-clause-bound : goal.returns-clause-bound
returns-clause-bound c =
    let table = names_view c.args.names.now in
    on_ok_weaker c.bind_names.result (λ bound. over-parameters table (reads_view c.args.reads.now) (scope_of c.args.self.now.env) (scope_of c.bind_names.new.env) c.requires.fits.parameters bound) c.bind_names.ensures.ok

pub returns-clause-fits : goal.returns-clause-fits
returns-clause-fits c = record { parameters = λ name apart. c.bind_names.ensures.others name apart ∙ c.requires.fits.parameters name apart; shown = c.requires.fits.shown }
