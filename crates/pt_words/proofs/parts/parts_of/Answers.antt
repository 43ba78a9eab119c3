use Rattle.std.proofs.Common.{◌∙◌, sym, subst, Option}
use Rattle.clap.specs.Matches.{found_of}
use Rattle.clap.specs.Walk.{rows_of}
use Rattle.clap.proofs.WalkLemmas.{first_value-rows}
use Rattle.pt_words.specs.declared.parts.Parts.{Parts}
use Rattle.pt_words.specs.Matches.{AreParts}
use Rattle.pt_words.specs.Parts.{IsTheOne}
use Rattle.pt_words.proofs.Found.{no_stages, no_workers, no_budget, all_parts}
use Rattle.pt_words.proofs.parts.parts_of.Goals as goal

pub returns-in_err-stages : goal.returns-in_err-stages
returns-in_err-stages c =
    let f = found_of c.args.matches.now in
    subst (λ (o : Option Parts). IsTheOne (AreParts (rows_of f)) o) (sym c.from_residual.ensures)
    (no_stages (rows_of f) _ c.stages_in.result (c.get_str.ensures ∙ first_value-rows f _) c.in_err-stages.was c.stages_in.ensures)

pub returns-in_err-workers : goal.returns-in_err-workers
returns-in_err-workers c =
    let f = found_of c.args.matches.now in
    subst (λ (o : Option Parts). IsTheOne (AreParts (rows_of f)) o) (sym c.from_residual-in_err-workers.ensures)
    (no_workers (rows_of f) _ c.workers_in.result (c.get_str-2.ensures ∙ first_value-rows f _) c.in_err-workers.was c.workers_in.ensures)

pub returns-in_err-budget : goal.returns-in_err-budget
returns-in_err-budget c =
    let f = found_of c.args.matches.now in
    subst (λ (o : Option Parts). IsTheOne (AreParts (rows_of f)) o) (sym c.from_residual-in_err-budget.ensures)
    (no_budget (rows_of f) _ c.budget_in.result (c.get_str-3.ensures ∙ first_value-rows f _) c.in_err-budget.was c.budget_in.ensures)

pub returns : goal.returns
returns c =
    let f = found_of c.args.matches.now in
    all_parts (rows_of f) _ _ _ c.stages_in.result c.workers_in.result c.budget_in.result c.in_ok-stages.stages c.in_ok-workers.workers c.in_ok-budget.budget (c.get_str.ensures ∙ first_value-rows f _) (c.get_str-2.ensures ∙ first_value-rows f _) (c.get_str-3.ensures ∙ first_value-rows f _)
    c.in_ok-stages.was c.in_ok-workers.was c.in_ok-budget.was c.stages_in.ensures c.workers_in.ensures c.budget_in.ensures
