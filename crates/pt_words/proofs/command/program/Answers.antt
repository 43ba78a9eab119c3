use Rattle.std.proofs.Common.{◌≡◌, ◌∙◌, ap, ap₂}
use Rattle.std.proofs.lemmas.Result.{IfOk-weaker}
use Rattle.clap.specs.Simple.{App, app_of, with_subcommand}
use Rattle.pt_words.specs.Command.{program, bare_program, run_command, check_command, generation_command}
use Rattle.pt_words.proofs.command.program.Goals as goal

pub returns : goal.returns
unfolding program
returns c =
    let one : app_of c.in_ok-subcommand.field-0 ≡ with_subcommand bare_program run_command.top =
    c.in_ok-subcommand.ensures.shape c.in_ok-run.ensures.local ∙ ap₂ with_subcommand c.bare.ensures.app (ap (λ (a : App). a.top) c.in_ok-run.ensures.app) in
    let two : app_of c.in_ok-subcommand-2.field-0 ≡ with_subcommand (with_subcommand bare_program run_command.top) check_command.top =
    c.in_ok-subcommand-2.ensures.shape c.check.ensures.local ∙ ap₂ with_subcommand one (ap (λ (a : App). a.top) c.check.ensures.app) in
    let three : app_of c.in_ok-subcommand-3.field-0 ≡ with_subcommand (with_subcommand (with_subcommand bare_program run_command.top) check_command.top) generation_command.top =
    c.in_ok-subcommand-3.ensures.shape c.in_ok-generation.ensures.local ∙ ap₂ with_subcommand two (ap (λ (a : App). a.top) c.in_ok-generation.ensures.app) in
    IfOk-weaker c.subcommand-4.result _ _ (λ r h. h.shape c.in_ok-demonstration.ensures.local ∙ ap₂ with_subcommand three (ap (λ (a : App). a.top) c.in_ok-demonstration.ensures.app)) c.subcommand-4.ensures
