-- The command that the words of the program are parsed by.
use Rattle.std.specs.Prelude.{ℕ, true, List, Some, codes}
use Rattle.clap.specs.Walk.{Rule}
use Rattle.clap.specs.Simple.{App, new_app, new_rule, on_top, with_rule, with_subcommand}

-- an option, whose value is one text
abbrev pub option_rule : List ℕ → Rule
option_rule name = record (new_rule name) { long = Some name }

-- the number of stages, which stands by itself
abbrev pub stages_rule : Rule
stages_rule = new_rule (codes "stages")

-- the command with the options
abbrev pub with_options : App → App
with_options command = with_rule (with_rule command (option_rule (codes "workers"))) (option_rule (codes "budget"))

abbrev pub run_command : App
run_command = with_options (new_app (codes "run"))

abbrev pub check_command : App
check_command = new_app (codes "check")

abbrev pub generation_command : App
generation_command = with_rule (new_app (codes "gen")) stages_rule

abbrev pub demonstration_command : App
demonstration_command = with_rule (with_options (new_app (codes "demo"))) stages_rule

-- a program whose first word is no name of its own, which answers no call for help and wants a subcommand
abbrev pub bare_program : App
bare_program =
    on_top (λ top. record top { no_binary_name = true; disable_help_flag = true; disable_help_subcommand = true; subcommand_required = true })
    (new_app (codes "ptrun"))

-- the program, with its subcommands in this order
unfoldable pub program : App
program =
    with_subcommand (with_subcommand (with_subcommand (with_subcommand bare_program run_command.top) check_command.top) generation_command.top) demonstration_command.top
