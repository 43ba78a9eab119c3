use Rattle.clap.specs.Matches.{found_of}
use Rattle.clap.specs.Walk.{rows_of}
use Rattle.clap.specs.Simple.{subcommand_rows_of}
use Rattle.pt_words.proofs.Found.{command_met, told_by}
use Rattle.pt_words.proofs.line.line_in.Goals as goal

pub returns-in_ok-parts_of-in-Some : goal.returns-in_ok-parts_of-in-Some
returns-in_ok-parts_of-in-Some c =
    told_by (subcommand_rows_of c.args.matches.now) c.in-Some.command.now (rows_of (found_of c.in-Some.matches.now)) c.parts_of.result c.in_ok-parts_of-in-Some.field-0 c.asked.result (command_met _ _ _ c.in-Some.ensures.name c.in-Some.ensures.rows) c.in_ok-parts_of-in-Some.was c.parts_of.ensures c.asked.ensures
