-- Discard: takes its inputs and gives nothing. It has no output.
use Rattle.std.specs.Prelude.{[]}
use Rattle.pt_lib_data.specs.Reply.{Reply, Gives}

abbrev pub give : Reply
give = Gives []
