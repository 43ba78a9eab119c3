use Rattle.pt_words.proofs.Within.{line_within}
use Rattle.pt_words.proofs.line.lines_are_within.Goals as goal

pub returns : goal.returns
returns c = line_within
