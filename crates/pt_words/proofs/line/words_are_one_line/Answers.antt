use Rattle.pt_words.proofs.LineLaws.{same_line}
use Rattle.pt_words.proofs.line.words_are_one_line.Goals as goal

pub returns : goal.returns
returns c = same_line
