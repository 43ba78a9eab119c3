use Rattle.pt_charts.proofs.ReadableLaws.{clean}
use Rattle.pt_charts.proofs.readable.readable_texts_are_clean.Goals as goal

pub returns : goal.returns
returns c = clean
