use Rattle.pt_pn_work.proofs.LeastLaws.{best-is}
use Rattle.pt_pn_work.proofs.laws.the_best_grows.Goals as goal

pub returns : goal.returns
returns c s o i l w h = best-is s o i l w h
