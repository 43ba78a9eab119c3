use Rattle.pt_lib_timed.proofs.ArrivalLaws.{end-is}
use Rattle.pt_lib_timed.proofs.arrivals.end_of.Goals as goal

pub returns : goal.returns
returns c = end-is c.args.from c.args.delay c.after.result c.after.ensures.fits c.after.ensures.value
