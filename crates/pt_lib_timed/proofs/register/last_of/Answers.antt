use Rattle.std.proofs.Common.{◌∙◌}
use Rattle.pt_lib_timed.proofs.ArrivalLaws.{last-is}
use Rattle.pt_lib_timed.proofs.register.last_of.Goals as goal

pub returns : goal.returns
returns c = c.last.ensures.value ∙ last-is c.args.tokens.now
