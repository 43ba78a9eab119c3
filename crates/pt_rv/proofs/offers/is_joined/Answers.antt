use Rattle.std.proofs.Common.{get_or, ◌∙◌}
use Rattle.pt_rv_work.specs.Core.{nobody}
use Rattle.pt_rv.proofs.OfferLaws.{joins-so}
use Rattle.pt_rv.proofs.offers.is_joined.Goals as goal

pub returns-clause-joins : goal.returns-clause-joins
returns-clause-joins c = c.is_join.ensures ∙ joins-so (get_or c.args.parties.now.team c.args.process nobody) c.next-event.result c.next-event.ensures.next
