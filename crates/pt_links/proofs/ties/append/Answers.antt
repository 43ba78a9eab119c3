use Rattle.pt_links.proofs.TieSteps.{append_row}
use Rattle.pt_links.proofs.ties.append.Goals as goal

pub returns : goal.returns
returns c = append_row c.args.table.now.items c.args.port c.args.relation c.index_mut.result.now c.push.new.self c.requires c.index_mut.ensures.value c.in_ok-push.ensures
