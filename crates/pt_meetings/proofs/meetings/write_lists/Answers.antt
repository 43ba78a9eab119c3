use Rattle.std.proofs.Common.{[], refl, sym, append-nil}
use Rattle.pt_node.specs.Shown.{shown_node}
use Rattle.pt_meetings.proofs.Recording.{none-listed}
use Rattle.pt_meetings.proofs.meetings.write_lists.Goals as goal

pub returns-else-records_any : goal.returns-else-records_any
returns-else-records_any c = ([], none-listed c.args.net.now (shown_node c.args.top.now) [] (c.records_any.ensures c.if-records_any.false) refl, sym (append-nil c.args.out.now.items))
