use Rattle.pt_node.specs.Shown.{shown_node}
use Rattle.pt_meetings.proofs.Telling.{lists-tell}
use Rattle.pt_meetings.proofs.meetings.write_meetings_of.Goals as goal

pub returns : goal.returns
returns c =
    let w = c.in_ok-write_lists.ensures in
    (w.0, w.1, lists-tell c.args.net.now (shown_node c.args.top.now) w.0 c.requires.stands c.requires.apart w.1, w.2)
