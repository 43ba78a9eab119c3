use Rattle.std.proofs.Common.{All, sym, subst}
use Rattle.pt_net.specs.declared.net.Net.{Net}
use Rattle.pt_node.specs.Shown.{shown_node}
use Rattle.pt_node.specs.View.{outline_of}
use Rattle.pt_meetings.specs.Sites.{CanBeTold, sites_in}
use Rattle.pt_meetings.specs.Standing.{StandsFor}
use Rattle.pt_meetings.proofs.Telling.{written-by}
use Rattle.pt_meetings.proofs.meetings.write_all.Goals as goal

pub write-requires-clause-stands : goal.write-requires-clause-stands
write-requires-clause-stands c = subst (λ (n : Net). StandsFor n.entities.items 0 (outline_of (shown_node c.args.top.now))) (sym c.in_ok-table.ensures.net) c.requires.stands

pub write-requires-clause-told : goal.write-requires-clause-told
write-requires-clause-told c = subst (λ (n : Net). All (CanBeTold n) (sites_in n.entities.items 0 (shown_node c.args.top.now))) (sym c.in_ok-table.ensures.net) c.requires.told

pub returns : goal.returns
returns c = written-by c.args.net.now c.in_ok-table.table.net.now (shown_node c.args.top.now) c.args.out.now.items c.write.new.out.items c.in_ok-table.ensures.net c.in_ok-write.ensures
