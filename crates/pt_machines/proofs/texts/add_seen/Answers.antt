use Rattle.pt_machine.specs.Machines.{seen_token}
use Rattle.pt_machines.specs.Sites.{scope_at}
use Rattle.pt_machines.proofs.TextLaws.{seen-more, seen-all}
use Rattle.pt_machines.proofs.texts.add_seen.Goals as goal

pub loop-name-preserved : goal.loop-name-preserved
loop-name-preserved c =
    seen-more (seen_token (scope_at c.args.site.now).around) c.args.names.now c.loop-name.name-index c.name-item.result c.args.seen.now.items c.loop-name.seen.items c.add_token.new.seen.items c.loop-name-test.true c.name-item.is c.loop-name.invariant c.in_ok-add_token.ensures

pub returns : goal.returns
returns c = seen-all (seen_token (scope_at c.args.site.now).around) c.args.names.now c.loop-name.name-index c.args.seen.now.items c.loop-name.seen.items c.loop-name-test.false c.loop-name.invariant
