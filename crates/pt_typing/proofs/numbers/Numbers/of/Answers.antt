use Rattle.std.proofs.Common.{ℕ, ◌<◌, ◌≤◌, length, arith}
use Rattle.pt_typing.proofs.Numbering.{so-far-none, so-far-more, so-far-all}
use Rattle.pt_typing.proofs.numbers.Numbers.of.Goals as goal

pub loop-port_count-init : goal.loop-port_count-init
loop-port_count-init c = so-far-none c.args.port_counts.now c.in_ok-starts.starts.items c.in_ok-starts.ensures.items

pub loop-port_count-preserved : goal.loop-port_count-preserved
loop-port_count-preserved c =
    so-far-more c.args.port_counts.now c.loop-port_count.starts.items c.push.new.self.items c.loop-port_count.all c.in_ok-end.end c.loop-port_count.port_count-index c.loop-port_count-test.true c.loop-port_count.invariant c.in_ok-push.ensures.items c.in_ok-end.ensures

pub returns : goal.returns
returns c = so-far-all c.args.port_counts.now (record { starts = c.loop-port_count.starts; all = c.loop-port_count.all }) c.loop-port_count.port_count-index c.loop-port_count-test.false c.loop-port_count.auto.port_count-index-end c.loop-port_count.invariant
