use Rattle.std.proofs.Common.{◌∙◌, arith}
use Rattle.pt_rv.proofs.EndLaws.{arrive-more, arrive-behind, arrive-all}
use Rattle.pt_rv.proofs.ends.arrive_all.Goals as goal

pub loop-port-preserved : goal.loop-port-preserved
loop-port-preserved c = record {
  counted = c.arrive_at.ensures.counted ∙ c.loop-port.invariant.counted;
  before = arrive-more c.args.inlets.now.items c.loop-port.inlets.items c.arrive_at.new.inlets.items c.loop-port.port (omega (arith, c.loop-port-test.true, c.len-port-end.ensures, c.args.inlets.now.ok.0)) c.loop-port.invariant.counted c.loop-port.invariant.before c.loop-port.invariant.behind c.arrive_at.ensures.puts c.arrive_at.ensures.others;
  behind = arrive-behind c.args.inlets.now.items c.loop-port.inlets.items c.arrive_at.new.inlets.items c.loop-port.port c.loop-port.invariant.behind c.arrive_at.ensures.others;
}

pub returns : goal.returns
returns c = arrive-all c.args.inlets.now.items c.loop-port.inlets.items c.loop-port.port (omega (arith, c.loop-port-test.false, c.len-port-end.ensures, c.args.inlets.now.ok.0)) c.loop-port.invariant.counted c.loop-port.invariant.before
