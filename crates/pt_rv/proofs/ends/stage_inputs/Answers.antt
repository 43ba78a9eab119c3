use Rattle.std.proofs.Common.{ap, length, ◌∙◌, arith}
use Rattle.pt_rv.proofs.EndLaws.{inputs-long, coming-more}
use Rattle.pt_rv.proofs.ends.stage_inputs.Goals as goal

pub stage_input-requires : goal.stage_input-requires
stage_input-requires c =
    let a = inputs-long c.loop-port.inlets.items in
    let b = inputs-long c.args.inlets.now.items in
    let e = ap (λ v. length v) c.loop-port.invariant.puts in
    omega (arith, a, b, e, c.loop-port-test.true, c.len-port-end.ensures, c.args.inlets.now.ok.0)

pub loop-port-preserved : goal.loop-port-preserved
loop-port-preserved c = record {
  puts = c.in_ok-stage_input.ensures.puts ∙ c.loop-port.invariant.puts;
  coming = coming-more c.args.plan.now.plan.net.sources c.args.inputs.now c.loop-port.inlets.items c.stage_input.new.inlets.items c.loop-port.port c.loop-port.invariant.coming c.in_ok-stage_input.ensures.coming c.in_ok-stage_input.ensures.others;
}

pub returns-clause-coming : goal.returns-clause-coming
returns-clause-coming c j l =
    let a = inputs-long c.loop-port.inlets.items in
    let b = inputs-long c.args.inlets.now.items in
    let e = ap (λ v. length v) c.loop-port.invariant.puts in
    c.loop-port.invariant.coming j (omega (arith, l, a, b, e, c.loop-port-test.false, c.len-port-end.ensures, c.args.inlets.now.ok.0))
