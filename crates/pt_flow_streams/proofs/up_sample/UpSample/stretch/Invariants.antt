use Rattle.pt_flow_base.specs.Number.{GivesStretch}
use Rattle.pt_flow_streams.specs.UpSample as up_sample
use Rattle.pt_flow_streams.proofs.up_sample.UpSample.stretch.Given as goal

abbrev pub invariant-loop-k : goal.invariant-loop-k
invariant-loop-k l = GivesStretch up_sample.step l.self l.inputs l.rate l.k l.given.items l.self
