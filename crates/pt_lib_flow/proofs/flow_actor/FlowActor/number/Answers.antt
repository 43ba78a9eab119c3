use Rattle.std.proofs.Common.{sym, subst, refl}
use Rattle.pt_lib_flow.specs.declared.flow_actor.FlowActor.TheVariants.{AbsoluteValue, Accumulator, AddSubtract, Const, Counter, DownSample, Extreme, MultiplyDivide, Ramp, SampleDelay, Scale, Sequence}
use Rattle.pt_lib_flow.specs.FlowActor as flow_actor
use Rattle.pt_flow_numbers.specs.AbsoluteValue as absolute_value
use Rattle.pt_flow_numbers.specs.Accumulator as accumulator
use Rattle.pt_flow_numbers.specs.AddSubtract as add_subtract
use Rattle.pt_flow_streams.specs.Const as constant
use Rattle.pt_flow_numbers.specs.Counter as counter
use Rattle.pt_flow_streams.specs.DownSample as down_sample
use Rattle.pt_flow_numbers.specs.Extreme as extreme
use Rattle.pt_flow_numbers.specs.MultiplyDivide as multiply_divide
use Rattle.pt_flow_numbers.specs.Ramp as ramp
use Rattle.pt_flow_streams.specs.SampleDelay as sample_delay
use Rattle.pt_flow_numbers.specs.Scale as scale
use Rattle.pt_flow_streams.specs.Sequence as sequence
use Rattle.pt_flow_base.specs.Number.{GivesNumber}
use Rattle.pt_lib_flow.proofs.Held.{held-number}
use Rattle.pt_lib_flow.proofs.flow_actor.FlowActor.number.Goals as goal

pub returns-in-AbsoluteValue : goal.returns-in-AbsoluteValue
returns-in-AbsoluteValue c =
    let X = c.args.inputs.now in
    subst (λ s. GivesNumber flow_actor.step s X c.number.result (AbsoluteValue c.in-AbsoluteValue.actor)) (sym c.in-AbsoluteValue.is) (held-number AbsoluteValue absolute_value.step flow_actor.step c.in-AbsoluteValue.actor c.in-AbsoluteValue.actor X c.number.result (λ tag. refl) c.number.ensures)

pub returns-in-Accumulator : goal.returns-in-Accumulator
returns-in-Accumulator c =
    let X = c.args.inputs.now in
    subst (λ s. GivesNumber flow_actor.step s X c.number-in-Accumulator.result (Accumulator c.number-in-Accumulator.new.self)) (sym c.in-Accumulator.is) (held-number Accumulator accumulator.step flow_actor.step c.in-Accumulator.actor c.number-in-Accumulator.new.self X c.number-in-Accumulator.result (λ tag. refl) c.number-in-Accumulator.ensures)

pub returns-in-AddSubtract : goal.returns-in-AddSubtract
returns-in-AddSubtract c =
    let X = c.args.inputs.now in
    subst (λ s. GivesNumber flow_actor.step s X c.number-in-AddSubtract.result (AddSubtract c.in-AddSubtract.actor)) (sym c.in-AddSubtract.is) (held-number AddSubtract add_subtract.step flow_actor.step c.in-AddSubtract.actor c.in-AddSubtract.actor X c.number-in-AddSubtract.result (λ tag. refl) c.number-in-AddSubtract.ensures)

pub returns-in-Const : goal.returns-in-Const
returns-in-Const c =
    let X = c.args.inputs.now in
    subst (λ s. GivesNumber flow_actor.step s X c.number-in-Const.result (Const c.number-in-Const.new.self)) (sym c.in-Const.is) (held-number Const constant.step flow_actor.step c.in-Const.actor c.number-in-Const.new.self X c.number-in-Const.result (λ tag. refl) c.number-in-Const.ensures)

pub returns-in-Ramp : goal.returns-in-Ramp
returns-in-Ramp c =
    let X = c.args.inputs.now in
    subst (λ s. GivesNumber flow_actor.step s X c.number-in-Ramp.result (Ramp c.number-in-Ramp.new.self)) (sym c.in-Ramp.is) (held-number Ramp ramp.step flow_actor.step c.in-Ramp.actor c.number-in-Ramp.new.self X c.number-in-Ramp.result (λ tag. refl) c.number-in-Ramp.ensures)

pub returns-in-Scale : goal.returns-in-Scale
returns-in-Scale c =
    let X = c.args.inputs.now in
    subst (λ s. GivesNumber flow_actor.step s X c.number-in-Scale.result (Scale c.in-Scale.actor)) (sym c.in-Scale.is) (held-number Scale scale.step flow_actor.step c.in-Scale.actor c.in-Scale.actor X c.number-in-Scale.result (λ tag. refl) c.number-in-Scale.ensures)

pub returns-in-Counter : goal.returns-in-Counter
returns-in-Counter c =
    let X = c.args.inputs.now in
    subst (λ s. GivesNumber flow_actor.step s X c.number-in-Counter.result (Counter c.number-in-Counter.new.self)) (sym c.in-Counter.is) (held-number Counter counter.step flow_actor.step c.in-Counter.actor c.number-in-Counter.new.self X c.number-in-Counter.result (λ tag. refl) c.number-in-Counter.ensures)

pub returns-in-DownSample : goal.returns-in-DownSample
returns-in-DownSample c =
    let X = c.args.inputs.now in
    subst (λ s. GivesNumber flow_actor.step s X c.number-in-DownSample.result (DownSample c.in-DownSample.actor)) (sym c.in-DownSample.is) (held-number DownSample down_sample.step flow_actor.step c.in-DownSample.actor c.in-DownSample.actor X c.number-in-DownSample.result (λ tag. refl) c.number-in-DownSample.ensures)

pub returns-in-Extreme : goal.returns-in-Extreme
returns-in-Extreme c =
    let X = c.args.inputs.now in
    subst (λ s. GivesNumber flow_actor.step s X c.number-in-Extreme.result (Extreme c.in-Extreme.actor)) (sym c.in-Extreme.is) (held-number Extreme extreme.step flow_actor.step c.in-Extreme.actor c.in-Extreme.actor X c.number-in-Extreme.result (λ tag. refl) c.number-in-Extreme.ensures)

pub returns-in-MultiplyDivide : goal.returns-in-MultiplyDivide
returns-in-MultiplyDivide c =
    let X = c.args.inputs.now in
    subst (λ s. GivesNumber flow_actor.step s X c.number-in-MultiplyDivide.result (MultiplyDivide c.in-MultiplyDivide.actor)) (sym c.in-MultiplyDivide.is) (held-number MultiplyDivide multiply_divide.step flow_actor.step c.in-MultiplyDivide.actor c.in-MultiplyDivide.actor X c.number-in-MultiplyDivide.result (λ tag. refl) c.number-in-MultiplyDivide.ensures)

pub returns-in-SampleDelay : goal.returns-in-SampleDelay
returns-in-SampleDelay c =
    let X = c.args.inputs.now in
    subst (λ s. GivesNumber flow_actor.step s X c.number-in-SampleDelay.result (SampleDelay c.in-SampleDelay.actor)) (sym c.in-SampleDelay.is) (held-number SampleDelay sample_delay.step flow_actor.step c.in-SampleDelay.actor c.in-SampleDelay.actor X c.number-in-SampleDelay.result (λ tag. refl) c.number-in-SampleDelay.ensures)

pub returns-in-Sequence : goal.returns-in-Sequence
returns-in-Sequence c =
    let X = c.args.inputs.now in
    subst (λ s. GivesNumber flow_actor.step s X c.number-in-Sequence.result (Sequence c.number-in-Sequence.new.self)) (sym c.in-Sequence.is) (held-number Sequence sequence.step flow_actor.step c.in-Sequence.actor c.number-in-Sequence.new.self X c.number-in-Sequence.result (λ tag. refl) c.number-in-Sequence.ensures)
