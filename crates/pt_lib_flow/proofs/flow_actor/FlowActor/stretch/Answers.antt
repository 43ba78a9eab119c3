use Rattle.std.proofs.Common.{ap, sym, subst}
use Rattle.pt_flow_base.specs.Number.{GivesStretch}
use Rattle.pt_flow_base.proofs.InTurn.{held-stretch}
use Rattle.pt_flow_numbers.specs.AbsoluteValue as absolute_value
use Rattle.pt_flow_numbers.specs.Accumulator as accumulator
use Rattle.pt_flow_numbers.specs.AddSubtract as add_subtract
use Rattle.pt_flow_streams.specs.Const as constant
use Rattle.pt_flow_numbers.specs.Counter as counter
use Rattle.pt_flow_streams.specs.DownSample as down_sample
use Rattle.pt_flow_numbers.specs.Extreme as extreme
use Rattle.pt_flow_numbers.specs.MultiplyDivide as multiply_divide
use Rattle.pt_flow_numbers.specs.Ramp as ramp
use Rattle.pt_flow_streams.specs.SampleDelay as sample_delay
use Rattle.pt_flow_numbers.specs.Scale as scale
use Rattle.pt_flow_streams.specs.Sequence as sequence
use Rattle.pt_flow_streams.specs.UpSample as up_sample
use Rattle.pt_lib_flow.specs.declared.flow_actor.FlowActor.TheVariants.{AbsoluteValue, Accumulator, AddSubtract, Const, Counter, DownSample, Extreme, MultiplyDivide, Ramp, SampleDelay, Scale, Sequence, UpSample}
use Rattle.pt_lib_flow.specs.FlowActor as flow_actor
use Rattle.pt_lib_flow.proofs.flow_actor.FlowActor.stretch.Goals as goal

pub returns-in-AbsoluteValue : goal.returns-in-AbsoluteValue
returns-in-AbsoluteValue c =
    let a = c.in-AbsoluteValue.actor in
    subst (λ s. GivesStretch flow_actor.step s c.args.inputs.now c.args.rate c.stretch_of_ones.result c.stretch_of_ones.new.given.items (AbsoluteValue c.stretch_of_ones.new.actor)) (sym c.in-AbsoluteValue.is)
    (held-stretch AbsoluteValue absolute_value.step flow_actor.step (λ tag s t X out e. ap (flow_actor.held_as AbsoluteValue) e) a c.stretch_of_ones.new.actor c.args.inputs.now c.args.rate c.stretch_of_ones.result c.stretch_of_ones.new.given.items c.stretch_of_ones.ensures)

pub returns-in-Accumulator : goal.returns-in-Accumulator
returns-in-Accumulator c =
    let a = c.in-Accumulator.actor in
    subst (λ s. GivesStretch flow_actor.step s c.args.inputs.now c.args.rate c.stretch_taken_out.result c.stretch_taken_out.new.given.items (Accumulator c.stretch_taken_out.new.actor)) (sym c.in-Accumulator.is)
    (held-stretch Accumulator accumulator.step flow_actor.step (λ tag s t X out e. ap (flow_actor.held_as Accumulator) e) a c.stretch_taken_out.new.actor c.args.inputs.now c.args.rate c.stretch_taken_out.result c.stretch_taken_out.new.given.items c.stretch_taken_out.ensures)

pub returns-in-AddSubtract : goal.returns-in-AddSubtract
returns-in-AddSubtract c =
    let a = c.in-AddSubtract.actor in
    subst (λ s. GivesStretch flow_actor.step s c.args.inputs.now c.args.rate c.stretch_of_ones-in-AddSubtract.result c.stretch_of_ones-in-AddSubtract.new.given.items (AddSubtract c.stretch_of_ones-in-AddSubtract.new.actor)) (sym c.in-AddSubtract.is)
    (held-stretch AddSubtract add_subtract.step flow_actor.step (λ tag s t X out e. ap (flow_actor.held_as AddSubtract) e) a c.stretch_of_ones-in-AddSubtract.new.actor c.args.inputs.now c.args.rate c.stretch_of_ones-in-AddSubtract.result c.stretch_of_ones-in-AddSubtract.new.given.items c.stretch_of_ones-in-AddSubtract.ensures)

pub returns-in-Const : goal.returns-in-Const
returns-in-Const c =
    let a = c.in-Const.actor in
    subst (λ s. GivesStretch flow_actor.step s c.args.inputs.now c.args.rate c.stretch_of_ones-in-Const.result c.stretch_of_ones-in-Const.new.given.items (Const c.stretch_of_ones-in-Const.new.actor)) (sym c.in-Const.is)
    (held-stretch Const constant.step flow_actor.step (λ tag s t X out e. ap (flow_actor.held_as Const) e) a c.stretch_of_ones-in-Const.new.actor c.args.inputs.now c.args.rate c.stretch_of_ones-in-Const.result c.stretch_of_ones-in-Const.new.given.items c.stretch_of_ones-in-Const.ensures)

pub returns-in-Counter : goal.returns-in-Counter
returns-in-Counter c =
    let a = c.in-Counter.actor in
    subst (λ s. GivesStretch flow_actor.step s c.args.inputs.now c.args.rate c.stretch_of_ones-in-Counter.result c.stretch_of_ones-in-Counter.new.given.items (Counter c.stretch_of_ones-in-Counter.new.actor)) (sym c.in-Counter.is)
    (held-stretch Counter counter.step flow_actor.step (λ tag s t X out e. ap (flow_actor.held_as Counter) e) a c.stretch_of_ones-in-Counter.new.actor c.args.inputs.now c.args.rate c.stretch_of_ones-in-Counter.result c.stretch_of_ones-in-Counter.new.given.items c.stretch_of_ones-in-Counter.ensures)

pub returns-in-DownSample : goal.returns-in-DownSample
returns-in-DownSample c =
    let a = c.in-DownSample.actor in
    subst (λ s. GivesStretch flow_actor.step s c.args.inputs.now c.args.rate c.stretch_of_ones-in-DownSample.result c.stretch_of_ones-in-DownSample.new.given.items (DownSample c.stretch_of_ones-in-DownSample.new.actor)) (sym c.in-DownSample.is)
    (held-stretch DownSample down_sample.step flow_actor.step (λ tag s t X out e. ap (flow_actor.held_as DownSample) e) a c.stretch_of_ones-in-DownSample.new.actor c.args.inputs.now c.args.rate c.stretch_of_ones-in-DownSample.result c.stretch_of_ones-in-DownSample.new.given.items c.stretch_of_ones-in-DownSample.ensures)

pub returns-in-Extreme : goal.returns-in-Extreme
returns-in-Extreme c =
    let a = c.in-Extreme.actor in
    subst (λ s. GivesStretch flow_actor.step s c.args.inputs.now c.args.rate c.stretch_of_ones-in-Extreme.result c.stretch_of_ones-in-Extreme.new.given.items (Extreme c.stretch_of_ones-in-Extreme.new.actor)) (sym c.in-Extreme.is)
    (held-stretch Extreme extreme.step flow_actor.step (λ tag s t X out e. ap (flow_actor.held_as Extreme) e) a c.stretch_of_ones-in-Extreme.new.actor c.args.inputs.now c.args.rate c.stretch_of_ones-in-Extreme.result c.stretch_of_ones-in-Extreme.new.given.items c.stretch_of_ones-in-Extreme.ensures)

pub returns-in-MultiplyDivide : goal.returns-in-MultiplyDivide
returns-in-MultiplyDivide c =
    let a = c.in-MultiplyDivide.actor in
    subst (λ s. GivesStretch flow_actor.step s c.args.inputs.now c.args.rate c.stretch_of_ones-in-MultiplyDivide.result c.stretch_of_ones-in-MultiplyDivide.new.given.items (MultiplyDivide c.stretch_of_ones-in-MultiplyDivide.new.actor)) (sym c.in-MultiplyDivide.is)
    (held-stretch MultiplyDivide multiply_divide.step flow_actor.step (λ tag s t X out e. ap (flow_actor.held_as MultiplyDivide) e) a c.stretch_of_ones-in-MultiplyDivide.new.actor c.args.inputs.now c.args.rate c.stretch_of_ones-in-MultiplyDivide.result c.stretch_of_ones-in-MultiplyDivide.new.given.items c.stretch_of_ones-in-MultiplyDivide.ensures)

pub returns-in-Ramp : goal.returns-in-Ramp
returns-in-Ramp c =
    let a = c.in-Ramp.actor in
    subst (λ s. GivesStretch flow_actor.step s c.args.inputs.now c.args.rate c.stretch_taken_out-in-Ramp.result c.stretch_taken_out-in-Ramp.new.given.items (Ramp c.stretch_taken_out-in-Ramp.new.actor)) (sym c.in-Ramp.is)
    (held-stretch Ramp ramp.step flow_actor.step (λ tag s t X out e. ap (flow_actor.held_as Ramp) e) a c.stretch_taken_out-in-Ramp.new.actor c.args.inputs.now c.args.rate c.stretch_taken_out-in-Ramp.result c.stretch_taken_out-in-Ramp.new.given.items c.stretch_taken_out-in-Ramp.ensures)

pub returns-in-SampleDelay : goal.returns-in-SampleDelay
returns-in-SampleDelay c =
    let a = c.in-SampleDelay.actor in
    subst (λ s. GivesStretch flow_actor.step s c.args.inputs.now c.args.rate c.stretch_of_ones-in-SampleDelay.result c.stretch_of_ones-in-SampleDelay.new.given.items (SampleDelay c.stretch_of_ones-in-SampleDelay.new.actor)) (sym c.in-SampleDelay.is)
    (held-stretch SampleDelay sample_delay.step flow_actor.step (λ tag s t X out e. ap (flow_actor.held_as SampleDelay) e) a c.stretch_of_ones-in-SampleDelay.new.actor c.args.inputs.now c.args.rate c.stretch_of_ones-in-SampleDelay.result c.stretch_of_ones-in-SampleDelay.new.given.items c.stretch_of_ones-in-SampleDelay.ensures)

pub returns-in-Scale : goal.returns-in-Scale
returns-in-Scale c =
    let a = c.in-Scale.actor in
    subst (λ s. GivesStretch flow_actor.step s c.args.inputs.now c.args.rate c.stretch_of_ones-in-Scale.result c.stretch_of_ones-in-Scale.new.given.items (Scale c.stretch_of_ones-in-Scale.new.actor)) (sym c.in-Scale.is)
    (held-stretch Scale scale.step flow_actor.step (λ tag s t X out e. ap (flow_actor.held_as Scale) e) a c.stretch_of_ones-in-Scale.new.actor c.args.inputs.now c.args.rate c.stretch_of_ones-in-Scale.result c.stretch_of_ones-in-Scale.new.given.items c.stretch_of_ones-in-Scale.ensures)

pub returns-in-Sequence : goal.returns-in-Sequence
returns-in-Sequence c =
    let a = c.in-Sequence.actor in
    subst (λ s. GivesStretch flow_actor.step s c.args.inputs.now c.args.rate c.stretch_of_ones-in-Sequence.result c.stretch_of_ones-in-Sequence.new.given.items (Sequence c.stretch_of_ones-in-Sequence.new.actor)) (sym c.in-Sequence.is)
    (held-stretch Sequence sequence.step flow_actor.step (λ tag s t X out e. ap (flow_actor.held_as Sequence) e) a c.stretch_of_ones-in-Sequence.new.actor c.args.inputs.now c.args.rate c.stretch_of_ones-in-Sequence.result c.stretch_of_ones-in-Sequence.new.given.items c.stretch_of_ones-in-Sequence.ensures)

pub returns-in-UpSample : goal.returns-in-UpSample
returns-in-UpSample c =
    let a = c.in-UpSample.actor in
    subst (λ s. GivesStretch flow_actor.step s c.args.inputs.now c.args.rate c.stretch.result c.stretch.new.given.items (UpSample a)) (sym c.in-UpSample.is)
    (held-stretch UpSample up_sample.step flow_actor.step (λ tag s t X out e. ap (flow_actor.held_as UpSample) e) a a c.args.inputs.now c.args.rate c.stretch.result c.stretch.new.given.items c.stretch.ensures)
