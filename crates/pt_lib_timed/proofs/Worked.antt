-- The examples compute.
use Rattle.std.proofs.Common.{refl}
use Rattle.pt_firing.specs.Params.{value_under}
use Rattle.pt_lib_timed.specs.Examples.{SingleEventExamples, CurrentTimeExamples, DiscreteClockExamples, SamplerExamples, RegisterExamples, TimeDelayExamples, ServerExamples, OtherExamples, TimedExamples}

single_event_examples : SingleEventExamples
unfolding value_under
single_event_examples = record {
  once = refl;
  late = refl;
  wakes = refl;
  sleeps = refl;
}

current_time_examples : CurrentTimeExamples
unfolding value_under
current_time_examples = record {
  tells = refl;
  waits = refl;
}

discrete_clock_examples : DiscreteClockExamples
unfolding value_under
discrete_clock_examples = record {
  ticks = refl;
  one_at_a_time = refl;
  wakes = refl;
  wakes_again = refl;
  last = refl;
  ends = refl;
  offsets = refl;
  next_offset = refl;
  next_round = refl;
  never = refl;
  as_many_values = refl;
  no_period = refl;
}

sampler_examples : SamplerExamples
unfolding value_under
sampler_examples = record {
  samples = refl;
  nothing_yet = refl;
  initial = refl;
  waits = refl;
}

register_examples : RegisterExamples
unfolding value_under
register_examples = record {
  earlier = refl;
  last_kept = refl;
  nothing_yet = refl;
  trigger_suffices = refl;
  trigger_waits = refl;
}

time_delay_examples : TimeDelayExamples
unfolding value_under
time_delay_examples = record {
  delays = refl;
  in_order = refl;
  next_microstep = refl;
  wakes = refl;
  sleeps = refl;
  least_wakes = refl;
  second_first = refl;
  as_listed = refl;
  too_late = refl;
  nothing_arrives = refl;
  at_once = refl;
}

server_examples : ServerExamples
unfolding value_under
server_examples = record {
  serves = refl;
  in_turn = refl;
  at_no_time = refl;
  idle_again = refl;
  wakes = refl;
  too_late = refl;
  at_once = refl;
}

other_examples : OtherExamples
unfolding value_under
other_examples = record {
  another = refl;
}

pub timed_examples : TimedExamples
unfolding value_under
timed_examples = record {
  single_event = single_event_examples;
  current_time = current_time_examples;
  discrete_clock = discrete_clock_examples;
  sampler = sampler_examples;
  register = register_examples;
  time_delay = time_delay_examples;
  server = server_examples;
  other = other_examples;
}
