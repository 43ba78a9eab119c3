-- The examples compute.
use Rattle.std.proofs.Common.{refl}
use Rattle.pt_firing.specs.Params.{value_under, channels_to}
use Rattle.pt_lib_time.specs.Merge.{first_present}
use Rattle.pt_lib_time.specs.NonStrictLogicGate.{result, is_decided}
use Rattle.pt_lib_time.specs.Examples.{AbsentExamples, CurrentExamples, DefaultExamples, MergeExamples, NonStrictDelayExamples, NonStrictLogicGateExamples, NonStrictMuxExamples, PreExamples, WhenExamples, OtherExamples, TimeExamples}

absent_examples : AbsentExamples
unfolding value_under channels_to result is_decided
absent_examples = record {
  is_absent = refl;
  needs_nothing = refl;
}

current_examples : CurrentExamples
unfolding value_under channels_to result is_decided
current_examples = record {
  latest = refl;
  waits = refl;
}

default_examples : DefaultExamples
unfolding value_under channels_to result is_decided
default_examples = record {
  prefers = refl;
  preferred_suffices = refl;
  alternate_waits = refl;
  absent_waits = refl;
  absent_then = refl;
}

merge_examples : MergeExamples
unfolding value_under channels_to first_present
merge_examples = record {
  takes_any = refl;
  first_of_two = refl;
  waits = refl;
}

non_strict_delay_examples : NonStrictDelayExamples
unfolding value_under channels_to result is_decided
non_strict_delay_examples = record {
  delays = refl;
  from_absent = refl;
  at_once = refl;
  absent_at_once = refl;
  later_at_once = refl;
}

non_strict_logic_gate_examples : NonStrictLogicGateExamples
unfolding value_under channels_to result is_decided
non_strict_logic_gate_examples = record {
  both = refl;
  either = refl;
  false_decides = refl;
  true_waits = refl;
  true_decides = refl;
  false_waits = refl;
  absent_waits = refl;
  no_other = refl;
}

non_strict_mux_examples : NonStrictMuxExamples
unfolding value_under channels_to result is_decided
non_strict_mux_examples = record {
  selects = refl;
  outside = refl;
  below = refl;
  channel_suffices = refl;
  absent_channel_suffices = refl;
  channel_waits = refl;
  select_waits = refl;
  absent_select_suffices = refl;
  outside_is_unknown = refl;
}

pre_examples : PreExamples
unfolding value_under channels_to result is_decided
pre_examples = record {
  before = refl;
  from_nothing = refl;
  waits = refl;
}

when_examples : WhenExamples
unfolding value_under channels_to result is_decided
when_examples = record {
  passes = refl;
  waits = refl;
}

other_examples : OtherExamples
unfolding value_under channels_to result is_decided
other_examples = record {
  another = refl;
}

pub time_examples : TimeExamples
unfolding value_under channels_to result is_decided
time_examples = record {
  absent = absent_examples;
  current = current_examples;
  default = default_examples;
  merge = merge_examples;
  non_strict_delay = non_strict_delay_examples;
  non_strict_logic_gate = non_strict_logic_gate_examples;
  non_strict_mux = non_strict_mux_examples;
  pre = pre_examples;
  when = when_examples;
  other = other_examples;
}
