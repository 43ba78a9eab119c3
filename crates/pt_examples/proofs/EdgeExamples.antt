-- The models at the edges compute.
use Rattle.std.proofs.Common.{refl}
use Rattle.pt_meaning.specs.Flow.{flow}
use Rattle.pt_meaning.specs.Rounds.{round}
use Rattle.pt_meaning.specs.Kahn.{kahn}
use Rattle.pt_meaning.specs.Valuation.{valuation, tick}
use Rattle.pt_meaning.specs.Process.{advanced}
use Rattle.pt_meaning.specs.Rendezvous.{under_meetings}
use Rattle.pt_meaning.specs.Step.{step_at}
use Rattle.pt_meaning.specs.Job.{after}
use Rattle.pt_examples.specs.Edges.{EdgeExamples}

pub edge_examples : EdgeExamples
unfolding after step_at kahn round flow valuation tick under_meetings advanced
edge_examples = record {
  resets = refl;
  resets_inside = refl;
  resets_once = refl;
  starves = refl;
  meets_alone = refl;
  no_channel_meeting = refl;
  never_meets = refl;
  doubles_in_time = refl;
  leaves_next = refl;
  stands_still = refl;
  re_enters = refl;
  re_enters_anew = refl;
  silence_is_no_rate = refl;
  one_sum = refl;
  wakes_again = refl;
  wakes_once = refl;
  gives_what_is_due = refl;
  fault_decides = refl;
  acts_in_order = refl;
  third_is_faulty = refl;
}
