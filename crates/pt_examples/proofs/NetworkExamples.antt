-- The examples of PN compute.
use Rattle.std.proofs.Common.{refl}
use Rattle.pt_meaning.specs.Flow.{flow}
use Rattle.pt_meaning.specs.Rounds.{round}
use Rattle.pt_meaning.specs.Kahn.{kahn}
use Rattle.pt_meaning.specs.Valuation.{valuation, tick}
use Rattle.pt_meaning.specs.Process.{advanced}
use Rattle.pt_meaning.specs.Rendezvous.{under_meetings}
use Rattle.pt_meaning.specs.Step.{step_at}
use Rattle.pt_meaning.specs.Job.{after}
use Rattle.pt_examples.specs.Networks.{NetworkExamples}

pub network_examples : NetworkExamples
unfolding after step_at kahn round flow valuation tick under_meetings advanced
network_examples = record {
  both_wait = refl;
  sums = refl;
  grows_on = refl;
  firings_grow = refl;
  no_jam_in_the_meaning = refl;
  both_stuck = refl;
  other_stuck = refl;
  selects = refl;
  triples = refl;
  triples_three = refl;
  triples_below_de = refl;
  thirteen_firings = refl;
  line_gives = refl;
  four_hundred_firings = refl;
  hundred_tokens = refl;
  last_token = refl;
  hundred_end = refl;
  at_once = refl;
  in_parts = refl;
  first_event_alone = refl;
}
