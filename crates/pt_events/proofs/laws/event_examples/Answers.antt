use Rattle.std.proofs.Common.{refl}
use Rattle.pt_events.proofs.laws.event_examples.Goals as goal

pub returns : goal.returns
returns c = record {
  three = record { order = refl; first = refl; by_depth = refl; back = refl; nothing = refl; kept = refl; again = refl; empty = refl; end = refl };
  equal = record { one = refl; two = refl; three = refl; end = refl };
  microsteps = record { first = refl; before = refl; one = refl; none = refl; both = refl; later = refl };
  depths = record { diamond = refl; delay = refl; chain = refl };
}
