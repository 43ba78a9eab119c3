use Rattle.std.proofs.Common.{◌-◌, get_or, sym, arith}
use Rattle.std.proofs.lemmas.Bool.{false≢true}
use Rattle.pt_meaning.specs.Tag.{tag_le}
use Rattle.pt_agenda.proofs.EventLaws.{ascends-more, no-ascent, from-not, from-not-false}
use Rattle.pt_agenda.proofs.events.are_ascending.Goals as goal

pub returns-then-not-is_after : goal.returns-then-not-is_after
returns-then-not-is_after c = (
  (λ h. absurd (false≢true h)),
  λ rise. absurd (no-ascent c.args.events.now c.loop-next.next c.index-events-next.result c.index-events-next-in-loop-next.result (omega (arith, c.loop-next.auto.next)) c.loop-next-test.true (from-not-false (tag_le (get_or c.args.events.now c.loop-next.next c.index-events-next.result).0 (get_or c.args.events.now (c.loop-next.next - 1) c.index-events-next-in-loop-next.result).0) (sym c.if-not-is_after.ensures)) rise),
)

pub loop-next-preserved : goal.loop-next-preserved
loop-next-preserved c = ascends-more c.args.events.now c.loop-next.next c.loop-next.invariant c.loop-next-test.true c.index-events-next.result c.index-events-next-in-loop-next.result (from-not (tag_le (get_or c.args.events.now c.loop-next.next c.index-events-next.result).0 (get_or c.args.events.now (c.loop-next.next - 1) c.index-events-next-in-loop-next.result).0) (sym c.if-not-is_after.ensures))
