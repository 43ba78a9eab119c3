use Rattle.std.proofs.Common.{◌+◌, List, ℕ, map, take, sym, subst}
use Rattle.pt_meaning.specs.Log.{Meeting}
use Rattle.pt_firing.specs.declared.ask.Meeting.TheVariants as asked
use Rattle.pt_trace.specs.declared.meetings.MeetingLine.{MeetingLine}
use Rattle.pt_meeting_lines.specs.Inside.{CanBeTold}
use Rattle.pt_meeting_lines.specs.Lines.{meant, IsLine, AreLines}
use Rattle.pt_meeting_lines.proofs.Firings.{zip-next, all-at}
use Rattle.pt_meeting_lines.proofs.inside.Inside.lines.Goals as goal

pub line-requires-clause-told : goal.line-requires-clause-told
line-requires-clause-told c =
    all-at (λ (m : ℕ × Meeting). CanBeTold c.args.self.now m.1) meant c.args.made.now c.loop-firing.firing-index (0, asked.Channel 0) c.requires.told c.loop-firing-test.true

pub loop-firing-preserved : goal.loop-firing-preserved
loop-firing-preserved c =
    let i = c.loop-firing.firing-index in
    let more = zip-next (IsLine c.args.self.now.net.now c.args.self.now.number c.args.self.now.composite.now) meant c.loop-firing.lines.items c.args.made.now i c.in_ok-line.line (0, asked.Channel 0) c.loop-firing.invariant c.loop-firing-test.true c.in_ok-line.ensures in
    subst (λ (ls : List MeetingLine). AreLines c.args.self.now.net.now c.args.self.now.number c.args.self.now.composite.now ls (map meant (take (i + 1) c.args.made.now))) (sym c.in_ok-push.ensures.items) more
