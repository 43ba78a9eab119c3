use Rattle.std.proofs.Common.{ℕ, get_or, arith}
use Rattle.pt_meaning.specs.Log.{Meeting}
use Rattle.pt_firing.specs.declared.ask.Meeting.TheVariants as asked
use Rattle.pt_meeting_lines.specs.Inside.{CanBeTold}
use Rattle.pt_meeting_lines.specs.Lines.{meant}
use Rattle.pt_meeting_lines.proofs.Firings.{all-at}
use Rattle.pt_meeting_text.proofs.Lines.{writing-none, writing_few, writing-next, writing-all}
use Rattle.pt_meeting_text.proofs.writing.write_each.Goals as goal

pub loop-firing-init : goal.loop-firing-init
loop-firing-init c = (writing-none c.args.inside.now c.args.made.now c.args.out.now.items c.args.earlier.now c.requires.none, c.requires.known)

pub write_line-requires-clause-told : goal.write_line-requires-clause-told
write_line-requires-clause-told c =
    all-at (λ (m : ℕ × Meeting). CanBeTold c.args.inside.now m.1) meant c.args.made.now c.loop-firing.firing-index (0, asked.Channel 0) c.requires.told c.loop-firing-test.true

pub loop-firing-preserved : goal.loop-firing-preserved
loop-firing-preserved c = (
  writing-next c.args.inside.now c.args.made.now c.loop-firing.firing-index c.args.out.now.items c.loop-firing.out.items c.write_line.new.out.items c.loop-firing.earlier c.write_line.new.earlier (0, asked.Channel 0) c.loop-firing.invariant.0 c.loop-firing-test.true c.in_ok-write_line.ensures.written c.in_ok-write_line.ensures.counted,
  c.in_ok-write_line.ensures.known,
)

pub returns : goal.returns
returns c = writing-all c.args.inside.now c.args.made.now c.loop-firing.firing-index c.args.out.now.items c.loop-firing.out.items c.loop-firing.earlier c.loop-firing.invariant.0 c.loop-firing-test.false

pub write_line-requires-clause-few : goal.write_line-requires-clause-few
write_line-requires-clause-few c =
    let few = writing_few c.args.inside.now c.args.made.now c.loop-firing.firing-index c.args.out.now.items c.loop-firing.out.items c.loop-firing.earlier (get_or c.args.made.now c.loop-firing.firing-index (0, asked.Channel 0)).0 c.loop-firing.invariant.0 in
    omega (arith, few, c.loop-firing-test.true)
