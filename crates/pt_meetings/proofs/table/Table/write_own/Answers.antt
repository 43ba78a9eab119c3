use Rattle.std.proofs.Common.{[], ◌∷◌, ◌++◌, sym, ap, ◌∙◌, map, append-nil}
use Rattle.pt_meeting_lines.specs.Lines.{meant}
use Rattle.pt_trace.specs.MeetingText.{meetings_text}
use Rattle.pt_meetings.proofs.Owning.{can-tell, told-as, none-own}
use Rattle.pt_meetings.proofs.table.Table.write_own.Goals as goal

pub returns-in_default : goal.returns-in_default
returns-in_default c = ([], none-own c.args.self.now.net.now c.args.k c.args.record.now c.in_default.ensures, sym (append-nil c.args.out.now.items))

pub write_meetings-requires-clause-inside : goal.write_meetings-requires-clause-inside
write_meetings-requires-clause-inside c = c.inside-inside.ensures.inside

pub write_meetings-requires-clause-told : goal.write_meetings-requires-clause-told
write_meetings-requires-clause-told c =
    can-tell c.args.self.now.net.now c.args.k (map meant c.in-Some.made.now) c.inside-inside.result c.inside-inside.ensures.net c.inside-inside.ensures.number c.inside-inside.ensures.inside c.args.record.now c.in-Some.ensures c.requires.told

pub returns : goal.returns
returns c =
    let w = c.in_ok-write_meetings.ensures in (
      w.0 ∷ [],
      told-as c.args.self.now.net.now c.args.k (map meant c.in-Some.made.now) c.inside-inside.result c.inside-inside.ensures.net c.inside-inside.ensures.number c.inside-inside.ensures.inside c.args.record.now w.0 c.in-Some.ensures w.1,
      w.2 ∙ ap (λ t. c.args.out.now.items ++ t) (sym (append-nil (meetings_text w.0))),
    )
