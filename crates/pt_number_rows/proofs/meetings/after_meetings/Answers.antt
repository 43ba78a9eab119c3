use Rattle.std.proofs.Common.{◌≡◌, [], ◌∷◌, refl, sym, subst, ◌∙◌}
use Rattle.pt_firing.specs.declared.ask.Ask.TheVariants as ask
use Rattle.pt_firing.specs.Meeting.{meeting_of}
use Rattle.pt_core.specs.Met.{made_with}
use Rattle.pt_directors.specs.Directors.{of_rendezvous}
use Rattle.pt_node.specs.Acts.{acts}
use Rattle.pt_turns.specs.Between.{At, Halts}
use Rattle.pt_turns.specs.OwnMeetings.{own_of}
use Rattle.pt_turns.proofs.Acting.{acts-law}
use Rattle.pt_turns.proofs.Firing.{may-ask, asked-maximum, halts-here, at-met, move-lessens}
use Rattle.pt_turns.proofs.Loop.{on-ok, on-err, once-asked}
use Rattle.pt_number_rows.proofs.meetings.after_meetings.Goals as goal

pub ask-requires : goal.ask-requires
ask-requires c = let r = c.requires.1.1.1 in may-ask acts acts-law (c.loop-meeting.invariant r.before r.olds c.requires.1.1.0 r.inputs r.allowance r.start c.requires.0 c.requires.1.0 r.at)

pub returns-in_default : goal.returns-in_default
returns-in_default c before olds tag X allowance start now left a = once-asked acts acts-law (c.loop-meeting.invariant before olds tag X allowance start now left a) c.ask.result (of_rendezvous c.ask.new.self) c.ask.ensures.gives c.ask.ensures.state

pub returns-then-is_err : goal.returns-then-is_err
returns-then-is_err c before olds tag X allowance start now left a =
    let kept = on-err c.note.result (c.note.new.self ≡ c.loop-meeting.meetings) (sym c.is_err.ensures.value ∙ c.if-is_err.true) c.note.ensures.kept in
    let at = c.loop-meeting.invariant before olds tag X allowance start now left a in
    subst (λ r. Halts acts before olds tag X allowance (own_of c.args.made start r) (of_rendezvous c.ask.new.self) now left) (sym kept) (halts-here acts acts-law at (of_rendezvous c.ask.new.self) (asked-maximum acts acts-law at (ask.Meet c.in-Meet.meeting) (of_rendezvous c.ask.new.self) c.in-Meet.ensures.state))

pub loop-meeting-smaller : goal.loop-meeting-smaller
loop-meeting-smaller c =
    let r = c.requires.1.1.1 in
    move-lessens acts acts-law (c.loop-meeting.invariant r.before r.olds c.requires.1.1.0 r.inputs r.allowance r.start c.requires.0 c.requires.1.0 r.at) (ask.Meet c.in-Meet.meeting) tt c.in-Meet.ensures.gives (of_rendezvous c.ask.new.self) c.in-Meet.ensures.state

pub loop-meeting-preserved : goal.loop-meeting-preserved
loop-meeting-preserved c before olds tag X allowance start now left a =
    let noted = on-ok c.note.result (c.note.new.self ≡ made_with c.args.made (meeting_of c.in-Meet.meeting ∷ []) c.loop-meeting.meetings) (sym c.is_err.ensures.value ∙ c.if-is_err.false) c.note.ensures.noted in
    subst (λ r. At acts before olds tag X allowance (own_of c.args.made start r) (of_rendezvous c.ask.new.self) now left) (sym noted)
    (at-met acts acts-law (c.loop-meeting.invariant before olds tag X allowance start now left a) (ask.Meet c.in-Meet.meeting) tt c.in-Meet.ensures.gives (of_rendezvous c.ask.new.self) c.in-Meet.ensures.state c.in-Meet.meeting refl)
