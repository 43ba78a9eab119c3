use Rattle.std.proofs.Common.{[], ◌∷◌, ◌++◌, length, map, ap, ◌∙◌, arith, length-append}
use Rattle.std.proofs.lemmas.List.{map-append}
use Rattle.pt_meaning.specs.Log as log
use Rattle.pt_firing.specs.Meeting.{meeting_of}
use Rattle.pt_reaction.specs.Spared.{Spared}
use Rattle.pt_rv_plan.proofs.meetings.Meetings.note.Goals as goal

pub push_reserved-requires : goal.push_reserved-requires
push_reserved-requires c =
    let e = ap (λ (s : Spared log.Meeting). s.spare) c.self.view_is in
    omega (arith, e, c.requires, c.self.invariant, c.self.inside.list.ok.0)

pub invariant_of-self : goal.invariant_of-self
invariant_of-self c =
    let e = ap (λ (s : Spared log.Meeting). s.spare) c.self.view_is in
    let n = ap (λ v. length v) c.push_reserved.ensures.items ∙ length-append c.self.inside.list.items (c.args.meeting ∷ []) in
    omega (arith, e, n, c.requires, c.push_reserved.ensures.capacity, c.self.invariant)

pub returns-clause-list : goal.returns-clause-list
returns-clause-list c =
    ap (λ v. map meeting_of v) c.push_reserved.ensures.items ∙ map-append meeting_of c.self.inside.list.items (c.args.meeting ∷ []) ∙ ap (λ (s : Spared log.Meeting). s.list ++ meeting_of c.args.meeting ∷ []) c.self.view_is
