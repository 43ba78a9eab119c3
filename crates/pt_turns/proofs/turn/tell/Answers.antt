use Rattle.std.proofs.Common.{◌≡◌, ap, ap₂, ◌∙◌, sym}
use Rattle.pt_firing.specs.Need.{need_of}
use Rattle.pt_directors.specs.Directors.{director_calls}
use Rattle.pt_node.specs.Firing.{noted, recorded}
use Rattle.pt_node.specs.Shown.{shown_node}
use Rattle.pt_node.specs.View.{outline_of}
use Rattle.pt_node.proofs.OutlineLaws.{outline_bare, outline_recorded}
use Rattle.pt_turns.proofs.Acting.{acts-law}
use Rattle.pt_turns.proofs.Answering.{if-ok}
use Rattle.pt_turns.proofs.Loop.{on-ok, on-err}
use Rattle.pt_turns.proofs.Turning.{may-ask-once-told, maximum-once-told, accepted-so, refused-so, tell-refused, refused-spends, wake-recorded, need-recorded}
use Rattle.pt_turns.proofs.turn.tell.Goals as goal
use Rattle.pt_turns.proofs.turn.tell.Goals.{then-child-via-then-child, then-child-via-else-child+then-is_err}

pub wake-wake-requires : goal.wake-wake-requires
wake-wake-requires c = c.requires.fit.0

pub is_wrong-requires : goal.is_wrong-requires
is_wrong-requires c = may-ask-once-told director_calls acts-law.agree c.args.director.now c.told.new.self c.args.number c.args.outputs c.wake-wake.result (need_of c.need.result) c.requires.asked (on-ok c.told.result (c.told.new.self ≡ director_calls.told c.args.number c.args.outputs c.wake-wake.result (need_of c.need.result) c.args.director.now) (sym c.is_err-2.ensures.value ∙ c.if-is_err-2.false) c.told.ensures.told)

pub returns-then-child-clause-outline : goal.returns-then-child-clause-outline
returns-then-child-clause-outline c =
    elim c.then-child.branch [
      | then-child-via-then-child w ↦ ap (λ n. outline_of (shown_node n)) w.child-is
      | then-child-via-else-child+then-is_err w ↦ ap (λ n. outline_of (shown_node n)) w.child-is ∙ outline_bare (shown_node w.note.new.self) (shown_node c.args.child.now) w.note.ensures.kept
    ]

pub returns-then-is_err-2-clause-outline : goal.returns-then-is_err-2-clause-outline
returns-then-is_err-2-clause-outline c = outline_bare (shown_node c.note.new.self) (shown_node c.args.child.now) c.note.ensures.kept

pub returns-then-is_wrong-clause-goes : goal.returns-then-is_wrong-clause-goes
returns-then-is_wrong-clause-goes c = tell-refused director_calls c.args.director.now c.told.new.self (shown_node c.args.child.now) (shown_node c.note.new.self) c.args.number c.args.tag c.args.outputs c.refusal-refusal.result c.refuse.result (refused-so director_calls acts-law.agree c.args.director.now c.told.new.self c.args.number c.args.outputs c.wake-wake.result (need_of c.need.result) c.requires.asked (on-ok c.told.result (c.told.new.self ≡ director_calls.told c.args.number c.args.outputs c.wake-wake.result (need_of c.need.result) c.args.director.now) (sym c.is_err-2.ensures.value ∙ c.if-is_err-2.false) c.told.ensures.told) c.is_wrong.result c.is_wrong.ensures c.if-is_wrong.true) c.refusal-refusal.ensures c.note.ensures.kept c.refuse.ensures

pub returns-then-is_wrong-clause-spends : goal.returns-then-is_wrong-clause-spends
returns-then-is_wrong-clause-spends c = refused-spends (shown_node c.note.new.self) c.refusal-refusal.result c.refuse.result c.args.left.now c.args.left.now c.refuse.ensures

pub returns-then-is_wrong-clause-outline : goal.returns-then-is_wrong-clause-outline
returns-then-is_wrong-clause-outline c = outline_bare (shown_node c.note.new.self) (shown_node c.args.child.now) c.note.ensures.kept

pub returns-clause-goes : goal.returns-clause-goes
returns-clause-goes c =
    let told = on-ok c.told.result (c.told.new.self ≡ director_calls.told c.args.number c.args.outputs c.wake-wake.result (need_of c.need.result) c.args.director.now) (sym c.is_err-2.ensures.value ∙ c.if-is_err-2.false) c.told.ensures.told in
    let after = c.record.ensures ∙ ap (λ s. recorded c.args.tag s) (if-ok c.note.result (shown_node c.note.new.self ≡ noted c.args.tag c.args.outputs (shown_node c.args.child.now)) (sym c.is_err.ensures.value ∙ c.if-is_err.false) c.note.ensures.noted) in (
      accepted-so director_calls acts-law.agree c.args.director.now c.told.new.self c.args.number c.args.outputs c.wake-wake.result (need_of c.need.result) c.requires.asked told c.is_wrong.result c.is_wrong.ensures c.if-is_wrong.false,
      told ∙ ap₂ (λ w n. director_calls.told c.args.number c.args.outputs w n c.args.director.now) (wake-recorded c.args.tag c.args.outputs (shown_node c.args.child.now) (shown_node c.record.new.self) c.wake-wake.result (c.wake-wake.ensures c.args.tag) after) (c.need.ensures ∙ need-recorded c.args.tag (shown_node c.note.new.self) (shown_node c.record.new.self) c.record.ensures),
      after,
    )

pub returns-clause-outline : goal.returns-clause-outline
returns-clause-outline c = ap (λ s. outline_of s) c.record.ensures ∙ outline_recorded c.args.tag (shown_node c.note.new.self) ∙ outline_bare (shown_node c.note.new.self) (shown_node c.args.child.now) c.note.ensures.kept

pub returns-then-is_err-2-clause-maximum : goal.returns-then-is_err-2-clause-maximum
returns-then-is_err-2-clause-maximum c = ap (λ v. director_calls.maximum v) (on-err c.told.result (c.told.new.self ≡ c.args.director.now) (sym c.is_err-2.ensures.value ∙ c.if-is_err-2.true) c.told.ensures.kept)

pub returns-then-is_wrong-clause-maximum : goal.returns-then-is_wrong-clause-maximum
returns-then-is_wrong-clause-maximum c = maximum-once-told director_calls acts-law.agree c.args.director.now c.told.new.self c.args.number c.args.outputs c.wake-wake.result (need_of c.need.result) c.requires.asked (on-ok c.told.result (c.told.new.self ≡ director_calls.told c.args.number c.args.outputs c.wake-wake.result (need_of c.need.result) c.args.director.now) (sym c.is_err-2.ensures.value ∙ c.if-is_err-2.false) c.told.ensures.told)

pub returns-clause-maximum : goal.returns-clause-maximum
returns-clause-maximum c = maximum-once-told director_calls acts-law.agree c.args.director.now c.told.new.self c.args.number c.args.outputs c.wake-wake.result (need_of c.need.result) c.requires.asked (on-ok c.told.result (c.told.new.self ≡ director_calls.told c.args.number c.args.outputs c.wake-wake.result (need_of c.need.result) c.args.director.now) (sym c.is_err-2.ensures.value ∙ c.if-is_err-2.false) c.told.ensures.told)
