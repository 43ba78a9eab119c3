use Rattle.std.proofs.Common.{[], ◌∷◌, ap, arith, map, subst, sym, ◌∙◌, refl}
use Rattle.pt_value.specs.declared.token.Token.TheVariants.{Int}
use Rattle.pt_firing.specs.declared.ask.Ask.TheVariants as ask
use Rattle.pt_directors.specs.Directors.{Director, director_calls}
use Rattle.pt_node.specs.declared.body.Body.TheVariants as body
use Rattle.pt_node.specs.Acts.{acts}
use Rattle.pt_node.specs.Shown.{shown, shown_node}
use Rattle.pt_node.specs.View.{depths}
use Rattle.pt_turns.specs.declared.rest.Rest.TheVariants as rest
use Rattle.pt_turns.specs.Turns.{TellTo}
use Rattle.pt_turns.specs.OwnMeetings.{own_of}
use Rattle.pt_turns.proofs.Turning.{turn-stuck, turn-full, turn-off, turn-off-done, turn-after, handed-once, asked-once-handed, maximum-once-handed, lent-once-handed, told-once-handed}
use Rattle.pt_turns.proofs.Acting.{acts-law}
use Rattle.pt_turns.proofs.Firing.{may-finish}
use Rattle.pt_turns.proofs.Loop.{turn-in, turn-asked, turn-may, turn-depth, turn-next}
use Rattle.pt_turns.proofs.Ending.{rested-as, rested-names, finish-ends, faulted-ends, full-ends, spent-ends, halts-ends, turn-fault-ends, turn-jam-ends, turn-spent-ends, turn-memory-ends}
use Rattle.pt_seq.proofs.NumberRows.{turn-of-several}
use Rattle.pt_turns.proofs.Entering.{actor-enters, actor-named, actor-stays, composite-enters, composite-named, composite-stays, some-given}
use Rattle.pt_seq.proofs.fire.+fire.Goals as goal

pub fire_any-lent-requires : goal.fire_any-lent-requires
fire_any-lent-requires t c = handed-once director_calls acts-law.agree c.args.director.now c.hand.new.self c.args.number c.requires.asked c.hand.ensures

pub fire_any-tell-requires-clause-fit : goal.fire_any-tell-requires-clause-fit
fire_any-tell-requires-clause-fit t c = c.in-Done.ensures.fit

pub fire_any-tell-requires-clause-asked : goal.fire_any-tell-requires-clause-asked
fire_any-tell-requires-clause-asked t c = asked-once-handed director_calls acts-law.agree c.args.director.now c.hand.new.self c.args.number c.requires.asked c.hand.ensures

pub fire_any-returns-in-Fault-clause-goes : goal.fire_any-returns-in-Fault-clause-goes
fire_any-returns-in-Fault-clause-goes t c = turn-stuck director_calls c.args.director.now (shown_node c.args.child.now) (shown_node c.fire.new.node) c.args.number c.args.tag c.lent.result c.in-Fault.place c.hand.new.self (lent-once-handed director_calls acts-law.agree c.args.director.now c.hand.new.self c.args.number c.requires.asked c.hand.ensures c.lent.result c.lent.ensures) c.in-Fault.ensures.goes

pub fire_any-returns-in-Spent-clause-goes : goal.fire_any-returns-in-Spent-clause-goes
fire_any-returns-in-Spent-clause-goes t c = turn-off (shown_node c.args.child.now) (shown_node c.fire.new.node) c.args.tag c.lent.result (director_calls.lent_of c.args.director.now) (lent-once-handed director_calls acts-law.agree c.args.director.now c.hand.new.self c.args.number c.requires.asked c.hand.ensures c.lent.result c.lent.ensures) c.in-Spent.ensures.goes

pub fire_any-returns-in-Memory-clause-goes : goal.fire_any-returns-in-Memory-clause-goes
fire_any-returns-in-Memory-clause-goes t c = turn-off (shown_node c.args.child.now) (shown_node c.fire.new.node) c.args.tag c.lent.result (director_calls.lent_of c.args.director.now) (lent-once-handed director_calls acts-law.agree c.args.director.now c.hand.new.self c.args.number c.requires.asked c.hand.ensures c.lent.result c.lent.ensures) c.in-Memory.ensures.goes

pub fire_any-returns-then-left-eq0-clause-goes : goal.fire_any-returns-then-left-eq0-clause-goes
fire_any-returns-then-left-eq0-clause-goes t c = turn-off-done (shown_node c.args.child.now) (shown_node c.fire.new.node) c.args.tag c.lent.result (director_calls.lent_of c.args.director.now) c.in-Done.outputs (lent-once-handed director_calls acts-law.agree c.args.director.now c.hand.new.self c.args.number c.requires.asked c.hand.ensures c.lent.result c.lent.ensures) c.in-Done.ensures.goes

pub fire_any-returns-clause-goes : goal.fire_any-returns-clause-goes
fire_any-returns-clause-goes t c =
    turn-after director_calls c.args.director.now (shown_node c.args.child.now) (shown_node c.fire.new.node) c.args.number c.args.tag c.lent.result c.in-Done.outputs c.tell.result c.tell.new.director (shown_node c.tell.new.child) (lent-once-handed director_calls acts-law.agree c.args.director.now c.hand.new.self c.args.number c.requires.asked c.hand.ensures c.lent.result c.lent.ensures) c.in-Done.ensures.goes c.in-Done.ensures.fit c.in-Done.ensures.outline (ap (λ p. p.made) c.in-Done.ensures.past)
    (told-once-handed director_calls acts-law.agree c.args.director.now c.hand.new.self c.args.number c.requires.asked c.hand.ensures (shown_node c.fire.new.node) c.args.tag c.in-Done.outputs c.tell.result c.tell.new.director (shown_node c.tell.new.child) c.tell.ensures.goes)

pub fire-returns-in-Actor-clause-goes : goal.fire-returns-in-Actor-clause-goes
fire-returns-in-Actor-clause-goes t c = actor-enters c.args.node.now _ _ _ c.in-Actor.held c.fire_actor.new.held c.node.view_is refl c.in-Actor.is c.args.tag c.args.inputs.now c.fire_actor.result c.fire_actor.ensures.goes refl

pub fire-returns-in-Actor-clause-fit : goal.fire-returns-in-Actor-clause-fit
fire-returns-in-Actor-clause-fit t c = actor-stays c.args.node.now _ _ _ c.in-Actor.held c.fire_actor.new.held c.node.view_is refl c.in-Actor.is c.args.tag c.args.inputs.now c.fire_actor.result c.fire_actor.ensures.goes refl c.requires.fit

pub fire-returns-in-Composite-clause-goes : goal.fire-returns-in-Composite-clause-goes
fire-returns-in-Composite-clause-goes t c = composite-enters c.args.node.now _ _ _ c.get_mut.result.now c.fire_composite.new.director _ c.fire_composite.new.meetings c.node.view_is refl (c.in-Composite.is ∙ ap (λ (d : Director). body.Composite d) (sym c.get_mut.ensures.value)) c.fire_composite.result refl c.args.tag c.args.inputs.now c.fire_composite.ensures.goes

pub fire-returns-in-Composite-clause-fit : goal.fire-returns-in-Composite-clause-fit
fire-returns-in-Composite-clause-fit t c = composite-stays c.args.node.now _ _ _ c.get_mut.result.now c.fire_composite.new.director _ c.fire_composite.new.meetings c.node.view_is refl (c.in-Composite.is ∙ ap (λ (d : Director). body.Composite d) (sym c.get_mut.ensures.value)) c.fire_composite.result refl c.fire_composite.ensures.fit

pub fire_child-returns-then-several-clause-goes : goal.fire_child-returns-then-several-clause-goes
fire_child-returns-then-several-clause-goes t c =
    let gave = some-given (shown_node c.args.child.now) (shown_node c.several.new.node) (director_calls.lent_of c.args.director.now) c.several.result c.several.new.buffers.given.items c.several.ensures.goes c.if-several.true in
    turn-of-several c.args.director.now c.args.given c.in_default.not-Some (shown_node c.args.child.now) (shown_node c.several.new.node) c.args.number c.args.tag c.several.new.buffers.given.items c.tell_numbers-then-several.result c.tell_numbers-then-several.new.director (shown_node c.tell_numbers-then-several.new.child) gave (ap (λ p. p.made) c.several.ensures.past)
    (subst (λ v. TellTo director_calls c.args.director.now (shown_node c.several.new.node) c.args.number c.args.tag (map Int v ∷ []) c.tell_numbers-then-several.result c.tell_numbers-then-several.new.director (shown_node c.tell_numbers-then-several.new.child)) c.deref.ensures.value c.tell_numbers-then-several.ensures.goes)

pub fire_any-returns-in-Full-clause-goes : goal.fire_any-returns-in-Full-clause-goes
fire_any-returns-in-Full-clause-goes t c = turn-full director_calls c.args.director.now (shown_node c.args.child.now) (shown_node c.fire.new.node) c.args.number c.args.tag c.lent.result c.in-Full.blocked c.hand.new.self (lent-once-handed director_calls acts-law.agree c.args.director.now c.hand.new.self c.args.number c.requires.asked c.hand.ensures c.lent.result c.lent.ensures) c.in-Full.ensures.goes

pub fire_any-returns-in-Fault-clause-maximum : goal.fire_any-returns-in-Fault-clause-maximum
fire_any-returns-in-Fault-clause-maximum t c = maximum-once-handed director_calls acts-law.agree c.args.director.now c.hand.new.self c.args.number c.requires.asked c.hand.ensures

pub fire_any-returns-in-Spent-clause-maximum : goal.fire_any-returns-in-Spent-clause-maximum
fire_any-returns-in-Spent-clause-maximum t c = maximum-once-handed director_calls acts-law.agree c.args.director.now c.hand.new.self c.args.number c.requires.asked c.hand.ensures

pub fire_any-returns-in-Full-clause-maximum : goal.fire_any-returns-in-Full-clause-maximum
fire_any-returns-in-Full-clause-maximum t c = maximum-once-handed director_calls acts-law.agree c.args.director.now c.hand.new.self c.args.number c.requires.asked c.hand.ensures

pub fire_any-returns-in-Memory-clause-maximum : goal.fire_any-returns-in-Memory-clause-maximum
fire_any-returns-in-Memory-clause-maximum t c = maximum-once-handed director_calls acts-law.agree c.args.director.now c.hand.new.self c.args.number c.requires.asked c.hand.ensures

pub fire_any-returns-then-left-eq0-clause-maximum : goal.fire_any-returns-then-left-eq0-clause-maximum
fire_any-returns-then-left-eq0-clause-maximum t c = maximum-once-handed director_calls acts-law.agree c.args.director.now c.hand.new.self c.args.number c.requires.asked c.hand.ensures

pub fire_any-returns-clause-maximum : goal.fire_any-returns-clause-maximum
fire_any-returns-clause-maximum t c = c.tell.ensures.maximum ∙ maximum-once-handed director_calls acts-law.agree c.args.director.now c.hand.new.self c.args.number c.requires.asked c.hand.ensures

pub fire-returns-in-Actor-clause-outline : goal.fire-returns-in-Actor-clause-outline
fire-returns-in-Actor-clause-outline t c = actor-named c.args.node.now _ _ _ c.in-Actor.held c.fire_actor.new.held c.node.view_is refl c.in-Actor.is c.args.tag c.args.inputs.now c.fire_actor.result c.fire_actor.ensures.goes refl

pub fire-returns-in-Composite-clause-outline : goal.fire-returns-in-Composite-clause-outline
fire-returns-in-Composite-clause-outline t c = composite-named c.args.node.now _ _ _ c.get_mut.result.now c.fire_composite.new.director _ c.fire_composite.new.meetings c.node.view_is refl (c.in-Composite.is ∙ ap (λ (d : Director). body.Composite d) (sym c.get_mut.ensures.value)) c.fire_composite.result refl c.fire_composite.ensures.maximum c.fire_composite.ensures.outlines

pub fire_composite-finish-requires : goal.fire_composite-finish-requires
fire_composite-finish-requires t c = let p = (rested-as c.args.director.now (map shown c.args.children.now.items) c.args.tag c.args.inputs.now c.args.left.now (own_of c.args.made c.args.meetings.now c.first_row-rest.new.meetings) c.first_row-rest.new.director (map shown c.first_row-rest.new.children.items) c.first_row-rest.new.left c.first_row-rest.result (rest.Asked ask.Finished) (c.if-is_finished.ensures refl) c.first_row-rest.ensures) in may-finish acts acts-law p.at c.args.path.now c.args.labels.now p.gives c.first_row-rest.new.director p.asking

pub fire_composite-returns-then-is_finished-clause-goes : goal.fire_composite-returns-then-is_finished-clause-goes
fire_composite-returns-then-is_finished-clause-goes t c = (finish-ends acts acts-law c.args.path.now c.args.labels.now (rested-as c.args.director.now (map shown c.args.children.now.items) c.args.tag c.args.inputs.now c.args.left.now (own_of c.args.made c.args.meetings.now c.first_row-rest.new.meetings) c.first_row-rest.new.director (map shown c.first_row-rest.new.children.items) c.first_row-rest.new.left c.first_row-rest.result (rest.Asked ask.Finished) (c.if-is_finished.ensures refl) c.first_row-rest.ensures) c.finish.result c.finish.new.director c.finish.ensures).goes

pub fire_composite-returns-then-is_finished-clause-spends : goal.fire_composite-returns-then-is_finished-clause-spends
fire_composite-returns-then-is_finished-clause-spends t c = (finish-ends acts acts-law c.args.path.now c.args.labels.now (rested-as c.args.director.now (map shown c.args.children.now.items) c.args.tag c.args.inputs.now c.args.left.now (own_of c.args.made c.args.meetings.now c.first_row-rest.new.meetings) c.first_row-rest.new.director (map shown c.first_row-rest.new.children.items) c.first_row-rest.new.left c.first_row-rest.result (rest.Asked ask.Finished) (c.if-is_finished.ensures refl) c.first_row-rest.ensures) c.finish.result c.finish.new.director c.finish.ensures).spends

pub fire_composite-returns-then-is_finished-clause-lowered : goal.fire_composite-returns-then-is_finished-clause-lowered
fire_composite-returns-then-is_finished-clause-lowered t c = (finish-ends acts acts-law c.args.path.now c.args.labels.now (rested-as c.args.director.now (map shown c.args.children.now.items) c.args.tag c.args.inputs.now c.args.left.now (own_of c.args.made c.args.meetings.now c.first_row-rest.new.meetings) c.first_row-rest.new.director (map shown c.first_row-rest.new.children.items) c.first_row-rest.new.left c.first_row-rest.result (rest.Asked ask.Finished) (c.if-is_finished.ensures refl) c.first_row-rest.ensures) c.finish.result c.finish.new.director c.finish.ensures).lowered

pub fire_composite-returns-then-is_finished-clause-fit : goal.fire_composite-returns-then-is_finished-clause-fit
fire_composite-returns-then-is_finished-clause-fit t c = (finish-ends acts acts-law c.args.path.now c.args.labels.now (rested-as c.args.director.now (map shown c.args.children.now.items) c.args.tag c.args.inputs.now c.args.left.now (own_of c.args.made c.args.meetings.now c.first_row-rest.new.meetings) c.first_row-rest.new.director (map shown c.first_row-rest.new.children.items) c.first_row-rest.new.left c.first_row-rest.result (rest.Asked ask.Finished) (c.if-is_finished.ensures refl) c.first_row-rest.ensures) c.finish.result c.finish.new.director c.finish.ensures).fit

pub fire_composite-returns-then-is_finished-clause-outlines : goal.fire_composite-returns-then-is_finished-clause-outlines
fire_composite-returns-then-is_finished-clause-outlines t c = (finish-ends acts acts-law c.args.path.now c.args.labels.now (rested-as c.args.director.now (map shown c.args.children.now.items) c.args.tag c.args.inputs.now c.args.left.now (own_of c.args.made c.args.meetings.now c.first_row-rest.new.meetings) c.first_row-rest.new.director (map shown c.first_row-rest.new.children.items) c.first_row-rest.new.left c.first_row-rest.result (rest.Asked ask.Finished) (c.if-is_finished.ensures refl) c.first_row-rest.ensures) c.finish.result c.finish.new.director c.finish.ensures).outlines

pub fire_composite-returns-then-is_finished-clause-maximum : goal.fire_composite-returns-then-is_finished-clause-maximum
fire_composite-returns-then-is_finished-clause-maximum t c = (finish-ends acts acts-law c.args.path.now c.args.labels.now (rested-as c.args.director.now (map shown c.args.children.now.items) c.args.tag c.args.inputs.now c.args.left.now (own_of c.args.made c.args.meetings.now c.first_row-rest.new.meetings) c.first_row-rest.new.director (map shown c.first_row-rest.new.children.items) c.first_row-rest.new.left c.first_row-rest.result (rest.Asked ask.Finished) (c.if-is_finished.ensures refl) c.first_row-rest.ensures) c.finish.result c.finish.new.director c.finish.ensures).maximum

pub fire_composite-returns-then-is_finished-clause-counted : goal.fire_composite-returns-then-is_finished-clause-counted
fire_composite-returns-then-is_finished-clause-counted t c = (finish-ends acts acts-law c.args.path.now c.args.labels.now (rested-as c.args.director.now (map shown c.args.children.now.items) c.args.tag c.args.inputs.now c.args.left.now (own_of c.args.made c.args.meetings.now c.first_row-rest.new.meetings) c.first_row-rest.new.director (map shown c.first_row-rest.new.children.items) c.first_row-rest.new.left c.first_row-rest.result (rest.Asked ask.Finished) (c.if-is_finished.ensures refl) c.first_row-rest.ensures) c.finish.result c.finish.new.director c.finish.ensures).counted

pub fire_composite-go_on-requires : goal.fire_composite-go_on-requires
fire_composite-go_on-requires t c = (
  omega (arith, c.decreases, ap (λ os. depths os) (rested-names c.args.director.now (map shown c.args.children.now.items) c.args.tag c.args.inputs.now c.args.left.now (own_of c.args.made c.args.meetings.now c.first_row-rest.new.meetings) c.first_row-rest.new.director (map shown c.first_row-rest.new.children.items) c.first_row-rest.new.left c.first_row-rest.result c.first_row-rest.ensures)),
  (c.args.tag, record { before = c.args.director.now; olds = map shown c.args.children.now.items; inputs = c.args.inputs.now; allowance = c.args.left.now; start = c.args.meetings.now; rested = c.first_row-rest.ensures }),
)

pub fire_composite-returns-clause-goes : goal.fire_composite-returns-clause-goes
fire_composite-returns-clause-goes t c = (c.go_on.ensures c.args.director.now (map shown c.args.children.now.items) c.args.tag c.args.inputs.now c.args.left.now c.args.meetings.now c.first_row-rest.ensures).goes

pub fire_composite-returns-clause-spends : goal.fire_composite-returns-clause-spends
fire_composite-returns-clause-spends t c = (c.go_on.ensures c.args.director.now (map shown c.args.children.now.items) c.args.tag c.args.inputs.now c.args.left.now c.args.meetings.now c.first_row-rest.ensures).spends

pub fire_composite-returns-clause-lowered : goal.fire_composite-returns-clause-lowered
fire_composite-returns-clause-lowered t c = (c.go_on.ensures c.args.director.now (map shown c.args.children.now.items) c.args.tag c.args.inputs.now c.args.left.now c.args.meetings.now c.first_row-rest.ensures).lowered

pub fire_composite-returns-clause-fit : goal.fire_composite-returns-clause-fit
fire_composite-returns-clause-fit t c = (c.go_on.ensures c.args.director.now (map shown c.args.children.now.items) c.args.tag c.args.inputs.now c.args.left.now c.args.meetings.now c.first_row-rest.ensures).fit

pub fire_composite-returns-clause-outlines : goal.fire_composite-returns-clause-outlines
fire_composite-returns-clause-outlines t c = (c.go_on.ensures c.args.director.now (map shown c.args.children.now.items) c.args.tag c.args.inputs.now c.args.left.now c.args.meetings.now c.first_row-rest.ensures).outlines

pub fire_composite-returns-clause-maximum : goal.fire_composite-returns-clause-maximum
fire_composite-returns-clause-maximum t c = (c.go_on.ensures c.args.director.now (map shown c.args.children.now.items) c.args.tag c.args.inputs.now c.args.left.now c.args.meetings.now c.first_row-rest.ensures).maximum

pub fire_composite-returns-clause-counted : goal.fire_composite-returns-clause-counted
fire_composite-returns-clause-counted t c = (c.go_on.ensures c.args.director.now (map shown c.args.children.now.items) c.args.tag c.args.inputs.now c.args.left.now c.args.meetings.now c.first_row-rest.ensures).counted

pub go_on-settle-requires : goal.go_on-settle-requires
go_on-settle-requires t c = let r = c.requires.1 in (c.requires.0, record { before = r.before; olds = r.olds; inputs = r.inputs; allowance = r.allowance; start = r.start; rested = (c.loop-number.invariant r.before r.olds c.requires.0 r.inputs r.allowance r.start r.rested) })

pub go_on-index_mut-child-requires : goal.go_on-index_mut-child-requires
go_on-index_mut-child-requires t c = let r = c.requires.1 in let h = turn-in acts acts-law c.settle.new.children.items (c.in-Turn.ensures r.before r.olds c.requires.0 r.inputs r.allowance r.start (c.loop-number.invariant r.before r.olds c.requires.0 r.inputs r.allowance r.start r.rested)) in grind (arith, h)

pub go_on-fire_child-requires : goal.go_on-fire_child-requires
go_on-fire_child-requires t c =
    let r = c.requires.1 in
    let p = (c.in-Turn.ensures r.before r.olds c.requires.0 r.inputs r.allowance r.start (c.loop-number.invariant r.before r.olds c.requires.0 r.inputs r.allowance r.start r.rested)) in
    let deep = turn-depth acts acts-law c.settle.new.children.items p c.index_mut-child.result.now c.index_mut-child.ensures.value in
    let same = ap (λ os. depths os) (rested-names r.before r.olds c.requires.0 r.inputs r.allowance (own_of c.args.made r.start c.args.meetings.now) c.args.director.now (map shown c.args.children.now.items) c.args.left.now c.args.first r.rested) in (
      omega (arith, c.decreases, deep, same),
      (turn-asked acts acts-law c.settle.new.children.items p, (p.some, turn-may acts acts-law c.settle.new.children.items p c.index_mut-child.result.now c.index_mut-child.ensures.value)),
    )

pub go_on-fire_row-rest-requires : goal.go_on-fire_row-rest-requires
go_on-fire_row-rest-requires t c = let r = c.requires.1 in (c.requires.0, record { before = r.before; olds = r.olds; inputs = r.inputs; allowance = r.allowance; start = r.start; at = turn-next acts acts-law c.settle.new.children.items (c.in-Turn.ensures r.before r.olds c.requires.0 r.inputs r.allowance r.start (c.loop-number.invariant r.before r.olds c.requires.0 r.inputs r.allowance r.start r.rested)) c.index_mut-child.result.now c.index_mut-child.ensures.value c.fire_child.new.child c.fire_child.new.director c.fire_child.new.left c.in-Done.ensures.goes c.in-Done.ensures.outline c.in-Done.ensures.counted c.in-Done.ensures.lowered })

pub go_on-loop-number-init : goal.go_on-loop-number-init
go_on-loop-number-init t c before olds tag X allowance start a = a

pub go_on-loop-number-smaller : goal.go_on-loop-number-smaller
go_on-loop-number-smaller t c = omega (arith, c.in-Done.ensures.spends, c.fire_row-rest.ensures.lowered)

pub go_on-loop-number-preserved : goal.go_on-loop-number-preserved
go_on-loop-number-preserved t c before olds tag X allowance start a = c.fire_row-rest.ensures.goes before olds tag X allowance start (turn-next acts acts-law c.settle.new.children.items (c.in-Turn.ensures before olds tag X allowance start (c.loop-number.invariant before olds tag X allowance start a)) c.index_mut-child.result.now c.index_mut-child.ensures.value c.fire_child.new.child c.fire_child.new.director c.fire_child.new.left c.in-Done.ensures.goes c.in-Done.ensures.outline c.in-Done.ensures.counted c.in-Done.ensures.lowered)

pub go_on-finish-requires : goal.go_on-finish-requires
go_on-finish-requires t c = let r = c.requires.1 in let p = (c.in-Finished.ensures r.before r.olds c.requires.0 r.inputs r.allowance r.start (c.loop-number.invariant r.before r.olds c.requires.0 r.inputs r.allowance r.start r.rested)) in may-finish acts acts-law p.at c.args.path.now c.args.labels.now p.gives c.settle.new.director p.asking

pub go_on-returns-in-Finished : goal.go_on-returns-in-Finished
go_on-returns-in-Finished t c before olds tag X allowance start a = finish-ends acts acts-law c.args.path.now c.args.labels.now (c.in-Finished.ensures before olds tag X allowance start (c.loop-number.invariant before olds tag X allowance start a)) c.finish.result c.finish.new.director c.finish.ensures

pub go_on-returns-in-Faulted : goal.go_on-returns-in-Faulted
go_on-returns-in-Faulted t c before olds tag X allowance start a = faulted-ends acts acts-law c.args.path.now c.args.labels.now c.in-Faulted.kind (c.in-Faulted.ensures before olds tag X allowance start (c.loop-number.invariant before olds tag X allowance start a)) c.fault_at.result c.fault_at.ensures

pub go_on-returns-in-Full : goal.go_on-returns-in-Full
go_on-returns-in-Full t c before olds tag X allowance start a = full-ends acts acts-law c.args.path.now c.args.labels.now (c.in-Full.ensures before olds tag X allowance start (c.loop-number.invariant before olds tag X allowance start a)) c.full_at.result c.full_at.ensures

pub go_on-returns-in-Spent : goal.go_on-returns-in-Spent
go_on-returns-in-Spent t c before olds tag X allowance start a = let p = c.in-Spent.ensures before olds tag X allowance start (c.loop-number.invariant before olds tag X allowance start a) in spent-ends acts acts-law c.args.path.now c.args.labels.now p.0 p.1

pub go_on-returns-in-Memory : goal.go_on-returns-in-Memory
go_on-returns-in-Memory t c before olds tag X allowance start a = halts-ends acts acts-law c.args.path.now c.args.labels.now (c.in-Memory.ensures before olds tag X allowance start (c.loop-number.invariant before olds tag X allowance start a))

pub go_on-returns-in-Fault : goal.go_on-returns-in-Fault
go_on-returns-in-Fault t c before olds tag X allowance start a = turn-fault-ends acts acts-law c.args.path.now c.args.labels.now c.settle.new.children.items (c.in-Turn.ensures before olds tag X allowance start (c.loop-number.invariant before olds tag X allowance start a)) c.index_mut-child.result.now c.index_mut-child.ensures.value c.fire_child.new.child c.fire_child.new.director c.fire_child.new.left c.in-Fault.ensures.outline c.in-Fault.ensures.counted c.in-Fault.ensures.lowered c.in-Fault.ensures.maximum c.in-Fault.place c.in-Fault.ensures.goes

pub go_on-returns-in-Spent-fire_child : goal.go_on-returns-in-Spent-fire_child
go_on-returns-in-Spent-fire_child t c before olds tag X allowance start a = turn-spent-ends acts acts-law c.args.path.now c.args.labels.now c.settle.new.children.items (c.in-Turn.ensures before olds tag X allowance start (c.loop-number.invariant before olds tag X allowance start a)) c.index_mut-child.result.now c.index_mut-child.ensures.value c.fire_child.new.child c.fire_child.new.director c.fire_child.new.left c.in-Spent-fire_child.ensures.outline c.in-Spent-fire_child.ensures.counted c.in-Spent-fire_child.ensures.lowered c.in-Spent-fire_child.ensures.maximum c.in-Spent-fire_child.ensures.spends c.in-Spent-fire_child.ensures.goes

pub go_on-returns-in-Full-fire_child : goal.go_on-returns-in-Full-fire_child
go_on-returns-in-Full-fire_child t c before olds tag X allowance start a = turn-jam-ends acts acts-law c.args.path.now c.args.labels.now c.settle.new.children.items (c.in-Turn.ensures before olds tag X allowance start (c.loop-number.invariant before olds tag X allowance start a)) c.index_mut-child.result.now c.index_mut-child.ensures.value c.fire_child.new.child c.fire_child.new.director c.fire_child.new.left c.in-Full-fire_child.ensures.outline c.in-Full-fire_child.ensures.counted c.in-Full-fire_child.ensures.lowered c.in-Full-fire_child.ensures.maximum c.in-Full-fire_child.blocked c.in-Full-fire_child.ensures.goes

pub go_on-returns-in-Memory-fire_child : goal.go_on-returns-in-Memory-fire_child
go_on-returns-in-Memory-fire_child t c before olds tag X allowance start a = turn-memory-ends acts acts-law c.args.path.now c.args.labels.now c.settle.new.children.items (c.in-Turn.ensures before olds tag X allowance start (c.loop-number.invariant before olds tag X allowance start a)) c.index_mut-child.result.now c.index_mut-child.ensures.value c.fire_child.new.child c.fire_child.new.director c.fire_child.new.left c.in-Memory-fire_child.ensures.outline c.in-Memory-fire_child.ensures.counted c.in-Memory-fire_child.ensures.lowered c.in-Memory-fire_child.ensures.maximum c.in-Memory-fire_child.ensures.goes
