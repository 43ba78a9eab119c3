use Rattle.std.proofs.Common.{◌≡◌, inr, arith, [], ◌∷◌, map, sym, ap, subst, ◌∙◌}
use Rattle.pt_firing.specs.declared.ask.Ask.TheVariants as ask
use Rattle.pt_firing.specs.Meeting.{meeting_of}
use Rattle.pt_core.specs.Met.{made_with}
use Rattle.pt_core.specs.Lawful.{IsUsual, IsMove}
use Rattle.pt_directors.specs.Directors.{director_calls}
use Rattle.pt_meaning.specs.NodeFacts.{early_of}
use Rattle.pt_library.specs.LibraryActor.{rows}
use Rattle.pt_node.specs.Acts.{acts}
use Rattle.pt_node.specs.Reset.{WasReset}
use Rattle.pt_node.specs.Shown.{shown, shown_node}
use Rattle.pt_node.specs.View.{node_of}
use Rattle.pt_turns.specs.Between.{At, Halts}
use Rattle.pt_turns.specs.OwnMeetings.{own_of}
use Rattle.pt_turns.proofs.Acting.{acts-law}
use Rattle.pt_turns.proofs.Firing.{is-usual, asked-maximum, halts-here, at-moved, at-met, move-lessens}
use Rattle.pt_turns.proofs.Loop.{on-ok, on-err, once-asked, turn-of, faulted-itself, is-move, no-meeting, listen-in, listen-asked, listen-learns, listen-next, restart-in, restart-rests, restart-fit, restart-next, restart-halts}
use Rattle.pt_pause.proofs.pause.heed.Goals as goal

pub returns-then-left-eq0 : goal.returns-then-left-eq0
returns-then-left-eq0 c before olds tag X allowance start state a g e = (omega (arith, c.if-left-eq0.true), inr (c.args.next, once-asked acts acts-law a c.args.next c.args.director.now g e))

pub returns-else-left-eq0 : goal.returns-else-left-eq0
returns-else-left-eq0 c before olds tag X allowance start state a g e = turn-of acts acts-law (once-asked acts acts-law a (ask.Fire c.in-Fire.number c.in-Fire.when) c.args.director.now (subst (λ n. director_calls.Gives state n) c.in-Fire.is g) (e ∙ ap (λ n. director_calls.asking n state) c.in-Fire.is)) (omega (arith, c.if-left-eq0.false))

pub returns-in-Finished : goal.returns-in-Finished
returns-in-Finished c before olds tag X allowance start state a g e = once-asked acts acts-law a ask.Finished c.args.director.now (subst (λ n. director_calls.Gives state n) c.in-Finished.is g) (e ∙ ap (λ n. director_calls.asking n state) c.in-Finished.is)

pub returns-in-Full : goal.returns-in-Full
returns-in-Full c before olds tag X allowance start state a g e = once-asked acts acts-law a ask.Full c.args.director.now (subst (λ n. director_calls.Gives state n) c.in-Full.is g) (e ∙ ap (λ n. director_calls.asking n state) c.in-Full.is)

pub returns-in-Faulted : goal.returns-in-Faulted
returns-in-Faulted c before olds tag X allowance start state a g e = faulted-itself acts acts-law a c.in-Faulted.kind c.in-Faulted.field-1 c.args.director.now (subst (λ n. director_calls.Gives state n) c.in-Faulted.is g) (e ∙ ap (λ n. director_calls.asking n state) c.in-Faulted.is)

pub returns-in-Get : goal.returns-in-Get
returns-in-Get c before olds tag X allowance start state a g e = let move = is-move c.args.next c.in-Get.is in (at-moved acts acts-law a c.args.next move g c.args.director.now e (no-meeting c.args.next c.in-Get.is (director_calls.met state)), move-lessens acts acts-law a c.args.next move g c.args.director.now e)

pub returns-then-is_err-3 : goal.returns-then-is_err-3
returns-then-is_err-3 c before olds tag X allowance start state a g e =
    let kept = on-err c.note.result (c.note.new.self ≡ c.args.meetings.now) (sym c.is_err-in-Meet.ensures.value ∙ c.if-is_err-3.true) c.note.ensures.kept in
    subst (λ r. Halts acts before olds tag X allowance (own_of c.args.made start r) c.args.director.now (map shown c.args.children.now.items) c.args.left) (sym kept) (halts-here acts acts-law a c.args.director.now (asked-maximum acts acts-law a c.args.next c.args.director.now e))

pub returns-else-is_err-3 : goal.returns-else-is_err-3
returns-else-is_err-3 c before olds tag X allowance start state a g e =
    let move : IsMove c.args.next = subst (λ v. IsMove v) (sym c.in-Meet.is) tt in
    let noted = on-ok c.note.result (c.note.new.self ≡ made_with c.args.made (meeting_of c.in-Meet.meeting ∷ []) c.args.meetings.now) (sym c.is_err-in-Meet.ensures.value ∙ c.if-is_err-3.false) c.note.ensures.noted in (
      subst (λ r. At acts before olds tag X allowance (own_of c.args.made start r) c.args.director.now (map shown c.args.children.now.items) c.args.left) (sym noted) (at-met acts acts-law a c.args.next move g c.args.director.now e c.in-Meet.meeting c.in-Meet.is),
      move-lessens acts acts-law a c.args.next move g c.args.director.now e,
    )

pub unreachable-requires : goal.unreachable-requires
unreachable-requires c = subst (λ v. IsUsual v) c.in-Await.is (is-usual acts acts-law c.requires.1.between.at c.args.next c.requires.1.between.gives)

pub index-child-requires : goal.index-child-requires
index-child-requires c = let h = listen-in acts acts-law c.args.children.now.items c.requires.1.between.at c.in-Early.number c.in-Early.when (subst (λ n. director_calls.Gives c.requires.1.between.state n) c.in-Early.is c.requires.1.between.gives) c.args.director.now (c.requires.1.between.asking ∙ ap (λ n. director_calls.asking n c.requires.1.between.state) c.in-Early.is) in grind (arith, h)

pub listen-requires : goal.listen-requires
listen-requires c = listen-asked acts acts-law c.args.children.now.items c.requires.1.between.at c.in-Early.number c.in-Early.when (subst (λ n. director_calls.Gives c.requires.1.between.state n) c.in-Early.is c.requires.1.between.gives) c.args.director.now (c.requires.1.between.asking ∙ ap (λ n. director_calls.asking n c.requires.1.between.state) c.in-Early.is)

pub returns-then-is_err : goal.returns-then-is_err
returns-then-is_err c before olds tag X allowance start state a g e = halts-here acts acts-law a c.listen.new.director (asked-maximum acts acts-law a c.args.next c.listen.new.director (on-err c.listen.result (c.listen.new.director ≡ c.args.director.now) (sym c.is_err.ensures.value ∙ c.if-is_err.true) c.listen.ensures.kept ∙ e))

pub returns-else-is_err : goal.returns-else-is_err
returns-else-is_err c before olds tag X allowance start state a g e = (
  listen-next acts acts-law c.args.children.now.items a c.in-Early.number c.in-Early.when (subst (λ n. director_calls.Gives state n) c.in-Early.is g) c.args.director.now (e ∙ ap (λ n. director_calls.asking n state) c.in-Early.is) c.index-child.result.now c.index-child.ensures c.listen.new.director (on-ok c.listen.result (c.listen.new.director ≡ director_calls.heard c.in-Early.number (early_of rows c.in-Early.when (node_of (shown_node c.index-child.result.now)) (director_calls.partial_of c.args.director.now)) c.args.director.now) (sym c.is_err.ensures.value ∙ c.if-is_err.false) c.listen.ensures.heard),
  listen-learns acts acts-law c.args.children.now.items a c.in-Early.number c.in-Early.when (subst (λ n. director_calls.Gives state n) c.in-Early.is g) c.args.director.now (e ∙ ap (λ n. director_calls.asking n state) c.in-Early.is) c.index-child.result.now c.index-child.ensures c.listen.new.director (on-ok c.listen.result (c.listen.new.director ≡ director_calls.heard c.in-Early.number (early_of rows c.in-Early.when (node_of (shown_node c.index-child.result.now)) (director_calls.partial_of c.args.director.now)) c.args.director.now) (sym c.is_err.ensures.value ∙ c.if-is_err.false) c.listen.ensures.heard),
)

pub index_mut-child-requires : goal.index_mut-child-requires
index_mut-child-requires c = let h = restart-in acts acts-law c.args.children.now.items c.requires.1.between.at c.in-Reset.number (subst (λ n. director_calls.Gives c.requires.1.between.state n) c.in-Reset.is c.requires.1.between.gives) c.args.director.now (c.requires.1.between.asking ∙ ap (λ n. director_calls.asking n c.requires.1.between.state) c.in-Reset.is) in grind (arith, h)

pub reset-requires : goal.reset-requires
reset-requires c = restart-fit acts acts-law c.args.children.now.items c.requires.1.between.at c.in-Reset.number (subst (λ n. director_calls.Gives c.requires.1.between.state n) c.in-Reset.is c.requires.1.between.gives) c.args.director.now (c.requires.1.between.asking ∙ ap (λ n. director_calls.asking n c.requires.1.between.state) c.in-Reset.is) c.index_mut-child.result.now c.index_mut-child.ensures.value

pub returns-then-is_err-2 : goal.returns-then-is_err-2
returns-then-is_err-2 c before olds tag X allowance start state a g e = restart-halts acts acts-law c.args.children.now.items a c.in-Reset.number (subst (λ n. director_calls.Gives state n) c.in-Reset.is g) c.args.director.now (e ∙ ap (λ n. director_calls.asking n state) c.in-Reset.is) c.index_mut-child.result.now c.index_mut-child.ensures.value c.reset.new.self c.reset.ensures.kept

pub returns-else-is_err-2 : goal.returns-else-is_err-2
returns-else-is_err-2 c before olds tag X allowance start state a g e = (
  restart-next acts acts-law c.args.children.now.items a c.in-Reset.number (subst (λ n. director_calls.Gives state n) c.in-Reset.is g) c.args.director.now (e ∙ ap (λ n. director_calls.asking n state) c.in-Reset.is) c.index_mut-child.result.now c.index_mut-child.ensures.value c.reset.new.self c.reset.ensures.kept (on-ok c.reset.result (WasReset (shown_node c.index_mut-child.result.now) (shown_node c.reset.new.self)) (sym c.is_err-in-Reset.ensures.value ∙ c.if-is_err-2.false) c.reset.ensures.reset),
  restart-rests acts acts-law c.args.children.now.items a c.in-Reset.number (subst (λ n. director_calls.Gives state n) c.in-Reset.is g) c.args.director.now (e ∙ ap (λ n. director_calls.asking n state) c.in-Reset.is),
)
