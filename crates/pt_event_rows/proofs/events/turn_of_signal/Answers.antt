use Rattle.std.proofs.Common.{◌≡◌, ◌+◌, [], ◌∷◌, inl, refl, sym, ap, ◌∙◌, arith}
use Rattle.pt_library.specs.LibraryActor.{signal_of}
use Rattle.pt_directors.specs.Directors.{director_calls}
use Rattle.pt_node.specs.Firing.{noted, bare, recorded}
use Rattle.pt_node.specs.Shown.{shown_node}
use Rattle.pt_directors.specs.Directors.{of_de}
use Rattle.pt_turns.proofs.Loop.{on-ok, on-err}
use Rattle.pt_event_rows.proofs.Signalling.{signal-fired, outline-signalled, counted-signalled, keeps-noted}
use Rattle.pt_event_rows.proofs.events.turn_of_signal.Goals as goal

pub has_room-requires : goal.has_room-requires
has_room-requires c = inl c.requires.asked

pub wake-wake-requires : goal.wake-wake-requires
wake-wake-requires c = c.in-Some.ensures.goes.fit.0

pub told_signal-requires-clause-room : goal.told_signal-requires-clause-room
told_signal-requires-clause-room c = c.if-not-has_room.ensures.0 refl

pub returns-then-is_err-clause-goes : goal.returns-then-is_err-clause-goes
returns-then-is_err-clause-goes c =
    (refl, keeps-noted c.args.tag (shown_node c.args.child.now) (director_calls.lent_of (of_de c.args.core.now)) (signal_of c.in-Some.given ∷ []) (shown_node c.fire_signal.new.node) c.in-Some.ensures.goes (shown_node c.record_signal.new.node) (on-err c.record_signal.result (bare (shown_node c.record_signal.new.node) ≡ bare (shown_node c.fire_signal.new.node)) (sym c.is_err.ensures.value ∙ c.if-is_err.true) c.record_signal.ensures.kept))

pub returns-then-is_err-clause-outline : goal.returns-then-is_err-clause-outline
returns-then-is_err-clause-outline c =
    (keeps-noted c.args.tag (shown_node c.args.child.now) (director_calls.lent_of (of_de c.args.core.now)) (signal_of c.in-Some.given ∷ []) (shown_node c.fire_signal.new.node) c.in-Some.ensures.goes (shown_node c.record_signal.new.node) (on-err c.record_signal.result (bare (shown_node c.record_signal.new.node) ≡ bare (shown_node c.fire_signal.new.node)) (sym c.is_err.ensures.value ∙ c.if-is_err.true) c.record_signal.ensures.kept)).outline

pub returns-then-is_err-clause-counted : goal.returns-then-is_err-clause-counted
returns-then-is_err-clause-counted c =
    ap (λ n. n + c.args.left.now) (keeps-noted c.args.tag (shown_node c.args.child.now) (director_calls.lent_of (of_de c.args.core.now)) (signal_of c.in-Some.given ∷ []) (shown_node c.fire_signal.new.node) c.in-Some.ensures.goes (shown_node c.record_signal.new.node) (on-err c.record_signal.result (bare (shown_node c.record_signal.new.node) ≡ bare (shown_node c.fire_signal.new.node)) (sym c.is_err.ensures.value ∙ c.if-is_err.true) c.record_signal.ensures.kept)).count

pub returns-clause-goes : goal.returns-clause-goes
returns-clause-goes c =
    let is = on-ok c.record_signal.result (shown_node c.record_signal.new.node ≡ recorded c.args.tag (noted c.args.tag (signal_of c.in-Some.given ∷ []) (shown_node c.fire_signal.new.node))) (sym c.is_err.ensures.value ∙ c.if-is_err.false) c.record_signal.ensures.recorded in
    signal-fired director_calls (of_de c.args.core.now) (shown_node c.args.child.now) (shown_node c.fire_signal.new.node) c.args.number c.args.tag (signal_of c.in-Some.given ∷ []) c.wake-wake.result (of_de c.told_signal.new.self) (shown_node c.record_signal.new.node)
    c.in-Some.ensures.goes (ap (λ p. p.made) c.in-Some.ensures.past) refl (c.wake-wake.ensures c.args.tag) (λ need. ap (λ v. of_de v) (c.told_signal.ensures need)) is

pub returns-clause-outline : goal.returns-clause-outline
returns-clause-outline c =
    let is = on-ok c.record_signal.result (shown_node c.record_signal.new.node ≡ recorded c.args.tag (noted c.args.tag (signal_of c.in-Some.given ∷ []) (shown_node c.fire_signal.new.node))) (sym c.is_err.ensures.value ∙ c.if-is_err.false) c.record_signal.ensures.recorded in
    outline-signalled c.args.tag (shown_node c.args.child.now) (director_calls.lent_of (of_de c.args.core.now)) (signal_of c.in-Some.given ∷ []) (shown_node c.fire_signal.new.node) c.in-Some.ensures.goes (shown_node c.record_signal.new.node) is

pub returns-clause-counted : goal.returns-clause-counted
returns-clause-counted c =
    let is = on-ok c.record_signal.result (shown_node c.record_signal.new.node ≡ recorded c.args.tag (noted c.args.tag (signal_of c.in-Some.given ∷ []) (shown_node c.fire_signal.new.node))) (sym c.is_err.ensures.value ∙ c.if-is_err.false) c.record_signal.ensures.recorded in
    counted-signalled c.args.tag (shown_node c.args.child.now) (director_calls.lent_of (of_de c.args.core.now)) (signal_of c.in-Some.given ∷ []) (shown_node c.fire_signal.new.node) c.in-Some.ensures.goes (shown_node c.record_signal.new.node) is c.args.left.now _ (omega (arith, c.requires.left))
