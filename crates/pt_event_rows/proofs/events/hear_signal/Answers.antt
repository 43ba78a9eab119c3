use Rattle.std.proofs.Common.{inr, refl, sym, ap, ◌∙◌}
use Rattle.pt_directors.specs.Directors.{director_calls}
use Rattle.pt_directors.specs.Directors.{of_de}
use Rattle.pt_event_rows.proofs.events.hear_signal.Goals as goal

pub has_room-requires : goal.has_room-requires
has_room-requires c = inr c.requires

pub hears_signal-requires-clause-room : goal.hears_signal-requires-clause-room
hears_signal-requires-clause-room c = c.if-not-has_room.ensures.0 refl

pub returns-in-Some-clause-heard : goal.returns-in-Some-clause-heard
returns-in-Some-clause-heard c t =
    ap (λ v. of_de v) c.hears_signal.ensures ∙ ap (λ v. director_calls.heard c.args.number v (of_de c.args.core.now)) (sym (c.in-Some.ensures (director_calls.partial_of (of_de c.args.core.now))))
