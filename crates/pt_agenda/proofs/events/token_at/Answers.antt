use Rattle.std.proofs.Common.{◌≡◌, ℕ, ◌+◌, ◌-◌, ◌<◌, sym, arith, ◌∙◌, ap, ◌∷◌, [], false, get_or}
use Rattle.pt_meaning.specs.Schedule.{is_tag, event_at}
use Rattle.pt_agenda.specs.Events.{Event}
use Rattle.pt_agenda.proofs.EventLaws.{same-at, last-at, none-is-at}
use Rattle.pt_agenda.proofs.events.token_at.Goals.{else-past-gt0-via-then-past-gt0+else-is_same, else-past-gt0-via-else-past-gt0}
use Rattle.pt_agenda.proofs.events.token_at.Goals as goal

pub returns-in_ok-copy : goal.returns-in_ok-copy
returns-in_ok-copy c =
    let at : event_at c.args.tag c.args.events.now ≡ (get_or c.args.events.now (c.past-past.result - 1) c.index-events-past-then-is_same.result).1 ∷ [] = last-at c.args.tag c.args.events.now c.past-past.result c.requires c.past-past.ensures (c.past-past.result - 1) c.index-events-past-then-is_same.result (omega (arith, c.if-past-gt0.true)) (agree ∙ sym c.if-is_same.ensures) in
    c.one.ensures ∙ ap (λ v. v ∷ []) c.in_ok-copy.ensures.value ∙ sym at
  where
    agree : is_tag (get_or c.args.events.now (c.past-past.result - 1) c.index-events-past-then-is_same.result).0 c.args.tag ≡ is_tag (get_or c.args.events.now (c.past-past.result - 1) c.index-events-past.result).0 c.args.tag
    agree = ap (λ (v : Event). is_tag v.0 c.args.tag) (same-at c.args.events.now (c.past-past.result - 1) c.index-events-past-then-is_same.result c.index-events-past.result (omega (arith, c.if-past-gt0.true, c.past-past.ensures.within)))

pub returns-else-past-gt0 : goal.returns-else-past-gt0
returns-else-past-gt0 c = c.new.ensures ∙ sym (none-is-at c.args.tag c.args.events.now c.past-past.result c.requires c.past-past.ensures last)
  where
    at-last : (m : ℕ) (d : Event) → m + 1 ≡ c.past-past.result → (e : Event) → 0 < c.past-past.result → is_tag (get_or c.args.events.now (c.past-past.result - 1) e).0 c.args.tag ≡ false → is_tag (get_or c.args.events.now m d).0 c.args.tag ≡ false
    at-last m d h e some n =
        let same : m ≡ c.past-past.result - 1 = omega (arith, h, some) in
        ap (λ v. is_tag (get_or c.args.events.now v d).0 c.args.tag) same ∙ ap (λ (v : Event). is_tag v.0 c.args.tag) (same-at c.args.events.now (c.past-past.result - 1) d e (omega (arith, some, c.past-past.ensures.within))) ∙ n

    last : (m : ℕ) (d : Event) → m + 1 ≡ c.past-past.result → is_tag (get_or c.args.events.now m d).0 c.args.tag ≡ false
    last m d h = elim c.else-past-gt0.branch [ else-past-gt0-via-then-past-gt0+else-is_same w ↦ at-last m d h w.index-events-past.result (omega (arith, w.if-past-gt0.true)) (sym w.if-is_same.ensures) | else-past-gt0-via-else-past-gt0 w ↦ absurd (omega (arith, h, w.if-past-gt0.false)) ]
