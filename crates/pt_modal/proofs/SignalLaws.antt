-- A reaction in which no refinement is left, entered or fired is over as soon as it has begun, at whatever tag.
use Rattle.std.proofs.Common.{◌≡◌, ℕ, ℤ, [], ◌∷◌, List, Bool, true, false, Option, None, ap, sym, ◌∙◌}
use Rattle.pt_meaning.specs.Tag.{Tag}
use Rattle.pt_meaning.specs.Streams.{Streams}
use Rattle.pt_meaning.specs.Modal.{Chart, Modes, Choice, Nothing, One, Wrong, Acted, Acts, Fails, chosen, unfired_outputs}
use Rattle.pt_value.specs.declared.token.Token.{Token}
use Rattle.pt_transitions.specs.declared.signal.Signal.{Signal}
use Rattle.pt_chart.specs.Reacted.{Reacted, Stays, Moves, Stops, by_actions, by_choice, reacted}
use Rattle.pt_transitions.specs.Alone.{ComesTo, by_both, signal_of}
use Rattle.pt_modal_laws.specs.State.{Over, moved_stays, stage_after, with_outcome, opened, pared, closed, at_rest, chart_in, after_taken, after_calm, after_preemptive, begun}
use Rattle.pt_modal_laws.specs.ModalActs.{State}
use Rattle.pt_modal.specs.First.{after_reacted}
use Rattle.pt_modal.specs.Signals.{PassesAlone, IsSignalAt, IsSignal}
use Rattle.pt_modal.proofs.FirstLaws.{given-is}

module _ {M : Type 0} (reads : M → Chart Token) (tag : Tag) (X : Streams Token) (s : State M) where
  abbrev chart : Chart Token
  chart = chart_in reads s

  abbrev opening : State M
  opening = opened tag X s

  -- the machine is at these modes, and the own outputs have these lists
  abbrev over : Modes Token → Streams Token → State M
  over modes outputs = pared (with_outcome modes outputs Over opening)

  abbrev modes_at : ℕ → List Token → Modes Token
  modes_at mode values = record { mode = mode; values = values; stays = s.modes.stays }

  abbrev unfired : Streams Token
  unfired = unfired_outputs chart

  module _ (g : Signal) (values : List Token) (unrefined : chart.refinement s.modes.mode ≡ None) (enters : chart.refinement g.target ≡ None) where
    abbrev end : State M
    end = over (modes_at g.target values) (signal_of g.given ∷ [])

    -- a transition between states without refinement
    moves-over : (history : Bool) → pared (after_reacted reads (Moves g.target history (signal_of g.given ∷ []) values) opening) ≡ end
    moves-over history =
        ap (λ (l : Option ℕ). pared (with_outcome (record { mode = g.target; values = values; stays = moved_stays tag.time history l (chart.refinement g.target) s.modes.stays }) (signal_of g.given ∷ []) (stage_after history (chart.refinement g.target)) opening)) unrefined
        ∙ ap (λ (e : Option ℕ). pared (with_outcome (record { mode = g.target; values = values; stays = moved_stays tag.time history None e s.modes.stays }) (signal_of g.given ∷ []) (stage_after history e) opening)) enters

    reacted-over : (r : Reacted Token) → ComesTo s.modes.mode s.modes.values r g values → pared (after_reacted reads r opening) ≡ end
    reacted-over (Stays outputs) (gives, kept, stays) =
        ap (λ (Y : Streams Token). over s.modes Y) gives
        ∙ ap (λ (m : ℕ). over (modes_at m s.modes.values) (signal_of g.given ∷ [])) (sym stays)
        ∙ ap (λ (vs : List Token). over (modes_at g.target vs) (signal_of g.given ∷ [])) (sym kept)
    reacted-over (Moves target history outputs after) (to, gives, sets) =
        ap (λ (m : ℕ). pared (after_reacted reads (Moves m history outputs after) opening)) to
        ∙ ap (λ (Y : Streams Token). pared (after_reacted reads (Moves g.target history Y after) opening)) gives
        ∙ ap (λ (vs : List Token). pared (after_reacted reads (Moves g.target history (signal_of g.given ∷ []) vs) opening)) sets
        ∙ moves-over history
    reacted-over (Stops code) none = absurd none

    abbrev late : Reacted Token
    late = reacted chart false s.modes.mode s.modes.values X unfired

    calm-over : ComesTo s.modes.mode s.modes.values late g values → pared (after_calm reads (chart.refinement s.modes.mode) opening) ≡ end
    calm-over comes =
        ap (λ (r : Option ℕ). pared (after_calm reads r opening)) unrefined
        ∙ ap (λ (t : State M). pared t) (sym (given-is reads unfired opening))
        ∙ reacted-over late comes

    taken-over : (n : ℕ) (acted : Acted Token) → ComesTo s.modes.mode s.modes.values (by_both (by_actions (chart.target true s.modes.mode n) (chart.keeps_history true s.modes.mode n) acted) late) g values →
        pared (after_taken reads true n acted opening) ≡ end
    taken-over n (Acts out vs) comes = reacted-over (Moves (chart.target true s.modes.mode n) (chart.keeps_history true s.modes.mode n) out vs) comes
    taken-over n (Fails code) comes = absurd comes

    choice-over : (c : Choice) → ComesTo s.modes.mode s.modes.values (by_both (by_choice chart true s.modes.mode s.modes.values X unfired c) late) g values → pared (after_preemptive reads c opening) ≡ end
    choice-over Nothing comes = calm-over comes
    choice-over (One n) comes = taken-over n (chart.act true s.modes.mode n s.modes.values X unfired) comes
    choice-over (Wrong code) comes = absurd comes

  begun-over : (given : Option ℤ) (modes : Modes Token) → PassesAlone chart X given s.modes modes → begun reads tag X s ≡ over modes (signal_of given ∷ [])
  begun-over given modes passes =
      choice-over (record { target = modes.mode; given = given }) modes.values passes.alone.unrefined passes.alone.enters_none (chosen 0 (chart.preemptive s.modes.mode s.modes.values X)) passes.alone.comes
      ∙ ap (λ stays. over (record { mode = modes.mode; values = modes.values; stays = stays }) (signal_of given ∷ [])) (sym passes.stays)

  signal-at : (given : Option ℤ) (modes : Modes Token) → PassesAlone chart X given s.modes modes → IsSignalAt reads given X s (at_rest s.plan modes s.wakes) tag
  signal-at given modes passes =
      let is = begun-over given modes passes in
      record { over = ap (λ (t : State M). t.stage) is; outputs = ap (λ (t : State M). t.outputs) is; state = sym (ap (λ (t : State M). closed t) is) }

-- so a core at rest then is one of which the reaction says so
pub is-signal : {M : Type 0} (reads : M → Chart Token) (X : Streams Token) (s : State M) (given : Option ℤ) (modes : Modes Token) → PassesAlone (chart_in reads s) X given s.modes modes → IsSignal reads given X s (at_rest s.plan modes s.wakes)
is-signal reads X s given modes passes tag = signal-at reads tag X s given modes passes
