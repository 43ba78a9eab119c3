-- What a call answers, from the firing that isn't recorded yet.
use Rattle.std.proofs.Common.{◌≡◌, ℕ, false, ◌+◌, None, sym, subst, arith, Result, Ok, Err, is_err}
use Rattle.std.specs.Prelude.{IfOk}
use Rattle.pt_meaning.specs.Basics.{Tag, Streams}
use Rattle.pt_meaning.specs.Meetings.{Meets}
use Rattle.pt_meaning.specs.Step.{Step}
use Rattle.pt_value.specs.declared.token.Token.{Token}
use Rattle.pt_firing.specs.declared.answer.Answer.TheVariants as answer
use Rattle.pt_firing.specs.declared.answer.Blocked.{Blocked}
use Rattle.pt_firing.specs.declared.answer.Place.{Place}
use Rattle.pt_records.specs.Fired.{FiresTo, LeavesOff}
use Rattle.pt_records.specs.Made.{AreMade, AreMadeBefore}
use Rattle.pt_records.specs.Shut.{IsShut}
use Rattle.pt_library.specs.LibraryActor.{rows}
use Rattle.pt_node.specs.Shown.{Shown}
use Rattle.pt_node.specs.Firing as firing
use Rattle.pt_node.specs.Live.{IsLive}
use Rattle.pt_node.specs.View.{node_of, kept_of, count_of}
use Rattle.pt_turns.specs.declared.within.Within.TheVariants as within
use Rattle.pt_turns.specs.Within.{IsLeftOff, fired, WithinTo, StaysFit, AnswersTo}
use Rattle.pt_node.specs.Stuck.{fault_of}
use Rattle.pt_turns.proofs.Recording.{off-done, step-off, step-stuck, step-fires, live-recorded, kept-bare, made-within, made-recorded}

pub if-ok : {A E : Type 0} (r : Result A E) (P : Type 0) → is_err r ≡ false → IfOk r (λ _. P) → P
if-ok (Ok a) P e h = h
if-ok (Err x) P e h = absurd (cc)

module _ (old new : Shown) (tag : Tag) (X : Streams Token) (allowance : ℕ) where
  pub seq-fault : (place : Place) → WithinTo old tag X (within.Fault place) new → AnswersTo old tag X allowance (answer.Fault place) new
  seq-fault place w = λ m made. let k = w m made in (k.0, k.1, step-stuck m (node_of old) tag X (fault_of k.0 place) (kept_of old) (kept_of new) k.2)

  pub seq-off : ((m : Meets) → AreMade m (kept_of new) → IsLeftOff m (node_of old) tag X (kept_of old) (kept_of new)) → (m : Meets) → AreMade m (kept_of new) → LeavesOff (λ k. Step k rows m (node_of old) tag X) (IsShut rows m (node_of old) tag X None) (kept_of old) (kept_of new)
  seq-off w m made = step-off m (node_of old) tag X (kept_of old) (kept_of new) (w m made)

  pub seq-full : (blocked : Blocked) → WithinTo old tag X (within.Full blocked) new → AnswersTo old tag X allowance (answer.Full blocked) new
  seq-full blocked w = λ m made. let k = w m made in (step-off m (node_of old) tag X (kept_of old) (kept_of new) k.0, k.1)

  off-after : (out : Streams Token) → WithinTo old tag X (within.Done out) new → (m : Meets) → AreMade m (kept_of new) → IsLeftOff m (node_of old) tag X (kept_of old) (kept_of new)
  off-after out w m made = off-done m (node_of old) tag X (fired tag (node_of new)) out (kept_of old) (kept_of new) (w m (made-within m (kept_of new) made))

  pub seq-spent : (left : ℕ) → ((m : Meets) → AreMade m (kept_of new) → IsLeftOff m (node_of old) tag X (kept_of old) (kept_of new)) → left ≡ 0 → count_of new + left ≡ count_of old + allowance → AnswersTo old tag X allowance (answer.Spent allowance) new
  seq-spent left w z c = (omega (arith, z, c), omega arith, seq-off w)

  pub seq-spent-done : (out : Streams Token) (left : ℕ) → WithinTo old tag X (within.Done out) new → left ≡ 0 → count_of new + left ≡ count_of old + allowance → AnswersTo old tag X allowance (answer.Spent allowance) new
  seq-spent-done out left w z c = seq-spent left (off-after out w) z c

  pub seq-memory-done : (out : Streams Token) (after : Shown) → WithinTo old tag X (within.Done out) new → firing.bare after ≡ firing.bare new → AnswersTo old tag X allowance answer.Memory after
  seq-memory-done out after w e = λ m made. subst (λ k. LeavesOff (λ k. Step k rows m (node_of old) tag X) (IsShut rows m (node_of old) tag X None) (kept_of old) k) (sym (kept-bare after new e)) (seq-off (off-after out w) m (subst (λ k. AreMade m k) (kept-bare after new e) made))

  pub seq-done : (out : Streams Token) (after : Shown) → WithinTo old tag X (within.Done out) new → StaysFit (within.Done out) new → after ≡ firing.recorded tag (firing.noted tag out new) → AnswersTo old tag X allowance (answer.Done out) after
  seq-done out after w f e = (
    λ m made. subst (λ v. FiresTo (λ k. Step k rows m (node_of old) tag X) (node_of v) out (kept_of old) (kept_of v)) (sym e) (step-fires m old new tag X out (w m (made-recorded m tag out new (subst (λ v. AreMadeBefore m (kept_of v)) e made)))),
    subst (λ v. IsLive v) (sym e) (live-recorded tag out new f),
  )
