-- Of all libraries only the timed actors take their lists whole and have delays, and those of a state stay over its firings.
use Rattle.std.proofs.Common.{◌≡◌, ℕ, List, [], ◌∷◌, true, false, Some, refl, sym, ap, ◌∙◌}
use Rattle.pt_meaning.specs.Basics.{Tag, Streams}
use Rattle.pt_meaning.specs.Node.{Answer, Gives, Fails}
use Rattle.pt_meaning.specs.Closed.{on_answer}
use Rattle.pt_value.specs.declared.token.Token.{Token}
use Rattle.pt_lib_data.specs.DataActor as data_actor
use Rattle.pt_lib_flow.specs.FlowActor as flow_actor
use Rattle.pt_lib_time.specs.TimeActor as time_actor
use Rattle.pt_lib_timed.specs.TimedActor as timed_actor
use Rattle.pt_lib_timed.proofs.Staying as timed_laws
use Rattle.pt_library.specs.declared.library_actor.LibraryActor.{LibraryActor}
use Rattle.pt_library.specs.declared.library_actor.LibraryActor.TheVariants.{Flow, Data, Time, Timed}
use Rattle.pt_library.specs.LibraryActor as library
use Rattle.pt_library.specs.Steady.{after}
use Rattle.pt_library.specs.Delays.{DelaysTellEarly, DelaysAreWhole, DelaysStay, HaveSameDelays}
use Rattle.pt_library.proofs.RowLaws.{held-gives}

pub tell-early : DelaysTellEarly
tell-early tag (Flow a) vs w k port h = absurd (let no : false ≡ true = w in cc)
tell-early tag (Data a) vs w k port h = absurd (let no : false ≡ true = w in cc)
tell-early tag (Time a) vs w k port h = absurd (let no : false ≡ true = w in cc)
tell-early tag (Timed a) vs w k port h = timed_laws.tell-early tag a vs w k port h

pub delay-whole : DelaysAreWhole
delay-whole (Flow a) place e = e
delay-whole (Data a) place e = e
delay-whole (Time a) place e = e
delay-whole (Timed a) place e = timed_laws.delay-whole a place e

-- ---- they stay over a firing

alike : (a b c : LibraryActor) → b ≡ c → library.whole b ≡ library.whole a → ((place : ℕ) → library.is_delay b place ≡ library.is_delay a place) → HaveSameDelays a c
alike a b c e w d = record { wholes = sym (ap library.whole e) ∙ w; delays = λ place. sym (ap (λ (x : LibraryActor). library.is_delay x place) e) ∙ d place }

once : (tag : Tag) (a b : LibraryActor) (X out : Streams Token) → library.step tag a X ≡ Gives b out → HaveSameDelays a b
once tag (Flow a) b X out h = let gave = held-gives Flow (flow_actor.step tag a X) b out h in alike (Flow a) (Flow gave.0) b gave.1 refl (λ place. refl)
once tag (Data a) b X out h = let gave = held-gives Data (data_actor.step tag a X) b out h in alike (Data a) (Data gave.0) b gave.1 refl (λ place. refl)
once tag (Time a) b X out h = let gave = held-gives Time (time_actor.step tag a X) b out h in alike (Time a) (Time gave.0) b gave.1 refl (λ place. refl)
once tag (Timed a) b X out h =
    let gave = held-gives Timed (timed_actor.step tag a X) b out h in
    let stays = timed_laws.stay tag a gave.0 X out gave.2 in
    alike (Timed a) (Timed gave.0) b gave.1 stays.wholes stays.delays

then : (a b c : LibraryActor) → HaveSameDelays a b → HaveSameDelays b c → HaveSameDelays a c
then a b c h k = record { wholes = k.wholes ∙ h.wholes; delays = λ place. k.delays place ∙ h.delays place }

pub delays-stay : DelaysStay
delays-stay [] a b h = let same : a ≡ b = cc in alike a a b same refl (λ place. refl)
delays-stay (f ∷ fs) a b h = by_answer (λ c. delays-stay fs c b) (library.step f.0 a f.1) refl h
  where
    by_answer : ((c : LibraryActor) → after fs c ≡ Some b → HaveSameDelays c b) → (r : Answer Token LibraryActor) → library.step f.0 a f.1 ≡ r → on_answer (after fs) r ≡ Some b → HaveSameDelays a b
    by_answer again (Gives c out) g k = then a c b (once f.0 a c f.1 out g) (again c k)
    by_answer again (Fails code) g k = cc
