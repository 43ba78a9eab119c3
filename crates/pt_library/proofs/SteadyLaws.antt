-- An actor that its library tells to be steady is so, whatever it fires.
use Rattle.std.proofs.Common.{◌≡◌, List, [], ◌∷◌, true, Some, refl, sym, ap, ◌∙◌}
use Rattle.pt_meaning.specs.Basics.{Tag, Streams}
use Rattle.pt_meaning.specs.Node.{Answer, Gives, Fails}
use Rattle.pt_meaning.specs.Closed.{on_answer}
use Rattle.pt_value.specs.declared.token.Token.{Token}
use Rattle.pt_lib_data.specs.DataActor as data_actor
use Rattle.pt_lib_data.proofs.Steadiness as data_laws
use Rattle.pt_lib_flow.specs.FlowActor as flow_actor
use Rattle.pt_lib_flow.proofs.Steadiness as flow_laws
use Rattle.pt_lib_time.specs.TimeActor as time_actor
use Rattle.pt_lib_time.proofs.Giving as time_laws
use Rattle.pt_lib_timed.specs.TimedActor as timed_actor
use Rattle.pt_lib_timed.proofs.Staying as timed_laws
use Rattle.pt_library.specs.declared.library_actor.LibraryActor.{LibraryActor}
use Rattle.pt_library.specs.declared.library_actor.LibraryActor.TheVariants.{Flow, Data, Time, Timed}
use Rattle.pt_library.specs.LibraryActor as library
use Rattle.pt_library.specs.LibraryActor.{held_as}
use Rattle.pt_library.specs.Steady.{after, IsSteadyActor}
use Rattle.pt_library.proofs.RowLaws.{held-gives}

-- after one firing it needs the same, and is told to be steady
pub once : (tag : Tag) (a b : LibraryActor) (X out : Streams Token) → library.is_steady a ≡ true → library.step tag a X ≡ Gives b out → (library.need b ≡ library.need a) × (library.is_steady b ≡ true)
once tag (Flow a) b X out e h =
    let gave = held-gives Flow (flow_actor.step tag a X) b out h in
    let stays = flow_laws.steady-stay tag a gave.0 X out e gave.2 in
    (sym (ap library.need gave.1) ∙ stays.0, sym (ap library.is_steady gave.1) ∙ stays.1)
once tag (Data a) b X out e h =
    let gave = held-gives Data (data_actor.step tag a X) b out h in
    let stays = data_laws.steady-stay tag a gave.0 X out e gave.2 in
    (sym (ap library.need gave.1) ∙ stays.0, sym (ap library.is_steady gave.1) ∙ stays.1)
once tag (Time a) b X out e h =
    let gave = held-gives Time (time_actor.step tag a X) b out h in
    let stays = time_laws.steady-stay tag a gave.0 X out e gave.2 in
    (sym (ap library.need gave.1) ∙ stays.0, sym (ap library.is_steady gave.1) ∙ stays.1)
once tag (Timed a) b X out e h =
    let gave = held-gives Timed (timed_actor.step tag a X) b out h in
    let stays = timed_laws.stay tag a gave.0 X out gave.2 in
    (sym (ap library.need gave.1) ∙ stays.needs, sym (ap library.is_steady gave.1))

needs-same : (fs : List (Tag × Streams Token)) (a b : LibraryActor) → library.is_steady a ≡ true → after fs a ≡ Some b → library.need b ≡ library.need a
needs-same [] a b e h = let same : a ≡ b = cc in sym (ap library.need same)
needs-same (f ∷ fs) a b e h = by_answer (λ c. needs-same fs c b) (library.step f.0 a f.1) refl h
  where
    by_answer : ((c : LibraryActor) → library.is_steady c ≡ true → after fs c ≡ Some b → library.need b ≡ library.need c) → (r : Answer Token LibraryActor) → library.step f.0 a f.1 ≡ r → on_answer (after fs) r ≡ Some b → library.need b ≡ library.need a
    by_answer again (Gives c out) g k = let s = once f.0 a c f.1 out e g in again c s.1 k ∙ s.0
    by_answer again (Fails code) g k = cc

takes-any : (tag : Tag) (b : LibraryActor) (X : Streams Token) → library.Takes tag b X
takes-any tag (Flow actor) X = tt
takes-any tag (Data actor) X = tt
takes-any tag (Time actor) X = tt
takes-any tag (Timed actor) X = tt

pub told-steady : (a : LibraryActor) → library.is_steady a ≡ true → IsSteadyActor a
told-steady a e = record { needs = λ fs b h. needs-same fs a b e h; takes = λ fs b h tag X. takes-any tag b X }
