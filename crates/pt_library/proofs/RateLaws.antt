-- How many tokens an actor needs and gives, by its library.
use Rattle.std.proofs.Common.{◌≡◌, ℕ, zero, suc, List, [], ◌∷◌, length, map, replicate, true, Option, Some, None, refl, sym, subst, arith}
use Rattle.std.specs.Prelude.{option_map, IfSome}
use Rattle.std.specs.Option.{option_or}
use Rattle.std.specs.List.{AllByRecursion}
use Rattle.pt_meaning.specs.Basics.{Tag, Streams}
use Rattle.pt_meaning.specs.Machine.{Counts}
use Rattle.pt_meaning.specs.Node.{Gives}
use Rattle.pt_value.specs.declared.token.Token.{Token}
use Rattle.pt_lib_data.specs.declared.data_actor.DataActor.{DataActor}
use Rattle.pt_lib_data.specs.DataActor as data_actor
use Rattle.pt_lib_data.specs.Laws.{IsRate, AreGiven}
use Rattle.pt_lib_data.proofs.Bounds as data_bounds
use Rattle.pt_lib_data.proofs.Giving as data_laws
use Rattle.pt_lib_flow.specs.declared.flow_actor.FlowActor.{FlowActor}
use Rattle.pt_flow_base.specs.declared.params.Params.{Params}
use Rattle.pt_lib_flow.specs.FlowActor as flow_actor
use Rattle.pt_lib_flow.specs.Laws.{IsGiven}
use Rattle.pt_flow_base.specs.Rates.{IsCount, IsCounted}
use Rattle.pt_lib_flow.proofs.Bounds as flow_bounds
use Rattle.pt_lib_flow.proofs.Giving as flow_laws
use Rattle.pt_lib_time.specs.declared.time_actor.TimeActor.{TimeActor}
use Rattle.pt_lib_time.specs.TimeActor as time_actor
use Rattle.pt_lib_time.proofs.Giving as time_laws
use Rattle.pt_lib_timed.specs.declared.timed_actor.TimedActor.{TimedActor}
use Rattle.pt_lib_timed.specs.TimedActor as timed_actor
use Rattle.pt_lib_timed.proofs.Staying as timed_laws
use Rattle.pt_library.specs.declared.library_actor.LibraryActor.{LibraryActor}
use Rattle.pt_library.specs.declared.library_actor.LibraryActor.TheVariants.{Flow, Data, Time, Timed}
use Rattle.pt_library.specs.LibraryActor as library
use Rattle.pt_library.specs.Laws.{IsRatedActor}
use Rattle.pt_library.proofs.RowLaws.{held-gives}

-- ---- from 1 to 1,000,000

one-rate : (o : Option ℕ) → IfSome o IsCount → IfSome (option_map (λ n. n ∷ []) o) (AllByRecursion IsCount)
one-rate None h = tt
one-rate (Some n) h = (h, tt)

-- the rate of an actor of flow, where its rates are such
pub its-rate : (o : Option ℕ) → IfSome (option_map (λ n. n ∷ []) o) (AllByRecursion IsCount) → IfSome o IsCount
its-rate None h = tt
its-rate (Some n) h = h.0

all-counts : (ns : List ℕ) → AllByRecursion IsRate ns → AllByRecursion IsCount ns
all-counts [] h = tt
all-counts (n ∷ ns) h = (record { least = h.0.0; most = h.0.1 }, all-counts ns h.1)

by-library : (P : LibraryActor → Type 0) (o : Option FlowActor) (p : Option DataActor) (q : Option TimeActor) (r : Option TimedActor) (a : LibraryActor) → option_or (option_map Flow o) (option_or (option_map Data p) (option_or (option_map Time q) (option_map Timed r))) ≡ Some a →
    ((b : FlowActor) → o ≡ Some b → P (Flow b)) → ((b : DataActor) → p ≡ Some b → P (Data b)) → ((b : TimeActor) → q ≡ Some b → P (Time b)) → ((b : TimedActor) → r ≡ Some b → P (Timed b)) → P a
by-library P (Some b) p q r a e f g h k = let same : Flow b ≡ a = cc in subst P same (f b refl)
by-library P None (Some b) q r a e f g h k = let same : Data b ≡ a = cc in subst P same (g b refl)
by-library P None None (Some b) r a e f g h k = let same : Time b ≡ a = cc in subst P same (h b refl)
by-library P None None None (Some b) a e f g h k = let same : Timed b ≡ a = cc in subst P same (k b refl)
by-library P None None None None a e f g h k = absurd (cc)

pub started-rated : (params : Params) (a : LibraryActor) → library.start params ≡ Some a → IsRatedActor a
started-rated params a e =
    by-library IsRatedActor (flow_actor.start params) (data_actor.start params.class params.values params.ports) (time_actor.start params) (timed_actor.start params) a e (λ b h. one-rate (flow_actor.rate b) (flow_bounds.started-gives params b h))
    (λ b h. all-counts (data_actor.rates b) (data_bounds.rates-bounded params.class params.values params.ports b h)) (λ b h. tt) (λ b h. tt)

all-ones : (n : ℕ) → AllByRecursion IsCount (replicate n 1)
all-ones zero = tt
all-ones (suc n) = (record { least = omega arith; most = omega arith }, all-ones n)

pub started-needs : (params : Params) (a : LibraryActor) → library.start params ≡ Some a → library.is_steady a ≡ true → IsCounted (library.need a)
started-needs params a e =
    by-library (λ c. library.is_steady c ≡ true → IsCounted (library.need c)) (flow_actor.start params) (data_actor.start params.class params.values params.ports) (time_actor.start params) (timed_actor.start params) a e (λ b h. flow_bounds.started-needs params b h)
    (λ b h steady. all-counts b.needed (data_bounds.needs-bounded params.class params.values params.ports b h)) (λ b h steady. subst IsCounted (sym (time_laws.needs-one b steady)) (all-ones (time_actor.places b)))
    (λ b h steady. subst IsCounted (sym (timed_laws.needs-one b)) (all-ones (timed_actor.places b)))

-- ---- what is given

one-given : (o : Option ℕ) (given : List ℕ) (out : Streams Token) → option_map (λ n. n ∷ []) o ≡ Some given → ((n : ℕ) → o ≡ Some n → IsGiven n out) → AreGiven given out
one-given None given out e h = absurd (cc)
one-given (Some n) given out e h =
    let same : (n ∷ []) ≡ given = cc in
    subst (λ ns. AreGiven ns out) same at_port
  where
    at_port : AreGiven (n ∷ []) out
    at_port zero rate k = let here : n ≡ rate = cc in subst (λ m. IsGiven m out) here (h n refl)
    at_port (suc port) rate k = absurd (cc)

pub rates-given : (tag : Tag) (a b : LibraryActor) (X out : Streams Token) (given : List ℕ) → library.rates a ≡ Some given → library.need a ≡ Counts (map length X) → library.step tag a X ≡ Gives b out → AreGiven given out
rates-given tag (Flow a) b X out given e supplied h =
    let gave = held-gives Flow (flow_actor.step tag a X) b out h in
    one-given (flow_actor.rate a) given out e (λ n k. flow_laws.rates-given tag a gave.0 X out n k supplied gave.2)
rates-given tag (Data a) b X out given e supplied h =
    let gave = held-gives Data (data_actor.step tag a X) b out h in
    let same : data_actor.rates a ≡ given = cc in
    subst (λ ns. AreGiven ns out) same (data_laws.rates-given tag a gave.0 X out gave.2)
rates-given tag (Time a) b X out given e supplied h = absurd (cc)
rates-given tag (Timed a) b X out given e supplied h = absurd (cc)
