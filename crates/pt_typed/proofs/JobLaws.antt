-- A run of the tree of a net as a job says keeps to the types of the net.
use Rattle.std.proofs.Common.{◌≡◌, ℕ, zero, suc, ◌*◌, List, [], ◌∷◌, Bool, true, false, length, map, drop, nat_lt, Option, Some, None, refl, sym, ap, ap₂, subst, arith, ◌∙◌}
use Rattle.std.proofs.lemmas.List.{length-map}
use Rattle.std.specs.List.{AllByRecursion}
use Rattle.pt_meaning.specs.Basics.{Tag, Streams}
use Rattle.pt_meaning.specs.Tag.{origin}
use Rattle.pt_meaning.specs.Schedule.{portions, suffice, if_more, token_or_none, tokens_at, lists_last, first_event, is_tag, listed, event_at, events_at, Due, Never, At, Past, due_after, lesser, in_time, fire_until, de_turn_at}
use Rattle.pt_meaning.specs.NodeFacts.{next_of}
use Rattle.pt_meaning.specs.Job.{Deadlock, Fire, Ends}
use Rattle.pt_value.specs.declared.token.Token.{Token}
use Rattle.pt_agenda.specs.Events.{Event, tokens_in, events_of}
use Rattle.pt_datatypes.specs.Datatype.{Datatype}
use Rattle.pt_datatypes.specs.Order.{IsBelow}
use Rattle.pt_library.specs.declared.library_actor.LibraryActor.{LibraryActor}
use Rattle.pt_library.specs.LibraryActor.{rows}
use Rattle.pt_trees.specs.declared.top.Top.{Top}
use Rattle.pt_trees.specs.declared.top.Top.TheVariants.{Sdf, Sr, De, Once}
use Rattle.pt_trees.specs.Top.{ticks_of, supply_of, IsWhole}
use Rattle.pt_trees.specs.Run.{schedule}
use Rattle.pt_kinds.specs.Signature.{Signatures, AreOf, AreAllOf}
use Rattle.pt_typed.specs.TokenTypes.{IsTokenOf}
use Rattle.pt_typed.specs.TypedActor.{IsTypedActor}
use Rattle.pt_kinds.specs.TypedRuns.{AreTypedTurns}
use Rattle.pt_typed.specs.NetTypes.{types_below}
use Rattle.pt_typed.specs.InputLaw.{present}
use Rattle.pt_typed.specs.TypedNet.{NetsKeepTypes}
use Rattle.pt_kinds.proofs.StreamLaws.{all-take, all-drop}
use Rattle.pt_typed.proofs.TypedRunLaws.{runs-keep}
use Rattle.pt_typed.proofs.TreeLaws.{trees-are-typed}

-- a turn that fires has these inputs
turn-of : (ts : List Datatype) (a b : Bool) (t tag : Tag) (X inputs : Streams Token) → if_more a b t X ≡ Fire tag inputs → AreAllOf IsTokenOf ts X → AreAllOf IsTokenOf ts inputs
turn-of ts false b t tag X inputs e h = absurd (cc)
turn-of ts true true t tag X inputs e h = let same : X ≡ inputs = cc in subst (λ v. AreAllOf IsTokenOf ts v) same h
turn-of ts true false t tag X inputs e h = absurd (cc)

-- ---- iterations

portions-of : (ts : List Datatype) (n : ℕ) (takes : List ℕ) (X : Streams Token) → AreOf IsTokenOf ts X → AreOf IsTokenOf ts (portions n takes X)
portions-of ts n [] X a = tt
portions-of ts n (m ∷ takes) [] a = tt
portions-of [] n (m ∷ takes) (xs ∷ X) a = absurd a
portions-of (t ∷ ts) n (m ∷ takes) (xs ∷ X) a = (all-take (IsTokenOf t) m (drop (n * m) xs) (all-drop (IsTokenOf t) (n * m) xs a.0), portions-of ts n takes X a.1)

portions-length : (n : ℕ) (takes : List ℕ) (X : Streams Token) → length X ≡ length takes → length (portions n takes X) ≡ length X
portions-length n [] X e = sym e
portions-length n (m ∷ takes) [] e = refl
portions-length n (m ∷ takes) (xs ∷ X) e = ap (λ v. suc v) (portions-length n takes X (omega (arith, e)))

present-all : (xs : List Token) → present (map Some xs) ≡ xs
present-all [] = refl
present-all (x ∷ xs) = ap (λ v. x ∷ v) (present-all xs)

lists-all : (X : Streams Token) → map present (map (λ (xs : List Token). map Some xs) X) ≡ X
lists-all [] = refl
lists-all (xs ∷ X) = ap₂ (λ v V. v ∷ V) (present-all xs) (lists-all X)

-- ---- ticks

present-drop : (t : Datatype) (n : ℕ) (xs : List (Option Token)) → AllByRecursion (IsTokenOf t) (present xs) → AllByRecursion (IsTokenOf t) (present (drop n xs))
present-drop t zero xs a = a
present-drop t (suc n) [] a = tt
present-drop t (suc n) (None ∷ xs) a = present-drop t n xs a
present-drop t (suc n) (Some x ∷ xs) a = present-drop t n xs a.1

present-first : (t : Datatype) (xs : List (Option Token)) → AllByRecursion (IsTokenOf t) (present xs) → AllByRecursion (IsTokenOf t) (token_or_none xs)
present-first t [] a = tt
present-first t (None ∷ xs) a = tt
present-first t (Some x ∷ xs) a = (a.0, tt)

tokens-of : (ts : List Datatype) (n : ℕ) (X : List (List (Option Token))) → AreOf IsTokenOf ts (map present X) → AreOf IsTokenOf ts (tokens_at n X)
tokens-of ts n [] a = tt
tokens-of [] n (xs ∷ X) a = absurd a
tokens-of (t ∷ ts) n (xs ∷ X) a = (present-first t (drop n xs) (present-drop t n xs a.0), tokens-of ts n X a.1)

tokens-length : (n : ℕ) (X : List (List (Option Token))) → length (tokens_at n X) ≡ length X
tokens-length n [] = refl
tokens-length n (xs ∷ X) = ap (λ v. suc v) (tokens-length n X)

-- ---- events

event-of : (t : Datatype) (tag : Tag) (es : List Event) → AllByRecursion (IsTokenOf t) (present (tokens_in es)) → AllByRecursion (IsTokenOf t) (event_at tag es)
event-of t tag [] a = tt
event-of t tag ((s, x) ∷ es) a = by-test (is_tag s tag) (event-of t tag es a.1)
  where
    by-test : (b : Bool) → AllByRecursion (IsTokenOf t) (event_at tag es) → AllByRecursion (IsTokenOf t) (listed b x (event_at tag es))
    by-test true rest = (a.0, rest)
    by-test false rest = rest

events-of : (ts : List Datatype) (tag : Tag) (E : List (List Event)) → AreOf IsTokenOf ts (map present (map tokens_in E)) → AreOf IsTokenOf ts (events_at tag E)
events-of ts tag [] a = tt
events-of [] tag (es ∷ E) a = absurd a
events-of (t ∷ ts) tag (es ∷ E) a = (event-of t tag es a.0, events-of ts tag E a.1)

events-length : (tag : Tag) (E : List (List Event)) → length (events_at tag E) ≡ length (map present (map tokens_in E))
events-length tag [] = refl
events-length tag (es ∷ E) = ap (λ v. suc v) (events-length tag E)

-- a turn that is due and fires
due-of : (ts : List Datatype) (stop : Option ℕ) (E : List (List Event)) (due : Due) (tag : Tag) (X : Streams Token) → AreAllOf IsTokenOf ts (map present (map tokens_in E)) → de_turn_at stop E due ≡ Fire tag X → AreAllOf IsTokenOf ts X
due-of ts stop E Never tag X a e = absurd (cc)
due-of ts stop E Past tag X a e = absurd (cc)
due-of ts stop E (At t) tag X a e = by-time (in_time stop t) e
  where
    by-time : (b : Bool) → fire_until b t (events_at t E) ≡ Fire tag X → AreAllOf IsTokenOf ts X
    by-time true g = let same : events_at t E ≡ X = cc in subst (λ v. AreAllOf IsTokenOf ts v) same (events-length t E ∙ a.0, events-of ts t E a.1)
    by-time false g = absurd (cc)

-- ---- one firing

-- the turn that fires has all tokens
once-of : (ts : List Datatype) (Y X : Streams Token) (tag : Tag) → Fire origin Y ≡ Fire tag X → AreAllOf IsTokenOf ts Y → AreAllOf IsTokenOf ts X
once-of ts Y X tag e h = let same : Y ≡ X = cc in subst (λ v. AreAllOf IsTokenOf ts v) same h

-- and no other fires
never-of : (ts : List Datatype) (X : Streams Token) (tag : Tag) → Ends Deadlock ≡ Fire tag X → AreAllOf IsTokenOf ts X
never-of ts X tag e = absurd (cc)

-- ---- a job

turns-typed : (sigs : Signatures Datatype) (j : Top) → IsWhole j → AreAllOf IsTokenOf (sigs []).places (map present (supply_of j)) → AreTypedTurns {A = LibraryActor} IsTokenOf IsBelow IsTypedActor rows sigs (schedule j)
turns-typed sigs (Sdf j) whole a n last top tag X h =
    let ts = (sigs []).places in
    let Y = j.inputs.items in
    let b : AreAllOf IsTokenOf ts Y = subst (λ v. AreAllOf IsTokenOf ts v) (lists-all Y) a in
    turn-of ts (nat_lt n j.iterations) (suffice n j.takes Y) origin tag (portions n j.takes Y) X h (portions-length n j.takes Y whole ∙ b.0, portions-of ts n j.takes Y b.1)
turns-typed sigs (Sr j) whole a n last top tag X h =
    let ts = (sigs []).places in
    let Y = ticks_of j.inputs.items in
    turn-of ts (nat_lt n j.iterations) (lists_last n Y) (record { time = n; step = 0 }) tag (tokens_at n Y) X h (tokens-length n Y ∙ sym (length-map Y present) ∙ a.0, tokens-of ts n Y a.1)
turns-typed sigs (De j) whole a n last top tag X h =
    let E : List (List Event) = events_of j.inputs.items in
    due-of (sigs []).places j.stop E (lesser (first_event last E) (due_after (next_of rows top) last)) tag X a h
turns-typed sigs (Once j) whole a zero last top tag X h = let ts = (sigs []).places in once-of ts j.inputs.items X tag h (subst (λ v. AreAllOf IsTokenOf ts v) (lists-all j.inputs.items) a)
turns-typed sigs (Once j) whole a (suc n) last top tag X h = never-of (sigs []).places X tag h

pub nets-keep-types : NetsKeepTypes
nets-keep-types net typing starts top wired up meet modals is j whole a m k =
    runs-keep (types_below net typing 0) m (schedule j) top (trees-are-typed net typing starts 0 top wired up meet modals is) (turns-typed (types_below net typing 0) j whole a) k
