-- The firing of a Rendezvous explained, from its scenes.
use Rattle.std.proofs.Common.{◌≡◌, ◌⊎◌, ℕ, zero, suc, ◌+◌, ◌≤◌, ◌<◌, List, [], ◌∷◌, ◌++◌, Bool, true, false, length, Option, Some, None, inl, inr, refl, sym, ap, ap₂, subst, arith, ◌∙◌, append_assoc, append-nil, if◌then◌else◌}
use Rattle.std.proofs.lemmas.Bool.Decides.{nat_tests}
use Rattle.pt_meaning.specs.Basics.{Tag, Streams, at, Meeting, silent}
use Rattle.pt_meaning.specs.Machine.{Outcome, Stepping, Facts}
use Rattle.pt_meaning.specs.Rounds.{Source, Own, Output}
use Rattle.pt_meaning.specs.Dataflow.{Inside}
use Rattle.pt_meaning.specs.Modal.{get}
use Rattle.pt_meaning.specs.Process.{is_source, Put, Mood, Well, Broken, Party, next_event, channels_from, puts_of_port, at_rest, all_rest, party_logs, party_states, all_got, all_puts, advanced}
use Rattle.pt_meaning.specs.Meetings.{Scene, is_legal, meet}
use Rattle.pt_meaning.specs.Rendezvous.{RvPlan, Places, arriving, scene_log, if_ended, if_meets, settled, under_meetings, seated, outlets, opening, rv}
use Rattle.pt_meaning.specs.Node.{Rv}
use Rattle.pt_laws.specs.LogsOfRuns.{log_at, log_in}
use Rattle.pt_meaning.specs.Streams.{IsPrefix}
use Rattle.pt_meaning.specs.Places.{tokens_on}
use Rattle.pt_meaning.specs.Asked.{scene_after, AsksInScene}
use Rattle.pt_laws.specs.Channels as channels
use Rattle.pt_meaning.specs.Closed.{Begun, if_there, inputs_at, outputs_at, begun_at}
use Rattle.pt_laws.specs.Channels.{channel_at}
use Rattle.pt_laws.specs.SoundRuns.{got_by, waiting_in, on_its_way, HasRooms}
use Rattle.pt_laws.specs.Explained.{Turned, PartOf, IfDone, Explained, of_turns, takes_in, gives_in}
use Rattle.pt_laws.proofs.Order.{IsPrefix-trans, IsPrefix-after, IsPrefix-append}
use Rattle.pt_laws.proofs.PlaceEnds.{if_from, port-puts, tokens-append}
use Rattle.pt_laws.proofs.ExplainPlaces.{held_of, Same, meeting-same}
use Rattle.pt_laws.proofs.ChannelLaws.{none-of-channel, at-beyond}
use Rattle.pt_laws.proofs.KahnLaws.{and-left, and-right}
use Rattle.pt_laws.proofs.PartyLaws.{sticks-broken}
use Rattle.pt_laws.proofs.MeetingIndex.{some-same}
use Rattle.pt_laws.proofs.ExplainModal.{state_or, state-of}
use Rattle.pt_laws.proofs.ExplainParties.{PartyIs, AllAsked, turns-append, turns_in, advanced-is, all_turns, got-moved, room-moved, puts-moved, none-beyond, each-advanced, advanced-long}
use Rattle.pt_laws.proofs.ExplainScenes.{SceneIs, meet-is}

-- the lists of a scene, by process
logs-at : {T S : Type 0} (ps : List (Party T S)) (i : ℕ) (p : Party T S) → get ps i ≡ Some p → log_at (party_logs ps) i ≡ p.log
logs-at [] i p e = absurd (cc)
logs-at {T} {S} (x ∷ ps) zero p e = ap (λ (v : Party T S). v.log) (some-same x p e)
logs-at (x ∷ ps) (suc i) p e = logs-at ps i p e

logs-none : {T S : Type 0} (ps : List (Party T S)) (i : ℕ) → length ps ≤ i → log_at (party_logs ps) i ≡ silent
logs-none [] i h = refl
logs-none (x ∷ ps) zero h = absurd (omega arith)
logs-none (x ∷ ps) (suc i) h = logs-none ps i (omega (arith, h))

states-at : {T S : Type 0} (any : S) (ps : List (Party T S)) (i : ℕ) (p : Party T S) → get ps i ≡ Some p → state_or any (party_states ps) i ≡ p.state
unfolding state_or
states-at any [] i p e = absurd (cc)
states-at {T} {S} any (x ∷ ps) zero p e = ap (λ (v : Party T S). v.state) (some-same x p e)
states-at any (x ∷ ps) (suc i) p e = states-at any ps i p e

states-long : {T S : Type 0} (ps : List (Party T S)) → length (party_states ps) ≡ length ps
states-long [] = refl
states-long (x ∷ ps) = ap (λ n. suc n) (states-long ps)

got-at : {T S : Type 0} (ps : List (Party T S)) (i : ℕ) (p : Party T S) → get ps i ≡ Some p → got_by (all_got ps) i ≡ p.got
got-at [] i p e = absurd (cc)
got-at {T} {S} (x ∷ ps) zero p e = ap (λ (v : Party T S). v.got) (some-same x p e)
got-at (x ∷ ps) (suc i) p e = got-at ps i p e

rests-at : {T S : Type 0} (facts : Facts T S) (ps : List (Party T S)) (i : ℕ) (p : Party T S) → get ps i ≡ Some p → all_rest facts ps ≡ true → at_rest (next_event facts p) ≡ true
rests-at facts [] i p e a = absurd (cc)
rests-at {T} {S} facts (x ∷ ps) zero p e a = subst (λ (v : Party T S). at_rest (next_event facts v) ≡ true) (some-same x p e) (and-left _ _ a)
rests-at facts (x ∷ ps) (suc i) p e a = rests-at facts ps i p e (and-right _ _ a)

rests-well : {T S : Type 0} (facts : Facts T S) (p : Party T S) → at_rest (next_event facts p) ≡ true → p.mood ≡ Well
rests-well facts p a = go p.mood refl
  where
    no : false ≡ true → ⊥
    no h = cc

    go : (m : Mood) → p.mood ≡ m → p.mood ≡ Well
    go Well e = e
    go (Broken fs) e = absurd (no (subst (λ n. at_rest n ≡ true) (sticks-broken facts p fs e) a))

in-list : {A : Type 0} (xs : List A) (i : ℕ) → ((x : A) × (get xs i ≡ Some x)) ⊎ (length xs ≤ i)
in-list [] i = inr (omega arith)
in-list (x ∷ xs) zero = inl (x, refl)
in-list {A} (x ∷ xs) (suc i) = up (in-list xs i)
  where
    up : ((y : A) × (get xs i ≡ Some y)) ⊎ (length xs ≤ i) → ((y : A) × (get xs i ≡ Some y)) ⊎ (suc (length xs) ≤ suc i)
    up (inl e) = inl e
    up (inr h) = inr (omega (arith, h))

get-within : {A : Type 0} (xs : List A) (i : ℕ) (x : A) → get xs i ≡ Some x → length xs ≤ i → ⊥
get-within [] i x e h = clash e
  where
    clash : None ≡ Some x → ⊥
    clash e = cc
get-within (y ∷ xs) zero x e h = omega arith
get-within (y ∷ xs) (suc i) x e h = get-within xs i x e (omega (arith, h))

module _ {T S : Type 0} (facts : Facts T S) (step : Stepping T S) (tag : Tag) (plan : RvPlan) (X : Places T) (inputs : Streams T) (ks : List S) (any : S) (n : ℕ) (all : List Meeting) where
  abbrev Asks : ℕ → S → Streams T → Type 0
  Asks i child got = AsksInScene facts step tag plan.net n all (opening plan X ks inputs) i child got

  abbrev Holds : (ℕ → List (Turned T)) → Scene T S → Type 0
  Holds τ sc = SceneIs facts step tag ks Asks τ sc

  -- what is taken is the beginning of what was on the places and of what came, in order, and the rest is on its way
  abbrev Counts : (ℕ → List (Turned T)) → Scene T S → Type 0
  Counts τ sc = HasRooms plan.net (held_of sc) × ((i q : ℕ) → of_turns (inputs_at q) (τ i) ++ on_its_way plan.net (held_of sc) i q (channel_at plan.net.places i q) ≡ on_its_way plan.net X i q (channel_at plan.net.places i q) ++ gives_in inputs τ (channels.source_in plan.net i q))

  abbrev Explains : Outcome T (Inside (Places T) S) → Type 0
  Explains r = Explained facts step all n tag inputs (Rv plan X) (Rv plan) ks r

  -- a scene at which it ends
  module _ (τ : ℕ → List (Turned T)) (sc : Scene T S) (h : Holds τ sc) (c : Counts τ sc) where
    Seat : ℕ → Type 0
    Seat i = ((p : Party T S) × (get sc.parties i ≡ Some p)) ⊎ (length sc.parties ≤ i)

    seat : (i : ℕ) → Seat i
    unfolding Seat
    seat i = in-list sc.parties i

    way_at : (i : ℕ) → Seat i → Option (Begun T)
    unfolding Seat
    way_at i (inl p) = (h.parties i p.0 p.1).way
    way_at i (inr b) = None

    part-at : (i : ℕ) (s : S) → get ks i ≡ Some s → (o : Seat i) → PartOf facts step s (log_at (party_logs sc.parties) i) (τ i) (way_at i o) (state_or any (party_states sc.parties) i)
    unfolding Seat way_at
    part-at i s e (inl p) =
        let is = h.parties i p.0 p.1 in
        let same : is.start ≡ s = some-same is.start s (sym is.at_start ∙ e) in
        subst (λ v. PartOf facts step s (log_at (party_logs sc.parties) i) (τ i) is.way v) (sym (states-at any sc.parties i p.0 p.1))
        (subst (λ v. PartOf facts step s v (τ i) is.way p.0.state) (sym (logs-at sc.parties i p.0 p.1)) (subst (λ v. PartOf facts step v p.0.log (τ i) is.way p.0.state) same is.whole))
    part-at i s e (inr b) = absurd (get-within ks i s e (omega (arith, b, h.count)))

    way-beyond : (i : ℕ) → length ks ≤ i → (o : Seat i) → way_at i o ≡ None
    unfolding Seat way_at
    way-beyond i b (inl p) = absurd (get-within sc.parties i p.0 p.1 (omega (arith, b, h.count)))
    way-beyond i b (inr c) = refl

    whole-at : all_rest facts sc.parties ≡ true → (i : ℕ) (o : Seat i) → way_at i o ≡ None
    unfolding Seat way_at
    whole-at a i (inl p) = (h.parties i p.0 p.1).well (rests-well facts p.0 (rests-at facts sc.parties i p.0 p.1 a))
    whole-at a i (inr b) = refl

    -- as often as it is taken
    begun-there : (i q : ℕ) (p : Party T S) → get sc.parties i ≡ Some p → (b : Begun T) → IsPrefix (at b.inputs q) (at p.got q) → IsPrefix (at b.inputs q) (on_its_way plan.net (held_of sc) i q (channel_at plan.net.places i q))
    begun-there i q p e b f = go (channel_at plan.net.places i q) refl
      where
        same : at p.got q ≡ at (got_by (all_got sc.parties) i) q
        same = ap (λ Y. at Y q) (sym (got-at sc.parties i p e))

        go : (o : Option ℕ) → channel_at plan.net.places i q ≡ o → IsPrefix (at b.inputs q) (on_its_way plan.net (held_of sc) i q o)
        go None g = let l = none-of-channel plan.net.places i q g in let m = c.0.gathers i in subst (λ v. IsPrefix (at b.inputs q) v) (same ∙ at-beyond (got_by (all_got sc.parties) i) q (omega (arith, l, m))) f
        go (Some e) g = IsPrefix-trans _ _ _ (subst (λ v. IsPrefix (at b.inputs q) v) same f) (IsPrefix-append (at (got_by (all_got sc.parties) i) q) _)

    begun-at-seat : (i q : ℕ) (o : Seat i) → IsPrefix (begun_at (way_at i o) q) (on_its_way plan.net (held_of sc) i q (channel_at plan.net.places i q))
    unfolding Seat way_at
    begun-at-seat i q (inr c) = tt
    begun-at-seat i q (inl p) = go (h.parties i p.0 p.1).way refl
      where
        go : (w : Option (Begun T)) → (h.parties i p.0 p.1).way ≡ w → IsPrefix (begun_at w q) (on_its_way plan.net (held_of sc) i q (channel_at plan.net.places i q))
        go None e = tt
        go (Some b) e = begun-there i q p.0 p.1 b ((h.parties i p.0 p.1).begins b e q)

    tagged-at-seat : (i : ℕ) (b : Begun T) (o : Seat i) → way_at i o ≡ Some b → b.tag ≡ tag
    unfolding Seat way_at
    tagged-at-seat i b (inl p) e = (h.parties i p.0 p.1).tagged b e
    tagged-at-seat i b (inr c) e = absurd (clash e)
      where
        clash : None ≡ Some b → ⊥
        clash e = cc

    asked-at-seat : (i : ℕ) (b : Begun T) (o : Seat i) → way_at i o ≡ Some b → Asks i (state_or any (party_states sc.parties) i) b.inputs
    unfolding Seat way_at
    asked-at-seat i b (inl p) e = subst (λ z. Asks i z b.inputs) (sym (states-at any sc.parties i p.0 p.1)) ((h.parties i p.0 p.1).asks b e)
    asked-at-seat i b (inr c) e = absurd (clash e)
      where
        clash : None ≡ Some b → ⊥
        clash e = cc

    counted-at : (i q : ℕ) → IsPrefix (takes_in τ (λ j. way_at j (seat j)) i q) (on_its_way plan.net X i q (channel_at plan.net.places i q) ++ gives_in inputs τ (channels.source_in plan.net i q))
    counted-at i q = subst (λ v. IsPrefix (takes_in τ (λ j. way_at j (seat j)) i q) v) (c.1 i q) (IsPrefix-after (of_turns (inputs_at q) (τ i)) _ _ (begun-at-seat i q (seat i)))

    ends-well : (b : Bool) → (b ≡ true → all_rest facts sc.parties ≡ true) → IfDone facts inputs (Rv plan X) (Rv plan) ks τ (λ i. way_at i (seat i)) (λ i. state_or any (party_states sc.parties) i) (if_ended b sc)
    ends-well false a = tt
    ends-well true a = record {
      whole = λ i. whole-at (a refl) i (seat i);
      wired = c.0;
      count = states-long sc.parties ∙ h.count;
      kids = λ i s e. inl (state-of any (party_states sc.parties) i s e);
      same_plan = record { sources = λ i q. refl; modal = refl; keeps = refl };
      counted = λ i q. subst (λ v. IsPrefix (of_turns (inputs_at q) (τ i)) v) (c.1 i q) (IsPrefix-append (of_turns (inputs_at q) (τ i)) _);
      left = λ g i q. c.1 i q;
    }

    scene-explained : (b : Bool) → (b ≡ true → all_rest facts sc.parties ≡ true) → Explains (if_ended b sc)
    scene-explained b a = record {
      events = sc.met;
      bare = h.bare;
      quiet = h.quiet;
      logs = party_logs sc.parties;
      log = log_of_both b;
      turns = τ;
      way = λ i. way_at i (seat i);
      ends = λ i. state_or any (party_states sc.parties) i;
      parts = λ i s e. part-at i s e (seat i);
      beyond = λ i g. (logs-none sc.parties i (omega (arith, g, h.count)), h.beyond i g, way-beyond i g (seat i));
      tagged = λ i w e. tagged-at-seat i w (seat i) e;
      counted = λ i q. inl (counted-at i q);
      asked = λ i w e. (tagged-at-seat i w (seat i) e, asked-at-seat i w (seat i) e);
      done = ends-well b a;
    }
      where
        log_of_both : (b : Bool) → log_in (if_ended b sc) ≡ scene_log sc
        log_of_both true = refl
        log_of_both false = refl

  -- the processes make their firings
  module _ (k : ℕ) where
    more_turns : (ℕ → List (Turned T)) → Scene T S → ℕ → List (Turned T)
    more_turns τ sc i = τ i ++ all_turns facts step tag plan ks Asks k 0 sc.parties i

    settled-is : (τ : ℕ → List (Turned T)) (sc : Scene T S) → Holds τ sc → ((i : ℕ) (p : Party T S) → get sc.parties i ≡ Some p → AllAsked facts step tag plan ks Asks i p) → Holds (more_turns τ sc) (settled facts step tag plan.net k n sc)
    unfolding more_turns
    settled-is τ sc h due = record {
      parties = λ i y e. let r = each-advanced facts step tag plan ks Asks k 0 sc.parties i y e in one i y r.0 r.1 r.2 r.3;
      bare = h.bare;
      quiet = h.quiet;
      count = advanced-long facts step tag plan ks Asks k 0 sc.parties ∙ h.count;
      beyond = λ i g. let a = h.beyond i g in let b = none-beyond facts step tag plan ks Asks k 0 sc.parties i (omega (arith, g, h.count)) in rw (a, b) refl;
    }
      where
        one : (i : ℕ) (y p : Party T S) → get sc.parties i ≡ Some p → y ≡ advanced facts step tag plan.net.sources k (0 + i) p → all_turns facts step tag plan ks Asks k 0 sc.parties i ≡ turns_in facts step tag plan ks Asks k (0 + i) p →
            PartyIs facts step tag ks Asks (more_turns τ sc i) i y
        one i y p e a b =
            let z : 0 + i ≡ i = omega arith in
            let ts : τ i ++ turns_in facts step tag plan ks Asks k i p ≡ more_turns τ sc i = ap (λ v. τ i ++ v) (sym (b ∙ ap (λ v. turns_in facts step tag plan ks Asks k v p) z)) in
            subst (λ (v : Party T S). PartyIs facts step tag ks Asks (more_turns τ sc i) i v) (sym (a ∙ ap (λ v. advanced facts step tag plan.net.sources k v p) z))
            (subst (λ v. PartyIs facts step tag ks Asks v i (advanced facts step tag plan.net.sources k i p)) ts
            (advanced-is facts step tag plan ks Asks k (τ i) i p (h.parties i p e) (due i p e)))

    settled-counts : (τ : ℕ → List (Turned T)) (sc : Scene T S) → Counts τ sc → Counts (more_turns τ sc) (settled facts step tag plan.net k n sc)
    unfolding more_turns
    settled-counts τ sc c = (rooms, λ i q. go i q (channel_at plan.net.places i q) refl)
      where
        new : ℕ → List (Turned T)
        new i = all_turns facts step tag plan ks Asks k 0 sc.parties i

        rooms : HasRooms plan.net (held_of (settled facts step tag plan.net k n sc))
        rooms = record { gathers = λ i. room-moved facts step tag plan ks Asks k 0 sc.parties i ∙ c.0.gathers i; sends = c.0.sends }

        -- what waits, and what came
        came : (d : ℕ) (s : Option Source) → get plan.net.sources d ≡ s →
            (new : List T) × (tokens_on d (waiting_in (held_of (settled facts step tag plan.net k n sc)) s) ≡ tokens_on d (waiting_in (held_of sc) s) ++ new) × (gives_in inputs (λ i. τ i ++ all_turns facts step tag plan ks Asks k 0 sc.parties i) s ≡ gives_in inputs τ s ++ new)
        came d None e = ([], refl, refl)
        came d (Some (Own j)) e = ([], sym (append-nil (tokens_on d (at sc.inputs j))), sym (append-nil (at inputs j)))
        came d (Some (Output j port)) e = (
          of_turns (outputs_at port) (all_turns facts step tag plan ks Asks k 0 sc.parties j),
          let z : j ≡ 0 + j = omega arith in puts-moved facts step tag plan ks Asks k 0 sc.parties j d port (e ∙ ap (λ v. Option.Some (Output v port)) z),
          turns-append (outputs_at port) (τ j) (all_turns facts step tag plan ks Asks k 0 sc.parties j),
        )

        sum : (tk tn g' g w' w new on gv gv' : List T) → tn ++ g' ≡ g → w' ≡ w ++ new → gv' ≡ gv ++ new → tk ++ (g ++ w) ≡ on ++ gv → (tk ++ tn) ++ (g' ++ w') ≡ on ++ gv'
        sum tk tn g' g w' w new on gv gv' a b d e =
            append_assoc tk tn (g' ++ w') ∙ ap (λ v. tk ++ v) (sym (append_assoc tn g' w') ∙ ap₂ (λ u v. u ++ v) a b ∙ sym (append_assoc g w new)) ∙ sym (append_assoc tk (g ++ w) new) ∙ ap (λ v. v ++ new) e ∙ append_assoc on gv new ∙ ap (λ v. on ++ v) (sym d)

        left-empty : (xs ys : List T) → xs ++ ys ≡ [] → xs ≡ []
        left-empty [] ys e = refl
        left-empty (x ∷ xs) ys e = absurd (clash e)
          where
            clash : x ∷ (xs ++ ys) ≡ [] → ⊥
            clash e = cc

        go : (i q : ℕ) (o : Option ℕ) → channel_at plan.net.places i q ≡ o →
            of_turns (inputs_at q) (τ i ++ all_turns facts step tag plan ks Asks k 0 sc.parties i) ++ on_its_way plan.net (held_of (settled facts step tag plan.net k n sc)) i q o ≡ on_its_way plan.net X i q o ++ gives_in inputs (λ i. τ i ++ all_turns facts step tag plan ks Asks k 0 sc.parties i) (if_there (get plan.net.sources) o)
        go i q None e =
            let l = none-of-channel plan.net.places i q e in
            let m = c.0.gathers i in
            let old : of_turns (inputs_at q) (τ i) ++ [] ≡ [] = subst (λ o. of_turns (inputs_at q) (τ i) ++ on_its_way plan.net (held_of sc) i q o ≡ on_its_way plan.net X i q o ++ gives_in inputs τ (if_there (get plan.net.sources) o)) e (c.1 i q) in
            let new : of_turns (inputs_at q) (all_turns facts step tag plan ks Asks k 0 sc.parties i) ≡ [] = left-empty _ _ (got-moved facts step tag plan ks Asks k 0 sc.parties i q ∙ at-beyond (got_by (all_got sc.parties) i) q (omega (arith, l, m))) in
            ap (λ v. v ++ []) (turns-append (inputs_at q) (τ i) (all_turns facts step tag plan ks Asks k 0 sc.parties i) ∙ ap (λ v. of_turns (inputs_at q) (τ i) ++ v) new) ∙ ap (λ v. v ++ []) old
        go i q (Some d) e =
            let old = subst (λ o. of_turns (inputs_at q) (τ i) ++ on_its_way plan.net (held_of sc) i q o ≡ on_its_way plan.net X i q o ++ gives_in inputs τ (if_there (get plan.net.sources) o)) e (c.1 i q) in
            let w = came d (get plan.net.sources d) refl in
            ap (λ v. v ++ on_its_way plan.net (held_of (settled facts step tag plan.net k n sc)) i q (Some d)) (turns-append (inputs_at q) (τ i) (all_turns facts step tag plan ks Asks k 0 sc.parties i)) ∙
            sum (of_turns (inputs_at q) (τ i)) (of_turns (inputs_at q) (all_turns facts step tag plan ks Asks k 0 sc.parties i)) _ (at (got_by (all_got sc.parties) i) q) _ (tokens_on d (waiting_in (held_of sc) (get plan.net.sources d))) w.0 (on_its_way plan.net X i q (Some d)) (gives_in inputs τ (get plan.net.sources d)) _ (got-moved facts step tag plan ks Asks k 0 sc.parties i q) w.1 w.2 old

    met-counts : (τ : ℕ → List (Turned T)) (sc : Scene T S) (m : Meeting) → Counts τ sc → Counts τ (meet plan.net n m sc)
    unfolding Same
    met-counts τ sc m c = let s = meeting-same plan.net m sc c.0 in (s.1, λ i q. ap (λ v. of_turns (inputs_at q) (τ i) ++ v) (s.0 i q) ∙ c.1 i q)

    -- the scene after the meetings that were made so far
    abbrev Come : List Meeting → List Meeting → Scene T S → Type 0
    Come met ms sc = (all ≡ met ++ ms) × (sc ≡ scene_after facts step tag plan.net k n met (opening plan X ks inputs))

    asked-there : (met ms : List Meeting) (sc : Scene T S) → Come met ms sc → (i : ℕ) (p : Party T S) → get sc.parties i ≡ Some p → AllAsked facts step tag plan ks Asks i p
    asked-there met ms sc come i p e j fires = record {
      fuel = k;
      met = met;
      made = j;
      party = p;
      listed = subst (λ v. IsPrefix met v) (sym come.0) (IsPrefix-append met ms);
      there = ap (λ (v : Scene T S). get v.parties i) (sym come.1) ∙ e;
      fires = fires;
      state = refl;
      gathered = refl;
    }

    one-more : (met : List Meeting) (m : Meeting) (sc : Scene T S) → scene_after facts step tag plan.net k n (met ++ (m ∷ [])) sc ≡ meet plan.net n m (settled facts step tag plan.net k n (scene_after facts step tag plan.net k n met sc))
    one-more [] m sc = refl
    one-more (x ∷ met) m sc = one-more met m (meet plan.net n x (settled facts step tag plan.net k n sc))

    come-on : (met : List Meeting) (m : Meeting) (ms : List Meeting) (sc : Scene T S) → Come met (m ∷ ms) sc → Come (met ++ (m ∷ [])) ms (meet plan.net n m (settled facts step tag plan.net k n sc))
    come-on met m ms sc come = (come.0 ∙ sym (append_assoc met (m ∷ []) ms), ap (λ v. meet plan.net n m (settled facts step tag plan.net k n v)) come.1 ∙ sym (one-more met m (opening plan X ks inputs)))

    under-explained : (ms met : List Meeting) (τ : ℕ → List (Turned T)) (sc : Scene T S) → Come met ms sc → Holds τ sc → Counts τ sc → Explains (under_meetings facts step tag plan.net k n ms sc)
    unfolding under_meetings
    under-explained [] met τ sc come h c = scene-explained (more_turns τ sc) (settled facts step tag plan.net k n sc) (settled-is τ sc h (asked-there met [] sc come)) (settled-counts τ sc c) _ (λ e. and-left _ _ e)
    under-explained (m ∷ ms) met τ sc come h c =
        meets (is_legal facts plan.net (settled facts step tag plan.net k n sc) m) (settled-is τ sc h (asked-there met (m ∷ ms) sc come)) (settled-counts τ sc c) (under-explained ms (met ++ (m ∷ [])) (more_turns τ sc) (meet plan.net n m (settled facts step tag plan.net k n sc)) (come-on met m ms sc come))
      where
        meets : (b : Bool) → Holds (more_turns τ sc) (settled facts step tag plan.net k n sc) → Counts (more_turns τ sc) (settled facts step tag plan.net k n sc) → (Holds (more_turns τ sc) (meet plan.net n m (settled facts step tag plan.net k n sc)) → Counts (more_turns τ sc) (meet plan.net n m (settled facts step tag plan.net k n sc)) → Explains (under_meetings facts step tag plan.net k n ms (meet plan.net n m (settled facts step tag plan.net k n sc)))) →
            Explains (if_meets facts step tag plan.net k n b (under_meetings facts step tag plan.net k n ms) m (settled facts step tag plan.net k n sc))
        meets true g c ih = ih (meet-is facts step tag plan.net ks Asks (more_turns τ sc) n m (settled facts step tag plan.net k n sc) g) (met-counts (more_turns τ sc) (settled facts step tag plan.net k n sc) m c)
        meets false g c ih = scene-explained (more_turns τ sc) (settled facts step tag plan.net k n sc) g c false (λ e. absurd (no e))
          where
            no : false ≡ true → ⊥
            no e = cc

  -- at the start
  seat-of : (bs : List Bool) (gs : List (Streams T)) (us : List (List (Put T))) (ss : List S) (i : ℕ) (p : Party T S) → get (seated bs gs us ss) i ≡ Some p →
      (b : Bool) × (get ss i ≡ Some p.state) × (p ≡ record { barrier = b; state = p.state; got = got_by gs i; puts = at us i; mood = Well; log = silent })
  seat-of [] gs us ss i p e = absurd (cc)
  seat-of (b ∷ bs) [] us ss i p e = absurd (cc)
  seat-of (b ∷ bs) (g ∷ gs) [] ss i p e = absurd (cc)
  seat-of (b ∷ bs) (g ∷ gs) (u ∷ us) [] i p e = absurd (cc)
  seat-of (b ∷ bs) (g ∷ gs) (u ∷ us) (s ∷ ss) zero p e =
      let same : record { barrier = b; state = s; got = g; puts = u; mood = Well; log = silent } ≡ p = some-same _ p e in
      let state : s ≡ p.state = ap (λ (v : Party T S). v.state) same in
      (b, ap (λ v. Option.Some v) state, sym same ∙ ap (λ (v : S). let q : Party T S = record { barrier = b; state = v; got = g; puts = u; mood = Well; log = silent } in q) state)
  seat-of (b ∷ bs) (g ∷ gs) (u ∷ us) (s ∷ ss) (suc i) p e = seat-of bs gs us ss i p e

  seats-count : (bs : List Bool) (gs : List (Streams T)) (us : List (List (Put T))) (ss : List S) → length bs ≡ length ss → length gs ≡ length ss → length us ≡ length ss → length (seated bs gs us ss) ≡ length ss
  seats-count [] gs us ss a b c = a
  seats-count (x ∷ bs) [] us ss a b c = b
  seats-count (x ∷ bs) (g ∷ gs) [] ss a b c = c
  seats-count (x ∷ bs) (g ∷ gs) (u ∷ us) [] a b c = refl
  seats-count (x ∷ bs) (g ∷ gs) (u ∷ us) (s ∷ ss) a b c = ap (λ n. suc n) (seats-count bs gs us ss (omega (arith, a)) (omega (arith, b)) (omega (arith, c)))

  first-scene : length plan.barriers ≡ length ks → length X.got ≡ length ks → length X.puts ≡ length ks →
      Holds (λ i. []) (record { parties = seated plan.barriers X.got X.puts ks; inputs = arriving plan.net.sources 0 X.inputs inputs; outputs = outlets plan.net.places plan.net.sources; met = [] })
  first-scene a b c = record {
    parties = λ i p e. let w = seat-of plan.barriers X.got X.puts ks i p e in subst (λ (v : Party T S). PartyIs facts step tag ks Asks [] i v) (sym w.2) (seated-is i p.state w.0 w.1);
    bare = λ v g. absurd g;
    quiet = refl;
    count = seats-count plan.barriers X.got X.puts ks a b c;
    beyond = λ i g. refl;
  }
    where
      seated-is : (i : ℕ) (s : S) (b : Bool) → get ks i ≡ Some s → PartyIs facts step tag ks Asks [] i (record { barrier = b; state = s; got = got_by X.got i; puts = at X.puts i; mood = Well; log = silent })
      seated-is i s b e = record {
        start = s;
        at_start = e;
        way = None;
        whole = record { first = silent; rest = silent; chain = (refl, refl); ends = refl; whole = refl };
        well = λ g. refl;
        begins = λ w g. absurd (clash w g);
        tagged = λ w g. absurd (clash w g);
        asks = λ w g. absurd (clash w g);
      }
        where
          clash : (w : Begun T) → None ≡ Some w → ⊥
          clash w g = cc

  seats-got : (bs : List Bool) (gs : List (Streams T)) (us : List (List (Put T))) (ss : List S) → length bs ≡ length ss → length gs ≡ length ss → length us ≡ length ss → (all_got (seated bs gs us ss) ≡ gs) × (all_puts (seated bs gs us ss) ≡ us)
  seats-got [] [] [] ss a b c = (refl, refl)
  seats-got [] (g ∷ gs) us ss a b c = absurd (omega (arith, a, b))
  seats-got [] [] (u ∷ us) ss a b c = absurd (omega (arith, a, c))
  seats-got (x ∷ bs) [] us ss a b c = absurd (omega (arith, a, b))
  seats-got (x ∷ bs) (g ∷ gs) [] ss a b c = absurd (omega (arith, a, c))
  seats-got (x ∷ bs) (g ∷ gs) (u ∷ us) [] a b c = absurd (omega (arith, a))
  seats-got (x ∷ bs) (g ∷ gs) (u ∷ us) (s ∷ ss) a b c = let r = seats-got bs gs us ss (omega (arith, a)) (omega (arith, b)) (omega (arith, c)) in (ap (λ v. g ∷ v) r.0, ap (λ v. u ∷ v) r.1)

  arriving-long : (sources : List Source) (b : ℕ) (kept : List (List (Put T))) (Y : Streams T) → length (arriving sources b kept Y) ≡ length kept
  arriving-long sources b [] Y = refl
  arriving-long sources b (us ∷ kept) Y = ap (λ v. suc v) (arriving-long sources (suc b) kept Y)

  arriving-at : (sources : List Source) (b : ℕ) (kept : List (List (Put T))) (Y : Streams T) (j : ℕ) → j < length kept → at (arriving sources b kept Y) j ≡ at kept j ++ puts_of_port (channels_from 0 (Own (b + j)) sources) (at Y (b + j))
  arriving-at sources b [] Y j h = absurd (omega (arith, h))
  arriving-at sources b (us ∷ kept) Y zero h = let a : b ≡ b + 0 = omega arith in ap (λ v. us ++ puts_of_port (channels_from 0 (Own v) sources) (at Y v)) a
  arriving-at sources b (us ∷ kept) Y (suc j) h = let a : suc b + j ≡ b + suc j = omega arith in arriving-at sources (suc b) kept Y j (omega (arith, h)) ∙ ap (λ v. at kept j ++ puts_of_port (channels_from 0 (Own v) sources) (at Y v)) a

  first-counts : length plan.barriers ≡ length ks → length X.got ≡ length ks → length X.puts ≡ length ks → HasRooms plan.net X →
      Counts (λ i. []) (record { parties = seated plan.barriers X.got X.puts ks; inputs = arriving plan.net.sources 0 X.inputs inputs; outputs = outlets plan.net.places plan.net.sources; met = [] })
  first-counts a b c r = (
    record { gathers = λ i. ap (λ Y. length (got_by Y i)) seats.0 ∙ r.gathers i; sends = λ d j e. subst (λ v. j < v) (sym (arriving-long plan.net.sources 0 X.inputs inputs)) (r.sends d j e) },
    λ i q. go i q (channel_at plan.net.places i q),
  )
    where
      seats : (all_got (seated plan.barriers X.got X.puts ks) ≡ X.got) × (all_puts (seated plan.barriers X.got X.puts ks) ≡ X.puts)
      seats = seats-got plan.barriers X.got X.puts ks a b c

      same-source : (j : ℕ) → is_source (Own j) (Own j) ≡ true
      same-source j = grind (arith, nat_tests)

      waits : (d : ℕ) (s : Option Source) → get plan.net.sources d ≡ s →
          tokens_on d (waiting_in (record { got = all_got (seated plan.barriers X.got X.puts ks); puts = all_puts (seated plan.barriers X.got X.puts ks); inputs = arriving plan.net.sources 0 X.inputs inputs }) s) ≡ tokens_on d (waiting_in X s) ++ gives_in inputs (λ i. []) s
      waits d None e = refl
      waits d (Some (Own j)) e =
          let z : 0 + j ≡ j = omega arith in
          ap (λ us. tokens_on d us) (arriving-at plan.net.sources 0 X.inputs inputs j (r.sends d j e) ∙ ap (λ v. at X.inputs j ++ puts_of_port (channels_from 0 (Own v) plan.net.sources) (at inputs v)) z) ∙
          tokens-append d (at X.inputs j) _ ∙ ap (λ v. tokens_on d (at X.inputs j) ++ v) (port-puts (Own j) plan.net.sources d (at inputs j) ∙ ap (λ o. if_from (Own j) o (at inputs j)) e ∙ ap (λ w. if w then at inputs j else []) (same-source j))
      waits d (Some (Output j port)) e = ap (λ v. tokens_on d (at v j)) seats.1 ∙ sym (append-nil (tokens_on d (at X.puts j)))

      go : (i q : ℕ) (o : Option ℕ) →
          on_its_way plan.net (record { got = all_got (seated plan.barriers X.got X.puts ks); puts = all_puts (seated plan.barriers X.got X.puts ks); inputs = arriving plan.net.sources 0 X.inputs inputs }) i q o ≡ on_its_way plan.net X i q o ++ gives_in inputs (λ i. []) (if_there (get plan.net.sources) o)
      go i q None = refl
      go i q (Some d) = ap₂ (λ Y w. at (got_by Y i) q ++ w) seats.0 (waits d (get plan.net.sources d) refl) ∙ sym (append_assoc (at (got_by X.got i) q) (tokens_on d (waiting_in X (get plan.net.sources d))) (gives_in inputs (λ i. []) (get plan.net.sources d)))

  pub rv-explained : (k : ℕ) → length plan.barriers ≡ length ks → length X.got ≡ length ks → length X.puts ≡ length ks → HasRooms plan.net X → Explained facts step all n tag inputs (Rv plan X) (Rv plan) ks (rv facts step plan k n all tag X ks inputs)
  rv-explained k a b c r = under-explained k all [] (λ i. []) _ (refl, refl) (first-scene a b c) (first-counts a b c r)
