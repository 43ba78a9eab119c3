-- The firings that the processes of a course have made, one after another: what each took was on its places, or was given by the sources of these.
use Rattle.std.proofs.Common.{◌≡◌, ◌⊎◌, inl, inr, ℕ, zero, suc, ◌+◌, ◌<◌, List, [], ◌∷◌, ◌++◌, Bool, true, nat_eq, length, Option, Some, None, refl, sym, ap, ap₂, subst, ◌∙◌, arith, append_assoc, append-nil, if◌then◌else◌}
use Rattle.std.proofs.Math.Path.{fun_ext}
use Rattle.std.proofs.lemmas.List.{length-map}
use Rattle.std.proofs.lemmas.Bool.{cases_eq}
use Rattle.std.proofs.lemmas.Bool.Decides.{nat_tests}
use Rattle.pt_meaning.specs.Tag.{Tag}
use Rattle.pt_meaning.specs.Streams.{Streams, at, get, change_at}
use Rattle.pt_meaning.specs.Log.{Log, Meeting, silent, log_then, own}
use Rattle.pt_meaning.specs.Machine.{Done, Stepping, Facts}
use Rattle.pt_meaning.specs.Net.{Source, Own, Output, Net}
use Rattle.pt_meaning.specs.Process.{Put, Mood, Well, Broken, Party, by_mood, by_puts, by_need, next_event, puts_of, emptied, advance, all_got, all_puts}
use Rattle.pt_meaning.specs.Process as process
use Rattle.pt_meaning.specs.Meetings.{Scene, hops_in, offers, meet}
use Rattle.pt_meaning.specs.Rendezvous.{RvPlan, Places, seated, opening}
use Rattle.pt_meaning.specs.AnyOrder.{fires_in}
use Rattle.pt_meaning.specs.Places.{tokens_on, puts_from}
use Rattle.pt_meaning.specs.Closed.{if_there, inputs_at, outputs_at}
use Rattle.pt_laws.specs.Channels.{channel_at, source_in}
use Rattle.pt_laws.specs.SoundRuns.{HasRooms, got_by, waiting_in, on_its_way, count_at}
use Rattle.pt_laws.specs.Explained.{Turned, ChainOf, of_turns, gives_in}
use Rattle.pt_laws.specs.MeetingRuns.{StartsAre}
use Rattle.pt_laws.proofs.ChannelLaws.{none-of-channel, at-beyond}
use Rattle.pt_laws.proofs.ExplainParties.{turns-append}
use Rattle.pt_laws.proofs.ExplainPlaces.{held_of, Same, meeting-same}
use Rattle.pt_laws.proofs.JoinLaws.{log-assoc}
use Rattle.pt_laws.proofs.MeetingIndex.{some-same, changes-are, fires-are, starts-are}
use Rattle.pt_laws.proofs.PlaceEnds.{if_from, port-puts, puts-are, tokens-append}
use Rattle.pt_rv_laws.specs.Chain.{Course, Begins, Fires, Meets}
use Rattle.pt_rv_laws.proofs.SeatLaws.{Frame, frame_of, frames}
use Rattle.pt_rv_laws.proofs.SceneSeen.{passed-frames}
use Rattle.pt_rv_laws.proofs.BeginLaws.{arriving-long}
use Rattle.pt_rv_laws.proofs.FireLaws.{change-long, emptied-long}

-- lists in which an entry is changed
at-here : {A : Type 0} (i : ℕ) (f : List A → List A) (X : List (List A)) → i < length X → at (change_at i f X) i ≡ f (at X i)
at-here i f [] l = absurd (omega (arith, l))
at-here zero f (x ∷ X) l = refl
at-here (suc i) f (x ∷ X) l = at-here i f X (omega (arith, l))

at-other : {A : Type 0} (i j : ℕ) (f : List A → List A) (X : List (List A)) → (j ≡ i → ⊥) → at (change_at i f X) j ≡ at X j
at-other i j f [] h = refl
at-other zero zero f (x ∷ X) h = absurd (h refl)
at-other zero (suc j) f (x ∷ X) h = refl
at-other (suc i) zero f (x ∷ X) h = refl
at-other (suc i) (suc j) f (x ∷ X) h = at-other i j f X (λ e. h (ap (λ n. suc n) e))

get-other : {A : Type 0} (i j : ℕ) (f : A → A) (X : List A) → (j ≡ i → ⊥) → get (change_at i f X) j ≡ get X j
get-other i j f [] h = refl
get-other zero zero f (x ∷ X) h = absurd (h refl)
get-other zero (suc j) f (x ∷ X) h = refl
get-other (suc i) zero f (x ∷ X) h = refl
get-other (suc i) (suc j) f (x ∷ X) h = get-other i j f X (λ e. h (ap (λ n. suc n) e))

get-short : {A : Type 0} (xs : List A) (i : ℕ) (x : A) → get xs i ≡ Some x → i < length xs
get-short [] i x e = absurd (cc)
get-short (y ∷ xs) zero x e = omega arith
get-short (y ∷ xs) (suc i) x e = let r = get-short xs i x e in omega (arith, r)

nothing-at : {T : Type 0} (X : Streams T) (q : ℕ) → at (emptied X) q ≡ []
nothing-at [] q = refl
nothing-at (xs ∷ X) zero = refl
nothing-at (xs ∷ X) (suc q) = nothing-at X q

same-number : (i : ℕ) → nat_eq i i ≡ true
same-number i = grind (arith, nat_tests)

-- a chain goes on by one more firing
chain-more : {T S : Type 0} (facts : Facts T S) (step : Stepping T S) (ts : List (Turned T)) (s z : S) (l : Log T) (t : Turned T) (y : S) → ChainOf facts step s ts z l → t.record_of.number ≡ facts.made z → step t.record_of.tag z t.record_of.inputs ≡ Done y t.record_of.outputs t.inside →
    ChainOf facts step s (ts ++ (t ∷ [])) y (log_then l (log_then t.inside (own t.record_of)))
chain-more {T} {S} facts step [] s z l t y c n d = (y, silent, n ∙ ap (λ v. facts.made v) c.0, subst (λ v. step t.record_of.tag v t.record_of.inputs ≡ Done y t.record_of.outputs t.inside) c.0 d, (refl, refl), ap (λ (v : Log T). log_then v (log_then t.inside (own t.record_of))) c.1 ∙ fun_ext (λ p. sym (append-nil (log_then t.inside (own t.record_of) p))))
chain-more facts step (u ∷ ts) s z l t y c n d = (
  c.0,
  log_then c.1 (log_then t.inside (own t.record_of)),
  c.2,
  c.3,
  chain-more facts step ts c.0 z c.1 t y c.4 n d,
  ap (λ v. log_then v (log_then t.inside (own t.record_of))) c.5 ∙ sym (log-assoc (log_then u.inside (own u.record_of)) c.1 (log_then t.inside (own t.record_of))),
)

module _ {T S : Type 0} where
  -- what a process has, if it is there
  got_in : Option (Party T S) → Streams T
  got_in None = []
  got_in (Some p) = p.got

  puts_by : Option (Party T S) → List (Put T)
  puts_by None = []
  puts_by (Some p) = p.puts

  got-is : (ps : List (Party T S)) (i : ℕ) → got_by (all_got ps) i ≡ got_in (get ps i)
  unfolding got_in
  got-is [] i = refl
  got-is (p ∷ ps) zero = refl
  got-is (p ∷ ps) (suc i) = got-is ps i

  puts-is : (ps : List (Party T S)) (i : ℕ) → at (all_puts ps) i ≡ puts_by (get ps i)
  unfolding puts_by
  puts-is [] i = refl
  puts-is (p ∷ ps) zero = refl
  puts-is (p ∷ ps) (suc i) = puts-is ps i

  got-of : (ps : List (Party T S)) (i : ℕ) (p : Party T S) → get ps i ≡ Some p → got_by (all_got ps) i ≡ p.got
  unfolding got_in
  got-of ps i p e = got-is ps i ∙ ap (λ o. got_in o) e

  puts-of : (ps : List (Party T S)) (i : ℕ) (p : Party T S) → get ps i ≡ Some p → at (all_puts ps) i ≡ p.puts
  unfolding puts_by
  puts-of ps i p e = puts-is ps i ∙ ap (λ o. puts_by o) e

  got-stays : (ps qs : List (Party T S)) (i : ℕ) → get qs i ≡ get ps i → got_by (all_got qs) i ≡ got_by (all_got ps) i
  got-stays ps qs i e = got-is qs i ∙ ap (λ o. got_in o) e ∙ sym (got-is ps i)

  puts-stay : (ps qs : List (Party T S)) (i : ℕ) → get qs i ≡ get ps i → at (all_puts qs) i ≡ at (all_puts ps) i
  puts-stay ps qs i e = puts-is qs i ∙ ap (λ o. puts_by o) e ∙ sym (puts-is ps i)

  -- a process whose frame is that of another list
  frames-there : (ps qs : List (Party T S)) → frames ps ≡ frames qs → (i : ℕ) (p : Party T S) → get ps i ≡ Some p → (q : Party T S) × (get qs i ≡ Some q) × (frame_of p ≡ frame_of q)
  frames-there [] qs e i p g = absurd (cc)
  frames-there (x ∷ ps) [] e i p g = absurd (clash e)
    where
      clash : frame_of x ∷ frames ps ≡ [] → ⊥
      clash h = cc
  frames-there (x ∷ ps) (y ∷ qs) e zero p g = (y, refl, ap (λ (v : Party T S). frame_of v) (sym (some-same x p g)) ∙ first_same e)
    where
      first_same : frame_of x ∷ frames ps ≡ frame_of y ∷ frames qs → frame_of x ≡ frame_of y
      first_same h = cc
  frames-there (x ∷ ps) (y ∷ qs) e (suc i) p g = frames-there ps qs (rest_same e) i p g
    where
      rest_same : frame_of x ∷ frames ps ≡ frame_of y ∷ frames qs → frames ps ≡ frames qs
      rest_same h = cc

  -- at the start
  seat-is : (bs : List Bool) (gs : List (Streams T)) (us : List (List (Put T))) (ss : List S) (i : ℕ) (p : Party T S) → get (seated bs gs us ss) i ≡ Some p → (get ss i ≡ Some p.state) × (p.log ≡ silent)
  seat-is [] gs us ss i p e = absurd (cc)
  seat-is (b ∷ bs) [] us ss i p e = absurd (cc)
  seat-is (b ∷ bs) (g ∷ gs) [] ss i p e = absurd (cc)
  seat-is (b ∷ bs) (g ∷ gs) (u ∷ us) [] i p e = absurd (cc)
  seat-is (b ∷ bs) (g ∷ gs) (u ∷ us) (s ∷ ss) zero p e =
      let same : record { barrier = b; state = s; got = g; puts = u; mood = Well; log = silent } ≡ p = some-same _ p e in
      (ap (λ (v : Party T S). Option.Some v.state) same, ap (λ (v : Party T S). v.log) (sym same))
  seat-is (b ∷ bs) (g ∷ gs) (u ∷ us) (s ∷ ss) (suc i) p e = seat-is bs gs us ss i p e

  seats-count : (bs : List Bool) (gs : List (Streams T)) (us : List (List (Put T))) (ss : List S) → length bs ≡ length ss → length gs ≡ length ss → length us ≡ length ss → length (seated bs gs us ss) ≡ length ss
  seats-count [] gs us ss a b c = a
  seats-count (x ∷ bs) [] us ss a b c = b
  seats-count (x ∷ bs) (g ∷ gs) [] ss a b c = c
  seats-count (x ∷ bs) (g ∷ gs) (u ∷ us) [] a b c = refl
  seats-count (x ∷ bs) (g ∷ gs) (u ∷ us) (s ∷ ss) a b c = ap (λ n. suc n) (seats-count bs gs us ss (omega (arith, a)) (omega (arith, b)) (omega (arith, c)))

  seats-got : (bs : List Bool) (gs : List (Streams T)) (us : List (List (Put T))) (ss : List S) → length bs ≡ length ss → length gs ≡ length ss → length us ≡ length ss → (all_got (seated bs gs us ss) ≡ gs) × (all_puts (seated bs gs us ss) ≡ us)
  seats-got [] [] [] ss a b c = (refl, refl)
  seats-got [] (g ∷ gs) us ss a b c = absurd (omega (arith, a, b))
  seats-got [] [] (u ∷ us) ss a b c = absurd (omega (arith, a, c))
  seats-got (x ∷ bs) [] us ss a b c = absurd (omega (arith, a, b))
  seats-got (x ∷ bs) (g ∷ gs) [] ss a b c = absurd (omega (arith, a, c))
  seats-got (x ∷ bs) (g ∷ gs) (u ∷ us) [] a b c = absurd (omega (arith, a))
  seats-got (x ∷ bs) (g ∷ gs) (u ∷ us) (s ∷ ss) a b c = let r = seats-got bs gs us ss (omega (arith, a)) (omega (arith, b)) (omega (arith, c)) in (ap (λ v. g ∷ v) r.0, ap (λ v. u ∷ v) r.1)

  none-put : (facts : Facts T S) (p : Party T S) → next_event facts p ≡ process.Fires → p.puts ≡ []
  none-put facts p e = go p.mood p.puts e
    where
      go : (m : Mood) (us : List (Put T)) → by_mood m (by_puts us (by_need p.barrier (facts.need p.state) p.got)) ≡ process.Fires → us ≡ []
      go m [] e = refl
      go Well (u ∷ us) e = absurd (cc)
      go (Broken fs) (u ∷ us) e = absurd (cc)

-- before any firing
abbrev no_turns : {T S : Type 0} → List S → List (List (Turned T))
no_turns [] = []
no_turns (s ∷ ks) = [] ∷ no_turns ks

none-yet : {S : Type 0} (T : Type 0) (ks : List S) (i : ℕ) → at (no_turns {T = T} ks) i ≡ []
none-yet T [] i = refl
none-yet T (s ∷ ks) zero = refl
none-yet T (s ∷ ks) (suc i) = none-yet T ks i

turns-long : {S : Type 0} (T : Type 0) (ks : List S) → length (no_turns {T = T} ks) ≡ length ks
turns-long T [] = refl
turns-long T (s ∷ ks) = ap (λ n. suc n) (turns-long T ks)

-- of what was taken, what is on its way, and what was given
sum : {T : Type 0} (tk tn g' g w' w new on gv gv' : List T) → tn ++ g' ≡ g → w' ≡ w ++ new → gv' ≡ gv ++ new → tk ++ (g ++ w) ≡ on ++ gv → (tk ++ tn) ++ (g' ++ w') ≡ on ++ gv'
sum tk tn g' g w' w new on gv gv' a b d e =
    append_assoc tk tn (g' ++ w') ∙ ap (λ v. tk ++ v) (sym (append_assoc tn g' w') ∙ ap₂ (λ u v. u ++ v) a b ∙ sym (append_assoc g w new)) ∙ sym (append_assoc tk (g ++ w) new) ∙ ap (λ v. v ++ new) e ∙ append_assoc on gv new ∙ ap (λ v. on ++ v) (sym d)

module _ {T S : Type 0} (facts : Facts T S) (step : Stepping T S) (tag : Tag) (plan : RvPlan) (n : ℕ) (X : Places T) (ks : List S) (inputs : Streams T) where
  abbrev net : Net
  net = plan.net

  abbrev start : Scene T S
  start = opening plan X ks inputs

  abbrev turns_in : List (List (Turned T)) → ℕ → List (Turned T)
  turns_in τ i = at τ i

  -- what is taken, with what is on its way to a place, is what was on its way at the start and what its source gave
  abbrev Counts : List (List (Turned T)) → Places T → Type 0
  Counts τ Y = (i q : ℕ) → of_turns (inputs_at q) (at τ i) ++ on_its_way net Y i q (channel_at net.places i q) ≡ on_its_way net X i q (channel_at net.places i q) ++ gives_in inputs (turns_in τ) (source_in net i q)

  -- the firings of each process in a scene
  pub record Tells (τ : List (List (Turned T))) (sc : Scene T S) : Type 0 where
    pub count : length sc.parties ≡ length ks
    pub wide : length τ ≡ length ks
    pub parties : (i : ℕ) (p : Party T S) → get sc.parties i ≡ Some p → (s : S) × (get ks i ≡ Some s) × ChainOf facts step s (at τ i) p.state p.log
    pub rooms : HasRooms net (held_of sc)
    pub counts : Counts τ (held_of sc)

  -- before any of them
  module _ (a : length plan.barriers ≡ length ks) (b : length X.got ≡ length ks) (c : length X.puts ≡ length ks) (r : HasRooms net X) where
    abbrev none : List (List (Turned T))
    none = no_turns ks

    seats : (all_got (seated plan.barriers X.got X.puts ks) ≡ X.got) × (all_puts (seated plan.barriers X.got X.puts ks) ≡ X.puts)
    seats = seats-got plan.barriers X.got X.puts ks a b c

    first-came : (d : ℕ) (o : Option Source) → get net.sources d ≡ o → tokens_on d (waiting_in (held_of start) o) ≡ tokens_on d (waiting_in X o) ++ gives_in inputs (turns_in none) o
    first-came d None e = refl
    first-came d (Some (Own j)) e =
        let starts : StartsAre T S = starts-are in
        ap (λ us. tokens_on d us) (starts.inlets net.sources X.inputs inputs j (r.sends d j e)) ∙ tokens-append d (at X.inputs j) _ ∙
        ap (λ v. tokens_on d (at X.inputs j) ++ v) (port-puts (Own j) net.sources d (at inputs j) ∙ ap (λ o. if_from (Own j) o (at inputs j)) e ∙ ap (λ w. if w then at inputs j else []) (same-number j))
    first-came d (Some (Output j port)) e = ap (λ v. tokens_on d (at v j)) seats.1 ∙ sym (append-nil (tokens_on d (at X.puts j))) ∙ ap (λ ts. tokens_on d (at X.puts j) ++ of_turns (outputs_at port) ts) (sym (none-yet T ks j))

    first-counts : Counts none (held_of start)
    first-counts i q = ap (λ ts. of_turns (inputs_at q) ts ++ on_its_way net (held_of start) i q (channel_at net.places i q)) (none-yet T ks i) ∙ go (channel_at net.places i q)
      where
        go : (o : Option ℕ) → on_its_way net (held_of start) i q o ≡ on_its_way net X i q o ++ gives_in inputs (turns_in none) (if_there (get net.sources) o)
        go None = refl
        go (Some d) = ap₂ (λ Y w. at (got_by Y i) q ++ w) seats.0 (first-came d (get net.sources d) refl) ∙ sym (append_assoc (at (got_by X.got i) q) (tokens_on d (waiting_in X (get net.sources d))) (gives_in inputs (turns_in none) (get net.sources d)))

    first-tells : Tells none start
    first-tells = record {
      count = seats-count plan.barriers X.got X.puts ks a b c;
      wide = turns-long T ks;
      parties = λ i p e.
          let w = seat-is plan.barriers X.got X.puts ks i p e in
          (p.state, w.0, subst (λ ts. ChainOf facts step p.state ts p.state p.log) (sym (none-yet T ks i)) (refl, w.1));
      rooms = record { gathers = λ i. ap (λ Y. length (got_by Y i)) seats.0 ∙ r.gathers i; sends = λ d j e. subst (λ v. j < v) (sym (arriving-long net.sources 0 X.inputs inputs)) (r.sends d j e) };
      counts = first-counts;
    }

  -- a meeting
  met-tells : (τ : List (List (Turned T))) (sc : Scene T S) (m : Meeting) → Tells τ sc → Tells τ (meet net n m sc)
  unfolding Same
  met-tells τ sc m h =
      let s = meeting-same net m sc h.rooms in
      let f = passed-frames net (hops_in net m) (offers net sc (hops_in net m)) sc in
      record {
        count = frames-count (meet net n m sc).parties sc.parties f ∙ h.count;
        wide = h.wide;
        parties = λ i p e. by_frame i p (frames-there (meet net n m sc).parties sc.parties f i p e);
        rooms = s.1;
        counts = λ i q. ap (λ v. of_turns (inputs_at q) (at τ i) ++ v) (s.0 i q) ∙ h.counts i q;
      }
    where
      frames-count : (ps qs : List (Party T S)) → frames ps ≡ frames qs → length ps ≡ length qs
      frames-count ps qs e = sym (length-map ps (λ p. frame_of p)) ∙ ap (λ v. length v) e ∙ length-map qs (λ p. frame_of p)

      by_frame : (i : ℕ) (p : Party T S) → ((q : Party T S) × (get sc.parties i ≡ Some q) × (frame_of p ≡ frame_of q)) → (s : S) × (get ks i ≡ Some s) × ChainOf facts step s (at τ i) p.state p.log
      by_frame i p w =
          let old = h.parties i w.0 w.1 in
          (old.0, old.1, subst (λ (f : Frame T S). ChainOf facts step old.0 (at τ i) f.state f.log) (sym w.2) old.2)

  -- a firing of process i
  module _ (τ : List (List (Turned T))) (sc : Scene T S) (h : Tells τ sc) (i : ℕ) (p : Party T S) (s : S) (out : Streams T) (l : Log T) (there : get sc.parties i ≡ Some p) (fires : next_event facts p ≡ process.Fires) (done : step tag p.state p.got ≡ Done s out l) where
    abbrev turn : Turned T
    turn = record { record_of = record { number = facts.made p.state; tag = tag; inputs = p.got; outputs = out }; inside = l }

    abbrev more : List (List (Turned T))
    more = change_at i (λ ts. ts ++ (turn ∷ [])) τ

    abbrev after : Party T S
    after = record { barrier = p.barrier; state = s; got = emptied p.got; puts = puts_of net.sources i 0 out; mood = Well; log = log_then p.log (log_then l (own turn.record_of)) }

    abbrev now : Scene T S
    now = fires_in facts step tag net n i sc

    now-is : now.parties ≡ change_at i (advance facts step tag net.sources i) sc.parties
    now-is = fires-are.change facts step tag net n i sc.parties

    here-now : get now.parties i ≡ Some after
    here-now =
        ap (λ ps. get ps i) now-is ∙ changes-are.here i (advance facts step tag net.sources i) sc.parties p there ∙
        ap (λ v. Option.Some v) (fires-are.done facts step tag net.sources i p s out l fires done)

    others-now : (j : ℕ) → (j ≡ i → ⊥) → get now.parties j ≡ get sc.parties j
    others-now j o = ap (λ ps. get ps j) now-is ∙ get-other i j (advance facts step tag net.sources i) sc.parties o

    in-turns : i < length τ
    in-turns = let w = get-short sc.parties i p there in let x = h.count in let y = h.wide in omega (arith, w, x, y)

    turns-here : at more i ≡ at τ i ++ (turn ∷ [])
    turns-here = at-here i (λ ts. ts ++ (turn ∷ [])) τ in-turns

    turns-other : (j : ℕ) → (j ≡ i → ⊥) → at more j ≡ at τ j
    turns-other j o = at-other i j (λ ts. ts ++ (turn ∷ [])) τ o

    fired-parties : (j : ℕ) (q : Party T S) → get now.parties j ≡ Some q → (z : S) × (get ks j ≡ Some z) × ChainOf facts step z (at more j) q.state q.log
    fired-parties j q e = by (cases_eq j i)
      where
        by : (j ≡ i) ⊎ (j ≡ i → ⊥) → (z : S) × (get ks j ≡ Some z) × ChainOf facts step z (at more j) q.state q.log
        by (inl same) =
            let old = h.parties i p there in
            let is : after ≡ q = some-same after q (sym here-now ∙ ap (λ v. get now.parties v) (sym same) ∙ e) in
            let chain : ChainOf facts step old.0 (at more i) s after.log = subst (λ ts. ChainOf facts step old.0 ts s after.log) (sym turns-here) (chain-more facts step (at τ i) old.0 p.state p.log turn s old.2 refl done) in
            (old.0, ap (λ v. get ks v) same ∙ old.1, subst (λ (v : Party T S). ChainOf facts step old.0 (at more j) v.state v.log) is (subst (λ v. ChainOf facts step old.0 (at more v) s after.log) (sym same) chain))
        by (inr o) = let old = h.parties j q (sym (others-now j o) ∙ e) in (old.0, old.1, subst (λ ts. ChainOf facts step old.0 ts q.state q.log) (sym (turns-other j o)) old.2)

    got-here : got_by (all_got now.parties) i ≡ emptied p.got
    got-here = got-of now.parties i after here-now

    got-before : got_by (all_got sc.parties) i ≡ p.got
    got-before = got-of sc.parties i p there

    rooms-now : HasRooms net (held_of now)
    rooms-now = record { gathers = λ j. by j (cases_eq j i); sends = h.rooms.sends }
      where
        by : (j : ℕ) → (j ≡ i) ⊎ (j ≡ i → ⊥) → length (got_by (all_got now.parties) j) ≡ count_at net.places j
        by j (inl same) = subst (λ v. length (got_by (all_got now.parties) v) ≡ count_at net.places v) (sym same) (ap (λ Y. length Y) got-here ∙ emptied-long p.got ∙ ap (λ Y. length Y) (sym got-before) ∙ h.rooms.gathers i)
        by j (inr o) = ap (λ Y. length Y) (got-stays sc.parties now.parties j (others-now j o)) ∙ h.rooms.gathers j

    -- what waits, and what came
    came : (d : ℕ) (o : Option Source) → get net.sources d ≡ o → (new : List T) × (tokens_on d (waiting_in (held_of now) o) ≡ tokens_on d (waiting_in (held_of sc) o) ++ new) × (gives_in inputs (turns_in more) o ≡ gives_in inputs (turns_in τ) o ++ new)
    came d None e = ([], refl, refl)
    came d (Some (Own j)) e = ([], sym (append-nil (tokens_on d (at sc.inputs j))), sym (append-nil (at inputs j)))
    came d (Some (Output j port)) e = by (cases_eq j i)
      where
        by : (j ≡ i) ⊎ (j ≡ i → ⊥) → (new : List T) × (tokens_on d (at (all_puts now.parties) j) ≡ tokens_on d (at (all_puts sc.parties) j) ++ new) × (of_turns (outputs_at port) (at more j) ≡ of_turns (outputs_at port) (at τ j) ++ new)
        by (inl same) = subst (λ v. (new : List T) × (tokens_on d (at (all_puts now.parties) v) ≡ tokens_on d (at (all_puts sc.parties) v) ++ new) × (of_turns (outputs_at port) (at more v) ≡ of_turns (outputs_at port) (at τ v) ++ new)) (sym same) (
          at out port,
          ap (λ us. tokens_on d us) (puts-of now.parties i after here-now) ∙
              (puts-are net i out d ∙ ap (λ o. puts_from i out o) (e ∙ ap (λ v. Option.Some (Output v port)) same) ∙ ap (λ w. if w then at out port else []) (same-number i)) ∙
              ap (λ us. tokens_on d us ++ at out port) (sym (none-put facts p fires) ∙ sym (puts-of sc.parties i p there)),
          ap (λ ts. of_turns (outputs_at port) ts) turns-here ∙ turns-append (outputs_at port) (at τ i) (turn ∷ []) ∙ ap (λ v. of_turns (outputs_at port) (at τ i) ++ v) (append-nil (at out port)),
        )
        by (inr o) = (
          [],
          ap (λ us. tokens_on d us) (puts-stay sc.parties now.parties j (others-now j o)) ∙ sym (append-nil (tokens_on d (at (all_puts sc.parties) j))),
          ap (λ ts. of_turns (outputs_at port) ts) (turns-other j o) ∙ sym (append-nil (of_turns (outputs_at port) (at τ j))),
        )

    -- what is taken
    taken : (j q : ℕ) → (new : List T) × (of_turns (inputs_at q) (at more j) ≡ of_turns (inputs_at q) (at τ j) ++ new) × (new ++ at (got_by (all_got now.parties) j) q ≡ at (got_by (all_got sc.parties) j) q)
    taken j q = by (cases_eq j i)
      where
        by : (j ≡ i) ⊎ (j ≡ i → ⊥) → (new : List T) × (of_turns (inputs_at q) (at more j) ≡ of_turns (inputs_at q) (at τ j) ++ new) × (new ++ at (got_by (all_got now.parties) j) q ≡ at (got_by (all_got sc.parties) j) q)
        by (inl same) = subst (λ v. (new : List T) × (of_turns (inputs_at q) (at more v) ≡ of_turns (inputs_at q) (at τ v) ++ new) × (new ++ at (got_by (all_got now.parties) v) q ≡ at (got_by (all_got sc.parties) v) q)) (sym same) (
          at p.got q,
          ap (λ ts. of_turns (inputs_at q) ts) turns-here ∙ turns-append (inputs_at q) (at τ i) (turn ∷ []) ∙ ap (λ v. of_turns (inputs_at q) (at τ i) ++ v) (append-nil (at p.got q)),
          ap (λ Y. at p.got q ++ at Y q) got-here ∙ ap (λ v. at p.got q ++ v) (nothing-at p.got q) ∙ append-nil (at p.got q) ∙ ap (λ Y. at Y q) (sym got-before),
        )
        by (inr o) = ([], ap (λ ts. of_turns (inputs_at q) ts) (turns-other j o) ∙ sym (append-nil (of_turns (inputs_at q) (at τ j))), ap (λ Y. at Y q) (got-stays sc.parties now.parties j (others-now j o)))

    left-empty : (xs ys : List T) → xs ++ ys ≡ [] → xs ≡ []
    left-empty [] ys e = refl
    left-empty (x ∷ xs) ys e = absurd (clash e)
      where
        clash : x ∷ (xs ++ ys) ≡ [] → ⊥
        clash e = cc

    counts-now : Counts more (held_of now)
    counts-now j q = go (channel_at net.places j q) refl
      where
        go : (o : Option ℕ) → channel_at net.places j q ≡ o → of_turns (inputs_at q) (at more j) ++ on_its_way net (held_of now) j q o ≡ on_its_way net X j q o ++ gives_in inputs (turns_in more) (if_there (get net.sources) o)
        go None e =
            let t = taken j q in
            let a = none-of-channel net.places j q e in
            let b = h.rooms.gathers j in
            let old : of_turns (inputs_at q) (at τ j) ++ [] ≡ [] = subst (λ o. of_turns (inputs_at q) (at τ j) ++ on_its_way net (held_of sc) j q o ≡ on_its_way net X j q o ++ gives_in inputs (turns_in τ) (if_there (get net.sources) o)) e (h.counts j q) in
            let new : t.0 ≡ [] = left-empty t.0 (at (got_by (all_got now.parties) j) q) (t.2 ∙ at-beyond (got_by (all_got sc.parties) j) q (omega (arith, a, b))) in
            ap (λ v. v ++ []) (t.1 ∙ ap (λ v. of_turns (inputs_at q) (at τ j) ++ v) new) ∙ ap (λ v. v ++ []) old
        go (Some d) e =
            let t = taken j q in
            let w = came d (get net.sources d) refl in
            let old = subst (λ o. of_turns (inputs_at q) (at τ j) ++ on_its_way net (held_of sc) j q o ≡ on_its_way net X j q o ++ gives_in inputs (turns_in τ) (if_there (get net.sources) o)) e (h.counts j q) in
            ap (λ v. v ++ on_its_way net (held_of now) j q (Some d)) t.1 ∙
            sum (of_turns (inputs_at q) (at τ j)) t.0 (at (got_by (all_got now.parties) j) q) (at (got_by (all_got sc.parties) j) q) _ (tokens_on d (waiting_in (held_of sc) (get net.sources d))) w.0 (on_its_way net X j q (Some d)) (gives_in inputs (turns_in τ) (get net.sources d)) _ t.2 w.1 w.2 old

    fired-tells : Tells more now
    fired-tells = record {
      count = ap (λ v. length v) now-is ∙ change-long i (advance facts step tag net.sources i) sc.parties ∙ h.count;
      wide = change-long i (λ ts. ts ++ (turn ∷ [])) τ ∙ h.wide;
      parties = fired-parties;
      rooms = rooms-now;
      counts = counts-now;
    }

  -- in any course
  module _ (a : length plan.barriers ≡ length ks) (b : length X.got ≡ length ks) (c : length X.puts ≡ length ks) (r : HasRooms net X) where
    pub course-tells : (count : ℕ) (ms : List Meeting) (sc : Scene T S) → Course facts step tag net n start count ms sc → (τ : List (List (Turned T))) × Tells τ sc
    course-tells count ms sc Begins = (no_turns ks, first-tells a b c r)
    course-tells count ms sc (Fires k ls mid i p s out l w g f e) = let t = course-tells k ls mid w in (more t.0 mid t.1 i p s out l g f e, fired-tells t.0 mid t.1 i p s out l g f e)
    course-tells count ms sc (Meets k ls mid m w e) = let t = course-tells k ls mid w in (t.0, met-tells t.0 mid m t.1)
