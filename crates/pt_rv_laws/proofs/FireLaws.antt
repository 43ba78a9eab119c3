-- A process that may fire: its firing goes on with that of the composite.
use Rattle.std.proofs.Common.{◌≡◌, ◌⊎◌, inl, inr, ℕ, zero, suc, ◌<◌, List, [], ◌∷◌, Bool, false, length, get_or, set, Some, refl, sym, ap, subst, ◌∙◌, arith, length-set}
use Rattle.std.proofs.lemmas.List.{get_or-map, map-set}
use Rattle.std.proofs.lemmas.Bool.{cases_eq}
use Rattle.pt_meaning.specs.Streams.{Streams, at, get, change_at}
use Rattle.pt_meaning.specs.Log.{Log, log_then, own}
use Rattle.pt_meaning.specs.Machine.{Over, Done, Stepping, Facts}
use Rattle.pt_meaning.specs.Net.{Net}
use Rattle.pt_meaning.specs.Process.{Party, Well, Fires, next_event, by_puts, puts_of, emptied, advance}
use Rattle.pt_meaning.specs.Process as process
use Rattle.pt_meaning.specs.Meetings.{Scene}
use Rattle.pt_meaning.specs.AnyOrder.{fires_in}
use Rattle.pt_laws.specs.LogsOfRuns.{logs_then, log_at}
use Rattle.pt_laws.specs.SoundRuns.{got_by, count_at}
use Rattle.pt_laws.proofs.MeetingIndex.{fires-are}
use Rattle.pt_rv_laws.specs.State.{RvState, net_of, got_of, MayFire, after_told}
use Rattle.pt_rv_laws.specs.Lawful.{HasPlaces, AllCount}
use Rattle.pt_rv_laws.specs.Chain.{Course, standing, met_events, scene_of, opened, Underway}
use Rattle.pt_rv_laws.specs.Chain as chain
use Rattle.pt_rv_laws.proofs.SeatLaws.{party-there, party-changed, next-seated, seated-there}
use Rattle.pt_rv_laws.proofs.MeetLaws as meets

-- lists in which an entry is changed
set-here : {A : Type 0} (xs : List A) (i : ℕ) (x d : A) → i < length xs → get_or (set xs i x) i d ≡ x
set-here [] i x d l = absurd (omega (arith, l))
set-here (y ∷ xs) zero x d l = refl
set-here (y ∷ xs) (suc i) x d l = set-here xs i x d (omega (arith, l))

set-other : {A : Type 0} (xs : List A) (i j : ℕ) (x d : A) → (j ≡ i → ⊥) → get_or (set xs i x) j d ≡ get_or xs j d
set-other [] i j x d h = refl
set-other (y ∷ xs) zero zero x d h = absurd (h refl)
set-other (y ∷ xs) zero (suc j) x d h = refl
set-other (y ∷ xs) (suc i) zero x d h = refl
set-other (y ∷ xs) (suc i) (suc j) x d h = set-other xs i j x d (λ e. h (ap (λ n. suc n) e))

pub emptied-long : {T : Type 0} (X : Streams T) → length (emptied X) ≡ length X
emptied-long [] = refl
emptied-long (xs ∷ X) = ap (λ n. suc n) (emptied-long X)

pub change-long : {A : Type 0} (i : ℕ) (f : A → A) (xs : List A) → length (change_at i f xs) ≡ length xs
change-long i f [] = refl
change-long zero f (x ∷ xs) = refl
change-long (suc i) f (x ∷ xs) = ap (λ n. suc n) (change-long i f xs)

rooms-stay : {T : Type 0} (i j : ℕ) (gs : List (Streams T)) → length (got_by (change_at i emptied gs) j) ≡ length (got_by gs j)
rooms-stay i j [] = refl
rooms-stay zero zero (X ∷ gs) = emptied-long X
rooms-stay zero (suc j) (X ∷ gs) = refl
rooms-stay (suc i) zero (X ∷ gs) = refl
rooms-stay (suc i) (suc j) (X ∷ gs) = rooms-stay i j gs

pub logs-long : {T : Type 0} (i : ℕ) (l : Log T) (ls : List (Log T)) → length (logs_then i l ls) ≡ length ls
logs-long i l [] = refl
logs-long zero l (m ∷ ls) = refl
logs-long (suc i) l (m ∷ ls) = ap (λ n. suc n) (logs-long i l ls)

module _ {T S : Type 0} (facts : Facts T S) (step : Stepping T S) (before : RvState T) (kids : List S) (inputs : Streams T) (s : RvState T) (count : ℕ) (now : List S) (ls : List (Log T)) (u : Underway facts step before kids inputs s count now ls) (i : ℕ) (may : MayFire s i) where
  abbrev net : Net
  net = net_of s

  abbrev bs : List Bool
  bs = s.processes.plan.barriers

  abbrev scene : ℕ → Scene T S
  scene n = scene_of n s now ls

  pub there : i < length net.places
  there = let l = seated-there bs s.places.got s.places.puts s.needs i may in let e = u.sized.needs in omega (arith, l, e)

  in-now : i < length now
  in-now = let l = there in let e = meets.now-long facts step before kids inputs s count now ls u in omega (arith, l, e)

  module _ (d : S) where
    its-need : facts.need (get_or now i d) ≡ get_or s.needs i Over
    its-need = sym (get_or-map (λ c. facts.need c) now i d Over in-now) ∙ ap (λ v. get_or v i Over) (sym u.needs)

    -- the process at its place, with this logged
    abbrev pub logging : Log T → Party T S
    logging l = record { barrier = get_or bs i false; state = get_or now i d; got = got_by s.places.got i; puts = at s.places.puts i; mood = Well; log = l }

    pub fires-next : (l : Log T) → next_event facts (logging l) ≡ Fires
    fires-next l = ap (λ n. by_puts (at s.places.puts i) (process.by_need (get_or bs i false) n (got_by s.places.got i))) its-need ∙ next-seated bs s.places.got s.places.puts s.needs i may

    pub party-is : (n : ℕ) → get (scene n).parties i ≡ Some (logging (log_at ls i))
    party-is n = party-there (length net.places) bs s.places.got s.places.puts now ls (meets.all-long facts step before kids inputs s count now ls u) i d there

    module _ (c : S) (out : Streams T) (l : Log T) (done : step s.tag (get_or now i d) (got_of s i) ≡ Done c out l) (places : HasPlaces (count_at net.places i) (facts.need c)) where
      abbrev recorded : Log T
      recorded = log_then l (own (record { number = facts.made (get_or now i d); tag = s.tag; inputs = got_of s i; outputs = out }))

      abbrev after : RvState T
      after = after_told i out (facts.need c) s

      changes : change_at i (advance facts step s.tag net.sources i) (standing bs s.places.got s.places.puts now ls) ≡ standing bs after.places.got after.places.puts (set now i c) (logs_then i recorded ls)
      changes = party-changed bs s.places.got s.places.puts now ls i d (advance facts step s.tag net.sources i) c (puts_of net.sources i 0 out) recorded (λ m. fires-are.done facts step s.tag net.sources i (logging m) c out l (fires-next m) done)

      fires-as : (n : ℕ) → fires_in facts step s.tag net n i (scene n) ≡ scene_of n after (set now i c) (logs_then i recorded ls)
      fires-as n = ap (λ ps. let sc : Scene T S = record { parties = ps; inputs = s.places.inputs; outputs = s.outputs; met = met_events n s.met } in sc) (fires-are.change facts step s.tag net n i (scene n).parties ∙ changes)

      all-count : AllCount after
      all-count j l = by (cases_eq j i)
        where
          by : (j ≡ i) ⊎ (j ≡ i → ⊥) → HasPlaces (count_at net.places j) (get_or (set s.needs i (facts.need c)) j Over)
          by (inl e) =
              let w = u.sized.needs in
              let t = there in
              subst (λ v. HasPlaces (count_at net.places v) (get_or (set s.needs i (facts.need c)) v Over)) (sym e) (subst (λ v. HasPlaces (count_at net.places i) v) (sym (set-here s.needs i (facts.need c) Over (omega (arith, w, t)))) places)
          by (inr h) = subst (λ v. HasPlaces (count_at net.places j) v) (sym (set-other s.needs i j (facts.need c) Over h)) (u.counts j l)

      pub calls-go-on : Underway facts step before kids inputs after (suc count) (set now i c) (logs_then i recorded ls)
      calls-go-on = record {
        lawful = u.lawful;
        processes = u.processes;
        sized = record {
          got = change-long i emptied s.places.got ∙ u.sized.got;
          puts = length-set s.places.puts i (puts_of net.sources i 0 out) ∙ u.sized.puts;
          needs = length-set s.needs i (facts.need c) ∙ u.sized.needs;
          rooms = record { gathers = λ j. rooms-stay i j s.places.got ∙ u.sized.rooms.gathers j; sends = u.sized.rooms.sends };
        };
        needs = ap (λ v. set v i (facts.need c)) u.needs ∙ sym (map-set (λ z. facts.need z) now i c);
        counts = all-count;
        outputs = u.outputs;
        children = u.children;
        logged = logs-long i recorded ls ∙ u.logged;
        first_sized = u.first_sized;
        course = λ n. subst (λ sc. Course facts step s.tag net n (opened before kids inputs) (suc count) s.met sc) (fires-as n) (chain.Fires count s.met (scene n) i (logging (log_at ls i)) c out l (u.course n) (party-is n) (fires-next (log_at ls i)) done);
      }
