-- A legal meeting goes on with the firing.
use Rattle.std.proofs.Common.{◌≡◌, ℕ, ◌+◌, ◌<◌, List, [], ◌∷◌, ◌++◌, Bool, length, refl, sym, ap, ap₂, subst, ◌∙◌}
use Rattle.std.proofs.lemmas.List.{length-map}
use Rattle.pt_meaning.specs.Streams.{Streams}
use Rattle.pt_meaning.specs.Log.{Log, Event, Met, Meeting}
use Rattle.pt_meaning.specs.Machine.{Need, Stepping, Facts}
use Rattle.pt_meaning.specs.Net.{Net}
use Rattle.pt_meaning.specs.Process.{emptied, all_got, all_puts}
use Rattle.pt_meaning.specs.Meetings.{Scene, Hop, hops_in, offers, is_legal, passed, meet}
use Rattle.pt_meaning.specs.Rendezvous.{Places, seated}
use Rattle.pt_laws.specs.SoundRuns.{HasRooms}
use Rattle.pt_laws.proofs.ExplainPlaces.{held_of, Same, meeting-same}
use Rattle.pt_rv_laws.specs.State.{RvState, need_facts, puts_in, net_of, seats, scene_in, IsLegal, after_meet, waits}
use Rattle.pt_rv_laws.specs.Lawful.{IsSized}
use Rattle.pt_rv_laws.specs.Chain.{Course, Meets, standing, met_events, scene_of, opened, Underway}
use Rattle.pt_rv_laws.proofs.SeatLaws.{seen, seats-seen, AllLong, PartsAre, parts-are, frames, stands-on, long-got, long-puts, long-frames}
use Rattle.pt_rv_laws.proofs.SceneSeen.{seen_scene, offers-seen, legal-seen, passed-seen, got-seen, all-puts-seen, passed-frames, passed-met, passed-outputs}
use Rattle.pt_rv_laws.proofs.WaitLaws.{to_make, meet-less, hops-there}

events-one : {T : Type 0} (n : ℕ) (ms : List Meeting) (m : Meeting) → met_events {T = T} n (ms ++ (m ∷ [])) ≡ met_events n ms ++ (Met [] n m ∷ [])
events-one n [] m = refl
events-one {T} n (x ∷ ms) m = ap (λ es. let e : Event T = Met [] n x in e ∷ es) (events-one n ms m)

module _ {T S : Type 0} (facts : Facts T S) (step : Stepping T S) (before : RvState T) (kids : List S) (inputs : Streams T) (s : RvState T) (count : ℕ) (now : List S) (ls : List (Log T)) (u : Underway facts step before kids inputs s count now ls) where
  abbrev net : Net
  net = net_of s

  abbrev bs : List Bool
  bs = s.processes.plan.barriers

  pub now-long : length now ≡ length net.places
  now-long = sym (length-map now (λ c. facts.need c)) ∙ ap (λ v. length v) (sym u.needs) ∙ u.sized.needs

  pub all-long : AllLong (length net.places) bs s.places.got s.places.puts now ls
  all-long = record { barriers = u.lawful.barriers; got = u.sized.got; puts = u.sized.puts; states = now-long; logs = u.logged }

  pub parts : PartsAre (length net.places) bs s.places.got s.places.puts now ls
  parts = parts-are (length net.places) bs s.places.got s.places.puts now ls all-long

  abbrev scene : ℕ → Scene T S
  scene n = scene_of n s now ls

  pub held-is : (n : ℕ) → held_of (scene n) ≡ s.places
  held-is n = ap₂ (λ gs us. let X : Places T = record { got = gs; puts = us; inputs = s.places.inputs } in X) parts.got parts.puts

  seats-are : seen facts (standing bs s.places.got s.places.puts now ls) ≡ seats s
  seats-are = seats-seen facts bs s.places.got s.places.puts now ls (u.logged ∙ sym now-long) ∙ ap (λ v. seated bs s.places.got s.places.puts v) (sym u.needs)

  pub seen-is : (n : ℕ) → seen_scene facts [] (scene n) ≡ scene_in s
  seen-is n = ap (λ ps. let sc : Scene T Need = record { parties = ps; inputs = s.places.inputs; outputs = s.outputs; met = [] } in sc) seats-are

  pub calls-legal : (n : ℕ) (m : Meeting) → is_legal facts net (scene n) m ≡ is_legal need_facts net (scene_in s) m
  calls-legal n m = sym (legal-seen facts net [] (scene n) m) ∙ ap (λ sc. is_legal need_facts net sc m) (seen-is n)

  module _ (m : Meeting) where
    abbrev hs : List Hop
    hs = hops_in net m

    abbrev after : RvState T
    after = after_meet m s

    -- once the tokens have passed
    abbrev end : ℕ → Scene T S
    end n = passed net hs (offers net (scene n) hs) (scene n)

    end-seen : (n : ℕ) → passed net hs (offers net (scene_in s) hs) (scene_in s) ≡ seen_scene facts [] (end n)
    end-seen n =
        ap (λ sc. passed net hs (offers net sc hs) sc) (sym (seen-is n)) ∙
        ap (λ xs. passed net hs xs (seen_scene facts [] (scene n))) (offers-seen facts net [] (scene n) hs) ∙
        passed-seen facts net [] hs (offers net (scene n) hs) (scene n)

    pub places-after : (n : ℕ) → after.places ≡ held_of (end n)
    places-after n =
        ap (λ (sc : Scene T Need). held_of sc) (end-seen n) ∙
        ap₂ (λ gs us. let X : Places T = record { got = gs; puts = us; inputs = (end n).inputs } in X) (got-seen facts (end n).parties) (all-puts-seen facts (end n).parties)

    outputs-after : (n : ℕ) → after.outputs ≡ (end n).outputs
    outputs-after n = ap (λ (sc : Scene T Need). sc.outputs) (end-seen n)

    same-frames : (n : ℕ) → frames (end n).parties ≡ frames (scene n).parties
    same-frames n = passed-frames net hs (offers net (scene n) hs) (scene n)

    end-long : (n : ℕ) → length (end n).parties ≡ length net.places
    end-long n = long-frames (end n).parties (scene n).parties (same-frames n) ∙ parts.count

    end-got : (n : ℕ) → length (all_got (end n).parties) ≡ length net.places
    end-got n = long-got (end n).parties ∙ end-long n

    end-puts : (n : ℕ) → length (all_puts (end n).parties) ≡ length net.places
    end-puts n = long-puts (end n).parties ∙ end-long n

    stands : (n : ℕ) → (end n).parties ≡ standing bs (all_got (end n).parties) (all_puts (end n).parties) now ls
    stands n = stands-on bs s.places.got s.places.puts now ls (end n).parties (same-frames n) (end-got n ∙ sym u.sized.got) (end-puts n ∙ sym u.sized.puts)

    abbrev scene_by : Places T → Streams T → List (Event T) → Scene T S
    scene_by X out es = record { parties = standing bs X.got X.puts now ls; inputs = X.inputs; outputs = out; met = es }

    pub meets-as : (n : ℕ) → meet net n m (scene n) ≡ scene_of n after now ls
    meets-as n =
        ap (λ ps. let sc : Scene T S = record { parties = ps; inputs = (end n).inputs; outputs = (end n).outputs; met = (end n).met ++ (Met [] n m ∷ []) } in sc) (stands n) ∙
        ap (λ es. scene_by (held_of (end n)) (end n).outputs es) (ap (λ es. es ++ (Met [] n m ∷ [])) (passed-met net hs (offers net (scene n) hs) (scene n)) ∙ sym (events-one n s.met m)) ∙
        ap₂ (λ X out. scene_by X out (met_events n (s.met ++ (m ∷ [])))) (sym (places-after n)) (sym (outputs-after n))

    rooms : HasRooms net after.places
    unfolding Same
    rooms = subst (λ X. HasRooms net X) (sym (places-after 0)) (meeting-same net m (scene 0) (subst (λ X. HasRooms net X) (sym (held-is 0)) u.sized.rooms)).1

    sized : IsSized after
    sized = record {
      got = ap (λ (X : Places T). length X.got) (places-after 0) ∙ end-got 0;
      puts = ap (λ (X : Places T). length X.puts) (places-after 0) ∙ end-puts 0;
      needs = u.sized.needs;
      rooms = rooms;
    }

    module _ (legal : IsLegal s m) where
      pub meet-under : Underway facts step before kids inputs after count now ls
      meet-under = record {
        lawful = u.lawful;
        processes = u.processes;
        sized = sized;
        needs = u.needs;
        counts = u.counts;
        outputs = ap (λ out. emptied out) (outputs-after 0) ∙ passed-outputs net hs (offers net (scene 0) hs) (scene 0) ∙ u.outputs;
        children = u.children;
        logged = u.logged;
        first_sized = u.first_sized;
        course = λ n. subst (λ sc. Course facts step s.tag net n (opened before kids inputs) count (s.met ++ (m ∷ [])) sc) (meets-as n) (Meets count s.met (scene n) m (u.course n) (calls-legal n m ∙ legal));
      }

      waits-now : to_make (scene 0) ≡ waits s
      waits-now = ap (λ us. puts_in us + puts_in s.places.inputs) parts.puts

      waits-after : to_make (meet net 0 m (scene 0)) ≡ waits after
      waits-after = ap (λ (X : Places T). puts_in X.puts + puts_in X.inputs) (sym (places-after 0))

      pub meet-waits : waits after < waits s
      meet-waits =
          let h = hops-there s u.sized u.counts m legal in
          subst (λ v. v < waits s) waits-after (subst (λ v. to_make (meet net 0 m (scene 0)) < v) waits-now (meet-less facts net 0 m (scene 0) h.0 h.1 h.2 (calls-legal 0 m ∙ legal)))
