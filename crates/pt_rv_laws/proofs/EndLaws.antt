-- Where a firing is over it is done, where a process is stuck it is stuck, and in its middle it may be left off.
use Rattle.std.proofs.Common.{◌≡◌, inl, inr, ℕ, zero, suc, ◌+◌, ◌<◌, ◌≤◌, List, [], ◌∷◌, ◌++◌, true, ◌&&◌, not, get_or, Some, refl, sym, ap, ap₂, subst, ◌∙◌, arith, append-nil, Bool, false}
use Rattle.pt_meaning.specs.Streams.{Streams, IsPrefix, get, change_at}
use Rattle.pt_meaning.specs.Log.{Log, LogBelow, Meeting, log_below}
use Rattle.pt_meaning.specs.Machine.{Need, Fault, Outcome, Done, Stuck, Stepping, Facts}
use Rattle.pt_meaning.specs.Net.{Net, Inside, prefixed}
use Rattle.pt_meaning.specs.Process.{Party, Mood, Broken, all_rest, advance, mood_faults, party_faults}
use Rattle.pt_meaning.specs.Process as process
use Rattle.pt_meaning.specs.Meetings.{Scene, any_legal, meet}
use Rattle.pt_meaning.specs.Rendezvous.{Places, with_meetings, scene_log, under_meetings, settled, ended, if_ended, if_meets}
use Rattle.pt_meaning.specs.AnyOrder as order
use Rattle.pt_meaning.specs.AnyOrder.{fires_in}
use Rattle.pt_meaning.specs.Asked.{AsksInScene}
use Rattle.pt_meaning.specs.Laws.{IsIn}
use Rattle.pt_laws.specs.LogsOfRuns.{logs_then, log_at, log_in}
use Rattle.pt_laws.proofs.Order.{IsPrefix-trans, IsPrefix-append}
use Rattle.pt_laws.proofs.RoundLaws.{grows-refl}
use Rattle.pt_laws.proofs.MeetingLaws.{all-rest-same}
use Rattle.pt_laws.proofs.KahnLaws.{in-left, in-right}
use Rattle.pt_laws.proofs.MeetingIndex.{some-same, fires-are}
use Rattle.pt_laws.proofs.MeetingRunLaws.{order-is-prefix, asked-in-order}
use Rattle.pt_laws.proofs.OrderOfMeetings.{underway-fire, underway-end, underway-stuck, as-ahead}
use Rattle.pt_rv_laws.specs.State.{Processes, RvState, need_facts, net_of, got_of, MayFire, IsOver, closed, AllRest}
use Rattle.pt_rv_laws.specs.Lawful.{IsFor}
use Rattle.pt_rv_laws.specs.Chain.{met_events, scene_of, opened, Underway, firing_from, logged_of, IsStuckAt}
use Rattle.pt_rv_laws.proofs.SceneSeen.{over-seen, rests-seen}
use Rattle.pt_rv_laws.proofs.MeetLaws as meets
use Rattle.pt_rv_laws.proofs.FireLaws as fire
use Rattle.pt_rv_laws.proofs.CourseLaws.{course-underway, course-came}

in-prefixed : (i : ℕ) (fs : List Fault) (f : Fault) → IsIn f fs → IsIn (record { path = i ∷ f.path; firing = f.firing; code = f.code }) (prefixed i fs)
in-prefixed i [] f h = absurd h
in-prefixed i (g ∷ fs) f (inl e) = inl (ap (λ (v : Fault). let w : Fault = record { path = i ∷ v.path; firing = v.firing; code = v.code } in w) e)
in-prefixed i (g ∷ fs) f (inr h) = inr (in-prefixed i fs f h)

-- a process that becomes stuck
stuck-there : {T S : Type 0} (b i : ℕ) (ps : List (Party T S)) (p : Party T S) (g : Party T S → Party T S) (fs : List Fault) (f : Fault) → get ps i ≡ Some p → (g p).mood ≡ Broken fs → IsIn f fs →
    IsIn (record { path = (b + i) ∷ f.path; firing = f.firing; code = f.code }) (party_faults b (change_at i g ps))
stuck-there b i [] p g fs f e m h = absurd (cc)
stuck-there b zero (x ∷ ps) p g fs f e m h =
    let z : b ≡ b + 0 = omega arith in
    let here : (g x).mood ≡ Broken fs = ap (λ v. (g v).mood) (some-same x p e) ∙ m in
    in-left _ (prefixed b (mood_faults (g x).mood)) (party_faults (suc b) ps)
    (subst (λ (v : Mood). IsIn (record { path = (b + 0) ∷ f.path; firing = f.firing; code = f.code }) (prefixed b (mood_faults v))) (sym here)
    (subst (λ v. IsIn (record { path = v ∷ f.path; firing = f.firing; code = f.code }) (prefixed b fs)) z (in-prefixed b fs f h)))
stuck-there b (suc i) (x ∷ ps) p g fs f e m h =
    let z : suc b + i ≡ b + suc i = omega arith in
    in-right _ (prefixed b (mood_faults x.mood)) (party_faults (suc b) (change_at i g ps))
    (subst (λ v. IsIn (record { path = v ∷ f.path; firing = f.firing; code = f.code }) (party_faults (suc b) (change_at i g ps))) z (stuck-there (suc b) i ps p g fs f e m h))

module _ {T S : Type 0} (facts : Facts T S) (step : Stepping T S) (before : RvState T) (kids : List S) (inputs : Streams T) (s : RvState T) (count : ℕ) (now : List S) (ls : List (Log T)) (u : Underway facts step before kids inputs s count now ls) where
  abbrev net : Net
  net = net_of s

  abbrev scene : ℕ → Scene T S
  scene n = scene_of n s now ls

  abbrev start : Scene T S
  start = opened before kids inputs

  -- the firing by the core's own processes
  firing-is : (n k : ℕ) (ms : List Meeting) → under_meetings facts step s.tag net k n ms start ≡ firing_from facts step before kids s.tag inputs n k ms
  firing-is n k ms = ap (λ (p : Processes). under_meetings facts step s.tag p.plan.net k n ms start) u.processes

  under : (n : ℕ) → order.Underway facts step s.tag net n start count s.met (scene n)
  under n = course-underway facts step s.tag net n start count s.met (scene n) (u.course n)

  log-is : (n : ℕ) → scene_log (scene n) ≡ logged_of n s ls
  log-is n = ap (λ v. with_meetings (met_events n s.met) (log_below v)) (meets.parts facts step before kids inputs s count now ls u).logs

  over-is : IsOver s → (n : ℕ) → (all_rest facts (scene n).parties && not (any_legal facts net (scene n))) ≡ true
  over-is o n = sym (over-seen facts net [] (scene n)) ∙ ap (λ (sc : Scene T Need). all_rest need_facts sc.parties && not (any_legal need_facts net sc)) (meets.seen-is facts step before kids inputs s count now ls u n) ∙ o

  pub calls-end : IsOver s → (n k : ℕ) → count ≤ k → firing_from facts step before kids s.tag inputs n k s.met ≡ Done (record { held = s.places; kids = now }) s.outputs (logged_of n s ls)
  calls-end o n k l =
      sym (firing-is n k s.met) ∙ underway-end facts step s.tag net n start count s.met (scene n) (under n) (over-is o n) k l ∙
      ap₂ (λ (X : Places T) ss. let r : Outcome T (Inside (Places T) S) = Done (record { held = X; kids = ss }) s.outputs (scene_log (scene n)) in r) (meets.held-is facts step before kids inputs s count now ls u n) (meets.parts facts step before kids inputs s count now ls u).states ∙
      ap (λ m. let r : Outcome T (Inside (Places T) S) = Done (record { held = s.places; kids = now }) s.outputs m in r) (log-is n)

  -- the definition's firing is what the scene after the meetings comes to
  all-made : (n k : ℕ) (ms : List Meeting) (sc : Scene T S) → order.AllLegal facts step s.tag net n k ms sc → under_meetings facts step s.tag net k n ms sc ≡ ended facts step s.tag net k n (order.scene_after facts step s.tag net n k ms sc)
  unfolding under_meetings
  all-made n k [] sc a = refl
  all-made n k (m ∷ ms) sc a =
      ap (λ b. if_meets facts step s.tag net k n b (under_meetings facts step s.tag net k n ms) m (settled facts step s.tag net k n sc)) a.0 ∙ all-made n k ms (meet net n m (settled facts step s.tag net k n sc)) a.1

  is-done : (b : Bool) (sc : Scene T S) (x : Inside (Places T) S) (out : Streams T) (l : Log T) → if_ended b sc ≡ Done x out l → b ≡ true
  is-done true sc x out l e = refl
  is-done false sc x out l e = absurd (clash e)
    where
      clash : Stuck (party_faults 0 sc.parties) (scene_log sc) ≡ Done x out l → ⊥
      clash h = cc

  rest-is : AllRest s → (n : ℕ) → all_rest facts (scene n).parties ≡ true
  rest-is r n = sym (rests-seen facts (scene n).parties) ∙ ap (λ (sc : Scene T Need). all_rest need_facts sc.parties) (meets.seen-is facts step before kids inputs s count now ls u n) ∙ r

  pub calls-done : AllRest s → (n k : ℕ) → count ≤ k → (x : Inside (Places T) S) (out : Streams T) (l : Log T) → firing_from facts step before kids s.tag inputs n k s.met ≡ Done x out l → IsOver s
  calls-done r n k o x out l e =
      let far : Scene T S = order.scene_after facts step s.tag net n k s.met start in
      let h = as-ahead facts step s.tag net n count k o (scene n) far ((under n).behind k o) in
      let same : far ≡ scene n = scene-same (scene n) far (all-rest-same facts step step s.tag (grows-refl step) net.sources 0 (scene n).parties far.parties h.parties (rest-is r n)) h.inputs h.outputs h.met in
      let here : if_ended (all_rest facts (scene n).parties && not (any_legal facts net (scene n))) (scene n) ≡ Done x out l =
      ap (λ sc. ended facts step s.tag net k n sc) (sym same) ∙ sym (all-made n k s.met start ((under n).legal k o)) ∙ firing-is n k s.met ∙ e
      in
      sym (ap (λ (sc : Scene T Need). all_rest need_facts sc.parties && not (any_legal need_facts net sc)) (meets.seen-is facts step before kids inputs s count now ls u n)) ∙ over-seen facts net [] (scene n) ∙ is-done _ (scene n) x out l here
    where
      scene-same : (a b : Scene T S) → b.parties ≡ a.parties → b.inputs ≡ a.inputs → b.outputs ≡ a.outputs → b.met ≡ a.met → b ≡ a
      scene-same a b p i w m =
          ap (λ v. let sc : Scene T S = record { parties = v; inputs = b.inputs; outputs = b.outputs; met = b.met } in sc) p ∙
          ap (λ v. let sc : Scene T S = record { parties = a.parties; inputs = v; outputs = b.outputs; met = b.met } in sc) i ∙
          ap (λ v. let sc : Scene T S = record { parties = a.parties; inputs = a.inputs; outputs = v; met = b.met } in sc) w ∙
          ap (λ v. let sc : Scene T S = record { parties = a.parties; inputs = a.inputs; outputs = a.outputs; met = v } in sc) m

  pub calls-rest : IsOver s → IsFor facts (closed s) now
  calls-rest o = record {
    lawful = u.lawful;
    sized = record { got = u.sized.got; puts = u.sized.puts; needs = u.sized.needs; rooms = u.sized.rooms };
    needs = u.needs;
    counts = u.counts;
    none = u.outputs;
  }

  pub calls-leave-off : (n k : ℕ) (more : List Meeting) → count ≤ k → LogBelow (logged_of n s ls) (log_in (firing_from facts step before kids s.tag inputs n k (s.met ++ more)))
  calls-leave-off n k more l =
      subst (λ r. LogBelow (logged_of n s ls) (log_in r)) (firing-is n k (s.met ++ more))
      (subst (λ m. LogBelow m (log_in (under_meetings facts step s.tag net k n (s.met ++ more) start))) (log-is n) (order-is-prefix facts step s.tag net n start count s.met (scene n) (under n) more k l))

  module _ (i : ℕ) (may : MayFire s i) (d : S) where
    abbrev its : Party T S
    its = fire.logging facts step before kids inputs s count now ls u i may d (log_at ls i)

    pub calls-within : (m : Log T) → LogBelow m (log_in (step s.tag (get_or now i d) (got_of s i))) → (n k : ℕ) (more : List Meeting) → count < k → LogBelow (logged_of n s (logs_then i m ls)) (log_in (firing_from facts step before kids s.tag inputs n k (s.met ++ more)))
    calls-within m b n k more l =
        subst (λ r. LogBelow (logged_of n s (logs_then i m ls)) (log_in r)) (firing-is n k (s.met ++ more))
        (subst (λ v. LogBelow (with_meetings (met_events n s.met) (log_below (logs_then i m v))) (log_in (under_meetings facts step s.tag net k n (s.met ++ more) start))) (meets.parts facts step before kids inputs s count now ls u).logs
        (asked-in-order facts step s.tag net n start count s.met (scene n) (under n) more i its (fire.party-is facts step before kids inputs s count now ls u i may d n) (fire.fires-next facts step before kids inputs s count now ls u i may d (log_at ls i)) m b k l))

    module _ (fs : List Fault) (l : Log T) (stuck : step s.tag (get_or now i d) (got_of s i) ≡ Stuck fs l) (f : Fault) (within : IsIn f fs) where
      abbrev told : Fault
      told = record { path = i ∷ f.path; firing = f.firing; code = f.code }

      becomes-stuck : (advance facts step s.tag net.sources i its).mood ≡ Broken fs
      becomes-stuck = ap (λ (p : Party T S). p.mood) (fires-are.stuck facts step s.tag net.sources i its fs l (fire.fires-next facts step before kids inputs s count now ls u i may d (log_at ls i)) stuck)

      among : (n : ℕ) → IsIn told (party_faults 0 (fires_in facts step s.tag net n i (scene n)).parties)
      among n =
          let z : 0 + i ≡ i = omega arith in
          subst (λ ps. IsIn told (party_faults 0 ps)) (sym (fires-are.change facts step s.tag net n i (scene n).parties))
          (subst (λ v. IsIn (record { path = v ∷ f.path; firing = f.firing; code = f.code }) (party_faults 0 (change_at i (advance facts step s.tag net.sources i) (scene n).parties))) z
          (stuck-there 0 i (scene n).parties its (advance facts step s.tag net.sources i) fs f (fire.party-is facts step before kids inputs s count now ls u i may d n) becomes-stuck within))

      pub calls-stick : (n k : ℕ) → count < k → IsStuckAt (firing_from facts step before kids s.tag inputs n k s.met) i f (logged_of n s (logs_then i l ls))
      calls-stick n k o =
          let w = underway-fire facts step s.tag net n start count s.met (scene n) i (under n) in
          let r = underway-stuck facts step s.tag net n start (suc count) s.met (fires_in facts step s.tag net n i (scene n)) w told (among n) k (omega (arith, o)) in
          let same : firing_from facts step before kids s.tag inputs n k s.met ≡ Stuck r.0 r.1 = sym (firing-is n k s.met) ∙ r.2 in
          let b = calls-within l (subst (λ v. LogBelow l (log_in v)) (sym stuck) (λ p. prefix-refl (l p))) n k [] o in (
            r.0,
            r.1,
            same,
            r.3,
            subst (λ v. LogBelow (logged_of n s (logs_then i l ls)) (log_in v)) same (subst (λ ms. LogBelow (logged_of n s (logs_then i l ls)) (log_in (firing_from facts step before kids s.tag inputs n k ms))) (append-nil s.met) b),
          )
        where
          prefix-refl : {A : Type 0} (xs : List A) → IsPrefix xs xs
          prefix-refl [] = tt
          prefix-refl (x ∷ xs) = (refl, prefix-refl xs)

    -- the definitions ask for it
    pub calls-ask : (n : ℕ) (more : List Meeting) → AsksInScene facts step s.tag net n (s.met ++ more) start i (get_or now i d) (got_of s i)
    calls-ask n more =
        let c = course-came facts step s.tag net n start count count s.met (scene n) (u.course n) (omega arith) i its (fire.party-is facts step before kids inputs s count now ls u i may d n) in
        record {
          fuel = count;
          met = c.met;
          made = c.made;
          party = c.party;
          listed = IsPrefix-trans c.met s.met (s.met ++ more) c.listed (IsPrefix-append s.met more);
          there = c.there;
          fires = ap (λ (p : Party T S). process.next_event facts p) c.is ∙ fire.fires-next facts step before kids inputs s count now ls u i may d (log_at ls i);
          state = ap (λ (p : Party T S). p.state) c.is;
          gathered = ap (λ (p : Party T S). p.got) c.is;
        }
