-- Where a Rendezvous composite may be left off: between two firings of its children, and within one.
use Rattle.std.proofs.Common.{◌≡◌, ℕ, zero, suc, ◌+◌, ◌<◌, ◌≤◌, List, [], ◌∷◌, ◌++◌, length, get_or, Option, Some, None, inl, refl, sym, ap, subst, ◌∙◌, arith}
use Rattle.pt_meaning.specs.Streams.{Streams, IsPrefix, at, get}
use Rattle.pt_meaning.specs.Log.{Log, LogBelow, Meeting, silent}
use Rattle.pt_meaning.specs.Machine.{Fault, Stepping, Facts}
use Rattle.pt_meaning.specs.Meetings.{Meets, Scene, below_child}
use Rattle.pt_meaning.specs.Children.{Child, numbered, child_facts}
use Rattle.pt_meaning.specs.Tree.{Rows, Core, Rv, Past, Node, Nodes, list_of, height, heights}
use Rattle.pt_meaning.specs.NodeFacts.{facts_of}
use Rattle.pt_meaning.specs.Process.{all_got}
use Rattle.pt_meaning.specs.Step.{step_at}
use Rattle.pt_meaning.specs.Asked.{IsAsked, AsksInScene}
use Rattle.pt_meaning.specs.Closed.{inputs_at}
use Rattle.pt_meaning.specs.Places.{tokens_on}
use Rattle.pt_meaning.specs.Rendezvous.{Places}
use Rattle.pt_laws.specs.Channels.{channel_at, source_of}
use Rattle.pt_laws.specs.CompositeRuns.{steps_below}
use Rattle.pt_laws.specs.Explained.{Turned, ChainOf, of_turns, gives_in}
use Rattle.pt_laws.specs.LogsOfRuns.{log_at, log_in}
use Rattle.pt_laws.specs.SoundRuns.{got_by, waiting_in, on_its_way, on_place}
use Rattle.pt_laws.proofs.ChannelLaws.{none-of-channel, at-beyond}
use Rattle.pt_laws.proofs.ExplainPlaces.{held_of}
use Rattle.pt_laws.proofs.HeightLaws.{numbered-length}
use Rattle.pt_laws.proofs.MeetingIndex.{some-same}
use Rattle.pt_laws.proofs.Order.{IsPrefix-after, IsPrefix-append}
use Rattle.pt_records.specs.Shut.{IsShut}
use Rattle.pt_records.specs.Middle.{IsBetween, IsIn, HasMade}
use Rattle.pt_records.proofs.SoFarLaws.{numbered-at}
use Rattle.pt_rv_laws.specs.State.{Processes, RvState, net_of, got_of, MayFire}
use Rattle.pt_rv_laws.specs.Chain.{Course, scene_of, opened, Underway}
use Rattle.pt_rv_laws.proofs.SeatLaws.{party-there}
use Rattle.pt_rv_laws.proofs.MeetLaws as meets
use Rattle.pt_rv_laws.proofs.EndLaws.{calls-ask}
use Rattle.pt_rv_laws.proofs.TurnLaws.{Tells, course-tells}

get-or-there : {S : Type 0} (ss : List S) (i : ℕ) (d : S) → i < length ss → get ss i ≡ Some (get_or ss i d)
get-or-there [] i d l = absurd (omega (arith, l))
get-or-there (s ∷ ss) zero d l = refl
get-or-there (s ∷ ss) (suc i) d l = get-or-there ss i d (omega (arith, l))

get-short : {A : Type 0} (xs : List A) (i : ℕ) (x : A) → get xs i ≡ Some x → i < length xs
get-short [] i x e = absurd (cc)
get-short (y ∷ xs) zero x e = omega arith
get-short (y ∷ xs) (suc i) x e = let r = get-short xs i x e in omega (arith, r)

log-beyond : {T : Type 0} (ls : List (Log T)) (i : ℕ) → length ls ≤ i → log_at ls i ≡ silent
log-beyond [] i o = refl
log-beyond (l ∷ ls) zero o = absurd (omega (arith, o))
log-beyond (l ∷ ls) (suc i) o = log-beyond ls i (omega (arith, o))

-- at a fuel
module _ {T A : Type 0} (rows : Rows T A) (k : ℕ) (m : Meets) (h : Past) (before : RvState T) (kids : Nodes T A) (inputs : Streams T) (s : RvState T) (count : ℕ) (now : List (Node T A)) (ls : List (Log T))
    (u : Underway (child_facts (facts_of rows)) (steps_below rows k (heights kids) m) before (numbered 0 (list_of kids)) inputs s count (numbered 0 now) ls) where
  abbrev facts : Facts T (Child (Node T A))
  facts = child_facts (facts_of rows)

  abbrev step : Stepping T (Child (Node T A))
  step = steps_below rows k (heights kids) m

  abbrev its : List (Child (Node T A))
  its = numbered 0 (list_of kids)

  abbrev state : Core T
  state = Rv before.processes.plan before.places

  abbrev scene : Scene T (Child (Node T A))
  scene = scene_of h.made s (numbered 0 now) ls

  now-count : length (numbered 0 now) ≡ length (net_of s).places
  now-count = meets.now-long facts step before its inputs s count (numbered 0 now) ls u

  same-net : length (net_of before).places ≡ length its
  same-net = ap (λ (p : Processes). length p.plan.net.places) (sym u.processes) ∙ sym u.children

  abbrev CourseBy : Processes → Type 0
  CourseBy p = Course facts step s.tag p.plan.net h.made (opened before its inputs) count s.met scene

  tells : (τ : List (List (Turned T))) × Tells facts step s.tag before.processes.plan h.made before.places its inputs τ scene
  tells =
      course-tells facts step s.tag before.processes.plan h.made before.places its inputs
      (ap (λ (p : Processes). length p.plan.barriers) (sym u.processes) ∙ u.lawful.barriers ∙ sym u.children) (u.first_sized.got ∙ same-net) (u.first_sized.puts ∙ same-net) u.first_sized.rooms
      count s.met scene (subst (λ p. CourseBy p) u.processes (u.course h.made))

  abbrev its_turns : ℕ → List (Turned T)
  its_turns i = at tells.0 i

  made-one : (i : ℕ) (z : Child (Node T A)) → get its i ≡ Some z → HasMade facts step (numbered 0 now) ls z i (its_turns i)
  made-one i z e =
      let l = get-short its i z e in
      let c = u.children in
      let n = now-count in
      let w = tells.1.parties i _ (party-there (length (net_of s).places) s.processes.plan.barriers s.places.got s.places.puts (numbered 0 now) ls (meets.all-long facts step before its inputs s count (numbered 0 now) ls u) i z (omega (arith, l, c))) in
      record {
        end = get_or (numbered 0 now) i z;
        there = get-or-there (numbered 0 now) i z (omega (arith, l, c, n));
        chain = subst (λ v. ChainOf facts step v (its_turns i) (get_or (numbered 0 now) i z) (log_at ls i)) (some-same w.0 z (sym w.1 ∙ e)) w.2;
      }

  -- the beginning of what is on its way is taken, or is to be taken
  takes-well : (i q : ℕ) (xs : List T) → IsPrefix xs (on_its_way before.processes.plan.net (held_of scene) i q (channel_at before.processes.plan.net.places i q)) →
      IsPrefix (of_turns (inputs_at q) (its_turns i) ++ xs) (on_place state i q ++ gives_in inputs its_turns (source_of state i q))
  takes-well i q xs f = subst (λ v. IsPrefix (of_turns (inputs_at q) (its_turns i) ++ xs) v) (tells.1.counts i q) (IsPrefix-after (of_turns (inputs_at q) (its_turns i)) xs _ f)

  pub rv-between : IsBetween rows k m s.tag state kids inputs now ls
  rv-between = record {
    turns = its_turns;
    made = made-one;
    none = λ i g.
        let a = numbered-length 0 (list_of kids) in let c = u.children in let l = u.logged in let w = tells.1.wide in
        (log-beyond ls i (omega (arith, g, a, c, l)), at-beyond tells.0 i (omega (arith, g, a, w)));
    takes = λ i q. inl (takes-well i q [] tt);
    count = let a = u.children in let b = now-count in let c = numbered-length 0 now in let d = numbered-length 0 (list_of kids) in omega (arith, a, b, c, d);
    logged = let a = now-count in let b = u.logged in let c = numbered-length 0 now in omega (arith, a, b, c);
  }

  -- child i takes what it gathered
  module _ (i : ℕ) (may : MayFire s i) (child : Node T A) (there : get now i ≡ Some child) (more : List Meeting) (listed : m [] h.made ≡ s.met ++ more) where
    abbrev it : Child (Node T A)
    it = record { number = i; node = child }

    abbrev AskedBy : Processes → List Meeting → Child (Node T A) → Type 0
    AskedBy p ms c = AsksInScene facts step s.tag p.plan.net h.made ms (opened before its inputs) i c (got_of s i)

    -- which the composite's firing asks for
    pub rv-asks : IsAsked facts step (m [] h.made) h.made state its s.tag inputs i it s.tag (got_of s i)
    rv-asks = (
      refl,
      subst (λ ms. AskedBy before.processes ms it) (sym listed)
          (subst (λ p. AskedBy p (s.met ++ more) it) u.processes
          (subst (λ c. AskedBy s.processes (s.met ++ more) c) (numbered-at 0 now i i child it (omega arith) there)
          (calls-ask facts step before its inputs s count (numbered 0 now) ls u i may it h.made more))),
    )

    same-got : got_by (all_got scene.parties) i ≡ got_of s i
    same-got = ap (λ (X : Places T). got_by X.got i) (meets.held-is facts step before its inputs s count (numbered 0 now) ls u h.made)

    -- what it takes is at its places
    at-places : (q : ℕ) → IsPrefix (at (got_of s i) q) (on_its_way before.processes.plan.net (held_of scene) i q (channel_at before.processes.plan.net.places i q))
    at-places q = go (channel_at before.processes.plan.net.places i q) refl
      where
        go : (o : Option ℕ) → channel_at before.processes.plan.net.places i q ≡ o → IsPrefix (at (got_of s i) q) (on_its_way before.processes.plan.net (held_of scene) i q o)
        go None e =
            let a = none-of-channel before.processes.plan.net.places i q e in
            let b = tells.1.rooms.gathers i in
            subst (λ xs. IsPrefix xs []) (sym (ap (λ X. at X q) (sym same-got) ∙ at-beyond (got_by (all_got scene.parties) i) q (omega (arith, a, b)))) tt
        go (Some d) e = subst (λ X. IsPrefix (at X q) (at (got_by (all_got scene.parties) i) q ++ tokens_on d (waiting_in (held_of scene) (get before.processes.plan.net.sources d)))) same-got (IsPrefix-append (at (got_by (all_got scene.parties) i) q) _)

    -- it has logged inside of that firing, as stuck at a place of the child where one is given
    module _ (place : Option Fault) (inside : Log T) (low : height child ≤ heights kids) (below : LogBelow inside (log_in (step_at rows k (height child) (below_child i m) s.tag child (got_of s i)))) (shut : IsShut rows (below_child i m) child s.tag (got_of s i) place inside) where
      pub rv-in : (b : IsBetween rows k m s.tag state kids inputs now ls) × IsIn rows k m s.tag h state kids inputs now ls b.turns i child s.tag (got_of s i) place inside
      unfolding rv-between
      rv-in = (
        rv-between,
        record {
          there = there;
          low = low;
          at_tag = refl;
          takes = λ q. inl (takes-well i q (at (got_of s i) q) (at-places q));
          asks = rv-asks;
          below = below;
          shut = shut;
        },
      )
