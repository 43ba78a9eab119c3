-- A process that may fire: its firing goes on with that of the composite, or is stuck, or is left off.
use Rattle.std.proofs.Common.{◌≡◌, ◌⊎◌, inl, inr, ℕ, zero, suc, ◌+◌, ◌-◌, ◌<◌, ◌≤◌, List, [], ◌∷◌, ◌++◌, true, false, nat_eq, length, set, drop, get_or, Option, Some, refl, sym, ap, ap₂, subst, ◌∙◌, arith, length-set}
use Rattle.std.proofs.lemmas.List.{length-map}
use Rattle.std.proofs.Math.Seq.{drop-append_seam}
use Rattle.pt_meaning.specs.Streams.{Streams, at, get}
use Rattle.pt_meaning.specs.Log.{Log, LogBelow, Firing, log_then, log_below, own}
use Rattle.pt_meaning.specs.Machine.{Over, Fault, Done, Stuck, Stepping, Facts, front}
use Rattle.pt_meaning.specs.Net.{Net}
use Rattle.pt_meaning.specs.Rounds.{Limit, within, rated}
use Rattle.pt_meaning.specs.Kahn.{logs_of, behind, lengths, kahn}
use Rattle.pt_meaning.specs.Pn.{pn_limits, always, all_leave}
use Rattle.pt_meaning.specs.Process.{puts_of, emptied}
use Rattle.pt_meaning.specs.Running.{total, runs, Asks, plus, puts}
use Rattle.pt_meaning.specs.Places.{Halfway, Consistent, IsFire, due, tokens_on}
use Rattle.pt_meaning.specs.Jam.{IsPutting, is_empty, is_gathering}
use Rattle.pt_meaning.specs.Laws.{IsIn}
use Rattle.pt_laws.specs.LogsOfRuns.{RunningWith, FiresWith, logs_then, log_in, rates_at}
use Rattle.pt_laws.specs.TickRuns.{places_at}
use Rattle.pt_laws.proofs.Indexed.{asks-at, streams-same}
use Rattle.pt_laws.proofs.LogLaws.{asked-fires, sticks-with, run-is-prefix, asked-is-prefix}
use Rattle.pt_laws.proofs.RunLaws.{running-step-with}
use Rattle.pt_laws.proofs.PlaceLaws.{fire-keeps}
use Rattle.pt_laws.proofs.PlaceEnds.{puts-are}
use Rattle.pt_pn_laws.specs.State.{Network, PnState, MayFire, offset_of, with_places, net_of, got_of, need_at, fired_by, start_of, after_told}
use Rattle.pt_pn_laws.specs.Lawful.{AllGather, HasPlaces, AllCount}
use Rattle.pt_pn_laws.specs.Chain.{AllFeed, Underway, firing_from, IsStuckAt}
use Rattle.pt_pn_laws.proofs.ListLaws.{nat-apart, either-nat, at-set, at-set-other, get-or-set, get-or-set-other, map-set, get-or-map, parts-apart, length-part, at-part, same-part, with-length, with-before, with-at, with-after, length-emptied, at-emptied, length-behind, length-lengths}
use Rattle.pt_pn_laws.proofs.RunSame.{all-same, putting-kept, putting-fired}
use Rattle.pt_pn_laws.proofs.GatherLaws.{gathers-none, empty-emptied}
use Rattle.pt_pn_laws.proofs.BeginLaws.{limits-length, unlimited, limits-none, rates-none, at-behind, exact-front, fires-plain, asked-sticks, feed-puts}

get-set : {A : Type 0} (xs : List A) (i : ℕ) (x : A) → i < length xs → get (set xs i x) i ≡ Some x
get-set [] i x l = absurd (omega (arith, l))
get-set (y ∷ xs) zero x l = refl
get-set (y ∷ xs) (suc i) x l = get-set xs i x (omega (arith, l))

get-set-other : {A : Type 0} (xs : List A) (i j : ℕ) (x : A) → (i ≡ j → ⊥) → get (set xs i x) j ≡ get xs j
get-set-other [] i j x h = refl
get-set-other (y ∷ xs) zero zero x h = absurd (h refl)
get-set-other (y ∷ xs) zero (suc j) x h = refl
get-set-other (y ∷ xs) (suc i) zero x h = refl
get-set-other (y ∷ xs) (suc i) (suc j) x h = get-set-other xs i j x (λ e. h (ap (λ n. suc n) e))

get-or-is : (ms : List ℕ) (i : ℕ) → i < length ms → get ms i ≡ Some (get_or ms i 0)
get-or-is [] i l = absurd (omega (arith, l))
get-or-is (m ∷ ms) zero l = refl
get-or-is (m ∷ ms) (suc i) l = get-or-is ms i (omega (arith, l))

module _ {T S : Type 0} (facts : Facts T S) (step : Stepping T S) (before : PnState T) (kids : List S) (inputs : Streams T) (s : PnState T) (ms : List ℕ) (now : List S) (ls : List (Log T)) (u : Underway facts step before kids inputs s ms now ls) where
  abbrev net : Net
  net = net_of s

  abbrev ns : List ℕ
  ns = net.places

  abbrev held : Streams T
  held = u.consistent.held

  abbrev start : Streams T
  start = start_of before inputs

  pub run : RunningWith facts step s.tag net (pn_limits ns) kids start ms now held ls
  run = record { running = u.consistent.running; logs = u.logs }

  -- the firing by the core's own network
  pub firing-is : (k : ℕ) → kahn facts step s.tag net (pn_limits ns) always all_leave kids start k ≡ firing_from facts step before kids s.tag inputs k
  firing-is k = ap (λ (n : Network T). kahn facts step s.tag n.plan.net (pn_limits n.plan.net.places) always all_leave kids start k) u.network

  pub now-long : length now ≡ length ns
  now-long = sym (length-map now (λ c. facts.need c)) ∙ ap (λ v. length v) (sym u.needs) ∙ u.sized.needs

  long-held : total ns ≤ length held
  long-held = let e = u.consistent.wide in let l = u.lawful.channels in omega (arith, e, l)

  long-gathered : total ns ≤ length s.halfway.gathered
  long-gathered = let e = u.sized.gathered in omega (arith, e)

  module _ (i : ℕ) (m : MayFire s i) where
    abbrev got : Streams T
    got = got_of s i

    abbrev there : Streams T
    there = places_at ns i held

    abbrev rest : Streams T
    rest = behind (lengths got) there

    abbrev pub left : Streams T
    left = with_places ns i rest held

    got-long : length got ≡ get_or ns i 0
    got-long = length-part ns i s.halfway.gathered m.there long-gathered

    there-long : length there ≡ get_or ns i 0
    there-long = length-part ns i held m.there long-held

    as-long : length got ≡ length there
    as-long = got-long ∙ sym there-long

    rest-long : length rest ≡ get_or ns i 0
    rest-long = length-behind (lengths got) there (length-lengths got ∙ as-long) ∙ there-long

    abbrev behind_got : ℕ → List T
    behind_got c = at s.halfway.queued c ++ due net s.halfway.puts c

    at-there : (q : ℕ) → q < get_or ns i 0 → at there q ≡ at got q ++ behind_got (offset_of ns i + q)
    at-there q l = at-part ns i q held l ∙ u.consistent.split (offset_of ns i + q) ∙ ap (λ v. v ++ behind_got (offset_of ns i + q)) (sym (at-part ns i q s.halfway.gathered l))

    at-rest : (q : ℕ) → q < get_or ns i 0 → at rest q ≡ behind_got (offset_of ns i + q)
    at-rest q l = at-behind got there q as-long ∙ ap (λ v. drop (length (at got q)) v) (at-there q l) ∙ drop-append_seam (at got q) (behind_got (offset_of ns i + q))

    its-need : (d : S) → facts.need (get_or now i d) ≡ need_at s i
    its-need d = sym (get-or-map (λ c. facts.need c) now i d Over (let e = now-long in let l = m.there in omega (arith, e, l))) ∙ ap (λ v. get_or v i Over) (sym u.needs)

    pub asks : (d : S) → Asks facts i ns (pn_limits ns) ms now held got left
    asks d =
        asks-at facts i ns (pn_limits ns) ms now held got rest left d unlimited (limits-length ns) u.consistent.running.each now-long m.there
        (subst (λ (c : Limit). suc (get_or ms i 0) ≤ within c.firings (suc (get_or ms i 0))) (sym (limits-none ns i)) (omega arith))
        (ap (λ n. front n there) (its-need d) ∙ exact-front (need_at s i) got there m.left m.ready as-long (λ q l. (behind_got (offset_of ns i + q), at-there q (let e = got-long in omega (arith, e, l))))) refl

    pub as-step : (z : S) → rated facts (rates_at (pn_limits ns) i) step s.tag z got ≡ step s.tag z got
    as-step z = ap (λ r. rated facts r step s.tag z got) (rates-none ns i)

    pub calls-stick : (d : S) (fs : List Fault) (l : Log T) → step s.tag (get_or now i d) got ≡ Stuck fs l → (f : Fault) → IsIn f fs → (k : ℕ) → total ms < k → IsStuckAt (firing_from facts step before kids s.tag inputs k) i f (log_below (logs_then i l ls))
    calls-stick d fs l e f x k o =
        let stuck =
        sticks-with facts step s.tag net (pn_limits ns) kids start ms now held ls run i l f (asked-sticks facts step s.tag i ns (pn_limits ns) ms now held got left d fs l f (asks d) (as-step (get_or now i d) ∙ e) x) always all_leave k o
        in (stuck.0, stuck.1, sym (firing-is k) ∙ stuck.2, stuck.3, stuck.4)

    pub calls-within : (d : S) (l : Log T) → LogBelow l (log_in (step s.tag (get_or now i d) got)) → (k : ℕ) → total ms < k → LogBelow (log_below (logs_then i l ls)) (log_in (firing_from facts step before kids s.tag inputs k))
    calls-within d l h k o =
        subst (λ r. LogBelow (log_below (logs_then i l ls)) (log_in r)) (firing-is k)
        (asked-is-prefix facts step s.tag net (pn_limits ns) kids start ms now held ls run i got left d (asks d) l (subst (λ r. LogBelow l (log_in r)) (sym (as-step (get_or now i d))) h) always all_leave k o)

    -- its firing
    module _ (d c : S) (out : Streams T) (l : Log T) (e : step s.tag (get_or now i d) got ≡ Done c out l) (fits : HasPlaces (get_or ns i 0) (facts.need c)) where
      abbrev made' : List ℕ
      made' = set ms i (get_or ms i 0 + 1)

      abbrev now' : List S
      now' = set now i c

      abbrev h' : Halfway T
      h' = fired_by net i out s.halfway

      abbrev f : Firing T
      f = record { number = facts.made (get_or now i d); tag = s.tag; inputs = got; outputs = out }

      fires : FiresWith facts step s.tag i ns (pn_limits ns) ms now held made' now' left l f
      fires = asked-fires facts step s.tag i ns (pn_limits ns) ms now held got left c out l d (asks d) (as-step (get_or now i d) ∙ e)

      process-in : i < length s.halfway.puts
      process-in = let a = u.sized.puts in let b = m.there in omega (arith, a, b)

      made-in : i < length ms
      made-in = let a = u.consistent.running.each in let b = m.there in omega (arith, a, b)

      none-long : length (emptied got) ≡ get_or ns i 0
      none-long = length-emptied got ∙ got-long

      used : (c : ℕ) → at left c ≡ at h'.gathered c ++ behind_got c
      used c = by (where-is c (offset_of ns i) (get_or ns i 0))
        where
          split : (a b : ℕ) → (a < b) ⊎ (b ≤ a)
          split a b = grind arith

          inside : (c o n : ℕ) → o ≤ c → (c < o + n) ⊎ (o + n ≤ c) → (c < o) ⊎ ((o + n ≤ c) ⊎ ((q : ℕ) × (q < n) × (c ≡ o + q)))
          inside c o n a (inl b) = inr (inr (c - o, omega (arith, a, b), omega (arith, a)))
          inside c o n a (inr b) = inr (inl b)

          from : (c o n : ℕ) → (c < o) ⊎ (o ≤ c) → (c < o) ⊎ ((o + n ≤ c) ⊎ ((q : ℕ) × (q < n) × (c ≡ o + q)))
          from c o n (inl a) = inl a
          from c o n (inr a) = inside c o n a (split c (o + n))

          where-is : (c o n : ℕ) → (c < o) ⊎ ((o + n ≤ c) ⊎ ((q : ℕ) × (q < n) × (c ≡ o + q)))
          where-is c o n = from c o n (split c o)

          by : (c < offset_of ns i) ⊎ ((offset_of ns i + get_or ns i 0 ≤ c) ⊎ ((q : ℕ) × (q < get_or ns i 0) × (c ≡ offset_of ns i + q))) → at left c ≡ at h'.gathered c ++ behind_got c
          by (inl a) =
              with-before ns i rest held m.there long-held rest-long c a ∙ u.consistent.split c ∙ ap (λ v. v ++ behind_got c) (sym (with-before ns i (emptied got) s.halfway.gathered m.there long-gathered none-long c a))
          by (inr (inl a)) =
              with-after ns i rest held m.there long-held rest-long c a ∙ u.consistent.split c ∙ ap (λ v. v ++ behind_got c) (sym (with-after ns i (emptied got) s.halfway.gathered m.there long-gathered none-long c a))
          by (inr (inr a)) =
              subst (λ v. at left v ≡ at h'.gathered v ++ behind_got v) (sym a.2)
              (with-at ns i rest held m.there long-held rest-long a.0 a.1 ∙ at-rest a.0 a.1 ∙
              ap (λ v. v ++ behind_got (offset_of ns i + a.0)) (sym (with-at ns i (emptied got) s.halfway.gathered m.there long-gathered none-long a.0 a.1 ∙ at-emptied got a.0)))

      is-fire : IsFire facts step s.tag net i ms now held s.halfway made' now' h'
      is-fire = record {
        left = left;
        outputs = out;
        fires = fires-plain facts step s.tag i ns (pn_limits ns) ms now held made' now' left l f fires;
        wide = with-length ns i rest held m.there long-held rest-long;
        none = m.none;
        used = used;
        are = λ c. ap (λ us. tokens_on c us) (at-set s.halfway.puts i (puts_of net.sources i 0 out) process-in) ∙ puts-are net i out c;
        puts = λ j z. at-set-other s.halfway.puts i j (puts_of net.sources i 0 out) z;
        same = refl;
      }

      fired : Consistent facts step s.tag net kids start made' now' h'
      fired = fire-keeps facts step s.tag net kids start ms now i s.halfway made' now' h' u.consistent is-fire

      abbrev logs_after : List (Log T)
      logs_after = logs_then i (log_then l (own f)) ls

      went : RunningWith facts step s.tag net (pn_limits ns) kids start made' now' (plus left (puts i out net.sources)) logs_after
      went = running-step-with facts step s.tag net (pn_limits ns) kids start ms now held ls run i made' now' left l f fires

      logs-are : logs_after ≡ logs_of (runs facts step s.tag ns (pn_limits ns) made' kids fired.running.all)
      logs-are =
          went.logs ∙
          ap (λ A. logs_of (runs facts step s.tag ns (pn_limits ns) made' kids A)) (all-same facts step s.tag net kids start u.children made' now' now' (plus left (puts i out net.sources)) fired.held went.running fired.running)

      abbrev s' : PnState T
      s' = after_told i out (facts.need c) s

      needs-in : i < length s.needs
      needs-in = let a = u.sized.needs in let b = m.there in omega (arith, a, b)

      got-none : got_of s' i ≡ emptied got
      got-none =
          let w = with-length ns i (emptied got) s.halfway.gathered m.there long-gathered none-long in
          let g = long-gathered in
          streams-same (got_of s' i) (emptied got) (length-part ns i h'.gathered m.there (omega (arith, w, g)) ∙ sym none-long)
          (λ q v. let z = length-part ns i h'.gathered m.there (omega (arith, w, g)) in let y : q < get_or ns i 0 = omega (arith, v, z) in at-part ns i q h'.gathered y ∙ with-at ns i (emptied got) s.halfway.gathered m.there long-gathered none-long q y)

      got-other : (j : ℕ) → j < length ns → nat_eq i j ≡ false → got_of s' j ≡ got_of s j
      got-other j lj e' =
          let w = with-length ns i (emptied got) s.halfway.gathered m.there long-gathered none-long in
          let g = long-gathered in
          same-part ns j h'.gathered s.halfway.gathered lj (omega (arith, w, g)) long-gathered (λ q v. by q v (order i j))
        where
          order : (a b : ℕ) → (a ≡ b) ⊎ ((a < b) ⊎ (b < a))
          order a b = grind arith

          by : (q : ℕ) → q < get_or ns j 0 → (i ≡ j) ⊎ ((i < j) ⊎ (j < i)) → at h'.gathered (offset_of ns j + q) ≡ at s.halfway.gathered (offset_of ns j + q)
          by q v (inl a) = absurd (nat-apart i j e' a)
          by q v (inr (inl a)) = with-after ns i (emptied got) s.halfway.gathered m.there long-gathered none-long (offset_of ns j + q) (let z = parts-apart ns i j a in omega (arith, z))
          by q v (inr (inr a)) = with-before ns i (emptied got) s.halfway.gathered m.there long-gathered none-long (offset_of ns j + q) (let z = parts-apart ns j i a in omega (arith, z, v))

      counts-then : AllCount s'
      counts-then j lj = by (either-nat i j)
        where
          by : (i ≡ j) ⊎ (nat_eq i j ≡ false) → HasPlaces (get_or ns j 0) (need_at s' j)
          by (inl a) = subst (λ j. HasPlaces (get_or ns j 0) (need_at s' j)) a (subst (λ n. HasPlaces (get_or ns i 0) n) (sym (get-or-set s.needs i (facts.need c) Over needs-in)) fits)
          by (inr a) = subst (λ n. HasPlaces (get_or ns j 0) n) (sym (get-or-set-other s.needs i j (facts.need c) Over a)) (u.counts j lj)

      gathers-then : AllGather s'
      gathers-then j lj = by (either-nat i j)
        where
          by : (i ≡ j) ⊎ (nat_eq i j ≡ false) → is_gathering (at h'.puts j) (need_at s' j) (got_of s' j) ≡ true
          by (inl a) =
              subst (λ j. is_gathering (at h'.puts j) (need_at s' j) (got_of s' j) ≡ true) a
              (gathers-none (get_or ns i 0) (at h'.puts i) (need_at s' i) (got_of s' i) (counts-then i m.there) (ap (λ X. is_empty X) got-none ∙ empty-emptied got))
          by (inr a) =
              ap (λ us. is_gathering us (need_at s' j) (got_of s' j)) (at-set-other s.halfway.puts i j (puts_of net.sources i 0 out) a) ∙
              ap₂ (λ n X. is_gathering (at s.halfway.puts j) n X) (get-or-set-other s.needs i j (facts.need c) Over a) (got-other j lj a) ∙ u.gathers j lj

      feeds-then : (j : ℕ) → AllFeed net j (at h'.puts j)
      feeds-then j = by (either-nat i j)
        where
          by : (i ≡ j) ⊎ (nat_eq i j ≡ false) → AllFeed net j (at h'.puts j)
          by (inl a) = subst (λ k. AllFeed net k (at h'.puts k)) a (subst (λ us. AllFeed net i us) (sym (at-set s.halfway.puts i (puts_of net.sources i 0 out) process-in)) (feed-puts net i 0 out))
          by (inr a) = subst (λ us. AllFeed net j us) (sym (at-set-other s.halfway.puts i j (puts_of net.sources i 0 out) a)) (u.feeds j)

      one-more : (k : ℕ) → k + 1 ≡ suc k
      one-more k = omega arith

      putting-then : (j : ℕ) → (at h'.puts j ≡ []) ⊎ IsPutting facts step s.tag net kids fired.running.all made' h' j
      putting-then j = by (either-nat i j)
        where
          other : nat_eq i j ≡ false → (at s.halfway.puts j ≡ []) ⊎ IsPutting facts step s.tag net kids u.consistent.running.all ms s.halfway j → (at h'.puts j ≡ []) ⊎ IsPutting facts step s.tag net kids fired.running.all made' h' j
          other a (inl z) = inl (at-set-other s.halfway.puts i j (puts_of net.sources i 0 out) a ∙ z)
          other a (inr p) =
              inr
              (putting-kept facts step s.tag net kids start u.children j ms made' now now' held fired.held u.consistent.running fired.running s.halfway h' (get-set-other ms i j (get_or ms i 0 + 1) (λ z. nat-apart i j a z)) []
              (sym (at-set-other s.halfway.puts i j (puts_of net.sources i 0 out) a)) p)

          by : (i ≡ j) ⊎ (nat_eq i j ≡ false) → (at h'.puts j ≡ []) ⊎ IsPutting facts step s.tag net kids fired.running.all made' h' j
          by (inr a) = other a (u.putting j)
          by (inl a) =
              subst (λ k. (at h'.puts k ≡ []) ⊎ IsPutting facts step s.tag net kids fired.running.all made' h' k) a
              (inr
              (putting-fired facts step s.tag net kids start u.children i (get_or ms i 0) ms made' now now' now' held left fired.held u.consistent.running fired.running l f fires m.there (get-or-is ms i made-in)
              (get-set ms i (get_or ms i 0 + 1) made-in ∙ ap (λ v. Option.Some v) (one-more (get_or ms i 0))) h' (at-set s.halfway.puts i (puts_of net.sources i 0 out) process-in)))

      pub calls-go-on : Underway facts step before kids inputs s' made' now' logs_after
      calls-go-on = record {
        lawful = u.lawful;
        network = u.network;
        sized = record {
          capacity = u.sized.capacity;
          gathered = with-length ns i (emptied got) s.halfway.gathered m.there long-gathered none-long ∙ u.sized.gathered;
          queued = u.sized.queued;
          puts = length-set s.halfway.puts i (puts_of net.sources i 0 out) ∙ u.sized.puts;
          needs = length-set s.needs i (facts.need c) ∙ u.sized.needs;
        };
        needs = ap (λ v. set v i (facts.need c)) u.needs ∙ sym (map-set (λ z. facts.need z) now i c);
        counts = counts-then;
        children = u.children;
        consistent = fired;
        logs = logs-are;
        gathers = gathers-then;
        feeds = feeds-then;
        putting = putting-then;
        short = u.short;
        capped = u.capped;
      }

  pub calls-leave-off : (k : ℕ) → total ms ≤ k → LogBelow (log_below ls) (log_in (firing_from facts step before kids s.tag inputs k))
  calls-leave-off k o = subst (λ r. LogBelow (log_below ls) (log_in r)) (firing-is k) (run-is-prefix facts step s.tag net (pn_limits ns) kids start ms now held ls run always all_leave k o)
