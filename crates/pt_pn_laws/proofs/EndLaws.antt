-- Where no process goes further: the firing is done, or the network is in a jam.
use Rattle.std.proofs.Common.{◌≡◌, ℕ, zero, suc, ◌+◌, ◌<◌, ◌≤◌, List, [], ◌∷◌, ◌++◌, Bool, true, false, ◌&&◌, ◌||◌, not, nat_eq, nat_lt, length, map, take, drop, get_or, Some, None, if◌then◌else◌, refl, sym, ap, ap₂, subst, ◌∙◌, arith, append-nil, length-append}
use Rattle.std.proofs.lemmas.List.{length-take-le}
use Rattle.std.proofs.lemmas.Bool.{ltb-true, ltb-false}
use Rattle.pt_meaning.specs.Streams.{Streams, at, get, joined}
use Rattle.pt_meaning.specs.Log.{Log, log_below}
use Rattle.pt_meaning.specs.Machine.{Need, Over, Counts, Any, Outcome, Done, Stepping, Facts}
use Rattle.pt_meaning.specs.Net.{Net, Inside}
use Rattle.pt_meaning.specs.Kahn.{firsts, behind, lengths}
use Rattle.pt_meaning.specs.Pn.{pn_limits, always, all_leave}
use Rattle.pt_meaning.specs.Process.{Put, emptied}
use Rattle.pt_meaning.specs.Running.{total, NoneCanFire}
use Rattle.pt_meaning.specs.Places.{Halfway, AllStop, StopsBy}
use Rattle.pt_meaning.specs.Jam as jam
use Rattle.pt_meaning.specs.Jam.{HoldsAtMost, IsBetween, WaitsFor, is_fed, is_next_put, is_gathering}
use Rattle.pt_laws.proofs.Indexed.{streams-same}
use Rattle.pt_laws.proofs.Order.{at-joined}
use Rattle.pt_laws.proofs.LogLaws.{ends-with}
use Rattle.pt_laws.proofs.CompositeLaws.{firsts-all, behind-all, first-part, second-part}
use Rattle.pt_laws.proofs.PlaceEnds.{none-can-fire}
use Rattle.pt_pn_laws.specs.State.{PnState, IsOver, IsFull, IsStopped, AllStopped, offset_of, net_of, got_of, need_at, capacity_of, greatest_of, has_room, lesser, least_from, start_of, held_of, own_of, closed, blocked_of}
use Rattle.pt_pn_laws.specs.Lawful.{IsFor}
use Rattle.pt_pn_laws.specs.Chain.{AllFeed, Underway, firing_from}
use Rattle.pt_pn_laws.proofs.ListLaws.{nat-same, there-if, at-take, at-append-first, length-drop-plus, length-joined, joined-part, joined-before, length-joined-part, length-emptied}
use Rattle.pt_pn_laws.proofs.BeginLaws.{nothing-due}
use Rattle.pt_pn_laws.proofs.FireLaws.{run, firing-is}

-- what holds of each process, from one on
nothing-more : (k : ℕ) → k + 0 ≡ k
nothing-more k = omega arith

next-number : (k j : ℕ) → suc k + j ≡ k + suc j
next-number k j = omega arith

next-offset : (o n t : ℕ) → (o + n) + t ≡ o + (n + t)
next-offset o n t = omega arith

module _ {T S : Type 0} (facts : Facts T S) (h : Halfway T) (capacity : ℕ → ℕ) where
  abbrev StopsAt : (i o : ℕ) → List ℕ → List S → ℕ → Type 0
  StopsAt i o ns ss k = StopsBy capacity h (o + offset_of ns k) (take (get_or ns k 0) (drop (o + offset_of ns k) h.gathered)) (at h.puts (i + k)) (get_or (map (λ s. facts.need s) ss) k Over)

  pub all-stop : (i o : ℕ) (ns : List ℕ) (ss : List S) → ((k : ℕ) → k < length ns → k < length ss → StopsAt i o ns ss k) → AllStop facts capacity h i o ns ss
  all-stop i o [] ss p = tt
  all-stop i o (n ∷ ns) [] p = tt
  all-stop i o (n ∷ ns) (s ∷ ss) p = (
    subst (λ j. StopsBy capacity h o (take n (drop o h.gathered)) (at h.puts j) (facts.need s)) (nothing-more i)
        (subst (λ z. StopsBy capacity h z (take n (drop z h.gathered)) (at h.puts (i + 0)) (facts.need s)) (nothing-more o) (p 0 (omega arith) (omega arith))),
    all-stop (suc i) (o + n) ns ss
        (λ k l m.
        subst (λ j. StopsBy capacity h ((o + n) + offset_of ns k) (take (get_or ns k 0) (drop ((o + n) + offset_of ns k) h.gathered)) (at h.puts j) (get_or (map (λ s. facts.need s) ss) k Over)) (sym (next-number i k))
        (subst (λ z. StopsBy capacity h z (take (get_or ns k 0) (drop z h.gathered)) (at h.puts (i + suc k)) (get_or (map (λ s. facts.need s) ss) k Over)) (sym (next-offset o n (offset_of ns k))) (p (suc k) (omega (arith, l)) (omega (arith, m))))),
  )

  abbrev GathersAt : (i o : ℕ) → List ℕ → List S → ℕ → Type 0
  GathersAt i o ns ss k = is_gathering (at h.puts (i + k)) (get_or (map (λ s. facts.need s) ss) k Over) (take (get_or ns k 0) (drop (o + offset_of ns k) h.gathered)) ≡ true

  pub all-gather : (i o : ℕ) (ns : List ℕ) (ss : List S) → ((k : ℕ) → k < length ns → k < length ss → GathersAt i o ns ss k) → jam.AllGather facts h i o ns ss
  all-gather i o [] ss p = tt
  all-gather i o (n ∷ ns) [] p = tt
  all-gather i o (n ∷ ns) (s ∷ ss) p = (
    subst (λ j. is_gathering (at h.puts j) (facts.need s) (take n (drop o h.gathered)) ≡ true) (nothing-more i)
        (subst (λ z. is_gathering (at h.puts (i + 0)) (facts.need s) (take n (drop z h.gathered)) ≡ true) (nothing-more o) (p 0 (omega arith) (omega arith))),
    all-gather (suc i) (o + n) ns ss
        (λ k l m.
        subst (λ j. is_gathering (at h.puts j) (get_or (map (λ s. facts.need s) ss) k Over) (take (get_or ns k 0) (drop ((o + n) + offset_of ns k) h.gathered)) ≡ true) (sym (next-number i k))
        (subst (λ z. is_gathering (at h.puts (i + suc k)) (get_or (map (λ s. facts.need s) ss) k Over) (take (get_or ns k 0) (drop z h.gathered)) ≡ true) (sym (next-offset o n (offset_of ns k))) (p (suc k) (omega (arith, l)) (omega (arith, m))))),
  )

-- a put on a channel without room
full-channel : (n c l k : ℕ) → not (nat_lt c n && not (nat_lt l k)) ≡ false → (c < n) × (k ≤ l)
full-channel n c l k e = by (nat_lt c n) (nat_lt l k) refl refl e
  where
    by : (a b : Bool) → nat_lt c n ≡ a → nat_lt l k ≡ b → not (a && not b) ≡ false → (c < n) × (k ≤ l)
    by true true x y e = absurd (cc)
    by true false x y e = (ltb-true c n x, ltb-false l k y)
    by false b x y e = absurd (cc)

-- it is one that some process waits for
next-put : {T : Type 0} (puts : List (List (Put T))) (i : ℕ) (u : Put T) (us : List (Put T)) → at puts i ≡ u ∷ us → is_next_put u.channel puts ≡ true
next-put [] i u us e = absurd (cc)
next-put ([] ∷ puts) zero u us e = absurd (cc)
next-put {T} ((v ∷ vs) ∷ puts) zero u us e =
    let z : v ≡ u = cc in
    ap (λ (w : Put T). nat_eq w.channel u.channel || is_next_put u.channel puts) z ∙ ap (λ b. b || is_next_put u.channel puts) (nat-same u.channel)
next-put ([] ∷ puts) (suc i) u us e = next-put puts i u us e
next-put ((v ∷ vs) ∷ puts) (suc i) u us e = either (nat_eq v.channel u.channel) (is_next_put u.channel puts) (next-put puts i u us e)
  where
    either : (a b : Bool) → b ≡ true → (a || b) ≡ true
    either true b e = refl
    either false b e = e

module _ {T : Type 0} (s : PnState T) where
  -- where none may grow, each is as long as it may be
  none-grows : (c : ℕ) (ks : List ℕ) → least_from s c ks ≡ None → (j : ℕ) → j < length ks → is_next_put (c + j) s.halfway.puts ≡ true → greatest_of s (c + j) ≤ get_or ks j 0
  none-grows c [] e j l w = absurd (omega (arith, l))
  none-grows c (k ∷ ks) e j l w = by (λ h j l w. none-grows (suc c) ks h j l w) (is_next_put c s.halfway.puts) refl (nat_lt k (greatest_of s c)) refl e j l w
    where
      by : (least_from s (suc c) ks ≡ None → (j : ℕ) → j < length ks → is_next_put (suc c + j) s.halfway.puts ≡ true → greatest_of s (suc c + j) ≤ get_or ks j 0) → (a : Bool) → is_next_put c s.halfway.puts ≡ a → (b : Bool) → nat_lt k (greatest_of s c) ≡ b →
          (if a && b then Some (lesser c k (least_from s (suc c) ks)) else least_from s (suc c) ks) ≡ None → (j : ℕ) → j < suc (length ks) → is_next_put (c + j) s.halfway.puts ≡ true → greatest_of s (c + j) ≤ get_or (k ∷ ks) j 0
      by ih true x true y e j l w = absurd (cc)
      by ih true x false y e zero l w = subst (λ v. greatest_of s v ≤ k) (sym (nothing-more c)) (ltb-false k (greatest_of s c) y)
      by ih false x b y e zero l w = let z = sym x ∙ ap (λ v. is_next_put v s.halfway.puts) (sym (nothing-more c)) ∙ w in absurd (cc)
      by ih true x false y e (suc j) l w = subst (λ v. greatest_of s v ≤ get_or ks j 0) (next-number c j) (ih e j (omega (arith, l)) (ap (λ v. is_next_put v s.halfway.puts) (next-number c j) ∙ w))
      by ih false x b y e (suc j) l w = subst (λ v. greatest_of s v ≤ get_or ks j 0) (next-number c j) (ih e j (omega (arith, l)) (ap (λ v. is_next_put v s.halfway.puts) (next-number c j) ∙ w))

module _ {T S : Type 0} (facts : Facts T S) (step : Stepping T S) (before : PnState T) (kids : List S) (inputs : Streams T) (s : PnState T) (ms : List ℕ) (now : List S) (ls : List (Log T)) (u : Underway facts step before kids inputs s ms now ls) where
  abbrev net : Net
  net = net_of s

  abbrev ns : List ℕ
  ns = net.places

  abbrev start : Streams T
  start = start_of before inputs

  zero-more : (k : ℕ) → 0 + k ≡ k
  zero-more k = omega arith

  -- what keeps each process from going further
  stops : (capacity : ℕ → ℕ) → ((i : ℕ) (v : Put T) (vs : List (Put T)) → i < length ns → at s.halfway.puts i ≡ v ∷ vs → has_room s v.channel ≡ false → length (at s.halfway.queued v.channel) ≡ capacity v.channel) → AllStopped s → AllStop facts capacity s.halfway 0 0 ns now
  stops capacity full stopped = all-stop facts s.halfway capacity 0 0 ns now at-each
    where
      one : (k : ℕ) → k < length ns → (us : List (Put T)) → at s.halfway.puts k ≡ us → (need : Need) → IsStopped s k us need → StopsBy capacity s.halfway (offset_of ns k) (got_of s k) us need
      one k l (v ∷ vs) e need p = full k v vs l e p
      one k l [] e Over p = tt
      one k l [] e (Counts ms) p = p
      one k l [] e Any p = p

      at-each : (k : ℕ) → k < length ns → k < length now →
          StopsBy capacity s.halfway (0 + offset_of ns k) (take (get_or ns k 0) (drop (0 + offset_of ns k) s.halfway.gathered)) (at s.halfway.puts (0 + k)) (get_or (map (λ z. facts.need z) now) k Over)
      at-each k l m =
          subst (λ j. StopsBy capacity s.halfway (0 + offset_of ns k) (take (get_or ns k 0) (drop (0 + offset_of ns k) s.halfway.gathered)) (at s.halfway.puts j) (get_or (map (λ z. facts.need z) now) k Over)) (sym (zero-more k))
          (subst (λ o. StopsBy capacity s.halfway o (take (get_or ns k 0) (drop o s.halfway.gathered)) (at s.halfway.puts k) (get_or (map (λ z. facts.need z) now) k Over)) (sym (zero-more (offset_of ns k)))
          (subst (λ v. StopsBy capacity s.halfway (offset_of ns k) (got_of s k) (at s.halfway.puts k) (get_or v k Over)) u.needs (one k l (at s.halfway.puts k) refl (need_at s k) (stopped k l))))

  -- the firing is done
  module _ (o : IsOver s) where
    abbrev n : ℕ
    n = total ns

    abbrev G : Streams T
    G = s.halfway.gathered

    abbrev Q : Streams T
    Q = s.halfway.queued

    fit : length G ≤ length Q
    fit = let g = u.sized.gathered in let q = u.sized.queued in let l = u.lawful.channels in omega (arith, g, q, l)

    -- nothing is to be put, so that the channels hold what is gathered and what is in the queue
    held-is : u.consistent.held ≡ joined G Q
    held-is =
        streams-same u.consistent.held (joined G Q) (u.consistent.wide ∙ sym u.sized.queued ∙ sym (length-joined G Q fit))
        (λ c l. u.consistent.split c ∙ ap (λ v. at G c ++ (at Q c ++ v)) (nothing-due s.halfway.puts o.none (get net.sources c) c) ∙ ap (λ v. at G c ++ v) (append-nil (at Q c)) ∙ sym (at-joined G Q c))

    held-parts : u.consistent.held ≡ joined G (take n Q) ++ drop n Q
    held-parts = held-is ∙ subst (λ k. joined G Q ≡ joined G (take k Q) ++ drop k Q) u.sized.gathered (joined-part G Q fit)

    first-long : length (joined G (take n Q)) ≡ n
    first-long = subst (λ k. length (joined G (take k Q)) ≡ k) u.sized.gathered (length-joined-part G Q fit)

    stays : held_of (closed s) ≡ joined G (take n Q) ++ emptied (drop n Q)
    stays = subst (λ k. joined G (take k Q ++ emptied (drop n Q)) ≡ joined G (take k Q) ++ emptied (drop n Q)) u.sized.gathered (joined-before G Q (emptied (drop n Q)) fit)

    none-fires : NoneCanFire facts ns (pn_limits ns) ms now u.consistent.held
    none-fires =
        none-can-fire facts net s.halfway u.consistent.held u.consistent.split o.none (capacity_of s) 0 0 ns ms now
        (stops (capacity_of s) (λ i v vs l e r. let z = sym (o.none i) ∙ e in absurd (cc)) o.stopped)

    pub calls-end : (k : ℕ) → total ms < k → firing_from facts step before kids s.tag inputs k ≡ Done (record { held = held_of (closed s); kids = now }) (own_of s) (log_below ls)
    calls-end k w =
        let done = ends-with facts step s.tag net (pn_limits ns) kids start ms now u.consistent.held ls (run facts step before kids inputs s ms now ls u) none-fires always all_leave (λ fs made. refl) k w in
        let left : done.0 ≡ joined G (take n Q) = sym (first-part n done.0 done.1 u.consistent.held done.2 done.3) ∙ first-part n (joined G (take n Q)) (drop n Q) u.consistent.held held-parts first-long in
        let own : done.1 ≡ drop n Q = sym (second-part n done.0 done.1 u.consistent.held done.2 done.3) ∙ second-part n (joined G (take n Q)) (drop n Q) u.consistent.held held-parts first-long in
        sym (firing-is facts step before kids inputs s ms now ls u k) ∙ done.4 ∙
        ap₂ (λ (a b : Streams T). let r : Outcome T (Inside (Streams T) S) = Done (record { held = a ++ behind (lengths b) b; kids = now }) (firsts (lengths b) b) (log_below ls) in r) left own ∙
        ap₂ (λ (a b : Streams T). let r : Outcome T (Inside (Streams T) S) = Done (record { held = a; kids = now }) b (log_below ls) in r) (ap (λ v. joined G (take n Q) ++ v) (behind-all (drop n Q)) ∙ sym stays) (firsts-all (drop n Q))

    -- and the core fits again
    queued-long : length (closed s).halfway.queued ≡ length Q
    queued-long =
        let l = u.lawful.channels in
        let q = u.sized.queued in
        let t = length-take-le n Q (omega (arith, l, q)) in
        let d = length-drop-plus n Q (omega (arith, l, q)) in
        let e = length-emptied (drop n Q) in
        let a = length-append (take n Q) (emptied (drop n Q)) in
        omega (arith, a, t, e, d)

    pub calls-rest : IsFor facts (closed s) now
    calls-rest = record {
      lawful = u.lawful;
      sized = record { capacity = u.sized.capacity; gathered = u.sized.gathered; queued = queued-long ∙ u.sized.queued; puts = u.sized.puts; needs = u.sized.needs };
      needs = u.needs;
      counts = u.counts;
      none = o.none;
      gathers = u.gathers;
      short = λ c b.
          let l = u.lawful.channels in
          let q = u.sized.queued in
          let t = length-take-le n Q (omega (arith, l, q)) in
          let w = b.1 in
          subst (λ xs. length xs ≤ capacity_of s c) (sym (at-append-first (take n Q) (emptied (drop n Q)) c (omega (arith, t, w)) ∙ at-take n Q c w)) (u.short c b);
      capped = u.capped;
    }

  -- or the network is in a jam
  module _ (f : IsFull s) where
    waits-below : (i : ℕ) (v : Put T) (vs : List (Put T)) → at s.halfway.puts i ≡ v ∷ vs → i < length ns
    waits-below i v vs e = let l = there-if s.halfway.puts i (subst (λ us. 0 < length us) (sym e) (omega arith)) in let p = u.sized.puts in omega (arith, l, p)

    no-room : (i : ℕ) (v : Put T) (vs : List (Put T)) → at s.halfway.puts i ≡ v ∷ vs → has_room s v.channel ≡ false
    no-room i v vs e = subst (λ us. IsStopped s i us (need_at s i)) e (f.stopped i (waits-below i v vs e))

    between : (i : ℕ) (v : Put T) (vs : List (Put T)) → at s.halfway.puts i ≡ v ∷ vs → IsBetween net v.channel
    between i v vs e =
        let fed = subst (λ us. AllFeed net i us) e (u.feeds i) in
        let full = full-channel (total ns) v.channel (length (at s.halfway.queued v.channel)) (capacity_of s v.channel) (no-room i v vs e) in
        (ap (λ o. is_fed o) fed.0.1, full.0)

    at-greatest : (i : ℕ) (v : Put T) (vs : List (Put T)) → i < length ns → at s.halfway.puts i ≡ v ∷ vs → has_room s v.channel ≡ false → length (at s.halfway.queued v.channel) ≡ greatest_of s v.channel
    at-greatest i v vs l e r =
        let c : ℕ = v.channel in
        let b = between i v vs e in
        let full = (full-channel (total ns) c (length (at s.halfway.queued c)) (capacity_of s c) r).1 in
        let short = u.short c b in
        let w = b.1 in
        let long = u.lawful.channels in
        let size = u.sized.capacity in
        let capped = (u.capped c (omega (arith, w, long))).1 in
        let most : greatest_of s c ≤ capacity_of s c =
        subst (λ d. greatest_of s d ≤ capacity_of s c) (zero-more c) (none-grows s 0 s.capacity f.none c (omega (arith, w, long, size)) (ap (λ d. is_next_put d s.halfway.puts) (zero-more c) ∙ next-put s.halfway.puts i v vs e))
        in
        omega (arith, full, short, capped, most)

    fits : HoldsAtMost net (greatest_of s) s.halfway
    fits c b = let a = u.short c b in let w = b.1 in let l = u.lawful.channels in let d = (u.capped c (omega (arith, w, l))).1 in omega (arith, a, d)

    gathers : jam.AllGather facts s.halfway 0 0 ns now
    gathers = all-gather facts s.halfway (capacity_of s) 0 0 ns now at-each
      where
        at-each : (k : ℕ) → k < length ns → k < length now → is_gathering (at s.halfway.puts (0 + k)) (get_or (map (λ z. facts.need z) now) k Over) (take (get_or ns k 0) (drop (0 + offset_of ns k) s.halfway.gathered)) ≡ true
        at-each k l m =
            ap₂ (λ j o. is_gathering (at s.halfway.puts j) (get_or (map (λ z. facts.need z) now) k Over) (take (get_or ns k 0) (drop o s.halfway.gathered))) (zero-more k) (zero-more (offset_of ns k)) ∙
            ap (λ v. is_gathering (at s.halfway.puts k) (get_or v k Over) (got_of s k)) (sym u.needs) ∙ u.gathers k l

    pub calls-jam : (full : jam.IsFull facts step s.tag net kids start (greatest_of s) (blocked_of s)) × (full.made ≡ ms) × (full.now ≡ now)
    calls-jam = (
      record {
        made = ms;
        now = now;
        halfway = s.halfway;
        jam = record {
          consistent = u.consistent;
          gathers = gathers;
          puts = u.putting;
          fits = fits;
          stop = stops (greatest_of s) at-greatest f.stopped;
          waits = (f.process, f.channel, f.waits);
          between = λ i c w. subst (λ d. IsBetween net d) w.3 (between i w.0 w.1 w.2);
        };
        lengths = refl;
      },
      refl,
      refl,
    )
