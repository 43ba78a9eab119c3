-- Which channel grows, by the ranks that are noted.
use Rattle.std.proofs.Common.{◌≡◌, inl, inr, ℕ, zero, suc, ◌<◌, ◌≤◌, List, [], ◌∷◌, true, false, length, get_or, Option, Some, None, IfSome, IfNone, refl, sym, ap, subst, ◌∙◌, arith}
use Rattle.pt_meaning.specs.Tag.{Tag, least}
use Rattle.pt_meaning.specs.Streams.{Streams, at}
use Rattle.pt_meaning.specs.Process.{Put}
use Rattle.pt_value.specs.declared.token.Token.{Token}
use Rattle.pt_pn_laws.specs.State.{Network, least_full, capacity_of, greatest_of}
use Rattle.pt_process.specs.Process.{Standing}
use Rattle.pt_pn_work.specs.Core.{State, PutsOn, nobody}
use Rattle.pt_pn_work.specs.Least.{IsNoWorse}
use Rattle.pt_pn_work.proofs.CoreLaws.{puts-is, placed-long}
use Rattle.pt_pn.specs.declared.pn.Core.TheInside.{Inside}
use Rattle.pt_pn.specs.Waiting.{AwaitsGrowth}
use Rattle.pt_pn.specs.Noted.{Noted, AwaitsRoom, Waits, AreSettled, IsRanked, rank_at, rank_of, ranked}
use Rattle.pt_pn.specs.Core.{IsSound, seen_core}
use Rattle.pt_pn.proofs.RankLaws.{rank-stays, none-ranked, IsNoLater, least-first}
use Rattle.pt_pn.proofs.SettledLaws.{room-on, token-on}
use Rattle.pt_pn.proofs.BestLaws.{channel_of, best-of-all}
use Rattle.pt_pn.proofs.StepLaws.{puts-long, capacity-long, on-net}

none-first : (u : Put Token) (us : List (Put Token)) → [] ≡ u ∷ us → ⊥
none-first u us e = cc

no-rank : (x : Tag) → Option.None ≡ Option.Some x → ⊥
no-rank x e = cc

-- a process with a put to make is one of them
put-within : (puts : List (List (Put Token))) (i : ℕ) (u : Put Token) (us : List (Put Token)) → at puts i ≡ u ∷ us → i < length puts
put-within [] i u us e = absurd (none-first u us e)
put-within (x ∷ puts) zero u us e = omega arith
put-within (x ∷ puts) (suc i) u us e = let l = put-within puts i u us e in omega (arith, l)

-- whether a process waits for the channel to grow, by the channel of its next put
module _ (s : State) (i next channel : ℕ) (p : PutsOn s i next) where
  -- it puts next on another
  pub other-put : (next ≡ channel → ⊥) → (k : ℕ) → AwaitsGrowth s i channel k → ⊥
  other-put o k g = o (sym p.on ∙ ap channel_of (sym p.next ∙ g.puts.next) ∙ g.puts.on)

  -- the channel may not grow, or it may
  pub no-growth : (capacity greatest : ℕ) → next ≡ channel → capacity ≡ capacity_of s next → greatest ≡ greatest_of s next → greatest ≤ capacity → (k : ℕ) → AwaitsGrowth s i channel k → ⊥
  no-growth capacity greatest e a b l k g =
      let x = ap (λ d. capacity_of s d) e in
      let y = ap (λ d. greatest_of s d) e in
      let z = g.capacity in
      let m = g.below in
      omega (arith, x, y, z, m, a, b, l)

  pub growth : (capacity greatest : ℕ) → next ≡ channel → capacity ≡ capacity_of s next → greatest ≡ greatest_of s next → capacity < greatest → AwaitsGrowth s i channel capacity
  growth capacity greatest e a b l = record {
    puts = subst (λ d. PutsOn s i d) e p;
    capacity = a ∙ ap (λ d. capacity_of s d) e;
    below = subst (λ d. capacity < greatest_of s d) e (omega (arith, l, b));
  }

-- it has no put to make
pub none-grows : (s : State) (i channel : ℕ) → at s.halfway.puts i ≡ [] → (k : ℕ) → AwaitsGrowth s i channel k → ⊥
none-grows s i channel e k g = none-first g.puts.first g.puts.rest (sym e ∙ g.puts.next)

module _ (c : Inside) (w : IsSound c) (s : State) (v : seen_core c ≡ s) where
  abbrev n : Network Token
  n = c.network

  abbrev ps : List Standing
  ps = c.processes.items

  abbrev K : List ℕ
  K = c.capacity.items

  abbrev L : Streams Token
  L = c.queues.lists

  abbrev AllNoted : Type 0
  AllNoted = (i : ℕ) → i < length c.notes.settled → get_or c.notes.settled i false ≡ true

  -- the channel on which a process waits to put is ranked
  waits-ranked : (j d : ℕ) → PutsOn (seen_core c) j d → Waits n K L c.notes j (get_or ps j nobody) → IsRanked n K c.notes d
  waits-ranked j d p (inl a) = subst (λ e. IsRanked n K c.notes e) (ap channel_of (sym a.next ∙ sym (puts-is ps j) ∙ p.next) ∙ p.on) a.ranked
  waits-ranked j d p (inr (inl a)) = absurd (none-first p.first p.rest (sym a.none ∙ sym (puts-is ps j) ∙ p.next))
  waits-ranked j d p (inr (inr a)) = absurd (none-first p.first p.rest (sym a.0 ∙ sym (puts-is ps j) ∙ p.next))

  all-ranked : AllNoted → (j d : ℕ) → j < length s.halfway.puts → PutsOn s j d → capacity_of s d < greatest_of s d → get_or c.notes.ranks d None ≡ Some (rank_at (capacity_of s d) d)
  all-ranked e j d l p b =
      let a = puts-long c w s v in
      let k = placed-long n.plan.net.places ps w.kept.placed in
      let m = w.settled.counted in
      let r = waits-ranked j d (subst (λ (x : State). PutsOn x j d) (sym v) p) (w.settled.settled j (e j (omega (arith, l, a, k, m)))) in
      subst (λ (x : State). capacity_of x d < greatest_of x d → get_or c.notes.ranks d None ≡ Option.Some (rank_at (capacity_of x d) d)) v r b

  -- none grows where there is no rank
  pub least-none : AllNoted → least c.notes.ranks ≡ None → Option.None ≡ least_full s
  least-none e z = best-of-all s None (length s.halfway.puts) (length s.network.plan.net.sources) (omega arith) (capacity-long c w s v) tt (λ j d l p b. no-rank (rank_at (capacity_of s d) d) (sym (none-ranked c.notes.ranks d z) ∙ all-ranked e j d l p b))

  -- that of least rank grows, where a process waits to put on it and it may grow
  pub least-some : AllNoted → (t : Tag) → least c.notes.ranks ≡ Some t → (i capacity : ℕ) → AwaitsGrowth s i t.step capacity → capacity ≡ t.time → Option.Some (t.step, capacity) ≡ least_full s
  least-some e t z i capacity g k = best-of-all s (Some (t.step, capacity)) (length s.halfway.puts) (length s.network.plan.net.sources) (omega arith) (capacity-long c w s v) (on-net c w s v i t.step g.puts) (record {
    process = i;
    there = put-within s.halfway.puts i g.puts.first g.puts.rest g.puts.next;
    puts = g.puts;
    capacity = g.capacity;
    below = g.below;
    none = λ j d l p b. no-worse d (capacity_of s d) (least-first c.notes.ranks d t (rank_at (capacity_of s d) d) z (all-ranked e j d l p b));
  })
    where
      no-worse : (d m : ℕ) → IsNoLater t (rank_at m d) → IsNoWorse t.step capacity d m
      no-worse d m (inl l) = inl (omega (arith, l, k))
      no-worse d m (inr (q, l)) = inr (k ∙ q, l)

  -- no process has such a number
  pub nobody-grows : (i channel : ℕ) → length ps ≤ i → (k : ℕ) → AwaitsGrowth s i channel k → ⊥
  nobody-grows i channel l k g = let a = puts-long c w s v in let b = put-within s.halfway.puts i g.puts.first g.puts.rest g.puts.next in omega (arith, l, a, b)

  pub least-there : (i channel capacity : ℕ) → AwaitsGrowth s i channel capacity → channel < length s.network.plan.net.sources
  least-there i channel capacity g = on-net c w s v i channel g.puts

  -- a channel has the rank that it has now, if any
  pub ranked-now : (i channel : ℕ) → i ≡ get_or c.notes.writers channel 0 → (o : Option ℕ) → IfSome o (λ capacity. AwaitsGrowth s i channel capacity) → IfNone o ((capacity : ℕ) → AwaitsGrowth s i channel capacity → ⊥) → (m : Noted) → m ≡ ranked o channel c.notes → AreSettled n ps K L m
  ranked-now i channel x o some none m e = subst (λ y. AreSettled n ps K L y) (sym e) (record {
    settled = λ j y. by j (w.settled.settled j y);
    resting = w.settled.resting;
    counted = w.settled.counted;
    rest_counted = w.settled.rest_counted;
  })
    where
      -- its writer waits for it
      awaits : (j : ℕ) (a : AwaitsRoom n K L c.notes j (get_or ps j nobody)) → channel ≡ a.first.channel → get_or K channel 0 < greatest_of (seen_core c) channel → AwaitsGrowth s i channel (get_or K channel 0)
      awaits j a q b =
          let same : j ≡ i = sym (x ∙ ap (λ d. get_or c.notes.writers d 0) q ∙ a.writer) in
          subst (λ (y : State). AwaitsGrowth y i channel (get_or K channel 0)) v
          (record { puts = record { first = a.first; rest = a.rest; next = puts-is ps i ∙ subst (λ k. (get_or ps k nobody).puts ≡ a.first ∷ a.rest) same a.next; on = sym q }; capacity = refl; below = b })

      right : (p : Option ℕ) → IfSome p (λ capacity. AwaitsGrowth s i channel capacity) → IfNone p ((capacity : ℕ) → AwaitsGrowth s i channel capacity → ⊥) → AwaitsGrowth s i channel (get_or K channel 0) → rank_of p channel ≡ Option.Some (rank_at (get_or K channel 0) channel)
      right None some none g = absurd (none (get_or K channel 0) g)
      right (Some k) some none g = ap (λ y. Option.Some (rank_at y channel)) (some.capacity ∙ sym g.capacity)

      still : (j : ℕ) (a : AwaitsRoom n K L c.notes j (get_or ps j nobody)) → IsRanked n K (ranked o channel c.notes) a.first.channel
      still j a b = rank-stays c.notes.ranks (rank_of o channel) (Some (rank_at (get_or K a.first.channel 0) a.first.channel)) channel a.first.channel (a.ranked b)
          (λ q. right o some none (awaits j a q (subst (λ d. get_or K d 0 < greatest_of (seen_core c) d) (sym q) b)) ∙ ap (λ d. Option.Some (rank_at (get_or K d 0) d)) q)

      by : (j : ℕ) → Waits n K L c.notes j (get_or ps j nobody) → Waits n K L (ranked o channel c.notes) j (get_or ps j nobody)
      by j (inl a) = inl (room-on n K K L L c.notes (ranked o channel c.notes) j (get_or ps j nobody) refl a a.full a.marked (still j a))
      by j (inr (inl a)) = inr (inl (token-on n L L c.notes (ranked o channel c.notes) j (get_or ps j nobody) refl a a.empty a.marked))
      by j (inr (inr a)) = inr (inr a)
