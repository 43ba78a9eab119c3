-- What the fields of a tick keep, and what its calls make of them.
use Rattle.std.proofs.Common.{◌≡◌, inl, inr, ℕ, zero, suc, ◌+◌, ◌^◌, ◌<◌, ◌≤◌, List, [], ◌∷◌, Bool, true, false, length, get_or, set, take, drop, map, replicate, Option, Vec, Global, refl, sym, ap, ap₂, subst, ◌∙◌, arith}
use Rattle.std.specs.List.{All}
use Rattle.std.proofs.lemmas.List.{length-map, length-replicate}
use Rattle.pt_meaning.specs.Streams.{Streams}
use Rattle.pt_meaning.specs.Machine.{Partial, Unknown, partial_at}
use Rattle.pt_meaning.specs.Net as net
use Rattle.pt_meaning.specs.Valuation.{TickPlan, is_known, unknowns}
use Rattle.pt_meaning.specs.Running.{total}
use Rattle.pt_value.specs.declared.token.Token.{Token}
use Rattle.pt_sr.specs.declared.feeds.Feed.{Feed}
use Rattle.pt_sr.specs.declared.plan.CorePlan.{CorePlan}
use Rattle.pt_sr.specs.declared.tick.Tick.TheInside.{Inside}
use Rattle.pt_sr.specs.State.{TickState, MayFire, MayAnswer, HasNothing, HasTold, MayTell, inputs_of, unknown_in, all_of, known_of, after_children, at_first, unheard, unbegun, restarted_tick, begun_tick, fired_tick, asked_tick, heard_tick}
use Rattle.pt_sr.specs.Plan.{plan_of, IsSamePlan, IsNamed, IsLawful}
use Rattle.pt_core.specs.Source.{source_of}
use Rattle.pt_sr.specs.Feeds.{Target, target_of, targets, rows_in, no_feed, MovesOnce}
use Rattle.pt_sr.specs.Given.{learn_on}
use Rattle.pt_sr.specs.Tick.{begins, seen_in, IsSound, IsPassed, IsSettled}
use Rattle.pt_sr.proofs.Lists.{read-at}
use Rattle.pt_sr.proofs.KnownLaws.{after-long}
use Rattle.pt_sr.proofs.FeedLaws.{IsWithin, feeds-channels, as-target, as-long, no_target, child-learns, own-learns, is-target, has-source}
use Rattle.pt_sr.proofs.MarkLaws.{row-items}
use Rattle.pt_sr.proofs.OffsetLaws.{begins-long, begins-at, total-within, total-all}

-- two ticks with the same fields
pub same-tick : {T : Type 0} (p : TickPlan) (n : List Bool) (V W : List (Partial T)) (f g : List Bool) (h k : List ℕ) → V ≡ W → f ≡ g → h ≡ k →
    (let s : TickState T = record { plan = p; nonstrict = n; known = V; fired = f; heard = h } in s) ≡ record { plan = p; nonstrict = n; known = W; fired = g; heard = k }
same-tick {T} p n V W f g h k a b c =
    ap (λ x. let s : TickState T = record { plan = p; nonstrict = n; known = x; fired = f; heard = h } in s) a ∙
    ap (λ x. let s : TickState T = record { plan = p; nonstrict = n; known = W; fired = x; heard = h } in s) b ∙
    ap (λ x. let s : TickState T = record { plan = p; nonstrict = n; known = W; fired = g; heard = x } in s) c

module _ (t : Inside) (w : IsSound t) where
  abbrev sources : List net.Source
  sources = (plan_of t.plan).net.sources

  pub sources-long : length sources ≡ length t.plan.sources.items
  sources-long = length-map t.plan.sources.items source_of

  pub channels-are : length t.signals ≡ length sources
  channels-are = w.signals ∙ sym sources-long

  -- the places of a child
  module _ (i : ℕ) (l : i < length t.plan.places) where
    pub offset-there : i < length t.offsets.items
    offset-there = let e = ap (λ v. length v) w.offsets in let b = begins-long 0 t.plan.places in omega (arith, l, e, b)

    pub offset-is : get_or t.offsets.items i 0 ≡ total (take i t.plan.places)
    offset-is = let b = begins-at 0 t.plan.places i (omega (arith, l)) in ap (λ v. get_or v i 0) w.offsets ∙ b ∙ none (total (take i t.plan.places))
      where
        none : (n : ℕ) → 0 + n ≡ n
        none n = omega arith

    pub places-within : total (take i t.plan.places) + get_or t.plan.places i 0 ≤ length t.signals
    places-within = let a = total-within t.plan.places i l in let b = w.lawful.channels in let c = channels-are in omega (arith, a, b, c)

    -- read off the tables
    begins-here : (from : ℕ) → from ≡ get_or t.offsets.items i from → from ≡ total (take i t.plan.places)
    begins-here from e = read-at t.offsets.items i from 0 offset-there e ∙ offset-is

    pub span-within : (from n : ℕ) → from ≡ get_or t.offsets.items i from → n ≡ get_or t.plan.places i 0 → from + n ≤ length t.signals
    span-within from n e f = let a = begins-here from e in let b = places-within in omega (arith, a, b, f)

    pub span-is : (from n : ℕ) → from ≡ get_or t.offsets.items i from → n ≡ get_or t.plan.places i 0 → take n (drop from t.signals) ≡ inputs_of (seen_in t) i
    span-is from n e f = ap₂ (λ a b. take a (drop b t.signals)) f (begins-here from e)

    -- how a child stands
    module _ (flag : Bool) (e : flag ≡ get_or t.fired.items i flag) where
      flag-is : flag ≡ get_or t.fired.items i false
      flag-is = read-at t.fired.items i flag false (omega (arith, l, w.fired)) e

      pub has-fired : flag ≡ true → get_or (seen_in t).fired i false ≡ true
      has-fired f = sym flag-is ∙ f

      pub may-fire : flag ≡ false → (n : ℕ) → n ≡ unknown_in (inputs_of (seen_in t) i) → n ≡ 0 → MayFire (seen_in t) i
      may-fire f n g z = record { there = l; unfired = sym flag-is ∙ f; ready = sym g ∙ z }

      some-unknown : (n : ℕ) → n ≡ unknown_in (inputs_of (seen_in t) i) → (n ≡ 0 → ⊥) → 0 < unknown_in (inputs_of (seen_in t) i)
      some-unknown n g z = let a = above n z in omega (arith, a, g)
        where
          above : (n : ℕ) → (n ≡ 0 → ⊥) → 0 < n
          above zero z = absurd (z refl)
          above (suc n) z = omega arith

      pub strict-waits : flag ≡ false → (n : ℕ) → n ≡ unknown_in (inputs_of (seen_in t) i) → (n ≡ 0 → ⊥) → (b : Bool) → b ≡ get_or t.plan.nonstrict.items i b → b ≡ false → HasNothing (seen_in t) i
      strict-waits f n g z b h q = record { unfired = sym flag-is ∙ f; waits = some-unknown n g z; why = inl (sym (read-at t.plan.nonstrict.items i b false (omega (arith, l, w.lawful.kinds)) h) ∙ q) }

      pub heard-waits : flag ≡ false → (n : ℕ) → n ≡ unknown_in (inputs_of (seen_in t) i) → (n ≡ 0 → ⊥) → (m : ℕ) → m ≡ get_or t.heard.items i m → m ≤ n → HasNothing (seen_in t) i
      heard-waits f n g z m h q =
          let a = read-at t.heard.items i m 0 (omega (arith, l, w.heard)) h in
          record { unfired = sym flag-is ∙ f; waits = some-unknown n g z; why = inr (inl (omega (arith, a, g, q))) }

      pub told-waits : flag ≡ false → (n : ℕ) → n ≡ unknown_in (inputs_of (seen_in t) i) → (n ≡ 0 → ⊥) → HasTold (seen_in t) i → HasNothing (seen_in t) i
      told-waits f n g z q = record { unfired = sym flag-is ∙ f; waits = some-unknown n g z; why = inr (inr q) }

      pub may-answer : flag ≡ false → (n : ℕ) → n ≡ unknown_in (inputs_of (seen_in t) i) → (n ≡ 0 → ⊥) → (b : Bool) → b ≡ get_or t.plan.nonstrict.items i b → b ≡ true → (m : ℕ) → m ≡ get_or t.heard.items i m → n < m → MayTell (seen_in t) i → MayAnswer (seen_in t) i
      may-answer f n g z b h q m k v r =
          let a = read-at t.heard.items i m 0 (omega (arith, l, w.heard)) k in
          record {
            there = l;
            unfired = sym flag-is ∙ f;
            nonstrict = sym (read-at t.plan.nonstrict.items i b false (omega (arith, l, w.lawful.kinds)) h) ∙ q;
            waits = some-unknown n g z;
            news = omega (arith, a, g, v);
            quiet = r;
          }

  -- where the places end
  pub end-there : length t.plan.places < length t.offsets.items
  end-there = let e = ap (λ v. length v) w.offsets in let b = begins-long 0 t.plan.places in omega (arith, e, b)

  pub end-is : (from : ℕ) → from ≡ get_or t.offsets.items (length t.plan.places) from → from ≡ total t.plan.places
  end-is from e =
      let d = read-at t.offsets.items (length t.plan.places) from 0 end-there e in
      let b = begins-at 0 t.plan.places (length t.plan.places) (omega arith) in
      let a = total-all t.plan.places in
      let c = ap (λ v. get_or v (length t.plan.places) 0) w.offsets in
      omega (arith, d, a, b, c)

  pub end-within : (from : ℕ) → from ≡ get_or t.offsets.items (length t.plan.places) from → from ≤ length t.signals
  end-within from e = let a = end-is from e in let b = w.lawful.channels in let c = channels-are in omega (arith, a, b, c)

  -- the feeds of a row
  module _ (r : ℕ) (l : r < length t.plan.places + 1) (row : Vec Feed Global) (e : row ≡ get_or t.feeds.items r row) where
    pub row-there : r < length t.feeds.items
    row-there = omega (arith, l, w.fed.targets.counted)

    row-is : row.items ≡ get_or (rows_in t.feeds.items) r []
    row-is = row-items t.feeds.items r row row-there e

    pub row-targets : map target_of row.items ≡ targets (length t.plan.places) r 0 sources
    row-targets = ap (λ v. map target_of v) row-is ∙ w.fed.targets.each r l

    pub row-moves : MovesOnce row.items
    row-moves = subst (λ v. MovesOnce v) (sym row-is) (w.fed.moves r l)

    pub row-channels : (k : ℕ) → k < length row.items → (get_or row.items k no_feed).channel < length t.signals
    row-channels k h = feeds-channels (length t.plan.places) r row.items sources row-targets (length t.signals) (omega (arith, channels-are)) k h

    -- what the row of a child lets know
    pub child-knows : (given : ℕ → Option (List Token)) (W : List (Partial Token)) → r < length t.plan.places → W ≡ learn_on given (map target_of row.items) t.signals → W ≡ after_children r given sources t.signals
    child-knows given W h g = g ∙ ap (λ v. learn_on given v t.signals) row-targets ∙ child-learns given (length t.plan.places) r sources t.signals h (sym channels-are)

    child-long : (given : ℕ → Option (List Token)) (W : List (Partial Token)) → W ≡ after_children r given sources t.signals → length W ≡ length t.plan.sources.items
    child-long given W g = ap (λ v. length v) g ∙ after-long r given sources t.signals ∙ w.signals

    pub told-sound : (given : ℕ → Option (List Token)) (W : List (Partial Token)) → r < length t.plan.places → W ≡ learn_on given (map target_of row.items) t.signals → length W ≡ length t.plan.sources.items
    told-sound given W h g = child-long given W (child-knows given W h g)

    -- each channel that child r feeds is known, or some is not
    pub each-told : r < length t.plan.places → ((k : ℕ) → k < length row.items → is_known (partial_at t.signals (get_or row.items k no_feed).channel) ≡ true) → HasTold (seen_in t) r
    each-told h all c port e =
        let k = is-target (length t.plan.places) r 0 sources c port no_target e in
        let long = as-long (length t.plan.places) r row.items sources row-targets in
        let same = ap (λ (x : Target). x.channel) (as-target (length t.plan.places) r row.items sources row-targets k.0) in
        subst (λ n. is_known (partial_at t.signals n) ≡ true) (same ∙ k.2 ∙ none c) (all k.0 (omega (arith, k.1, long)))
      where
        none : (n : ℕ) → 0 + n ≡ n
        none n = omega arith

    pub one-quiet : r < length t.plan.places → (k : ℕ) → k < length row.items → is_known (partial_at t.signals (get_or row.items k no_feed).channel) ≡ false → MayTell (seen_in t) r
    one-quiet h k l f =
        let long = as-long (length t.plan.places) r row.items sources row-targets in
        let s = has-source (length t.plan.places) r 0 sources k no_target h (omega (arith, l, long)) in
        let same = ap (λ (x : Target). x.channel) (as-target (length t.plan.places) r row.items sources row-targets k) in
        (s.0, s.1, s.2, subst (λ n. is_known (partial_at t.signals n) ≡ false) (same ∙ s.3 ∙ none s.0) f)
      where
        none : (n : ℕ) → 0 + n ≡ n
        none n = omega arith

  -- the own inputs
  pub all-within : All (λ s. IsWithin (length t.plan.places) s) sources
  all-within k d l = one (get_or sources k d) (w.lawful.named k d l)
    where
      one : (s : net.Source) → IsNamed (plan_of t.plan) s → IsWithin (length t.plan.places) s
      one (net.Own port) h = tt
      one (net.Output child port) h = h

  pub own-knows : (inputs : Streams Token) (row : Vec Feed Global) (W : List (Partial Token)) → row ≡ get_or t.feeds.items (length t.plan.places) row → t.signals ≡ unknowns sources → W ≡ learn_on (all_of inputs) (map target_of row.items) t.signals → W ≡ map (λ c. at_first inputs c) sources
  own-knows inputs row W e n g =
      g ∙ ap₂ (λ v V. learn_on (all_of inputs) v V) (row-targets (length t.plan.places) (omega arith) row e) n ∙ own-learns inputs (length t.plan.places) sources all-within

  pub own-sound : (inputs : Streams Token) (W : List (Partial Token)) → W ≡ map (λ c. at_first inputs c) sources → length W ≡ length t.plan.sources.items
  own-sound inputs W g = ap (λ v. length v) g ∙ length-map sources (λ c. at_first inputs c) ∙ sources-long

-- nothing is known of so many channels
pub unknowns-are : {T : Type 0} (ss : List net.Source) (n : ℕ) → n ≡ length ss → replicate n Unknown ≡ unknowns {T = T} ss
unknowns-are [] zero e = refl
unknowns-are [] (suc n) e = absurd (omega (arith, e))
unknowns-are (s ∷ ss) zero e = absurd (omega (arith, e))
unknowns-are (s ∷ ss) (suc n) e = ap (λ V. Unknown ∷ V) (unknowns-are ss n (omega (arith, e)))

pub lowered-are : (ns : List ℕ) (n : ℕ) → n ≡ length ns → replicate n false ≡ map (λ n. false) ns
lowered-are [] zero e = refl
lowered-are [] (suc n) e = absurd (omega (arith, e))
lowered-are (m ∷ ns) zero e = absurd (omega (arith, e))
lowered-are (m ∷ ns) (suc n) e = ap (λ v. false ∷ v) (lowered-are ns n (omega (arith, e)))

-- a child that is there, as contracts see it
pub child-there : (t : Inside) (s : TickState Token) (i : ℕ) → seen_in t ≡ s → i < length s.plan.net.places → i < length t.plan.places
child-there t s i e l = subst (λ (v : TickState Token). i < length v.plan.net.places) (sym e) l

-- the state once child i gave something: what is known, and who has fired
module _ (t : Inside) (w : IsSound t) (i : ℕ) (l : i < length t.plan.places) (row : Vec Feed Global) (e : row ≡ get_or t.feeds.items i row) where
  pub given-moves : (F : List Feed) → F ≡ row.items → MovesOnce F
  given-moves F h = subst (λ v. MovesOnce v) (sym h) (row-moves t w i (omega (arith, l)) row e)

  pub given-channels : (F : List Feed) → F ≡ row.items → (k : ℕ) → k < length F → (get_or F k no_feed).channel < length t.signals
  given-channels F h = subst (λ v. (k : ℕ) → k < length v → (get_or v k no_feed).channel < length t.signals) (sym h) (row-channels t w i (omega (arith, l)) row e)

  pub given-known : (given : ℕ → Option (List Token)) (F : List Feed) (W : List (Partial Token)) → F ≡ row.items → W ≡ learn_on given (map target_of F) t.signals → W ≡ after_children i given (plan_of t.plan).net.sources t.signals
  given-known given F W h g = child-knows t w i (omega (arith, l)) row e given W l (g ∙ ap (λ v. learn_on given (map target_of v) t.signals) h)

  pub given-long : (given : ℕ → Option (List Token)) (F : List Feed) (W : List (Partial Token)) → F ≡ row.items → W ≡ learn_on given (map target_of F) t.signals → length W ≡ length t.plan.sources.items
  given-long given F W h g = ap (λ v. length v) (given-known given F W h g) ∙ after-long i given (plan_of t.plan).net.sources t.signals ∙ w.signals

  pub told-is : (out : Streams Token) (F : List Feed) (W : List (Partial Token)) → F ≡ row.items → W ≡ learn_on (all_of out) (map target_of F) t.signals → (s : TickState Token) → seen_in t ≡ s →
      (let v : TickState Token = record { plan = plan_of t.plan; nonstrict = t.plan.nonstrict.items; known = W; fired = set t.fired.items i true; heard = t.heard.items } in v) ≡ fired_tick i out s
  told-is out F W h g s v =
      same-tick (plan_of t.plan) t.plan.nonstrict.items W (after_children i (all_of out) (plan_of t.plan).net.sources t.signals) (set t.fired.items i true) (set t.fired.items i true) t.heard.items t.heard.items (given-known (all_of out) F W h g) refl refl ∙ ap (λ (x : TickState Token). fired_tick i out x) v

  pub heard-is : (early : List (Partial Token)) (F : List Feed) (W : List (Partial Token)) → F ≡ row.items → W ≡ learn_on (known_of early) (map target_of F) t.signals → (s : TickState Token) → seen_in t ≡ s →
      (let v : TickState Token = record { plan = plan_of t.plan; nonstrict = t.plan.nonstrict.items; known = W; fired = t.fired.items; heard = t.heard.items } in v) ≡ heard_tick i early s
  heard-is early F W h g s v =
      same-tick (plan_of t.plan) t.plan.nonstrict.items W (after_children i (known_of early) (plan_of t.plan).net.sources t.signals) t.fired.items t.fired.items t.heard.items t.heard.items (given-known (known_of early) F W h g) refl refl ∙ ap (λ (x : TickState Token). heard_tick i early x) v

-- the state at the beginning
module _ (t : Inside) (w : IsSound t) (s : TickState Token) (v : seen_in t ≡ s) (r : s ≡ restarted_tick s) (row : Vec Feed Global) (e : row ≡ get_or t.feeds.items (length t.plan.places) row) where
  pub own-channels : (F : List Feed) → F ≡ row.items → (k : ℕ) → k < length F → (get_or F k no_feed).channel < length t.signals
  own-channels F h = subst (λ x. (k : ℕ) → k < length x → (get_or x k no_feed).channel < length t.signals) (sym h) (row-channels t w (length t.plan.places) (omega arith) row e)

  fresh : seen_in t ≡ restarted_tick (seen_in t)
  fresh = v ∙ r ∙ ap (λ (x : TickState Token). restarted_tick x) (sym v)

  own-are : (inputs : Streams Token) (F : List Feed) (W : List (Partial Token)) → F ≡ row.items → W ≡ learn_on (all_of inputs) (map target_of F) t.signals → W ≡ map (λ c. at_first inputs c) (plan_of t.plan).net.sources
  own-are inputs F W h g = own-knows t w inputs row W e (ap (λ (x : TickState Token). x.known) fresh) (g ∙ ap (λ x. learn_on (all_of inputs) (map target_of x) t.signals) h)

  pub own-long : (inputs : Streams Token) (F : List Feed) (W : List (Partial Token)) → F ≡ row.items → W ≡ learn_on (all_of inputs) (map target_of F) t.signals → length W ≡ length t.plan.sources.items
  own-long inputs F W h g = own-sound t w inputs W (own-are inputs F W h g)

  pub begun-is : (inputs : Streams Token) (F : List Feed) (W : List (Partial Token)) → F ≡ row.items → W ≡ learn_on (all_of inputs) (map target_of F) t.signals →
      (let x : TickState Token = record { plan = plan_of t.plan; nonstrict = t.plan.nonstrict.items; known = W; fired = t.fired.items; heard = t.heard.items } in x) ≡ begun_tick inputs s
  begun-is inputs F W h g =
      same-tick (plan_of t.plan) t.plan.nonstrict.items W (map (λ c. at_first inputs c) (plan_of t.plan).net.sources) t.fired.items (map (λ n. false) t.plan.places) t.heard.items (unheard t.plan.places) (own-are inputs F W h g)
      (ap (λ (x : TickState Token). x.fired) fresh) (ap (λ (x : TickState Token). x.heard) fresh) ∙ ap (λ (x : TickState Token). begun_tick inputs x) v

-- the state where all is forgotten
pub forgotten-is : (t : Inside) → IsSound t → (V : List (Partial Token)) (f : List Bool) (h : List ℕ) → V ≡ replicate (length t.signals) Unknown → f ≡ replicate (length t.fired.items) false → h ≡ unheard t.plan.places → (s : TickState Token) → seen_in t ≡ s →
    (let x : TickState Token = record { plan = plan_of t.plan; nonstrict = t.plan.nonstrict.items; known = V; fired = f; heard = h } in x) ≡ restarted_tick s
forgotten-is t w V f h a b c s v =
    same-tick (plan_of t.plan) t.plan.nonstrict.items V (unknowns (plan_of t.plan).net.sources) f (map (λ n. false) t.plan.places) h (unheard t.plan.places) (a ∙ unknowns-are (plan_of t.plan).net.sources (length t.signals) (channels-are t w)) (b ∙ lowered-are t.plan.places (length t.fired.items) w.fired) c ∙
    ap (λ (x : TickState Token). restarted_tick x) v

-- each child has fewer places than there are numbers
pub places-small : (t : Inside) → IsSound t → (i : ℕ) → i < length t.plan.places → get_or t.plan.places i 0 < 2 ^ 32
places-small t w i l = let a = total-within t.plan.places i l in let b = w.lawful.channels in let c = w.lawful.few in omega (arith, a, b, c)

-- the state once child i is asked for an early answer
pub listened-is : (t : Inside) (i n : ℕ) (s : TickState Token) → seen_in t ≡ s → n ≡ unknown_in (inputs_of s i) →
    (let x : TickState Token = record { plan = plan_of t.plan; nonstrict = t.plan.nonstrict.items; known = t.signals; fired = t.fired.items; heard = set t.heard.items i n } in x) ≡ asked_tick i s
listened-is t i n s v e =
    same-tick (plan_of t.plan) t.plan.nonstrict.items t.signals t.signals t.fired.items t.fired.items (set t.heard.items i n) (set t.heard.items i (unknown_in (inputs_of (seen_in t) i))) refl refl
    (ap (λ m. set t.heard.items i m) (e ∙ ap (λ (x : TickState Token). unknown_in (inputs_of x i)) (sym v))) ∙ ap (λ (x : TickState Token). asked_tick i x) v

-- and it keeps its lengths
pub forgotten-signals : (t : Inside) → IsSound t → (V : List (Partial Token)) → V ≡ replicate (length t.signals) Unknown → length V ≡ length t.plan.sources.items
forgotten-signals t w V e = ap (λ v. length v) e ∙ length-replicate (length t.signals) Unknown ∙ w.signals

pub forgotten-flags : (t : Inside) → IsSound t → (f : List Bool) → f ≡ replicate (length t.fired.items) false → length f ≡ length t.plan.places
forgotten-flags t w f e = ap (λ v. length v) e ∙ length-replicate (length t.fired.items) false ∙ w.fired

pub forgotten-numbers : (t : Inside) (h : List ℕ) → h ≡ unheard t.plan.places → length h ≡ length t.plan.places
forgotten-numbers t h e = ap (λ v. length v) e ∙ length-map t.plan.places (λ n. suc n)

-- what comes next, once each child was passed
pub all-passed : (s : TickState Token) (n : ℕ) → n ≡ length s.plan.net.places → ((i : ℕ) → i < n → IsPassed s i) → IsSettled s
all-passed s n e h i l = h i (omega (arith, l, e))

-- read off the flags
pub fired-read : (t : Inside) (s : TickState Token) → seen_in t ≡ s → (i : ℕ) (flag : Bool) → i < length t.fired.items → flag ≡ get_or t.fired.items i flag → flag ≡ get_or s.fired i false
fired-read t s v i flag l e = read-at t.fired.items i flag false l e ∙ ap (λ (x : TickState Token). get_or x.fired i false) v

pub signals-seen : (t : Inside) (s : TickState Token) → seen_in t ≡ s → t.signals ≡ s.known
signals-seen t s v = ap (λ (x : TickState Token). x.known) v

-- the channels that child i feeds, one after another
module _ (t : Inside) (w : IsSound t) (s : TickState Token) (v : seen_in t ≡ s) (i : ℕ) (l : i < length t.plan.places) (row : Vec Feed Global) (e : row ≡ get_or t.feeds.items i row) where
  module _ (k : ℕ) (h : k < length row.items) (feed : Feed) (f : feed ≡ get_or row.items k feed) where
    pub feed-there : feed.channel < length t.signals
    feed-there = subst (λ (x : Feed). x.channel < length t.signals) (sym (read-at row.items k feed no_feed h f)) (row-channels t w i (omega (arith, l)) row e k h)

    feed-known : (b : Bool) → b ≡ is_known (partial_at t.signals feed.channel) → is_known (partial_at t.signals (get_or row.items k no_feed).channel) ≡ b
    feed-known b g = ap (λ (x : Feed). is_known (partial_at t.signals x.channel)) (sym (read-at row.items k feed no_feed h f)) ∙ sym g

    pub feed-told : (b : Bool) → b ≡ is_known (partial_at t.signals feed.channel) → b ≡ true → is_known (partial_at s.known (get_or row.items k no_feed).channel) ≡ true
    feed-told b g q = ap (λ (x : TickState Token). is_known (partial_at x.known (get_or row.items k no_feed).channel)) (sym v) ∙ feed-known b g ∙ q

    pub feed-quiet : (b : Bool) → b ≡ is_known (partial_at t.signals feed.channel) → b ≡ false → MayTell s i
    feed-quiet b g q = subst (λ (x : TickState Token). MayTell x i) v (one-quiet t w i (omega (arith, l)) row e l k h (feed-known b g ∙ q))

  pub feeds-told : (k : ℕ) → length row.items ≤ k → ((j : ℕ) → j < k → is_known (partial_at s.known (get_or row.items j no_feed).channel) ≡ true) → HasTold s i
  feeds-told k h all =
      subst (λ (x : TickState Token). HasTold x i) v
      (each-told t w i (omega (arith, l)) row e l (λ j m. ap (λ (x : TickState Token). is_known (partial_at x.known (get_or row.items j no_feed).channel)) v ∙ all j (omega (arith, h, m))))

-- a tick that was made
module _ (p : CorePlan) where
  pub new-signals : (V : List (Partial Token)) (n : ℕ) → V ≡ replicate n Unknown → n ≡ length p.sources.items → length V ≡ length p.sources.items
  new-signals V n e f = ap (λ v. length v) e ∙ length-replicate n Unknown ∙ f

  pub new-flags : (f : List Bool) (n : ℕ) → f ≡ replicate n false → n ≡ length p.places → length f ≡ length p.places
  new-flags f n e g = ap (λ v. length v) e ∙ length-replicate n false ∙ g

  pub new-numbers : (h : List ℕ) → h ≡ unheard p.places → length h ≡ length p.places
  new-numbers h e = ap (λ v. length v) e ∙ length-map p.places (λ n. suc n)

  pub new-is : (V : List (Partial Token)) (f : List Bool) (h : List ℕ) (n m : ℕ) → V ≡ replicate n Unknown → n ≡ length p.sources.items → f ≡ replicate m false → m ≡ length p.places → h ≡ unheard p.places →
      (let x : TickState Token = record { plan = plan_of p; nonstrict = p.nonstrict.items; known = V; fired = f; heard = h } in x) ≡ unbegun (plan_of p) p.nonstrict.items
  new-is V f h n m a b c d e =
      same-tick (plan_of p) p.nonstrict.items V (unknowns (plan_of p).net.sources) f (map (λ n. false) p.places) h (unheard p.places) (a ∙ unknowns-are (plan_of p).net.sources n (b ∙ sym (length-map p.sources.items source_of))) (c ∙ lowered-are p.places m d) e

-- a plan that was copied
pub plan-same : (p q : CorePlan) → IsSamePlan p q → plan_of q ≡ plan_of p
plan-same p q h =
    ap (λ ss. let x : TickPlan = record { net = record { sources = map source_of ss; places = q.places }; inputs = length q.takes } in x) h.sources ∙
    ap (λ ns. let x : TickPlan = record { net = record { sources = map source_of p.sources.items; places = ns }; inputs = length q.takes } in x) h.places ∙
    ap (λ ns. let x : TickPlan = record { net = record { sources = map source_of p.sources.items; places = p.places }; inputs = length ns } in x) h.takes

module _ (t : Inside) (w : IsSound t) (q : CorePlan) (same : IsSamePlan t.plan q) where
  pub copied-lawful : IsLawful (plan_of q) q.nonstrict.items q.takes
  copied-lawful =
      subst (λ p. IsLawful p q.nonstrict.items q.takes) (sym (plan-same t.plan q same))
      (subst (λ v. IsLawful (plan_of t.plan) v q.takes) (sym same.nonstrict) (subst (λ ns. IsLawful (plan_of t.plan) t.plan.nonstrict.items ns) (sym same.takes) w.lawful))

  pub copied-offsets : (v : List ℕ) → v ≡ t.offsets.items → v ≡ begins 0 q.places
  copied-offsets v e = e ∙ w.offsets ∙ ap (λ ns. begins 0 ns) (sym same.places)

  pub copied-signals : (V : List (Partial Token)) → V ≡ t.signals → length V ≡ length q.sources.items
  copied-signals V e = ap (λ v. length v) e ∙ w.signals ∙ ap (λ v. length v) (sym same.sources)

  pub copied-flags : (f : List Bool) → f ≡ t.fired.items → length f ≡ length q.places
  copied-flags f e = ap (λ v. length v) e ∙ w.fired ∙ ap (λ v. length v) (sym same.places)

  pub copied-numbers : (h : List ℕ) → h ≡ t.heard.items → length h ≡ length q.places
  copied-numbers h e = ap (λ v. length v) e ∙ w.heard ∙ ap (λ v. length v) (sym same.places)

  pub copied-few : length q.sources.items < 2 ^ 32
  copied-few = let a = w.lawful.few in let b = length-map t.plan.sources.items source_of in let c = ap (λ v. length v) same.sources in omega (arith, a, b, c)

  pub copied-fewer : length q.places < 2 ^ 32
  copied-fewer = let a = w.lawful.fewer in let b = ap (λ v. length v) same.places in omega (arith, a, b)

  pub copied-is : (V : List (Partial Token)) (f : List Bool) (h : List ℕ) → V ≡ t.signals → f ≡ t.fired.items → h ≡ t.heard.items → (s : TickState Token) → seen_in t ≡ s →
      (let x : TickState Token = record { plan = plan_of q; nonstrict = q.nonstrict.items; known = V; fired = f; heard = h } in x) ≡ s
  copied-is V f h a b c s v =
      ap (λ p. let x : TickState Token = record { plan = p; nonstrict = q.nonstrict.items; known = V; fired = f; heard = h } in x) (plan-same t.plan q same) ∙
      ap (λ n. let x : TickState Token = record { plan = plan_of t.plan; nonstrict = n; known = V; fired = f; heard = h } in x) same.nonstrict ∙ same-tick (plan_of t.plan) t.plan.nonstrict.items V t.signals f t.fired.items h t.heard.items a b c ∙ v
