-- Which children have told all that they give at a tag, and what is known of their channels.
use Rattle.std.proofs.Common.{◌≡◌, ◌⊎◌, inl, inr, ℕ, zero, suc, ◌<◌, ◌≤◌, List, [], ◌∷◌, Bool, true, false, ◌||◌, length, get_or, Some, None, refl, sym, ap, subst, ◌∙◌, arith}
use Rattle.pt_meaning.specs.Tag.{is_due}
use Rattle.pt_meaning.specs.Streams.{Streams, at, get, any_present}
use Rattle.pt_meaning.specs.Log.{Log, silent}
use Rattle.pt_meaning.specs.Machine.{Stepping, Facts, Partial, Known, partial_at}
use Rattle.pt_meaning.specs.Net.{Net, Source, Own, Output}
use Rattle.pt_meaning.specs.Valuation.{known, is_known, reaction}
use Rattle.pt_meaning.specs.De.{de_early, de_active, de_turn}
use Rattle.pt_meaning.specs.Laws.{KnownBelow}
use Rattle.pt_laws.specs.Channels.{source_in, tokens_in}
use Rattle.pt_laws.specs.TickRuns.{places_at, HasFired}
use Rattle.pt_laws.proofs.TickRunLaws.{has-reacted}
use Rattle.pt_de_laws.specs.State.{DeState, Turn, Waits, Answered, Over, comes, rows_left, inputs_of, delays_of, is_due_in, is_due_child, depth_of, partial_of}
use Rattle.pt_de_laws.specs.Chain.{HasTold, IsPending, Course, after_rounds, decided, rounds_of}
use Rattle.pt_de_laws.proofs.PlaceLaws.{get-or-any, get-or-map, known_in, place-known, place-tokens, places-long, known-by, source-there}
use Rattle.pt_de_laws.proofs.EarlyLaws.{no-prompt, none-present, beside-known, beside-below, early-gives, quiet-early}
use Rattle.pt_de_laws.proofs.ValueLaws.{val-long, val-grows, val-stays, val-own, val-output, rounds-enough, rounds-some}

pub clash : {A : Type 0} → true ≡ false → A
clash e = absurd (cc)

pub or-left : (a b : Bool) → (a || b) ≡ false → a ≡ false
or-left true b e = clash e
or-left false b e = refl

pub or-right : (a b : Bool) → (a || b) ≡ false → b ≡ false
or-right true b e = clash e
or-right false b e = e

pub or-false : (a b : Bool) → a ≡ false → b ≡ false → (a || b) ≡ false
or-false true b e f = clash e
or-false false b e f = f

pub answered-waits : (t : Turn) → t ≡ Answered → t ≡ Waits → ⊥
answered-waits t a w = absurd (cc)

pub over-waits : (t : Turn) → t ≡ Over → t ≡ Waits → ⊥
over-waits t a w = absurd (cc)

pub over-answered : (t : Turn) → t ≡ Over → t ≡ Answered → ⊥
over-answered t a w = absurd (cc)

module _ {T S : Type 0} (facts : Facts T S) (step : Stepping T S) (before : DeState T) (kids : List S) (inputs : Streams T) (d : S) (s : DeState T) (now : List S) (ls : List (Log T)) (u : Course facts step before kids inputs d s now ls) where
  abbrev net : Net
  net = s.plan.net

  abbrev count : ℕ
  count = length net.places

  abbrev kid : ℕ → S
  kid i = get_or kids i d

  abbrev turn : ℕ → Turn
  turn i = get_or s.turns i Waits

  abbrev depth : ℕ → ℕ
  depth i = depth_of s i

  abbrev val : ℕ → List (Partial T)
  val k = after_rounds facts step s kids inputs k

  -- the child has told, or nothing comes to it any more and no turn
  abbrev pub Ready : ℕ → Type 0
  Ready j = HasTold s j ⊎ ((turn j ≡ Waits) × (is_due_child s j ≡ false) × ((k : ℕ) → k < count → IsPending s k → depth j ≤ depth k))

  pub flags-long : (j : ℕ) → length (delays_of s j) ≡ length (inputs_of s j)
  flags-long j = places-long net.places j s.roles.delayed s.tokens (u.lawful.delayed ∙ sym u.channels)

  pub known-long : (j k : ℕ) → length (places_at net.places j (val k)) ≡ length (inputs_of s j)
  known-long j k = places-long net.places j (val k) s.tokens (val-long (de_early facts) (de_active facts) (de_turn facts step) s.tag u.keeps net kids inputs k ∙ sym u.channels)

  pub kid-there : (j : ℕ) → j < count → j < length kids
  kid-there j l = omega (arith, l, u.fitting.children)

  turn-any : (j : ℕ) → j < count → get_or s.turns j Over ≡ turn j
  turn-any j l = get-or-any s.turns j Over Waits (omega (arith, l, u.flags))

  -- whether a child that waits is due
  pub due-is : (j : ℕ) → j < count → turn j ≡ Waits → is_due_child s j ≡ (is_due s.tag (get_or s.wakes j None) || comes false (delays_of s j) (inputs_of s j))
  due-is j l w = ap (λ t. is_due_in t (is_due s.tag (get_or s.wakes j None) || comes false (delays_of s j) (inputs_of s j))) (turn-any j l ∙ w)

  pub due-waits : (j : ℕ) → j < count → is_due_child s j ≡ true → turn j ≡ Waits
  due-waits j l e = by (turn j) refl
    where
      by : (t : Turn) → turn j ≡ t → turn j ≡ Waits
      by Waits w = w
      by Answered w = clash (sym e ∙ ap (λ t. is_due_in t (is_due s.tag (get_or s.wakes j None) || comes false (delays_of s j) (inputs_of s j))) (turn-any j l ∙ w))
      by Over w = clash (sym e ∙ ap (λ t. is_due_in t (is_due s.tag (get_or s.wakes j None) || comes false (delays_of s j) (inputs_of s j))) (turn-any j l ∙ w))

  waits-over : (j : ℕ) → turn j ≡ Waits → turn j ≡ Over → ⊥
  waits-over j w o = over-waits (turn j) o w

  -- the wake of a child that has had no turn
  pub wake-is : (j : ℕ) → j < count → (turn j ≡ Over → ⊥) → get_or s.wakes j None ≡ facts.next (kid j)
  wake-is j l z = ap (λ ws. get_or ws j None) u.wakes ∙ get-or-map (λ c. facts.next c) now j d None (omega (arith, l, u.wide.news_are)) ∙ ap (λ c. facts.next c) (u.rests j l z).0

  -- a place that is no delay, of a child without delays
  pub undelayed : (j : ℕ) → get_or s.roles.early j false ≡ false → (q : ℕ) → get_or (delays_of s j) q false ≡ false
  undelayed j f q = by (get_or (delays_of s j) q false) refl
    where
      by : (b : Bool) → get_or (delays_of s j) q false ≡ b → get_or (delays_of s j) q false ≡ false
      by true e = clash (sym (u.lawful.delays j q e) ∙ f)
      by false e = e

  -- a child less deep than all that are pending has told, or nothing comes to it
  pub ready-below : (k m : ℕ) → k < count → depth k < m → ((p : ℕ) → p < count → IsPending s p → m ≤ depth p) → Ready k
  ready-below k m l b h = by (turn k) refl
    where
      by_left : (turn k ≡ Waits → ⊥) → get_or s.roles.early k false ≡ false → (rows : List (Streams T)) → rows_left s.stage k ≡ rows → Ready k
      by_left z f [] e = inl (z, inr (ap (λ rows. length rows) e))
      by_left z f (Y ∷ Ys) e =
          let some : 0 < length (rows_left s.stage k) = subst (λ (rows : List (Streams T)). 0 < length rows) (sym e) (omega arith) in
          let more = h k l (inr (f, some)) in
          absurd (omega (arith, more, b))

      by_early : (turn k ≡ Waits → ⊥) → (e : Bool) → get_or s.roles.early k false ≡ e → Ready k
      by_early z true f = inl (z, inl f)
      by_early z false f = by_left z f (rows_left s.stage k) refl

      by_due : turn k ≡ Waits → (e : Bool) → is_due_child s k ≡ e → Ready k
      by_due w true f = let more = h k l (inl f) in absurd (omega (arith, more, b))
      by_due w false f = inr (w, f, λ p m q. let more = h p m q in omega (arith, more, b))

      by : (t : Turn) → turn k ≡ t → Ready k
      by Waits w = by_due w (is_due_child s k) refl
      by Answered w = by_early (λ v. answered-waits (turn k) w v) (get_or s.roles.early k false) refl
      by Over w = by_early (λ v. over-waits (turn k) w v) (get_or s.roles.early k false) refl

  pub ready-any : ((p : ℕ) → p < count → IsPending s p → ⊥) → (k : ℕ) → k < count → Ready k
  ready-any h k l = ready-below k (suc (depth k)) l (omega arith) (λ p m q. absurd (h p m q))

  -- what is known of a place after some rounds
  pub place-at : (r j q : ℕ) → 1 ≤ r → q < length (delays_of s j) → ((k c port : ℕ) → k < count → get net.sources c ≡ Some (Output k port) → source_in net j q ≡ Some (Output k port) → partial_at (val r) c ≡ Known (at s.tokens c)) →
      partial_at (places_at net.places j (val r)) q ≡ Known (at (inputs_of s j) q)
  place-at r j q some h each =
      let w = source-there net j q s.tokens u.channels (omega (arith, h, flags-long j)) in
      place-known net.places j q (val r) ∙ ap (λ o. known_in (val r) o) w.2 ∙ from w.0 w.1 w.3 w.4 ∙ ap (λ (xs : List T). Known xs) (sym (place-tokens net.places j q s.tokens ∙ ap (λ o. tokens_in s.tokens o) w.2))
    where
      from : (c : ℕ) (src : Source) → get net.sources c ≡ Some src → source_in net j q ≡ Some src → partial_at (val r) c ≡ Known (at s.tokens c)
      from c (Own port) e g =
          val-stays (de_early facts) (de_active facts) (de_turn facts step) s.tag u.keeps net kids inputs 1 r some c (at inputs port) (val-own (de_early facts) (de_active facts) (de_turn facts step) s.tag u.keeps net kids inputs 0 c port e) ∙
          ap (λ (xs : List T). Known xs) (sym (u.arrived c port e))
      from c (Output k port) e g = each k c port (u.lawful.named c (Output k port) e) e g

  -- what a child that isn't due gives: nothing
  module _ (j : ℕ) (l : j < count) (w : turn j ≡ Waits) (off : is_due_child s j ≡ false) where
    both-off : (is_due s.tag (get_or s.wakes j None) || comes false (delays_of s j) (inputs_of s j)) ≡ false
    both-off = sym (due-is j l w) ∙ off

    pub no-wake : is_due s.tag (facts.next (kid j)) ≡ false
    no-wake = ap (λ o. is_due s.tag o) (sym (wake-is j l (λ o. waits-over j w o))) ∙ or-left (is_due s.tag (get_or s.wakes j None)) (comes false (delays_of s j) (inputs_of s j)) both-off

    pub no-token : comes false (delays_of s j) (inputs_of s j) ≡ false
    no-token = or-right (is_due s.tag (get_or s.wakes j None)) (comes false (delays_of s j) (inputs_of s j)) both-off

    pub inactive : (Y : Streams T) → any_present Y ≡ false → de_active facts s.tag (kid j) Y ≡ false
    inactive Y e = or-false (any_present Y) (is_due s.tag (facts.next (kid j))) e no-wake

    pub tells-early : get_or s.roles.early j false ≡ true → (c port : ℕ) → get net.sources c ≡ Some (Output j port) → is_known (partial_at (de_early facts s.tag (kid j) (partial_of s j)) port) ≡ true
    tells-early f c port e = u.fitting.answers j d (kid-there j l) f s.tag (partial_of s j) (λ q h g. ap (λ v. is_known v) (beside-known (delays_of s j) (inputs_of s j) (flags-long j) q h g)) c port e

    pub early-nothing : get_or s.roles.early j false ≡ true → (c port : ℕ) → get net.sources c ≡ Some (Output j port) → partial_at (de_early facts s.tag (kid j) (partial_of s j)) port ≡ Known []
    early-nothing f c port e = quiet-early (de_early facts) (de_active facts) (de_turn facts step) u.keeps s.tag (kid j) (delays_of s j) (inputs_of s j) port (flags-long j) no-token inactive (tells-early f c port e)

  -- what a child gives that isn't due, where so much is known of those that feed it
  module _ (j : ℕ) (l : j < count) (w : turn j ≡ Waits) (off : is_due_child s j ≡ false) (first : (k : ℕ) → k < count → IsPending s k → depth j ≤ depth k)
      (ih : (k : ℕ) → k < count → depth k < depth j → Ready k → (a p : ℕ) → get net.sources a ≡ Some (Output k p) → partial_at (val (suc (suc (depth k)))) a ≡ Known (at s.tokens a)) (c port : ℕ) (e : get net.sources c ≡ Some (Output j port)) where
    abbrev at_places : List (Partial T)
    at_places = places_at net.places j (val (suc (depth j)))

    prior : (q : ℕ) → q < length (delays_of s j) → get_or (delays_of s j) q false ≡ false → partial_at at_places q ≡ Known (at (inputs_of s j) q)
    prior q h g =
        place-at (suc (depth j)) j q (omega arith) h
        (λ k a p kl ge src.
        let less : depth k < depth j = u.lawful.deeper j q k p src g in
        val-stays (de_early facts) (de_active facts) (de_turn facts step) s.tag u.keeps net kids inputs (suc (suc (depth k))) (suc (depth j)) (omega (arith, less)) a (at s.tokens a) (ih k kl less (ready-below k (depth j) kl less first) a p ge))

    rest-tells : (f : Bool) → get_or s.roles.early j false ≡ f → (reaction (de_early facts) (de_active facts) (de_turn facts step) s.tag (kid j) at_places).outputs port ≡ Known []
    rest-tells true f =
        early-gives (de_early facts) (de_active facts) (de_turn facts step) u.keeps s.tag (kid j) (partial_of s j) at_places port
        (beside-below (delays_of s j) (inputs_of s j) at_places (flags-long j) (known-long j (suc (depth j))) prior) (tells-early j l w off f c port e) ∙
        early-nothing j l w off f c port e
    rest-tells false f =
        let absent : any_present (inputs_of s j) ≡ false = none-present (inputs_of s j) (λ q h. no-prompt (delays_of s j) (inputs_of s j) (no-token j l w off) q (omega (arith, h, flags-long j)) (undelayed j f q)) in
        let on : known at_places ≡ Some (inputs_of s j) = known-by at_places (inputs_of s j) (known-long j (suc (depth j))) (λ q h. prior q (omega (arith, h, flags-long j)) (undelayed j f q)) in
        let rest : HasFired (de_active facts) (de_turn facts step) s.tag (kid j) at_places (kid j) [] silent = (inputs_of s j, on, inr (inactive j l w off (inputs_of s j) absent, refl, refl, refl)) in
        (has-reacted (de_early facts) (de_active facts) (de_turn facts step) s.tag (kid j) at_places (kid j) [] silent rest).outputs port

    rest-settles : partial_at (val (suc (suc (depth j)))) c ≡ Known (at s.tokens c)
    rest-settles =
        val-output (de_early facts) (de_active facts) (de_turn facts step) s.tag u.keeps net kids inputs d u.fitting.children (suc (depth j)) c j port e l ∙ rest-tells (get_or s.roles.early j false) refl ∙ ap (λ (xs : List T). Known xs) (sym (u.quiet j l w c port e))

  -- what is known of the channels of a child that is ready
  settles-by : (m j : ℕ) → j < count → depth j < m → Ready j → (c port : ℕ) → get net.sources c ≡ Some (Output j port) → partial_at (val (suc (suc (depth j)))) c ≡ Known (at s.tokens c)
  settles-by zero j l b r c port e = absurd (omega (arith, b))
  settles-by (suc m) j l b (inl t) c port e = u.told j l t c port e
  settles-by (suc m) j l b (inr r) c port e = rest-settles j l r.0 r.1 r.2 (λ k kl less rk a p ge. settles-by m k kl (omega (arith, less, b)) rk a p ge) c port e

  pub settles : (j : ℕ) → j < count → Ready j → (c port : ℕ) → get net.sources c ≡ Some (Output j port) → partial_at (val (suc (suc (depth j)))) c ≡ Known (at s.tokens c)
  settles j l r c port e = settles-by (suc (depth j)) j l (omega arith) r c port e

  pub settled : (j : ℕ) → j < count → Ready j → (c port : ℕ) → get net.sources c ≡ Some (Output j port) → partial_at (decided facts step s kids inputs) c ≡ Known (at s.tokens c)
  settled j l r c port e =
      val-stays (de_early facts) (de_active facts) (de_turn facts step) s.tag u.keeps net kids inputs (suc (suc (depth j))) (rounds_of s.roles.depths) (rounds-enough s.roles.depths j (omega (arith, l, u.lawful.depths))) c (at s.tokens c) (settles j l r c port e)

  -- the inputs of a child that is fed by children that are ready
  pub inputs-decided : (j : ℕ) → ((q k port : ℕ) → k < count → source_in net j q ≡ Some (Output k port) → Ready k) → known (places_at net.places j (decided facts step s kids inputs)) ≡ Some (inputs_of s j)
  inputs-decided j h =
      known-by (places_at net.places j (decided facts step s kids inputs)) (inputs_of s j) (known-long j (rounds_of s.roles.depths))
      (λ q l. place-at (rounds_of s.roles.depths) j q (rounds-some s.roles.depths) (omega (arith, l, flags-long j)) (λ k c port kl e src. settled k kl (h q k port kl src) c port e))

  -- and of one without delays, where all less deep are ready, as soon as they have told
  pub inputs-soon : (j : ℕ) → j < count → get_or s.roles.early j false ≡ false → ((p : ℕ) → p < count → IsPending s p → depth j ≤ depth p) → known (places_at net.places j (val (suc (depth j)))) ≡ Some (inputs_of s j)
  inputs-soon j l f h =
      known-by (places_at net.places j (val (suc (depth j)))) (inputs_of s j) (known-long j (suc (depth j)))
      (λ q m.
      place-at (suc (depth j)) j q (omega arith) (omega (arith, m, flags-long j))
      (λ k c port kl e src.
      let less : depth k < depth j = u.lawful.deeper j q k port src (undelayed j f q) in
      val-stays (de_early facts) (de_active facts) (de_turn facts step) s.tag u.keeps net kids inputs (suc (suc (depth k))) (suc (depth j)) (omega (arith, less)) c (at s.tokens c) (settles k kl (ready-below k (depth j) kl less h) c port e)))

  pub places-grow : (j : ℕ) → j < count → KnownBelow (val (suc (depth j))) (decided facts step s kids inputs)
  places-grow j l = val-grows (de_early facts) (de_active facts) (de_turn facts step) s.tag u.keeps net kids inputs (suc (depth j)) (rounds_of s.roles.depths) (let r = rounds-enough s.roles.depths j (omega (arith, l, u.lawful.depths)) in omega (arith, r))
