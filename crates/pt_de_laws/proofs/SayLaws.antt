-- What a child takes of a place was given by its source, or told early.
use Rattle.std.proofs.Common.{◌≡◌, ◌⊎◌, inl, inr, ⊎_elim, ℕ, zero, suc, ◌<◌, List, [], ◌∷◌, Bool, true, false, length, get_or, Option, Some, None, refl, sym, ap, subst, ◌∙◌, arith}
use Rattle.pt_meaning.specs.Streams.{IsPrefix, Streams, at, get}
use Rattle.pt_meaning.specs.Log.{Log}
use Rattle.pt_meaning.specs.Machine.{Stepping, Facts, Partial, Unknown, Known, partial_at}
use Rattle.pt_meaning.specs.Net.{Net, Source, Own, Output}
use Rattle.pt_meaning.specs.Tree.{De}
use Rattle.pt_meaning.specs.Valuation.{known, known_then, is_known}
use Rattle.pt_meaning.specs.De.{de_early, de_active, de_turn}
use Rattle.pt_laws.specs.Channels.{source_in, tokens_in}
use Rattle.pt_laws.specs.TickRuns.{places_at}
use Rattle.pt_laws.specs.Explained.{gives_in, MaySay, Nothing, Absence, Gives, Early}
use Rattle.pt_de_laws.specs.State.{DeState, Turn, Waits, Answered, Over, inputs_of, delays_of, beside_delays, depth_of, partial_of}
use Rattle.pt_de_laws.specs.Chain.{Course, decided, rounds_of}
use Rattle.pt_de_laws.proofs.PlaceLaws.{get-or-there, known_in, place-known, place-tokens, source-there}
use Rattle.pt_de_laws.proofs.EarlyLaws.{early-same}
use Rattle.pt_de_laws.proofs.ReadyLaws.{clash, over-waits, Ready, ready-below, ready-any, settled, kid-there, flags-long, undelayed}
use Rattle.pt_de_laws.proofs.ValueLaws.{val-long, val-stays, val-own, rounds-some}

-- known inputs are what is known, place by place
pub known-exact : {T : Type 0} (vs : List (Partial T)) (X : Streams T) (q : ℕ) → known vs ≡ Some X → (partial_at vs q ≡ Known (at X q)) ⊎ (at X q ≡ [])
known-exact {T} [] X q e = inr (ap (λ (Y : Streams T). at Y q) (some-same [] X e))
  where
    some-same : (u v : Streams T) → Some u ≡ Some v → v ≡ u
    some-same u v e = cc
known-exact {T} (Unknown ∷ vs) X q e = absurd (no (known vs) e)
  where
    no : (o : Option (Streams T)) → known_then Unknown o ≡ Some X → ⊥
    no None e = cc
    no (Some Y) e = cc
known-exact {T} (Known xs ∷ vs) X q e = go (known vs) e q (λ Y f r. known-exact vs Y r f)
  where
    go : (o : Option (Streams T)) → known_then (Known xs) o ≡ Some X → (q : ℕ) → ((Y : Streams T) → o ≡ Some Y → (r : ℕ) → (partial_at vs r ≡ Known (at Y r)) ⊎ (at Y r ≡ [])) → (partial_at (Known xs ∷ vs) q ≡ Known (at X q)) ⊎ (at X q ≡ [])
    go None e q ih = absurd (cc)
    go (Some Y) e zero ih = let same : X ≡ xs ∷ Y = cc in inl (ap (λ (Z : Streams T). Known (at Z 0)) (sym same))
    go (Some Y) e (suc r) ih = let same : X ≡ xs ∷ Y = cc in subst (λ (Z : Streams T). (partial_at vs r ≡ Known (at Z (suc r))) ⊎ (at Z (suc r) ≡ [])) (sym same) (ih Y refl r)

known-short : {T : Type 0} (vs : List (Partial T)) (q : ℕ) (xs : List T) → partial_at vs q ≡ Known xs → q < length vs
known-short [] q xs e = absurd (cc)
known-short (v ∷ vs) zero xs e = omega arith
known-short (v ∷ vs) (suc q) xs e = let r = known-short vs q xs e in omega (arith, r)

same-known : {T : Type 0} (v : Partial T) (xs ys : List T) → v ≡ Known xs → v ≡ Known ys → xs ≡ ys
same-known v xs ys e f = cc

-- what is handed to a child that is asked early: nothing, or what is at a place that is no delay
beside-at : {T : Type 0} (fs : List Bool) (X : Streams T) (q : ℕ) → (partial_at (beside_delays fs X) q ≡ Unknown) ⊎ ((q < length fs) × (get_or fs q false ≡ false) × (partial_at (beside_delays fs X) q ≡ Known (at X q)))
beside-at [] X q = inl refl
beside-at (f ∷ fs) [] q = inl refl
beside-at (true ∷ fs) (xs ∷ X) zero = inl refl
beside-at (false ∷ fs) (xs ∷ X) zero = inr (omega arith, refl, refl)
beside-at (f ∷ fs) (xs ∷ X) (suc q) = ⊎_elim (λ e. inl e) (λ r. inr (let l = r.0 in omega (arith, l), r.1, r.2)) (beside-at fs X q)

module _ {T S : Type 0} (facts : Facts T S) (step : Stepping T S) (before : DeState T) (kids : List S) (inputs : Streams T) (d : S) (s : DeState T) (now : List S) (ls : List (Log T)) (u : Course facts step before kids inputs d s now ls) where
  abbrev net : Net
  net = s.plan.net

  abbrev count : ℕ
  count = length net.places

  abbrev kid : ℕ → S
  kid i = get_or kids i d

  abbrev turn : ℕ → Turn
  turn i = get_or s.turns i Waits

  abbrev depth : ℕ → ℕ
  depth i = depth_of s i

  abbrev early : ℕ → Bool
  early i = get_or s.roles.early i false

  abbrev end : List (Partial T)
  end = decided facts step s kids inputs

  abbrev IsReady : ℕ → Type 0
  IsReady j = Ready facts step before kids inputs d s now ls u j

  abbrev Says : ℕ → ℕ → Partial T → Type 0
  Says i q v = MaySay facts (De s.plan) kids inputs u.turned s.tag i q v

  -- those that feed a child that has had its turn, or has answered, beside its delays are ready
  fed-ready : (j : ℕ) → j < count → (turn j ≡ Waits → ⊥) → (q k port : ℕ) → k < count → source_in net j q ≡ Some (Output k port) → get_or (delays_of s j) q false ≡ false → IsReady k
  fed-ready j l n q k port m g f = ready-below facts step before kids inputs d s now ls u k (depth j) m (u.lawful.deeper j q k port g f) (λ p o r. u.order j p l o n r)

  module _ (i q c : ℕ) where
    gives-own : (port : ℕ) → get net.sources c ≡ Some (Own port) → source_in net i q ≡ Some (Own port) → Says i q (Known (at s.tokens c))
    gives-own port e g =
        subst (λ (xs : List T). Says i q (Known xs)) (sym (u.arrived c port e))
        (subst (λ (o : Option Source). Says i q (Known (gives_in inputs u.turned o))) g (Gives i q))

    gives-over : (j port : ℕ) → j < count → turn j ≡ Over → early j ≡ false → get net.sources c ≡ Some (Output j port) → source_in net i q ≡ Some (Output j port) → Says i q (Known (at s.tokens c))
    gives-over j port l w f e g =
        subst (λ (xs : List T). Says i q (Known xs)) ((u.over j l w).gave port ∙ sym (u.gives j l w f c port e))
        (subst (λ (o : Option Source). Says i q (Known (gives_in inputs u.turned o))) g (Gives i q))

  -- what is handed to a child that has answered may be known, where what less deep ones gave may be
  module _ (j : ℕ) (l : j < count) (n : turn j ≡ Waits → ⊥) (ih : (p a k port : ℕ) → k < count → depth k < depth j → IsReady k → get net.sources a ≡ Some (Output k port) → source_in net j p ≡ Some (Output k port) → Says j p (Known (at s.tokens a))) where
    says-from : (p : ℕ) → get_or (delays_of s j) p false ≡ false → (a : ℕ) (src : Source) → get net.sources a ≡ Some src → source_in net j p ≡ Some src → Says j p (Known (at s.tokens a))
    says-from p x a (Own o) f h = gives-own j p a o f h
    says-from p x a (Output k o) f h = let there : k < count = u.lawful.named a (Output k o) f in ih p a k o there (u.lawful.deeper j p k o h x) (fed-ready j l n p k o there h x) f h

    says-place : (p : ℕ) → (partial_at (partial_of s j) p ≡ Unknown) ⊎ ((p < length (delays_of s j)) × (get_or (delays_of s j) p false ≡ false) × (partial_at (partial_of s j) p ≡ Known (at (inputs_of s j) p))) → Says j p (partial_at (partial_of s j) p)
    says-place p (inl x) = subst (λ v. Says j p v) (sym x) (Nothing j p)
    says-place p (inr x) =
        let w = source-there net j p s.tokens u.channels (let h = x.0 in omega (arith, h, flags-long facts step before kids inputs d s now ls u j)) in
        let same : at (inputs_of s j) p ≡ at s.tokens w.0 = place-tokens net.places j p s.tokens ∙ ap (λ o. tokens_in s.tokens o) w.2 in
        subst (λ v. Says j p v) (sym (x.2 ∙ ap (λ (xs : List T). Known xs) same)) (says-from p x.1 w.0 w.1 w.3 w.4)

    says-early : early j ≡ true → (i q c port : ℕ) → get net.sources c ≡ Some (Output j port) → source_in net i q ≡ Some (Output j port) → Says i q (Known (at s.tokens c))
    says-early f i q c port e g =
        let told = u.answered j l n f c port e in
        Early i q j port (kid j) (partial_of s j) (at s.tokens c) g (get-or-there kids j d (kid-there facts step before kids inputs d s now ls u j l)) (λ p. says-place p (beside-at (delays_of s j) (inputs_of s j) p))
        (early-same facts s.tag (kid j) (partial_of s j) port (ap (λ v. is_known v) told) ∙ told)

    says-turn : early j ≡ false → (x : Turn) → turn j ≡ x → (i q c port : ℕ) → get net.sources c ≡ Some (Output j port) → source_in net i q ≡ Some (Output j port) → Says i q (Known (at s.tokens c))
    says-turn f Waits w i q c port e g = absurd (n w)
    says-turn f Answered w i q c port e g = clash (sym (u.prompted j l w).0 ∙ f)
    says-turn f Over w i q c port e g = gives-over i q c j port l w f e g

    says-told : (b : Bool) → early j ≡ b → (i q c port : ℕ) → get net.sources c ≡ Some (Output j port) → source_in net i q ≡ Some (Output j port) → Says i q (Known (at s.tokens c))
    says-told true f i q c port e g = says-early f i q c port e g
    says-told false f i q c port e g = says-turn f (turn j) refl i q c port e g

  says-by : (m i q c j port : ℕ) → j < count → depth j < m → IsReady j → get net.sources c ≡ Some (Output j port) → source_in net i q ≡ Some (Output j port) → Says i q (Known (at s.tokens c))
  says-by zero i q c j port l b r e g = absurd (omega (arith, b))
  says-by (suc m) i q c j port l b (inr r) e g = subst (λ (xs : List T). Says i q (Known xs)) (sym (u.quiet j l r.0 c port e)) (Absence i q)
  says-by (suc m) i q c j port l b (inl t) e g = says-told j l t.0 (λ p a k o there less r f h. says-by m j p a k o there (omega (arith, less, b)) r f h) (early j) refl i q c port e g

  -- so it is with what a child has taken that has had its turn
  module _ (i : ℕ) (l : i < count) (w : turn i ≡ Over) where
    feeds-ready : (q k port : ℕ) → k < count → source_in net i q ≡ Some (Output k port) → IsReady k
    feeds-ready q k port m g = by (early i) refl
      where
        by : (b : Bool) → early i ≡ b → IsReady k
        by true f = ready-any facts step before kids inputs d s now ls u (λ p o r. u.late i p l o w f r) k m
        by false f = fed-ready i l (λ v. over-waits (turn i) w v) q k port m g (undelayed facts step before kids inputs d s now ls u i f q)

    pub takes-known : (X : Streams T) → known (places_at net.places i end) ≡ Some X → (q : ℕ) (taken : List T) → IsPrefix taken (at X q) → (xs : List T) × Says i q (Known xs) × IsPrefix taken xs
    takes-known X on q taken p = by (known-exact (places_at net.places i end) X q on)
      where
        from : (c : ℕ) (src : Source) → get net.sources c ≡ Some src → source_in net i q ≡ Some src → partial_at end c ≡ Known (at X q) → (xs : List T) × Says i q (Known xs) × IsPrefix taken xs
        from c (Own port) e g h =
            let here : partial_at end c ≡ Known (at inputs port) =
            val-stays (de_early facts) (de_active facts) (de_turn facts step) s.tag u.keeps net kids inputs 1 (rounds_of s.roles.depths) (rounds-some s.roles.depths) c (at inputs port)
            (val-own (de_early facts) (de_active facts) (de_turn facts step) s.tag u.keeps net kids inputs 0 c port e)
            in
            let same : at X q ≡ at s.tokens c = same-known (partial_at end c) (at X q) (at inputs port) h here ∙ sym (u.arrived c port e) in
            (at s.tokens c, gives-own i q c port e g, subst (λ xs. IsPrefix taken xs) same p)
        from c (Output k port) e g h =
            let there : k < count = u.lawful.named c (Output k port) e in
            let r = feeds-ready q k port there g in
            let same : at X q ≡ at s.tokens c = same-known (partial_at end c) (at X q) (at s.tokens c) h (settled facts step before kids inputs d s now ls u k there r c port e) in
            (at s.tokens c, says-by (suc (depth k)) i q c k port there (omega arith) r e g, subst (λ xs. IsPrefix taken xs) same p)

        by : (partial_at (places_at net.places i end) q ≡ Known (at X q)) ⊎ (at X q ≡ []) → (xs : List T) × Says i q (Known xs) × IsPrefix taken xs
        by (inr e) = ([], Absence i q, subst (λ xs. IsPrefix taken xs) e p)
        by (inl e) =
            let long : length end ≡ length net.sources = val-long (de_early facts) (de_active facts) (de_turn facts step) s.tag u.keeps net kids inputs (rounds_of s.roles.depths) in
            let v = source-there net i q end long (known-short (places_at net.places i end) q (at X q) e) in
            from v.0 v.1 v.3 v.4 (ap (λ o. known_in end o) (sym v.2) ∙ sym (place-known net.places i q end) ∙ e)
