-- What a child gave is at its channels, and at no others; and what each child has logged.
use Rattle.std.proofs.Common.{◌≡◌, ℕ, zero, suc, ◌<◌, ◌≤◌, List, [], ◌∷◌, ◌++◌, false, length, get_or, Some, if◌then◌else◌, refl, sym, ap, ◌∙◌, arith}
use Rattle.pt_meaning.specs.Streams.{Streams, at, get}
use Rattle.pt_meaning.specs.Log.{Log, silent, log_then}
use Rattle.pt_meaning.specs.Machine.{Stepping, Facts, Partial, Unknown, Known, partial_at}
use Rattle.pt_meaning.specs.Net.{Net, Source, Own, Output}
use Rattle.pt_meaning.specs.Valuation.{tokens_of}
use Rattle.pt_laws.specs.Channels.{source_in, tokens_in}
use Rattle.pt_laws.specs.LogsOfRuns.{silents, logs_then, log_at}
use Rattle.pt_laws.specs.TickRuns.{places_at}
use Rattle.pt_de_laws.specs.State.{DeState, comes, gained, gained_by, beside_delays, inputs_of, delays_of, depth_of}
use Rattle.pt_de_laws.specs.Chain.{Course}
use Rattle.pt_de_laws.proofs.PlaceLaws.{place-tokens, places-long, source-there, same-test, other-test}
use Rattle.pt_de_laws.proofs.EarlyLaws.{comes-same, beside-same}
use Rattle.pt_de_laws.proofs.ReadyLaws.{flags-long}

-- logs, child by child
module _ {T : Type 0} where
  pub then-long : (i : ℕ) (l : Log T) (ls : List (Log T)) → length (logs_then i l ls) ≡ length ls
  then-long i l [] = refl
  then-long zero l (m ∷ ls) = refl
  then-long (suc i) l (m ∷ ls) = ap (λ n. suc n) (then-long i l ls)

  pub then-same : (i : ℕ) (l : Log T) (ls : List (Log T)) → i < length ls → log_at (logs_then i l ls) i ≡ log_then (log_at ls i) l
  then-same i l [] h = absurd (omega (arith, h))
  then-same zero l (m ∷ ls) h = refl
  then-same (suc i) l (m ∷ ls) h = then-same i l ls (omega (arith, h))

  pub then-other : (i j : ℕ) (l : Log T) (ls : List (Log T)) → (j ≡ i → ⊥) → log_at (logs_then i l ls) j ≡ log_at ls j
  then-other i j l [] z = refl
  then-other zero zero l (m ∷ ls) z = absurd (z refl)
  then-other zero (suc j) l (m ∷ ls) z = refl
  then-other (suc i) zero l (m ∷ ls) z = refl
  then-other (suc i) (suc j) l (m ∷ ls) z = then-other i j l ls (λ e. z (ap (λ n. suc n) e))

pub silents-long : (T : Type 0) {S : Type 0} (kids : List S) → length (silents {T = T} kids) ≡ length kids
silents-long T [] = refl
silents-long T (s ∷ ss) = ap (λ n. suc n) (silents-long T ss)

pub silents-at : {T S : Type 0} (kids : List S) (i : ℕ) → log_at (silents {T = T} kids) i ≡ silent
silents-at [] i = refl
silents-at (s ∷ ss) zero = refl
silents-at (s ∷ ss) (suc i) = silents-at ss i

-- channels that gained
module _ {T : Type 0} (i : ℕ) (out : Streams T) where
  pub gained-long : (cs : List Source) (X : Streams T) → length (gained i out cs X) ≡ length X
  gained-long [] X = refl
  gained-long (c ∷ cs) [] = refl
  gained-long (c ∷ cs) (xs ∷ X) = ap (λ n. suc n) (gained-long cs X)

  pub gained-at : (cs : List Source) (X : Streams T) (c : ℕ) (src : Source) → length X ≡ length cs → get cs c ≡ Some src → at (gained i out cs X) c ≡ gained_by i out src (at X c)
  gained-at [] X c src l e = absurd (cc)
  gained-at (x ∷ cs) [] c src l e = absurd (omega (arith, l))
  gained-at (x ∷ cs) (xs ∷ X) zero src l e = let a : x ≡ src = cc in ap (λ s. gained_by i out s xs) a
  gained-at (x ∷ cs) (xs ∷ X) (suc c) src l e = gained-at cs X c src (omega (arith, l)) e

  pub gained-own : (cs : List Source) (X : Streams T) (c port : ℕ) → length X ≡ length cs → get cs c ≡ Some (Own port) → at (gained i out cs X) c ≡ at X c
  gained-own cs X c port l e = gained-at cs X c (Own port) l e

  pub gained-other : (cs : List Source) (X : Streams T) (c k port : ℕ) → length X ≡ length cs → get cs c ≡ Some (Output k port) → (k ≡ i → ⊥) → at (gained i out cs X) c ≡ at X c
  gained-other cs X c k port l e z = gained-at cs X c (Output k port) l e ∙ ap (λ b. if b then at X c ++ at out port else at X c) (other-test k i z)

  pub gained-same : (cs : List Source) (X : Streams T) (c port : ℕ) → length X ≡ length cs → get cs c ≡ Some (Output i port) → at (gained i out cs X) c ≡ at X c ++ at out port
  gained-same cs X c port l e = gained-at cs X c (Output i port) l e ∙ ap (λ b. if b then at X c ++ at out port else at X c) (same-test i)

-- the tokens of what is known
pub tokens-known : {T : Type 0} (vs : List (Partial T)) (p : ℕ) (xs : List T) → partial_at vs p ≡ Known xs → at (tokens_of vs) p ≡ xs
tokens-known [] p xs e = absurd (cc)
tokens-known {T} (v ∷ vs) zero xs e = by v e
  where
    by : (w : Partial T) → w ≡ Known xs → at (tokens_of (w ∷ vs)) 0 ≡ xs
    by Unknown e = absurd (cc)
    by (Known ys) e = cc
tokens-known {T} (v ∷ vs) (suc p) xs e = by v (tokens-known vs p xs e)
  where
    by : (w : Partial T) → at (tokens_of vs) p ≡ xs → at (tokens_of (w ∷ vs)) (suc p) ≡ xs
    by Unknown h = h
    by (Known ys) h = h

-- a child gained, and what is beside the delays of those that are no deeper stays
module _ {T S : Type 0} (facts : Facts T S) (step : Stepping T S) (before : DeState T) (kids : List S) (inputs : Streams T) (d : S) (s : DeState T) (now : List S) (ls : List (Log T)) (u : Course facts step before kids inputs d s now ls) (i : ℕ) (out : Streams T) where
  abbrev net : Net
  net = s.plan.net

  abbrev more : Streams T
  more = gained i out net.sources s.tokens

  pub more-long : length more ≡ length net.sources
  more-long = gained-long i out net.sources s.tokens ∙ u.channels

  module _ (j : ℕ) (deep : (q port : ℕ) → source_in net j q ≡ Some (Output i port) → get_or (delays_of s j) q false ≡ false → ⊥) where
    same-place : (q : ℕ) → q < length (delays_of s j) → get_or (delays_of s j) q false ≡ false → at (places_at net.places j more) q ≡ at (inputs_of s j) q
    same-place q h g =
        let w = source-there net j q s.tokens u.channels (omega (arith, h, flags-long facts step before kids inputs d s now ls u j)) in
        place-tokens net.places j q more ∙ ap (λ o. tokens_in more o) w.2 ∙ from w.0 w.1 w.3 w.4 ∙ sym (place-tokens net.places j q s.tokens ∙ ap (λ o. tokens_in s.tokens o) w.2)
      where
        from : (c : ℕ) (src : Source) → get net.sources c ≡ Some src → source_in net j q ≡ Some src → at more c ≡ at s.tokens c
        from c (Own port) e f = gained-own i out net.sources s.tokens c port u.channels e
        from c (Output k port) e f = gained-other i out net.sources s.tokens c k port u.channels e (λ z. deep q port (f ∙ ap (λ n. Some (Output n port)) z) g)

    place-long : length (places_at net.places j more) ≡ length (inputs_of s j)
    place-long = places-long net.places j more s.tokens (more-long ∙ sym u.channels)

    pub same-comes : comes false (delays_of s j) (places_at net.places j more) ≡ comes false (delays_of s j) (inputs_of s j)
    same-comes = comes-same (delays_of s j) (places_at net.places j more) (inputs_of s j) place-long same-place

    pub same-beside : beside_delays (delays_of s j) (places_at net.places j more) ≡ beside_delays (delays_of s j) (inputs_of s j)
    same-beside = beside-same (delays_of s j) (places_at net.places j more) (inputs_of s j) place-long same-place

  -- so it is with each child that is no deeper
  pub not-deeper : (j : ℕ) → depth_of s j ≤ depth_of s i → (q port : ℕ) → source_in net j q ≡ Some (Output i port) → get_or (delays_of s j) q false ≡ false → ⊥
  not-deeper j h q port e g = let less = u.lawful.deeper j q i port e g in absurd (omega (arith, h, less))
