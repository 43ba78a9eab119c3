-- A composite of Rendezvous at its start: nothing is gathered, and nothing has still to be put.
use Rattle.std.proofs.Common.{◌≡◌, ℕ, zero, suc, List, [], ◌∷◌, length, refl, ap, subst, ◌∙◌}
use Rattle.pt_meaning.specs.Closed.{Has}
use Rattle.pt_meaning.specs.Process.{Put}
use Rattle.pt_meaning.specs.Rendezvous.{RvPlan, no_tokens, none_gathered, none_to_put, first_places}
use Rattle.pt_meaning.specs.Streams.{at}
use Rattle.pt_laws.specs.SoundRuns.{got_by, count_at}
use Rattle.pt_kinds.specs.Directors.{InPlaces, gathered, due, kept, IsSeated}

-- ---- how long lists are

tokens-long : (T : Type 0) (n : ℕ) → length (no_tokens {T = T} n) ≡ n
tokens-long T zero = refl
tokens-long T (suc n) = ap (λ m. suc m) (tokens-long T n)

got-long : (T : Type 0) (ns : List ℕ) (i : ℕ) → length (got_by (none_gathered {T = T} ns) i) ≡ count_at ns i
got-long T [] i = refl
got-long T (n ∷ ns) zero = tokens-long T n
got-long T (n ∷ ns) (suc i) = got-long T ns i

gathered-long : (T : Type 0) (ns : List ℕ) → length (none_gathered {T = T} ns) ≡ length ns
gathered-long T [] = refl
gathered-long T (n ∷ ns) = ap (λ m. suc m) (gathered-long T ns)

puts-long : (T : Type 0) (ns : List ℕ) → length (none_to_put {T = T} ns) ≡ length ns
puts-long T [] = refl
puts-long T (n ∷ ns) = ap (λ m. suc m) (puts-long T ns)

-- ---- nothing is there

module _ {T : Type 0} where
  none-at : (n q : ℕ) → at (no_tokens {T = T} n) q ≡ []
  none-at zero q = refl
  none-at (suc n) zero = refl
  none-at (suc n) (suc q) = none-at n q

  none-got : (ns : List ℕ) (i q : ℕ) → at (got_by (none_gathered {T = T} ns) i) q ≡ []
  none-got [] i q = refl
  none-got (n ∷ ns) zero q = none-at n q
  none-got (n ∷ ns) (suc i) q = none-got ns i q

  none-put : (ns : List ℕ) (i : ℕ) → at (none_to_put {T = T} ns) i ≡ []
  none-put [] i = refl
  none-put (n ∷ ns) zero = refl
  none-put (n ∷ ns) (suc i) = none-put ns i

  pub seated-first : (p : RvPlan) (count : ℕ) → length p.net.places ≡ count → IsSeated p.net count (first_places {T = T} p)
  seated-first p count counted = record { places = got-long T p.net.places; got_counted = gathered-long T p.net.places ∙ counted; puts_counted = puts-long T p.net.places ∙ counted }

  pub none-in-places : (p : RvPlan) (channel : ℕ) (x : T) → InPlaces p.net (first_places p) channel x → ⊥
  none-in-places p channel x (gathered i q y has) = subst (λ (ys : List T). Has y ys) (none-got p.net.places i q) has
  none-in-places p channel x (due i u has) = subst (λ (us : List (Put T)). Has u us) (none-put p.net.places i) has
  none-in-places p channel x (kept j u has) = subst (λ (us : List (Put T)). Has u us) (none-put p.takes j) has
