-- How many children have had no turn, and which rows a child has left.
use Rattle.std.proofs.Common.{◌≡◌, ℕ, zero, suc, List, [], ◌∷◌, false, length, map, get_or, set, if◌then◌else◌, refl, ap, sym}
use Rattle.pt_meaning.specs.Streams.{Streams}
use Rattle.pt_de_laws.specs.State.{Turn, Waits, Answered, Over, Asked, DeState, waiting_in, rows_left, rows_for, inputs_of, after_fired, asked}
use Rattle.pt_de_laws.proofs.PlaceLaws.{same-test, other-test}

-- as a reaction begins no child has had its turn
pub all-wait : (ns : List ℕ) → waiting_in (map (λ n. Waits) ns) ≡ length ns
all-wait [] = refl
all-wait (n ∷ ns) = ap (λ k. suc k) (all-wait ns)

-- one waits less
pub one-waits-less : (ts : List Turn) (i : ℕ) (t : Turn) → get_or ts i Over ≡ Waits → (t ≡ Waits → ⊥) → suc (waiting_in (set ts i t)) ≡ waiting_in ts
one-waits-less [] i t e z = absurd (cc)
one-waits-less (Waits ∷ ts) zero Waits e z = absurd (z refl)
one-waits-less (Waits ∷ ts) zero Answered e z = refl
one-waits-less (Waits ∷ ts) zero Over e z = refl
one-waits-less (Answered ∷ ts) zero t e z = absurd (cc)
one-waits-less (Over ∷ ts) zero t e z = absurd (cc)
one-waits-less (Waits ∷ ts) (suc i) t e z = ap (λ k. suc k) (one-waits-less ts i t e z)
one-waits-less (Answered ∷ ts) (suc i) t e z = one-waits-less ts i t e z
one-waits-less (Over ∷ ts) (suc i) t e z = one-waits-less ts i t e z

-- or as many wait
pub as-many-wait : (ts : List Turn) (i : ℕ) (t : Turn) → (get_or ts i Over ≡ Waits → ⊥) → (t ≡ Waits → ⊥) → waiting_in (set ts i t) ≡ waiting_in ts
as-many-wait [] i t e z = refl
as-many-wait (Waits ∷ ts) zero t e z = absurd (e refl)
as-many-wait (Answered ∷ ts) zero Waits e z = absurd (z refl)
as-many-wait (Answered ∷ ts) zero Answered e z = refl
as-many-wait (Answered ∷ ts) zero Over e z = refl
as-many-wait (Over ∷ ts) zero Waits e z = absurd (z refl)
as-many-wait (Over ∷ ts) zero Answered e z = refl
as-many-wait (Over ∷ ts) zero Over e z = refl
as-many-wait (Waits ∷ ts) (suc i) t e z = ap (λ k. suc k) (as-many-wait ts i t e z)
as-many-wait (Answered ∷ ts) (suc i) t e z = as-many-wait ts i t e z
as-many-wait (Over ∷ ts) (suc i) t e z = as-many-wait ts i t e z

module _ {T : Type 0} where
  -- a child that is asked to fire has all of its rows left
  pub rows-asked : (s : DeState T) (i : ℕ) → rows_left (asked i s).stage i ≡ rows_for (get_or s.roles.whole i false) (inputs_of s i)
  rows-asked s i = ap (λ b. if b then rows_for (get_or s.roles.whole i false) (inputs_of s i) else []) (same-test i)

  -- and the others have none
  pub rows-others : (i j : ℕ) (rows : List (Streams T)) → (j ≡ i → ⊥) → rows_left (Asked i rows) j ≡ []
  rows-others i j rows z = ap (λ b. if b then rows else []) (other-test i j (λ e. z (sym e)))

  -- once it has fired on a row it has the others left
  pub rows-fired : (i : ℕ) (X : Streams T) (Xs : List (Streams T)) → rows_left (after_fired (Asked i (X ∷ Xs))) i ≡ Xs
  rows-fired i X [] = refl
  rows-fired i X (Y ∷ Ys) = ap (λ b. if b then Y ∷ Ys else []) (same-test i)
