-- The ranks of channels: one of them is changed, and which is the least.
use Rattle.std.proofs.Common.{◌≡◌, ◌⊎◌, inl, inr, ℕ, zero, suc, ◌<◌, ◌≤◌, List, [], ◌∷◌, Bool, true, false, ◌&&◌, ◌||◌, nat_eq, nat_lt, nat_le, length, set, get_or, Option, Some, None, if◌then◌else◌, refl, sym, ap, ◌∙◌, arith}
use Rattle.std.proofs.lemmas.Bool.{leb-false, eqb-true, false≢true}
use Rattle.std.proofs.lemmas.Bool.Decides.{nat_tests}
use Rattle.pt_meaning.specs.Tag.{Tag, tag_le, earlier, least}
use Rattle.pt_pn.specs.Noted.{Noted, rank_of, ranked}
use Rattle.pt_wakes.proofs.Earlier.{earlier-none}
use Rattle.pt_wakes.proofs.NodeLaws.{absorbed}

-- one rank is changed
pub rank-now : (R : List (Option Tag)) (x : Option Tag) (c : ℕ) → c < length R → get_or (set R c x) c None ≡ x
rank-now [] x c h = absurd (omega (arith, h))
rank-now (r ∷ R) x zero h = refl
rank-now (r ∷ R) x (suc c) h = rank-now R x c (omega (arith, h))

pub rank-stays : (R : List (Option Tag)) (x y : Option Tag) (c d : ℕ) → get_or R d None ≡ y → (c ≡ d → x ≡ y) → get_or (set R c x) d None ≡ y
rank-stays [] x y c d e f = e
rank-stays (r ∷ R) x y zero zero e f = f refl
rank-stays (r ∷ R) x y zero (suc d) e f = e
rank-stays (r ∷ R) x y (suc c) zero e f = e
rank-stays (r ∷ R) x y (suc c) (suc d) e f = rank-stays R x y c d e (λ q. f (ap (λ k. suc k) q))

-- it is what it was, or that of no channel
pub rank-as-is : (R : List (Option Tag)) (x : Option Tag) (c : ℕ) → get_or R c None ≡ x → c < length R → set R c x ≡ R
rank-as-is [] x c e h = refl
rank-as-is (r ∷ R) x zero e h = ap (λ v. v ∷ R) (sym e)
rank-as-is (r ∷ R) x (suc c) e h = ap (λ v. r ∷ v) (rank-as-is R x c e (omega (arith, h)))

pub rank-past : (R : List (Option Tag)) (x : Option Tag) (c : ℕ) → length R ≤ c → set R c x ≡ R
rank-past [] x c h = refl
rank-past (r ∷ R) x zero h = absurd (omega (arith, h))
rank-past (r ∷ R) x (suc c) h = ap (λ v. r ∷ v) (rank-past R x c (omega (arith, h)))

pub past-ranks : (s m : Noted) → s ≡ m → (o : Option ℕ) (c : ℕ) → length s.ranks ≤ c → s ≡ ranked o c m
past-ranks s m v o c l = ap (λ (R : List (Option Tag)). with_ranks R s) (sym (rank-past s.ranks (rank_of o c) c l)) ∙ ap (λ x. ranked o c x) v
  where
    with_ranks : List (Option Tag) → Noted → Noted
    with_ranks R x = record { settled = x.settled; resting = x.resting; tokens = x.tokens; rooms = x.rooms; writers = x.writers; readers = x.readers; ranks = R }

past-none : (R : List (Option Tag)) (c : ℕ) → length R ≤ c → get_or R c None ≡ None
past-none [] c h = refl
past-none (r ∷ R) zero h = absurd (omega (arith, h))
past-none (r ∷ R) (suc c) h = past-none R c (omega (arith, h))

split : (i k : ℕ) → (i < k) ⊎ (k ≤ i)
split i k = grind arith

-- where there is no least, no channel has a rank
pub none-ranked : (R : List (Option Tag)) (c : ℕ) → least R ≡ None → get_or R c None ≡ None
none-ranked R c e = by (split c (length R))
  where
    by : (c < length R) ⊎ (length R ≤ c) → get_or R c None ≡ None
    by (inl l) = sym (earlier-none (get_or R c None)) ∙ ap (λ v. earlier (get_or R c None) v) (sym e) ∙ absorbed R c l ∙ e
    by (inr l) = past-none R c l

-- each rank is the least or comes after it
abbrev pub IsNoLater : Tag → Tag → Type 0
IsNoLater t x = (t.time < x.time) ⊎ ((t.time ≡ x.time) × (t.step ≤ x.step))

not-before : (x t : Tag) → tag_le x t ≡ false → IsNoLater t x
not-before x t h = by (nat_lt x.time t.time) refl (nat_eq x.time t.time) refl (nat_le x.step t.step) refl h
  where
    less : (a b : ℕ) → nat_lt a b ≡ false → nat_eq a b ≡ false → b < a
    less a b p q = grind (arith, nat_tests)

    by : (a : Bool) → nat_lt x.time t.time ≡ a → (b : Bool) → nat_eq x.time t.time ≡ b → (d : Bool) → nat_le x.step t.step ≡ d → (a || (b && d)) ≡ false → IsNoLater t x
    by true p b q d r h = absurd (false≢true (sym h))
    by false p true q true r h = absurd (false≢true (sym h))
    by false p true q false r h = let y = leb-false x.step t.step r in inr (sym (eqb-true x.time t.time q), omega (arith, y))
    by false p false q d r h = inl (less x.time t.time p q)

pub least-first : (R : List (Option Tag)) (c : ℕ) (t x : Tag) → least R ≡ Some t → get_or R c None ≡ Some x → IsNoLater t x
least-first R c t x e g = by (split c (length R))
  where
    no-some : (x : Tag) → Option.None ≡ Option.Some x → ⊥
    no-some x e = cc

    some-is : (x y : Tag) → Option.Some x ≡ Option.Some y → x ≡ y
    some-is x y e = cc

    chosen : (b : Bool) → tag_le x t ≡ b → (if b then Some x else Some t) ≡ Some t → IsNoLater t x
    chosen true h z = let q = some-is x t z in inr (ap (λ (y : Tag). y.time) (sym q), let k = ap (λ (y : Tag). y.step) q in omega (arith, k))
    chosen false h z = not-before x t h

    by : (c < length R) ⊎ (length R ≤ c) → IsNoLater t x
    by (inl l) = chosen (tag_le x t) refl (ap (λ v. earlier v (Some t)) (sym g) ∙ ap (λ v. earlier (get_or R c None) v) (sym e) ∙ absorbed R c l ∙ e)
    by (inr l) = absurd (no-some x (sym (past-none R c l) ∙ g))
