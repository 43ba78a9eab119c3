-- The turns of children bs marks.
use Rattle.std.proofs.Common.{◌≡◌, ℕ, zero, suc, ◌<◌, List, [], ◌∷◌, Bool, true, false, ◌&&◌, not, length, get_or, set, replicate, refl, sym, ap, ap₂, ◌∙◌, arith, true≢false}
use Rattle.pt_de_laws.specs.State.{Turn, Waits, Answered, Over}
use Rattle.pt_de_due.specs.Due.{is_waiting}
use Rattle.pt_de_parts.specs.Turns.{turn_of, turns_in}

pub turns-long : (bs os : List Bool) → length bs ≡ length os → length (turns_in bs os) ≡ length bs
turns-long [] os e = refl
turns-long (a ∷ bs) [] e = absurd (omega (arith, e))
turns-long (a ∷ bs) (o ∷ os) e = ap (λ n. suc n) (turns-long bs os (omega (arith, e)))

pub turn-at : (bs os : List Bool) (i : ℕ) → length bs ≡ length os → i < length bs → get_or (turns_in bs os) i Over ≡ turn_of (get_or bs i false) (get_or os i false)
turn-at [] os i e h = absurd (omega (arith, h))
turn-at (a ∷ bs) [] i e h = absurd (omega (arith, e))
turn-at (a ∷ bs) (o ∷ os) zero e h = refl
turn-at (a ∷ bs) (o ∷ os) (suc i) e h = turn-at bs os i (omega (arith, e)) (omega (arith, h))

pub neither-waits : (a o : Bool) → (not o && not a) ≡ is_waiting (turn_of a o)
neither-waits true true = refl
neither-waits false true = refl
neither-waits true false = refl
neither-waits false false = refl

pub answered-set : (bs os : List Bool) (i : ℕ) → length bs ≡ length os → get_or (turns_in bs os) i Over ≡ Waits → turns_in (set bs i true) os ≡ set (turns_in bs os) i Answered
answered-set [] os i e h = refl
answered-set (a ∷ bs) [] i e h = absurd (omega (arith, e))
answered-set (a ∷ bs) (o ∷ os) zero e h = ap (λ t. t ∷ turns_in bs os) (one a o h)
  where
    one : (a o : Bool) → turn_of a o ≡ Waits → turn_of true o ≡ Answered
    one true true h = absurd (true≢false (ap (λ t. not (is_waiting t)) h))
    one false true h = absurd (true≢false (ap (λ t. not (is_waiting t)) h))
    one true false h = absurd (true≢false (ap (λ t. not (is_waiting t)) h))
    one false false h = refl
answered-set (a ∷ bs) (o ∷ os) (suc i) e h = ap (λ v. turn_of a o ∷ v) (answered-set bs os i (omega (arith, e)) h)

pub over-set : (bs os : List Bool) (i : ℕ) → length bs ≡ length os → turns_in bs (set os i true) ≡ set (turns_in bs os) i Over
over-set [] os i e = refl
over-set (a ∷ bs) [] i e = absurd (omega (arith, e))
over-set (true ∷ bs) (o ∷ os) zero e = refl
over-set (false ∷ bs) (o ∷ os) zero e = refl
over-set (a ∷ bs) (o ∷ os) (suc i) e = ap (λ v. turn_of a o ∷ v) (over-set bs os i (omega (arith, e)))

pub none-turned : (n : ℕ) → turns_in (replicate n false) (replicate n false) ≡ replicate n Waits
none-turned zero = refl
none-turned (suc n) = ap (λ v. Waits ∷ v) (none-turned n)

pub fresh-turns : (n : ℕ) (bs os : List Bool) → bs ≡ replicate n false → os ≡ replicate n false → turns_in bs os ≡ replicate n Waits
fresh-turns n bs os e f = ap₂ (λ x y. turns_in x y) e f ∙ none-turned n

pub cleared-turns : (bs os bs' os' : List Bool) → length bs ≡ length os → bs' ≡ replicate (length bs) false → os' ≡ replicate (length os) false → turns_in bs' os' ≡ replicate (length (turns_in bs os)) Waits
cleared-turns bs os bs' os' l e f = fresh-turns (length bs) bs' os' e (f ∙ ap (λ n. replicate n false) (sym l)) ∙ ap (λ n. replicate n Waits) (sym (turns-long bs os l))

-- a child that is seen is marked or not
pub turn-there : (bs os : List Bool) (now : List Turn) (i : ℕ) → length bs ≡ length os → turns_in bs os ≡ now → i < length now → i < length bs
turn-there bs os now i l v h = let a = turns-long bs os l in let b = ap (λ ts. length ts) v in omega (arith, a, b, h)

pub waits-is : (bs os : List Bool) (now : List Turn) (i : ℕ) (a o : Bool) → length bs ≡ length os → turns_in bs os ≡ now → i < length now → a ≡ get_or bs i false → o ≡ get_or os i false → (not o && not a) ≡ is_waiting (get_or now i Over)
waits-is bs os now i a o l v h p q = neither-waits a o ∙ ap₂ (λ x y. is_waiting (turn_of x y)) p q ∙ ap (λ t. is_waiting t) (sym (turn-at bs os i l (turn-there bs os now i l v h))) ∙ ap (λ ts. is_waiting (get_or ts i Over)) v
