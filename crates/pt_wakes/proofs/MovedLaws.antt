-- The children that become due, one by one.
use Rattle.std.proofs.Common.{◌≡◌, ℕ, zero, suc, ◌<◌, Bool, false, ◌||◌, List, [], ◌∷◌, length, get_or, Option, refl, ap, ◌∙◌, arith}
use Rattle.pt_meaning.specs.Tag.{Tag, is_due}
use Rattle.pt_wakes.specs.Wakes.{NoneIsDue, wake_of}
use Rattle.pt_wakes.specs.Due.{DueSet}
use Rattle.pt_wakes.specs.Moved.{woken, with_woken}

woken-none : (tag : Tag) (wakes : List (Option Tag)) (due : List Bool) → length wakes ≡ length due → NoneIsDue tag wakes → woken tag wakes due ≡ due
woken-none tag [] due e h = refl
woken-none tag (w ∷ ws) [] e h = refl
woken-none tag (w ∷ ws) (b ∷ bs) e h = ap (λ t. (t || b) ∷ woken tag ws bs) (h 0 (omega arith)) ∙ ap (λ vs. b ∷ vs) (woken-none tag ws bs (omega (arith, e)) (λ i l. h (suc i) (omega (arith, l))))

pub with-none : (tag : Tag) (wakes : List (Option Tag)) (s : DueSet) → length wakes ≡ length s.due → NoneIsDue tag wakes → with_woken tag wakes s ≡ s
with-none tag wakes s e h = ap (λ due. record { depths = s.depths; due = due }) (woken-none tag wakes s.due e h)

pub woken-long : (tag : Tag) (ws : List (Option Tag)) (bs : List Bool) → length ws ≡ length bs → length (woken tag ws bs) ≡ length bs
woken-long tag [] bs e = refl
woken-long tag (w ∷ ws) [] e = refl
woken-long tag (w ∷ ws) (b ∷ bs) e = ap (λ n. suc n) (woken-long tag ws bs (omega (arith, e)))

pub woken-at : (tag : Tag) (ws : List (Option Tag)) (bs : List Bool) (i : ℕ) → i < length ws → length ws ≡ length bs → get_or (woken tag ws bs) i false ≡ (is_due tag (wake_of ws i) || get_or bs i false)
woken-at tag [] bs i h e = absurd (omega (arith, h))
woken-at tag (w ∷ ws) [] i h e = absurd (omega (arith, e))
woken-at tag (w ∷ ws) (b ∷ bs) zero h e = refl
woken-at tag (w ∷ ws) (b ∷ bs) (suc i) h e = woken-at tag ws bs i (omega (arith, h)) (omega (arith, e))
