-- Where the core stands in an order of stretches.
use Rattle.std.proofs.Common.{◌≡◌, ℕ, zero, suc, ◌+◌, ◌-◌, ◌<◌, ◌≤◌, eqb, List, [], ◌∷◌, ◌++◌, true, false, length, replicate, get_or, nat_eq, refl, ap, sym, ◌∙◌, arith}
use Rattle.std.proofs.lemmas.Bool.{eqb-true, true≢false}
use Rattle.std.proofs.lemmas.Bool.Decides.{nat_tests}
use Rattle.std.proofs.lemmas.List.{length-append, length-replicate, get_or_append_left, get_or-append-add, get_or-replicate, get_or_default}
use Rattle.pt_sched.specs.Stretches.{spread}
use Rattle.pt_sched.specs.declared.stretch.Stretch.{Stretch}
use Rattle.pt_sdf_parts.specs.Stretches.{left_at_first}
use Rattle.pt_sdf_parts.specs.Stretches.{no_stretch, place_at, IsWithin, place_behind, IsAdvanced}

-- the firings of one stretch
abbrev row : Stretch → List ℕ
row stretch = stretch.child ∷ replicate stretch.again stretch.child

row-long : (stretch : Stretch) → length (row stretch) ≡ suc stretch.again
row-long stretch = ap (λ n. suc n) (length-replicate stretch.again stretch.child)

spread-long : (stretch : Stretch) (order : List Stretch) → length (spread (stretch ∷ order)) ≡ suc stretch.again + length (spread order)
spread-long stretch order = length-append (row stretch) (spread order) ∙ ap (λ n. n + length (spread order)) (row-long stretch)

row-child : (stretch : Stretch) (done : ℕ) → done ≤ stretch.again → get_or (row stretch) done 0 ≡ stretch.child
row-child stretch zero h = refl
row-child stretch (suc done) h = get_or-replicate stretch.again done stretch.child 0 (omega (arith, h))

-- a place within an order is one of its firings
pub place-below : (order : List Stretch) (at done : ℕ) → IsWithin order at done → place_at at done order < length (spread order)
place-below [] at done h = absurd (omega (arith, h.there))
place-below (stretch ∷ order) zero done h = omega (arith, h.begun, spread-long stretch order)
place-below (stretch ∷ order) (suc at) done h =
    omega (arith, spread-long stretch order, place-below order at done (record { there = omega (arith, h.there); begun = h.begun }))

-- and that firing is the stretch's child's
pub place-child : (order : List Stretch) (at done : ℕ) → IsWithin order at done → get_or (spread order) (place_at at done order) 0 ≡ (get_or order at no_stretch).child
place-child [] at done h = absurd (omega (arith, h.there))
place-child (stretch ∷ order) zero done h = get_or_append_left (row stretch) (spread order) 0 done (omega (arith, h.begun, row-long stretch)) ∙ row-child stretch done h.begun
place-child (stretch ∷ order) (suc at) done h =
    ap (λ n. get_or (row stretch ++ spread order) (n + place_at at done order) 0) (sym (row-long stretch)) ∙ get_or-append-add (row stretch) (spread order) (place_at at done order) 0 ∙ place-child order at done (record { there = omega (arith, h.there); begun = h.begun })

-- how many firings of the stretch that is read are to come
pub again-read : (order : List Stretch) (at done : ℕ) (stretch : Stretch) → IsWithin order at done → stretch ≡ get_or order at stretch → stretch.again ≡ (get_or order at no_stretch).again
again-read order at done stretch h e = ap (λ (s : Stretch). s.again) (e ∙ get_or_default order at stretch no_stretch h.there)

-- the child that is read is the next of the firings
pub next-child : (order : List Stretch) (at done : ℕ) (stretch : Stretch) → IsWithin order at done → stretch ≡ get_or order at stretch → stretch.child ≡ get_or (spread order) (place_at at done order) stretch.child
next-child order at done stretch h e =
    ap (λ (s : Stretch). s.child) (e ∙ get_or_default order at stretch no_stretch h.there) ∙ sym (place-child order at done h) ∙ get_or_default (spread order) (place_at at done order) 0 stretch.child (place-below order at done h)

-- one more firing of a stretch
place-more : (order : List Stretch) (at done : ℕ) → IsWithin order at done → place_at at (done + 1) order ≡ place_at at done order + 1
place-more order zero done h = refl
place-more [] (suc at) done h = absurd (omega (arith, h.there))
place-more (stretch ∷ order) (suc at) done h = omega (arith, place-more order at done (record { there = omega (arith, h.there); begun = h.begun }))

-- all firings of a stretch, and the next one
place-over : (order : List Stretch) (at : ℕ) → at < length order → place_at (suc at) 0 order ≡ place_at at (get_or order at no_stretch).again order + 1
place-over [] at h = absurd (omega (arith, h))
place-over (stretch ∷ order) zero h = omega arith
place-over (stretch ∷ order) (suc at) h = omega (arith, place-over order at (omega (arith, h)))

-- all firings of the last stretch
place-last : (order : List Stretch) (at : ℕ) → at + 1 ≡ length order → place_at at (get_or order at no_stretch).again order + 1 ≡ length (spread order)
place-last [] at h = absurd (omega (arith, h))
place-last (stretch ∷ []) zero h = omega (arith, spread-long stretch [])
place-last (stretch ∷ (other ∷ order)) zero h = absurd (omega (arith, h))
place-last (stretch ∷ order) (suc at) h = omega (arith, spread-long stretch order, place-last order at (omega (arith, h)))

differs : (a b : ℕ) → a < b → nat_eq a b ≡ false
differs a b h = grind (arith, nat_tests)

agrees : (a b : ℕ) → a ≡ b → nat_eq a b ≡ true
agrees a b e = grind (arith, nat_tests)

-- not the last firing of a turn
before-last : (order : List Stretch) (left at done place' : ℕ) → place_at at done order + 1 ≡ place' → place' < length (spread order) → (left, place') ≡ place_behind (nat_eq (place_at at done order + 1) (length (spread order))) left (place_at at done order)
before-last order left at done place' e h =
    let goes-on : (left, place') ≡ place_behind false left (place_at at done order) = λ i. (left, sym e i) in
    goes-on ∙ ap (λ b. place_behind b left (place_at at done order)) (sym (differs (place_at at done order + 1) (length (spread order)) (omega (arith, e, h))))

pub stays-in-stretch : (order : List Stretch) (left at done : ℕ) → IsWithin order at done → done < (get_or order at no_stretch).again → IsAdvanced order left at done left at (done + 1)
stays-in-stretch order left at done h more =
    let within : IsWithin order at (done + 1) = record { there = h.there; begun = omega (arith, more) } in
    record { place = before-last order left at done (place_at at (done + 1) order) (sym (place-more order at done h)) (place-below order at (done + 1) within); within = within }

pub goes-to-next : (order : List Stretch) (left at done : ℕ) → IsWithin order at done → (get_or order at no_stretch).again ≤ done → at + 1 < length order → IsAdvanced order left at done left (at + 1) 0
goes-to-next order left at done h all there =
    let within : IsWithin order (at + 1) 0 = record { there = there; begun = omega arith } in
    let e : done ≡ (get_or order at no_stretch).again = omega (arith, all, h.begun) in
    let up : suc at ≡ at + 1 = omega arith in
    record { place = before-last order left at done (place_at (at + 1) 0 order) (ap (λ n. place_at at n order + 1) e ∙ sym (place-over order at h.there) ∙ ap (λ n. place_at n 0 order) up) (place-below order (at + 1) 0 within); within = within }

pub ends-turn : (order : List Stretch) (left at done : ℕ) → IsWithin order at done → (get_or order at no_stretch).again ≤ done → at + 1 ≡ length order → IsAdvanced order left at done (left - 1) 0 0
ends-turn order left at done h all last =
    let e : done ≡ (get_or order at no_stretch).again = omega (arith, all, h.begun) in
    let all-made : place_at at done order + 1 ≡ length (spread order) = ap (λ n. place_at at n order + 1) e ∙ place-last order at last in
    let t : nat_eq (place_at at done order + 1) (length (spread order)) ≡ true = agrees (place_at at done order + 1) (length (spread order)) all-made in
    record { place = ap (λ b. place_behind b left (place_at at done order)) (sym t); within = record { there = omega (arith, h.there); begun = omega arith } }

-- where a turn is left there is a first stretch
pub first-within : (order : List Stretch) (turns left : ℕ) → left ≡ left_at_first (spread order) turns → 0 < left → IsWithin order 0 0
first-within [] turns left e h = absurd (omega (arith, e, h))
first-within (stretch ∷ order) turns left e h = record { there = omega arith; begun = omega arith }

-- without a stretch no turn is to be made
pub none-first : (order : List Stretch) (turns : ℕ) → eqb (length order) 0 ≡ true → 0 ≡ left_at_first (spread order) turns
none-first [] turns e = refl
none-first (stretch ∷ order) turns e = absurd (omega (arith, eqb-true (length (stretch ∷ order)) 0 e))

pub all-first : (order : List Stretch) (turns : ℕ) → eqb (length order) 0 ≡ false → turns ≡ left_at_first (spread order) turns
all-first [] turns e = absurd (true≢false e)
all-first (stretch ∷ order) turns e = refl
