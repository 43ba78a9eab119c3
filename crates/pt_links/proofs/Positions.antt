-- The first place at which a test passes, of things as they are seen.
use Rattle.std.proofs.Common.{◌≡◌, ℕ, ◌+◌, Bool, cond, Some, List, [], ◌∷◌, map, refl, sym, ap, ◌∙◌}
use Rattle.std.proofs.lemmas.Iterator.Adapters.{position_from-zero}
use Rattle.std.specs.List.{position, position_from}

position_from-map : {X Y : Type 0} (p : Y → Bool) (f : X → Y) (n : ℕ) (xs : List X) → position_from p n (map f xs) ≡ position_from (λ x. p (f x)) n xs
position_from-map p f n [] = refl
position_from-map p f n (x ∷ xs) = ap (λ o. cond (p (f x)) (Some n) o) (position_from-map p f (n + 1) xs)

pub position-map : {X Y : Type 0} (p : Y → Bool) (f : X → Y) (xs : List X) → position p (map f xs) ≡ position (λ x. p (f x)) xs
position-map p f xs = position_from-zero p (map f xs) ∙ position_from-map p f 0 xs ∙ sym (position_from-zero (λ x. p (f x)) xs)

-- keys and things that say the same
pub position-views : {K V X : Type 0} (p : V → Bool) (view : K → V) (key : X → V) (keys : List K) (xs : List X) → map view keys ≡ map key xs → position (λ k. p (view k)) keys ≡ position (λ x. p (key x)) xs
position-views p view key keys xs same = sym (position-map p view keys) ∙ ap (position p) same ∙ position-map p key xs
