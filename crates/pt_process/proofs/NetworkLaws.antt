-- Reading the tables of a network.
use Rattle.std.proofs.Common.{◌≡◌, ℕ, zero, suc, ◌+◌, ◌<◌, ◌≤◌, List, [], ◌∷◌, length, map, take, get_or, Option, Some, refl, sym, ap, ◌∙◌, arith}
use Rattle.pt_meaning.specs.Running.{total}
use Rattle.pt_reaction.proofs.OffsetLaws.{begins-at, begins-long}
use Rattle.pt_pn_laws.specs.State.{offset_of}
use Rattle.pt_process.specs.declared.network.Network.TheInside.{Inside}
use Rattle.pt_process.specs.Network.{IsSound}
use Rattle.pt_meaning.specs.Streams.{Streams, at, get}

-- the element that is read at a number
pub get-read : {A B : Type 0} (f : A → B) (xs : List A) (i : ℕ) (x : A) → i < length xs → x ≡ get_or xs i x → get (map f xs) i ≡ Some (f x)
get-read f [] i x h e = absurd (omega (arith, h))
get-read f (y ∷ xs) zero x h e = ap (λ v. Option.Some (f v)) (sym e)
get-read f (y ∷ xs) (suc i) x h e = get-read f xs i x (omega (arith, h)) e

pub at-read : {T : Type 0} (X : Streams T) (i : ℕ) (xs : List T) → i < length X → xs ≡ get_or X i xs → xs ≡ at X i
at-read [] i xs h e = absurd (omega (arith, h))
at-read (y ∷ X) zero xs h e = e
at-read (y ∷ X) (suc i) xs h e = at-read X i xs (omega (arith, h)) e

pub at-get-or : {T : Type 0} (X : Streams T) (i : ℕ) → at X i ≡ get_or X i []
at-get-or [] i = refl
at-get-or (y ∷ X) zero = refl
at-get-or (y ∷ X) (suc i) = at-get-or X i

pub offset-long : (n : Inside) → IsSound n → length n.offsets.items ≡ suc (length n.plan.places)
offset-long n w = ap (λ v. length v) w.offsets ∙ begins-long 0 n.plan.places

pub offset-is : (n : Inside) → IsSound n → (i : ℕ) → i ≤ length n.plan.places → (v : ℕ) → v ≡ get_or n.offsets.items i v → v ≡ offset_of n.plan.places i
offset-is n w i h v e =
    same (get_or n.offsets.items i v) v (get_or n.offsets.items i 0) (sym e) (other n.offsets.items i v (let l = offset-long n w in omega (arith, l, h))) ∙ ap (λ x. get_or x i 0) w.offsets ∙ begins-at 0 n.plan.places i h ∙ none (total (take i n.plan.places))
  where
    same : (a v b : ℕ) → a ≡ v → a ≡ b → v ≡ b
    same a v b e f = sym e ∙ f

    none : (t : ℕ) → 0 + t ≡ t
    none t = omega arith

    other : (xs : List ℕ) (i v : ℕ) → i < length xs → get_or xs i v ≡ get_or xs i 0
    other [] i v h = absurd (omega (arith, h))
    other (x ∷ xs) zero v h = refl
    other (x ∷ xs) (suc i) v h = other xs i v (omega (arith, h))
