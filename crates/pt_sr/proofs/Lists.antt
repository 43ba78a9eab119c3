-- Lists, by number.
use Rattle.std.proofs.Common.{◌≡◌, ℕ, zero, suc, ◌<◌, List, [], ◌∷◌, length, get_or, arith, refl}
use Rattle.pt_meaning.specs.Streams.{Streams, at}

-- the element that is read at a number, whatever stands for one past the end
pub read-at : {X : Type 0} (xs : List X) (i : ℕ) (x d : X) → i < length xs → x ≡ get_or xs i x → x ≡ get_or xs i d
read-at [] i x d h e = absurd (omega arith)
read-at (y ∷ xs) zero x d h e = e
read-at (y ∷ xs) (suc i) x d h e = read-at xs i x d (omega arith) e

pub at-is : {T : Type 0} (X : Streams T) (c : ℕ) → at X c ≡ get_or X c []
at-is [] c = refl
at-is (x ∷ X) zero = refl
at-is (x ∷ X) (suc c) = at-is X c
