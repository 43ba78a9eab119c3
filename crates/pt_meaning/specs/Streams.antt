-- Streams: the tokens of a port, a place or a channel, in order (Kahn 1974).
use Rattle.std.specs.Prelude.{◌≡◌, ℕ, zero, suc, List, [], ◌∷◌, ◌++◌, Bool, true, false, ◌&&◌, nat_eq, length, Option, Some, None}

-- xs is the beginning of ys, and may be all of it
abbrev pub IsPrefix : {T : Type 0} → List T → List T → Type 0
IsPrefix [] ys = Unit {0}
IsPrefix (x ∷ xs) [] = ⊥
IsPrefix (x ∷ xs) (y ∷ ys) = (x ≡ y) × IsPrefix xs ys

-- a list of tokens for each port, place or channel
abbrev pub Streams : Type 0 → Type 0
Streams T = List (List T)

-- the tokens at a number, none where the list is shorter
abbrev pub at : {T : Type 0} → Streams T → ℕ → List T
at [] n = []
at (xs ∷ X) zero = xs
at (xs ∷ X) (suc n) = at X n

-- stream by stream, what X has and then what Y has
abbrev pub joined : {T : Type 0} → Streams T → Streams T → Streams T
joined [] Y = Y
joined (xs ∷ X) [] = xs ∷ X
joined (xs ∷ X) (ys ∷ Y) = (xs ++ ys) ∷ joined X Y

-- the prefix order of streams: as many, and each the beginning of its like
abbrev pub Below : {T : Type 0} → Streams T → Streams T → Type 0
Below [] [] = Unit {0}
Below (xs ∷ X) (ys ∷ Y) = IsPrefix xs ys × Below X Y
Below [] (ys ∷ Y) = ⊥
Below (xs ∷ X) [] = ⊥

-- as many streams, and each as long as its like
abbrev pub same_lengths : {T : Type 0} → Streams T → Streams T → Bool
same_lengths [] [] = true
same_lengths (xs ∷ X) (ys ∷ Y) = nat_eq (length xs) (length ys) && same_lengths X Y
same_lengths [] (ys ∷ Y) = false
same_lengths (xs ∷ X) [] = false

-- a token is present on some stream
abbrev pub any_present : {T : Type 0} → Streams T → Bool
any_present [] = false
any_present ([] ∷ X) = any_present X
any_present ((x ∷ xs) ∷ X) = true

-- what a list has at a number, if it is so long
abbrev pub get : {A : Type 0} → List A → ℕ → Option A
get [] i = None
get (x ∷ xs) zero = Some x
get (x ∷ xs) (suc i) = get xs i

-- the list with what stands at a number changed
abbrev pub change_at : {A : Type 0} → ℕ → (A → A) → List A → List A
change_at i f [] = []
change_at zero f (x ∷ xs) = f x ∷ xs
change_at (suc i) f (x ∷ xs) = x ∷ change_at i f xs
