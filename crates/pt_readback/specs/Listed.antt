-- Things that are printed one after another, and what is read of them from the front of a text.
use Rattle.std.specs.Prelude.{◌≡◌, ℕ, ◌+◌, ◌≤◌, List, [], ◌∷◌, ◌++◌, ◌==◌, Bool, false, take, drop, length, slice_index, All, Option, Some, option_map, Result, Ok, Err}
use Rattle.std.specs.List.{position}
use Rattle.pt_language.specs.Descent.{◌>>=◌}
use Rattle.pt_readback.specs.declared.fault.ReportFault.{ReportFault}
use Rattle.pt_readback.specs.declared.fault.ReportFault.TheVariants.{Shape, Memory}

-- the first byte of a text, or 0
abbrev pub front : List ℕ → ℕ
front text = slice_index text 0

-- what stands before the first mark, and what follows it
abbrev pub cut : ℕ → List ℕ → Option (List ℕ × List ℕ)
cut mark text = option_map (λ i. (take i text, drop (i + 1) text)) (position (λ c. c == mark) text)

-- two parts, each up to its mark, and what follows them
abbrev pub cut_two : ℕ → ℕ → List ℕ → Option (List ℕ × List ℕ × List ℕ)
cut_two first second text = cut first text >>= λ a. cut second a.1 >>= λ b. Some (a.0, b.0, b.1)

-- three such parts
abbrev pub cut_three : ℕ → ℕ → ℕ → List ℕ → Option (List ℕ × List ℕ × List ℕ × List ℕ)
cut_three first second third text = cut first text >>= λ a. cut_two second third a.1 >>= λ b. Some (a.0, b.0, b.1, b.2)

-- what was answered, seen by view, is this, unless memory ran out
abbrev pub Finds : {X Y : Type 0} → (X → Y) → Result X ReportFault → Y → Type 0
Finds view (Ok x) y = view x ≡ y
Finds view (Err fault) y = fault ≡ Memory

-- the text of things that follow some earlier ones, on which the text of each may depend
abbrev pub listed : {X : Type 0} → (List X → X → List ℕ) → List X → List X → List ℕ
listed say earlier [] = []
listed say earlier (x ∷ xs) = say earlier x ++ listed say (earlier ++ x ∷ []) xs

-- whatever lawful thing begins a text, with nothing directly after it that it can't stop at, it is found, with what follows it
abbrev pub ReadsOne : {X R : Type 0} → (List X → X → List ℕ) → (X → Type 0) → (ℕ → Bool) → List ℕ → (R → X × List ℕ) → Result R ReportFault → Type 0
ReadsOne {X} say P stop text view result = (earlier : List X) (x : X) (after : List ℕ) → P x → stop (front after) ≡ false → say earlier x ++ after ≡ text → Finds view result (x, after)

-- whatever lawful things begin a text, with nothing directly after them that would begin another, all are found, with what follows them
abbrev pub ReadsAll : {X R : Type 0} → (List X → X → List ℕ) → (X → Type 0) → (ℕ → Bool) → (ℕ → Bool) → List ℕ → (R → List X × List ℕ) → Result R ReportFault → Type 0
ReadsAll {X} say P begins stop text view result = (all : List X) (after : List ℕ) → All P all → begins (front after) ≡ false → stop (front after) ≡ false → listed say [] all ++ after ≡ text → Finds view result (all, after)

-- of things in a text some are read, and the rest of the text tells the others and what follows them
pub record Left {X : Type 0} (say : List X → X → List ℕ) (P : X → Type 0) (read all : List X) (after rest : List ℕ) : Type 0 where
  pub others : List X
  pub is : all ≡ read ++ others
  pub lawful : All P others
  pub printed : listed say read others ++ after ≡ rest

-- whatever lawful things begin a text, these of them are read, each of its kind, and this is the rest of the text
pub record SoFar {X : Type 0} (say : List X → X → List ℕ) (P F : X → Type 0) (begins stop : ℕ → Bool) (text : List ℕ) (read : List X) (rest : List ℕ) : Type 0 where
  pub left : (all : List X) (after : List ℕ) → All P all → begins (front after) ≡ false → stop (front after) ≡ false → listed say [] all ++ after ≡ text → Left say P read all after rest
  pub kind : All F read
  pub within : length rest ≤ length text
