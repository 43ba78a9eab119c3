-- How a line ends whose meeting is told by a place.
use Rattle.std.proofs.Common.{◌≡◌, ℕ, List, ◌++◌, append_assoc, codes, decimal}

pub place_line : (child port : List ℕ) (n : ℕ) → codes "meet " ++ (child ++ (codes "." ++ (port ++ (codes "." ++ (decimal n ++ codes "\n"))))) ≡ (codes "meet " ++ (child ++ (codes "." ++ (port ++ (codes "." ++ decimal n))))) ++ codes "\n"
place_line child port n = simp append_assoc
