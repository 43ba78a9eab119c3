-- Processes side by side, and which of them may fire.
use Rattle.std.specs.Prelude.{◌≡◌, ℕ, ◌<◌, List, Bool, true, false, not, length, map, get_or}
use Rattle.pt_meaning.specs.Process.{at_rest}
use Rattle.pt_value.specs.declared.token.Token.{Token}
use Rattle.pt_rv_work.specs.Core.{Standing, nobody, next_of}

-- whether each of them may fire
abbrev pub fires_in : List (Standing Token) → List Bool
fires_in ps = map (λ p. not (at_rest (next_of p))) ps

-- none of them may fire
abbrev pub AllAtRest : List (Standing Token) → Type 0
AllAtRest ps = (i : ℕ) → i < length ps → at_rest (next_of (get_or ps i nobody)) ≡ true

-- none of them has handed over what it gathered
abbrev pub NoneHanded : List (Standing Token) → Type 0
NoneHanded ps = (i : ℕ) → (get_or ps i nobody).handed ≡ false
