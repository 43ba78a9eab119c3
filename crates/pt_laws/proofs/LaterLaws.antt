-- What comes later: its laws, and that firings come later than what was before.
use Rattle.std.proofs.Common.{◌≡◌, ◌⊎◌, ℕ, suc, ◌≤◌, List, [], ◌∷◌, ◌++◌, length, Some, inl, inr, sym, ap, subst, arith, ◌∙◌}
use Rattle.pt_meaning.specs.Basics.{Log, Path, Firing, Event, firings_in, silent, log_then, own}
use Rattle.pt_meaning.specs.Modal.{get}
use Rattle.pt_meaning.specs.Closed.{Has, rounds_of}
use Rattle.pt_laws.specs.SoundRuns.{rest_of_rounds, unmarked, log_in_child}
use Rattle.pt_laws.specs.WholeRuns.{ComesLater, LaterGoesOn}
use Rattle.pt_laws.proofs.ClosedLaws.{has-unmarked, count-unmarked, rounds-unmarked}
use Rattle.pt_laws.proofs.LevelLaws.{has-either, count-append}

pub later-below : {T : Type 0} (l more : Log T) → ((i : ℕ) (r : Path) (e : Event T) → Has e (more (i ∷ r)) → (n : ℕ) × (ns : List ℕ) × (rounds_of e ≡ n ∷ ns) × (firings_in (l []) ≤ n)) → ((i : ℕ) → ComesLater (log_in_child i l) (log_in_child i more)) → ComesLater l more
later-below l more here below [] i r e h = let w = here i r e h in (w.0, ap (λ v. get v 0) w.2, w.3)
later-below {T} l more here below (j ∷ p) i r e h =
    let w = here j (p ++ (i ∷ r)) e h in
    let g = below j p i r (unmarked e) (has-unmarked e (more (j ∷ (p ++ (i ∷ r)))) h) in
    let rest : rounds_of (unmarked e) ≡ w.1 = rounds-unmarked e ∙ ap (λ v. rest_of_rounds v) w.2 in
    (g.0, ap (λ v. get v (suc (length p))) w.2 ∙ sym (ap (λ v. get v (length p)) rest) ∙ g.1, subst (λ v. v ≤ g.0) (count-unmarked (l (j ∷ p))) g.2)

pub later-joins : {T : Type 0} (l a b : Log T) → ComesLater l a → ComesLater (log_then l a) b → ComesLater l (log_then a b)
later-joins {T} l a b f g p i r e h = go (has-either e (a (p ++ (i ∷ r))) (b (p ++ (i ∷ r))) h)
  where
    go : Has e (a (p ++ (i ∷ r))) ⊎ Has e (b (p ++ (i ∷ r))) → (n : ℕ) × (get (rounds_of e) (length p) ≡ Some n) × (firings_in (l p) ≤ n)
    go (inl x) = f p i r e x
    go (inr y) = let w = g p i r e y in (w.0, w.1, omega (arith, w.2, count-append (l p) (a p)))

pub later-weak : {T : Type 0} (l a b : Log T) → ComesLater (log_then l a) b → ComesLater l b
later-weak l a b g p i r e h = let w = g p i r e h in (w.0, w.1, omega (arith, w.2, count-append (l p) (a p)))

pub later-nothing : {T : Type 0} (l : Log T) → ComesLater l silent
later-nothing l p i r e h = absurd h

pub later-own : {T : Type 0} (l : Log T) (f : Firing T) → ComesLater l (own f)
later-own l f [] i r e h = absurd h
later-own l f (j ∷ p) i r e h = absurd h

pub later-goes-on : {T : Type 0} → LaterGoesOn T
later-goes-on = record { below = later-below; joins = later-joins; nothing = later-nothing; of_own = later-own }
