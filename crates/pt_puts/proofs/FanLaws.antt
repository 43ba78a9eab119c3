-- Tables of the channels that begin at each source, and of where those of each process end.
use Rattle.std.proofs.Common.{◌≡◌, ℕ, zero, suc, ◌+◌, ◌<◌, List, [], ◌∷◌, ◌++◌, Bool, true, false, nat_eq, length, map, set, get_or, refl, sym, ap, ap₂, subst, ◌∙◌, arith, append-nil, Vec, Global}
use Rattle.std.proofs.lemmas.List.{get_or-set_same, get_or-set_other, length-map}
use Rattle.std.proofs.Math.ListN.{get_or-map}
use Rattle.std.proofs.lemmas.Bool.Decides.{nat_tests}
use Rattle.std.specs.List.{All}
use Rattle.pt_meaning.specs.Running.{total}
use Rattle.pt_core.specs.declared.source.Source as plan
use Rattle.pt_core.specs.declared.source.Source.TheVariants as declared
use Rattle.pt_core.specs.Source.{source_of}
use Rattle.pt_meaning.specs.Process.{listed_if}
use Rattle.pt_pn_laws.specs.State.{offset_of}
use Rattle.pt_puts.specs.Fans.{IsNamed, fans_in, row_in, RowMore}

-- a channel behind those of a port
pub port-fans : (p c : ℕ) (row : List (List ℕ)) → p < length row → RowMore p c row (set row p (get_or row p [] ++ (c ∷ [])))
port-fans p c row l q = by (nat_eq q p) refl
  where
    by : (b : Bool) → nat_eq q p ≡ b → get_or (set row p (get_or row p [] ++ (c ∷ []))) q [] ≡ get_or row q [] ++ listed_if (nat_eq q p) c []
    by true e =
        let z : q ≡ p = grind (arith, nat_tests) in
        ap (λ k. get_or (set row p (get_or row p [] ++ (c ∷ []))) k []) z ∙ get_or-set_same row p (get_or row p [] ++ (c ∷ [])) [] l ∙ ap₂ (λ k b. get_or row k [] ++ listed_if b c []) (sym z) (sym e)
    by false e =
        let z : q ≡ p → ⊥ = λ w. absurd (grind (arith, nat_tests)) in
        get_or-set_other row p q (get_or row p [] ++ (c ∷ [])) [] z ∙ sym (append-nil (get_or row q [])) ∙ ap (λ b. get_or row q [] ++ listed_if b c []) (sym e)

pub empty-more : (xs : List (List ℕ)) (q : ℕ) → get_or (xs ++ ([] ∷ [])) q [] ≡ get_or xs q []
empty-more [] zero = refl
empty-more [] (suc q) = refl
empty-more (x ∷ xs) zero = refl
empty-more (x ∷ xs) (suc q) = empty-more xs q

pub row-then : (p c : ℕ) (row wide row' : List (List ℕ)) → ((q : ℕ) → get_or wide q [] ≡ get_or row q []) → RowMore p c wide row' → RowMore p c row row'
row-then p c row wide row' h m q = m q ∙ ap (λ v. v ++ listed_if (nat_eq q p) c []) (h q)

-- an empty list behind those of a row
pub row-wider : (row : List (Vec ℕ Global)) (v : Vec ℕ Global) (q : ℕ) → v.items ≡ [] → get_or (row_in (row ++ (v ∷ []))) q [] ≡ get_or (row_in row) q []
row-wider [] v zero e = e
row-wider [] v (suc q) e = refl
row-wider (w ∷ row) v zero e = refl
row-wider (w ∷ row) v (suc q) e = row-wider row v q e

pub fans-wider : (rows : List (Vec (Vec ℕ Global) Global)) (v : Vec (Vec ℕ Global) Global) (i : ℕ) → v.items ≡ [] → ((j : ℕ) → get_or (fans_in rows) j [] ≡ []) → get_or (fans_in (rows ++ (v ∷ []))) i [] ≡ []
fans-wider [] v zero e h = ap (λ w. row_in w) e
fans-wider [] v (suc i) e h = refl
fans-wider (w ∷ rows) v zero e h = h 0
fans-wider (w ∷ rows) v (suc i) e h = fans-wider rows v i e (λ j. h (suc j))

pub named-at : (n : ℕ) (ss : List plan.Source) (k : ℕ) → k < length ss → All (IsNamed n) (map source_of ss) → IsNamed n (source_of (get_or ss k (declared.Own 0)))
named-at n ss k h a = let l = length-map ss source_of in subst (λ v. IsNamed n v) (get_or-map source_of ss k (declared.Own 0)) (a k (source_of (declared.Own 0)) (omega (arith, l, h)))

pub total-whole : (ns : List ℕ) → offset_of ns (length ns) ≡ total ns
total-whole [] = refl
total-whole (m ∷ ns) = ap (λ v. m + v) (total-whole ns)
