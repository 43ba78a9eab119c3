-- What firings in a row take, firing by firing.
use Rattle.std.proofs.Common.{◌≡◌, ℕ, ℤ, zero, suc, ◌+◌, ◌-◌, ◌*◌, ◌<◌, ◌≤◌, List, [], ◌∷◌, length, map, take, drop, get_or, Option, Some, None, refl, ap, sym, subst, ◌∙◌, arith}
use Rattle.std.proofs.Math.Nat.{mul-le-mul_right}
use Rattle.std.proofs.lemmas.List.{length-replicate, get_or-replicate, drop-drop}
use Rattle.pt_meaning.specs.Basics.{Streams}
use Rattle.pt_value.specs.declared.token.Token.{Token}
use Rattle.pt_value.specs.declared.token.Token.TheVariants.{Int}
use Rattle.pt_firing.specs.IntRows.{at_one_place, rows_of, AreFor}

rows-long : (need firings : ℕ) (ns : List ℤ) → length (at_one_place need firings ns) ≡ firings
rows-long need zero ns = refl
rows-long need (suc firings) ns = ap (λ n. suc n) (rows-long need firings (drop need ns))

-- there is one for each firing
pub firings-long : (need : Option ℕ) (firings : ℕ) (ns : List ℤ) → length (rows_of need firings ns) ≡ firings
firings-long (Some need) firings ns = rows-long need firings ns
firings-long None firings ns = length-replicate firings []

-- what a firing takes stands within what all of them take
pub row-within : (need firings k : ℕ) → k < firings → k * need + need ≤ firings * need
row-within need firings k short =
    let more : suc k ≤ firings = omega (arith, short) in
    omega (arith, mul-le-mul_right need more)

-- and is what stands behind that of the firings before
pub row-at : (need firings : ℕ) (ns : List ℤ) (k : ℕ) → k < firings → map Int (take need (drop (k * need) ns)) ∷ [] ≡ get_or (at_one_place need firings ns) k []
row-at need zero ns k short = absurd (omega (arith, short))
row-at need (suc firings) ns zero short = ap (λ n. map Int (take need (drop n ns)) ∷ []) {x = 0 * need} {y = 0} (omega arith)
row-at need (suc firings) ns (suc k) short =
    ap (λ n. map Int (take need (drop n ns)) ∷ []) {x = suc k * need} {y = need + k * need} (omega arith)
    ∙ ap (λ v. map Int (take need v) ∷ []) (sym (drop-drop (k * need) need ns))
    ∙ row-at need firings (drop need ns) k (omega (arith, short))

-- where there is no place nothing is taken
pub nothing-at : (firings k : ℕ) (ns : List ℤ) → k < firings → [] ≡ get_or (rows_of None firings ns) k []
nothing-at firings k ns short = sym (get_or-replicate firings k [] [] short)

-- one of the firings that contracts see
module _ (need : Option ℕ) (firings : ℕ) (ns : List ℤ) (rows : List (Streams Token)) (view : rows_of need firings ns ≡ rows) (k : ℕ) (short : k < length rows) where
  pub row-here : k < firings
  row-here = omega (arith, short, ap (λ v. length v) view, firings-long need firings ns)

  pub row-room : (n : ℕ) → need ≡ Some n → AreFor need firings ns → k * n + n ≤ length ns
  row-room n is enough =
      let room : firings * n ≤ length ns = subst (λ v. AreFor v firings ns) is enough in
      omega (arith, row-within n firings k row-here, room)
