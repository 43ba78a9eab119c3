-- The needs of children, place by place.
use Rattle.std.proofs.Common.{◌≡◌, ℕ, zero, suc, ◌+◌, ◌<◌, List, [], ◌∷◌, ◌++◌, length, take, drop, Some, refl, sym, ap, ap₂, ◌∙◌, arith, length-drop}
use Rattle.std.proofs.lemmas.List.{take-append-le, drop-append-le, take-append-drop, length-take-le}
use Rattle.std.proofs.Math.Seq.{take-length}
use Rattle.pt_meaning.specs.Streams.{get}
use Rattle.pt_meaning.specs.Machine.{Counts, Facts}
use Rattle.pt_meaning.specs.Running.{total}
use Rattle.pt_sdf_parts.specs.ByNeed.{needs_of, planned}

module _ {T S : Type 0} (facts : Facts T S) where
  pub needs-append : (xs ys : List S) → needs_of facts (xs ++ ys) ≡ needs_of facts xs ++ needs_of facts ys
  needs-append [] ys = refl
  needs-append (x ∷ xs) ys = ap (λ v. facts.need x ∷ v) (needs-append xs ys)

  pub needs-length : (xs : List S) → length (needs_of facts xs) ≡ length xs
  needs-length [] = refl
  needs-length (x ∷ xs) = ap (λ n. suc n) (needs-length xs)

pub planned-length : (ps ns : List ℕ) → length (planned ps ns) ≡ length ps
planned-length [] ns = refl
planned-length (p ∷ ps) ns = ap (λ n. suc n) (planned-length ps (drop p ns))

pub total-append : (ps qs : List ℕ) → total (ps ++ qs) ≡ total ps + total qs
total-append [] qs = omega arith
total-append (p ∷ ps) qs = omega (arith, total-append ps qs)

-- one child more
pub planned-snoc : (ps : List ℕ) (p : ℕ) (ns ms : List ℕ) → length ns ≡ total ps → length ms ≡ p → planned (ps ++ p ∷ []) (ns ++ ms) ≡ planned ps ns ++ Counts ms ∷ []
planned-snoc [] p [] ms h e = ap (λ v. Counts v ∷ []) (ap (λ n. take n ms) (sym e) ∙ take-length ms)
planned-snoc [] p (n ∷ ns) ms h e = absurd (omega (arith, h))
planned-snoc (q ∷ ps) p ns ms h e =
    let here : take q (ns ++ ms) ≡ take q ns = take-append-le q ns ms (omega (arith, h)) in
    let rest : drop q (ns ++ ms) ≡ drop q ns ++ ms = drop-append-le q ns ms (omega (arith, h)) in
    ap₂ (λ v w. Counts v ∷ w) here (ap (λ v. planned (ps ++ p ∷ []) v) rest ∙ planned-snoc ps p (drop q ns) ms (omega (arith, h, length-drop q ns)) e)

-- what the plan says of one child
pub need-at : {T S : Type 0} (facts : Facts T S) (kids : List S) (ps ns : List ℕ) → needs_of facts kids ≡ planned ps ns → length ns ≡ total ps → (i : ℕ) (kid : S) (p : ℕ) → get kids i ≡ Some kid → get ps i ≡ Some p →
    (ms : List ℕ) × (facts.need kid ≡ Counts ms) × (length ms ≡ p)
need-at facts [] ps ns e h i kid p g q = absurd (cc)
need-at facts (k ∷ kids) [] ns e h i kid p g q = absurd (cc)
need-at facts (k ∷ kids) (r ∷ ps) ns e h zero kid p g q =
    let same : k ≡ kid = cc in
    let many : r ≡ p = cc in
    let need : facts.need k ≡ Counts (take r ns) = cc in
    (take r ns, ap (λ v. facts.need v) (sym same) ∙ need, length-take-le r ns (omega (arith, h)) ∙ many)
need-at facts (k ∷ kids) (r ∷ ps) ns e h (suc i) kid p g q =
    let rest : needs_of facts kids ≡ planned ps (drop r ns) = cc in
    need-at facts kids ps (drop r ns) rest (omega (arith, h, length-drop r ns)) i kid p g q

-- a plan has one list
pub planned-same : (ps ns ms : List ℕ) → length ns ≡ total ps → length ms ≡ total ps → planned ps ns ≡ planned ps ms → ns ≡ ms
planned-same [] [] [] h g e = refl
planned-same [] (n ∷ ns) ms h g e = absurd (omega (arith, h))
planned-same [] [] (m ∷ ms) h g e = absurd (omega (arith, g))
planned-same (p ∷ ps) ns ms h g e =
    let first : take p ns ≡ take p ms = cc in
    let rest : planned ps (drop p ns) ≡ planned ps (drop p ms) = cc in
    sym (take-append-drop p ns) ∙ ap₂ (λ v w. v ++ w) first (planned-same ps (drop p ns) (drop p ms) (omega (arith, h, length-drop p ns)) (omega (arith, g, length-drop p ms)) rest) ∙ take-append-drop p ms

-- an element that a list has at a number
pub get-length : {A : Type 0} (xs : List A) (i : ℕ) (x : A) → get xs i ≡ Some x → i < length xs
get-length [] i x e = absurd (cc)
get-length (y ∷ xs) zero x e = omega arith
get-length (y ∷ xs) (suc i) x e = omega (arith, get-length xs i x e)
