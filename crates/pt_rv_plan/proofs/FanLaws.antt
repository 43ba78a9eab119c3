-- The channels that begin at each source, channel by channel.
use Rattle.std.proofs.Common.{◌≡◌, ℕ, zero, suc, ◌+◌, ◌<◌, ◌≤◌, List, [], ◌∷◌, ◌++◌, Bool, true, false, ◌&&◌, nat_eq, length, map, set, take, get_or, refl, sym, ap, ap₂, subst, ◌∙◌, arith, append-nil, zero-add, Vec, Global}
use Rattle.std.proofs.lemmas.List.{get_or-set_same, get_or-set_other, map_more, length-map, length-take-le}
use Rattle.std.proofs.lemmas.Bool.Decides.{nat_tests}
use Rattle.pt_meaning.specs.Net.{Source, Own, Output}
use Rattle.pt_core.specs.declared.source.Source as plan
use Rattle.pt_core.specs.declared.source.Source.TheVariants as declared
use Rattle.pt_core.specs.Source.{source_of}
use Rattle.pt_meaning.specs.Process.{channels_from, listed_if, is_source}
use Rattle.pt_puts.specs.Fans.{IsNamed, RowMore, fan_at, fans_in, row_in}
use Rattle.pt_rv_plan.specs.Plan.{AreFans, FansMore, row_of, port_of}

listed-then : (b : Bool) (c : ℕ) (xs ys : List ℕ) → listed_if b c (xs ++ ys) ≡ listed_if b c xs ++ ys
listed-then true c xs ys = refl
listed-then false c xs ys = refl

channels-push : (c : ℕ) (s : Source) (ss : List Source) (d : Source) → channels_from c s (ss ++ (d ∷ [])) ≡ channels_from c s ss ++ listed_if (is_source s d) (c + length ss) []
channels-push c s [] d = ap (λ k. listed_if (is_source s d) k []) (plus c)
  where
    plus : (c : ℕ) → c ≡ c + 0
    plus c = omega arith
channels-push c s (x ∷ ss) d =
    ap (λ v. listed_if (is_source s x) c v) (channels-push (suc c) s ss d) ∙ listed-then (is_source s x) c (channels_from (suc c) s ss) (listed_if (is_source s d) (suc c + length ss) []) ∙
    ap (λ k. listed_if (is_source s x) c (channels_from (suc c) s ss) ++ listed_if (is_source s d) k []) (moved c (length ss))
  where
    moved : (c n : ℕ) → suc c + n ≡ c + suc n
    moved c n = omega arith

-- one channel more
fans-more : (n : ℕ) (before : List Source) (d : Source) (c : ℕ) (F F' : List (List (List ℕ))) → AreFans n before F → c ≡ length before → FansMore n d c F F' → AreFans n (before ++ (d ∷ [])) F'
fans-more n before d c F F' a e m s h =
    m s h ∙ ap₂ (λ v k. v ++ listed_if (is_source s d) k []) (a s h) (e ∙ sym (zero-add (length before))) ∙ sym (channels-push 0 s before d)

pub no-fans : (n : ℕ) (F : List (List (List ℕ))) → ((i : ℕ) → get_or F i [] ≡ []) → AreFans n [] F
no-fans n F h s w = ap (λ v. get_or v (port_of s) []) (h (row_of n s))

nat-same : (c : ℕ) → nat_eq c c ≡ false → ⊥
nat-same c e = absurd (grind (arith, nat_tests))

-- two sources with one row differ by their ports
same-row : (n : ℕ) (s d : Source) → IsNamed n s → IsNamed n d → nat_eq (row_of n s) (row_of n d) ≡ true → nat_eq (port_of s) (port_of d) ≡ is_source s d
same-row n (Own j) (Own k) hs hd e = refl
same-row n (Own j) (Output i p) hs hd e = absurd (let z : n ≡ i = grind (arith, nat_tests) in omega (arith, z, hd))
same-row n (Output i p) (Own k) hs hd e = absurd (let z : i ≡ n = grind (arith, nat_tests) in omega (arith, z, hs))
same-row n (Output i p) (Output j q) hs hd e = ap (λ b. b && nat_eq p q) (sym e)

other-row : (n : ℕ) (s d : Source) → nat_eq (row_of n s) (row_of n d) ≡ false → is_source s d ≡ false
other-row n (Own j) (Own k) e = absurd (nat-same n e)
other-row n (Own j) (Output i p) e = refl
other-row n (Output i p) (Own k) e = refl
other-row n (Output i p) (Output j q) e = ap (λ b. b && nat_eq p q) e

-- a change of one row
row-fans : (n : ℕ) (d : Source) (c : ℕ) (F : List (List (List ℕ))) (row : List (List ℕ)) → IsNamed n d → row_of n d < length F → RowMore (port_of d) c (get_or F (row_of n d) []) row → FansMore n d c F (set F (row_of n d) row)
row-fans n d c F row w l m s h = by (nat_eq (row_of n s) (row_of n d)) refl
  where
    by : (b : Bool) → nat_eq (row_of n s) (row_of n d) ≡ b → fan_at (set F (row_of n d) row) (row_of n s) (port_of s) ≡ fan_at F (row_of n s) (port_of s) ++ listed_if (is_source s d) c []
    by true e =
        let z : row_of n s ≡ row_of n d = grind (arith, nat_tests) in
        ap (λ k. get_or (get_or (set F (row_of n d) row) k []) (port_of s) []) z ∙ ap (λ v. get_or v (port_of s) []) (get_or-set_same F (row_of n d) row [] l) ∙ m (port_of s) ∙
        ap₂ (λ k b. get_or (get_or F k []) (port_of s) [] ++ listed_if b c []) (sym z) (same-row n s d h w e)
    by false e =
        let z : row_of n s ≡ row_of n d → ⊥ = λ w. absurd (grind (arith, nat_tests)) in
        ap (λ v. get_or v (port_of s) []) (get_or-set_other F (row_of n d) (row_of n s) row [] z) ∙ sym (append-nil (fan_at F (row_of n s) (port_of s))) ∙ ap (λ b. fan_at F (row_of n s) (port_of s) ++ listed_if b c []) (sym (other-row n s d e))

-- a row of rows that is changed
pub fans-set : (n : ℕ) (d : Source) (rows : List (Vec (Vec ℕ Global) Global)) (i : ℕ) (v w : Vec (Vec ℕ Global) Global) (p c : ℕ) → IsNamed n d → i ≡ row_of n d → p ≡ port_of d → i < length rows → v ≡ get_or rows i v → RowMore p c (row_in v.items) (row_in w.items) → FansMore n d c (fans_in rows) (fans_in (set rows i w))
fans-set n d rows i v w p c named z y l e m s h =
    ap (λ F. fan_at F (row_of n s) (port_of s)) (changed rows i w ∙ ap (λ j. set (fans_in rows) j (row_in w.items)) z) ∙
    row-fans n d c (fans_in rows) (row_in w.items) named (subst (λ j. j < length (fans_in rows)) z (long rows l)) (subst (λ q. RowMore q c (get_or (fans_in rows) (row_of n d) []) (row_in w.items)) y (subst (λ r. RowMore p c r (row_in w.items)) (there rows i v l e ∙ ap (λ j. get_or (fans_in rows) j []) z) m)) s h
  where
    changed : (rows : List (Vec (Vec ℕ Global) Global)) (i : ℕ) (w : Vec (Vec ℕ Global) Global) → fans_in (set rows i w) ≡ set (fans_in rows) i (row_in w.items)
    changed [] i w = refl
    changed (x ∷ rows) zero w = refl
    changed (x ∷ rows) (suc i) w = ap (λ v. row_in x.items ∷ v) (changed rows i w)

    long : (rows : List (Vec (Vec ℕ Global) Global)) → i < length rows → i < length (fans_in rows)
    long rows l = let n = length-map rows (λ (r : Vec (Vec ℕ Global) Global). row_in r.items) in omega (arith, n, l)

    there : (rows : List (Vec (Vec ℕ Global) Global)) (i : ℕ) (v : Vec (Vec ℕ Global) Global) → i < length rows → v ≡ get_or rows i v → row_in v.items ≡ get_or (fans_in rows) i []
    there [] i v l e = absurd (omega (arith, l))
    there (x ∷ rows) zero v l e = ap (λ (r : Vec (Vec ℕ Global) Global). row_in r.items) e
    there (x ∷ rows) (suc i) v l e = there rows i v (omega (arith, l)) e

pub fans-next : (n : ℕ) (ss : List plan.Source) (k : ℕ) (F F' : List (List (List ℕ))) → k < length ss → AreFans n (map source_of (take k ss)) F → FansMore n (source_of (get_or ss k (declared.Own 0))) k F F' → AreFans n (map source_of (take (k + 1) ss)) F'
fans-next n ss k F F' h a m =
    let before : List Source = map source_of (take k ss) in
    let s : Source = source_of (get_or ss k (declared.Own 0)) in
    let more : map source_of (take (k + 1) ss) ≡ before ++ s ∷ [] = map_more source_of ss k (declared.Own 0) h in
    let long : k ≡ length before = sym (length-map (take k ss) source_of ∙ length-take-le k ss (omega (arith, h))) in
    subst (λ v. AreFans n v F') (sym more) (fans-more n before s k F F' a long m)

pub fans-all : (n : ℕ) (ss : List plan.Source) (k : ℕ) (F : List (List (List ℕ))) → length ss ≤ k → AreFans n (map source_of (take k ss)) F → AreFans n (map source_of ss) F
fans-all n ss k F h a = subst (λ v. AreFans n (map source_of v) F) (all ss k h) a
  where
    all : (ss : List plan.Source) (k : ℕ) → length ss ≤ k → take k ss ≡ ss
    all [] zero h = refl
    all [] (suc k) h = refl
    all (s ∷ ss) zero h = absurd (omega (arith, h))
    all (s ∷ ss) (suc k) h = ap (λ v. s ∷ v) (all ss k (omega (arith, h)))
