-- The channels that begin at each output, channel by channel.
use Rattle.std.proofs.Common.{◌≡◌, ℕ, zero, suc, ◌+◌, ◌<◌, ◌≤◌, List, [], ◌∷◌, ◌++◌, Bool, true, false, ◌&&◌, nat_eq, length, map, set, take, get_or, refl, sym, ap, ap₂, subst, ◌∙◌, arith, append-nil, zero-add, Vec, Global}
use Rattle.std.proofs.lemmas.List.{get_or-set_same, get_or-set_other, map_more, length-map, length-take-le}
use Rattle.std.proofs.lemmas.Bool.Decides.{nat_tests}
use Rattle.pt_meaning.specs.Net.{Source, Own, Output}
use Rattle.pt_core.specs.declared.source.Source as plan
use Rattle.pt_core.specs.declared.source.Source.TheVariants as declared
use Rattle.pt_core.specs.Source.{source_of}
use Rattle.pt_meaning.specs.Process.{channels_from, listed_if, is_source}
use Rattle.pt_puts.specs.Fans.{fan_at, fans_in, row_in, RowMore}
use Rattle.pt_process.specs.Plan.{AreFans, FansMore}

listed-then : (b : Bool) (c : ℕ) (xs ys : List ℕ) → listed_if b c (xs ++ ys) ≡ listed_if b c xs ++ ys
listed-then true c xs ys = refl
listed-then false c xs ys = refl

channels-push : (c : ℕ) (s : Source) (ss : List Source) (d : Source) → channels_from c s (ss ++ (d ∷ [])) ≡ channels_from c s ss ++ listed_if (is_source s d) (c + length ss) []
channels-push c s [] d = ap (λ k. listed_if (is_source s d) k []) (plus c)
  where
    plus : (c : ℕ) → c ≡ c + 0
    plus c = omega arith
channels-push c s (x ∷ ss) d =
    ap (λ v. listed_if (is_source s x) c v) (channels-push (suc c) s ss d) ∙ listed-then (is_source s x) c (channels_from (suc c) s ss) (listed_if (is_source s d) (suc c + length ss) []) ∙
    ap (λ k. listed_if (is_source s x) c (channels_from (suc c) s ss) ++ listed_if (is_source s d) k []) (moved c (length ss))
  where
    moved : (c n : ℕ) → suc c + n ≡ c + suc n
    moved c n = omega arith

-- one channel more
pub fans-more : (before : List Source) (s : Source) (c : ℕ) (F F' : List (List (List ℕ))) → AreFans before F → c ≡ length before → FansMore s c F F' → AreFans (before ++ (s ∷ [])) F'
fans-more before s c F F' a e m i p =
    m i p ∙ ap₂ (λ v k. v ++ listed_if (is_source (Output i p) s) k []) (a i p) (e ∙ sym (zero-add (length before))) ∙ sym (channels-push 0 (Output i p) before s)

pub no-fans : (F : List (List (List ℕ))) → ((i : ℕ) → get_or F i [] ≡ []) → AreFans [] F
no-fans F h i p = ap (λ v. get_or v p []) (h i)

pub fans-same : (port c : ℕ) (F : List (List (List ℕ))) → FansMore (Own port) c F F
fans-same port c F i p = sym (append-nil (fan_at F i p))

-- a change of the row of one process
pub row-fans : (i p c : ℕ) (F : List (List (List ℕ))) (row : List (List ℕ)) → i < length F → RowMore p c (get_or F i []) row → FansMore (Output i p) c F (set F i row)
row-fans i p c F row l m j q = by (nat_eq j i) refl
  where
    both : (b : Bool) → listed_if (nat_eq q p) c [] ≡ listed_if (true && nat_eq q p) c []
    both b = refl

    by : (b : Bool) → nat_eq j i ≡ b → fan_at (set F i row) j q ≡ fan_at F j q ++ listed_if (nat_eq j i && nat_eq q p) c []
    by true e =
        let z : j ≡ i = grind (arith, nat_tests) in
        ap (λ k. get_or (get_or (set F i row) k []) q []) z ∙ ap (λ v. get_or v q []) (get_or-set_same F i row [] l) ∙ m q ∙
        ap₂ (λ k b. get_or (get_or F k []) q [] ++ listed_if (b && nat_eq q p) c []) (sym z) (sym e)
    by false e =
        let z : j ≡ i → ⊥ = λ w. absurd (grind (arith, nat_tests)) in
        ap (λ v. get_or v q []) (get_or-set_other F i j row [] z) ∙ sym (append-nil (fan_at F j q)) ∙ ap (λ b. fan_at F j q ++ listed_if (b && nat_eq q p) c []) (sym e)

-- a row of rows that is changed
pub fans-set : (rows : List (Vec (Vec ℕ Global) Global)) (i : ℕ) (v w : Vec (Vec ℕ Global) Global) (p c : ℕ) → i < length rows → v ≡ get_or rows i v → RowMore p c (row_in v.items) (row_in w.items) → FansMore (Output i p) c (fans_in rows) (fans_in (set rows i w))
fans-set rows i v w p c l e m j q =
    ap (λ F. fan_at F j q) (changed rows i w) ∙ row-fans i p c (fans_in rows) (row_in w.items) (long rows l) (λ k. m k ∙ ap (λ (r : List (List ℕ)). get_or r k [] ++ listed_if (nat_eq k p) c []) (there rows i v l e)) j q
  where
    changed : (rows : List (Vec (Vec ℕ Global) Global)) (i : ℕ) (w : Vec (Vec ℕ Global) Global) → fans_in (set rows i w) ≡ set (fans_in rows) i (row_in w.items)
    changed [] i w = refl
    changed (x ∷ rows) zero w = refl
    changed (x ∷ rows) (suc i) w = ap (λ v. row_in x.items ∷ v) (changed rows i w)

    long : (rows : List (Vec (Vec ℕ Global) Global)) → i < length rows → i < length (fans_in rows)
    long rows l = let n = length-map rows (λ (r : Vec (Vec ℕ Global) Global). row_in r.items) in omega (arith, n, l)

    there : (rows : List (Vec (Vec ℕ Global) Global)) (i : ℕ) (v : Vec (Vec ℕ Global) Global) → i < length rows → v ≡ get_or rows i v → row_in v.items ≡ get_or (fans_in rows) i []
    there [] i v l e = absurd (omega (arith, l))
    there (x ∷ rows) zero v l e = ap (λ (r : Vec (Vec ℕ Global) Global). row_in r.items) e
    there (x ∷ rows) (suc i) v l e = there rows i v (omega (arith, l)) e

pub fans-next : (n : ℕ) (ss : List plan.Source) (k : ℕ) (F F' : List (List (List ℕ))) → k < length ss → AreFans (map source_of (take k ss)) F → FansMore (source_of (get_or ss k (declared.Own 0))) k F F' → AreFans (map source_of (take (k + 1) ss)) F'
fans-next n ss k F F' h a m =
    let before : List Source = map source_of (take k ss) in
    let s : Source = source_of (get_or ss k (declared.Own 0)) in
    let more : map source_of (take (k + 1) ss) ≡ before ++ s ∷ [] = map_more source_of ss k (declared.Own 0) h in
    let long : k ≡ length before = sym (length-map (take k ss) source_of ∙ length-take-le k ss (omega (arith, h))) in
    subst (λ v. AreFans v F') (sym more) (fans-more before s k F F' a long m)

pub fans-all : (ss : List plan.Source) (k : ℕ) (F : List (List (List ℕ))) → length ss ≤ k → AreFans (map source_of (take k ss)) F → AreFans (map source_of ss) F
fans-all ss k F h a = subst (λ v. AreFans (map source_of v) F) (all ss k h) a
  where
    all : (ss : List plan.Source) (k : ℕ) → length ss ≤ k → take k ss ≡ ss
    all [] zero h = refl
    all [] (suc k) h = refl
    all (s ∷ ss) zero h = absurd (omega (arith, h))
    all (s ∷ ss) (suc k) h = ap (λ v. s ∷ v) (all ss k (omega (arith, h)))

pub fans-own : (s : plan.Source) (port c : ℕ) (F : List (List (List ℕ))) → s ≡ declared.Own port → FansMore (source_of s) c F F
fans-own s port c F e = subst (λ (v : plan.Source). FansMore (source_of v) c F F) (sym e) (fans-same port c F)
