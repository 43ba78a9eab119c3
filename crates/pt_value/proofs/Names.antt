-- Names by their bytes: which are the same, and which come first.
use Rattle.std.proofs.Common.{◌≡◌, ℕ, ◌+◌, ◌<◌, true, false, List, [], length, get_or, cond, count_by, refl, sym, ap, ◌∙◌, arith, is_lt}
use Rattle.std.specs.Str.{bytes_eq}
use Rattle.std.specs.Ordering.{nat_cmp, ordering_reverse, is_eq}
use Rattle.std.specs.Cmp.Lexicographic.{slice_cmp, nat_list_cmp_total}
use Rattle.std.specs.declared.cmp.Ordering.{Ordering}
use Rattle.std.specs.declared.cmp.Ordering.TheVariants.{Less, Equal, Greater}
use Rattle.std.proofs.lemmas.Slice.Eq.{bytes_eq-Decides}
use Rattle.std.proofs.lemmas.Map.Text.{is_eq-slice_cmp}
use Rattle.std.proofs.lemmas.List.Sums.{count_by_more_yes, sum_by-take-drop}
use Rattle.pt_value.specs.Record.{IsBelow}

abbrev pub compare : List ℕ → List ℕ → Ordering
compare = slice_cmp nat_cmp

pub bytes_eq-same : (m n : List ℕ) → m ≡ n → bytes_eq m n ≡ true
bytes_eq-same m n = (bytes_eq-Decides m n).1

false_by : (m n : List ℕ) → (m ≡ n → ⊥) → (b : _) → bytes_eq m n ≡ b → b ≡ false
false_by m n d true e = absurd (d ((bytes_eq-Decides m n).0 e))
false_by m n d false e = refl

pub bytes_eq-differ : (m n : List ℕ) → (m ≡ n → ⊥) → bytes_eq m n ≡ false
bytes_eq-differ m n d = false_by m n d (bytes_eq m n) refl

pub Equal-same : (m n : List ℕ) → compare m n ≡ Equal → m ≡ n
Equal-same m n e = (bytes_eq-Decides m n).0 (sym (is_eq-slice_cmp m n) ∙ ap (λ r. is_eq r) e)

pub same-Equal : (m n : List ℕ) (r : Ordering) → compare m n ≡ r → m ≡ n → r ≡ Equal
same-Equal m n Equal e h = refl
same-Equal m n Less e h = let b : false ≡ true = sym (ap (λ r. is_eq r) e) ∙ is_eq-slice_cmp m n ∙ bytes_eq-same m n h in cc
same-Equal m n Greater e h = let b : false ≡ true = sym (ap (λ r. is_eq r) e) ∙ is_eq-slice_cmp m n ∙ bytes_eq-same m n h in cc

below_by : (r : Ordering) → is_lt (ordering_reverse r) ≡ false → (r ≡ Equal → ⊥) → r ≡ Less
below_by Less h d = refl
below_by Equal h d = absurd (d refl)
below_by Greater h d = cc

-- the first isn't after the second, and they differ
pub IsBelow-from_sorted : (m n : List ℕ) → is_lt (compare n m) ≡ false → (m ≡ n → ⊥) → IsBelow m n
IsBelow-from_sorted m n h d = below_by (compare m n) (sym (ap is_lt (nat_list_cmp_total.antisymm n m)) ∙ h) (λ e. d (Equal-same m n e))

pub IsBelow-differ : (m n : List ℕ) → IsBelow m n → m ≡ n → ⊥
IsBelow-differ m n h e = let b : Less ≡ Equal = sym h ∙ same-Equal m n (compare m n) refl e in cc

pub IsBelow-trans : (l m n : List ℕ) → IsBelow l m → IsBelow m n → IsBelow l n
IsBelow-trans = nat_list_cmp_total.trans

-- a name that two neighbours have counts twice
pub count_by-neighbours : (ns : List (List ℕ)) (i : ℕ) (n : List ℕ) → i + 1 < length ns → get_or ns i [] ≡ n → get_or ns (i + 1) [] ≡ n → 1 < count_by (bytes_eq n) ns
count_by-neighbours ns i n short first second =
    let a : bytes_eq n (get_or ns i []) ≡ true = bytes_eq-same n (get_or ns i []) (sym first) in
    let b : bytes_eq n (get_or ns (i + 1) []) ≡ true = bytes_eq-same n (get_or ns (i + 1) []) (sym second) in
    omega (arith, count_by_more_yes (bytes_eq n) ns i [] (omega arith) a, count_by_more_yes (bytes_eq n) ns (i + 1) [] short b, sum_by-take-drop (λ m. cond (bytes_eq n m) 1 0) ns ((i + 1) + 1))
