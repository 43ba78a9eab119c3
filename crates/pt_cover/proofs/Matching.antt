-- The numbers of those elements of a list that pass a test: each number is among them once or never.
use Rattle.std.proofs.Common.{◌≡◌, ℕ, zero, suc, ◌+◌, ◌<◌, ◌≤◌, List, [], ◌∷◌, Bool, true, false, cond, nat_eq, Some, length, refl, ap, ◌∙◌, subst, arith}
use Rattle.std.proofs.lemmas.Bool.{eq-eqb, ne_eqb}
use Rattle.std.proofs.lemmas.Option.{none-some, same_Some}
use Rattle.std.specs.List.{slice_get}
use Rattle.pt_net.specs.declared.net.NetEntity.{NetEntity}
use Rattle.pt_net.specs.declared.net.NetPort.{NetPort}
use Rattle.pt_net.specs.Inside.{child_if, is_child, children_from}
use Rattle.pt_trees.specs.Recorded.{numbers_from}

-- one or none
abbrev pub one_if : Bool → ℕ
one_if b = cond b 1 0

-- how often a number stands in a list
abbrev pub times_in : ℕ → List ℕ → ℕ
times_in n [] = 0
times_in n (m ∷ ms) = one_if (nat_eq n m) + times_in n ms

-- the numbers of the elements that pass, from number i on
abbrev pub matching : {X : Type 0} → (X → Bool) → ℕ → List X → List ℕ
matching f i [] = []
matching f i (x ∷ xs) = child_if (f x) i (matching f (suc i) xs)

pub children-match : (c i : ℕ) (es : List NetEntity) → children_from c i es ≡ matching (is_child c) i es
children-match c i [] = refl
children-match c i (e ∷ es) = ap (child_if (is_child c e) i) (children-match c (suc i) es)

pub numbers-match : (k i : ℕ) (ports : List NetPort) → numbers_from k i ports ≡ matching (λ port. nat_eq port.entity k) i ports
numbers-match k i [] = refl
numbers-match k i (port ∷ ports) = ap (child_if (nat_eq port.entity k) i) (numbers-match k (suc i) ports)

times-if : (n i : ℕ) (ms : List ℕ) (b : Bool) → times_in n (child_if b i ms) ≡ cond b (one_if (nat_eq n i)) 0 + times_in n ms
times-if n i ms true = refl
times-if n i ms false = omega arith

-- a smaller number isn't there
times-before : {X : Type 0} (f : X → Bool) (n i : ℕ) (xs : List X) → n < i → times_in n (matching f i xs) ≡ 0
times-before f n i [] l = refl
times-before f n i (x ∷ xs) l =
    let other : nat_eq n i ≡ false = ne_eqb n i (λ e. omega (arith, e, l)) in
    let rest = times-before f n (suc i) xs (omega (arith, l)) in
    times-if n i (matching f (suc i) xs) (f x) ∙ ap (λ b. cond (f x) (one_if b) 0 + times_in n (matching f (suc i) xs)) other ∙ ap (λ m. cond (f x) 0 0 + m) rest ∙ nothing (f x)
  where
    nothing : (b : Bool) → cond b 0 0 + 0 ≡ 0
    nothing true = refl
    nothing false = refl

-- the number of an element is there once, if it passes
pub times-matching : {X : Type 0} (f : X → Bool) (i d : ℕ) (xs : List X) (x : X) → slice_get xs d ≡ Some x → times_in (i + d) (matching f i xs) ≡ one_if (f x)
times-matching f i d [] x at = absurd (none-some x at)
times-matching f i zero (y ∷ xs) x at =
    let same : nat_eq (i + 0) i ≡ true = eq-eqb (i + 0) i (omega arith) in
    times-if (i + 0) i (matching f (suc i) xs) (f y) ∙ ap (λ b. cond (f y) (one_if b) 0 + times_in (i + 0) (matching f (suc i) xs)) same ∙ ap (λ m. one_if (f y) + m) (times-before f (i + 0) (suc i) xs (omega arith)) ∙ (let z : one_if (f y) + 0 ≡ one_if (f y) = omega arith in z) ∙ ap (λ v. one_if (f v)) (same_Some y x at)
times-matching f i (suc d) (y ∷ xs) x at =
    let other : nat_eq (i + suc d) i ≡ false = ne_eqb (i + suc d) i (λ e. omega (arith, e)) in
    let next : suc i + d ≡ i + suc d = omega arith in
    let rest : times_in (i + suc d) (matching f (suc i) xs) ≡ one_if (f x) = subst (λ n. times_in n (matching f (suc i) xs) ≡ one_if (f x)) next (times-matching f (suc i) d xs x at) in
    times-if (i + suc d) i (matching f (suc i) xs) (f y) ∙ ap (λ b. cond (f y) (one_if b) 0 + times_in (i + suc d) (matching f (suc i) xs)) other ∙ ap (λ m. cond (f y) 0 0 + m) rest ∙ nothing (f y)
  where
    nothing : (b : Bool) → cond b 0 0 + one_if (f x) ≡ one_if (f x)
    nothing true = omega arith
    nothing false = omega arith

-- all of these numbers are below this
abbrev pub AllBelow : ℕ → List ℕ → Type 0
AllBelow count [] = Unit {0}
AllBelow count (m ∷ ms) = (m < count) × AllBelow count ms

below-if : (count i : ℕ) (ms : List ℕ) (b : Bool) → i < count → AllBelow count ms → AllBelow count (child_if b i ms)
below-if count i ms true l rest = (l, rest)
below-if count i ms false l rest = rest

pub matching-below : {X : Type 0} (f : X → Bool) (count i : ℕ) (xs : List X) → i + length xs ≤ count → AllBelow count (matching f i xs)
matching-below f count i [] l = tt
matching-below f count i (x ∷ xs) l = below-if count i (matching f (suc i) xs) (f x) (omega (arith, l)) (matching-below f count (suc i) xs (omega (arith, l)))

-- each of these numbers is that of an element that passes
abbrev pub AllPass : {X : Type 0} → (X → Bool) → List X → List ℕ → Type 0
AllPass f all [] = Unit {0}
AllPass {X} f all (m ∷ ms) = ((x : X) × (slice_get all m ≡ Some x) × (f x ≡ true)) × AllPass f all ms

pass-if : {X : Type 0} (f : X → Bool) (all : List X) (m : ℕ) (x : X) (ms : List ℕ) (b : Bool) → f x ≡ b → slice_get all m ≡ Some x → AllPass f all ms → AllPass f all (child_if b m ms)
pass-if f all m x ms true passes at rest = ((x, at, passes), rest)
pass-if f all m x ms false fails at rest = rest

passes-from : {X : Type 0} (f : X → Bool) (all : List X) (i : ℕ) (xs : List X) → ((d : ℕ) (x : X) → slice_get xs d ≡ Some x → slice_get all (i + d) ≡ Some x) → AllPass f all (matching f i xs)
passes-from f all i [] same = tt
passes-from {X = X} f all i (x ∷ xs) same =
    let here : i + 0 ≡ i = omega arith in
    pass-if f all i x (matching f (suc i) xs) (f x) refl (subst (λ (n : ℕ). slice_get all n ≡ Some x) here (same 0 x refl)) (passes-from f all (suc i) xs later)
  where
    later : (d : ℕ) (y : X) → slice_get xs d ≡ Some y → slice_get all (suc i + d) ≡ Some y
    later d y at = let next : i + suc d ≡ suc i + d = omega arith in subst (λ (n : ℕ). slice_get all n ≡ Some y) next (same (suc d) y at)

pub matching-passes : {X : Type 0} (f : X → Bool) (xs : List X) → AllPass f xs (matching f 0 xs)
matching-passes f xs = passes-from f xs 0 xs (λ d x at. (let here : d ≡ 0 + d = omega arith in subst (λ (n : ℕ). slice_get xs n ≡ Some x) here at))

-- where none passes there are none
pub matching-none : {X : Type 0} (f : X → Bool) (i : ℕ) (xs : List X) → ((d : ℕ) (x : X) → slice_get xs d ≡ Some x → f x ≡ false) → matching f i xs ≡ []
matching-none f i [] fails = refl
matching-none f i (x ∷ xs) fails = ap (λ (b : Bool). child_if b i (matching f (suc i) xs)) (fails 0 x refl) ∙ matching-none f (suc i) xs (λ d y at. fails (suc d) y at)
