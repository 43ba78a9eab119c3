-- Lists that loops make, one thing more.
use Rattle.std.proofs.Common.{◌≡◌, ℕ, ◌+◌, ◌<◌, ◌≤◌, List, [], ◌∷◌, ◌++◌, length, map, drop, get_or, Bool, true, false, ◌&&◌, Option, Some, None, option_map, option_to_list, filter_map, refl, sym, ap, ◌∙◌, append_assoc, if◌then◌else◌, true≢false}
use Rattle.std.specs.List.{Contains, cons_option, enumerate_from, list_all}
use Rattle.pt_net.proofs.Members.{contains_here, contains_later}
use Rattle.pt_inequalities.proofs.Steps.{drop-one, drop-past, append-none}

-- an element by its place
pub at-place : {A : Type 0} (xs : List A) (i : ℕ) (x : A) → i < length xs → x ≡ get_or xs i x → Contains xs x
at-place xs i x short is = (i, short, sym is)

cons-list : {B : Type 0} (o : Option B) (xs : List B) → cons_option o xs ≡ option_to_list o ++ xs
cons-list None xs = refl
cons-list (Some x) xs = refl

-- what is kept so far with what is left to be looked at is all that is kept: one thing more, and the end
pub kept-more : {A X B : Type 0} (f : ℕ × X → Option B) (view : A → X) (ps : List A) (i : ℕ) (p : A) (out new whole : List B) → i < length ps → p ≡ get_or ps i p → out ++ filter_map f (enumerate_from i (map view (drop i ps))) ≡ whole → new ≡ out ++ option_to_list (f (i, view p)) → new ++ filter_map f (enumerate_from (i + 1) (map view (drop (i + 1) ps))) ≡ whole
kept-more {A = A} {B = B} f view ps i p out new whole short is h more =
    let next : List B = filter_map f (enumerate_from (i + 1) (map view (drop (i + 1) ps))) in
    let one : List B = option_to_list (f (i, view p)) in
    let split : filter_map f (enumerate_from i (map view (drop i ps))) ≡ one ++ next = ap (λ (qs : List A). filter_map f (enumerate_from i (map view qs))) (drop-one ps i p short is) ∙ cons-list (f (i, view p)) next in
    ap (λ (n : List B). n ++ next) more ∙ append_assoc out one next ∙ ap (λ (n : List B). out ++ n) (sym split) ∙ h

pub kept-all : {A X B : Type 0} (f : ℕ × X → Option B) (view : A → X) (ps : List A) (i : ℕ) (out whole : List B) → length ps ≤ i → out ++ filter_map f (enumerate_from i (map view (drop i ps))) ≡ whole → out ≡ whole
kept-all {A = A} f view ps i out whole past h = sym (append-none out) ∙ ap (λ (qs : List A). out ++ filter_map f (enumerate_from i (map view qs))) (sym (drop-past ps i past)) ∙ h

-- nothing is added where a test fails, and one thing where it passes
pub none-added : {B : Type 0} (xs : List B) (b : Bool) (x : B) → b ≡ false → xs ≡ xs ++ option_to_list (if b then Some x else None)
none-added xs b x e = sym (append-none xs) ∙ ap (λ (t : Bool). xs ++ option_to_list (if t then Some x else None)) (sym e)

pub one-added : {B : Type 0} (xs new : List B) (b : Bool) (x : B) → b ≡ true → new ≡ xs ++ x ∷ [] → new ≡ xs ++ option_to_list (if b then Some x else None)
one-added xs new b x e more = more ∙ ap (λ (t : Bool). xs ++ option_to_list (if t then Some x else None)) (sym e)

pub map-through : {A B C : Type 0} (g : B → C) (h : A → B) (o : Option A) → option_map (λ a. g (h a)) o ≡ option_map g (option_map h o)
map-through g h None = refl
map-through g h (Some a) = refl

-- where not all pass a test, one doesn't
pub some-fails : {A : Type 0} (test : A → Bool) (xs : List A) → list_all test xs ≡ false → (x : A) × Contains xs x × (test x ≡ false)
some-fails test [] h = absurd (true≢false h)
some-fails {A = A} test (x ∷ xs) h = by_test (test x) refl (λ later. some-fails test xs later)
  where
    by_test : (b : Bool) → test x ≡ b → (list_all test xs ≡ false → (y : A) × Contains xs y × (test y ≡ false)) → (y : A) × Contains (x ∷ xs) y × (test y ≡ false)
    by_test false e rest = (x, contains_here x xs, e)
    by_test true e rest =
        let r = rest (ap (λ b. b && list_all test xs) (sym e) ∙ h) in
        (r.0, contains_later x xs r.0 r.1, r.2)
