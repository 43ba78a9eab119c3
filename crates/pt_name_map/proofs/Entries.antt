-- Entries by their names: which one is first, and what is found after a change.
use Rattle.std.proofs.Common.{◌≡◌, ℕ, zero, suc, ◌+◌, ◌<◌, List, [], ◌∷◌, ◌++◌, length, drop, get_or, set, Bool, true, false, Option, Some, None, if◌then◌else◌, refl, sym, ap, subst, ◌∙◌, arith}
use Rattle.std.specs.Str.{bytes_eq}
use Rattle.std.proofs.lemmas.Slice.Eq.{bytes_eq-Decides}
use Rattle.pt_name_map.specs.declared.name_map.Entry.{Entry}
use Rattle.pt_name_map.specs.NameMap.{listed, or_else, IsPlace}

-- ---- what is left of a list, from one entry on

drop-one : {A : Type 0} (xs : List A) (i : ℕ) (x : A) → i < length xs → x ≡ get_or xs i x → drop i xs ≡ x ∷ drop (i + 1) xs
drop-one [] i x short is = absurd (omega arith)
drop-one (y ∷ ys) zero x short is = ap (λ z. z ∷ ys) (sym is)
drop-one (y ∷ ys) (suc i) x short is = drop-one ys i x (omega arith) is ∙ ap (λ n. x ∷ drop n (y ∷ ys)) (let e : suc (i + 1) ≡ suc i + 1 = omega arith in e)

pub listed-found : {V : Type 0} (es : List (Entry V)) (i : ℕ) (e : Entry V) (name : List ℕ) → i < length es → e ≡ get_or es i e → bytes_eq e.name name ≡ true → listed (drop i es) name ≡ Some e.value
listed-found es i e name short is same =
    ap (λ xs. listed xs name) (drop-one es i e short is) ∙ ap (λ b. if b then Some e.value else listed (drop (i + 1) es) name) same

pub listed-passed : {V : Type 0} (es : List (Entry V)) (i : ℕ) (e : Entry V) (name : List ℕ) → i < length es → e ≡ get_or es i e → bytes_eq e.name name ≡ false → listed (drop i es) name ≡ listed (drop (i + 1) es) name
listed-passed es i e name short is differs =
    ap (λ xs. listed xs name) (drop-one es i e short is) ∙ ap (λ b. if b then Some e.value else listed (drop (i + 1) es) name) differs

pub place-found : {V : Type 0} (es : List (Entry V)) (i : ℕ) (e : Entry V) (name : List ℕ) → i < length es → e ≡ get_or es i e → bytes_eq e.name name ≡ true → ((k : ℕ) → IsPlace (drop i es) name k → IsPlace es name (i + k)) → IsPlace es name i
place-found es i e name short is same from =
    let at : i + 0 ≡ i = omega arith in
    subst (IsPlace es name) at (from 0 (subst (λ xs. IsPlace xs name 0) (sym (drop-one es i e short is)) same))

pub place-passed : {V : Type 0} (es : List (Entry V)) (i : ℕ) (e : Entry V) (name : List ℕ) → i < length es → e ≡ get_or es i e → bytes_eq e.name name ≡ false → ((k : ℕ) → IsPlace (drop i es) name k → IsPlace es name (i + k)) → (k : ℕ) → IsPlace (drop (i + 1) es) name k → IsPlace es name (i + 1 + k)
place-passed es i e name short is differs from k place =
    let at : i + suc k ≡ i + 1 + k = omega arith in
    subst (IsPlace es name) at (from (suc k) (subst (λ xs. IsPlace xs name (suc k)) (sym (drop-one es i e short is)) (differs, place)))

pub place-name : {V : Type 0} (es : List (Entry V)) (name : List ℕ) (k : ℕ) (d : Entry V) → IsPlace es name k → (get_or es k d).name ≡ name
place-name [] name k d place = absurd place
place-name (x ∷ es) name zero d place = (bytes_eq-Decides x.name name).0 place
place-name (x ∷ es) name (suc k) d place = place-name es name k d place.1

-- ---- an entry in place of one of the same name

twice : {A : Type 0} (b : Bool) (u v rest : A) → (if b then u else rest) ≡ (if b then u else if b then v else rest)
twice true u v rest = refl
twice false u v rest = refl

swapped : {A : Type 0} (b c : Bool) (u v rest : A) → (b ≡ true → c ≡ false) → (if c then u else if b then v else rest) ≡ (if b then v else if c then u else rest)
swapped true true u v rest h = let e : true ≡ false = h refl in cc
swapped true false u v rest h = refl
swapped false true u v rest h = refl
swapped false false u v rest h = refl

apart : (own name other : List ℕ) → bytes_eq own name ≡ false → bytes_eq name other ≡ true → bytes_eq own other ≡ false
apart own name other differs same = ap (bytes_eq own) (sym ((bytes_eq-Decides name other).0 same)) ∙ differs

listed-replaced : {V : Type 0} (es : List (Entry V)) (name : List ℕ) (k : ℕ) (e : Entry V) (other : List ℕ) → e.name ≡ name → IsPlace es name k → listed (set es k e) other ≡ (if bytes_eq name other then Some e.value else listed es other)
listed-replaced [] name k e other own place = absurd place
listed-replaced (x ∷ es) name zero e other own place =
    ap (λ n. if bytes_eq n other then Some e.value else listed es other) own
    ∙ twice (bytes_eq name other) (Some e.value) (Some x.value) (listed es other)
    ∙ ap (λ n. if bytes_eq name other then Some e.value else if bytes_eq n other then Some x.value else listed es other) (sym ((bytes_eq-Decides x.name name).0 place))
listed-replaced (x ∷ es) name (suc k) e other own place =
    ap (λ r. if bytes_eq x.name other then Some x.value else r) (listed-replaced es name k e other own place.1)
    ∙ swapped (bytes_eq name other) (bytes_eq x.name other) (Some x.value) (Some e.value) (listed es other) (apart x.name name other place.0)

first : {V : Type 0} (b : Bool) (v : V) (l rest : Option V) → or_else (if b then Some v else l) rest ≡ (if b then Some v else or_else l rest)
first true v l rest = refl
first false v l rest = refl

pub held-replaced : {V : Type 0} (es : List (Entry V)) (name : List ℕ) (k : ℕ) (e : Entry V) (other : List ℕ) (rest : Option V) → e.name ≡ name → IsPlace es name k → or_else (listed (set es k e) other) rest ≡ (if bytes_eq name other then Some e.value else or_else (listed es other) rest)
held-replaced es name k e other rest own place =
    ap (λ o. or_else o rest) (listed-replaced es name k e other own place)
    ∙ first (bytes_eq name other) e.value (listed es other) rest

-- ---- an entry of a new name

behind : {V : Type 0} (b : Bool) (v : V) (l rest : Option V) → (if b then Some v else or_else l rest) ≡ or_else (if b then Some v else l) rest
behind true v l rest = refl
behind false v l rest = refl

listed-added : {V : Type 0} (es : List (Entry V)) (e : Entry V) (other : List ℕ) → listed (es ++ e ∷ []) other ≡ or_else (listed es other) (if bytes_eq e.name other then Some e.value else None)
listed-added [] e other = refl
listed-added (x ∷ es) e other =
    ap (λ r. if bytes_eq x.name other then Some x.value else r) (listed-added es e other)
    ∙ behind (bytes_eq x.name other) x.value (listed es other) (if bytes_eq e.name other then Some e.value else None)

free : {V : Type 0} (es : List (Entry V)) (name other : List ℕ) → listed es name ≡ None → bytes_eq name other ≡ true → listed es other ≡ None
free es name other none same = ap (listed es) (sym ((bytes_eq-Decides name other).0 same)) ∙ none

beside : {V : Type 0} (l : Option V) (b : Bool) (v : V) (rest : Option V) → (b ≡ true → l ≡ None) → or_else l (if b then Some v else rest) ≡ (if b then Some v else or_else l rest)
beside l true v rest none = ap (λ o. or_else o (Some v)) (none refl)
beside l false v rest none = refl

ended : {V : Type 0} (l : Option V) (b : Bool) (v : V) (rest : Option V) → or_else (if b then Some v else or_else l None) rest ≡ (if b then Some v else or_else l rest)
ended l true v rest = refl
ended (Some w) false v rest = refl
ended None false v rest = refl

-- it ends the list
pub held-added : {V : Type 0} (es : List (Entry V)) (name : List ℕ) (e : Entry V) (other : List ℕ) (rest : Option V) → e.name ≡ name → listed es name ≡ None → or_else (listed (es ++ e ∷ []) other) rest ≡ (if bytes_eq name other then Some e.value else or_else (listed es other) rest)
held-added es name e other rest own none =
    ap (λ o. or_else o rest)
    (listed-added es e other
    ∙ ap (λ n. or_else (listed es other) (if bytes_eq n other then Some e.value else None)) own
    ∙ beside (listed es other) (bytes_eq name other) e.value None (free es name other none))
    ∙ ended (listed es other) (bytes_eq name other) e.value rest

-- it stands outside the list
pub held-beside : {V : Type 0} (es : List (Entry V)) (name other : List ℕ) (v : V) (rest : Option V) → listed es name ≡ None → or_else (listed es other) (if bytes_eq name other then Some v else rest) ≡ (if bytes_eq name other then Some v else or_else (listed es other) rest)
held-beside es name other v rest none = beside (listed es other) (bytes_eq name other) v rest (free es name other none)
