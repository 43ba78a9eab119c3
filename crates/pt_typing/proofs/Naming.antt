-- The types of names, one name after the other.
use Rattle.std.proofs.Common.{◌≡◌, ℕ, zero, suc, ◌+◌, ◌<◌, ◌≤◌, Bool, true, false, List, [], ◌∷◌, ◌++◌, length, map, take, get_or, Option, Some, None, if◌then◌else◌, refl, sym, ap, ◌∙◌, arith}
use Rattle.std.specs.Str.{bytes_eq}
use Rattle.std.specs.List.{AllZip}
use Rattle.std.proofs.lemmas.List.{take_more}
use Rattle.pt_types.specs.declared.ty.Ty.{Ty}
use Rattle.pt_datatypes.specs.Datatype.{Datatype}
use Rattle.pt_datatypes.specs.Normal.{normal}
use Rattle.pt_types.specs.Ty.{type_of, written}
use Rattle.pt_language.specs.Types.{Types, or_else}
use Rattle.pt_typing.specs.Terms.{named, itself}
use Rattle.pt_typing.specs.Views.{known_entry}

pub take-past : {A : Type 0} (xs : List A) (n : ℕ) → length xs ≤ n → take n xs ≡ xs
take-past [] zero h = refl
take-past [] (suc n) h = refl
take-past (x ∷ xs) zero h = absurd (omega arith)
take-past (x ∷ xs) (suc n) h = ap (λ ys. x ∷ ys) (take-past xs n (omega arith))

pub take-one : {A : Type 0} (xs : List A) (i : ℕ) (x : A) → i < length xs → x ≡ get_or xs i x → take (i + 1) xs ≡ take i xs ++ x ∷ []
take-one xs i x short is = take_more xs i x short ∙ ap (λ y. take i xs ++ y ∷ []) (sym is)

pub map-push : {A B : Type 0} (f : A → B) (xs : List A) (x : A) → map f (xs ++ x ∷ []) ≡ map f xs ++ f x ∷ []
map-push f [] x = refl
map-push f (y ∷ ys) x = ap (λ zs. f y ∷ zs) (map-push f ys x)

pub zip-push : {A B : Type 0} (R : A → B → Type 0) (xs : List A) (ys : List B) (x : A) (y : B) → AllZip R xs ys → R x y → AllZip R (xs ++ x ∷ []) (ys ++ y ∷ [])
zip-push R [] [] x y h r = (r, tt)
zip-push R [] (z ∷ ys) x y h r = absurd h
zip-push R (z ∷ xs) [] x y h r = absurd h
zip-push R (w ∷ xs) (z ∷ ys) x y h r = (h.0, zip-push R xs ys x y h.1 r)

bound-by : (b : Bool) (t : Datatype) (old : Option Datatype) → (if b then Some t else old) ≡ or_else (if b then Some t else None) old
bound-by true t old = refl
bound-by false t old = refl

or_else-assoc : (a b c : Option Datatype) → or_else a (or_else b c) ≡ or_else (or_else a b) c
or_else-assoc (Some x) b c = refl
or_else-assoc None b c = refl

or_else-None : (a : Option Datatype) → a ≡ or_else a None
or_else-None (Some x) = refl
or_else-None None = refl

named-last : {V : Type 0} (f : V → Datatype) (xs : List (List ℕ × V)) (x : List ℕ × V) (name : List ℕ) → or_else (if bytes_eq x.0 name then Some (f x.1) else None) (named f xs name) ≡ named f (xs ++ x ∷ []) name
named-last f [] x name = sym (or_else-None _)
named-last f (y ∷ xs) x name = or_else-assoc (if bytes_eq x.0 name then Some (f x.1) else None) (named f xs name) (if bytes_eq y.0 name then Some (f y.1) else None) ∙ ap (λ o. or_else o (if bytes_eq y.0 name then Some (f y.1) else None)) (named-last f xs x name)

-- one name more that has a type
pub known-more : (known : List (List ℕ × Ty)) (i : ℕ) (item : List ℕ × Ty) (n : List ℕ) (t : Ty) (old new : Types) → i < length known → item ≡ get_or known i item → n ≡ item.0 → written t ≡ written item.1 → ((name : List ℕ) → old name ≡ named itself (map known_entry (take i known)) name) → ((name : List ℕ) → new name ≡ (if bytes_eq n name then Some (type_of t) else old name)) → (name : List ℕ) → new name ≡ named itself (map known_entry (take (i + 1) known)) name
known-more known i item n t old new short is e w h k name =
    let before : List (List ℕ × Datatype) = map known_entry (take i known) in
    let same : type_of t ≡ type_of item.1 = ap normal w in
    k name
    ∙ (λ j. if bytes_eq (e j) name then Some (same j) else h name j)
    ∙ bound-by (bytes_eq item.0 name) (type_of item.1) (named itself before name)
    ∙ named-last itself before (known_entry item) name
    ∙ ap (λ xs. named itself xs name) (sym (map-push known_entry (take i known) item) ∙ ap (map known_entry) (sym (take-one known i item short is)))

-- one variable more
pub ports-more : {V : Type 0} (f : V → Datatype) (ports : List (List ℕ × V)) (known : List (List ℕ × Datatype)) (i : ℕ) (item : List ℕ × V) (n : List ℕ) (t : Datatype) (old new : Types) → i < length ports → item ≡ get_or ports i item → n ≡ item.0 → t ≡ f item.1 → ((name : List ℕ) → old name ≡ or_else (named f (take i ports) name) (named itself known name)) → ((name : List ℕ) → new name ≡ (if bytes_eq n name then Some t else old name)) → (name : List ℕ) → new name ≡ or_else (named f (take (i + 1) ports) name) (named itself known name)
ports-more f ports known i item n t old new short is e w h k name =
    let before = named f (take i ports) name in
    let behind = named itself known name in
    k name
    ∙ (λ j. if bytes_eq (e j) name then Some (w j) else h name j)
    ∙ bound-by (bytes_eq item.0 name) (f item.1) (or_else before behind)
    ∙ or_else-assoc (if bytes_eq item.0 name then Some (f item.1) else None) before behind
    ∙ ap (λ o. or_else o behind) (named-last f (take i ports) item name ∙ ap (λ xs. named f xs name) (sym (take-one ports i item short is)))
