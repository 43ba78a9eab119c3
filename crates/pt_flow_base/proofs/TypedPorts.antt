-- The types of ports, one after another.
use Rattle.std.proofs.Common.{◌≡◌, ℕ, ◌<◌, ◌≤◌, ◌+◌, zero, suc, List, [], ◌∷◌, ◌++◌, length, get_or, drop, map, Option, Some, None, option_map, true, false, refl, sym, ap, ◌∙◌, add-one, drop-cons, arith, if◌then◌else◌}
use Rattle.std.specs.Prelude.{bytes_eq}
use Rattle.std.proofs.lemmas.List.{append_assoc, append-nil, map-append}
use Rattle.pt_datatypes.specs.Datatype.{Datatype}
use Rattle.pt_types.specs.declared.ty.Ty.{Ty}
use Rattle.pt_types.specs.Ty.{type_of}
use Rattle.pt_types.specs.Entry.{typed_entry}
use Rattle.pt_flow_base.specs.PortTypes.{type_named, typed_names, with_typed}

-- some names behind those that are found
abbrev pub behind : List (List ℕ × Datatype) → Option (List (List ℕ × Datatype)) → Option (List (List ℕ × Datatype))
behind found None = None
behind found (Some typed) = Some (found ++ typed)

pub front : {X : Type 0} (xs : List X) (n : ℕ) (x : X) → n < length xs → x ≡ get_or xs n x → drop n xs ≡ x ∷ drop (n + 1) xs
front xs n x short is = drop-cons xs n x short ∙ ap (λ y. y ∷ drop (suc n) xs) (sym is) ∙ ap (λ m. x ∷ drop m xs) (sym (add-one n))

pub nothing-left : {X : Type 0} (xs : List X) (n : ℕ) → length xs ≤ n → drop n xs ≡ []
nothing-left [] zero past = refl
nothing-left [] (suc n) past = refl
nothing-left (x ∷ xs) zero past = absurd (omega arith)
nothing-left (x ∷ xs) (suc n) past = nothing-left xs n (omega arith)

type-here : (name : List ℕ) (es : List (List ℕ × Ty)) (n : ℕ) (e : List ℕ × Ty) → n < length es → e ≡ get_or es n e → type_named name (map typed_entry (drop n es)) ≡ (if bytes_eq e.0 name then Some (type_of e.1) else type_named name (map typed_entry (drop (n + 1) es)))
unfolding type_named
type-here name es n e short is = ap (λ xs. type_named name (map typed_entry xs)) (front es n e short is)

pub type-found : (name : List ℕ) (es : List (List ℕ × Ty)) (n : ℕ) (e : List ℕ × Ty) → n < length es → e ≡ get_or es n e → bytes_eq e.0 name ≡ true → type_named name (map typed_entry (drop n es)) ≡ Some (type_of e.1)
type-found name es n e short is same = type-here name es n e short is ∙ ap (λ b. if b then Some (type_of e.1) else type_named name (map typed_entry (drop (n + 1) es))) same

pub type-later : (name : List ℕ) (es : List (List ℕ × Ty)) (n : ℕ) (e : List ℕ × Ty) → n < length es → e ≡ get_or es n e → bytes_eq e.0 name ≡ false → type_named name (map typed_entry (drop n es)) ≡ type_named name (map typed_entry (drop (n + 1) es))
type-later name es n e short is other = type-here name es n e short is ∙ ap (λ b. if b then Some (type_of e.1) else type_named name (map typed_entry (drop (n + 1) es))) other

pub no-type : (name : List ℕ) (es : List (List ℕ × Ty)) (n : ℕ) → length es ≤ n → type_named name (map typed_entry (drop n es)) ≡ None
unfolding type_named
no-type name es n past = ap (λ xs. type_named name (map typed_entry xs)) (nothing-left es n past)

-- the next name, with its type
behind-more : (found : List (List ℕ × Datatype)) (entry : List ℕ × Datatype) (o : Option Datatype) (rest : Option (List (List ℕ × Datatype))) → o ≡ Some entry.1 → behind (found ++ entry ∷ []) rest ≡ behind found (with_typed entry.0 o rest)
behind-more found entry o rest is = by_rest rest ∙ ap (λ p. behind found (with_typed entry.0 p rest)) (sym is)
  where
    by_rest : (r : Option (List (List ℕ × Datatype))) → behind (found ++ entry ∷ []) r ≡ behind found (with_typed entry.0 (Some entry.1) r)
    by_rest None = refl
    by_rest (Some typed) = ap Some (append_assoc found (entry ∷ []) typed)

pub typed-more : (types : List (List ℕ × Datatype)) (names : List (List ℕ)) (n : ℕ) (e : List ℕ) (found : List (List ℕ × Ty)) (pair : List ℕ × Ty) → n < length names → e ≡ get_or names n e → pair.0 ≡ e → Some (type_of pair.1) ≡ type_named e types →
    behind (map typed_entry (found ++ pair ∷ [])) (typed_names types (drop (n + 1) names)) ≡ behind (map typed_entry found) (typed_names types (drop n names))
typed-more types names n e found pair short is named held =
    ap (λ xs. behind xs (typed_names types (drop (n + 1) names))) (map-append typed_entry found (pair ∷ []))
    ∙ behind-more (map typed_entry found) (typed_entry pair) (type_named e types) (typed_names types (drop (n + 1) names)) (sym held)
    ∙ ap (λ m. behind (map typed_entry found) (with_typed m (type_named e types) (typed_names types (drop (n + 1) names)))) named
    ∙ sym (ap (λ ns. behind (map typed_entry found) (typed_names types ns)) (front names n e short is))

-- a name with what is found under it
abbrev pub under : List ℕ → Option Datatype → Option (List ℕ × Datatype)
under name o = option_map (λ t. (name, t)) o

pub found-entry : (name : List ℕ) (o : Option Datatype) (entry : List ℕ × Datatype) → Some entry ≡ under name o → (entry.0 ≡ name) × (Some entry.1 ≡ o)
found-entry name None entry e = cc
found-entry name (Some t) entry e =
    let same : entry ≡ (name, t) = cc in
    (ap (λ (x : List ℕ × Datatype). x.0) same, ap (λ (x : List ℕ × Datatype). Some x.1) same)

pub no-entry : (name : List ℕ) (o : Option Datatype) → None ≡ under name o → None ≡ o
no-entry name None e = refl
no-entry name (Some t) e = cc

pub untyped : (types : List (List ℕ × Datatype)) (names : List (List ℕ)) (n : ℕ) (e : List ℕ) (found : List (List ℕ × Datatype)) → n < length names → e ≡ get_or names n e → None ≡ type_named e types → behind found (typed_names types (drop n names)) ≡ None
untyped types names n e found short is none =
    ap (λ ns. behind found (typed_names types ns)) (front names n e short is) ∙ ap (λ o. behind found (with_typed e o (typed_names types (drop (n + 1) names)))) (sym none)

pub typed-all : (types : List (List ℕ × Datatype)) (names : List (List ℕ)) (n : ℕ) (found : List (List ℕ × Datatype)) → length names ≤ n → Some found ≡ behind found (typed_names types (drop n names))
typed-all types names n found past = ap Some (sym (append-nil found)) ∙ sym (ap (λ ns. behind found (typed_names types ns)) (nothing-left names n past))

-- a table of the entries from number n + 1 on, with entry n put into it
pub table-more : (es : List (List ℕ × Ty)) (n : ℕ) (e : List ℕ × Ty) (key : List ℕ) (t : Datatype) (old new : List ℕ → Option Datatype) → n < length es → e ≡ get_or es n e → key ≡ e.0 → t ≡ type_of e.1 → ((name : List ℕ) → new name ≡ (if bytes_eq key name then Some t else old name)) →
    ((name : List ℕ) → old name ≡ type_named name (map typed_entry (drop (n + 1) es))) → (name : List ℕ) → new name ≡ type_named name (map typed_entry (drop n es))
table-more es n e key t old new short is named typed put rest name =
    put name ∙ ap (λ v. if bytes_eq v name then Some t else old name) named ∙ ap (λ v. if bytes_eq e.0 name then Some v else old name) typed ∙ ap (λ o. if bytes_eq e.0 name then Some (type_of e.1) else o) (rest name) ∙ sym (type-here name es n e short is)
