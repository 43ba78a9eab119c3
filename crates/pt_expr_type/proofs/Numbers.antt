-- The types of names by numbers, name by name.
use Rattle.std.proofs.Common.{◌≡◌, ℕ, zero, suc, ◌+◌, ◌<◌, ◌≤◌, Bool, true, false, List, [], ◌∷◌, ◌++◌, length, map, take, get_or, Option, Some, None, Result, Ok, Err, OnOk, if◌then◌else◌, refl, sym, ap, ◌∙◌, arith}
use Rattle.std.specs.Prelude.{slice_get}
use Rattle.std.specs.Str.{bytes_eq}
use Rattle.std.proofs.lemmas.List.{take_more}
use Rattle.pt_types.specs.declared.ty.Ty.{Ty}
use Rattle.pt_datatypes.specs.Datatype.{Datatype}
use Rattle.pt_types.specs.Ty.{type_of}
use Rattle.pt_language.specs.Types.{or_else}
use Rattle.pt_language.specs.Rule.{numbered}

pub slice_get-at : (ts : List Ty) (k : ℕ) (t : Ty) → k < length ts → t ≡ get_or ts k t → slice_get (map type_of ts) k ≡ Some (type_of t)
slice_get-at [] k t short is = absurd (omega arith)
slice_get-at (s ∷ ts) zero t short is = ap (λ u. Some (type_of u)) (sym is)
slice_get-at (s ∷ ts) (suc k) t short is = slice_get-at ts k t (omega arith) is

pub slice_get-past : (ts : List Ty) (k : ℕ) → length ts ≤ k → slice_get (map type_of ts) k ≡ None
slice_get-past [] k long = refl
slice_get-past (s ∷ ts) zero long = absurd (omega arith)
slice_get-past (s ∷ ts) (suc k) long = slice_get-past ts k (omega arith)

bound-by : (b : Bool) (t : Datatype) (old : Option Datatype) → (if b then Some t else old) ≡ or_else (if b then Some t else None) old
bound-by true t old = refl
bound-by false t old = refl

-- a name bound to the type at its number
pub bound-number : (b : Bool) (t : Datatype) (found old : Option Datatype) → found ≡ Some t → (if b then Some t else old) ≡ or_else (if b then found else None) old
bound-number b t found old e = bound-by b t old ∙ ap (λ o. or_else (if b then o else None) old) (sym e)

unbound-by : (b : Bool) (old : Option Datatype) → old ≡ or_else (if b then None else None) old
unbound-by true old = refl
unbound-by false old = refl

-- a number without a type
pub unbound-number : (b : Bool) (found old : Option Datatype) → found ≡ None → old ≡ or_else (if b then found else None) old
unbound-number b found old e = unbound-by b old ∙ ap (λ o. or_else (if b then o else None) old) (sym e)

or_else-assoc : (a b c : Option Datatype) → or_else a (or_else b c) ≡ or_else (or_else a b) c
or_else-assoc (Some x) b c = refl
or_else-assoc None b c = refl

or_else-None : (a : Option Datatype) → a ≡ or_else a None
or_else-None (Some x) = refl
or_else-None None = refl

numbered-last : (fs : List (List ℕ × ℕ)) (f : List ℕ × ℕ) (types : List Datatype) (name : List ℕ) → or_else (if bytes_eq f.0 name then slice_get types f.1 else None) (numbered fs types name) ≡ numbered (fs ++ f ∷ []) types name
numbered-last [] f types name = sym (or_else-None _)
numbered-last (g ∷ fs) f types name = or_else-assoc _ (numbered fs types name) _ ∙ ap (λ o. or_else o (if bytes_eq g.0 name then slice_get types g.1 else None)) (numbered-last fs f types name)

-- one name more
pub numbered-next : (fs : List (List ℕ × ℕ)) (k : ℕ) (f : List ℕ × ℕ) (types : List Datatype) (name : List ℕ) → k < length fs → f ≡ get_or fs k f → or_else (if bytes_eq f.0 name then slice_get types f.1 else None) (numbered (take k fs) types name) ≡ numbered (take (k + 1) fs) types name
numbered-next fs k f types name short is =
    numbered-last (take k fs) f types name ∙ ap (λ gs. numbered gs types name) (ap (λ g. take k fs ++ g ∷ []) is ∙ sym (take_more fs k f short))

pub on-ok : {T E : Type 0} {P Q : Type 0} (r : Result T E) → (P → Q) → OnOk r P → OnOk r Q
on-ok (Ok t) go h = go h
on-ok (Err e) go h = h
