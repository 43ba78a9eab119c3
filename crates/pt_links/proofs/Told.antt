-- What a refusal tells, and what is in a table.
use Rattle.std.proofs.Common.{◌≡◌, ℕ, ◌<◌, ◌≤◌, List, Some, length, get_or, map, sym, ap, subst, ◌∙◌, arith}
use Rattle.std.proofs.lemmas.List.{get_or-map, length-map}
use Rattle.std.proofs.lemmas.Option.{slice_get-get_or, slice_get-map}
use Rattle.std.specs.List.{Contains, slice_get}
use Rattle.std.specs.Option.{option_map}
use Rattle.pt_document.specs.declared.code.Code.{Code}
use Rattle.pt_document.specs.declared.refusal.Refusal.{Refusal}
use Rattle.pt_document.specs.declared.refusal.DocFault.{DocFault}
use Rattle.pt_document.specs.declared.refusal.DocFault.TheVariants as faults
use Rattle.pt_document.specs.Outcome.{IsRefusal}
use Rattle.pt_net.specs.Stands.{IsTold}

pub told : (fault : DocFault) (code : Code) (path : List ℕ) (IsPlace : List ℕ → Type 0) → IsRefusal fault code path → IsPlace path → IsTold code IsPlace fault
told faults.Memory code path IsPlace is place = tt
told (faults.Refused r) code path IsPlace is place = (ap (λ (s : Refusal). s.code) is, subst IsPlace (sym (ap (λ (s : Refusal). s.path) is)) place)

-- an item that was read is in the view
pub contains_view : {X Y : Type 0} (view : X → Y) (xs : List X) (i : ℕ) (x : X) → i < length xs → x ≡ get_or xs i x → Contains (map view xs) (view x)
contains_view view xs i x within is = (i, omega (arith, length-map xs view), get_or-map view xs i x (view x) within ∙ ap view (sym is))

-- and it is the item of that number
pub number_view : {X Y : Type 0} (view : X → Y) (xs : List X) (i : ℕ) (x : X) → i < length xs → x ≡ get_or xs i x → slice_get (map view xs) i ≡ Some (view x)
number_view view xs i x within is = slice_get-map view xs i ∙ ap (λ o. option_map view o) (slice_get-get_or xs i x within ∙ ap Some (sym is))

-- the same, where the items were read through another list
pub contains_of : {X Y : Type 0} (view : X → Y) (xs ys : List X) (i : ℕ) (x : X) → ys ≡ xs → i < length ys → x ≡ get_or ys i x → Contains (map view xs) (view x)
contains_of view xs ys i x same within is = subst (λ zs. Contains (map view zs) (view x)) same (contains_view view ys i x within is)

pub read_view : {X Y : Type 0} (view : X → Y) (xs : List X) (i : ℕ) (x : X) → i < length xs → x ≡ get_or xs i x → get_or (map view xs) i (view x) ≡ view x
read_view view xs i x within is = get_or-map view xs i x (view x) within ∙ ap view (sym is)

pub read_of : {X Y : Type 0} (view : X → Y) (xs ys : List X) (i : ℕ) (x : X) → ys ≡ xs → i < length ys → x ≡ get_or ys i x → get_or (map view xs) i (view x) ≡ view x
read_of view xs ys i x same within is = subst (λ zs. get_or (map view zs) i (view x) ≡ view x) same (read_view view ys i x within is)

pub number_of : {X Y : Type 0} (view : X → Y) (xs ys : List X) (i : ℕ) (x : X) → ys ≡ xs → i < length ys → x ≡ get_or ys i x → slice_get (map view xs) i ≡ Some (view x)
number_of view xs ys i x same within is = subst (λ zs. slice_get (map view zs) i ≡ Some (view x)) same (number_view view ys i x within is)

pub within_of : {X Y : Type 0} (view : X → Y) (xs ys : List X) (i : ℕ) → ys ≡ xs → i < length ys → i < length (map view xs)
within_of view xs ys i same within = let e : length ys ≡ length xs = ap (λ zs. length zs) same in omega (arith, length-map xs view, within, e)

pub whole_of : {X Y : Type 0} (view : X → Y) (xs ys : List X) (i : ℕ) → ys ≡ xs → length ys ≤ i → length (map view xs) ≤ i
whole_of view xs ys i same whole = let e : length ys ≡ length xs = ap (λ zs. length zs) same in omega (arith, length-map xs view, whole, e)
