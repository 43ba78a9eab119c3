-- What is given under a name, one by one.
use Rattle.std.proofs.Common.{◌≡◌, ℕ, zero, suc, ◌+◌, ◌<◌, List, [], ◌∷◌, length, get_or, drop, map, true, false, Some, None, refl, sym, ap, ◌∙◌, if◌then◌else◌, add-one, arith}
use Rattle.pt_document.specs.declared.job.Property.{Property}
use Rattle.pt_document.specs.Document.{property_name}
use Rattle.pt_document.specs.View.{property_view}
use Rattle.std.specs.Prelude.{Option, option_map, slice_get}
use Rattle.std.specs.Borrow.{Bor}
use Rattle.std.specs.Slice.{IsGetResult}
use Rattle.std.proofs.lemmas.Option.{slice_get-get_or, slice_get-map, slice_get_past}
use Rattle.std.specs.Str.{bytes_eq}
use Rattle.std.specs.List.{zip}
use Rattle.pt_scopes.specs.Given.{Held}
use Rattle.pt_scopes.specs.Agreement.{given}

zip-none : (ns : List (List ℕ)) → zip {X = Held} ns [] ≡ []
zip-none [] = refl
zip-none (n ∷ ns) = refl

pub given-here : (ns : List (List ℕ)) (hs : List Held) (i : ℕ) (n name : List ℕ) → i < length ns → n ≡ get_or ns i n → bytes_eq n name ≡ true → given (zip (drop i ns) (drop i hs)) name ≡ slice_get hs i
given-here [] hs i n name short is e = absurd (omega arith)
given-here (m ∷ ns) [] zero n name short is e = refl
given-here (m ∷ ns) [] (suc i) n name short is e = ap (λ ps. given ps name) (zip-none (drop i ns))
given-here (m ∷ ns) (h ∷ hs) zero n name short is e = ap (λ b. if b then Some h else given (zip ns hs) name) (ap (λ k. bytes_eq k name) (sym is) ∙ e)
given-here (m ∷ ns) (h ∷ hs) (suc i) n name short is e = given-here ns hs i n name (omega arith) is e

pub given-next : (ns : List (List ℕ)) (hs : List Held) (i : ℕ) (n name : List ℕ) → i < length ns → n ≡ get_or ns i n → bytes_eq n name ≡ false → given (zip (drop i ns) (drop i hs)) name ≡ given (zip (drop (suc i) ns) (drop (suc i) hs)) name
given-next [] hs i n name short is e = absurd (omega arith)
given-next (m ∷ ns) [] zero n name short is e = ap (λ ps. given ps name) (sym (zip-none ns))
given-next (m ∷ ns) [] (suc i) n name short is e = ap (λ ps. given ps name) (zip-none (drop i ns)) ∙ ap (λ ps. given ps name) (sym (zip-none (drop (suc i) ns)))
given-next (m ∷ ns) (h ∷ hs) zero n name short is e = ap (λ b. if b then Some h else given (zip ns hs) name) (ap (λ k. bytes_eq k name) (sym is) ∙ e)
given-next (m ∷ ns) (h ∷ hs) (suc i) n name short is e = given-next ns hs i n name (omega arith) is e

name-at : (ps : List Property) (i : ℕ) (p : Property) → i < length ps → p ≡ get_or ps i p → property_name (property_view p) ≡ get_or (map property_name (map property_view ps)) i (property_name (property_view p))
name-at [] i p short is = absurd (omega arith)
name-at (q ∷ ps) zero p short is = ap (λ (x : Property). property_name (property_view x)) is
name-at (q ∷ ps) (suc i) p short is = name-at ps i p (omega arith) is

name-count : (ps : List Property) → length (map property_name (map property_view ps)) ≡ length ps
name-count [] = refl
name-count (p ∷ ps) = ap (λ n. suc n) (name-count ps)

abbrev pub names_of : List Property → List (List ℕ)
names_of ps = map property_name (map property_view ps)

-- the parameter of a number has the name that is sought
pub found : (ps : List Property) (hs : List Held) (i : ℕ) (p : Property) (name : List ℕ) → i < length ps → p ≡ get_or ps i p → bytes_eq (property_name (property_view p)) name ≡ true → given (zip (drop i (names_of ps)) (drop i hs)) name ≡ slice_get hs i
found ps hs i p name short is e = given-here (names_of ps) hs i (property_name (property_view p)) name (omega (arith, short, name-count ps)) (name-at ps i p short is) e

-- or it has another
pub passed : (ps : List Property) (hs : List Held) (i : ℕ) (p : Property) (name : List ℕ) → i < length ps → p ≡ get_or ps i p → bytes_eq (property_name (property_view p)) name ≡ false → given (zip (drop i (names_of ps)) (drop i hs)) name ≡ given (zip (drop (i + 1) (names_of ps)) (drop (i + 1) hs)) name
passed ps hs i p name short is e =
    given-next (names_of ps) hs i (property_name (property_view p)) name (omega (arith, short, name-count ps)) (name-at ps i p short is) e
    ∙ ap (λ k. given (zip (drop k (names_of ps)) (drop k hs)) name) (sym (add-one i))

-- what is read at a number is what stands there
pub get-view : {X Y : Type 0} (f : X → Y) (xs : List X) (i : ℕ) (r : Option (Bor X)) → IsGetResult xs i i r → option_map (λ (x : Bor X). f x.now) r ≡ slice_get (map f xs) i
get-view f xs i None h = sym (slice_get-map f xs i ∙ ap (option_map f) (slice_get_past xs i h.3))
get-view f xs i (Some x) h = sym (slice_get-map f xs i ∙ ap (option_map f) (slice_get-get_or xs i x.now h.3.0 ∙ ap Some (sym h.1)))
