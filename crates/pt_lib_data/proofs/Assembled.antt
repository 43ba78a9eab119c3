-- Records of what is on the places.
use Rattle.std.proofs.Common.{◌≡◌, ℕ, zero, suc, ◌<◌, ◌+◌, List, [], ◌∷◌, ◌++◌, length, drop, take, get_or, map, true, false, if◌then◌else◌, Option, Some, None, IsPermutation, Contains, refl, sym, ap, ◌∙◌, append-nil, append_assoc, add-one, arith}
use Rattle.std.proofs.lemmas.List.Sorted.{IsPermutation-map}
use Rattle.pt_meaning.specs.Basics.{Streams}
use Rattle.pt_value.specs.Value.{Value, Record, named_of}
use Rattle.pt_value.specs.Record.{IsRecord, IsRepeated, names}
use Rattle.pt_value.specs.Name.{IsName}
use Rattle.pt_value.specs.Token.{value_of, entry_of_pair}
use Rattle.pt_value.specs.declared.token.Token.{Token}
use Rattle.pt_language.specs.Outcome.{Outcome, Gives, Wrong}
use Rattle.pt_language.specs.RecordOf.{record_of, make_record, by_name}
use Rattle.pt_language.proofs.Ordered.{by_name-record}
use Rattle.pt_language.proofs.Making.{make_record-lawful, make_record-no_name, make_record-repeated}
use Rattle.pt_firing.specs.Row.{token_at}
use Rattle.pt_lib_data.specs.RecordAssembler.{with_field, fields}

abbrev Entries : Type 0
Entries = List (List ℕ × Value)

some-names : (fs : Entries) → 0 < length fs → 0 < length (names fs)
some-names [] some = absurd (omega arith)
some-names (f ∷ fs) some = omega arith

pub makes : (ps fs : Entries) → IsPermutation ps fs → IsRecord fs → record_of ps ≡ Gives (Record (named_of fs))
makes ps fs moved lawful =
    let made : make_record (names ps) ≡ true = make_record-lawful (names ps) (names fs) (IsPermutation-map (λ f. f.0) ps fs moved) (record { some = some-names fs lawful.some; named = lawful.named; ascending = lawful.ascending }) in
    ap (λ b. if b then Gives (Record (named_of (by_name ps))) else Wrong) made ∙ ap (λ gs. Gives (Record (named_of gs))) (by_name-record ps fs moved lawful)

pub unmade : (ps : Entries) → make_record (names ps) ≡ false → record_of ps ≡ Wrong
unmade ps e = ap (λ b. if b then Gives (Record (named_of (by_name ps))) else Wrong) e

pub unmade-empty : (ps : Entries) → names ps ≡ [] → record_of ps ≡ Wrong
unmade-empty ps e = unmade ps (ap make_record e)

pub unmade-repeated : (ps : Entries) (n : List ℕ) → IsRepeated (names ps) n → record_of ps ≡ Wrong
unmade-repeated ps n h = unmade ps (make_record-repeated (names ps) n h)

pub unmade-no_name : (ps : Entries) (n : List ℕ) → Contains (names ps) n → (IsName n → ⊥) → record_of ps ≡ Wrong
unmade-no_name ps n there none = unmade ps (make_record-no_name (names ps) n there none)

abbrev no_streams : Streams Token
no_streams = []

nil-drop : (n : ℕ) → drop n no_streams ≡ no_streams
nil-drop zero = refl
nil-drop (suc n) = refl

-- one name and one place further on
moved : (m : List ℕ) (ms : List (List ℕ)) (xs : List Token) (X : Streams Token) (n : ℕ) (fs : Streams Token → List (List ℕ) → Entries) → fs (drop (n + 1) X) (drop (n + 1) ms) ≡ fs (drop (suc n + 1) (xs ∷ X)) (drop (suc n + 1) (m ∷ ms))
moved m ms xs X n fs = ap (λ k. fs (drop k X) (drop k ms)) (add-one n) ∙ ap (λ k. fs (drop k (xs ∷ X)) (drop k (m ∷ ms))) (sym (add-one (suc n)))

moved-nil : (m : List ℕ) (ms : List (List ℕ)) (n : ℕ) (fs : Streams Token → List (List ℕ) → Entries) → fs (drop (n + 1) no_streams) (drop (n + 1) ms) ≡ fs (drop (suc n + 1) no_streams) (drop (suc n + 1) (m ∷ ms))
moved-nil m ms n fs = ap (λ Y. fs Y (drop (n + 1) ms)) (nil-drop (n + 1) ∙ sym (nil-drop (suc n + 1))) ∙ ap (λ k. fs (drop (suc n + 1) no_streams) (drop k ms)) (add-one n) ∙ ap (λ k. fs (drop (suc n + 1) no_streams) (drop k (m ∷ ms))) (sym (add-one (suc n)))

pub fields-next : (ns : List (List ℕ)) (X : Streams Token) (n : ℕ) (name : List ℕ) → n < length ns → name ≡ get_or ns n name → fields (drop n ns) (drop n X) ≡ with_field name (token_at X n) (fields (drop (n + 1) ns) (drop (n + 1) X))
unfolding fields
fields-next [] X n name short e = absurd (omega arith)
fields-next (m ∷ ms) X zero name short e = ap (λ k. with_field k (token_at X 0) (fields ms (drop 1 X))) (sym e)
fields-next (m ∷ ms) [] (suc n) name short e =
    ap (λ Y. fields (drop n ms) Y) (sym (nil-drop n)) ∙ fields-next ms [] n name (omega arith) e ∙ moved-nil m ms n (λ Y ks. with_field name None (fields ks Y))
fields-next (m ∷ ms) (xs ∷ X) (suc n) name short e = fields-next ms X n name (omega arith) e ∙ moved m ms xs X n (λ Y ks. with_field name (token_at X n) (fields ks Y))

pub no-fields : (ns : List (List ℕ)) (X : Streams Token) (n : ℕ) → n ≡ length ns → fields (drop n ns) (drop n X) ≡ []
unfolding fields
no-fields ns X n e = ap (λ ks. fields ks (drop n X)) (ap (λ k. drop k ns) e ∙ nothing-left ns)
  where
    nothing-left : (ks : List (List ℕ)) → drop (length ks) ks ≡ []
    nothing-left [] = refl
    nothing-left (k ∷ ks) = nothing-left ks

pub field-append : (name : List ℕ) (o : Option Token) (fs gs : Entries) → (fs ++ with_field name o []) ++ gs ≡ fs ++ with_field name o gs
field-append name None fs gs = ap (λ hs. hs ++ gs) (append-nil fs)
field-append name (Some t) fs gs = append_assoc fs ((name, value_of t) ∷ []) gs

-- the names of fields that are given as pairs
pub names-of : (ps : List (List ℕ × Token)) → names (map entry_of_pair ps) ≡ map (λ f. f.0) ps
names-of [] = refl
names-of (p ∷ ps) = ap (λ ns. p.0 ∷ ns) (names-of ps)
