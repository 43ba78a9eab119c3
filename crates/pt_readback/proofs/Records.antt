-- What fields come to that are in the order of a record.
use Rattle.std.proofs.Common.{◌≡◌, ℕ, ◌<◌, List, [], ◌∷◌, length, map, All, AllPairs, IsPermutation, count_by, refl, sym, subst, ap, ◌∙◌, arith}
use Rattle.std.specs.Str.{bytes_eq}
use Rattle.std.specs.List.{Contains}
use Rattle.std.proofs.lemmas.List.Elements.{All-contains}
use Rattle.std.proofs.lemmas.List.Sorted.{IsPermutation-refl}
use Rattle.pt_value.specs.Value as val
use Rattle.pt_value.specs.Value.{Value, named_of}
use Rattle.pt_value.specs.Name.{IsName}
use Rattle.pt_value.specs.Record.{IsRecord, IsRepeated, IsBelow, names}
use Rattle.pt_value.specs.Token.{entry_of_pair}
use Rattle.pt_value.specs.declared.token.Token.{Token}
use Rattle.pt_language.proofs.Ordered.{by_name-record}
use Rattle.pt_expr_print.proofs.Tokens.{one_same}
use Rattle.pt_readback.specs.Reading.{Records}

-- sorted, they are as they were
pub record_found : (ps fs : List (List ℕ × Value)) (v : Value) → IsPermutation ps fs → IsRecord fs → Records ps v → val.Record (named_of fs) ≡ v
record_found ps fs v moved lawful r =
    ap (λ gs. val.Record (named_of gs)) (sym (by_name-record ps fs moved lawful) ∙ by_name-record ps ps (IsPermutation-refl ps) r.lawful) ∙ sym r.is

names_of : (ps : List (List ℕ × Token)) → map (λ p. p.0) ps ≡ names (map entry_of_pair ps)
names_of [] = refl
names_of (p ∷ ps) = ap (λ ns. p.0 ∷ ns) (names_of ps)

-- and no fault applies to them
pub some_field : (ps : List (List ℕ × Token)) (v : Value) → Records (map entry_of_pair ps) v → map (λ p. p.0) ps ≡ [] → ⊥
some_field [] v r e = let h = r.lawful.some in absurd (omega arith)
some_field (p ∷ ps) v r e = cc

pub no_repeated : (ps : List (List ℕ × Token)) (v : Value) (n : List ℕ) → Records (map entry_of_pair ps) v → IsRepeated (map (λ p. p.0) ps) n → ⊥
no_repeated ps v n r h =
    let few = one_same n (names (map entry_of_pair ps)) r.lawful.ascending in
    let P : List (List ℕ) → Type 0 = λ ns. 1 < count_by (bytes_eq n) ns in
    let many = subst P (names_of ps) h in
    absurd (omega (arith, few, many))

pub all_names : (ps : List (List ℕ × Token)) (v : Value) (n : List ℕ) → Records (map entry_of_pair ps) v → Contains (map (λ p. p.0) ps) n → (IsName n → ⊥) → ⊥
all_names ps v n r c other =
    let P : List (List ℕ) → Type 0 = λ ns. Contains ns n in
    other (All-contains IsName (names (map entry_of_pair ps)) n r.lawful.named (subst P (names_of ps) c))
