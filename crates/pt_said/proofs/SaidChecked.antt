-- What is read is the text of a type: each word is one that the check in pt_moml takes.
use Rattle.std.proofs.Common.{◌≡◌, ◌+◌, ℕ, zero, suc, List, [], ◌∷◌, ◌++◌, length, map, take, drop, codes, Option, Some, None, Bool, true, false, if◌then◌else◌, refl, ap, ◌∙◌}
use Rattle.std.specs.List.{prefix_len}
use Rattle.std.specs.Option.{is_none, is_some}
use Rattle.pt_document.specs.TypeWords as moml
use Rattle.pt_document.specs.Names.{is_later}
use Rattle.pt_document.specs.TypeWords.{behind, one_more, is_type_text}
use Rattle.pt_datatypes.specs.Datatype.{Datatype, Int, Boolean, Words}
use Rattle.pt_datatypes.specs.Normal.{array_of}
use Rattle.pt_said.specs.SaidWords.{Fields, Open, in_array, in_record, Place, Next, Goes, Ends, goes_or, named_or, field, field_or, base_or, after_base_or, begin, begin_nested, record_said, go_on, step, step_at, from_next, leads, type_in}

-- without the types
abbrev open_bare : Open → moml.Open
open_bare in_array = moml.in_array
open_bare (in_record names fields name) = moml.in_record names

abbrev bare : Place → moml.Place
bare p = record { wants_type = is_none p.ty; around = map open_bare p.around; rest = p.rest }

abbrev next_bare : Next → moml.Next
next_bare (Goes p) = moml.Goes (bare p)
next_bare (Ends t) = moml.Ends (is_some t)

goes-bare : (ty : Option Datatype) (around : List Open) (o : Option (List ℕ)) (other : Next) (same : moml.Next) → next_bare other ≡ same → next_bare (goes_or ty around o other) ≡ moml.goes_or (is_none ty) (map open_bare around) o same
goes-bare ty around None other same e = e
goes-bare ty around (Some rest) other same e = refl

named-bare : (fields : Fields) (around : List Open) (name : List ℕ) (o : Option (List (List ℕ))) (rest : List ℕ) → next_bare (named_or fields around name o rest) ≡ moml.named_or (map open_bare around) o rest
named-bare fields around name None rest = refl
named-bare fields around name (Some names) rest = goes-bare None (in_record names fields name ∷ around) (behind (codes " = ") rest) (Ends None) (moml.Ends false) refl

field-bare : (names : List (List ℕ)) (fields : Fields) (around : List Open) (text : List ℕ) → next_bare (field names fields around text) ≡ moml.field names (map open_bare around) text
unfolding field moml.field
field-bare names fields around text = named-bare fields around (take (prefix_len is_later text) text) (one_more names (take (prefix_len is_later text) text)) (drop (prefix_len is_later text) text)

field_or-bare : (names : List (List ℕ)) (fields : Fields) (around : List Open) (o : Option (List ℕ)) → next_bare (field_or names fields around o) ≡ moml.field_or names (map open_bare around) o
field_or-bare names fields around None = refl
field_or-bare names fields around (Some rest) = field-bare names fields around rest

begin-bare : (around : List Open) (text : List ℕ) → next_bare (begin around text) ≡ moml.begin (map open_bare around) text
unfolding begin moml.begin
begin-bare around text = by_base (behind (codes "int") text) (behind (codes "boolean") text) (behind (codes "string") text)
  where
    nested : next_bare (begin_nested around text) ≡ moml.goes_or true (moml.in_array ∷ map open_bare around) (behind (codes "arrayType(") text) (moml.field_or [] (map open_bare around) (behind (codes "{") text))
    nested = goes-bare None (in_array ∷ around) (behind (codes "arrayType(") text) _ _ (field_or-bare [] [] around (behind (codes "{") text))

    by_base : (o p q : Option (List ℕ)) → next_bare (after_base_or around (base_or Int o (base_or Boolean p (base_or Words q None))) (begin_nested around text))
        ≡ moml.goes_or false (map open_bare around) (moml.or_behind o (moml.or_behind p q)) (moml.goes_or true (moml.in_array ∷ map open_bare around) (behind (codes "arrayType(") text) (moml.field_or [] (map open_bare around) (behind (codes "{") text)))
    by_base (Some r) p q = refl
    by_base None (Some r) q = refl
    by_base None None (Some r) = refl
    by_base None None None = nested

ends-bare : (t : Datatype) (b : Bool) → is_some (if b then Some t else None) ≡ b
ends-bare t true = refl
ends-bare t false = refl

go_on-bare : (t : Datatype) (around : List Open) (text : List ℕ) → next_bare (go_on t around text) ≡ moml.go_on (map open_bare around) text
unfolding go_on moml.go_on
go_on-bare t [] text = ap moml.Ends (ends-bare t (moml.is_nothing text))
go_on-bare t (in_array ∷ around) text = goes-bare (Some (array_of t)) around (behind (codes ")") text) (Ends None) (moml.Ends false) refl
go_on-bare t (in_record names fields name ∷ around) text =
    let more : Fields = fields ++ (name, t) ∷ [] in
    goes-bare (Some (record_said more)) around (behind (codes "}") text) _ _ (field_or-bare names more around (behind (codes ", ") text))

step-bare : (ty : Option Datatype) (around : List Open) (text : List ℕ) → next_bare (step_at ty around text) ≡ moml.step (bare (record { ty = ty; around = around; rest = text }))
step-bare None around text = begin-bare around text
step-bare (Some t) around text = go_on-bare t around text

leads-next : (n : ℕ) (next : Next) → ((p : Place) → is_some (leads n p) ≡ moml.leads n (bare p)) → is_some (from_next (λ p. leads n p) next) ≡ moml.from_next (λ p. moml.leads n p) (next_bare next)
leads-next n (Goes p) h = h p
leads-next n (Ends t) h = refl

leads-bare : (n : ℕ) (p : Place) → is_some (leads n p) ≡ moml.leads n (bare p)
unfolding leads moml.leads
leads-bare zero p = refl
leads-bare (suc n) p = leads-next n (step p) (leads-bare n) ∙ ap (moml.from_next (λ q. moml.leads n q)) (step-bare p.ty p.around p.rest)

-- a type is read exactly where the check takes the text
pub type_in-taken : (text : List ℕ) → is_some (type_in text) ≡ is_type_text text
unfolding type_in is_type_text
type_in-taken text = leads-bare (length text + 1) (record { ty = None; around = []; rest = text })
