-- The types of tokens that are made of others, and of parts of them.
use Rattle.std.proofs.Common.{◌≡◌, List, [], ◌∷◌, map, Option, Some, None, refl, sym, subst}
use Rattle.std.specs.Prelude.{option_map}
use Rattle.std.specs.List.{AllByRecursion}
use Rattle.pt_value.specs.Value as val
use Rattle.pt_value.specs.Value.{Value, Values, no_values, value_then, Named, values_of, list_of, named_of, fields_of}
use Rattle.pt_value.specs.Token.{value_of, token_of, value_of-token_of}
use Rattle.pt_value.specs.declared.token.Token.{Token}
use Rattle.pt_value.specs.declared.token.Token.TheVariants as token
use Rattle.pt_datatypes.specs.Datatype.{Datatype, Unknown, Int, Boolean, Words, Array, Record, General}
use Rattle.pt_datatypes.specs.Normal.{normal, array_of}
use Rattle.pt_datatypes.specs.Order.{IsBelow}
use Rattle.pt_datatypes.specs.Token.{type_of_value, join_of}
use Rattle.pt_datatypes.proofs.Joins.{below-normal, normal-below, normal_is_type}
use Rattle.pt_datatypes.proofs.Parts.{array_of-normal}
use Rattle.pt_datatypes.proofs.Order.{below-trans, above-General}
use Rattle.pt_language.specs.Meaning as meaning
use Rattle.pt_language.specs.Typing.{Typing, Has, Clash, or_general}
use Rattle.pt_language.specs.TreeType.{element}
use Rattle.pt_language.proofs.JoinLaws.{join-first, join-second, join-least}
use Rattle.pt_language.proofs.Values.{Of, Sound, never-unknown}
use Rattle.pt_firing.specs.Row.{first_in}
use Rattle.pt_lib_data.specs.RecordDisassembler.{as_list}
use Rattle.pt_typed.specs.TokenTypes.{IsTokenOf, IsUnder}
use Rattle.pt_kinds.proofs.StreamLaws.{AreGiven}

-- the token of a value is of the value's type
pub of-value : (u : Datatype) (v : Value) → Of u v → IsTokenOf u (token_of v)
of-value u v h = subst (λ w. Of u w) (sym (value_of-token_of v)) h

pub token-wider : (s t : Datatype) (x : Token) → IsBelow s t → IsTokenOf s x → IsTokenOf t x
token-wider s t x h k = below-trans (type_of_value (value_of x)) s t k h

-- ---- arrays

-- the elements of an array of this type
elements-below : (s : Datatype) (vs : Values) (u : Datatype) → Of s (val.Array vs) → IsBelow (or_general (element s)) u → IsBelow (join_of vs) u
elements-below Unknown vs u h k = absurd (never-unknown (val.Array vs) h)
elements-below (Array w) vs u h k = below-trans (join_of vs) w u (below-trans (Array (join_of vs)) (array_of (join_of vs)) (Array w) (below-normal (Array (join_of vs))) h) k
elements-below Int vs u h k = above-General (join_of vs) u k
elements-below Boolean vs u h k = above-General (join_of vs) u k
elements-below Words vs u h k = above-General (join_of vs) u k
elements-below (Record fs) vs u h k = above-General (join_of vs) u k
elements-below General vs u h k = above-General (join_of vs) u k

-- each is below the join
pub all-joined : (u : Datatype) (vs : List Value) → IsBelow (join_of (values_of vs)) u → AllByRecursion (IsTokenOf u) (map token_of vs)
all-joined u [] h = tt
all-joined u (v ∷ vs) h =
    let whole = join_of (values_of (v ∷ vs)) in
    (of-value u v (below-trans (type_of_value v) whole u (join-first (type_of_value v) (join_of (values_of vs))) h), all-joined u vs (below-trans (join_of (values_of vs)) whole u (join-second (type_of_value v) (join_of (values_of vs))) h))

pub elements-of : (s : Datatype) (vs : List Value) (u : Datatype) → IsTokenOf s (token.Array vs) → IsBelow (or_general (element s)) u → AllByRecursion (IsTokenOf u) (map token_of vs)
elements-of s vs u h k = all-joined u vs (elements-below s (values_of vs) u h k)

-- the join of tokens of a type, and their array
join-of : (r : Datatype) (ts : List Token) → AllByRecursion (IsTokenOf r) ts → IsBelow (join_of (values_of (map value_of ts))) (normal r)
join-of r [] h = refl
join-of r (t ∷ ts) h = join-least (type_of_value (value_of t)) (join_of (values_of (map value_of ts))) (normal r) (normal_is_type r) (below-trans (type_of_value (value_of t)) r (normal r) h.0 (below-normal r)) (join-of r ts h.1)

pub array-of-tokens : (r : Datatype) (ts : List Token) → AllByRecursion (IsTokenOf r) ts → IsBelow (array_of (join_of (values_of (map value_of ts)))) (array_of r)
array-of-tokens r ts h = subst (λ t. IsBelow (array_of (join_of (values_of (map value_of ts)))) t) (array_of-normal r) (normal-below (Array (join_of (values_of (map value_of ts)))) (Array (normal r)) (join-of r ts h))

-- ---- fields

pub found-below : (p : Typing Datatype) (o : Option Value) (u : Datatype) → Sound Of p (meaning.there o) → IsBelow (or_general p) u → AllByRecursion (IsTokenOf u) (as_list (option_map token_of o))
found-below p None u h k = tt
found-below (Has t) (Some v) u h k = (of-value u v (below-trans (type_of_value v) t u h k), tt)
found-below Clash (Some v) u h k = (of-value u v (above-General (type_of_value v) u k), tt)

-- ---- what comes to a place

pub first-of : (t : Datatype) (xs : List Token) (x : Token) → AllByRecursion (IsTokenOf t) xs → first_in xs ≡ Some x → IsTokenOf t x
first-of t [] x a e = absurd (cc)
first-of t (y ∷ ys) x a e = let same : y ≡ x = cc in subst (λ z. IsTokenOf t z) same a.0

-- what is given at a place that isn't there is nothing
pub token-of : (o : Option Datatype) (xs : List Token) (x : Token) (u : Datatype) → AreGiven IsTokenOf o xs → IsUnder o u → first_in xs ≡ Some x → IsTokenOf u x
token-of None xs x u a h e = absurd (let none : first_in {T = Token} [] ≡ Some x = subst (λ v. first_in v ≡ Some x) a e in cc)
token-of (Some t) xs x u a h e = token-wider t u x h (first-of t xs x a e)

pub all-of : (o : Option Datatype) (xs : List Token) (u : Datatype) → AreGiven IsTokenOf o xs → IsUnder o u → AllByRecursion (IsTokenOf u) xs
all-of None xs u a h = subst (λ v. AllByRecursion (IsTokenOf u) v) (sym a) tt
all-of (Some t) xs u a h = all-wider xs a
  where
    all-wider : (ys : List Token) → AllByRecursion (IsTokenOf t) ys → AllByRecursion (IsTokenOf u) ys
    all-wider [] b = tt
    all-wider (y ∷ ys) b = (token-wider t u y h b.0, all-wider ys b.1)
