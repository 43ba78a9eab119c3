-- Lists of names in which the last of a name counts: their types, their numbers, and the values under them.
use Rattle.std.proofs.Common.{◌≡◌, ◌⊎◌, inl, inr, ℕ, zero, suc, ◌+◌, List, [], ◌∷◌, ◌++◌, length, map, Bool, true, false, Option, Some, None, refl, sym, ap, ap₂, ◌∙◌, append_assoc, arith, if◌then◌else◌, slice_get}
use Rattle.std.specs.Prelude.{bytes_eq, option_map}
use Rattle.std.specs.List.{AllByRecursion, cons_option, filter_map, enumerate_from}
use Rattle.std.proofs.lemmas.List.{length-append}
use Rattle.std.proofs.lemmas.Option.{none-some, same_Some}
use Rattle.std.proofs.lemmas.Slice.Eq.{bytes_eq-Decides}
use Rattle.pt_value.specs.Value.{Value}
use Rattle.pt_value.specs.Token.{value_of, token_of, value_of-token_of}
use Rattle.pt_value.specs.declared.token.Token.{Token}
use Rattle.pt_datatypes.specs.Datatype.{Datatype}
use Rattle.pt_datatypes.specs.Token.{type_of_value}
use Rattle.pt_language.specs.Types.{Types, or_else}
use Rattle.pt_document.specs.Document.{PropertyTree, property_name}
use Rattle.pt_firing.specs.Params.{value_under}
use Rattle.pt_typing.specs.Terms.{named, itself}
use Rattle.pt_inequalities.specs.Frames.{Names, put, with_given}
use Rattle.pt_inequalities.specs.Inequalities.{with_type as known_type, known}
use Rattle.pt_formula.specs.Formula.{with_type, with_types}
use Rattle.pt_machine.specs.Machines.{token_under, seen_token}
use Rattle.pt_machine.specs.Numbers.{Numbers, with_number, with_numbers}
use Rattle.pt_machine.specs.Typed.{variable_if}

-- ---- one or the other

pub or-none : {A : Type 0} (a b : Option A) → or_else a b ≡ None → (a ≡ None) × (b ≡ None)
or-none None b e = (refl, e)
or-none (Some x) b e = absurd (none-some x (sym e))

pub or-nothing : {A : Type 0} (a : Option A) → or_else a None ≡ a
or-nothing None = refl
or-nothing (Some x) = refl

pub or-assoc : {A : Type 0} (a b c : Option A) → or_else a (or_else b c) ≡ or_else (or_else a b) c
or-assoc None b c = refl
or-assoc (Some x) b c = refl

-- there is one, where the second is
pub or-second : {A : Type 0} (a b : Option A) (x : A) → b ≡ Some x → (y : A) × (or_else a b ≡ Some y)
or-second None b x e = (x, e)
or-second (Some y) b x e = (y, refl)

-- or where the first is
pub or-first : {A : Type 0} (a b : Option A) (x : A) → a ≡ Some x → (y : A) × (or_else a b ≡ Some y)
or-first a b x e = (x, ap (λ o. or_else o b) e)

-- ---- types

pub types-last : (es : List (List ℕ × Datatype)) (types : Types) (name : List ℕ) → with_types es types name ≡ or_else (named itself es name) (types name)
types-last [] types name = refl
types-last (x ∷ es) types name = types-last es (with_type x.0 x.1 types) name ∙ by_test (named itself es name) (bytes_eq x.0 name)
  where
    by_test : (o : Option Datatype) (b : Bool) → or_else o (if b then Some x.1 else types name) ≡ or_else (or_else o (if b then Some x.1 else None)) (types name)
    by_test (Some t) b = refl
    by_test None true = refl
    by_test None false = refl

-- of one list behind another the second counts first
pub named-append : {V : Type 0} (f : V → Datatype) (xs ys : List (List ℕ × V)) (name : List ℕ) → named f (xs ++ ys) name ≡ or_else (named f ys name) (named f xs name)
named-append f [] ys name = sym (or-nothing (named f ys name))
named-append f (x ∷ xs) ys name =
    let own : Option Datatype = if bytes_eq x.0 name then Some (f x.1) else None in
    ap (λ o. or_else o own) (named-append f xs ys name) ∙ sym (or-assoc (named f ys name) (named f xs name) own)

-- what is found is of an entry under the name
pub named-found : {V : Type 0} (f : V → Datatype) (P : List ℕ × V → Type 0) (xs : List (List ℕ × V)) → AllByRecursion P xs → (name : List ℕ) (u : Datatype) → named f xs name ≡ Some u → (x : List ℕ × V) × P x × (x.0 ≡ name) × (f x.1 ≡ u)
named-found {V} f P [] all name u e = absurd (none-some u e)
named-found {V} f P (x ∷ xs) all name u e = by_rest (λ g. named-found f P xs all.1 name u g) (named f xs name) refl (bytes_eq x.0 name) refl e
  where
    by_rest : (named f xs name ≡ Some u → (y : List ℕ × V) × P y × (y.0 ≡ name) × (f y.1 ≡ u)) → (o : Option Datatype) → named f xs name ≡ o → (b : Bool) → bytes_eq x.0 name ≡ b → or_else o (if b then Some (f x.1) else None) ≡ Some u → (y : List ℕ × V) × P y × (y.0 ≡ name) × (f y.1 ≡ u)
    by_rest more (Some w) is b d g = more (is ∙ g)
    by_rest more None is true d g = (x, all.0, (bytes_eq-Decides x.0 name).0 d, same_Some (f x.1) u g)
    by_rest more None is false d g = absurd (none-some u g)

-- ---- numbers

-- the number of the last of a name among these, the first of which has this number
abbrev pub last_number : (j : ℕ) → List (List ℕ) → List ℕ → Option ℕ
last_number j [] name = None
last_number j (n ∷ ns) name = or_else (last_number (suc j) ns name) (if bytes_eq n name then Some j else None)

pub numbers-last : (j : ℕ) (ns : List (List ℕ)) (f : Numbers) (name : List ℕ) → with_numbers j ns f name ≡ or_else (last_number j ns name) (f name)
numbers-last j [] f name = refl
numbers-last j (n ∷ ns) f name = numbers-last (suc j) ns (with_number n j f) name ∙ by_test (last_number (suc j) ns name) (bytes_eq n name)
  where
    by_test : (o : Option ℕ) (b : Bool) → or_else o (if b then Some j else f name) ≡ or_else (or_else o (if b then Some j else None)) (f name)
    by_test (Some i) b = refl
    by_test None true = refl
    by_test None false = refl

-- ---- Variables

-- the Variables with the types of their values
abbrev pub vars : List PropertyTree → List Value → List (List ℕ × Datatype)
vars [] vs = []
vars (p ∷ ps) [] = []
vars (p ∷ ps) (v ∷ vs) = (property_name p, type_of_value v) ∷ vars ps vs

got-middle : (xs : List Value) (v : Value) (vs : List Value) → slice_get (xs ++ v ∷ vs) (length xs) ≡ Some v
got-middle [] v vs = refl
got-middle (x ∷ xs) v vs = got-middle xs v vs

vars-from : (before vs : List Value) (ps : List PropertyTree) → length vs ≡ length ps → filter_map (variable_if (before ++ vs)) (enumerate_from (length before) ps) ≡ vars ps vs
vars-from before vs [] h = refl
vars-from before [] (p ∷ ps) h = absurd (omega (arith, h))
vars-from before (v ∷ vs) (p ∷ ps) h =
    let long : length before + 1 ≡ length (before ++ v ∷ []) = (let l = length-append before (v ∷ []) in omega (arith, l)) in
    let rest : filter_map (variable_if (before ++ v ∷ vs)) (enumerate_from (length before + 1) ps) ≡ vars ps vs =
    ap₂ (λ (ws : List Value) (n : ℕ). filter_map (variable_if ws) (enumerate_from n ps)) (sym (append_assoc before (v ∷ []) vs)) long ∙ vars-from (before ++ v ∷ []) vs ps (omega (arith, h)) in
    ap (λ (o : Option Value). cons_option (option_map (λ (w : Value). (property_name p, type_of_value w)) o) (filter_map (variable_if (before ++ v ∷ vs)) (enumerate_from (length before + 1) ps))) (got-middle before v vs)
    ∙ ap (λ (es : List (List ℕ × Datatype)). (property_name p, type_of_value v) ∷ es) rest

pub vars-are : (vs : List Value) (ps : List PropertyTree) → length vs ≡ length ps → filter_map (variable_if vs) (enumerate_from 0 ps) ≡ vars ps vs
vars-are vs ps h = vars-from [] vs ps h

-- the types of the values under names
pub given-types : (f : Names) (ps : List PropertyTree) (vs : List Value) → length vs ≡ length ps → (name : List ℕ) → option_map type_of_value (with_given f ps (map Some vs) name) ≡ or_else (named itself (vars ps vs) name) (option_map type_of_value (f name))
given-types f [] vs h name = refl
given-types f (p ∷ ps) [] h name = absurd (omega (arith, h))
given-types f (p ∷ ps) (v ∷ vs) h name = given-types (put (property_name p) v f) ps vs (omega (arith, h)) name ∙ by_test (named itself (vars ps vs) name) (bytes_eq (property_name p) name)
  where
    by_test : (o : Option Datatype) (b : Bool) → or_else o (option_map type_of_value (if b then Some v else f name)) ≡ or_else (or_else o (if b then Some (type_of_value v) else None)) (option_map type_of_value (f name))
    by_test (Some t) b = refl
    by_test None true = refl
    by_test None false = refl

-- a name that isn't among these has what it had
unnamed-stays : (f : Names) (j : ℕ) (ps : List PropertyTree) (vs : List Value) → length vs ≡ length ps → (name : List ℕ) → last_number j (map property_name ps) name ≡ None → with_given f ps (map Some vs) name ≡ f name
unnamed-stays f j [] vs h name e = refl
unnamed-stays f j (p ∷ ps) [] h name e = absurd (omega (arith, h))
unnamed-stays f j (p ∷ ps) (v ∷ vs) h name e =
    let parts = or-none (last_number (suc j) (map property_name ps) name) (if bytes_eq (property_name p) name then Some j else None) e in
    unnamed-stays (put (property_name p) v f) (suc j) ps vs (omega (arith, h)) name parts.0 ∙ by_test (bytes_eq (property_name p) name) parts.1
  where
    by_test : (b : Bool) → (if b then Some j else None) ≡ None → (if b then Some v else f name) ≡ f name
    by_test true g = absurd (none-some j (sym g))
    by_test false g = refl

-- the Variable of a number: its value under the name, and the type of that
pub record IsVariable (ps : List PropertyTree) (vs : List Value) (f : Names) (j : ℕ) (name : List ℕ) (target : ℕ) : Type 0 where
  pub value : Value
  pub place : ℕ
  pub number : target ≡ j + place
  pub under : with_given f ps (map Some vs) name ≡ Some value
  pub type : slice_get (vars ps vs) place ≡ Some (name, type_of_value value)

pub variable-of : (ps : List PropertyTree) (vs : List Value) (f : Names) (j : ℕ) (name : List ℕ) (target : ℕ) → length vs ≡ length ps → last_number j (map property_name ps) name ≡ Some target → IsVariable ps vs f j name target
variable-of [] vs f j name target h e = absurd (none-some target e)
variable-of (p ∷ ps) [] f j name target h e = absurd (omega (arith, h))
variable-of (p ∷ ps) (v ∷ vs) f j name target h e = by_rest (λ g. variable-of ps vs (put (property_name p) v f) (suc j) name target (omega (arith, h)) g) (last_number (suc j) (map property_name ps) name) refl (bytes_eq (property_name p) name) refl e
  where
    by_rest : (last_number (suc j) (map property_name ps) name ≡ Some target → IsVariable ps vs (put (property_name p) v f) (suc j) name target) → (o : Option ℕ) → last_number (suc j) (map property_name ps) name ≡ o → (b : Bool) → bytes_eq (property_name p) name ≡ b → or_else o (if b then Some j else None) ≡ Some target → IsVariable (p ∷ ps) (v ∷ vs) f j name target
    by_rest more (Some i) is b d g =
        let w = more (is ∙ g) in
        record { value = w.value; place = suc w.place; number = omega (arith, w.number); under = w.under; type = w.type }
    by_rest more None is true d g =
        let same = (bytes_eq-Decides (property_name p) name).0 d in
        let here = same_Some j target g in
        record {
          value = v;
          place = 0;
          number = omega (arith, here);
          under = unnamed-stays (put (property_name p) v f) (suc j) ps vs (omega (arith, h)) name is ∙ ap (λ b. if b then Some v else f name) d;
          type = ap (λ (n : List ℕ). Option.Some (n, type_of_value v)) same;
        }
    by_rest more None is false d g = absurd (none-some target g)

-- ---- parameters

-- one of these
abbrev pub Among : {A : Type 0} → A → List A → Type 0
Among name [] = ⊥
Among name (n ∷ ns) = (n ≡ name) ⊎ Among name ns

pub seen-given : (around : Names) (ns : List (List ℕ)) (name : List ℕ) (v : Value) → Among name ns → around name ≡ Some v → value_under name (filter_map (seen_token around) ns) ≡ Some (token_of v)
unfolding value_under
seen-given around [] name v a e = absurd a
seen-given around (n ∷ ns) name v a e = by_test (bytes_eq n name) refl a (λ rest. seen-given around ns name v rest e)
  where
    further : (o : Option Value) → bytes_eq n name ≡ false → value_under name (filter_map (seen_token around) ns) ≡ Some (token_of v) → value_under name (cons_option (token_under n o) (filter_map (seen_token around) ns)) ≡ Some (token_of v)
    further (Some w) d more = ap (λ b. if b then Some (token_of w) else value_under name (filter_map (seen_token around) ns)) d ∙ more
    further None d more = more

    by_test : (b : Bool) → bytes_eq n name ≡ b → Among name (n ∷ ns) → (Among name ns → value_under name (filter_map (seen_token around) ns) ≡ Some (token_of v)) → value_under name (filter_map (seen_token around) (n ∷ ns)) ≡ Some (token_of v)
    by_test true d a more =
        let same = (bytes_eq-Decides n name).0 d in
        ap (λ o. value_under name (cons_option (token_under n o) (filter_map (seen_token around) ns))) (ap around same ∙ e) ∙ ap (λ b. if b then Some (token_of v) else value_under name (filter_map (seen_token around) ns)) d
    by_test false d (inl same) more = let no : true ≡ false = sym ((bytes_eq-Decides n name).1 same) ∙ d in absurd (cc)
    by_test false d (inr rest) more = further (around n) d (more rest)

pub unseen-none : (around : Names) (ns : List (List ℕ)) (name : List ℕ) → around name ≡ None → value_under name (filter_map (seen_token around) ns) ≡ None
unfolding value_under
unseen-none around [] name e = refl
unseen-none around (n ∷ ns) name e = by_seen (around n) refl (unseen-none around ns name e)
  where
    by_test : (w : Value) → around n ≡ Some w → (b : Bool) → bytes_eq n name ≡ b → value_under name (filter_map (seen_token around) ns) ≡ None → (if b then Some (token_of w) else value_under name (filter_map (seen_token around) ns)) ≡ None
    by_test w is true d more = absurd (none-some w (sym e ∙ ap around (sym ((bytes_eq-Decides n name).0 d)) ∙ is))
    by_test w is false d more = more

    by_seen : (o : Option Value) → around n ≡ o → value_under name (filter_map (seen_token around) ns) ≡ None → value_under name (cons_option (token_under n o) (filter_map (seen_token around) ns)) ≡ None
    by_seen (Some w) is more = by_test w is (bytes_eq n name) refl more
    by_seen None is more = more

-- what is known under a name is known of one of the names
pub known-among : (types : Types) (ns : List (List ℕ)) (name : List ℕ) (t : Datatype) → named itself (known types ns) name ≡ Some t → Among name ns × (types name ≡ Some t)
known-among types [] name t e = absurd (none-some t e)
known-among types (n ∷ ns) name t e = by_type (types n) refl (known-among types ns name t) e
  where
    here : (s : Datatype) → types n ≡ Some s → (b : Bool) → bytes_eq n name ≡ b → (if b then Some s else None) ≡ Some t → Among name (n ∷ ns) × (types name ≡ Some t)
    here s is true d g = let same = (bytes_eq-Decides n name).0 d in (inl same, ap types (sym same) ∙ is ∙ g)
    here s is false d g = absurd (none-some t g)

    by_rest : (s : Datatype) → types n ≡ Some s → (o : Option Datatype) → (o ≡ Some t → Among name ns × (types name ≡ Some t)) → or_else o (if bytes_eq n name then Some s else None) ≡ Some t → Among name (n ∷ ns) × (types name ≡ Some t)
    by_rest s is (Some u) more g = let w = more g in (inr w.0, w.1)
    by_rest s is None more g = here s is (bytes_eq n name) refl g

    by_type : (o : Option Datatype) → types n ≡ o → (named itself (known types ns) name ≡ Some t → Among name ns × (types name ≡ Some t)) → named itself (known_type n o ++ known types ns) name ≡ Some t → Among name (n ∷ ns) × (types name ≡ Some t)
    by_type None is more g = let w = more g in (inr w.0, w.1)
    by_type (Some s) is more g = by_rest s is (named itself (known types ns) name) more g
