-- What the names of an Expression stand for: each has the type that its net gives it.
use Rattle.std.proofs.Common.{◌≡◌, ◌⊎◌, inl, inr, ℕ, List, [], ◌∷◌, ◌++◌, length, take, map, Bool, true, false, ◌||◌, Option, Some, None, refl, sym, ap, ◌∙◌, if◌then◌else◌, arith}
use Rattle.std.specs.Prelude.{bytes_eq, option_map, drop, nat_le, ◌-◌}
use Rattle.std.specs.List.{filter_map, cons_option}
use Rattle.std.proofs.lemmas.Slice.Eq.{bytes_eq-Decides}
use Rattle.std.proofs.lemmas.List.{length-append, drop_at}
use Rattle.std.proofs.lemmas.Bool.{le-leb}
use Rattle.pt_value.specs.Value.{Value}
use Rattle.pt_value.specs.Token.{value_of, token_of, value_of-token_of}
use Rattle.pt_value.specs.declared.token.Token.{Token}
use Rattle.pt_datatypes.specs.Datatype.{Datatype, Boolean}
use Rattle.pt_datatypes.specs.Token.{type_of_value}
use Rattle.pt_datatypes.proofs.Fields.{and_both}
use Rattle.pt_language.specs.Scope.{mark, port_in}
use Rattle.pt_language.specs.Types.{Types, or_else, presence_type}
use Rattle.pt_document.specs.Names.{words, presence, ends_in, is_among, is_reserved}
use Rattle.pt_firing.specs.Params.{value_under}
use Rattle.pt_typing.specs.Terms.{named, itself, entry_in, names_types}
use Rattle.pt_scopes.specs.Scopes.{Bindings, bound}
use Rattle.pt_inequalities.specs.Inequalities.{with_type as known_type, known}
use Rattle.pt_start.specs.Started.{token_under, seen_token}
use Rattle.pt_formula.specs.Formula.{parameter_types, with_type, with_types}
use Rattle.pt_typed.proofs.FormulaTypes.{HasAtLeast}
use Rattle.pt_typed.proofs.SeenFrames.{AreFree}

-- a name is one of these
abbrev Among : List ℕ → List (List ℕ) → Type 0
Among name [] = ⊥
Among name (n ∷ ns) = (n ≡ name) ⊎ Among name ns

-- ---- inputs

-- the inputs of an Expression, before its parameters
pub inputs-first : {V : Type 0} (f : V → Datatype) (xs : List (List ℕ × V)) (types : Types) (name : List ℕ) → with_types (map (entry_in f) xs) types name ≡ or_else (named f xs name) (types name)
inputs-first f [] types name = refl
inputs-first f (x ∷ xs) types name = inputs-first f xs (with_type x.0 (f x.1) types) name ∙ by_test (named f xs name) (bytes_eq x.0 name)
  where
    by_test : (o : Option Datatype) (b : Bool) → or_else o (if b then Some (f x.1) else types name) ≡ or_else (or_else o (if b then Some (f x.1) else None)) (types name)
    by_test (Some t) b = refl
    by_test None true = refl
    by_test None false = refl

-- ---- parameters

-- what is known under a name is known of one of the names
known-among : (types : Types) (ns : List (List ℕ)) (name : List ℕ) (t : Datatype) → named itself (known types ns) name ≡ Some t → Among name ns × (types name ≡ Some t)
known-among types [] name t e = absurd (cc)
known-among types (n ∷ ns) name t e = by_type (types n) refl (known-among types ns name t) e
  where
    here : (s : Datatype) → types n ≡ Some s → (b : Bool) → bytes_eq n name ≡ b → (if b then Some s else None) ≡ Some t → Among name (n ∷ ns) × (types name ≡ Some t)
    here s is true d g = let same = (bytes_eq-Decides n name).0 d in (inl same, ap types (sym same) ∙ is ∙ g)
    here s is false d g = absurd (cc)

    by_rest : (s : Datatype) → types n ≡ Some s → (o : Option Datatype) → (o ≡ Some t → Among name ns × (types name ≡ Some t)) → or_else o (if bytes_eq n name then Some s else None) ≡ Some t → Among name (n ∷ ns) × (types name ≡ Some t)
    by_rest s is (Some u) more g = let w = more g in (inr w.0, w.1)
    by_rest s is None more g = here s is (bytes_eq n name) refl g

    by_type : (o : Option Datatype) → types n ≡ o → (named itself (known types ns) name ≡ Some t → Among name ns × (types name ≡ Some t)) → named itself (known_type n o ++ known types ns) name ≡ Some t → Among name (n ∷ ns) × (types name ≡ Some t)
    by_type None is more g = let w = more g in (inr w.0, w.1)
    by_type (Some s) is more g = by_rest s is (named itself (known types ns) name) more g

-- a value that is seen under one of the names is among the values of the names
seen-given : (seen : Bindings) (ns : List (List ℕ)) (name : List ℕ) (v : Value) → Among name ns → bound seen name ≡ Some (Some v) → value_under name (filter_map (seen_token seen) ns) ≡ Some (token_of v)
unfolding value_under
seen-given seen [] name v a e = absurd a
seen-given seen (n ∷ ns) name v a e = by_test (bytes_eq n name) refl a (λ rest. seen-given seen ns name v rest e)
  where
    further : (o : Option (Option Value)) → bytes_eq n name ≡ false → value_under name (filter_map (seen_token seen) ns) ≡ Some (token_of v) → value_under name (cons_option (token_under n o) (filter_map (seen_token seen) ns)) ≡ Some (token_of v)
    further (Some (Some w)) d more = ap (λ b. if b then Some (token_of w) else value_under name (filter_map (seen_token seen) ns)) d ∙ more
    further (Some None) d more = more
    further None d more = more

    by_test : (b : Bool) → bytes_eq n name ≡ b → Among name (n ∷ ns) → (Among name ns → value_under name (filter_map (seen_token seen) ns) ≡ Some (token_of v)) → value_under name (filter_map (seen_token seen) (n ∷ ns)) ≡ Some (token_of v)
    by_test true d a more =
        let same = (bytes_eq-Decides n name).0 d in
        ap (λ o. value_under name (cons_option (token_under n o) (filter_map (seen_token seen) ns))) (ap (bound seen) same ∙ e) ∙ ap (λ b. if b then Some (token_of v) else value_under name (filter_map (seen_token seen) ns)) d
    by_test false d (inl same) more = let no : true ≡ false = sym ((bytes_eq-Decides n name).1 same) ∙ d in absurd (cc)
    by_test false d (inr rest) more = further (bound seen n) d (more rest)

-- and each of these values is one that is seen
given-seen : (seen : Bindings) (ns : List (List ℕ)) (name : List ℕ) (t : Token) → value_under name (filter_map (seen_token seen) ns) ≡ Some t → (o : Option Value) × (bound seen name ≡ Some o)
unfolding value_under
given-seen seen [] name t e = absurd (cc)
given-seen seen (n ∷ ns) name t e = by_seen (bound seen n) refl (given-seen seen ns name t) e
  where
    by_test : (w : Value) → bound seen n ≡ Some (Some w) → (b : Bool) → bytes_eq n name ≡ b → (value_under name (filter_map (seen_token seen) ns) ≡ Some t → (o : Option Value) × (bound seen name ≡ Some o)) → (if b then Some (token_of w) else value_under name (filter_map (seen_token seen) ns)) ≡ Some t → (o : Option Value) × (bound seen name ≡ Some o)
    by_test w is true d more g = (Some w, ap (bound seen) (sym ((bytes_eq-Decides n name).0 d)) ∙ is)
    by_test w is false d more g = more g

    by_seen : (o : Option (Option Value)) → bound seen n ≡ o → (value_under name (filter_map (seen_token seen) ns) ≡ Some t → (o : Option Value) × (bound seen name ≡ Some o)) → value_under name (cons_option (token_under n o) (filter_map (seen_token seen) ns)) ≡ Some t → (o : Option Value) × (bound seen name ≡ Some o)
    by_seen (Some (Some w)) is more g = by_test w is (bytes_eq n name) refl more g
    by_seen (Some None) is more g = more g
    by_seen None is more g = more g

-- ---- a name that asks about a port is reserved

ending-same : (front end : List ℕ) → drop (length (front ++ end) - length end) (front ++ end) ≡ end
ending-same front end =
    let short : length (front ++ end) - length end ≡ length front = (let l = length-append front end in omega (arith, l)) in
    ap (λ n. drop n (front ++ end)) short ∙ drop_at front end (length front) refl

marked : (name front : List ℕ) (b : Bool) (port : List ℕ) → bytes_eq name (front ++ mark) ≡ b → (if b then Some front else None) ≡ Some port → name ≡ front ++ mark
marked name front true port d e = (bytes_eq-Decides name (front ++ mark)).0 d
marked name front false port d e = absurd (cc)

either : (a b : Bool) → b ≡ true → (a || b) ≡ true
either true b e = refl
either false b e = e

pub asking-reserved : (name port : List ℕ) → port_in name ≡ Some port → is_reserved name ≡ true
unfolding is_reserved
asking-reserved name port e =
    let front = take (length name - length mark) name in
    let whole = marked name front (bytes_eq name (front ++ mark)) port refl e in
    either (is_among words name) (ends_in presence name) (ap (ends_in presence) whole ∙ ends front)
  where
    long : (front : List ℕ) → nat_le (length presence) (length (front ++ mark)) ≡ true
    long front = le-leb (length presence) (length (front ++ mark)) (let l = length-append front mark in omega (arith, l))

    ends : (front : List ℕ) → ends_in presence (front ++ mark) ≡ true
    ends front = and_both (nat_le (length presence) (length (front ++ mark))) _ (long front) ((bytes_eq-Decides _ presence).1 (ending-same front presence))

-- ---- both

module _ {V : Type 0} (f : V → Datatype) (inputs : List (List ℕ × V)) (types : Types) (seen : Bindings) (ns : List (List ℕ)) (free : AreFree seen)
    (visible : (name : List ℕ) (t : Datatype) → types name ≡ Some t → (v : Value) × (bound seen name ≡ Some (Some v)) × (t ≡ type_of_value v)) where
  -- the types of the net
  abbrev pub net_types : Types
  net_types = names_types f inputs (known types ns)

  -- those by which the Expression is started
  abbrev pub formula_types : Types
  formula_types = with_types (map (entry_in f) inputs) (parameter_types (filter_map (seen_token seen) ns))

  parameter-typed : (name : List ℕ) (t : Datatype) → named itself (known types ns) name ≡ Some t → parameter_types (filter_map (seen_token seen) ns) name ≡ Some t
  parameter-typed name t e =
      let w = known-among types ns name t e in
      let v = visible name t w.1 in
      ap (option_map (λ (x : Token). type_of_value (value_of x))) (seen-given seen ns name v.0 w.0 v.1) ∙ ap (λ x. Some (type_of_value x)) (value_of-token_of v.0) ∙ ap Some (sym v.2)

  -- what has a type in the net has it in the Expression
  named-typed : (name : List ℕ) (t : Datatype) → net_types name ≡ Some t → formula_types name ≡ Some t
  named-typed name t e = inputs-first f inputs (parameter_types (filter_map (seen_token seen) ns)) name ∙ by_input (named f inputs name) e
    where
      by_input : (o : Option Datatype) → or_else o (named itself (known types ns) name) ≡ Some t → or_else o (parameter_types (filter_map (seen_token seen) ns) name) ≡ Some t
      by_input (Some s) g = g
      by_input None g = parameter-typed name t g

  -- a reserved name that has no type in the net has none in the Expression
  untyped : (name : List ℕ) → is_reserved name ≡ true → net_types name ≡ None → formula_types name ≡ None
  untyped name reserved e = inputs-first f inputs (parameter_types (filter_map (seen_token seen) ns)) name ∙ by_input (named f inputs name) e
    where
      by_value : (o : Option Token) → value_under name (filter_map (seen_token seen) ns) ≡ o → option_map (λ (x : Token). type_of_value (value_of x)) o ≡ None
      by_value None is = refl
      by_value (Some x) is = let w = given-seen seen ns name x is in let no : true ≡ false = sym reserved ∙ free name w.0 w.1 in absurd (cc)

      by_input : (o : Option Datatype) → or_else o (named itself (known types ns) name) ≡ None → or_else o (parameter_types (filter_map (seen_token seen) ns) name) ≡ None
      by_input (Some s) g = absurd (cc)
      by_input None g = by_value (value_under name (filter_map (seen_token seen) ns)) refl

  asked : (name : List ℕ) (o : Option (List ℕ)) → port_in name ≡ o → net_types name ≡ None → (t : Datatype) → presence_type net_types o ≡ Some t → or_else (formula_types name) (presence_type formula_types o) ≡ Some t
  asked name None is none t e = absurd (cc)
  asked name (Some port) is none t e =
      ap (λ o. or_else o (presence_type formula_types (Some port))) (untyped name (asking-reserved name port is) none) ∙ by_port (net_types port) (named-typed port) e
    where
      by_port : (o : Option Datatype) → ((s : Datatype) → o ≡ Some s → formula_types port ≡ Some s) → option_map (λ (x : Datatype). Boolean) o ≡ Some t → option_map (λ (x : Datatype). Boolean) (formula_types port) ≡ Some t
      by_port (Some s) has g = ap (option_map (λ (x : Datatype). Boolean)) (has s refl) ∙ g
      by_port None has g = absurd (cc)

  pub names-typed : HasAtLeast net_types formula_types
  names-typed name t e = by_name (net_types name) refl e
    where
      by_name : (o : Option Datatype) → net_types name ≡ o → or_else o (presence_type net_types (port_in name)) ≡ Some t → or_else (formula_types name) (presence_type formula_types (port_in name)) ≡ Some t
      by_name (Some s) is g = ap (λ o. or_else o (presence_type formula_types (port_in name))) (named-typed name s is) ∙ g
      by_name None is g = asked name (port_in name) refl is t g
