-- What a tree comes to where its names are bound.
use Rattle.std.proofs.Common.{◌≡◌, ◌⊎◌, inl, inr, ℕ, zero, suc, ◌++◌, List, [], ◌∷◌, true, false, Some, None, refl, sym, ap, subst, ◌∙◌, if◌then◌else◌, arith}
use Rattle.std.specs.Prelude.{Bool, IfSome, is_some}
use Rattle.std.specs.Str.{bytes_eq}
use Rattle.std.specs.List.{Contains}
use Rattle.std.proofs.lemmas.List.Elements.{Contains-append_left, Contains-append_right, Contains-append_cases}
use Rattle.pt_value.specs.Value.{Value}
use Rattle.pt_value.proofs.Names.{bytes_eq-same}
use Rattle.pt_datatypes.specs.Datatype.{Datatype}
use Rattle.pt_datatypes.specs.Token.{type_of_value}
use Rattle.pt_datatypes.proofs.Order.{below-refl, same_bytes}
use Rattle.pt_datatypes.proofs.Fields.{and_both}
use Rattle.pt_language.specs.declared.eval_fault.EvalFault.{EvalFault}
use Rattle.pt_language.specs.Outcome.{Gives, Stops, Wrong}
use Rattle.pt_language.specs.Scope.{Scope, port_in}
use Rattle.pt_language.specs.Meaning.{value}
use Rattle.pt_language.specs.Tree as tree
use Rattle.pt_language.specs.Tree.{Tree, Trees, no_trees, tree_then, NamedTrees}
use Rattle.pt_language.specs.Typing.{Clash}
use Rattle.pt_language.specs.Types.{Types, is_bound, or_else, presence_type}
use Rattle.pt_language.specs.TreeType.{tree_type, are_bound, are_parts_bound, are_fields_bound, IsTyped}
use Rattle.pt_language.specs.Laws.{Keeps, IsHeld, IsOfType, TypedTreesAreSound}
use Rattle.pt_scopes.specs.Texts.{IsRead, names_in, names_in_parts, names_in_fields, types_of, type_of_held, AreKnown, HasValue, HasClash, HasFault}
use Rattle.pt_scopes.specs.Binding.{IsHeldAs, IsFree, AreBound}
use Rattle.pt_parameter.proofs.Agreeing.{value-same, type-same}

-- ---- one name more

first : (name other : List ℕ) → Contains (name ∷ []) other → name ≡ other
first name other (zero, short, is) = is
first name other (suc k, short, is) = absurd (omega arith)

module _ (scope env env' : Scope) (types types' : Types) (name : List ℕ) (v : Value) (seen : scope name ≡ Some (Some v)) (bound' : (other : List ℕ) → env' other ≡ (if bytes_eq name other then Some (Some v) else env other)) (typed' : (other : List ℕ) → types' other ≡ (if bytes_eq name other then Some (type_of_value v) else types other)) where
  abbrev Held : List ℕ → Type 0
  Held other = IsHeldAs scope env types other

  abbrev Held' : List ℕ → Type 0
  Held' other = IsHeldAs scope env' types' other

  here : (other : List ℕ) → bytes_eq name other ≡ true → Held' other
  here other e = record {
    held = v;
    seen = ap scope (sym (same_bytes name other e)) ∙ seen;
    bound = bound' other ∙ ap (λ b. if b then Some (Some v) else env other) e;
    typed = typed' other ∙ ap (λ b. if b then Some (type_of_value v) else types other) e;
  }

  stays : (other : List ℕ) → bytes_eq name other ≡ false → Held other → Held' other
  stays other e h = record {
    held = h.held;
    seen = h.seen;
    bound = bound' other ∙ ap (λ b. if b then Some (Some v) else env other) e ∙ h.bound;
    typed = typed' other ∙ ap (λ b. if b then Some (type_of_value v) else types other) e ∙ h.typed;
  }

  free : (other : List ℕ) → bytes_eq name other ≡ false → IsFree env types other → IsFree env' types' other
  free other e h = record {
    unbound = bound' other ∙ ap (λ b. if b then Some (Some v) else env other) e ∙ h.unbound;
    untyped = typed' other ∙ ap (λ b. if b then Some (type_of_value v) else types other) e ∙ h.untyped;
  }

  still : (other : List ℕ) (b : Bool) → bytes_eq name other ≡ b → Held other → Held' other
  still other true e h = here other e
  still other false e h = stays other e h

  each : (other : List ℕ) (b : Bool) → bytes_eq name other ≡ b → Held other ⊎ IsFree env types other → Held' other ⊎ IsFree env' types' other
  each other true e h = inl (here other e)
  each other false e (inl h) = inl (stays other e h)
  each other false e (inr h) = inr (free other e h)

  among : (done : List (List ℕ)) (other : List ℕ) → ((o : List ℕ) → Contains done o → Held o) → Contains done other ⊎ Contains (name ∷ []) other → Held' other
  among done other there (inl w) = still other (bytes_eq name other) refl (there other w)
  among done other there (inr w) = here other (bytes_eq-same name other (first name other w))

  pub bound-more : (done : List (List ℕ)) → AreBound scope env types done → AreBound scope env' types' (done ++ name ∷ [])
  bound-more done h = record {
    each = λ other. each other (bytes_eq name other) refl (h.each other);
    there = λ other w. among done other h.there (Contains-append_cases done (name ∷ []) other w);
  }

-- at first no name is bound
pub none : (name : List ℕ) → Contains [] name → ⊥
none name w = omega (arith, w.1)

pub bound-none : (scope env : Scope) (types : Types) → ((name : List ℕ) → env name ≡ None) → ((name : List ℕ) → types name ≡ None) → AreBound scope env types []
bound-none scope env types unbound untyped = record {
  each = λ name. inr (record { unbound = unbound name; untyped = untyped name });
  there = λ name w. absurd (none name w);
}

-- ---- names that are bound have types

module _ (types : Types) where
  abbrev AreTyped : List (List ℕ) → Type 0
  AreTyped names = (name : List ℕ) → Contains names name → (t : Datatype) × (types name ≡ Some t)

  left : (xs ys : List (List ℕ)) → AreTyped (xs ++ ys) → AreTyped xs
  left xs ys h name w = h name (Contains-append_left xs ys name w)

  right : (xs ys : List (List ℕ)) → AreTyped (xs ++ ys) → AreTyped ys
  right xs ys h name w = h name (Contains-append_right xs ys name w)

  under : (name : List ℕ) (t : Datatype) → types name ≡ Some t → is_bound types name ≡ true
  under name t e = ap (λ o. is_some (or_else o (presence_type types (port_in name)))) e

  mutual
    pub names-bound : (t : Tree) → AreTyped (names_in t) → are_bound types t ≡ true
    names-bound (tree.Int n) h = refl
    names-bound (tree.Bool b) h = refl
    names-bound (tree.Words xs) h = refl
    names-bound (tree.Name name) h = let w = h name (0, omega arith, refl) in under name w.0 w.1
    names-bound (tree.Array ts) h = parts-bound ts h
    names-bound (tree.Record fs) h = fields-bound fs h
    names-bound (tree.Negate t) h = names-bound t h
    names-bound (tree.Not t) h = names-bound t h
    names-bound (tree.Binary o s t) h = and_both _ _ (names-bound s (left (names_in s) (names_in t) h)) (names-bound t (right (names_in s) (names_in t) h))
    names-bound (tree.Cond s t u) h =
        let later = right (names_in s) (names_in t ++ names_in u) h in
        and_both _ _ (names-bound s (left (names_in s) (names_in t ++ names_in u) h)) (and_both _ _ (names-bound t (left (names_in t) (names_in u) later)) (names-bound u (right (names_in t) (names_in u) later)))
    names-bound (tree.Abs t) h = names-bound t h
    names-bound (tree.Max s t) h = and_both _ _ (names-bound s (left (names_in s) (names_in t) h)) (names-bound t (right (names_in s) (names_in t) h))
    names-bound (tree.Min s t) h = and_both _ _ (names-bound s (left (names_in s) (names_in t) h)) (names-bound t (right (names_in s) (names_in t) h))
    names-bound (tree.Apply s t) h = and_both _ _ (names-bound s (left (names_in s) (names_in t) h)) (names-bound t (right (names_in s) (names_in t) h))
    names-bound (tree.Field t name) h = names-bound t h
    names-bound (tree.Length t) h = names-bound t h

    parts-bound : (ts : Trees) → AreTyped (names_in_parts ts) → are_parts_bound types ts ≡ true
    parts-bound no_trees h = refl
    parts-bound (tree_then t ts) h = and_both _ _ (names-bound t (left (names_in t) (names_in_parts ts) h)) (parts-bound ts (right (names_in t) (names_in_parts ts) h))

    fields-bound : (fs : NamedTrees) → AreTyped (names_in_fields fs) → are_fields_bound types fs ≡ true
    fields-bound tree.no_fields h = refl
    fields-bound (tree.field_then n t fs) h = and_both _ _ (names-bound t (left (names_in t) (names_in_fields fs) h)) (fields-bound fs (right (names_in t) (names_in_fields fs) h))

-- ---- what a tree comes to

module _ (scope env : Scope) (types : Types) (t : Tree) (h : AreBound scope env types (names_in t)) where
  known : AreKnown scope t
  known name w = let k = h.there name w in (k.held, k.seen)

  value-is : value env t ≡ value scope t
  value-is = value-same env scope t (λ name w. let k = h.there name w in (Some k.held, k.bound, k.seen))

  type-is : tree_type types t ≡ tree_type (types_of scope) t
  type-is = type-same types (types_of scope) t (λ name w. let k = h.there name w in (type_of_value k.held, k.typed, ap type_of_held k.seen))

  pub all-bound : are_bound types t ≡ true
  all-bound = names-bound types t (λ name w. let k = h.there name w in (type_of_value k.held, k.typed))

  held-under : (name : List ℕ) → IsHeldAs scope env types name ⊎ IsFree env types name → IfSome (types name) (λ s. IsHeld s (env name))
  held-under name (inl k) = rw (k.typed, k.bound) (below-refl (type_of_value k.held))
  held-under name (inr k) = rw k.untyped tt

  unasked : (name : List ℕ) → IsHeldAs scope env types name ⊎ IsFree env types name → types name ≡ None → env name ≡ None
  unasked name (inl k) e = let differ : Some (type_of_value k.held) ≡ None = sym k.typed ∙ e in cc
  unasked name (inr k) e = k.unbound

  pub keeps : Keeps types env
  keeps = record {
    held = λ name. held-under name (h.each name);
    asked = λ name asks none. unasked name (h.each name) none;
  }

  pub has-value : (text : List ℕ) → IsRead text t → (s : Datatype) → IsTyped types t s → (v : Value) → value env t ≡ Gives v → HasValue scope text v
  has-value text read s typed v gives = record { read = t; is_read = read; known = known; type = s; typed = sym type-is ∙ typed.typed; gives = sym value-is ∙ gives }

  pub has-clash : (text : List ℕ) → IsRead text t → tree_type types t ≡ Clash → HasClash scope text
  has-clash text read clash = record { read = t; is_read = read; known = known; clash = sym type-is ∙ clash }

  pub has-fault : (text : List ℕ) → IsRead text t → (s : Datatype) → IsTyped types t s → (f : EvalFault) → value env t ≡ Stops f → HasFault scope text
  has-fault text read s typed f stops = record { read = t; is_read = read; known = known; type = s; typed = sym type-is ∙ typed.typed; fault = f; stops = sym value-is ∙ stops }

-- a typed tree isn't wrong
pub not-wrong : TypedTreesAreSound → (types : Types) (env : Scope) → Keeps types env → (t : Tree) (s : Datatype) → IsTyped types t s → value env t ≡ Wrong → ⊥
not-wrong sound types env keeps t s typed wrong = subst (IsOfType s) wrong (sound types env keeps t s typed)
