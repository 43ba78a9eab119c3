-- A Variable that has another value: what its name stands for then.
use Rattle.std.proofs.Common.{◌≡◌, ◌⊎◌, inl, inr, ℕ, zero, suc, ◌<◌, ◌≤◌, ◌+◌, List, [], ◌∷◌, length, get_or, drop, set, map, Bool, true, false, ◌||◌, not, Option, Some, None, refl, sym, ap, subst, ◌∙◌, add-one, arith, if◌then◌else◌}
use Rattle.std.specs.Prelude.{bytes_eq, unwrap_or}
use Rattle.std.proofs.lemmas.Bool.{false≢true, true≢false}
use Rattle.pt_meaning.specs.Streams.{Streams, get, change_at}
use Rattle.pt_meaning.specs.Transitions.{input_in, output_in, variable_in}
use Rattle.pt_meaning.specs.Transitions.{Scope as Reads}
use Rattle.pt_value.specs.Value.{Value}
use Rattle.pt_value.specs.declared.token.Token.{Token}
use Rattle.pt_datatypes.specs.Datatype.{Datatype}
use Rattle.pt_datatypes.proofs.Order.{same_bytes}
use Rattle.pt_language.specs.Scope.{Scope}
use Rattle.pt_types.specs.declared.ty.Ty.{Ty}
use Rattle.pt_types.specs.Ty.{type_of}
use Rattle.pt_types.specs.Entry.{typed_entry}
use Rattle.pt_flow_base.proofs.TypedPorts.{front}
use Rattle.pt_formula.specs.Formula.{names, parameters, with_name, is_among}
use Rattle.pt_chart.specs.Machine.{NameTable}
use Rattle.pt_chart.specs.Names.{of_type, with_names, is_port, shown_among, are_shown, renamed, with_value}
use Rattle.pt_guards.specs.Bindings.{scope_on}

abbrev Entries : Type 0
Entries = List (List ℕ × Datatype)

abbrev Held : Type 0
Held = Option (Option Value)

-- what a name stands for once these are bound, where it stood for this before
abbrev found : (k : ℕ) → Entries → (read : ℕ → Option Token) → (name : List ℕ) → Held → Held
found k [] read name d = d
found k (e ∷ es) read name d = found (suc k) es read name (if bytes_eq e.0 name then Some (of_type e.1 (read k)) else d)

found-is : (k : ℕ) (es : Entries) (read : ℕ → Option Token) (s : Scope) (name : List ℕ) → with_names k es read s name ≡ found k es read name (s name)
found-is k [] read s name = refl
found-is k (e ∷ es) read s name = found-is (suc k) es read (with_name e.0 (of_type e.1 (read k)) s) name

-- a name that is among them stands for one of them, whatever it stood for
covered : (k : ℕ) (es : Entries) (read : ℕ → Option Token) (name : List ℕ) (d d' : Held) → is_among name (names es) ≡ true → found k es read name d ≡ found k es read name d'
covered k [] read name d d' h = absurd (false≢true h)
covered k (e ∷ es) read name d d' h = by_test (bytes_eq e.0 name) refl (λ later. covered (suc k) es read name d d' later)
  where
    by_test : (b : Bool) → bytes_eq e.0 name ≡ b → (is_among name (names es) ≡ true → found (suc k) es read name d ≡ found (suc k) es read name d') → found (suc k) es read name (if b then Some (of_type e.1 (read k)) else d) ≡ found (suc k) es read name (if b then Some (of_type e.1 (read k)) else d')
    by_test true is more = refl
    by_test false is more = more (sym (ap (λ b. b || is_among name (names es)) is) ∙ h)

-- another one stands for what it stood for
uncovered : (k : ℕ) (es : Entries) (read : ℕ → Option Token) (name : List ℕ) (d : Held) → is_among name (names es) ≡ false → found k es read name d ≡ d
uncovered k [] read name d h = refl
uncovered k (e ∷ es) read name d h = by_test (bytes_eq e.0 name) refl (λ later. uncovered (suc k) es read name d later)
  where
    by_test : (b : Bool) → bytes_eq e.0 name ≡ b → (is_among name (names es) ≡ false → found (suc k) es read name d ≡ d) → found (suc k) es read name (if b then Some (of_type e.1 (read k)) else d) ≡ d
    by_test true is more = absurd (true≢false (sym (ap (λ b. b || is_among name (names es)) is) ∙ h))
    by_test false is more = more (sym (ap (λ b. b || is_among name (names es)) is) ∙ h)

-- what is read there alone counts
agrees : (k : ℕ) (es : Entries) (read read' : ℕ → Option Token) (name : List ℕ) (d : Held) → ((j : ℕ) → k ≤ j → read' j ≡ read j) → found k es read' name d ≡ found k es read name d
agrees k [] read read' name d same = refl
agrees k (e ∷ es) read read' name d same =
    ap (λ (o : Option Token). found (suc k) es read' name (if bytes_eq e.0 name then Some (of_type e.1 o) else d)) (same k (omega arith))
    ∙ agrees (suc k) es read read' name (if bytes_eq e.0 name then Some (of_type e.1 (read k)) else d) (λ j more. same j (omega (arith, more)))

not-both : (a b : Bool) → not (a || b) ≡ true → (a ≡ false) × (b ≡ false)
not-both true b h = absurd (false≢true h)
not-both false true h = absurd (false≢true h)
not-both false false h = (refl, refl)

not-neither : (a b : Bool) → not (a || b) ≡ false → (a ≡ true) ⊎ (b ≡ true)
not-neither true b h = inl refl
not-neither false true h = inr refl
not-neither false false h = absurd (true≢false h)

module _ (taken : List ℕ → Bool) (read read' : ℕ → Option Token) (name : List ℕ) (i : ℕ) (same : (j : ℕ) → (j ≡ i → ⊥) → read' j ≡ read j) where
  -- the name of a Variable that is shown stands for what is read there
  at-shown : (k n : ℕ) (es : Entries) (d : Held) (x : Token) → i ≡ k + n → read' i ≡ Some x → get (shown_among taken es) n ≡ Some true → found k es read' name d ≡ renamed (get es n) x (λ _. found k es read name d) name
  at-shown k n [] d x at there shown = absurd (cc)
  at-shown k zero (e ∷ es) d x at there shown = by_test (bytes_eq e.0 name) refl
    where
      parts : (is_among e.0 (names es) ≡ false) × (taken e.0 ≡ false)
      parts = not-both (is_among e.0 (names es)) (taken e.0) (ap (λ o. unwrap_or o false) shown)

      here : i ≡ k
      here = omega (arith, at)

      by_test : (b : Bool) → bytes_eq e.0 name ≡ b → found (suc k) es read' name (if b then Some (of_type e.1 (read' k)) else d) ≡ (if b then Some (of_type e.1 (Some x)) else found (suc k) es read name (if b then Some (of_type e.1 (read k)) else d))
      by_test true is =
          uncovered (suc k) es read' name (Some (of_type e.1 (read' k))) (ap (λ m. is_among m (names es)) (sym (same_bytes e.0 name is)) ∙ parts.0)
          ∙ ap (λ (o : Option Token). let held : Held = Some (of_type e.1 o) in held) (ap read' (sym here) ∙ there)
      by_test false is = agrees (suc k) es read read' name d (λ j more. same j (λ p. absurd (omega (arith, more, p, here))))
  at-shown k (suc n) (e ∷ es) d x at there shown =
      ap (λ (o : Option Token). found (suc k) es read' name (if bytes_eq e.0 name then Some (of_type e.1 o) else d)) (same k (λ p. absurd (omega (arith, at, p))))
      ∙ at-shown (suc k) n es (if bytes_eq e.0 name then Some (of_type e.1 (read k)) else d) x (omega (arith, at)) there shown

  -- that of another one stands for what it stood for, or is taken
  at-hidden : (k n : ℕ) (es : Entries) (d : Held) → i ≡ k + n → unwrap_or (get (shown_among taken es) n) false ≡ false → (found k es read' name d ≡ found k es read name d) ⊎ (taken name ≡ true)
  at-hidden k n [] d at hidden = inl refl
  at-hidden k zero (e ∷ es) d at hidden = by_test (bytes_eq e.0 name) refl
    where
      here : i ≡ k
      here = omega (arith, at)

      later : (d : Held) → found (suc k) es read' name d ≡ found (suc k) es read name d
      later d = agrees (suc k) es read read' name d (λ j more. same j (λ p. absurd (omega (arith, more, p, here))))

      by_cause : name ≡ e.0 → (is_among e.0 (names es) ≡ true) ⊎ (taken e.0 ≡ true) → (found (suc k) es read' name (Some (of_type e.1 (read' k))) ≡ found (suc k) es read name (Some (of_type e.1 (read k)))) ⊎ (taken name ≡ true)
      by_cause named (inl among) = inl (covered (suc k) es read' name (Some (of_type e.1 (read' k))) (Some (of_type e.1 (read k))) (ap (λ m. is_among m (names es)) named ∙ among) ∙ later (Some (of_type e.1 (read k))))
      by_cause named (inr port) = inr (ap taken named ∙ port)

      by_test : (b : Bool) → bytes_eq e.0 name ≡ b → (found (suc k) es read' name (if b then Some (of_type e.1 (read' k)) else d) ≡ found (suc k) es read name (if b then Some (of_type e.1 (read k)) else d)) ⊎ (taken name ≡ true)
      by_test true is = by_cause (sym (same_bytes e.0 name is)) (not-neither (is_among e.0 (names es)) (taken e.0) hidden)
      by_test false is = inl (later d)
  at-hidden k (suc n) (e ∷ es) d at hidden =
      subst
      (λ (o : Option Token). (found (suc k) es read' name (if bytes_eq e.0 name then Some (of_type e.1 o) else d) ≡ found (suc k) es read name (if bytes_eq e.0 name then Some (of_type e.1 (read k)) else d)) ⊎ (taken name ≡ true))
      (sym (same k (λ p. absurd (omega (arith, at, p)))))
      (at-hidden (suc k) n es (if bytes_eq e.0 name then Some (of_type e.1 (read k)) else d) (omega (arith, at)) hidden)

-- a Variable that is shown has no name that is taken
untaken : (taken : List ℕ → Bool) (n : ℕ) (es : Entries) (e : List ℕ × Datatype) → get (shown_among taken es) n ≡ Some true → get es n ≡ Some e → taken e.0 ≡ false
untaken taken n [] e shown there = absurd (cc)
untaken taken zero (f ∷ es) e shown there =
    let is : f ≡ e = ap (λ o. unwrap_or o f) there in
    ap (λ (p : List ℕ × Datatype). taken p.0) (sym is) ∙ (not-both (is_among f.0 (names es)) (taken f.0) (ap (λ o. unwrap_or o false) shown)).1
untaken taken (suc n) (f ∷ es) e shown there = untaken taken n es e shown there

-- ---- the values of Variables

get-changed : (i j : ℕ) (x : Token) (xs : List Token) → (j ≡ i → ⊥) → get (change_at i (λ old. x) xs) j ≡ get xs j
get-changed i j x [] apart = refl
get-changed zero zero x (y ∷ xs) apart = absurd (apart refl)
get-changed zero (suc j) x (y ∷ xs) apart = refl
get-changed (suc i) zero x (y ∷ xs) apart = refl
get-changed (suc i) (suc j) x (y ∷ xs) apart = get-changed i j x xs (λ p. apart (omega (arith, p)))

get-set : (i : ℕ) (x : Token) (xs : List Token) → i < length xs → get (change_at i (λ old. x) xs) i ≡ Some x
get-set i x [] short = absurd (omega (arith, short))
get-set zero x (y ∷ xs) short = refl
get-set (suc i) x (y ∷ xs) short = get-set i x xs (omega (arith, short))

some-true : (o : Option Bool) → unwrap_or o false ≡ true → o ≡ Some true
some-true None h = absurd (false≢true h)
some-true (Some b) h = ap (λ (c : Bool). Some c) h

-- ---- all names

module _ (table : NameTable) (came given : Streams Token) (name : List ℕ) where
  -- ports over what the name stands for by the Variables
  abbrev under : Held → Held
  under v = found 0 table.inputs (input_in (record { values = []; inputs = came; given = given })) name (found 0 table.outputs (output_in (record { values = []; inputs = came; given = given })) name v)

  abbrev variable : List Token → Held
  variable values = found 0 table.variables (get values) name (parameters table.parameters name)

  name-found : (values : List Token) → scope_on table values came given name ≡ under (variable values)
  name-found values =
      let reads : Reads Token = record { values = values; inputs = came; given = given } in
      let base : Scope = parameters table.parameters in
      let one : Scope = with_names 0 table.variables (variable_in reads) base in
      let two : Scope = with_names 0 table.outputs (output_in reads) one in
      found-is 0 table.inputs (input_in reads) two name
      ∙ ap (λ (v : Held). found 0 table.inputs (input_in reads) name v) (found-is 0 table.outputs (output_in reads) one name)
      ∙ ap (λ (v : Held). under v) (found-is 0 table.variables (variable_in reads) base name)

  under-port : (v v' : Held) → is_port table name ≡ true → under v ≡ under v'
  under-port v v' port = by_output (is_among name (names table.outputs)) refl
    where
      by_output : (b : Bool) → is_among name (names table.outputs) ≡ b → under v ≡ under v'
      by_output true is = ap (λ (w : Held). found 0 table.inputs (input_in (record { values = []; inputs = came; given = given })) name w) (covered 0 table.outputs (output_in (record { values = []; inputs = came; given = given })) name v v' is)
      by_output false is =
          covered 0 table.inputs (input_in (record { values = []; inputs = came; given = given })) name (found 0 table.outputs (output_in (record { values = []; inputs = came; given = given })) name v) (found 0 table.outputs (output_in (record { values = []; inputs = came; given = given })) name v')
          (sym (ap (λ b. b || is_among name (names table.inputs)) is) ∙ port)

  neither : (a b : Bool) → (a || b) ≡ false → (a ≡ false) × (b ≡ false)
  neither true b h = absurd (true≢false h)
  neither false b h = (refl, h)

  under-other : (v : Held) → is_port table name ≡ false → under v ≡ v
  under-other v apart =
      let parts = neither (is_among name (names table.outputs)) (is_among name (names table.inputs)) apart in
      uncovered 0 table.inputs (input_in (record { values = []; inputs = came; given = given })) name (found 0 table.outputs (output_in (record { values = []; inputs = came; given = given })) name v) parts.1
      ∙ uncovered 0 table.outputs (output_in (record { values = []; inputs = came; given = given })) name v parts.0

  along : (values values' : List Token) → under (variable values) ≡ under (variable values') → scope_on table values came given name ≡ scope_on table values' came given name
  along values values' same = name-found values ∙ same ∙ sym (name-found values')

  module _ (values : List Token) (i : ℕ) (x : Token) (short : i < length values) where
    abbrev now : List Token
    now = change_at i (λ old. x) values

    same : (j : ℕ) → (j ≡ i → ⊥) → get now j ≡ get values j
    same j apart = get-changed i j x values apart

    by-entry : (o : Option (List ℕ × Datatype)) → get table.variables i ≡ o → get (are_shown table) i ≡ Some true → variable now ≡ renamed o x (λ _. variable values) name → renamed o x (scope_on table values came given) name ≡ scope_on table now came given name
    by-entry None there shown made = along values now (ap (λ (v : Held). under v) (sym made))
    by-entry (Some e) there shown made = by_test (bytes_eq e.0 name) refl made
      where
        by_test : (b : Bool) → bytes_eq e.0 name ≡ b → variable now ≡ (if b then Some (of_type e.1 (Some x)) else variable values) → (if b then Some (of_type e.1 (Some x)) else scope_on table values came given name) ≡ scope_on table now came given name
        by_test true is made' =
            sym
            (name-found now ∙ ap (λ (v : Held). under v) made' ∙ under-other (Some (of_type e.1 (Some x))) (ap (λ m. is_port table m) (sym (same_bytes e.0 name is)) ∙ untaken (λ m. is_port table m) i table.variables e shown there))
        by_test false is made' = along values now (ap (λ (v : Held). under v) (sym made'))

    by-cause : (variable now ≡ variable values) ⊎ (is_port table name ≡ true) → scope_on table values came given name ≡ scope_on table now came given name
    by-cause (inl kept) = along values now (ap (λ (v : Held). under v) (sym kept))
    by-cause (inr port) = along values now (under-port (variable values) (variable now) port)

    -- what the name stands for once a Variable has another value
    pub value-set : with_value table i x (scope_on table values came given) name ≡ scope_on table now came given name
    value-set = by_test (unwrap_or (get (are_shown table) i) false) refl
      where
        by_test : (b : Bool) → unwrap_or (get (are_shown table) i) false ≡ b → (if b then renamed (get table.variables i) x (scope_on table values came given) else scope_on table values came given) name ≡ scope_on table now came given name
        by_test true is =
            let shown = some-true (get (are_shown table) i) is in
            by-entry (get table.variables i) refl shown (at-shown (λ m. is_port table m) (get values) (get now) name i same 0 i table.variables (parameters table.parameters name) x (omega arith) (get-set i x values short) shown)
        by_test false is = by-cause (at-hidden (λ m. is_port table m) (get values) (get now) name i same 0 i table.variables (parameters table.parameters name) (omega arith) is)

-- a Variable whose name is bound anew
pub follows : (table : NameTable) (values : List Token) (i : ℕ) (x : Token) (s s' : Scope) → i < length values → ((name : List ℕ) → s' name ≡ with_value table i x s name) → (came given : Streams Token) → s ≡ scope_on table values came given → s' ≡ scope_on table (change_at i (λ old. x) values) came given
follows table values i x s s' short bound came given is =
    λ k name. (bound name ∙ ap (λ (u : Scope). with_value table i x u name) is ∙ value-set table came given name values i x short) k

-- a name that is bound to another token
entry-there : (es : List (List ℕ × Ty)) (n : ℕ) (e : List ℕ × Ty) → n < length es → e ≡ get_or es n e → get (map typed_entry es) n ≡ Some (typed_entry e)
entry-there [] n e short is = absurd (omega (arith, short))
entry-there (x ∷ es) zero e short is = ap (λ (u : List ℕ × Ty). Some (typed_entry u)) (sym is)
entry-there (x ∷ es) (suc n) e short is = entry-there es n e (omega (arith, short)) is

pub renames : (es : List (List ℕ × Ty)) (n : ℕ) (e : List ℕ × Ty) (name : List ℕ) (v : Option Value) (x : Token) (s s' : Scope) → n < length es → e ≡ get_or es n e → name ≡ e.0 → v ≡ of_type (type_of e.1) (Some x) → ((other : List ℕ) → s' other ≡ with_name name v s other) →
    (other : List ℕ) → s' other ≡ renamed (get (map typed_entry es) n) x s other
renames es n e name v x s s' short is named held bound other =
    bound other ∙ (λ i. with_name (named i) (held i) s other) ∙ sym (ap (λ (o : Option (List ℕ × Datatype)). renamed o x s other) (entry-there es n e short is))

pub renames-none : (es : List (List ℕ × Ty)) (n : ℕ) (x : Token) (s : Scope) → length es ≤ n → (other : List ℕ) → s other ≡ renamed (get (map typed_entry es) n) x s other
renames-none [] n x s past other = refl
renames-none (e ∷ es) zero x s past other = absurd (omega (arith, past))
renames-none (e ∷ es) (suc n) x s past other = renames-none es n x s (omega (arith, past)) other

-- ---- which Variables are shown

swapped : (a b c : Bool) → (a || (b || c)) ≡ ((b || a) || c)
swapped true true c = refl
swapped true false c = refl
swapped false true c = refl
swapped false false c = refl

grouped : (a b c : Bool) → (a || (b || c)) ≡ ((a || b) || c)
grouped true b c = refl
grouped false b c = refl

-- a name that is put there leaves the later ones to put
pub put-next : (es : List (List ℕ × Ty)) (n : ℕ) (e : List ℕ × Ty) (name : List ℕ) (f g : List ℕ → Bool) → n < length es → e ≡ get_or es n e → name ≡ e.0 → ((other : List ℕ) → g other ≡ (bytes_eq name other || f other)) →
    (other : List ℕ) → (is_among other (names (map typed_entry (drop (n + 1) es))) || g other) ≡ (is_among other (names (map typed_entry (drop n es))) || f other)
put-next es n e name f g short is named put other =
    let later : Bool = is_among other (names (map typed_entry (drop (n + 1) es))) in
    ap (λ b. later || b) (put other ∙ ap (λ m. bytes_eq m other || f other) named)
    ∙ swapped later (bytes_eq e.0 other) (f other)
    ∙ sym (ap (λ xs. is_among other (names (map typed_entry xs)) || f other) (front es n e short is))

drop-set : {A : Type 0} (xs : List A) (n : ℕ) (b : A) → n < length xs → drop n (set xs n b) ≡ b ∷ drop (suc n) xs
drop-set [] n b short = absurd (omega (arith, short))
drop-set (x ∷ xs) zero b short = refl
drop-set (x ∷ xs) (suc n) b short = drop-set xs n b (omega (arith, short))

-- the Variable before these
module _ (es : List (List ℕ × Ty)) (n : ℕ) (e : List ℕ × Ty) (name : List ℕ) (f g h : List ℕ → Bool) (short : n < length es) (is : e ≡ get_or es n e) (named : name ≡ e.0) (before : (other : List ℕ) → g other ≡ (is_among other (names (map typed_entry (drop (n + 1) es))) || f other)) where
  pub taken-before : ((other : List ℕ) → h other ≡ (bytes_eq name other || g other)) → (other : List ℕ) → h other ≡ (is_among other (names (map typed_entry (drop n es))) || f other)
  taken-before put other =
      let later : Bool = is_among other (names (map typed_entry (drop (n + 1) es))) in
      put other
      ∙ ap (λ m. bytes_eq m other || g other) named
      ∙ ap (λ b. bytes_eq e.0 other || b) (before other)
      ∙ grouped (bytes_eq e.0 other) later (f other)
      ∙ sym (ap (λ xs. is_among other (names (map typed_entry xs)) || f other) (front es n e short is))

  pub shown-before : (shown : List Bool) (b : Bool) → n < length shown → b ≡ not (g name) → drop (n + 1) shown ≡ shown_among f (map typed_entry (drop (n + 1) es)) → drop n (set shown n b) ≡ shown_among f (map typed_entry (drop n es))
  shown-before shown b room new later =
      drop-set shown n b room
      ∙ ap (λ m. b ∷ drop m shown) (sym (add-one n))
      ∙ ap (λ xs. b ∷ xs) later
      ∙ ap (λ c. c ∷ shown_among f (map typed_entry (drop (n + 1) es))) (new ∙ ap (λ m. not (g m)) named ∙ ap not (before e.0))
      ∙ sym (ap (λ xs. shown_among f (map typed_entry xs)) (front es n e short is))
