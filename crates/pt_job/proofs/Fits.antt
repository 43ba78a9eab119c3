-- Inputs that fit the top, and those that don't.
use Rattle.std.proofs.Common.{◌≡◌, ℕ, ◌+◌, ◌<◌, ◌≤◌, inl, inr, Bool, true, false, not, ◌&&◌, ◌||◌, Option, Some, None, List, [], ◌∷◌, length, get_or, map, bytes_eq, refl, sym, ap, subst, ◌∙◌, arith}
use Rattle.std.specs.Prelude.{nat_eq}
use Rattle.std.proofs.lemmas.Bool.{both_ways, cases_eq, cases_order, and_parts, eqb-true, eq-eqb, false≢true}
use Rattle.std.proofs.lemmas.List.{length-map}
use Rattle.std.proofs.lemmas.List.Quantifiers.{position-Some}
use Rattle.std.proofs.lemmas.Option.{slice_get-get_or, slice_get_within, get_or_from_slice_get, slice_get-map}
use Rattle.std.specs.List.{Contains, list_all, slice_get}
use Rattle.std.specs.Option.{is_some, option_eq, option_map}
use Rattle.pt_document.specs.declared.code.Code.TheVariants as code
use Rattle.pt_document.specs.declared.refusal.Refusal.{Refusal}
use Rattle.pt_document.specs.declared.refusal.DocFault.{DocFault}
use Rattle.pt_document.specs.declared.refusal.DocFault.TheVariants as faults
use Rattle.pt_document.specs.declared.job.Input.{Input}
use Rattle.pt_document.specs.Document.{InputTree, SupplyTree, tokens, events}
use Rattle.pt_document.specs.Outcome.{IsRefusal}
use Rattle.pt_document.specs.View.{input_view}
use Rattle.pt_net.specs.Table.{shown}
use Rattle.pt_scopes.specs.Scopes.{NetTree}
use Rattle.pt_job.specs.Inputs.{own_inputs, named_ports, input_to, may_lack, is_timed, AreInOrder, are_in_order, is_full, is_port, is_first, fits, IsInputFault, names_no_port, repeated, has_events, has_absent, has_tokens, disordered, IsFaultOf}
use Rattle.pt_job.proofs.Members.{contains_here, contains_later, contains_cases, none_in_nil, contains_slice, slice_contains, unmapped, text_same, no_position, position_text, contains_position, position_contains}
use Rattle.pt_job.proofs.Order.{is-in-order, passes}

pub told : (net : NetTree) (fault : DocFault) (path : List ℕ) → IsRefusal fault code.Inputs path → IsInputFault net path → IsFaultOf net fault
told net faults.Memory path is h = tt
told net (faults.Refused r) path is h = (ap (λ (s : Refusal). s.code) is, subst (IsInputFault net) (sym (ap (λ (s : Refusal). s.path) is)) h)

-- ---- tokens

absent_in : (ts : List (Option (List ℕ))) → list_all is_some ts ≡ false → Contains ts None
absent_in [] h = absurd cc
absent_in (None ∷ ts) h = contains_here None ts
absent_in (Some t ∷ ts) h = contains_later (Some t) ts None (absent_in ts h)

none_absent : (ts : List (Option (List ℕ))) → list_all is_some ts ≡ true → Contains ts None → ⊥
none_absent [] h w = none_in_nil None w
none_absent (None ∷ ts) h w = absurd cc
none_absent (Some t ∷ ts) h w = elim (contains_cases (Some t) ts None w) [ inl e ↦ (let z : Some t ≡ None = e in absurd cc) | inr v ↦ none_absent ts h v ]

not_full : (net : NetTree) (i : InputTree) → Contains net.inputs i → is_full (is_timed net) (may_lack net) i.supply ≡ false → IsInputFault net (shown i.port)
not_full net i there bad = by_time i.supply refl (is_timed net) refl bad
  where
    by_lack : is_timed net ≡ false → (ts : List (Option (List ℕ))) → i.supply ≡ tokens ts → (b : Bool) → may_lack net ≡ b → (b || list_all is_some ts) ≡ false → IsInputFault net (shown i.port)
    by_lack plain ts e true m h = absurd (cc)
    by_lack plain ts e false m h = has_absent i ts m there e (absent_in ts h)

    by_time : (s : SupplyTree) → i.supply ≡ s → (b : Bool) → is_timed net ≡ b → is_full b (may_lack net) s ≡ false → IsInputFault net (shown i.port)
    by_time (tokens ts) e true m h = has_tokens i ts m there e
    by_time (tokens ts) e false m h = by_lack m ts e (may_lack net) refl h
    by_time (events es) e true m h = disordered i es there e (λ o. both_ways (are_in_order es) h (passes es o))
    by_time (events es) e false m h = has_events i es m there e

-- ---- places

first_is : (o : Option ℕ) (k : ℕ) → option_eq nat_eq o (Some k) ≡ true → o ≡ Some k
first_is None k e = absurd cc
first_is (Some j) k e = ap Some (eqb-true j k e)

is_the_first : (o : Option ℕ) (k : ℕ) → o ≡ Some k → option_eq nat_eq o (Some k) ≡ true
is_the_first o k e = ap (λ (p : Option ℕ). option_eq nat_eq p (Some k)) e ∙ eq-eqb k k refl

port_at : (net : NetTree) (k : ℕ) (i : InputTree) → slice_get net.inputs k ≡ Some i → slice_get (named_ports net) k ≡ Some i.port
port_at net k i at = slice_get-map (λ (j : InputTree). j.port) net.inputs k ∙ ap (option_map (λ (j : InputTree). j.port)) at

not_first : (net : NetTree) (k : ℕ) (i : InputTree) → slice_get net.inputs k ≡ Some i → is_first net k i.port ≡ false → IsInputFault net (shown i.port)
not_first net k i at bad = go (input_to net i.port) refl
  where
    go : (o : Option ℕ) → input_to net i.port ≡ o → IsInputFault net (shown i.port)
    go None e = absurd (no_position (bytes_eq i.port) (named_ports net) e k i.port (port_at net k i at) (text_same i.port))
    go (Some j) e =
        elim (cases_order j k) [
          | inl same ↦ absurd (both_ways (is_first net k i.port) bad (is_the_first (input_to net i.port) k (e ∙ ap Some same)))
          | inr w ↦ elim w [
            | inl before ↦ (let u = unmapped (λ (h : InputTree). h.port) net.inputs j i.port (position_text i.port (named_ports net) j e) in repeated j k u.0 i before u.1 at u.2)
            | inr after ↦ absurd (both_ways (bytes_eq i.port (get_or (named_ports net) k [])) ((position-Some (bytes_eq i.port) (named_ports net) j [] e).2 k after) (ap (bytes_eq i.port) (get_or_from_slice_get (named_ports net) k i.port [] (port_at net k i at)) ∙ text_same i.port))
          ]
        ]

-- ---- one input

pub misfit : (net : NetTree) (k : ℕ) (i : InputTree) → slice_get net.inputs k ≡ Some i → fits net k i ≡ false → IsInputFault net (shown i.port)
misfit net k i at bad = of_port (is_port net i.port) refl bad
  where
    of_first : (b : Bool) → is_first net k i.port ≡ b → (b && is_full (is_timed net) (may_lack net) i.supply) ≡ false → IsInputFault net (shown i.port)
    of_first true e h = not_full net i (contains_slice net.inputs k i at) h
    of_first false e h = not_first net k i at e

    of_port : (b : Bool) → is_port net i.port ≡ b → (b && (is_first net k i.port && is_full (is_timed net) (may_lack net) i.supply)) ≡ false → IsInputFault net (shown i.port)
    of_port true e h = of_first (is_first net k i.port) refl h
    of_port false e h = names_no_port i (contains_slice net.inputs k i at) (λ w. both_ways (is_port net i.port) e (contains_position i.port (own_inputs net) w))

fit_parts : (net : NetTree) (k : ℕ) (i : InputTree) → fits net k i ≡ true → (is_port net i.port ≡ true) × (is_first net k i.port ≡ true) × (is_full (is_timed net) (may_lack net) i.supply ≡ true)
fit_parts net k i h =
    let a = and_parts (is_port net i.port) (is_first net k i.port && is_full (is_timed net) (may_lack net) i.supply) h in
    let b = and_parts (is_first net k i.port) (is_full (is_timed net) (may_lack net) i.supply) a.1 in
    (a.0, b.0, b.1)

-- ---- all inputs

abbrev pub AllFit : NetTree → Type 0
AllFit net = (k : ℕ) (i : InputTree) → slice_get net.inputs k ≡ Some i → fits net k i ≡ true

-- what comes to an input that fits
is_filled : (net : NetTree) → AllFit net → (i : InputTree) → Contains net.inputs i → (s : SupplyTree) → i.supply ≡ s → is_full (is_timed net) (may_lack net) s ≡ true
is_filled net fit i there s is =
    let k = slice_contains net.inputs i there in
    sym (ap (is_full (is_timed net) (may_lack net)) is) ∙ (fit_parts net k.0 i (fit k.0 i k.1)).2

pub clean : (net : NetTree) {path : List ℕ} → AllFit net → IsInputFault net path → ⊥
clean net fit (names_no_port i there none) =
    let s = slice_contains net.inputs i there in
    none (position_contains i.port (own_inputs net) (fit_parts net s.0 i (fit s.0 i s.1)).0)
clean net fit (repeated first second i j before at_first at_second same) =
    let is : input_to net j.port ≡ Some second = first_is (input_to net j.port) second (fit_parts net second j (fit second j at_second)).1 in
    both_ways (bytes_eq j.port (get_or (named_ports net) first []))
    ((position-Some (bytes_eq j.port) (named_ports net) second [] is).2 first before)
    (ap (bytes_eq j.port) (get_or_from_slice_get (named_ports net) first i.port [] (port_at net first i at_first) ∙ same) ∙ text_same j.port)
clean net fit (has_events i es plain there is) = absurd (false≢true (ap (λ b. b && are_in_order es) (sym plain) ∙ is_filled net fit i there (events es) is))
clean net fit (has_tokens i ts timed there is) = absurd (false≢true (ap (λ b. not b && (may_lack net || list_all is_some ts)) (sym timed) ∙ is_filled net fit i there (tokens ts) is))
clean net fit (disordered i es there is bad) = bad (is-in-order es (and_parts (is_timed net) (are_in_order es) (is_filled net fit i there (events es) is)).1)
clean net fit (has_absent i ts lack there is w) = none_absent ts (ap (λ b. b || list_all is_some ts) (sym lack) ∙ (and_parts (not (is_timed net)) (may_lack net || list_all is_some ts) (is_filled net fit i there (tokens ts) is)).1) w

-- the first inputs fit, one input more
pub one_more : (net : NetTree) (n : ℕ) (j : InputTree) → slice_get net.inputs n ≡ Some j → fits net n j ≡ true → ((k : ℕ) (i : InputTree) → k < n → slice_get net.inputs k ≡ Some i → fits net k i ≡ true) → (k : ℕ) (i : InputTree) → k < n + 1 → slice_get net.inputs k ≡ Some i → fits net k i ≡ true
one_more net n j at fit so_far k i below here = elim (cases_eq k n) [ inl e ↦ newest e | inr ne ↦ so_far k i (omega arith) here ]
  where
    newest : k ≡ n → fits net k i ≡ true
    newest e =
        let there : slice_get net.inputs n ≡ Some i = ap (slice_get net.inputs) (sym e) ∙ here in
        let both : Some j ≡ Some i = sym at ∙ there in
        let same : j ≡ i = cc in
        ap (λ m. fits net m i) e ∙ sym (ap (fits net n) same) ∙ fit

-- an input that was read
pub read_input : (inputs : List Input) (ys : List Input) (k : ℕ) (i : Input) → ys ≡ inputs → k < length ys → i ≡ get_or ys k i → slice_get (map input_view inputs) k ≡ Some (input_view i)
read_input inputs ys k i same short is =
    ap (λ (zs : List Input). slice_get (map input_view zs) k) (sym same)
    ∙ slice_get-map input_view ys k
    ∙ ap (option_map input_view) (slice_get-get_or ys k i short ∙ ap Some (sym is))

-- all inputs have been read
pub all_fit : (net : NetTree) (inputs ys : List Input) (n : ℕ) → ys ≡ inputs → net.inputs ≡ map input_view inputs → length ys ≤ n → ((k : ℕ) (i : InputTree) → k < n → slice_get net.inputs k ≡ Some i → fits net k i ≡ true) → AllFit net
all_fit net inputs ys n same is whole so_far k i at =
    let a : length ys ≡ length inputs = ap (λ (zs : List Input). length zs) same in
    let b : length net.inputs ≡ length (map input_view inputs) = ap (λ (zs : List InputTree). length zs) is in
    so_far k i (omega (arith, slice_get_within net.inputs k i at, length-map inputs input_view, a, b, whole)) at
