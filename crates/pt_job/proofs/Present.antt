-- What comes to an input that fits the top: where no token may be absent all are present.
use Rattle.std.proofs.Common.{◌≡◌, ℕ, ◌<◌, inl, inr, false, Option, Some, None, List, [], ◌∷◌, ◌++◌, length, map, refl, sym, ap, subst, ◌∙◌}
use Rattle.std.specs.Prelude.{Vec}
use Rattle.std.specs.Global.{Global}
use Rattle.std.proofs.lemmas.Option.{none-some, slice_get_within, slice_get-map}
use Rattle.std.specs.List.{AllZip, Contains, slice_get}
use Rattle.std.specs.Option.{option_map}
use Rattle.pt_value.specs.declared.token.Token.{Token}
use Rattle.pt_value.specs.Token.{value_of}
use Rattle.pt_document.specs.declared.job.Event.{Event}
use Rattle.pt_document.specs.Document.{InputTree, SupplyTree, tokens, events}
use Rattle.pt_scopes.specs.declared.values.Values.{Values}
use Rattle.pt_scopes.specs.Scopes.{NetTree}
use Rattle.pt_scopes.specs.Sites.{event_text, texts_of_supply}
use Rattle.pt_scopes.specs.Valued.{IsSupplied, IsInputValued, IsValued}
use Rattle.pt_job.specs.Inputs.{named_ports, input_to, token_lists, may_lack, IsInputFault, has_absent}
use Rattle.pt_job.proofs.Members.{contains_here, contains_later, contains_cases, none_in_nil, contains_slice, unmapped, zip_at, position_text}

absent_text : (texts : List (Option (List ℕ))) (ts : List (Option Token)) → AllZip IsSupplied texts (map (option_map value_of) ts) → Contains ts None → Contains texts None
absent_text [] [] h w = absurd (none_in_nil None w)
absent_text [] (t ∷ ts) h w = absurd h
absent_text (x ∷ texts) [] h w = absurd h
absent_text (None ∷ texts) (t ∷ ts) h w = contains_here None texts
absent_text (Some x ∷ texts) (None ∷ ts) h w = absurd h.0
absent_text (Some x ∷ texts) (Some t ∷ ts) h w =
    elim (contains_cases (Some t) ts None w) [
      | inl e ↦ (let z : Some t ≡ None = e in absurd cc)
      | inr v ↦ contains_later (Some x) texts None (absent_text texts ts h.1 v)
    ]

-- each event has a token
all_there : (es : List Event) → Contains (map event_text es) None → ⊥
all_there [] w = none_in_nil None w
all_there (e ∷ es) w = elim (contains_cases (event_text e) (map event_text es) None w) [ inl z ↦ absurd (none-some e.value (sym z)) | inr v ↦ all_there es v ]

-- what comes to the input that names a port
pub record Comes (net : NetTree) (values : Values) (k : ℕ) : Type 0 where
  pub held : Vec (Option Token) Global
  pub at : slice_get values.inputs.items k ≡ Some held
  pub full : may_lack net ≡ false → Contains held.items None → ⊥

pub comes : (net : NetTree) (values : Values) → IsValued net values → ((path : List ℕ) → IsInputFault net path → ⊥) → (port : List ℕ) (k : ℕ) → input_to net port ≡ Some k → Comes net values k
comes net values valued clean port k e = record {
  held = t.0;
  at = t.1;
  full = λ none w. go none i.0.supply refl (absent_text (texts_of_supply i.0.supply) t.0.items t.2 w);
}
  where
    i : (x : InputTree) × (slice_get net.inputs k ≡ Some x) × (x.port ≡ port)
    i = unmapped (λ (j : InputTree). j.port) net.inputs k port (position_text port (named_ports net) k e)

    t : (ts : Vec (Option Token) Global) × (slice_get values.inputs.items k ≡ Some ts) × IsInputValued i.0 (map (option_map value_of) ts.items)
    t = zip_at IsInputValued (λ (ts : Vec (Option Token) Global). map (option_map value_of) ts.items) net.inputs values.inputs.items k i.0 valued.inputs i.1

    go : may_lack net ≡ false → (s : SupplyTree) → i.0.supply ≡ s → Contains (texts_of_supply i.0.supply) None → ⊥
    go none (tokens ts) is w = clean _ (has_absent i.0 ts none (contains_slice net.inputs k i.0 i.1) is (subst (λ (s : SupplyTree). Contains (texts_of_supply s) None) is w))
    go none (events es) is w = all_there es (subst (λ (s : SupplyTree). Contains (texts_of_supply s) None) is w)

pub within : (net : NetTree) (values : Values) (k : ℕ) → Comes net values k → k < length values.inputs.items
within net values k c = slice_get_within values.inputs.items k c.held c.at

-- the tokens that were read are those of the input
pub full_at : (net : NetTree) (values : Values) (k : ℕ) (c : Comes net values k) (ts : Vec (Option Token) Global) (read : List (Option Token)) → slice_get values.inputs.items k ≡ Some ts → read ≡ ts.items → may_lack net ≡ false → Contains read None → ⊥
full_at net values k c ts read at is none w =
    let both : Some ts ≡ Some c.held = sym at ∙ c.at in
    let same : ts ≡ c.held = cc in
    c.full none (subst (λ (us : List (Option Token)). Contains us None) (is ∙ ap (λ (us : Vec (Option Token) Global). us.items) same) w)

pub list_at : (values : Values) (k : ℕ) (ts : Vec (Option Token) Global) (read : List (Option Token)) → slice_get values.inputs.items k ≡ Some ts → read ≡ ts.items → slice_get (token_lists values) k ≡ Some read
list_at values k ts read at is =
    slice_get-map (λ (us : Vec (Option Token) Global). us.items) values.inputs.items k
    ∙ ap (option_map (λ (us : Vec (Option Token) Global). us.items)) at ∙ ap Some (sym is)

-- the tokens that come to the inputs, one list more
pub some-more : (lists : List (List Token)) (ts : List Token) (read : List (Option Token)) → map Some ts ≡ read → map (λ (us : List Token). map Some us) lists ++ read ∷ [] ≡ map (λ (us : List Token). map Some us) (lists ++ ts ∷ [])
some-more [] ts read e = ap (λ us. us ∷ []) (sym e)
some-more (us ∷ lists) ts read e = ap (λ X. map Some us ∷ X) (some-more lists ts read e)

-- the same where some may be absent
pub ticks-more : (lists : List (Vec (Option Token) Global)) (ts : Vec (Option Token) Global) (read : List (Option Token)) → ts.items ≡ read → map (λ (us : Vec (Option Token) Global). us.items) lists ++ read ∷ [] ≡ map (λ (us : Vec (Option Token) Global). us.items) (lists ++ ts ∷ [])
ticks-more [] ts read e = ap (λ us. us ∷ []) (sym e)
ticks-more (us ∷ lists) ts read e = ap (λ X. us.items ∷ X) (ticks-more lists ts read e)
