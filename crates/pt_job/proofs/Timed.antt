-- What comes to an input of a timed net.
use Rattle.std.proofs.Common.{◌≡◌, ℕ, zero, suc, ◌+◌, ◌<◌, Bool, true, false, Option, Some, None, List, [], ◌∷◌, ◌++◌, length, map, bytes_eq, codes, refl, sym, ap, subst, ◌∙◌}
use Rattle.std.specs.Prelude.{Vec}
use Rattle.std.specs.Global.{Global}
use Rattle.std.proofs.lemmas.Bool.{both_ways, false≢true}
use Rattle.std.proofs.lemmas.List.{length-map}
use Rattle.std.proofs.lemmas.Option.{slice_get_within, slice_get-map, same_Some}
use Rattle.std.proofs.lemmas.Slice.Eq.{bytes_eq-Decides}
use Rattle.std.specs.List.{AllZip, Contains, slice_get}
use Rattle.std.specs.Option.{option_map}
use Rattle.pt_value.specs.declared.token.Token.{Token}
use Rattle.pt_value.specs.Token.{value_of}
use Rattle.pt_value.specs.Value.{Value}
use Rattle.pt_document.specs.declared.job.Event.{Event}
use Rattle.pt_document.specs.Document.{InputTree, SupplyTree, tokens, events}
use Rattle.pt_net.specs.Net.{NetEntityTree, DirectorTree}
use Rattle.pt_scopes.specs.declared.values.Values.{Values}
use Rattle.pt_scopes.specs.Scopes.{NetTree}
use Rattle.pt_scopes.specs.Sites.{event_text, texts_of_supply}
use Rattle.pt_scopes.specs.Valued.{IsSupplied, IsInputValued, IsValued}
use Rattle.pt_job.specs.Inputs.{named_ports, input_to, token_lists, AreTokensOf, ComeTo, events_in, events_of, events_at, has_ticks, ticks_at, may_lack, has_time, time_at, is_timed, are_in_order, IsInputFault, has_tokens, disordered}
use Rattle.pt_job.proofs.Members.{contains_slice, unmapped, zip_at, position_text}
use Rattle.pt_job.proofs.Order.{passes}

-- ---- no token is absent

pub timed-full : (net : NetTree) → is_timed net ≡ true → may_lack net ≡ false
timed-full net h = by-top (slice_get net.entities 0) h
  where
    by-director : (d : Option DirectorTree) → has_time d ≡ true → has_ticks d ≡ false
    by-director None e = absurd (false≢true e)
    by-director (Some d) e = ap (λ c. bytes_eq c (codes "SR")) ((bytes_eq-Decides d.class (codes "DE")).0 e)

    by-top : (o : Option NetEntityTree) → time_at o ≡ true → ticks_at o ≡ false
    by-top None e = absurd (false≢true e)
    by-top (Some top) e = by-director top.director e

-- ---- the events of an input

module _ (net : NetTree) (clean : (path : List ℕ) → IsInputFault net path → ⊥) where
  pub in-order : (o : Option ℕ) → are_in_order (events_at net o) ≡ true
  in-order None = refl
  in-order (Some k) = by-input (slice_get net.inputs k) refl
    where
      by-test : (i : InputTree) → slice_get net.inputs k ≡ Some i → (es : List Event) → i.supply ≡ events es → (b : Bool) → are_in_order es ≡ b → are_in_order es ≡ true
      by-test i at es is true e = e
      by-test i at es is false e = absurd (clean _ (disordered i es (contains_slice net.inputs k i at) is (λ o. both_ways (are_in_order es) e (passes es o))))

      by-supply : (i : InputTree) → slice_get net.inputs k ≡ Some i → (s : SupplyTree) → i.supply ≡ s → are_in_order (events_in s) ≡ true
      by-supply i at (tokens ts) is = refl
      by-supply i at (events es) is = by-test i at es is (are_in_order es) refl

      by-input : (o : Option InputTree) → slice_get net.inputs k ≡ o → are_in_order (events_of o) ≡ true
      by-input None e = refl
      by-input (Some i) e = by-supply i e i.supply refl

zip-long : {A B : Type 0} (R : A → B → Type 0) (xs : List A) (ys : List B) → AllZip R xs ys → length ys ≡ length xs
zip-long R [] [] h = refl
zip-long R [] (y ∷ ys) h = absurd h
zip-long R (x ∷ xs) [] h = absurd h
zip-long R (x ∷ xs) (y ∷ ys) h = ap (λ n. suc n) (zip-long R xs ys h.1)

-- there is a token for each event
pub counted : (net : NetTree) (values : Values) → IsValued net values → ((path : List ℕ) → IsInputFault net path → ⊥) → is_timed net ≡ true → (port : List ℕ) (ts : List (Option Token)) → ComeTo net values port ts → length ts ≡ length (events_at net (input_to net port))
counted net values valued clean timed port ts come = by-place (input_to net port) refl come
  where
    by-supply : (i : InputTree) → Contains net.inputs i → (s : SupplyTree) → i.supply ≡ s → length (texts_of_supply s) ≡ length (events_in s)
    by-supply i there (tokens texts) is = absurd (clean _ (has_tokens i texts timed there is))
    by-supply i there (events es) is = length-map es event_text

    by-place : (o : Option ℕ) → input_to net port ≡ o → AreTokensOf values o ts → length ts ≡ length (events_at net o)
    by-place None e h = ap (λ (us : List (Option Token)). length us) h
    by-place (Some k) e h =
        let i = unmapped (λ (j : InputTree). j.port) net.inputs k port (position_text port (named_ports net) k e) in
        let t = zip_at IsInputValued (λ (us : Vec (Option Token) Global). map (option_map value_of) us.items) net.inputs values.inputs.items k i.0 valued.inputs i.1 in
        let list : Some t.0.items ≡ Some ts = sym (slice_get-map (λ (us : Vec (Option Token) Global). us.items) values.inputs.items k ∙ ap (option_map (λ (us : Vec (Option Token) Global). us.items)) t.1) ∙ h in
        let long : length t.0.items ≡ length (texts_of_supply i.0.supply) = sym (length-map t.0.items (option_map value_of)) ∙ zip-long IsSupplied (texts_of_supply i.0.supply) (map (option_map value_of) t.0.items) t.2 in
        ap (λ (us : List (Option Token)). length us) (sym (same_Some t.0.items ts list)) ∙ long ∙ by-supply i.0 (contains_slice net.inputs k i.0 i.1) i.0.supply refl
        ∙ ap (λ o. length (events_of o)) (sym i.1)

-- the input that names a port is there
pub named-within : (net : NetTree) (port : List ℕ) (k : ℕ) → input_to net port ≡ Some k → (i : InputTree) × (slice_get net.inputs k ≡ Some i)
named-within net port k e = let i = unmapped (λ (j : InputTree). j.port) net.inputs k port (position_text port (named_ports net) k e) in (i.0, i.1)
