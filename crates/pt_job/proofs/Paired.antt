-- Tokens at the tags of events, one more in turn; and the lists of such, one for each port.
use Rattle.std.proofs.Common.{◌≡◌, ℕ, zero, suc, ◌+◌, ◌<◌, ◌≤◌, List, [], ◌∷◌, ◌++◌, length, map, take, drop, get_or, Bool, true, false, ◌&&◌, Option, Some, None, refl, sym, ap, ap₂, subst, ◌∙◌, arith, append-nil}
use Rattle.std.specs.Prelude.{Vec}
use Rattle.std.specs.Global.{Global}
use Rattle.std.proofs.lemmas.List.{map-append, map_more, take_more, take_all, drop_more, length-map}
use Rattle.std.proofs.lemmas.List.Elements.{All-nil, All-append, All-cons}
use Rattle.std.specs.List.{All, AllZip}
use Rattle.pt_meaning.specs.Tag.{Tag}
use Rattle.pt_value.specs.declared.token.Token.{Token}
use Rattle.pt_document.specs.declared.job.Event.{Event}
use Rattle.pt_agenda.specs.Events as agenda
use Rattle.pt_agenda.specs.Events.{Ascend, AllAscend, events_of, tags_in, tokens_in}
use Rattle.pt_scopes.specs.declared.values.Values.{Values}
use Rattle.pt_scopes.specs.Scopes.{NetTree}
use Rattle.pt_job.specs.Names.{Name}
use Rattle.pt_job.specs.Inputs.{tag_of, tags_at, tags_to, own_inputs, ComeTo, AreEvents, comes_after, in_order_after, are_in_order}
use Rattle.pt_job.proofs.Members.{zip_push, zip_read}

-- ---- the test of their order

pub next-in-order : (last : Option Tag) (es : List Event) (k : ℕ) (e : Event) → k < length es → e ≡ get_or es k e → in_order_after last (drop k es) ≡ (comes_after last e && in_order_after (Some (tag_of e)) (drop (k + 1) es))
next-in-order last es k e l is = ap (in_order_after last) (drop_more es k e l ∙ ap (λ x. x ∷ drop (k + 1) es) (sym is))

-- ---- the events of one port

-- the first n tokens are at the tags of as many events
pub record ArePaired (es : List Event) (ts : List (Option Token)) (n : ℕ) (list : List agenda.Event) : Type 0 where
  pub tags : tags_in list ≡ map tag_of (take n es)
  pub tokens : tokens_in list ≡ take n ts

pub none-paired : (es : List Event) (ts : List (Option Token)) → ArePaired es ts 0 []
none-paired es ts = record { tags = refl; tokens = refl }

pub one-paired : (es : List Event) (ts : List (Option Token)) (n : ℕ) (list : List agenda.Event) (e : Event) (o : Option Token) (tag : Tag) (t : Token) → ArePaired es ts n list → n < length es → n < length ts → e ≡ get_or es n e → o ≡ get_or ts n o → tag ≡ tag_of e → o ≡ Some t → ArePaired es ts (n + 1) (list ++ (tag, t) ∷ [])
one-paired es ts n list e o tag t p l m is has at there = record {
  tags = map-append (λ (x : agenda.Event). x.0) list ((tag, t) ∷ []) ∙ ap₂ (λ us u. us ++ u ∷ []) p.tags (at ∙ ap tag_of is) ∙ sym (map_more tag_of es n e l);
  tokens = map-append (λ (x : agenda.Event). Some x.1) list ((tag, t) ∷ []) ∙ ap₂ (λ us u. us ++ u ∷ []) p.tokens (sym there ∙ has) ∙ sym (take_more ts n o m);
}

pub all-tags : (es : List Event) (ts : List (Option Token)) (n : ℕ) (list : List agenda.Event) → ArePaired es ts n list → length ts ≡ length es → length ts ≤ n → tags_in list ≡ map tag_of es
all-tags es ts n list p each l = p.tags ∙ ap (λ v. map tag_of v) (take_all n es (omega (arith, each, l)))

pub all-tokens : (es : List Event) (ts : List (Option Token)) (n : ℕ) (list : List agenda.Event) → ArePaired es ts n list → length ts ≤ n → tokens_in list ≡ ts
all-tokens es ts n list p l = p.tokens ∙ take_all n ts l

-- ---- the events of each port

-- these come to the first ports
pub record ComeInOrder (net : NetTree) (values : Values) (names : List (List ℕ)) (lists : List agenda.Input) : Type 0 where
  pub tags : map tags_in (events_of lists) ≡ map (tags_at net) names
  pub tokens : AllZip (ComeTo net values) names (map tokens_in (events_of lists))
  pub ascend : AllAscend lists

pub none-come : (net : NetTree) (values : Values) → ComeInOrder net values [] []
none-come net values = record { tags = refl; tokens = tt; ascend = All-nil Ascend }

one-more : (lists : List agenda.Input) (list : agenda.Input) → events_of (lists ++ list ∷ []) ≡ events_of lists ++ list.items ∷ []
one-more lists list = map-append (λ (input : agenda.Input). input.items) lists (list ∷ [])

pub one-comes : (net : NetTree) (values : Values) (names : List Name) (k : ℕ) (d : Name) (lists : List agenda.Input) (list : agenda.Input) → ComeInOrder net values (map (λ (n : Name). n.now) (take k names)) lists → k < length names →
    tags_in list.items ≡ tags_at net (get_or names k d).now → ComeTo net values (get_or names k d).now (tokens_in list.items) → Ascend list.items → ComeInOrder net values (map (λ (n : Name). n.now) (take (k + 1) names)) (lists ++ list ∷ [])
one-comes net values names k d lists list c l tags tokens rise =
    let before : List (List ℕ) = map (λ (n : Name). n.now) (take k names) in
    let name : List ℕ = (get_or names k d).now in
    subst (λ ns. ComeInOrder net values ns (lists ++ list ∷ [])) (sym (map_more (λ (n : Name). n.now) names k d l)) (record {
      tags = ap (map tags_in) (one-more lists list) ∙ map-append tags_in (events_of lists) (list.items ∷ []) ∙ ap₂ (λ us u. us ++ u ∷ []) c.tags tags ∙ sym (map-append (tags_at net) before (name ∷ []));
      tokens = subst (λ X. AllZip (ComeTo net values) (before ++ name ∷ []) X) (sym (ap (map tokens_in) (one-more lists list) ∙ map-append tokens_in (events_of lists) (list.items ∷ [])))
          (zip_push (ComeTo net values) before (map tokens_in (events_of lists)) name (tokens_in list.items) c.tokens tokens);
      ascend = subst (λ X. All Ascend X) (sym (one-more lists list)) (All-append Ascend (events_of lists) (list.items ∷ []) c.ascend (All-cons Ascend list.items [] rise (All-nil Ascend)));
    })

pub are-events : (net : NetTree) (values : Values) (names : List (List ℕ)) (lists : List agenda.Input) → ComeInOrder net values names lists → names ≡ own_inputs net → AreEvents net values (events_of lists)
are-events net values names lists c own = record {
  tags = c.tags ∙ ap (map (tags_at net)) own;
  supplied = subst (λ ns. AllZip (ComeTo net values) ns (map tokens_in (events_of lists))) own c.tokens;
}
