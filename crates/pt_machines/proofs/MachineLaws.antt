-- The machine of a Modal entity, from what is made of its parts.
use Rattle.std.proofs.Common.{◌≡◌, ℕ, ◌+◌, ◌<◌, ◌≤◌, List, [], ◌∷◌, ◌++◌, length, map, take, get_or, flat_map, All, inl, inr, sym, ap, subst, ◌∙◌, add-one, arith}
use Rattle.std.specs.List.{AllZip, Contains}
use Rattle.std.proofs.lemmas.List.Concat.{flat_map-append}
use Rattle.pt_value.specs.declared.token.Token.{Token}
use Rattle.pt_language.specs.Tree.{Tree}
use Rattle.pt_document.specs.declared.job.Transition.{Transition}
use Rattle.pt_document.specs.Document.{TransitionTree}
use Rattle.pt_document.specs.View.{transition_view}
use Rattle.pt_net.proofs.Members.{contains_cases, contains_map}
use Rattle.pt_scopes.proofs.Turns.{view-take, view-all}
use Rattle.pt_inequalities.proofs.Steps.{append-none}
use Rattle.pt_chart.specs.Machine.{ModeTree}
use Rattle.pt_machine.specs.Machines.{Leaving, IsLeaving, modes_of, trees_in, trees_of, seen_tokens}
use Rattle.pt_machines.specs.declared.site.Site.{Site}
use Rattle.pt_machines.specs.Sites.{entity_at, kids_at, scope_at}
use Rattle.pt_machines.specs.Charted.{AreAdded}
use Rattle.pt_machines.proofs.TextLaws.{tokens-append, All-before, All-behind}

-- what holds of each text of some holds of those of one
pub texts-of : {A : Type 0} (P : List ℕ → Type 0) (texts : A → List (List ℕ)) (xs : List A) (x : A) → All P (flat_map texts xs) → Contains xs x → All P (texts x)
texts-of P texts [] x all c = absurd (omega (arith, c.1))
texts-of P texts (y ∷ ys) x all c = elim (contains_cases y ys x c) [
  | inl here ↦ subst (λ u. All P (texts u)) here (All-before P (texts y) (flat_map texts ys) all)
  | inr later ↦ texts-of P texts ys x (All-behind P (texts y) (flat_map texts ys) all) later
]

pushed : {A B : Type 0} (R : A → B → Type 0) (xs : List A) (ys : List B) (x : A) (y : B) → AllZip R xs ys → R x y → AllZip R (xs ++ x ∷ []) (ys ++ y ∷ [])
pushed R [] [] x y h r = (r, tt)
pushed R [] (z ∷ ys) x y h r = absurd h
pushed R (z ∷ xs) [] x y h r = absurd h
pushed R (z ∷ xs) (w ∷ ys) x y h r = (h.0, pushed R xs ys x y h.1 r)

trees-more : (xs : List Leaving) (x : Leaving) → trees_of (xs ++ x ∷ []) ≡ trees_of xs ++ trees_in x
trees-more xs x = flat_map-append trees_in xs (x ∷ []) ∙ ap (λ (ts : List Tree). trees_of xs ++ ts) (append-none (trees_in x))

-- one transition more
pub added-more : (s : Site) (ts : List Transition) (i : ℕ) (t : Transition) → i < length ts → t ≡ get_or ts i t → (modes modes' : List ModeTree) (seen seen' : List (List ℕ × Token)) (x : Leaving) → IsLeaving (scope_at s) (entity_at s) (transition_view t) x → seen' ≡ seen ++ seen_tokens (scope_at s).around (trees_in x) → ((xs : List Leaving) → modes ≡ modes_of (entity_at s) (kids_at s) xs → modes' ≡ modes_of (entity_at s) (kids_at s) (xs ++ x ∷ [])) → (xs : List Leaving) × AreAdded s (map transition_view (take i ts)) xs modes seen → (xs : List Leaving) × AreAdded s (map transition_view (take (i + 1) ts)) xs modes' seen'
added-more s ts i t short is modes modes' seen seen' x read named stand was =
    let xs = was.0 in
    let R = IsLeaving (scope_at s) (entity_at s) in
    let around = (scope_at s).around in
    let more : map transition_view (take (i + 1) ts) ≡ map transition_view (take i ts) ++ transition_view t ∷ [] = ap (λ k. map transition_view (take k ts)) (add-one i) ∙ view-take transition_view ts i t short is in (
      xs ++ x ∷ [],
      record {
        leave = subst (λ (us : List TransitionTree). AllZip R us (xs ++ x ∷ [])) (sym more) (pushed R (map transition_view (take i ts)) xs (transition_view t) x was.1.leave read);
        stand = stand xs was.1.stand;
        named = named ∙ ap (λ (us : List (List ℕ × Token)). us ++ seen_tokens around (trees_in x)) was.1.named ∙ sym (tokens-append around (trees_of xs) (trees_in x)) ∙ ap (seen_tokens around) (sym (trees-more xs x));
      },
    )

pub added-all : (s : Site) (ts all : List Transition) (i : ℕ) (modes : List ModeTree) (seen : List (List ℕ × Token)) → ts ≡ all → length ts ≤ i → (xs : List Leaving) × AreAdded s (map transition_view (take i ts)) xs modes seen → (xs : List Leaving) × AreAdded s (map transition_view all) xs modes seen
added-all s ts all i modes seen same past was =
    (was.0, subst (λ (us : List TransitionTree). AreAdded s us was.0 modes seen) (view-all transition_view ts i past ∙ ap (map transition_view) same) was.1)

pub added-none : (s : Site) (modes : List ModeTree) (seen : List (List ℕ × Token)) → modes ≡ modes_of (entity_at s) (kids_at s) [] → seen ≡ [] → (xs : List Leaving) × AreAdded s [] xs modes seen
added-none s modes seen stand none = ([], record { leave = tt; stand = stand; named = none })

pub given-there : (ts all : List Transition) (i : ℕ) (t : Transition) → ts ≡ all → i < length ts → t ≡ get_or ts i t → Contains (map transition_view all) (transition_view t)
given-there ts all i t same short is = subst (λ (us : List Transition). Contains (map transition_view us) (transition_view t)) same (contains_map transition_view ts t (i, short, sym is))
