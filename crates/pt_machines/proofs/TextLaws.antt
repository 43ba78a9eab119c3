-- What texts read as, and the tokens that are seen under the names in them.
use Rattle.std.proofs.Common.{◌≡◌, ℕ, ◌+◌, ◌<◌, ◌≤◌, true, List, [], ◌∷◌, ◌++◌, length, map, drop, get_or, Option, Some, None, option_map, option_to_list, filter_map, flat_map, All, refl, sym, ap, subst, ◌∙◌, append_assoc, Bor}
use Rattle.std.specs.List.{cons_option, list_all}
use Rattle.std.proofs.lemmas.List.Elements.{All-nil, All-cons, All-head, All-tail, All-contains, filter_map-append}
use Rattle.std.proofs.lemmas.List.Concat.{flat_map-append}
use Rattle.pt_value.specs.Value.{Value}
use Rattle.pt_value.specs.declared.token.Token.{Token}
use Rattle.pt_value.specs.Token.{value_of, token_of-value_of}
use Rattle.pt_language.specs.Tree.{Tree}
use Rattle.pt_net.proofs.Members.{contains_map}
use Rattle.pt_scopes.specs.Texts.{names_in}
use Rattle.pt_inequalities.specs.Frames.{Names}
use Rattle.pt_inequalities.specs.ModalScopes.{ModalScope, is_in_scope, IsReadIn}
use Rattle.pt_inequalities.specs.Modals.{IsParsedAs}
use Rattle.pt_inequalities.proofs.Steps.{drop-one, drop-past, append-none}
use Rattle.pt_charts.specs.Readable.{IsReadable}
use Rattle.pt_machine.specs.Machines.{token_under, seen_token, seen_tokens}

-- the tree of a readable text has its names in scope
pub in-scope : (s : ModalScope) (text : List ℕ) (u : Tree) → IsReadable s text → IsParsedAs text (Some u) → IsReadIn s text u
in-scope s text u r p = record { is_read = p.0; named = subst (λ (t : Tree). list_all (is_in_scope s) (names_in t) ≡ true) (p.1 r.0 r.1.is_read) r.1.named }

-- ---- tokens

pub token-there : (name : List ℕ) (o : Option (Bor Token)) (v : Option Value) (t : Bor Token) → option_map (λ (b : Bor Token). value_of b.now) o ≡ v → o ≡ Some t → Some (name, t.now) ≡ token_under name v
token-there name o v t held is =
    ap (λ (u : Token). Some (name, u)) (sym (token_of-value_of t.now)) ∙ ap (token_under name) (sym (ap (option_map (λ (b : Bor Token). value_of b.now)) is) ∙ held)

pub none-there : (name : List ℕ) (o : Option (Bor Token)) (v : Option Value) → option_map (λ (b : Bor Token). value_of b.now) o ≡ v → o ≡ None → None ≡ token_under name v
none-there name o v held is = ap (token_under name) (sym (ap (option_map (λ (b : Bor Token). value_of b.now)) is) ∙ held)

pub cons-list : {B : Type 0} (o : Option B) (xs : List B) → cons_option o xs ≡ option_to_list o ++ xs
cons-list None xs = refl
cons-list (Some x) xs = refl

-- one name more
pub seen-more : {B : Type 0} (f : List ℕ → Option B) (names : List (List ℕ)) (i : ℕ) (n : List ℕ) (start out new : List B) → i < length names → n ≡ get_or names i n → out ++ filter_map f (drop i names) ≡ start ++ filter_map f names → new ≡ out ++ option_to_list (f n) → new ++ filter_map f (drop (i + 1) names) ≡ start ++ filter_map f names
seen-more {B = B} f names i n start out new short is h more =
    let next : List B = filter_map f (drop (i + 1) names) in
    let split : filter_map f (drop i names) ≡ option_to_list (f n) ++ next = ap (filter_map f) (drop-one names i n short is) ∙ cons-list (f n) next in
    ap (λ (xs : List B). xs ++ next) more ∙ append_assoc out (option_to_list (f n)) next ∙ ap (λ (xs : List B). out ++ xs) (sym split) ∙ h

pub seen-all : {B : Type 0} (f : List ℕ → Option B) (names : List (List ℕ)) (i : ℕ) (start out : List B) → length names ≤ i → out ++ filter_map f (drop i names) ≡ start ++ filter_map f names → out ≡ start ++ filter_map f names
seen-all {B = B} f names i start out past h = sym (append-none out) ∙ ap (λ (ns : List (List ℕ)). out ++ filter_map f ns) (sym (drop-past names i past)) ∙ h

-- ---- those of trees

pub tokens-append : (around : Names) (xs ys : List Tree) → seen_tokens around (xs ++ ys) ≡ seen_tokens around xs ++ seen_tokens around ys
tokens-append around xs ys = ap (filter_map (seen_token around)) (flat_map-append names_in xs ys) ∙ filter_map-append (seen_token around) (flat_map names_in xs) (flat_map names_in ys)

pub tokens-one : (around : Names) (t : Tree) → seen_tokens around (t ∷ []) ≡ filter_map (seen_token around) (names_in t)
tokens-one around t = ap (filter_map (seen_token around)) (append-none (names_in t))

pub no-tokens : (around : Names) (xs : List (List ℕ × Token)) → xs ≡ xs ++ seen_tokens around []
no-tokens around xs = sym (append-none xs)

-- a tree more behind others
pub tokens-more : (around : Names) (trees : List Tree) (t : Tree) (start old new : List (List ℕ × Token)) → old ≡ start ++ seen_tokens around trees → new ≡ old ++ filter_map (seen_token around) (names_in t) → new ≡ start ++ seen_tokens around (trees ++ t ∷ [])
tokens-more around trees t start old new was more =
    more ∙ ap (λ (xs : List (List ℕ × Token)). xs ++ filter_map (seen_token around) (names_in t)) was
    ∙ append_assoc start (seen_tokens around trees) (filter_map (seen_token around) (names_in t))
    ∙ ap (λ (xs : List (List ℕ × Token)). start ++ xs) (ap (λ (xs : List (List ℕ × Token)). seen_tokens around trees ++ xs) (sym (tokens-one around t)) ∙ sym (tokens-append around trees (t ∷ [])))

-- more trees behind others
pub tokens-then : (around : Names) (xs ys : List Tree) (start old new : List (List ℕ × Token)) → old ≡ start ++ seen_tokens around xs → new ≡ old ++ seen_tokens around ys → new ≡ start ++ seen_tokens around (xs ++ ys)
tokens-then around xs ys start old new was more =
    more ∙ ap (λ (zs : List (List ℕ × Token)). zs ++ seen_tokens around ys) was
    ∙ append_assoc start (seen_tokens around xs) (seen_tokens around ys)
    ∙ ap (λ (zs : List (List ℕ × Token)). start ++ zs) (sym (tokens-append around xs ys))

-- ---- readable texts

pub All-before : (P : List ℕ → Type 0) (xs ys : List (List ℕ)) → All P (xs ++ ys) → All P xs
All-before P [] ys all = All-nil P
All-before P (x ∷ xs) ys all = All-cons P x xs (All-head P x (xs ++ ys) all) (All-before P xs ys (All-tail P x (xs ++ ys) all))

pub All-behind : (P : List ℕ → Type 0) (xs ys : List (List ℕ)) → All P (xs ++ ys) → All P ys
All-behind P [] ys all = all
All-behind P (x ∷ xs) ys all = All-behind P xs ys (All-tail P x (xs ++ ys) all)

pub readable-at : {A : Type 0} (P : List ℕ → Type 0) (text : A → List ℕ) (xs : List A) (i : ℕ) (x : A) → All P (map text xs) → i < length xs → x ≡ get_or xs i x → P (text x)
readable-at P text xs i x all short is = All-contains P (map text xs) (text x) all (contains_map text xs x (i, short, sym is))
