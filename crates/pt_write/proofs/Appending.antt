-- One call that writes after another.
use Rattle.std.proofs.Common.{◌≡◌, ℕ, ◌+◌, ◌<◌, ◌≤◌, ◌==◌, List, [], ◌∷◌, ◌++◌, length, drop, get_or, Bool, refl, sym, ap, ◌∙◌, append_assoc, append-nil, arith, drop_of_length-le, ne_eqb}
use Rattle.json.specs.Token.{Token, begin_array, end_array, key}
use Rattle.json.specs.Written.{Written}
use Rattle.pt_document.proofs.Lists.{drop_item}
use Rattle.pt_write.specs.Written.{Value, Values, no_values, value_then, items_tokens, slot_tokens, tokens}
use Rattle.pt_write.specs.Document.{optional_list}
use Rattle.pt_write.specs.Appends.{Appends, opening, closing}

pub then : {a b c : Written} {s t : List Token} → Appends a b s → Appends b c t → Appends a c (s ++ t)
then {a = a} {s = s} {t = t} h k = record { before = k.before ∙ h.before; tokens = k.tokens ∙ ap (λ (ts : List Token). ts ++ t) h.tokens ∙ append_assoc a.tokens s t }

pub nothing_yet : (a : Written) → Appends a a []
nothing_yet a = record { before = refl; tokens = sym (append-nil a.tokens) }

pub same_tokens : {a b : Written} {s t : List Token} → s ≡ t → Appends a b s → Appends a b t
same_tokens {a = a} {b = b} e h = record { before = h.before; tokens = h.tokens ∙ ap (λ (ts : List Token). a.tokens ++ ts) e }

-- ---- a loop over the items of a list

-- behind some of the items these are left of all
pub record Left (old new : Written) (rest all : List Token) : Type 0 where
  pub before : new.before ≡ old.before
  pub tokens : new.tokens ++ rest ≡ old.tokens ++ all

pub left_all : (a : Written) (all : List Token) → Left a a all all
left_all a all = record { before = refl; tokens = refl }

pub left_less : {a b c : Written} {s rest all : List Token} → Left a b (s ++ rest) all → Appends b c s → Left a c rest all
left_less {b = b} {s = s} {rest = rest} h k =
    record { before = k.before ∙ h.before; tokens = ap (λ (ts : List Token). ts ++ rest) k.tokens ∙ append_assoc b.tokens s rest ∙ h.tokens }

pub left_none : {a b : Written} {all : List Token} → Left a b [] all → Appends a b all
left_none {b = b} h = record { before = h.before; tokens = sym (append-nil b.tokens) ∙ h.tokens }

-- ---- lists of parts, with what is written for each and for all

module _ {A : Type 0} (value : A → Value) (values_of : List A → Values) (none : values_of [] ≡ no_values) (more : (x : A) (xs : List A) → values_of (x ∷ xs) ≡ value_then (value x) (values_of xs)) where
  -- the tokens from one item on
  pub items_from : (xs : List A) (i : ℕ) (x : A) → i < length xs → x ≡ get_or xs i x → items_tokens (values_of (drop i xs)) ≡ tokens (value x) ++ items_tokens (values_of (drop (i + 1) xs))
  items_from xs i x within is = ap (λ (ys : List A). items_tokens (values_of ys)) (drop_item A xs i x within is) ∙ ap items_tokens (more x (drop (i + 1) xs))

  pub no_items_left : (xs : List A) (i : ℕ) → length xs ≤ i → items_tokens (values_of (drop i xs)) ≡ []
  no_items_left xs i h = ap (λ (ys : List A). items_tokens (values_of ys)) (drop_of_length-le xs h) ∙ ap items_tokens none

  -- a list that is left out where it is empty
  pub optional_list_tokens : (k : List ℕ) (xs : List A) → opening k (length xs == 0) ++ (items_tokens (values_of xs) ++ closing (length xs == 0)) ≡ slot_tokens k (optional_list (values_of xs))
  optional_list_tokens k [] = ap (λ (vs : Values). items_tokens vs ++ []) none ∙ ap (λ (vs : Values). slot_tokens k (optional_list vs)) (sym none)
  optional_list_tokens k (x ∷ xs) =
      ap (λ (b : Bool). opening k b ++ (items_tokens (values_of (x ∷ xs)) ++ closing b)) (ne_eqb (length (x ∷ xs)) 0 (λ e. omega arith))
      ∙ ap (λ (vs : Values). key k ∷ begin_array ∷ (items_tokens vs ++ end_array ∷ [])) (more x xs) ∙ ap (λ (vs : Values). slot_tokens k (optional_list vs)) (sym (more x xs))
