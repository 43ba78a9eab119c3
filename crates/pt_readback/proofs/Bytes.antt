-- Which bytes texts have: those of numbers, names and paths, and what a text lacks.
use Rattle.std.proofs.Common.{◌≡◌, ℕ, zero, suc, ◌+◌, ◌<◌, ◌/◌, ◌%◌, List, [], ◌∷◌, ◌++◌, Bool, true, false, cond, not, ◌&&◌, ◌||◌, ◌==◌, All, inl, inr, refl, sym, subst, ap, ◌∙◌, append_assoc, arith}
use Rattle.std.specs.Prelude.{nat_lt, decimal}
use Rattle.std.specs.List.{list_all}
use Rattle.std.specs.Char.{is_ascii_digit, is_ascii_alphabetic, is_ascii_alphanumeric}
use Rattle.std.specs.Str.{IsUtf8}
use Rattle.std.specs.Fmt.{digits, digits_onto, digit_glyph}
use Rattle.std.proofs.lemmas.Bool.{and_parts, and_from, cond_both, or_left}
use Rattle.std.proofs.lemmas.Bool.Decides.{nat_tests}
use Rattle.std.proofs.lemmas.List.Folds.{list_all-append}
use Rattle.std.proofs.lemmas.List.Elements.{All-head, All-tail}
use Rattle.pt_value.specs.Name.{HasNameForm, ContinuesName}
use Rattle.pt_trace.specs.declared.meetings.ChildPlace.{ChildPlace}
use Rattle.pt_trace.specs.MeetingText.{place_text}
use Rattle.pt_trace.specs.ReportForm.{IsName, AreNames, IsPath, IsPlace, joined}
use Rattle.pt_readback.specs.Listed.{front}
use Rattle.pt_readback.proofs.Utf8.{small_utf8}

-- each byte passes
abbrev pub Has : (ℕ → Bool) → List ℕ → Type 0
Has p xs = list_all p xs ≡ true

-- no byte is the mark
abbrev pub Lacks : ℕ → List ℕ → Type 0
Lacks mark xs = Has (λ c. not (c == mark)) xs

abbrev pub name_byte : ℕ → Bool
name_byte c = is_ascii_alphanumeric c || c == 95

abbrev pub path_byte : ℕ → Bool
path_byte c = name_byte c || c == 46

pub has_append : (p : ℕ → Bool) (xs ys : List ℕ) → Has p xs → Has p ys → Has p (xs ++ ys)
has_append p xs ys h k = list_all-append p xs ys ∙ and_from _ _ h k

pub has_weaker : (p q : ℕ → Bool) → ((c : ℕ) → p c ≡ true → q c ≡ true) → (xs : List ℕ) → Has p xs → Has q xs
has_weaker p q w [] h = refl
has_weaker p q w (c ∷ cs) h = let k = and_parts (p c) (list_all p cs) h in and_from (q c) (list_all q cs) (w c k.0) (has_weaker p q w cs k.1)

-- what the bytes of names and paths aren't
digit_name : (c : ℕ) → is_ascii_digit c ≡ true → name_byte c ≡ true
digit_name c h = grind (arith, nat_tests)

name_path : (c : ℕ) → name_byte c ≡ true → path_byte c ≡ true
name_path c h = or_left (name_byte c) (c == 46) h

name_no_dot : (c : ℕ) → name_byte c ≡ true → not (c == 46) ≡ true
name_no_dot c h = grind (arith, nat_tests)

path_no_blank : (c : ℕ) → path_byte c ≡ true → not (c == 32) ≡ true
path_no_blank c h = grind (arith, nat_tests)

path_no_end : (c : ℕ) → path_byte c ≡ true → not (c == 10) ≡ true
path_no_end c h = grind (arith, nat_tests)

path_small : (c : ℕ) → path_byte c ≡ true → nat_lt c 128 ≡ true
path_small c h = grind (arith, nat_tests)

pub path_lacks_blank : (xs : List ℕ) → Has path_byte xs → Lacks 32 xs
path_lacks_blank xs h = has_weaker path_byte (λ c. not (c == 32)) path_no_blank xs h

pub path_lacks_end : (xs : List ℕ) → Has path_byte xs → Lacks 10 xs
path_lacks_end xs h = has_weaker path_byte (λ c. not (c == 10)) path_no_end xs h

pub path_utf8 : (xs : List ℕ) → Has path_byte xs → IsUtf8 xs
path_utf8 xs h = small_utf8 xs (has_weaker path_byte (λ c. nat_lt c 128) path_small xs h)

pub name_lacks_dot : (xs : List ℕ) → Has name_byte xs → Lacks 46 xs
name_lacks_dot xs h = has_weaker name_byte (λ c. not (c == 46)) name_no_dot xs h

pub name_in_path : (xs : List ℕ) → Has name_byte xs → Has path_byte xs
name_in_path xs h = has_weaker name_byte path_byte name_path xs h

-- numbers
glyph : (n : ℕ) → is_ascii_digit (digit_glyph false (n % 10)) ≡ true
glyph n = let e : n % 10 < 10 = omega arith in grind (arith, nat_tests)

digits_are : (k n : ℕ) (acc : List ℕ) → Has is_ascii_digit acc → Has is_ascii_digit (digits_onto k 10 false n acc)
digits_are zero n acc h = h
digits_are (suc k) n acc h =
    let g : Has is_ascii_digit (digit_glyph false (n % 10) ∷ acc) = and_from _ _ (glyph n) h in
    cond_both (n / 10 == 0) _ _ (Has is_ascii_digit) (λ _. g) (λ _. digits_are k (n / 10) (digit_glyph false (n % 10) ∷ acc) g)

pub number_digits : (n : ℕ) → Has is_ascii_digit (decimal n)
unfolding digits
number_digits n = digits_are 64 n [] refl

pub number_name : (n : ℕ) → Has name_byte (decimal n)
number_name n = has_weaker is_ascii_digit name_byte digit_name (decimal n) (number_digits n)

first_digit : (k n d : ℕ) (acc rest : List ℕ) → is_ascii_digit d ≡ true → is_ascii_digit (front (digits_onto k 10 false n (d ∷ acc) ++ rest)) ≡ true
first_digit zero n d acc rest h = h
first_digit (suc k) n d acc rest h =
    cond_both (n / 10 == 0) _ _ (λ ds. is_ascii_digit (front (ds ++ rest)) ≡ true) (λ _. glyph n) (λ _. first_digit k (n / 10) (digit_glyph false (n % 10)) (d ∷ acc) rest (glyph n))

pub number_first : (n : ℕ) (rest : List ℕ) → is_ascii_digit (front (decimal n ++ rest)) ≡ true
unfolding digits
number_first n rest =
    cond_both (n / 10 == 0) _ _ (λ ds. is_ascii_digit (front (ds ++ rest)) ≡ true) (λ _. glyph n) (λ _. first_digit 63 (n / 10) (digit_glyph false (n % 10)) [] rest (glyph n))

-- names and paths
continues : (cs : List ℕ) → All ContinuesName cs → Has name_byte cs
continues [] h = refl
continues (c ∷ cs) h = and_from _ _ (All-head ContinuesName c cs h) (continues cs (All-tail ContinuesName c cs h))

begins : (c : ℕ) → (is_ascii_alphabetic c || c == 95) ≡ true → name_byte c ≡ true
begins c h = grind (arith, nat_tests)

pub name_form : (n : List ℕ) → HasNameForm n → Has name_byte n
name_form [] h = absurd h
name_form (c ∷ cs) h = and_from _ _ (begins c h.0) (continues cs h.1)

pub name_bytes : (n : List ℕ) → IsName n → Has name_byte n
name_bytes n h = name_form n h.form

joined_bytes : (n : List ℕ) (ns : List (List ℕ)) → IsName n → All IsName ns → Has path_byte (joined n ns)
joined_bytes n [] h k = name_in_path n (name_bytes n h)
joined_bytes n (m ∷ ms) h k =
    has_append path_byte n (46 ∷ joined m ms) (name_in_path n (name_bytes n h)) (joined_bytes m ms (All-head IsName m ms k) (All-tail IsName m ms k))

pub names_bytes : (text : List ℕ) → AreNames text → Has path_byte text
names_bytes text h = subst (Has path_byte) (sym h.is) (joined_bytes h.first h.rest h.named.0 h.named.1)

pub path_bytes : (text : List ℕ) → IsPath text → Has path_byte text
path_bytes text (inl e) = subst (Has path_byte) (sym e) refl
path_bytes text (inr h) = names_bytes text h

pub place_bytes : (p : ChildPlace) → IsPlace p → Has path_byte (place_text p)
place_bytes p h =
    has_append path_byte p.child (46 ∷ (p.port ++ 46 ∷ decimal p.channel)) (names_bytes p.child h.child)
    (has_append path_byte p.port (46 ∷ decimal p.channel) (name_in_path p.port (name_bytes p.port h.port)) (name_in_path (decimal p.channel) (number_name p.channel)))
