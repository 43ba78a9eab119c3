-- Tokens that are noted one by one, and ports one by one.
use Rattle.std.proofs.Common.{◌≡◌, ℕ, zero, suc, ◌+◌, ◌<◌, ◌≤◌, List, [], ◌∷◌, ◌++◌, length, take, drop, map, get_or, set, refl, sym, ap, ap₂, ◌∙◌, arith, append_assoc, add-one}
use Rattle.std.proofs.Math.Seq.{take-suc}
use Rattle.std.proofs.lemmas.List.{take-append-drop, take_at}
use Rattle.pt_meaning.specs.Basics.{Tag, Streams, at, with_tag}
use Rattle.pt_value.specs.declared.token.Token.{Token}
use Rattle.pt_past.specs.Recorded.{RecordedPort, noting, unnoted}

pub with_tag-append : {T : Type 0} (t : Tag) (xs ys : List T) → with_tag t (xs ++ ys) ≡ with_tag t xs ++ with_tag t ys
with_tag-append t [] ys = refl
with_tag-append t (x ∷ xs) ys = ap (λ v. (t, x) ∷ v) (with_tag-append t xs ys)

pub noted-more : (old now : List (Tag × Token)) (tag : Tag) (xs : List Token) (k : ℕ) (x y : Token) → now ≡ old ++ with_tag tag (take k xs) → k < length xs → x ≡ get_or xs k x → y ≡ x → now ++ ((tag, y) ∷ []) ≡ old ++ with_tag tag (take (k + 1) xs)
noted-more old now tag xs k x y h b e f =
    ap₂ (λ (v : List (Tag × Token)) (z : Token). v ++ ((tag, z) ∷ [])) h f ∙ append_assoc old (with_tag tag (take k xs)) ((tag, x) ∷ []) ∙
    ap (λ v. old ++ v) (ap (λ (z : Token). with_tag tag (take k xs) ++ ((tag, z) ∷ [])) e ∙ sym (with_tag-append tag (take k xs) (get_or xs k x ∷ [])) ∙ ap (λ v. with_tag tag v) (sym (take-suc xs k x b))) ∙
    ap (λ n. old ++ with_tag tag (take n xs)) (sym (add-one k))

-- what comes behind others, and behind what these begin with
pub first-stay : (old more noted now : List (Tag × Token)) → noted ≡ old ++ more → take (length noted) now ≡ noted → take (length old) now ≡ old
first-stay old more noted now e k =
    let behind = drop (length noted) now in
    ap (λ v. take (length old) v) (sym (take-append-drop (length noted) now) ∙ ap (λ v. v ++ behind) (k ∙ e) ∙ append_assoc old more behind) ∙ take_at old (more ++ behind) (length old) refl

at-past : {T : Type 0} (X : Streams T) (n : ℕ) → length X ≤ n → at X n ≡ []
at-past [] n h = refl
at-past (xs ∷ X) zero h = absurd (omega (arith, h))
at-past (xs ∷ X) (suc n) h = at-past X n (omega (arith, h))

take-twice : {A : Type 0} (n : ℕ) (xs : List A) → take n (take n xs) ≡ take n xs
take-twice zero xs = refl
take-twice (suc n) [] = refl
take-twice (suc n) (x ∷ xs) = ap (λ v. x ∷ v) (take-twice n xs)

drop-taken : {A : Type 0} (n : ℕ) (xs : List A) → drop n (take n xs) ≡ []
drop-taken zero xs = refl
drop-taken (suc n) [] = refl
drop-taken (suc n) (x ∷ xs) = drop-taken n xs

-- nothing is noted of an output that the firing doesn't have
pub note-none : (port number r : ℕ) (text : List ℕ) (tokens now : List (Tag × Token)) (tag : Tag) (out : Streams Token) (old : RecordedPort) → record { port = port; number = number; text = text; trace = take r tokens; noted = drop r tokens } ≡ old → now ≡ take r tokens → length out ≤ port →
    record { port = port; number = number; text = text; trace = take r now; noted = drop r now } ≡ noting tag out old
note-none port number r text tokens now tag out old e h b =
    let noted : drop r (take r tokens) ≡ with_tag tag (at out port) = drop-taken r tokens ∙ ap (λ v. with_tag tag v) (sym (at-past out port b)) in
    ap₂ (λ (v w : List (Tag × Token)). let p : RecordedPort = record { port = port; number = number; text = text; trace = v; noted = w } in p) (ap (λ v. take r v) h ∙ take-twice r tokens) (ap (λ v. drop r v) h ∙ noted) ∙ ap (λ p. noting tag out p) e

-- a list of which the first n are changed
abbrev pub changed_to : {A : Type 0} → (A → A) → ℕ → List A → List A
changed_to f n xs = map f (take n xs) ++ drop n xs

pub changed-at : {A : Type 0} (f : A → A) (n : ℕ) (xs : List A) (d : A) → get_or (changed_to f n xs) n d ≡ get_or xs n d
changed-at f zero xs d = refl
changed-at f (suc n) [] d = refl
changed-at f (suc n) (x ∷ xs) d = changed-at f n xs d

pub changed-more : {A : Type 0} (f : A → A) (n : ℕ) (xs : List A) (d : A) → n < length xs → set (changed_to f n xs) n (f (get_or xs n d)) ≡ changed_to f (suc n) xs
changed-more f n [] d h = absurd (omega (arith, h))
changed-more f zero (x ∷ xs) d h = refl
changed-more f (suc n) (x ∷ xs) d h = ap (λ v. f x ∷ v) (changed-more f n xs d (omega (arith, h)))

pub changed-all : {A : Type 0} (f : A → A) (n : ℕ) (xs : List A) → length xs ≤ n → changed_to f n xs ≡ map f xs
changed-all f zero [] h = refl
changed-all f zero (x ∷ xs) h = absurd (omega (arith, h))
changed-all f (suc n) [] h = refl
changed-all f (suc n) (x ∷ xs) h = ap (λ v. f x ∷ v) (changed-all f n xs (omega (arith, h)))

pub changed-step : {A : Type 0} (f : A → A) (n : ℕ) (old now : List A) (d new : A) → now ≡ changed_to f n old → n < length old → d ≡ get_or now n d → new ≡ f d → set now n new ≡ changed_to f (n + 1) old
changed-step f n old now d new h b e g =
    let same : d ≡ get_or old n d = e ∙ ap (λ v. get_or v n d) h ∙ changed-at f n old d in
    ap₂ (λ v w. set v n w) h (g ∙ ap f same) ∙ changed-more f n old d b ∙ ap (λ m. changed_to f m old) (sym (add-one n))

-- what is noted changes nothing that is recorded
pub unnoted-noting : (tag : Tag) (out : Streams Token) (n : ℕ) (rs : List RecordedPort) → map unnoted (changed_to (noting tag out) n rs) ≡ map unnoted rs
unnoted-noting tag out zero rs = refl
unnoted-noting tag out (suc n) [] = refl
unnoted-noting tag out (suc n) (r ∷ rs) = ap (λ v. unnoted r ∷ v) (unnoted-noting tag out n rs)

pub map-set : {A B : Type 0} (f : A → B) (xs : List A) (n : ℕ) (x d : A) → f x ≡ f d → d ≡ get_or xs n d → map f (set xs n x) ≡ map f xs
map-set f [] n x d h e = refl
map-set f (y ∷ xs) zero x d h e = ap (λ v. v ∷ map f xs) (h ∙ ap f e)
map-set f (y ∷ xs) (suc n) x d h e = ap (λ v. f y ∷ v) (map-set f xs n x d h e)

pub unnoted-stays : (tag : Tag) (out : Streams Token) (n : ℕ) (old now : List RecordedPort) (d new : RecordedPort) → now ≡ changed_to (noting tag out) n old → d ≡ get_or now n d → unnoted new ≡ unnoted d → map unnoted (set now n new) ≡ map unnoted old
unnoted-stays tag out n old now d new h e g = map-set unnoted now n new d g e ∙ ap (λ v. map unnoted v) h ∙ unnoted-noting tag out n old
