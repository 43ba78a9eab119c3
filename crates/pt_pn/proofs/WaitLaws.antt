-- Which processes wait to put, and on which channels.
use Rattle.std.proofs.Common.{◌≡◌, ◌⊎◌, inl, inr, ℕ, zero, suc, ◌+◌, ◌<◌, ◌≤◌, List, [], ◌∷◌, ◌++◌, Bool, true, false, ◌||◌, nat_eq, length, take, drop, get_or, set, Option, Some, None, is_some, refl, sym, ap, ap₂, subst, ◌∙◌, arith, add-one, append_assoc, append-nil}
use Rattle.std.proofs.lemmas.List.{get_or-set_same, get_or-set_other}
use Rattle.std.proofs.lemmas.Bool.Decides.{nat_tests}
use Rattle.pt_meaning.specs.Streams.{Streams, at}
use Rattle.pt_meaning.specs.Process.{Put}
use Rattle.pt_meaning.specs.Places.{taken_if}
use Rattle.pt_meaning.specs.Jam.{is_next_put, waited_from}
use Rattle.pt_recv.specs.Lines.{list_at}
use Rattle.pt_value.specs.declared.token.Token.{Token}
use Rattle.pt_process.specs.Process.{Standing}
use Rattle.pt_puts.specs.Puts.{PutsFirst}
use Rattle.pt_puts.proofs.LineLaws.{at-past}
use Rattle.pt_pn_work.specs.Core.{nobody, puts_of_all}
use Rattle.pt_pn_work.proofs.CoreLaws.{puts-is}
use Rattle.pt_pn.specs.Waiting.{SomePuts, NonePut, MarksWaited, marked_with}

-- a process has a next put, or none
pub some-puts : (ps : List Standing) (i channel : ℕ) → PutsFirst (get_or ps i nobody).puts (Some channel) → SomePuts (puts_of_all ps)
some-puts ps i channel (u, us, e, z) = (i, u, us, puts-is ps i ∙ e)

pub some-first : (ps : List Standing) (i : ℕ) (o : Option ℕ) → is_some o ≡ true → PutsFirst (get_or ps i nobody).puts o → SomePuts (puts_of_all ps)
some-first ps i None e p = absurd (cc)
some-first ps i (Some channel) e p = some-puts ps i channel p

pub none-first : (us : List (Put Token)) (o : Option ℕ) → is_some o ≡ false → PutsFirst us o → us ≡ []
none-first us None e p = p
none-first us (Some channel) e p = absurd (cc)

pub none-next : (ps : List Standing) (k : ℕ) → ((i : ℕ) → i < k → at (puts_of_all ps) i ≡ []) → (get_or ps k nobody).puts ≡ [] → (i : ℕ) → i < k + 1 → at (puts_of_all ps) i ≡ []
none-next ps k h e i l = by (split i k l)
  where
    split : (i k : ℕ) → i < k + 1 → (i < k) ⊎ (k ≡ i)
    split i k l = grind arith

    by : (i < k) ⊎ (k ≡ i) → at (puts_of_all ps) i ≡ []
    by (inl m) = h i m
    by (inr z) = subst (λ j. at (puts_of_all ps) j ≡ []) z (puts-is ps k ∙ e)

pub none-put : (ps : List Standing) (k : ℕ) → length ps ≤ k → ((i : ℕ) → i < k → at (puts_of_all ps) i ≡ []) → NonePut (puts_of_all ps)
none-put ps k l h i = by (split i k)
  where
    split : (i k : ℕ) → (i < k) ⊎ (k ≤ i)
    split i k = grind arith

    long : (ps : List Standing) → length (puts_of_all ps) ≡ length ps
    long [] = refl
    long (p ∷ ps) = ap (λ n. suc n) (long ps)

    by : (i < k) ⊎ (k ≤ i) → at (puts_of_all ps) i ≡ []
    by (inl m) = h i m
    by (inr m) = at-past (puts_of_all ps) i (let e = long ps in omega (arith, e, l, m))

-- one process more
or-none : (b : Bool) → (b || false) ≡ b
or-none true = refl
or-none false = refl

or-assoc : (a b c : Bool) → (a || (b || c)) ≡ ((a || b) || c)
or-assoc true b c = refl
or-assoc false b c = refl

one-more : (c : ℕ) (us : List (Put Token)) (o : Option ℕ) → PutsFirst us o → (b : Bool) → (b || is_next_put c (us ∷ [])) ≡ marked_with o c b
one-more c us None e b = ap (λ v. b || is_next_put c (v ∷ [])) e ∙ or-none b
one-more c us (Some channel) (u, rest, e, z) b = ap (λ v. b || is_next_put c (v ∷ [])) e ∙ ap (λ v. b || v) (or-none (nat_eq u.channel c)) ∙ ap (λ v. b || nat_eq v c) z

behind : (c : ℕ) (puts : List (List (Put Token))) (us : List (Put Token)) → is_next_put c (puts ++ (us ∷ [])) ≡ (is_next_put c puts || is_next_put c (us ∷ []))
behind c [] us = refl
behind c ([] ∷ puts) us = behind c puts us
behind c ((v ∷ vs) ∷ puts) us = ap (λ b. nat_eq v.channel c || b) (behind c puts us) ∙ or-assoc (nat_eq v.channel c) (is_next_put c puts) (is_next_put c (us ∷ []))

puts-more : (ps : List Standing) (k : ℕ) → k < length ps → puts_of_all (take (suc k) ps) ≡ puts_of_all (take k ps) ++ ((get_or ps k nobody).puts ∷ [])
puts-more [] k h = absurd (omega (arith, h))
puts-more (p ∷ ps) zero h = refl
puts-more (p ∷ ps) (suc k) h = ap (λ v. p.puts ∷ v) (puts-more ps k (omega (arith, h)))

pub marks-more : (ps : List Standing) (k : ℕ) (o : Option ℕ) (M N : List Bool) → k < length ps → PutsFirst (get_or ps k nobody).puts o → length N ≡ length M → MarksWaited M (puts_of_all (take k ps)) → ((c : ℕ) → c < length M → get_or N c false ≡ marked_with o c (get_or M c false)) → MarksWaited N (puts_of_all (take (k + 1) ps))
marks-more ps k o M N h p e m f c l =
    let l' : c < length M = omega (arith, l, e) in
    f c l' ∙ ap (λ b. marked_with o c b) (m c l') ∙ sym (one-more c (get_or ps k nobody).puts o p (is_next_put c (puts_of_all (take k ps)))) ∙ sym (behind c (puts_of_all (take k ps)) (get_or ps k nobody).puts) ∙ ap (λ v. is_next_put c v) (sym (ap (λ j. puts_of_all (take j ps)) (add-one k) ∙ puts-more ps k h))

pub none-marked : (ps : List Standing) (M : List Bool) → ((j : ℕ) → j < length M → get_or M j false ≡ false) → MarksWaited M (puts_of_all (take 0 ps))
none-marked ps M h j l = h j l

-- a channel is marked
pub mark-one : (M N : List Bool) (channel : ℕ) → N ≡ set M channel true → (c : ℕ) → c < length M → get_or N c false ≡ marked_with (Some channel) c (get_or M c false)
mark-one M N channel e c l = ap (λ v. get_or v c false) e ∙ by (nat_eq channel c) refl
  where
    or-true : (b : Bool) → true ≡ (b || true)
    or-true true = refl
    or-true false = refl

    by : (b : Bool) → nat_eq channel c ≡ b → get_or (set M channel true) c false ≡ (get_or M c false || b)
    by true z =
        let q : channel ≡ c = grind (arith, nat_tests) in
        ap (λ j. get_or (set M channel true) j false) (sym q) ∙ get_or-set_same M channel true false (omega (arith, l, q)) ∙ or-true (get_or M c false)
    by false z = get_or-set_other M channel c true false (λ q. apart q) ∙ sym (or-none (get_or M c false))
      where
        apart : c ≡ channel → ⊥
        apart q = grind (arith, nat_tests)

pub mark-past : (M : List Bool) (channel : ℕ) → length M ≤ channel → (c : ℕ) → c < length M → get_or M c false ≡ marked_with (Some channel) c (get_or M c false)
mark-past M channel h c l = sym (ap (λ b. get_or M c false || b) (no c channel (omega (arith, h, l))) ∙ or-none (get_or M c false))
  where
    no : (c channel : ℕ) → c < channel → nat_eq channel c ≡ false
    no c channel l = grind (arith, nat_tests)

-- one channel more
waited-front : (c k : ℕ) (X : Streams Token) (puts : List (List (Put Token))) → k < length X → waited_from c (drop k X) puts ≡ taken_if (is_next_put c puts) (c, length (list_at X k)) (waited_from (suc c) (drop (suc k) X) puts)
waited-front c k [] puts h = absurd (omega (arith, h))
waited-front c zero (xs ∷ X) puts h = refl
waited-front c (suc k) (xs ∷ X) puts h = waited-front c k X puts (omega (arith, h))

abbrev pub AreFull : (now : List (ℕ × ℕ)) (k : ℕ) (X : Streams Token) (M : List Bool) → Type 0
AreFull now k X M = (puts : List (List (Put Token))) → MarksWaited M puts → now ++ waited_from k (drop k X) puts ≡ waited_from 0 X puts

pub full-more : (now after : List (ℕ × ℕ)) (k : ℕ) (X : Streams Token) (M : List Bool) (b : Bool) → k < length X → length M ≡ length X → b ≡ get_or M k false → after ≡ now ++ taken_if b (k, length (list_at X k)) [] → AreFull now k X M → AreFull after (k + 1) X M
full-more now after k X M b h e t q f puts m =
    let mark : is_next_put k puts ≡ b = sym (t ∙ m k (omega (arith, h, e))) in
    ap₂ (λ v j. v ++ waited_from j (drop j X) puts) q (add-one k) ∙ joined b ∙
    ap (λ v. now ++ v) (sym (waited-front k k X puts h ∙ ap (λ c. taken_if c (k, length (list_at X k)) (waited_from (suc k) (drop (suc k) X) puts)) mark)) ∙ f puts m
  where
    joined : (b : Bool) → (now ++ taken_if b (k, length (list_at X k)) []) ++ waited_from (suc k) (drop (suc k) X) puts ≡ now ++ taken_if b (k, length (list_at X k)) (waited_from (suc k) (drop (suc k) X) puts)
    joined true = append_assoc now ((k, length (list_at X k)) ∷ []) (waited_from (suc k) (drop (suc k) X) puts)
    joined false = ap (λ v. v ++ waited_from (suc k) (drop (suc k) X) puts) (append-nil now)

pub full-all : (now : List (ℕ × ℕ)) (k : ℕ) (X : Streams Token) (M : List Bool) → length X ≤ k → AreFull now k X M → (puts : List (List (Put Token))) → MarksWaited M puts → now ≡ waited_from 0 X puts
full-all now k X M h f puts m = sym (append-nil now) ∙ ap (λ v. now ++ waited_from k v puts) (sym (past X k h)) ∙ f puts m
  where
    past : (X : Streams Token) (k : ℕ) → length X ≤ k → drop k X ≡ []
    past [] zero h = refl
    past [] (suc k) h = refl
    past (xs ∷ X) zero h = absurd (omega (arith, h))
    past (xs ∷ X) (suc k) h = past X k (omega (arith, h))
