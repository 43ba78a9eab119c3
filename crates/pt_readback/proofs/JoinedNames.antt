-- Names that are joined by dots, and places.
use Rattle.std.proofs.Common.{◌≡◌, ◌≢◌, ◌⊎◌, inl, inr, ℕ, zero, suc, ◌+◌, ◌-◌, ◌<◌, ◌^◌, List, [], ◌∷◌, ◌++◌, length, get_or, take, drop, Bool, true, false, cond, not, ◌==◌, Option, Some, None, option_map, All, refl, sym, ap, subst, ◌∙◌, append_assoc, take-append-drop, arith}
use Rattle.std.specs.Prelude.{nat_lt, decimal}
use Rattle.std.specs.List.{list_all, prefix_len, position, position_or_len}
use Rattle.std.proofs.lemmas.Bool.{and_parts, cond-false, false≢true, cases_order}
use Rattle.std.proofs.lemmas.Bool.Decides.{Decides-eqb, Decides-ltb, nat_tests}
use Rattle.std.proofs.lemmas.List.{drop_more, get_or_at, get_or-append-add, take_at, drop_at, drop-drop, length-append}
use Rattle.std.proofs.lemmas.List.Elements.{All-nil, All-cons, All-head, All-tail}
use Rattle.std.proofs.lemmas.List.Quantifiers.{position-Some}
use Rattle.std.proofs.lemmas.Option.{none-some, same_Some}
use Rattle.pt_trace.specs.ReportForm.{IsName, AreNames, joined}
use Rattle.pt_readback.specs.Listed.{cut}
use Rattle.pt_readback.proofs.Bytes.{Has, Lacks, name_bytes, name_lacks_dot}
use Rattle.pt_readback.proofs.CutParts.{cut_is}

-- a text is cut at a mark
pub joined_at : (text : List ℕ) (i mark : ℕ) → i < length text → get_or text i 0 ≡ mark → take i text ++ mark ∷ drop (i + 1) text ≡ text
joined_at text i mark short m =
    ap (λ c. take i text ++ c ∷ drop (i + 1) text) (sym m) ∙ ap (λ r. take i text ++ r) (sym (drop_more text i 0 short)) ∙ take-append-drop i text

-- the parts of a cut, joined by the mark, are the text
whole_at : (text a b : List ℕ) (mark : ℕ) (o : Option ℕ) → position (λ c. c == mark) text ≡ o → Some (a, b) ≡ option_map {U = List ℕ × List ℕ} (λ i. (take i text, drop (i + 1) text)) o → a ++ mark ∷ b ≡ text
whole_at text a b mark None p e = absurd (none-some _ (sym e))
whole_at text a b mark (Some i) p e =
    let k = position-Some (λ c. c == mark) text i 0 p in
    let m : get_or text i 0 ≡ mark = (Decides-eqb (get_or text i 0) mark).0 k.1 in
    let q = same_Some _ _ e in
    (λ j. (q j).0 ++ mark ∷ (q j).1) ∙ joined_at text i mark k.0 m

pub cut_whole : (mark : ℕ) (a b text : List ℕ) → Some (a, b) ≡ cut mark text → a ++ mark ∷ b ≡ text
cut_whole mark a b text e = whole_at text a b mark (position (λ c. c == mark) text) refl e

-- where there is no mark, nothing is cut
all_pass : (p : ℕ → Bool) (xs : List ℕ) → Has p xs → prefix_len p xs ≡ length xs
all_pass p [] h = refl
all_pass p (c ∷ cs) h =
    let k = and_parts (p c) (list_all p cs) h in
    let e : 1 + prefix_len p cs ≡ length (c ∷ cs) = omega (arith, all_pass p cs k.1) in
    ap (λ t. cond t (1 + prefix_len p cs) 0) k.0 ∙ e

pub cut_none : (mark : ℕ) (text : List ℕ) → Lacks mark text → cut mark text ≡ None
cut_none mark text h =
    let n : position_or_len (λ c. c == mark) text ≡ length text = all_pass (λ c. not (c == mark)) text h in
    let f : nat_lt (length text) (length text) ≡ false = grind (arith, nat_tests) in
    let at : position (λ c. c == mark) text ≡ None = ap (λ k. cond (nat_lt k (length text)) (Some k) None) n ∙ cond-false (nat_lt (length text) (length text)) (Some (length text)) None f in
    ap (option_map (λ i. (take i text, drop (i + 1) text))) at

pub one_name : (n : List ℕ) → IsName n → AreNames n
one_name n h = record { first = n; rest = []; named = (h, All-nil IsName); is = refl }

-- a name, a dot and names are names
pub names_more : (first others text : List ℕ) → Some (first, others) ≡ cut 46 text → IsName first → AreNames others → AreNames text
names_more first others text e h k = record {
  first = first;
  rest = k.first ∷ k.rest;
  named = (h, All-cons IsName k.first k.rest k.named.0 k.named.1);
  is = sym (cut_whole 46 first others text e) ∙ ap (λ r. first ++ 46 ∷ r) k.is;
}

less_at : (first others text n : List ℕ) (ns : List (List ℕ)) → Some (first, others) ≡ cut 46 text → IsName n → All IsName ns → text ≡ joined n ns → IsName first × AreNames others
less_at first others text n [] e h k t = absurd (none-some _ (sym (e ∙ cut_none 46 text (subst (Lacks 46) (sym t) (name_lacks_dot n (name_bytes n h))))))
less_at first others text n (m ∷ ms) e h k t =
    let q = same_Some _ _ (e ∙ cut_is 46 n (joined m ms) text (name_lacks_dot n (name_bytes n h)) (sym t)) in
    (subst IsName (ap (λ p. p.0) (sym q)) h, record { first = m; rest = ms; named = (All-head IsName m ms k, All-tail IsName m ms k); is = ap (λ p. p.1) q })

-- and the other way round
pub names_less : (first others text : List ℕ) → Some (first, others) ≡ cut 46 text → AreNames text → IsName first × AreNames others
names_less first others text e h = less_at first others text h.first h.rest e h.named.0 h.named.1 h.is

last_at : (text n : List ℕ) (ns : List (List ℕ)) → None ≡ cut 46 text → IsName n → All IsName ns → text ≡ joined n ns → IsName text
last_at text n [] e h k t = subst IsName (sym t) h
last_at text n (m ∷ ms) e h k t = absurd (none-some _ (e ∙ cut_is 46 n (joined m ms) text (name_lacks_dot n (name_bytes n h)) (sym t)))

pub names_last : (text : List ℕ) → None ≡ cut 46 text → AreNames text → IsName text
names_last text e h = last_at text h.first h.rest e h.named.0 h.named.1 h.is

-- the last mark
mark_at : (mark : ℕ) (a b text : List ℕ) → a ++ mark ∷ b ≡ text → (length a < length text) × (get_or text (length a) 0 ≡ mark)
mark_at mark a b text e = (omega (arith, ap length e, length-append a (mark ∷ b)), ap (λ t. get_or t (length a) 0) (sym e) ∙ get_or_at a mark b 0 (length a) refl)

pub last_none : (mark : ℕ) (a b text : List ℕ) → a ++ mark ∷ b ≡ text → ((k : ℕ) → k < length text → get_or text k 0 ≢ mark) → ⊥
last_none mark a b text e none = let m = mark_at mark a b text e in none (length a) m.0 m.1

passes_at : (p : ℕ → Bool) (xs : List ℕ) (k : ℕ) → Has p xs → k < length xs → p (get_or xs k 0) ≡ true
passes_at p [] k h short = absurd (omega arith)
passes_at p (x ∷ xs) zero h short = (and_parts (p x) (list_all p xs) h).0
passes_at p (x ∷ xs) (suc k) h short = passes_at p xs k (and_parts (p x) (list_all p xs) h).1 (omega arith)

pub last_some : (mark at : ℕ) (a b text : List ℕ) → Lacks mark b → a ++ mark ∷ b ≡ text → at < length text → get_or text at 0 ≡ mark → ((k : ℕ) → at < k → k < length text → get_or text k 0 ≢ mark) → at ≡ length a
last_some mark at a b text h e short is later = elim (cases_order at (length a)) [
  | inl s ↦ s
  | inr (inl less) ↦ let m = mark_at mark a b text e in absurd (later (length a) less m.0 m.1)
  | inr (inr more) ↦
      let k : ℕ = at - length a - 1 in
      let n : at ≡ length a + suc k = omega arith in
      let g : get_or text at 0 ≡ get_or b k 0 = (λ i. get_or (sym e i) (n i) 0) ∙ get_or-append-add a (mark ∷ b) (suc k) 0 in
      let low : k < length b = omega (arith, ap length e, length-append a (mark ∷ b)) in
      let no : not (get_or b k 0 == mark) ≡ false = ap (λ c. not (c == mark)) (sym g ∙ is) ∙ ap not ((Decides-eqb mark mark).1 refl) in
      absurd (false≢true (sym no ∙ passes_at (λ c. not (c == mark)) b k h low))
]

pub parts_at : (mark at : ℕ) (a b text : List ℕ) → a ++ mark ∷ b ≡ text → at ≡ length a → ◌≡◌ {A = List ℕ × List ℕ} (take at text, drop (at + 1) text) (a, b)
parts_at mark at a b text e n =
    let t : take at text ≡ a = (λ i. take (n i) (sym e i)) ∙ take_at a (mark ∷ b) (length a) refl in
    let d : drop (at + 1) text ≡ b = (λ i. drop (n i + 1) (sym e i)) ∙ sym (drop-drop 1 (length a) (a ++ mark ∷ b)) ∙ ap (drop 1) (drop_at a (mark ∷ b) (length a) refl) in
    λ i. (t i, d i)
