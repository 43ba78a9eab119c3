-- The printed text of a token reads as its literal, which comes to the token again.
use Rattle.std.proofs.Common.{◌≡◌, ℕ, suc, ◌+◌, ◌<◌, ◌≤◌, ◌^◌, ℤ, pos, negsuc, List, [], ◌∷◌, length, map, count_by, All, AllPairs, Bool, true, false, cond, ◌&&◌, ltb, leb, Some, inl, inr, refl, sym, subst, ap, ◌∙◌, arith}
use Rattle.std.specs.List.{prefix_len, list_all}
use Rattle.std.specs.Str.{bytes_eq}
use Rattle.std.specs.Char.{is_ascii_alphanumeric}
use Rattle.std.specs.Prelude.{◌||◌, ◌==◌, not, codes, IsTrue}
use Rattle.std.proofs.lemmas.Bool.Decides.{nat_tests}
use Rattle.std.proofs.lemmas.List.Sums.{sum_by-cons}
use Rattle.std.proofs.lemmas.Slice.Eq.{bytes_eq-Decides}
use Rattle.std.proofs.lemmas.Option.{some_pair_parts}
use Rattle.std.proofs.lemmas.List.Sorted.{IsPermutation-refl}
use Rattle.pt_value.specs.Value as val
use Rattle.pt_value.specs.Value.{Value, Values, no_values, value_then, Named, size, size_of_values, size_of_named, list_of, values_of, fields_of, named_of, values_of-list_of, named_of-fields_of}
use Rattle.pt_value.specs.Name.{IsName, HasNameForm, ContinuesName, is_reserved}
use Rattle.pt_value.specs.Record.{IsRecord, IsBelow, names}
use Rattle.pt_value.specs.Printed as token
use Rattle.pt_value.specs.Printed.{in_braces}
use Rattle.pt_value.proofs.Names.{bytes_eq-differ, IsBelow-differ}
use Rattle.pt_language.specs.Tree as tree
use Rattle.pt_language.specs.Scope.{Scope}
use Rattle.pt_language.specs.Outcome.{Gives, Stops, Wrong, and_then}
use Rattle.pt_language.specs.declared.eval_fault.EvalFault.TheVariants.{Size}
use Rattle.pt_language.specs.RecordOf.{record_of, by_name, make_record, is_name, has_name_form}
use Rattle.pt_language.specs.Meaning.{value, values, named_values, within, arrayed, recorded, fits}
use Rattle.pt_language.proofs.Ordered.{by_name-record}
use Rattle.pt_language.specs.Words.{Splits, continues_name, name_of}
use Rattle.pt_language.specs.Grammar.{AllDiffer, IsAmong}
use Rattle.pt_language.specs.declared.word.Word.{Word}
use Rattle.pt_language.specs.declared.word.Word.TheVariants as word
use Rattle.pt_language.specs.Descent.{expression}
use Rattle.pt_language.specs.Text.{ReadsAs}
use Rattle.pt_language.proofs.Complete.{whole_read}
use Rattle.pt_language.proofs.Same.{one_list}
use Rattle.pt_expr_print.specs.Printed.{printed, each_printed, each_named, printed_field}
use Rattle.pt_expr_print.specs.Literal.{literal, literals, named_literals, IsWritable, AreWritable, HaveWritable}
use Rattle.pt_expr_print.proofs.Legal.{IsLegal, AreLegal, HaveLegal, HasField, IsLiteral, IsNameWord}
use Rattle.pt_expr_print.proofs.Spelled.{continues}
use Rattle.pt_expr_print.proofs.Written.{words}
use Rattle.pt_expr_print.proofs.Whole.{legal_words, legal_reads}

-- a token prints as its literal does
mutual
  pub literal_printed : (v : Value) → printed (literal v) ≡ token.printed v
  literal_printed (val.Int n) = refl
  literal_printed (val.Bool b) = refl
  literal_printed (val.Words text) = refl
  literal_printed (val.Array vs) = ap in_braces (literals_printed vs)
  literal_printed (val.Record fs) = ap in_braces (named_printed fs)

  literals_printed : (vs : Values) → each_printed (literals vs) ≡ token.each_printed vs
  literals_printed no_values = refl
  literals_printed (value_then v vs) = λ i. literal_printed v i ∷ literals_printed vs i

  named_printed : (fs : Named) → each_named (named_literals fs) ≡ token.each_named fs
  named_printed val.no_fields = refl
  named_printed (val.field_then name v fs) = λ i. printed_field name (literal_printed v i) ∷ named_printed fs i

-- names
name_runs : (cs : List ℕ) → All ContinuesName cs → prefix_len continues_name cs ≡ length cs
name_runs [] h = refl
name_runs (c ∷ cs) h = one (continues_name c) (h 0 0 (omega arith)) (name_runs cs (λ i d below. h (suc i) d (omega arith)))
  where
    one : (b : Bool) → b ≡ true → prefix_len continues_name cs ≡ length cs → cond b (1 + prefix_len continues_name cs) 0 ≡ suc (length cs)
    one true e k = omega (arith, k)
    one false e k = cc

short_of : (n : ℕ) → n ≤ 64 → leb n 64 ≡ true
short_of n h = grind (arith, nat_tests)

-- a name is none of the words that expressions reserve, so it is read as a name
either : (a b : Bool) → (a || b) ≡ false → (a ≡ false) × (b ≡ false)
either true b e = absurd (cc)
either false b e = (refl, e)

read_as_name : (name : List ℕ) → is_reserved name ≡ false → length name ≤ 64 → name_of name ≡ Some (word.Name name)
read_as_name name free short =
    let a = either (bytes_eq name (codes "true") || bytes_eq name (codes "false") || bytes_eq name (codes "abs") || bytes_eq name (codes "max")) (bytes_eq name (codes "min")) free in
    let b = either (bytes_eq name (codes "true") || bytes_eq name (codes "false") || bytes_eq name (codes "abs")) (bytes_eq name (codes "max")) a.0 in
    let c = either (bytes_eq name (codes "true") || bytes_eq name (codes "false")) (bytes_eq name (codes "abs")) b.0 in
    let d = either (bytes_eq name (codes "true")) (bytes_eq name (codes "false")) c.0 in
    rw (d.0, d.1, c.1, b.1, a.1, short_of (length name) short) refl

spelled : (name : List ℕ) → IsName name → IsNameWord name
spelled [] h = absurd h.form
spelled (c ∷ cs) h = record { begins = h.form.0; runs = all_runs (continues_name c) (continues c h.form.0) (name_runs cs h.form.1); is = read_as_name (c ∷ cs) h.free h.short }
  where
    all_runs : (b : Bool) → b ≡ true → prefix_len continues_name cs ≡ length cs → cond b (1 + prefix_len continues_name cs) 0 ≡ suc (length cs)
    all_runs true e k = omega (arith, k)
    all_runs false e k = cc

same_names : (fs : Named) → map (λ (f : List ℕ × tree.Tree). f.0) (tree.fields_of (named_literals fs)) ≡ names (fields_of fs)
same_names val.no_fields = refl
same_names (val.field_then name v fs) = ap (λ ns. name ∷ ns) (same_names fs)

-- each name is below all later ones, so no name stands twice
later : (n : List ℕ) (ns : List (List ℕ)) → AllPairs IsBelow (n ∷ ns) → All (IsBelow n) ns
later n ns h i d below = h 0 (suc i) d (omega arith) (omega arith)

others : (n : List ℕ) (ns : List (List ℕ)) → AllPairs IsBelow (n ∷ ns) → AllPairs IsBelow ns
others n ns h i j d less below = h (suc i) (suc j) d (omega arith) (omega arith)

not_among : (n : List ℕ) (ns : List (List ℕ)) → All (IsBelow n) ns → ¬ (IsAmong ns n)
not_among n [] h k = k
not_among n (m ∷ ns) h (inl e) = IsBelow-differ n m (h 0 [] (omega arith)) (sym e)
not_among n (m ∷ ns) h (inr k) = not_among n ns (λ i d below. h (suc i) d (omega arith)) k

all_differ : (ns : List (List ℕ)) → AllPairs IsBelow ns → AllDiffer ns
all_differ [] h = tt
all_differ (n ∷ ns) h = (not_among n ns (later n ns h), all_differ ns (others n ns h))

-- a literal is legal
small : (n : ℕ) → ltb n (2 ^ 63) ≡ true → n < 2 ^ 63
small n h = grind (arith, nat_tests)

legal_number : (n : ℤ) → IsTrue (fits n) → IsLiteral n
legal_number (pos n) h = small n h
legal_number (negsuc n) h = let k = small n h in omega (arith, k)

has_field : (fs : Named) → 0 < length (fields_of fs) → HasField (named_literals fs)
has_field val.no_fields h = absurd (omega arith)
has_field (val.field_then name v fs) h = tt

mutual
  legal_literal : (v : Value) → IsWritable v → IsLegal (literal v)
  legal_literal (val.Int n) h = legal_number n h
  legal_literal (val.Bool b) h = tt
  legal_literal (val.Words text) h = tt
  legal_literal (val.Array vs) h = legal_literals vs h
  legal_literal (val.Record fs) h = (
    has_field fs h.0.some,
    (let P : List (List ℕ) → Type 0 = λ ns. AllDiffer ns in subst P (sym (same_names fs)) (all_differ (names (fields_of fs)) h.0.ascending)),
    legal_named fs h.0.named h.1,
  )

  legal_literals : (vs : Values) → AreWritable vs → AreLegal (literals vs)
  legal_literals no_values h = tt
  legal_literals (value_then v vs) h = (legal_literal v h.0, legal_literals vs h.1)

  legal_named : (fs : Named) → All IsName (names (fields_of fs)) → HaveWritable fs → HaveLegal (named_literals fs)
  legal_named val.no_fields n h = tt
  legal_named (val.field_then name v fs) n h = ((spelled name (n 0 [] (omega arith)), legal_literal v h.0), legal_named fs (λ i d below. n (suc i) d (omega arith)) h.1)

-- the printed text of a token is the words of its literal
pub token_words : (v : Value) → IsWritable v → Splits (token.printed v) (words (literal v)) []
token_words v h = let P : List ℕ → Type 0 = λ text. Splits text (words (literal v)) [] in subst P (literal_printed v) (legal_words (literal v) (legal_literal v h))

-- the printed text of a token reads as its literal
pub token_reads : (v : Value) → IsWritable v → ReadsAs (token.printed v) (literal v)
token_reads v h = let P : List ℕ → Type 0 = λ text. ReadsAs text (literal v) in subst P (literal_printed v) (legal_reads (literal v) (legal_literal v h))

-- the fields of a record make one
both : (a b : Bool) → a ≡ true → b ≡ true → (a && b) ≡ true
both true b e f = f
both false b e f = cc

once : (n : ℕ) → n ≤ 1 → leb n 1 ≡ true
once n h = grind (arith, nat_tests)

fits_size : (n : ℕ) → n ≤ 65536 → leb n 65536 ≡ true
fits_size n h = grind (arith, nat_tests)

bytes_same : (m n : List ℕ) → bytes_eq m n ≡ true → m ≡ n
bytes_same m n e = (bytes_eq-Decides m n).0 e

length_names : (fs : List (List ℕ × Value)) → length (names fs) ≡ length fs
length_names [] = refl
length_names (f ∷ fs) = ap (λ n. suc n) (length_names fs)

abbrev one_if : Bool → ℕ
one_if b = cond b 1 0

none_same : (n : List ℕ) (ns : List (List ℕ)) → All (IsBelow n) ns → count_by (bytes_eq n) ns ≡ 0
none_same n [] h = refl
none_same n (m ∷ ns) h =
    let e = bytes_eq-differ n m (IsBelow-differ n m (h 0 [] (omega arith))) in
    let k : one_if (bytes_eq n m) ≡ 0 = ap one_if e in
    omega (arith, sum_by-cons (λ y. cond (bytes_eq n y) 1 0) m ns, k, none_same n ns (λ i d below. h (suc i) d (omega arith)))

-- a name occurs once at most among names that ascend
pub one_same : (n : List ℕ) (ns : List (List ℕ)) → AllPairs IsBelow ns → count_by (bytes_eq n) ns ≤ 1
one_same n [] h = omega arith
one_same n (m ∷ ns) h = by_test (bytes_eq n m) refl (one_same n ns (others m ns h))
  where
    by_test : (b : Bool) → bytes_eq n m ≡ b → count_by (bytes_eq n) ns ≤ 1 → count_by (bytes_eq n) (m ∷ ns) ≤ 1
    by_test true e rest =
        let k : one_if (bytes_eq n m) ≡ 1 = ap one_if e in
        let same : n ≡ m = bytes_same n m e in
        let z : count_by (bytes_eq n) ns ≡ 0 = ap (λ v. count_by (bytes_eq v) ns) same ∙ none_same m ns (later m ns h) in
        omega (arith, sum_by-cons (λ y. cond (bytes_eq n y) 1 0) m ns, k, z)
    by_test false e rest =
        let k : one_if (bytes_eq n m) ≡ 0 = ap one_if e in
        omega (arith, sum_by-cons (λ y. cond (bytes_eq n y) 1 0) m ns, k, rest)

each_once : (ms ns : List (List ℕ)) → AllPairs IsBelow ns → list_all (λ n. leb (count_by (bytes_eq n) ns) 1) ms ≡ true
each_once [] ns h = refl
each_once (m ∷ ms) ns h = both (leb (count_by (bytes_eq m) ns) 1) _ (once (count_by (bytes_eq m) ns) (one_same m ns h)) (each_once ms ns h)

form_of : (name : List ℕ) → HasNameForm name → has_name_form name ≡ true
form_of [] h = absurd h
form_of (c ∷ cs) h = both _ _ h.0 (go cs h.1)
  where
    go : (ds : List ℕ) → All ContinuesName ds → list_all (λ d. is_ascii_alphanumeric d || d == 95) ds ≡ true
    go [] k = refl
    go (d ∷ ds) k = both _ _ (k 0 0 (omega arith)) (go ds (λ i e below. k (suc i) e (omega arith)))

all_names : (ns : List (List ℕ)) → All IsName ns → list_all is_name ns ≡ true
all_names [] h = refl
all_names (n ∷ ns) h =
    let one = h 0 [] (omega arith) in
    both _ _ (both _ _ (both _ _ (form_of n one.form) (short_of (length n) one.short)) (ap not one.free)) (all_names ns (λ i d below. h (suc i) d (omega arith)))

makes_record : (ns : List (List ℕ)) → 0 < length ns → All IsName ns → AllPairs IsBelow ns → make_record ns ≡ true
makes_record [] some h a = absurd (omega arith)
makes_record (n ∷ ns) some h a = both _ _ (all_names (n ∷ ns) h) (each_once (n ∷ ns) (n ∷ ns) a)

record_made : (fs : List (List ℕ × Value)) → IsRecord fs → record_of fs ≡ Gives (val.Record (named_of fs))
record_made fs h =
    ap (λ b. cond b (Gives (val.Record (named_of (by_name fs)))) Wrong) (makes_record (names fs) (omega (arith, h.some, length_names fs)) h.named h.ascending)
    ∙ ap (λ gs. Gives (val.Record (named_of gs))) (by_name-record fs fs (IsPermutation-refl fs) h)

-- a literal comes to its value
within_size : (v : Value) → size v ≤ 65536 → within v ≡ Gives v
within_size v h = ap (λ b. cond b (Gives v) (Stops Size)) (fits_size (size v) h)

mutual
  pub literal_value : (scope : Scope) (v : Value) → IsWritable v → size v ≤ 65536 → value scope (literal v) ≡ Gives v
  literal_value scope (val.Int n) h s = refl
  literal_value scope (val.Bool b) h s = refl
  literal_value scope (val.Words text) h s = refl
  literal_value scope (val.Array vs) h s =
      ap (λ o. and_then o arrayed) (literal_values scope vs h (omega arith)) ∙ ap (λ us. within (val.Array us)) (values_of-list_of vs) ∙ within_size (val.Array vs) s
  literal_value scope (val.Record fs) h s =
      ap (λ o. and_then o recorded) (literal_named scope fs h.1 (omega arith)) ∙ ap (λ o. and_then o within) (record_made (fields_of fs) h.0) ∙ ap (λ gs. within (val.Record gs)) (named_of-fields_of fs) ∙ within_size (val.Record fs) s

  literal_values : (scope : Scope) (vs : Values) → AreWritable vs → size_of_values vs ≤ 65536 → values scope (literals vs) ≡ Gives (list_of vs)
  literal_values scope no_values h s = refl
  literal_values scope (value_then v vs) h s =
      ap (λ o. and_then o (λ u. and_then (values scope (literals vs)) (λ us. Gives (u ∷ us)))) (literal_value scope v h.0 (omega arith))
      ∙ ap (λ o. and_then o (λ us. Gives (v ∷ us))) (literal_values scope vs h.1 (omega arith))

  literal_named : (scope : Scope) (fs : Named) → HaveWritable fs → size_of_named fs ≤ 65536 → named_values scope (named_literals fs) ≡ Gives (fields_of fs)
  literal_named scope val.no_fields h s = refl
  literal_named scope (val.field_then name v fs) h s =
      ap (λ o. and_then o (λ u. and_then (named_values scope (named_literals fs)) (λ ps. Gives ((name, u) ∷ ps)))) (literal_value scope v h.0 (omega arith))
      ∙ ap (λ o. and_then o (λ ps. Gives ((name, v) ∷ ps))) (literal_named scope fs h.1 (omega arith))

-- a text reads as one tree
one_reading : (text : List ℕ) (s t : tree.Tree) → ReadsAs text s → ReadsAs text t → s ≡ t
one_reading text s t r q =
    let same = one_list r.1 q.1 in
    let a = whole_read r.0 s r.2 in
    let b = whole_read q.0 t q.2 in
    let P : List Word → Type 0 = λ ws. expression (length ws + 1) ws ≡ Some (s, []) in
    (some_pair_parts _ _ _ _ (sym (subst P same.0 a) ∙ b)).0

-- read as an expression, the printed text of a token comes to the token
pub token_comes_back : (scope : Scope) (v : Value) (t : tree.Tree) → IsWritable v → size v ≤ 65536 → ReadsAs (token.printed v) t → value scope t ≡ Gives v
token_comes_back scope v t h s r = ap (value scope) (one_reading (token.printed v) t (literal v) r (token_reads v h)) ∙ literal_value scope v h s
