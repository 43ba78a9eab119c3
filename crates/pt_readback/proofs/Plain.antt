-- A printed token stands on one line.
use Rattle.std.proofs.Common.{◌≡◌, ℕ, suc, pos, negsuc, List, [], ◌∷◌, ◌++◌, flat_map, true, false, not, ◌==◌, codes, All, refl, ap, ◌∙◌, arith}
use Rattle.std.proofs.lemmas.Bool.{cond_both}
use Rattle.std.proofs.lemmas.List.Elements.{All-head, All-tail}
use Rattle.std.specs.Fmt.{decimal}
use Rattle.pt_value.specs.Value as val
use Rattle.pt_value.specs.Value.{Value, Values, no_values, value_then, Named, fields_of}
use Rattle.pt_value.specs.Printed.{printed, each_printed, each_named, in_braces, separated_by, more_after, escaped}
use Rattle.pt_value.specs.Name.{IsName}
use Rattle.pt_value.specs.Record.{names}
use Rattle.pt_expr_print.specs.Literal.{IsWritable, AreWritable, HaveWritable}
use Rattle.pt_readback.specs.Token.{IsTokenValue}
use Rattle.pt_readback.proofs.Bytes.{Has, Lacks, has_append, number_name, name_in_path, path_lacks_end, name_form}

number_plain : (n : ℕ) → Lacks 10 (decimal n)
number_plain n = path_lacks_end (decimal n) (name_in_path (decimal n) (number_name n))

-- what is escaped
escaped_plain : (c : ℕ) → Lacks 10 (escaped c)
escaped_plain c =
    cond_both (c == 34) _ _ (Lacks 10) (λ _. refl) (λ _.
    cond_both (c == 92) _ _ (Lacks 10) (λ _. refl) (λ _.
    cond_both (c == 10) _ _ (Lacks 10) (λ _. refl) (λ n.
    cond_both (c == 9) _ _ (Lacks 10) (λ _. refl) (λ _.
    cond_both (c == 13) _ _ (Lacks 10) (λ _. refl) (λ _. one_plain c n)))))
  where
    one_plain : (c : ℕ) → (c == 10) ≡ false → Lacks 10 (c ∷ [])
    one_plain c e = rw e

text_plain : (xs : List ℕ) → Lacks 10 (flat_map escaped xs)
text_plain [] = refl
text_plain (c ∷ cs) = has_append _ (escaped c) (flat_map escaped cs) (escaped_plain c) (text_plain cs)

-- parts with commas between them, in braces
abbrev AllPlain : List (List ℕ) → Type 0
AllPlain [] = Unit {0}
AllPlain (x ∷ xs) = Lacks 10 x × AllPlain xs

more_plain : (xs : List (List ℕ)) → AllPlain xs → Lacks 10 (more_after (codes ", ") xs)
more_plain [] h = refl
more_plain (x ∷ xs) h = has_append _ x (more_after (codes ", ") xs) h.0 (more_plain xs h.1)

separated_plain : (xs : List (List ℕ)) → AllPlain xs → Lacks 10 (separated_by (codes ", ") xs)
separated_plain [] h = refl
separated_plain (x ∷ xs) h = has_append _ x (more_after (codes ", ") xs) h.0 (more_plain xs h.1)

braces_plain : (xs : List (List ℕ)) → AllPlain xs → Lacks 10 (in_braces xs)
braces_plain xs h = has_append _ (separated_by (codes ", ") xs) (codes "}") (separated_plain xs h) refl

mutual
  value_plain : (v : Value) → IsWritable v → Lacks 10 (printed v)
  value_plain (val.Int (pos n)) h = number_plain n
  value_plain (val.Int (negsuc n)) h = number_plain (suc n)
  value_plain (val.Bool true) h = refl
  value_plain (val.Bool false) h = refl
  value_plain (val.Words text) h = has_append _ (flat_map escaped text) (codes "\"") (text_plain text) refl
  value_plain (val.Array vs) h = braces_plain (each_printed vs) (values_plain vs h)
  value_plain (val.Record fs) h = braces_plain (each_named fs) (fields_plain fs h.0.named h.1)

  values_plain : (vs : Values) → AreWritable vs → AllPlain (each_printed vs)
  values_plain no_values h = tt
  values_plain (value_then v vs) h = (value_plain v h.0, values_plain vs h.1)

  fields_plain : (fs : Named) → All IsName (names (fields_of fs)) → HaveWritable fs → AllPlain (each_named fs)
  fields_plain val.no_fields n h = tt
  fields_plain (val.field_then name v fs) n h = (
    has_append _ name (codes " = " ++ printed v) (path_lacks_end name (name_in_path name (name_form name (n 0 [] (omega arith)).form))) (value_plain v h.0),
    fields_plain fs (λ i d short. n (suc i) d (omega arith)) h.1,
  )

pub printed_plain : (v : Value) → IsTokenValue v → Lacks 10 (printed v)
printed_plain v h = value_plain v h.written
