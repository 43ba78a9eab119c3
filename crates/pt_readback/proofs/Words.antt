-- The words of a value end it, wherever they are read.
use Rattle.std.proofs.Common.{◌≡◌, ℕ, suc, ◌<◌, ℤ, pos, negsuc, List, [], ◌∷◌, ◌++◌, length, drop, Bool, true, false, cond, Option, Some, None, Result, Ok, refl, sym, subst, ap, ◌∙◌, append_assoc, append-nil, arith}
use Rattle.std.specs.Prelude.{IsTrue, nat_lt, nat_le}
use Rattle.pt_value.specs.Value as val
use Rattle.pt_value.specs.Value.{Value, Values, no_values, value_then, Named, values_of, list_of, named_of, fields_of, values_of-list_of, named_of-fields_of}
use Rattle.pt_value.specs.Record.{IsRecord}
use Rattle.pt_language.specs.Meaning.{fits}
use Rattle.pt_language.specs.declared.word.Word.{Word}
use Rattle.pt_language.specs.declared.word.Word.TheVariants.{Digits, Quoted, Name}
use Rattle.pt_language.specs.declared.word.Word.TheVariants as word
use Rattle.pt_language.specs.declared.word.Symbol.TheVariants.{OpenBrace, CloseBrace, Comma, Assign, Minus}
use Rattle.pt_expr_print.specs.Literal.{literal, literals, named_literals, IsWritable, AreWritable, HaveWritable}
use Rattle.pt_expr_print.proofs.Written.{words, part_words, more_part_words, field_words, more_field_words}
use Rattle.pt_value.specs.Printed.{printed}
use Rattle.pt_language.specs.Words.{Splits}
use Rattle.pt_language.proofs.Same.{one_list}
use Rattle.pt_expr_print.proofs.Tokens.{token_words}
use Rattle.pt_readback.specs.Token.{IsTokenValue}
use Rattle.pt_readback.specs.declared.open.Open.{Open}
use Rattle.pt_readback.specs.declared.open.Open.TheVariants as list
use Rattle.pt_readback.specs.Reading.{Ends, at_end, begins, has, goes, closes, opened_after, before, Records}

-- no part begins as a field or as an end does
part_first : (v : Value) (ws : List Word) → IsWritable v → opened_after (words (literal v) ++ ws) ≡ Some (list.Array [], words (literal v) ++ ws)
part_first (val.Int (pos n)) ws h = refl
part_first (val.Int (negsuc n)) ws h = refl
part_first (val.Bool true) ws h = refl
part_first (val.Bool false) ws h = refl
part_first (val.Words text) ws h = refl
part_first (val.Array vs) ws h = refl
part_first (val.Record fs) ws h = refl

-- words within braces, and what follows them
closed_words : (a b : List Word) (c : Word) → (a ++ c ∷ []) ++ b ≡ a ++ c ∷ b
closed_words a b c = append_assoc a (c ∷ []) b

some_int : (b : Bool) (v : Value) (ws : List Word) → b ≡ true → before ws (cond b (Some v) None) ≡ Some (v, ws)
some_int true v ws e = refl
some_int false v ws e = cc

mutual
  pub ends : (w v : Value) (os : List Open) (rest : List Word) → IsWritable v → Ends w os (Some v) rest → Ends w os None (words (literal v) ++ rest)
  ends w (val.Int (pos n)) os rest h r = has refl (some_int (nat_lt n 0x8000_0000_0000_0000) (val.Int (pos n)) rest h) r
  ends w (val.Int (negsuc n)) os rest h r = has refl (some_int (nat_le (suc n) 0x8000_0000_0000_0000) (val.Int (negsuc n)) rest h) r
  ends w (val.Bool true) os rest h r = has refl refl r
  ends w (val.Bool false) os rest h r = has refl refl r
  ends w (val.Words text) os rest h r = has refl refl r
  ends w (val.Array no_values) os rest h r = has refl refl r
  ends w (val.Array (value_then v vs)) os rest h r =
      let a : List Word = words (literal v) in
      let b : List Word = more_part_words (literals vs) in
      let tail : List Word = b ++ word.Symbol CloseBrace ∷ rest in
      let e : ((a ++ b) ++ word.Symbol CloseBrace ∷ []) ++ rest ≡ a ++ tail = closed_words (a ++ b) rest (word.Symbol CloseBrace) ∙ append_assoc a b (word.Symbol CloseBrace ∷ rest) in
      let P : Values → Type 0 = λ us. Ends w os (Some (val.Array us)) rest in
      let q : Ends w (list.Array [] ∷ os) (Some v) tail = ends_parts w [] v vs os rest h.1 (subst P (sym (values_of-list_of (value_then v vs))) r) in
      let Q : List Word → Type 0 = λ ws. Ends w os None (word.Symbol OpenBrace ∷ ws) in
      subst Q (sym e) (begins (part_first v tail h.0) (ends w v (list.Array [] ∷ os) tail h.0 q))
  ends w (val.Record val.no_fields) os rest h r = let k = h.0.some in absurd (omega arith)
  ends w (val.Record (val.field_then name v fs)) os rest h r =
      let a : List Word = words (literal v) in
      let b : List Word = more_field_words (named_literals fs) in
      let tail : List Word = b ++ word.Symbol CloseBrace ∷ rest in
      let e : ((a ++ b) ++ word.Symbol CloseBrace ∷ []) ++ rest ≡ a ++ tail = closed_words (a ++ b) rest (word.Symbol CloseBrace) ∙ append_assoc a b (word.Symbol CloseBrace ∷ rest) in
      let P : Named → Type 0 = λ gs. Ends w os (Some (val.Record gs)) rest in
      let q : Ends w (list.Record [] name ∷ os) (Some v) tail = ends_fields w [] name v fs os rest h.1.1 h.0 (subst P (sym (named_of-fields_of (val.field_then name v fs))) r) in
      let Q : List Word → Type 0 = λ ws. Ends w os None (word.Symbol OpenBrace ∷ word.Name name ∷ word.Symbol Assign ∷ ws) in
      subst Q (sym e) (begins refl (ends w v (list.Record [] name ∷ os) tail h.1.0 q))

  -- the parts after one of them
  ends_parts : (w : Value) (vs : List Value) (v : Value) (more : Values) (os : List Open) (rest : List Word) → AreWritable more → Ends w os (Some (val.Array (values_of (vs ++ v ∷ list_of more)))) rest →
      Ends w (list.Array vs ∷ os) (Some v) (more_part_words (literals more) ++ word.Symbol CloseBrace ∷ rest)
  ends_parts w vs v no_values os rest h r = closes refl refl r
  ends_parts w vs v (value_then u more) os rest h r =
      let a : List Word = words (literal u) in
      let b : List Word = more_part_words (literals more) in
      let tail : List Word = b ++ word.Symbol CloseBrace ∷ rest in
      let P : List Value → Type 0 = λ us. Ends w os (Some (val.Array (values_of us))) rest in
      let q : Ends w (list.Array (vs ++ v ∷ []) ∷ os) (Some u) tail = ends_parts w (vs ++ v ∷ []) u more os rest h.1 (subst P (sym (append_assoc vs (v ∷ []) (u ∷ list_of more))) r) in
      let Q : List Word → Type 0 = λ ws. Ends w (list.Array vs ∷ os) (Some v) (word.Symbol Comma ∷ ws) in
      subst Q (sym (append_assoc a b (word.Symbol CloseBrace ∷ rest))) (goes refl refl refl (ends w u (list.Array (vs ++ v ∷ []) ∷ os) tail h.0 q))

  -- the fields after one of them
  ends_fields : (w : Value) (fs : List (List ℕ × Value)) (name : List ℕ) (v : Value) (more : Named) (os : List Open) (rest : List Word) → HaveWritable more → IsRecord (fs ++ (name, v) ∷ fields_of more) → Ends w os (Some (val.Record (named_of (fs ++ (name, v) ∷ fields_of more)))) rest →
      Ends w (list.Record fs name ∷ os) (Some v) (more_field_words (named_literals more) ++ word.Symbol CloseBrace ∷ rest)
  ends_fields w fs name v val.no_fields os rest h l r = closes refl (record { lawful = l; is = refl }) r
  ends_fields w fs name v (val.field_then next u more) os rest h l r =
      let a : List Word = words (literal u) in
      let b : List Word = more_field_words (named_literals more) in
      let tail : List Word = b ++ word.Symbol CloseBrace ∷ rest in
      let e : (fs ++ (name, v) ∷ []) ++ (next, u) ∷ fields_of more ≡ fs ++ (name, v) ∷ (next, u) ∷ fields_of more = append_assoc fs ((name, v) ∷ []) ((next, u) ∷ fields_of more) in
      let P : List (List ℕ × Value) → Type 0 = λ gs. Ends w os (Some (val.Record (named_of gs))) rest in
      let q : Ends w (list.Record (fs ++ (name, v) ∷ []) next ∷ os) (Some u) tail = ends_fields w (fs ++ (name, v) ∷ []) next u more os rest h.1 (subst IsRecord (sym e) l) (subst P (sym e) r) in
      let Q : List Word → Type 0 = λ ws. Ends w (list.Record fs name ∷ os) (Some v) (word.Symbol Comma ∷ word.Name next ∷ word.Symbol Assign ∷ ws) in
      subst Q (sym (append_assoc a b (word.Symbol CloseBrace ∷ rest))) (goes refl refl refl (ends w u (list.Record (fs ++ (name, v) ∷ []) next ∷ os) tail h.0 q))

-- the words of a value, alone
pub ends_alone : (v : Value) → IsWritable v → Ends v [] None (words (literal v))
ends_alone v h = let P : List Word → Type 0 = λ ws. Ends v [] None ws in subst P (append-nil (words (literal v))) (ends v v [] [] h at_end)

-- with no words left, the value is read and nothing is open
pub whole_some : (w v : Value) (os : List Open) → Ends w os (Some v) [] → (os ≡ []) × (v ≡ w)
whole_some w v [] at_end = (refl, refl)
whole_some w v (o ∷ os) (goes e f g r) = let k : None ≡ Some _ = f in cc
whole_some w v (o ∷ os) (closes e c r) = let k : None ≡ Some _ = e in cc

pub whole_none : (w : Value) (os : List Open) → Ends w os None [] → ⊥
whole_none w os (begins e r) = cc
whole_none w os (has e f r) = cc

-- with nothing open, no words follow
pub nothing_open : (w v : Value) (os : List Open) (ws : List Word) → os ≡ [] → Ends w os (Some v) ws → 0 < length ws → ⊥
nothing_open w v [] ws e at_end h = absurd (omega arith)
nothing_open w v (o ∷ os) ws e r h = cc

-- a list that loses nothing with its first is empty
pub none_first : {X : Type 0} (xs ys : List X) → xs ≡ ys → ys ≡ drop 1 xs → xs ≡ []
none_first [] ys e f = refl
none_first (x ∷ xs) ys e f = let k : length (x ∷ xs) ≡ length xs = ap length (e ∙ f) in absurd (omega arith)

-- the words of a printed value end it
pub ends_split : (v : Value) (text left : List ℕ) (ws : List Word) → IsTokenValue v → printed v ≡ text → Splits text ws left → Ends v [] None ws
ends_split v text left ws h e s =
    let P : List ℕ → Type 0 = λ t. Splits t (words (literal v)) [] in
    let q = one_list s (subst P e (token_words v h.written)) in
    let Q : List Word → Type 0 = λ us. Ends v [] None us in
    subst Q (sym q.0) (ends_alone v h.written)
