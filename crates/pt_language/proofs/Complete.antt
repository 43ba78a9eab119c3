-- What is in the grammar, the reader reads.
use Rattle.std.proofs.Common.{◌≡◌, ℕ, zero, suc, ◌+◌, ◌-◌, ◌<◌, ◌≤◌, ◌^◌, ◌⊎◌, inl, inr, List, [], ◌∷◌, ◌++◌, length, map, Bool, true, false, cond, eqb, ltb, leb, ◌||◌, Option, Some, None, option_map, codes, pos, neg_ℤ, refl, sym, ◌∙◌, ap, subst, append_assoc, append-nil, length-append, arith}
use Rattle.std.proofs.lemmas.Option.{some_pair_parts, none-some}
use Rattle.std.proofs.lemmas.Bool.Decides.{nat_tests}
use Rattle.std.specs.Cmp.Lexicographic.{pointwise}
use Rattle.std.specs.Prelude.{nat_eq}
use lib.Pointwise.{bytes_decides}
use Rattle.pt_language.specs.declared.expr.BinaryOp.{BinaryOp}
use Rattle.pt_language.specs.Tree.{Tree, Int, Words, Array, Record, Negate, Binary, Cond, Apply, Field, Length, Trees, NamedTrees, list_of, trees_of, named_of, fields_of, trees_of-list_of, named_of-fields_of, no_trees, tree_then, no_fields, field_then}
use Rattle.pt_language.specs.Tree as tree
use Rattle.pt_language.specs.declared.word.Word.{Word}
use Rattle.pt_language.specs.declared.word.Word.TheVariants.{Digits, Quoted}
use Rattle.pt_language.specs.declared.word.Word.TheVariants as word
use Rattle.pt_language.specs.declared.word.Symbol.{Symbol}
use Rattle.pt_language.specs.declared.word.Symbol.TheVariants.{True, False, Abs, Max, Min, Open, Close, OpenBrace, CloseBrace, Comma, Dot, Question, Colon, Assign, Not, Minus}
use Rattle.pt_language.specs.declared.level.Level.{Level}
use Rattle.pt_language.specs.declared.level.Level.TheVariants as level
use Rattle.pt_language.specs.Level.{operator_at, operator_of, binding, binding_at, binding_of, rank}
use Rattle.pt_language.specs.Symbol.{after, is_symbol, number}
use Rattle.pt_language.specs.Grammar.{Phrase, Reads, ReadsParts, ReadsFields, operand_of, MayRepeat, IsNegated, AllDiffer, IsAmong}
use Rattle.pt_language.specs.Grammar as g
use Rattle.pt_language.specs.Descent.{expression as reading}
use Rattle.pt_language.specs.Descent.{Read, Reader, ◌>>=◌, given, closed, repeated, operator_first, second, next_operand, at_level, behind_operand, operand_at, is_length, field_named, empty_call, suffix, next_suffix, suffix_first, one_operand, two_operands, listed, named, is_among, repeats_behind, has_repeated, begins_record, record_at, list_at, in_braces, primary, primary_symbol, postfix, bare_digits, unary, disjunction, chosen, choice}
use Rattle.pt_language.specs.Descent as d
use Rattle.pt_language.proofs.ReaderSteps.{bind_some, given_some, closed_some, after_some, is_symbol_true}
use Rattle.pt_language.proofs.Turns.{turn_stops, step_more, reading_more}
use Rattle.pt_language.proofs.ReaderSound.{some_words}

-- steps that succeed
bind_is : {A B : Type 0} (o : Option A) (f : A → Option B) (x : A) → o ≡ Some x → (o >>= f) ≡ f x
bind_is o f x e = ap (λ v. v >>= f) e

given_none : {A B : Type 0} (o : Option A) (y : B) (f : A → B) → o ≡ None → given o y f ≡ y
given_none o y f e = ap (λ v. given v y f) e

eqb_same : (m n : ℕ) → eqb m n ≡ true → m ≡ n
eqb_same m n e = grind (arith, nat_tests)

eqb_less : (m n : ℕ) → m < n → eqb m n ≡ false
eqb_less m n h = grind (arith, nat_tests)

-- a symbol that binds more tightly than the first word isn't there
not_after : (s : Symbol) (ws : List Word) → binding_at ws < binding_of s → after s ws ≡ None
not_after s [] h = refl
not_after s (w ∷ ws) h = by_test (is_symbol s w) refl
  where
    by_test : (b : Bool) → is_symbol s w ≡ b → cond b (Some ws) None ≡ None
    by_test true e = let q : binding w ≡ binding_of s = ap binding (is_symbol_true s w e) in absurd (omega arith)
    by_test false e = refl

-- what repeats: the first tree, the words behind it, and the turns from there to the whole
abbrev Turned : (Tree → List Word → Option Read) → Reader → List Word → Tree → List Word → Type 0
Turned next first all t rest = (x : Tree) × (y : List Word) × (c : ℕ) × (first all ≡ Some (x, y)) × (c + length rest ≤ length y) × ((turns : ℕ) → repeated next (c + turns) x y ≡ repeated next turns t rest)

start : (next : Tree → List Word → Option Read) (first : Reader) (all : List Word) (t : Tree) (rest : List Word) → first all ≡ Some (t, rest) → Turned next first all t rest
start next first all t rest e = (t, rest, 0, e, omega arith, λ turns. (let q : 0 + turns ≡ turns = omega arith in ap (λ k. repeated next k t rest) q))

further : (next : Tree → List Word → Option Read) (first : Reader) (all : List Word) (s t : Tree) (mid rest : List Word) (read : Read) → Turned next first all s mid → next s mid ≡ Some read → read ≡ Some (t, rest) → length rest < length mid → Turned next first all t rest
further next first all s t mid rest read r e f l =
    (r.0, r.1, r.2 + 1, r.3, (let k = r.4 in omega (arith, l, k)), λ turns. (let q : (r.2 + 1) + turns ≡ r.2 + suc turns = omega arith in ap (λ k. repeated next k r.0 r.1) q ∙ r.5 (suc turns) ∙ step_more next turns s t mid rest read e f))

finish : (next : Tree → List Word → Option Read) (first : Reader) (all : List Word) (t : Tree) (rest : List Word) → Turned next first all t rest → next t rest ≡ None → (first all >>= λ x. repeated next (length x.1) x.0 x.1) ≡ Some (t, rest)
finish next first all t rest r stop =
    let k = r.4 in
    let q : length r.1 ≡ r.2 + (length r.1 - r.2) = omega (arith, k) in
    bind_is (first all) (λ (x : Tree × List Word). repeated next (length x.1) x.0 x.1) (r.0, r.1) r.3
    ∙ ap (λ k. repeated next k r.0 r.1) q ∙ r.5 (length r.1 - r.2) ∙ turn_stops next (length r.1 - r.2) t rest stop

-- what the reader makes of words that a phrase has, before words that don't go on with it
abbrev pub Complete : Phrase → List Word → Tree → Type 0
Complete g.expression ws t = (depth : ℕ) → length ws ≤ depth → (rest : List Word) → binding_at rest < 1 → choice (reading depth) (ws ++ rest) ≡ Some (t, rest)
Complete (g.operators l) ws t = (depth : ℕ) → length ws ≤ depth → (rest : List Word) →
    (binding_at rest < rank l → at_level l (operand_at l (reading depth)) (ws ++ rest) ≡ Some (t, rest))
    × (MayRepeat l → binding_at rest ≤ rank l → Turned (next_operand l (operand_at l (reading depth))) (operand_at l (reading depth)) (ws ++ rest) t rest)
Complete g.unary ws t = (depth : ℕ) → length ws ≤ depth → (rest : List Word) → binding_at rest < 8 → unary (reading depth) (ws ++ rest) ≡ Some (t, rest)
Complete g.postfix ws t = (depth : ℕ) → length ws ≤ depth → (rest : List Word) → empty_call rest ≡ None → Turned (next_suffix (reading depth)) (primary (reading depth)) (ws ++ rest) t rest
Complete g.primary ws t = (depth : ℕ) → length ws ≤ depth → (rest : List Word) → primary (reading depth) (ws ++ rest) ≡ Some (t, rest)

-- an expression within others
inside : (ws : List Word) (t : Tree) → Complete g.expression ws t → (depth : ℕ) → length ws < depth → (rest : List Word) → binding_at rest < 1 → reading depth (ws ++ rest) ≡ Some (t, rest)
inside ws t h depth k rest s = reading_more depth (ws ++ rest) (omega arith) ∙ h (depth - 1) (omega arith) rest s

-- choices
plain_read : (ws : List Word) (t : Tree) → Complete (g.operators level.Or) ws t → Complete g.expression ws t
plain_read ws t h depth k rest s =
    bind_is (disjunction (reading depth) (ws ++ rest)) (λ (x : Tree × List Word). chosen (reading depth) x.0 x.1) (t, rest) ((h depth k rest).0 (omega arith))
    ∙ given_none (after Question rest) (Some (t, rest)) (λ (v : List Word). reading depth v >>= λ yes. after Colon yes.1 >>= λ more. reading depth more >>= λ n. Some (Cond t yes.0 n.0, n.1)) (not_after Question rest s)

condition_read : (a b e : List Word) (c t u : Tree) → Complete (g.operators level.Or) a c → Complete g.expression b t → Complete g.expression e u
    → Complete g.expression (a ++ word.Symbol Question ∷ (b ++ word.Symbol Colon ∷ e)) (Cond c t u)
condition_read a b e c t u h i j depth k rest s =
    let all : (a ++ word.Symbol Question ∷ (b ++ word.Symbol Colon ∷ e)) ++ rest ≡ a ++ word.Symbol Question ∷ (b ++ word.Symbol Colon ∷ (e ++ rest)) = simp append_assoc in
    let la = length-append a (word.Symbol Question ∷ (b ++ word.Symbol Colon ∷ e)) in
    let lb = length-append b (word.Symbol Colon ∷ e) in
    let x = (h depth (omega (arith, la, lb)) (word.Symbol Question ∷ (b ++ word.Symbol Colon ∷ (e ++ rest)))).0 (omega arith) in
    let y = inside b t i depth (omega (arith, la, lb)) (word.Symbol Colon ∷ (e ++ rest)) (omega arith) in
    let z = inside e u j depth (omega (arith, la, lb)) rest s in
    ap (choice (reading depth)) all
    ∙ bind_is (disjunction (reading depth) (a ++ word.Symbol Question ∷ (b ++ word.Symbol Colon ∷ (e ++ rest)))) (λ (x : Tree × List Word). chosen (reading depth) x.0 x.1) _ x
    ∙ bind_is (reading depth (b ++ word.Symbol Colon ∷ (e ++ rest))) (λ (yes : Tree × List Word). after Colon yes.1 >>= λ more. reading depth more >>= λ n. Some (Cond c yes.0 n.0, n.1)) _ y
    ∙ bind_is (reading depth (e ++ rest)) (λ (n : Tree × List Word). Some (Cond c t n.0, n.1)) _ z

-- levels
cond_true : {A : Type 0} (b : Bool) (x : Option A) (y : A) → cond b x None ≡ Some y → b ≡ true
cond_true true x y e = refl
cond_true false x y e = cc

operator_binding : (l : Level) (w : Word) (o : BinaryOp) → operator_at l w ≡ Some o → binding w ≡ rank l
operator_binding l (Digits n) o e = cc
operator_binding l (Quoted text) o e = cc
operator_binding l (word.Name name) o e = cc
operator_binding l (word.Symbol s) o e = eqb_same _ _ (cond_true (eqb (binding_of s) (rank l)) (operator_of s) o e)

operator_none : (l : Level) (ws : List Word) → binding_at ws < rank l → operator_first l ws ≡ None
operator_none l [] h = refl
operator_none l (Digits n ∷ ws) h = refl
operator_none l (Quoted text ∷ ws) h = refl
operator_none l (word.Name name ∷ ws) h = refl
operator_none l (word.Symbol s ∷ ws) h = ap (λ b. option_map (λ (op : BinaryOp). (op, ws)) (cond b (operator_of s) None)) (eqb_less (binding_of s) (rank l) h)

next_none : (l : Level) (operand : Reader) (t : Tree) (ws : List Word) → binding_at ws < rank l → next_operand l operand t ws ≡ None
next_none l operand t ws h = ap (option_map (λ (o : BinaryOp × List Word). second operand o.0 t o.1)) (operator_none l ws h)

next_is : (l : Level) (operand : Reader) (t : Tree) (w : Word) (o : BinaryOp) (ws : List Word) → operator_at l w ≡ Some o → next_operand l operand t (w ∷ ws) ≡ Some (second operand o t ws)
next_is l operand t w o ws e = ap (λ v. option_map (λ (o : BinaryOp × List Word). second operand o.0 t o.1) (option_map (λ (op : BinaryOp). (op, ws)) v)) e

second_is : (operand : Reader) (o : BinaryOp) (s t : Tree) (ws rest : List Word) → operand ws ≡ Some (t, rest) → second operand o s ws ≡ Some (Binary o s t, rest)
second_is operand o s t ws rest e = bind_is (operand ws) (λ (right : Tree × List Word). Some (Binary o s right.0, right.1)) (t, rest) e

stops_behind : (l : Level) (operand : Reader) (t : Tree) (rest : List Word) → binding_at rest < rank l → behind_operand l operand t rest ≡ Some (t, rest)
stops_behind level.Or operand t rest s = turn_stops (next_operand level.Or operand) (length rest) t rest (next_none level.Or operand t rest s)
stops_behind level.And operand t rest s = turn_stops (next_operand level.And operand) (length rest) t rest (next_none level.And operand t rest s)
stops_behind level.Equality operand t rest s = turn_stops (next_operand level.Equality operand) (length rest) t rest (next_none level.Equality operand t rest s)
stops_behind level.Comparison operand t rest s = given_none (next_operand level.Comparison operand t rest) (Some (t, rest)) (λ (read : Read). read) (next_none level.Comparison operand t rest s)
stops_behind level.Sum operand t rest s = turn_stops (next_operand level.Sum operand) (length rest) t rest (next_none level.Sum operand t rest s)
stops_behind level.Term operand t rest s = turn_stops (next_operand level.Term operand) (length rest) t rest (next_none level.Term operand t rest s)

one_at : (l : Level) (operand : Reader) (all : List Word) (t : Tree) (rest : List Word) → binding_at rest < rank l → operand all ≡ Some (t, rest) → at_level l operand all ≡ Some (t, rest)
one_at l operand all t rest s e = bind_is (operand all) (λ (first : Tree × List Word). behind_operand l operand first.0 first.1) (t, rest) e ∙ stops_behind l operand t rest s

more_at : (l : Level) → MayRepeat l → (operand : Reader) (all : List Word) (t : Tree) (rest : List Word) → binding_at rest < rank l → Turned (next_operand l operand) operand all t rest → at_level l operand all ≡ Some (t, rest)
more_at level.Or m operand all t rest s r = finish (next_operand level.Or operand) operand all t rest r (next_none level.Or operand t rest s)
more_at level.And m operand all t rest s r = finish (next_operand level.And operand) operand all t rest r (next_none level.And operand t rest s)
more_at level.Equality m operand all t rest s r = finish (next_operand level.Equality operand) operand all t rest r (next_none level.Equality operand t rest s)
more_at level.Comparison m operand all t rest s r = absurd m
more_at level.Sum m operand all t rest s r = finish (next_operand level.Sum operand) operand all t rest r (next_none level.Sum operand t rest s)
more_at level.Term m operand all t rest s r = finish (next_operand level.Term operand) operand all t rest r (next_none level.Term operand t rest s)

by_operand : (l : Level) (ws : List Word) (t : Tree) → Complete (operand_of l) ws t → (depth : ℕ) → length ws ≤ depth → (rest : List Word) → binding_at rest ≤ rank l → operand_at l (reading depth) (ws ++ rest) ≡ Some (t, rest)
by_operand level.Or ws t h depth k rest s = (h depth k rest).0 (omega (arith, s))
by_operand level.And ws t h depth k rest s = (h depth k rest).0 (omega (arith, s))
by_operand level.Equality ws t h depth k rest s = (h depth k rest).0 (omega (arith, s))
by_operand level.Comparison ws t h depth k rest s = (h depth k rest).0 (omega (arith, s))
by_operand level.Sum ws t h depth k rest s = (h depth k rest).0 (omega (arith, s))
by_operand level.Term ws t h depth k rest s = h depth k rest (omega (arith, s))

operand_read : (l : Level) (ws : List Word) (t : Tree) → Complete (operand_of l) ws t → Complete (g.operators l) ws t
operand_read l ws t h depth k rest = (
  λ s. one_at l (operand_at l (reading depth)) (ws ++ rest) t rest s (by_operand l ws t h depth k rest (omega (arith, s))),
  λ m s. start (next_operand l (operand_at l (reading depth))) (operand_at l (reading depth)) (ws ++ rest) t rest (by_operand l ws t h depth k rest s),
)

grouped_turns : (l : Level) (a b : List Word) (w : Word) (s t : Tree) (o : BinaryOp) → MayRepeat l → Complete (g.operators l) a s → operator_at l w ≡ Some o → Complete (operand_of l) b t
    → (depth : ℕ) → length (a ++ w ∷ b) ≤ depth → (rest : List Word) → binding_at rest ≤ rank l → Turned (next_operand l (operand_at l (reading depth))) (operand_at l (reading depth)) ((a ++ w ∷ b) ++ rest) (Binary o s t) rest
grouped_turns l a b w s t o m h e i depth k rest q =
    let all : a ++ w ∷ (b ++ rest) ≡ (a ++ w ∷ b) ++ rest = simp append_assoc in
    let la = length-append a (w ∷ b) in
    let lb = length-append b rest in
    let v = operator_binding l w o e in
    let r = (h depth (omega (arith, la)) (w ∷ (b ++ rest))).1 m (omega (arith, v)) in
    let x = by_operand l b t i depth (omega (arith, la)) rest q in
    let P : List Word → Type 0 = λ ws. Turned (next_operand l (operand_at l (reading depth))) (operand_at l (reading depth)) ws (Binary o s t) rest in
    subst P all (further (next_operand l (operand_at l (reading depth))) (operand_at l (reading depth)) (a ++ w ∷ (b ++ rest)) s (Binary o s t) (w ∷ (b ++ rest)) rest (second (operand_at l (reading depth)) o s (b ++ rest)) r
    (next_is l (operand_at l (reading depth)) s w o (b ++ rest) e) (second_is (operand_at l (reading depth)) o s t (b ++ rest) rest x) (omega (arith, lb)))

grouped_read : (l : Level) (a b : List Word) (w : Word) (s t : Tree) (o : BinaryOp) → MayRepeat l → Complete (g.operators l) a s → operator_at l w ≡ Some o → Complete (operand_of l) b t → Complete (g.operators l) (a ++ w ∷ b) (Binary o s t)
grouped_read l a b w s t o m h e i depth k rest = (
  λ q. more_at l m (operand_at l (reading depth)) ((a ++ w ∷ b) ++ rest) (Binary o s t) rest q (grouped_turns l a b w s t o m h e i depth k rest (omega (arith, q))),
  λ m q. grouped_turns l a b w s t o m h e i depth k rest q,
)

compared_read : (a b : List Word) (w : Word) (s t : Tree) (o : BinaryOp) → Complete (g.operators level.Sum) a s → operator_at level.Comparison w ≡ Some o → Complete (g.operators level.Sum) b t → Complete (g.operators level.Comparison) (a ++ w ∷ b) (Binary o s t)
compared_read a b w s t o h e i depth k rest =
    let all : (a ++ w ∷ b) ++ rest ≡ a ++ w ∷ (b ++ rest) = simp append_assoc in
    let la = length-append a (w ∷ b) in
    let v : binding w ≡ 5 = operator_binding level.Comparison w o e in (
      λ q.
          let x = (h depth (omega (arith, la)) (w ∷ (b ++ rest))).0 (omega (arith, v)) in
          let y = (i depth (omega (arith, la)) rest).0 (omega (arith, q)) in
          ap (at_level level.Comparison (d.sum (reading depth))) all
          ∙ bind_is (d.sum (reading depth) (a ++ w ∷ (b ++ rest))) (λ (first : Tree × List Word). behind_operand level.Comparison (d.sum (reading depth)) first.0 first.1) (s, w ∷ (b ++ rest)) x
          ∙ ap (λ (n : Option Read). given n (Some (s, w ∷ (b ++ rest))) (λ (read : Read). read)) (next_is level.Comparison (d.sum (reading depth)) s w o (b ++ rest) e)
          ∙ second_is (d.sum (reading depth)) o s t (b ++ rest) rest y,
      λ m q. absurd m,
    )

-- what doesn't begin an expression
not_first : (s : Symbol) (again : Reader) → ((ws : List Word) → choice again (word.Symbol s ∷ ws) ≡ None) → (ws : List Word) (read : Tree × List Word) → choice again ws ≡ Some read → after s ws ≡ None
not_first s again h [] read e = refl
not_first s again h (w ∷ ws) read e = by_test (is_symbol s w) refl
  where
    by_test : (b : Bool) → is_symbol s w ≡ b → cond b (Some ws) None ≡ None
    by_test true q =
        let x : choice again (word.Symbol s ∷ ws) ≡ Some read = ap (λ v. choice again (v ∷ ws)) (sym (is_symbol_true s w q)) ∙ e in
        absurd (none-some read (sym (h ws) ∙ x))
    by_test false q = refl

not_close : (again : Reader) (ws : List Word) (read : Tree × List Word) → choice again ws ≡ Some read → after Close ws ≡ None
not_close again ws read e = not_first Close again (λ v. refl) ws read e

not_close_brace : (again : Reader) (ws : List Word) (read : Tree × List Word) → choice again ws ≡ Some read → after CloseBrace ws ≡ None
not_close_brace again ws read e = not_first CloseBrace again (λ v. refl) ws read e

-- calls and fields
alone_read : (ws : List Word) (t : Tree) → Complete g.primary ws t → Complete g.postfix ws t
alone_read ws t h depth k rest n = start (next_suffix (reading depth)) (primary (reading depth)) (ws ++ rest) t rest (h depth k rest)

no_empty_call : (depth : ℕ) (ws rest : List Word) (read : Tree × List Word) → 0 < depth → reading depth ws ≡ Some read → empty_call (word.Symbol Open ∷ ws) ≡ None
no_empty_call depth ws rest read h e = not_close (reading (depth - 1)) ws read (sym (reading_more depth ws h) ∙ e)

applied_read : (a b : List Word) (s t : Tree) → Complete g.postfix a s → Complete g.expression b t → Complete g.postfix (a ++ word.Symbol Open ∷ (b ++ word.Symbol Close ∷ [])) (Apply s t)
applied_read a b s t h i depth k rest n =
    let all : a ++ word.Symbol Open ∷ (b ++ word.Symbol Close ∷ rest) ≡ (a ++ word.Symbol Open ∷ (b ++ word.Symbol Close ∷ [])) ++ rest = simp append_assoc in
    let la = length-append a (word.Symbol Open ∷ (b ++ word.Symbol Close ∷ [])) in
    let lb = length-append b (word.Symbol Close ∷ []) in
    let lc = length-append b (word.Symbol Close ∷ rest) in
    let x = inside b t i depth (omega (arith, la, lb)) (word.Symbol Close ∷ rest) (omega arith) in
    let r = h depth (omega (arith, la, lb)) (word.Symbol Open ∷ (b ++ word.Symbol Close ∷ rest)) (no_empty_call depth (b ++ word.Symbol Close ∷ rest) rest _ (omega (arith, la, lb)) x) in
    let P : List Word → Type 0 = λ ws. Turned (next_suffix (reading depth)) (primary (reading depth)) ws (Apply s t) rest in
    subst P all (further (next_suffix (reading depth)) (primary (reading depth)) (a ++ word.Symbol Open ∷ (b ++ word.Symbol Close ∷ rest)) s (Apply s t) (word.Symbol Open ∷ (b ++ word.Symbol Close ∷ rest)) rest (suffix (reading depth) s (word.Symbol Open ∷ (b ++ word.Symbol Close ∷ rest))) r
    refl (bind_is (reading depth (b ++ word.Symbol Close ∷ rest)) (λ (index : Tree × List Word). closed Close (Apply s index.0) index.1) _ x) (omega (arith, lc)))

field_is : (base : Tree) (n : List ℕ) (ws : List Word) → empty_call ws ≡ None → ◌≡◌ {A = Read} (Some (field_named base n ws)) (Some (Field base n, ws))
field_is base n ws e = by_name (is_length n)
  where
    by_name : (q : Bool) → ◌≡◌ {A = Read} (Some (cond q (given (empty_call ws) (Field base n, ws) (λ (rest : List Word). (Length base, rest))) (Field base n, ws))) (Some (Field base n, ws))
    by_name true = ap Some (given_none (empty_call ws) (Field base n, ws) (λ (rest : List Word). (Length base, rest)) e)
    by_name false = refl

field_read : (a : List Word) (t : Tree) (n : List ℕ) → Complete g.postfix a t → Complete g.postfix (a ++ word.Symbol Dot ∷ word.Name n ∷ []) (Field t n)
field_read a t n h depth k rest q =
    let all : a ++ word.Symbol Dot ∷ word.Name n ∷ rest ≡ (a ++ word.Symbol Dot ∷ word.Name n ∷ []) ++ rest = simp append_assoc in
    let la = length-append a (word.Symbol Dot ∷ word.Name n ∷ []) in
    let r = h depth (omega (arith, la)) (word.Symbol Dot ∷ word.Name n ∷ rest) refl in
    let P : List Word → Type 0 = λ ws. Turned (next_suffix (reading depth)) (primary (reading depth)) ws (Field t n) rest in
    subst P all (further (next_suffix (reading depth)) (primary (reading depth)) (a ++ word.Symbol Dot ∷ word.Name n ∷ rest) t (Field t n) (word.Symbol Dot ∷ word.Name n ∷ rest) rest (suffix (reading depth) t (word.Symbol Dot ∷ word.Name n ∷ rest)) r
    refl (field_is t n rest q) (omega arith))

length_read : (a : List Word) (t : Tree) → Complete g.postfix a t → Complete g.postfix (a ++ word.Symbol Dot ∷ word.Name (codes "length") ∷ word.Symbol Open ∷ word.Symbol Close ∷ []) (Length t)
length_read a t h depth k rest q =
    let all : a ++ word.Symbol Dot ∷ word.Name (codes "length") ∷ word.Symbol Open ∷ word.Symbol Close ∷ rest ≡ (a ++ word.Symbol Dot ∷ word.Name (codes "length") ∷ word.Symbol Open ∷ word.Symbol Close ∷ []) ++ rest = simp append_assoc in
    let la = length-append a (word.Symbol Dot ∷ word.Name (codes "length") ∷ word.Symbol Open ∷ word.Symbol Close ∷ []) in
    let r = h depth (omega (arith, la)) (word.Symbol Dot ∷ word.Name (codes "length") ∷ word.Symbol Open ∷ word.Symbol Close ∷ rest) refl in
    let P : List Word → Type 0 = λ ws. Turned (next_suffix (reading depth)) (primary (reading depth)) ws (Length t) rest in
    subst P all (further (next_suffix (reading depth)) (primary (reading depth)) (a ++ word.Symbol Dot ∷ word.Name (codes "length") ∷ word.Symbol Open ∷ word.Symbol Close ∷ rest) t (Length t) (word.Symbol Dot ∷ word.Name (codes "length") ∷ word.Symbol Open ∷ word.Symbol Close ∷ rest) rest (suffix (reading depth) t (word.Symbol Dot ∷ word.Name (codes "length") ∷ word.Symbol Open ∷ word.Symbol Close ∷ rest)) r
    refl refl (omega arith))

postfix_whole : (ws : List Word) (t : Tree) → Complete g.postfix ws t → (depth : ℕ) → length ws ≤ depth → (rest : List Word) → binding_at rest < 8 → postfix (reading depth) (ws ++ rest) ≡ Some (t, rest)
postfix_whole ws t h depth k rest s =
    let n : after Open rest ≡ None = not_after Open rest s in
    let m : empty_call rest ≡ None = ap (λ (o : Option (List Word)). o >>= λ inner. after Close inner) n in
    let q : next_suffix (reading depth) t rest ≡ None = ap (λ b. option_map (λ v. suffix (reading depth) t v) (cond b (Some rest) None)) (eqb_less (binding_at rest) 8 s) in
    finish (next_suffix (reading depth)) (primary (reading depth)) (ws ++ rest) t rest (h depth k rest m) q

-- signs
unsigned_by : (again : Reader) (ws : List Word) (read : Tree × List Word) → postfix again ws ≡ Some read → unary again ws ≡ Some read
unsigned_by again [] read e = cc
unsigned_by again (w ∷ ws) read e = by_test (is_symbol Minus w) (is_symbol Not w) refl refl
  where
    never : (s : Symbol) → postfix again (word.Symbol s ∷ ws) ≡ None → is_symbol s w ≡ true → ⊥
    never s n p = none-some read (sym n ∙ ap (λ v. postfix again (v ∷ ws)) (sym (is_symbol_true s w p)) ∙ e)

    by_test : (a b : Bool) → is_symbol Minus w ≡ a → is_symbol Not w ≡ b
        → cond a (d.minus again ws) (cond b (unary again ws >>= λ (operand : Tree × List Word). Some (tree.Not operand.0, operand.1)) (postfix again (w ∷ ws))) ≡ Some read
    by_test true b p q = absurd (never Minus refl p)
    by_test false true p q = absurd (never Not refl q)
    by_test false false p q = e

unsigned_read : (ws : List Word) (t : Tree) → Complete g.postfix ws t → Complete g.unary ws t
unsigned_read ws t h depth k rest s = unsigned_by (reading depth) (ws ++ rest) (t, rest) (postfix_whole ws t h depth k rest s)

small_negative : (n : ℕ) → n ≤ 2 ^ 63 → d.negative n ≡ Some (Int (neg_ℤ (pos n)))
small_negative n l =
    let b : leb n 0x8000_0000_0000_0000 ≡ true = grind (arith, nat_tests) in
    ap (λ b. cond b (Some (Int (neg_ℤ (pos n)))) None) b

negative_read : (n : ℕ) → n ≤ 2 ^ 63 → Complete g.unary (word.Symbol Minus ∷ Digits n ∷ []) (Int (neg_ℤ (pos n)))
negative_read n l depth k rest s =
    ap (λ b. given (cond b None (Some (n, rest))) (unary (reading depth) (Digits n ∷ rest) >>= λ (operand : Tree × List Word). Some (Negate operand.0, operand.1)) (λ (x : ℕ × List Word). d.negative x.0 >>= λ t. Some (t, x.1))) (eqb_less (binding_at rest) 8 s)
    ∙ bind_is (d.negative n) (λ (t : Tree). Some (t, rest)) _ (small_negative n l)

not_bare_by : (ws rest : List Word) → 0 < length ws → IsNegated ws → bare_digits (ws ++ rest) ≡ None
not_bare_by [] rest l h = absurd (omega arith)
not_bare_by (Digits n ∷ []) rest l h = absurd h
not_bare_by (Digits n ∷ w ∷ ws) rest l h =
    let b : eqb (binding w) 8 ≡ true = grind (arith, nat_tests) in
    ap (λ b. cond b None (Some (n, w ∷ (ws ++ rest)))) b
not_bare_by (Quoted text ∷ ws) rest l h = refl
not_bare_by (word.Name name ∷ ws) rest l h = refl
not_bare_by (word.Symbol s ∷ ws) rest l h = refl

negated_read : (ws : List Word) (t : Tree) → 0 < length ws → IsNegated ws → Complete g.unary ws t → Complete g.unary (word.Symbol Minus ∷ ws) (Negate t)
negated_read ws t l m h depth k rest s =
    given_none (bare_digits (ws ++ rest)) (unary (reading depth) (ws ++ rest) >>= λ (operand : Tree × List Word). Some (Negate operand.0, operand.1)) (λ (x : ℕ × List Word). d.negative x.0 >>= λ t. Some (t, x.1)) (not_bare_by ws rest l m)
    ∙ bind_is (unary (reading depth) (ws ++ rest)) (λ (operand : Tree × List Word). Some (Negate operand.0, operand.1)) _ (h depth (omega arith) rest s)

denied_read : (ws : List Word) (t : Tree) → Complete g.unary ws t → Complete g.unary (word.Symbol Not ∷ ws) (tree.Not t)
denied_read ws t h depth k rest s = bind_is (unary (reading depth) (ws ++ rest)) (λ (operand : Tree × List Word). Some (tree.Not operand.0, operand.1)) _ (h depth (omega arith) rest s)

-- primaries
digits_read : (n : ℕ) → n < 2 ^ 63 → Complete g.primary (Digits n ∷ []) (Int (pos n))
digits_read n l depth k rest =
    let b : ltb n 0x8000_0000_0000_0000 ≡ true = grind (arith, nat_tests) in
    ap (λ b. cond b (Some (Int (pos n))) None >>= λ (t : Tree). Some (t, rest)) b

behind_close : (ws rest : List Word) (w : Word) → (ws ++ w ∷ []) ++ rest ≡ ws ++ w ∷ rest
behind_close ws rest w = simp append_assoc

parentheses_read : (ws : List Word) (t : Tree) → Complete g.expression ws t → Complete g.primary (word.Symbol Open ∷ (ws ++ word.Symbol Close ∷ [])) t
parentheses_read ws t h depth k rest =
    let l = length-append ws (word.Symbol Close ∷ []) in
    ap (λ v. primary_symbol (reading depth) Open v) (behind_close ws rest (word.Symbol Close))
    ∙ bind_is (reading depth (ws ++ word.Symbol Close ∷ rest)) (λ (inner : Tree × List Word). closed Close inner.0 inner.1) _ (inside ws t h depth (omega (arith, l)) (word.Symbol Close ∷ rest) (omega arith))

one_is : (depth : ℕ) (ws : List Word) (t : Tree) (rest : List Word) → Complete g.expression ws t → length ws < depth → one_operand (reading depth) (word.Symbol Open ∷ (ws ++ word.Symbol Close ∷ rest)) ≡ Some (t, rest)
one_is depth ws t rest h k = bind_is (reading depth (ws ++ word.Symbol Close ∷ rest)) (λ (inner : Tree × List Word). closed Close inner.0 inner.1) _ (inside ws t h depth k (word.Symbol Close ∷ rest) (omega arith))

absolute_read : (ws : List Word) (t : Tree) → Complete g.expression ws t → Complete g.primary (word.Symbol Abs ∷ word.Symbol Open ∷ (ws ++ word.Symbol Close ∷ [])) (tree.Abs t)
absolute_read ws t h depth k rest =
    let l = length-append ws (word.Symbol Close ∷ []) in
    ap (λ v. d.absolute (reading depth) (word.Symbol Open ∷ v)) (behind_close ws rest (word.Symbol Close))
    ∙ bind_is (one_operand (reading depth) (word.Symbol Open ∷ (ws ++ word.Symbol Close ∷ rest))) (λ (a : Tree × List Word). Some (tree.Abs a.0, a.1)) _ (one_is depth ws t rest h (omega (arith, l)))

two_is : (depth : ℕ) (a b : List Word) (s t : Tree) (rest : List Word) → Complete g.expression a s → Complete g.expression b t → length a < depth → length b < depth
    → two_operands (reading depth) (word.Symbol Open ∷ ((a ++ word.Symbol Comma ∷ (b ++ word.Symbol Close ∷ [])) ++ rest)) ≡ Some ((s, t), rest)
two_is depth a b s t rest h i k l =
    let all : (a ++ word.Symbol Comma ∷ (b ++ word.Symbol Close ∷ [])) ++ rest ≡ a ++ word.Symbol Comma ∷ (b ++ word.Symbol Close ∷ rest) = simp append_assoc in
    ap (λ v. two_operands (reading depth) (word.Symbol Open ∷ v)) all
    ∙ bind_is (reading depth (a ++ word.Symbol Comma ∷ (b ++ word.Symbol Close ∷ rest))) (λ (a : Tree × List Word). after Comma a.1 >>= λ more. reading depth more >>= λ b. closed Close (a.0, b.0) b.1) _ (inside a s h depth k (word.Symbol Comma ∷ (b ++ word.Symbol Close ∷ rest)) (omega arith))
    ∙ bind_is (reading depth (b ++ word.Symbol Close ∷ rest)) (λ (b : Tree × List Word). closed Close (s, b.0) b.1) _ (inside b t i depth l (word.Symbol Close ∷ rest) (omega arith))

greater_read : (a b : List Word) (s t : Tree) → Complete g.expression a s → Complete g.expression b t → Complete g.primary (word.Symbol Max ∷ word.Symbol Open ∷ (a ++ word.Symbol Comma ∷ (b ++ word.Symbol Close ∷ []))) (tree.Max s t)
greater_read a b s t h i depth k rest =
    let la = length-append a (word.Symbol Comma ∷ (b ++ word.Symbol Close ∷ [])) in
    let lb = length-append b (word.Symbol Close ∷ []) in
    bind_is (two_operands (reading depth) (word.Symbol Open ∷ ((a ++ word.Symbol Comma ∷ (b ++ word.Symbol Close ∷ [])) ++ rest))) (λ (both : (Tree × Tree) × List Word). Some (tree.Max both.0.0 both.0.1, both.1)) _ (two_is depth a b s t rest h i (omega (arith, la, lb)) (omega (arith, la, lb)))

lesser_read : (a b : List Word) (s t : Tree) → Complete g.expression a s → Complete g.expression b t → Complete g.primary (word.Symbol Min ∷ word.Symbol Open ∷ (a ++ word.Symbol Comma ∷ (b ++ word.Symbol Close ∷ []))) (tree.Min s t)
lesser_read a b s t h i depth k rest =
    let la = length-append a (word.Symbol Comma ∷ (b ++ word.Symbol Close ∷ [])) in
    let lb = length-append b (word.Symbol Close ∷ []) in
    bind_is (two_operands (reading depth) (word.Symbol Open ∷ ((a ++ word.Symbol Comma ∷ (b ++ word.Symbol Close ∷ [])) ++ rest))) (λ (both : (Tree × Tree) × List Word). Some (tree.Min both.0.0 both.0.1, both.1)) _ (two_is depth a b s t rest h i (omega (arith, la, lb)) (omega (arith, la, lb)))

-- lists and records
abbrev pub CompleteParts : List Word → Trees → Type 0
CompleteParts ws ts = (depth : ℕ) → length ws < depth → (turns : ℕ) → length ws < turns → (rest : List Word) → listed (reading depth) turns (ws ++ word.Symbol CloseBrace ∷ rest) ≡ Some (list_of ts, rest)

abbrev pub CompleteFields : List Word → NamedTrees → Type 0
CompleteFields ws fs = (depth : ℕ) → length ws < depth → (turns : ℕ) → length ws < turns → (rest : List Word) → listed (named (reading depth)) turns (ws ++ word.Symbol CloseBrace ∷ rest) ≡ Some (fields_of fs, rest)

module _ {A : Type 0} (one : List Word → Option (A × List Word)) where
  abbrev behind_one : ℕ → A × List Word → Option (List A × List Word)
  behind_one turns first = given (after Comma first.1) (closed CloseBrace (first.0 ∷ []) first.1) (λ rest. listed one turns rest >>= λ others. Some (first.0 ∷ others.0, others.1))

  last_listed : (turns : ℕ) (ws : List Word) (x : A) (rest : List Word) → 0 < turns → one ws ≡ Some (x, word.Symbol CloseBrace ∷ rest) → listed one turns ws ≡ Some (x ∷ [], rest)
  last_listed zero ws x rest l e = absurd (omega arith)
  last_listed (suc turns) ws x rest l e = bind_is (one ws) (behind_one turns) _ e

  then_listed : (turns : ℕ) (ws : List Word) (x : A) (more : List Word) (xs : List A) (rest : List Word) → one ws ≡ Some (x, word.Symbol Comma ∷ more) → listed one turns more ≡ Some (xs, rest) → listed one (suc turns) ws ≡ Some (x ∷ xs, rest)
  then_listed turns ws x more xs rest e f = bind_is (one ws) (behind_one turns) _ e ∙ bind_is (listed one turns more) (λ (others : List A × List Word). Some (x ∷ others.0, others.1)) _ f

last_part_read : (ws : List Word) (t : Tree) → Complete g.expression ws t → CompleteParts ws (tree_then t no_trees)
last_part_read ws t h depth k turns l rest = last_listed (reading depth) turns (ws ++ word.Symbol CloseBrace ∷ rest) t rest (omega arith) (inside ws t h depth k (word.Symbol CloseBrace ∷ rest) (omega arith))

part_then_read : (a b : List Word) (t : Tree) (ts : Trees) → Complete g.expression a t → CompleteParts b ts → CompleteParts (a ++ word.Symbol Comma ∷ b) (tree_then t ts)
part_then_read a b t ts h i depth k zero l rest = absurd (omega arith)
part_then_read a b t ts h i depth k (suc turns) l rest =
    let all : (a ++ word.Symbol Comma ∷ b) ++ word.Symbol CloseBrace ∷ rest ≡ a ++ word.Symbol Comma ∷ (b ++ word.Symbol CloseBrace ∷ rest) = simp append_assoc in
    let la = length-append a (word.Symbol Comma ∷ b) in
    ap (listed (reading depth) (suc turns)) all
    ∙ then_listed (reading depth) turns (a ++ word.Symbol Comma ∷ (b ++ word.Symbol CloseBrace ∷ rest)) t (b ++ word.Symbol CloseBrace ∷ rest) (list_of ts) rest
    (inside a t h depth (omega (arith, la)) (word.Symbol Comma ∷ (b ++ word.Symbol CloseBrace ∷ rest)) (omega arith)) (i depth (omega (arith, la)) turns (omega (arith, la)) rest)

named_is : (depth : ℕ) (n : List ℕ) (ws : List Word) (t : Tree) (rest : List Word) → reading depth ws ≡ Some (t, rest) → named (reading depth) (word.Name n ∷ word.Symbol Assign ∷ ws) ≡ Some ((n, t), rest)
named_is depth n ws t rest e = bind_is (reading depth ws) (λ (value : Tree × List Word). Some ((n, value.0), value.1)) (t, rest) e

last_field_read : (ws : List Word) (t : Tree) (n : List ℕ) → Complete g.expression ws t → CompleteFields (word.Name n ∷ word.Symbol Assign ∷ ws) (field_then n t no_fields)
last_field_read ws t n h depth k turns l rest =
    last_listed (named (reading depth)) turns (word.Name n ∷ word.Symbol Assign ∷ (ws ++ word.Symbol CloseBrace ∷ rest)) (n, t) rest (omega arith)
    (named_is depth n (ws ++ word.Symbol CloseBrace ∷ rest) t (word.Symbol CloseBrace ∷ rest) (inside ws t h depth (omega arith) (word.Symbol CloseBrace ∷ rest) (omega arith)))

field_and_read : (a b : List Word) (t : Tree) (n : List ℕ) (fs : NamedTrees) → Complete g.expression a t → CompleteFields b fs → CompleteFields (word.Name n ∷ word.Symbol Assign ∷ (a ++ word.Symbol Comma ∷ b)) (field_then n t fs)
field_and_read a b t n fs h i depth k zero l rest = absurd (omega arith)
field_and_read a b t n fs h i depth k (suc turns) l rest =
    let all : (a ++ word.Symbol Comma ∷ b) ++ word.Symbol CloseBrace ∷ rest ≡ a ++ word.Symbol Comma ∷ (b ++ word.Symbol CloseBrace ∷ rest) = simp append_assoc in
    let la = length-append a (word.Symbol Comma ∷ b) in
    ap (λ v. listed (named (reading depth)) (suc turns) (word.Name n ∷ word.Symbol Assign ∷ v)) all
    ∙ then_listed (named (reading depth)) turns (word.Name n ∷ word.Symbol Assign ∷ (a ++ word.Symbol Comma ∷ (b ++ word.Symbol CloseBrace ∷ rest))) (n, t) (b ++ word.Symbol CloseBrace ∷ rest) (fields_of fs) rest
    (named_is depth n (a ++ word.Symbol Comma ∷ (b ++ word.Symbol CloseBrace ∷ rest)) t (word.Symbol Comma ∷ (b ++ word.Symbol CloseBrace ∷ rest)) (inside a t h depth (omega (arith, la)) (word.Symbol Comma ∷ (b ++ word.Symbol CloseBrace ∷ rest)) (omega arith)))
    (i depth (omega (arith, la)) turns (omega (arith, la)) rest)

-- names that differ aren't repeated
not_repeated_behind : (seen ns : List (List ℕ)) → AllDiffer ns → ((m : List ℕ) → IsAmong ns m → is_among seen m ≡ false) → repeats_behind seen ns ≡ false
not_repeated_behind seen [] a h = refl
not_repeated_behind seen (n ∷ ns) a h =
    let first : is_among seen n ≡ false = h n (inl refl) in
    let i = not_repeated_behind (n ∷ seen) ns a.1 (λ m k. by_test (pointwise nat_eq n m) m k refl (h m (inr k))) in
    ap (λ b. b || repeats_behind (n ∷ seen) ns) first ∙ i
  where
    by_test : (b : Bool) (m : List ℕ) → IsAmong ns m → pointwise nat_eq n m ≡ b → is_among seen m ≡ false → (b || is_among seen m) ≡ false
    by_test true m k e f = let P : List ℕ → Type 0 = λ v. IsAmong ns v in absurd (a.0 (subst P (sym ((bytes_decides n m).0 e)) k))
    by_test false m k e f = f

not_repeated : (ns : List (List ℕ)) → AllDiffer ns → has_repeated ns ≡ false
not_repeated ns a = not_repeated_behind [] ns a (λ m k. refl)

record_read : (ws : List Word) (fs : NamedTrees) → ReadsFields ws fs → CompleteFields ws fs → AllDiffer (map (λ f. f.0) (fields_of fs)) → Complete g.primary (word.Symbol OpenBrace ∷ (ws ++ word.Symbol CloseBrace ∷ [])) (Record fs)
record_read ws fs r h a depth k rest =
    let l = length-append ws (word.Symbol CloseBrace ∷ []) in
    let m = length-append ws (word.Symbol CloseBrace ∷ rest) in
    let b = bind_is (listed (named (reading depth)) (length (ws ++ word.Symbol CloseBrace ∷ rest)) (ws ++ word.Symbol CloseBrace ∷ rest)) (λ (fs : List (List ℕ × Tree) × List Word). cond (has_repeated (map (λ f. f.0) fs.0)) None (Some (Record (named_of fs.0), fs.1))) _ (h depth (omega (arith, l)) (length (ws ++ word.Symbol CloseBrace ∷ rest)) (omega (arith, m)) rest) in
    ap (in_braces (reading depth)) (behind_close ws rest (word.Symbol CloseBrace)) ∙ fields_first (reading depth) r (word.Symbol CloseBrace ∷ rest) ∙ b
    ∙ ap (λ q. cond q None (Some (Record (named_of (fields_of fs)), rest))) (not_repeated (map (λ f. f.0) (fields_of fs)) a) ∙ ap (λ v. Some (Record v, rest)) (named_of-fields_of fs)
  where
    fields_first : (again : Reader) {ws : List Word} {fs : NamedTrees} → ReadsFields ws fs → (rest : List Word) → in_braces again (ws ++ rest) ≡ record_at again (ws ++ rest)
    fields_first again (g.last_field r) rest = refl
    fields_first again (g.field_and r s) rest = refl

-- a list doesn't begin as a record
begins_none : (again : Reader) (ws : List Word) (t : Tree) (s : Symbol) (rest : List Word) → choice again ws ≡ Some (t, word.Symbol s ∷ rest) → eqb (number s) (number Assign) ≡ false → begins_record ws ≡ false
begins_none again [] t s rest e f = refl
begins_none again (Digits n ∷ ws) t s rest e f = refl
begins_none again (Quoted text ∷ ws) t s rest e f = refl
begins_none again (word.Symbol r ∷ ws) t s rest e f = refl
begins_none again (word.Name n ∷ []) t s rest e f = refl
begins_none again (word.Name n ∷ w ∷ ws) t s rest e f = by_test (is_symbol Assign w) refl
  where
    begins_with : List Word → Bool
    begins_with [] = false
    begins_with (w ∷ ws) = is_symbol Assign w

    by_test : (b : Bool) → is_symbol Assign w ≡ b → given (cond b (Some ws) None) false (λ rest. true) ≡ false
    by_test true q =
        let x : choice again (word.Name n ∷ word.Symbol Assign ∷ ws) ≡ Some (t, word.Symbol s ∷ rest) = ap (λ v. choice again (word.Name n ∷ v ∷ ws)) (sym (is_symbol_true Assign w q)) ∙ e in
        let y : ◌≡◌ {A = Read} (Some (tree.Name n, word.Symbol Assign ∷ ws)) (Some (t, word.Symbol s ∷ rest)) = x in
        let p = some_pair_parts _ _ _ _ y in
        let z : true ≡ eqb (number s) (number Assign) = ap begins_with p.1 in
        absurd (let u : true ≡ false = z ∙ f in cc)
    by_test false q = refl

begun : (again : Reader) (turns : ℕ) (ws : List Word) (r : List Tree × List Word) → listed again turns ws ≡ Some r → (t : Tree) × (s : Symbol) × (more : List Word) × (again ws ≡ Some (t, word.Symbol s ∷ more)) × (eqb (number s) (number Assign) ≡ false)
begun again zero ws r e = cc
begun again (suc turns) ws r e =
    let b = bind_some (again ws) (behind_one again turns) _ e in
    elim (given_some (after Comma b.0.1) (closed CloseBrace (b.0.0 ∷ []) b.0.1) (λ (rest : List Word). listed again turns rest >>= λ others. Some (b.0.0 ∷ others.0, others.1)) (Some r) b.2) [
      | inl k ↦ let q = closed_some CloseBrace (b.0.0 ∷ []) r.0 b.0.1 r.1 k.1 in (b.0.0, CloseBrace, r.1, b.1 ∙ ap (λ v. Some (b.0.0, v)) q.1, refl)
      | inr k ↦ (b.0.0, Comma, k.0, b.1 ∙ ap (λ v. Some (b.0.0, v)) (after_some Comma _ _ k.1), refl)
    ]

list_first : (depth : ℕ) (turns : ℕ) (ws : List Word) (r : List Tree × List Word) → 0 < depth → listed (reading depth) turns ws ≡ Some r → in_braces (reading depth) ws ≡ list_at (reading depth) ws
list_first depth turns ws r l e =
    let b = begun (reading depth) turns ws r e in
    let x : choice (reading (depth - 1)) ws ≡ Some (b.0, word.Symbol b.1 ∷ b.2) = sym (reading_more depth ws l) ∙ b.3 in
    given_none (after CloseBrace ws) (cond (begins_record ws) (record_at (reading depth) ws) (list_at (reading depth) ws)) (λ (rest : List Word). Some (Array (trees_of []), rest)) (not_close_brace (reading (depth - 1)) ws _ x)
    ∙ ap (λ q. cond q (record_at (reading depth) ws) (list_at (reading depth) ws)) (begins_none (reading (depth - 1)) ws b.0 b.1 b.2 x b.4)

list_read : (ws : List Word) (ts : Trees) → CompleteParts ws ts → Complete g.primary (word.Symbol OpenBrace ∷ (ws ++ word.Symbol CloseBrace ∷ [])) (Array ts)
list_read ws ts h depth k rest =
    let l = length-append ws (word.Symbol CloseBrace ∷ []) in
    let m = length-append ws (word.Symbol CloseBrace ∷ rest) in
    let e = h depth (omega (arith, l)) (length (ws ++ word.Symbol CloseBrace ∷ rest)) (omega (arith, m)) rest in
    ap (in_braces (reading depth)) (behind_close ws rest (word.Symbol CloseBrace))
    ∙ list_first depth (length (ws ++ word.Symbol CloseBrace ∷ rest)) (ws ++ word.Symbol CloseBrace ∷ rest) (list_of ts, rest) (omega (arith, l)) e
    ∙ bind_is (listed (reading depth) (length (ws ++ word.Symbol CloseBrace ∷ rest)) (ws ++ word.Symbol CloseBrace ∷ rest)) (λ (ts : List Tree × List Word). Some (Array (trees_of ts.0), ts.1)) _ e
    ∙ ap (λ v. Some (Array v, rest)) (trees_of-list_of ts)

-- all that the grammar has
mutual
  pub complete : {p : Phrase} {ws : List Word} {t : Tree} → Reads p ws t → Complete p ws t
  complete (g.plain {ws = ws} {t = t} r) = plain_read ws t (complete r)
  complete (g.condition {a = a} {b = b} {d = e} {c = c} {t = t} {u = u} r s q) = condition_read a b e c t u (complete r) (complete s) (complete q)
  complete (g.operand {l = l} {ws = ws} {t = t} r) = operand_read l ws t (complete r)
  complete (g.grouped {l = l} {a = a} {b = b} w {s = s} {t = t} {o = o} m r e q) = grouped_read l a b w s t o m (complete r) e (complete q)
  complete (g.compared {a = a} {b = b} w {s = s} {t = t} {o = o} r e q) = compared_read a b w s t o (complete r) e (complete q)
  complete (g.unsigned {ws = ws} {t = t} r) = unsigned_read ws t (complete r)
  complete (g.negative {n = n} l) = negative_read n l
  complete (g.negated {ws = ws} {t = t} m r) = negated_read ws t (some_words r) m (complete r)
  complete (g.denied {ws = ws} {t = t} r) = denied_read ws t (complete r)
  complete (g.alone {ws = ws} {t = t} r) = alone_read ws t (complete r)
  complete (g.applied {a = a} {b = b} {s = s} {t = t} r q) = applied_read a b s t (complete r) (complete q)
  complete (g.field {a = a} {t = t} {n = n} r) = field_read a t n (complete r)
  complete (g.length {a = a} {t = t} r) = length_read a t (complete r)
  complete (g.digits {n = n} l) = digits_read n l
  complete g.quoted = λ depth k rest. refl
  complete g.truth = λ depth k rest. refl
  complete g.falsehood = λ depth k rest. refl
  complete g.name = λ depth k rest. refl
  complete (g.parentheses {ws = ws} {t = t} r) = parentheses_read ws t (complete r)
  complete g.empty = λ depth k rest. refl
  complete (g.list {ws = ws} {ts = ts} r) = list_read ws ts (complete_parts r)
  complete (g.record_literal {ws = ws} {fs = fs} r a) = record_read ws fs r (complete_fields r) a
  complete (g.absolute {ws = ws} {t = t} r) = absolute_read ws t (complete r)
  complete (g.greater {a = a} {b = b} {s = s} {t = t} r q) = greater_read a b s t (complete r) (complete q)
  complete (g.lesser {a = a} {b = b} {s = s} {t = t} r q) = lesser_read a b s t (complete r) (complete q)

  complete_parts : {ws : List Word} {ts : Trees} → ReadsParts ws ts → CompleteParts ws ts
  complete_parts (g.last_part {ws = ws} {t = t} r) = last_part_read ws t (complete r)
  complete_parts (g.part_then {a = a} {b = b} {t = t} {ts = ts} r q) = part_then_read a b t ts (complete r) (complete_parts q)

  complete_fields : {ws : List Word} {fs : NamedTrees} → ReadsFields ws fs → CompleteFields ws fs
  complete_fields (g.last_field {ws = ws} {t = t} {n = n} r) = last_field_read ws t n (complete r)
  complete_fields (g.field_and {a = a} {b = b} {t = t} {n = n} {fs = fs} r q) = field_and_read a b t n fs (complete r) (complete_fields q)

-- words that read as a tree are read as it
pub whole_read : (ws : List Word) (t : Tree) → Reads g.expression ws t → reading (length ws + 1) ws ≡ Some (t, [])
whole_read ws t r =
    ap (λ v. reading (length ws + 1) v) (sym (append-nil ws)) ∙ inside ws t (complete r) (length ws + 1) (omega arith) [] (omega arith)
