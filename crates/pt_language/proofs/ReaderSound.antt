-- What the reader reads is in the grammar.
use Rattle.std.proofs.Common.{◌≡◌, ℕ, zero, suc, ◌+◌, ◌<◌, ◌≤◌, ◌^◌, ◌⊎◌, inl, inr, List, [], ◌∷◌, ◌++◌, length, map, Bool, true, false, cond, eqb, ltb, leb, ◌||◌, Option, Some, None, option_map, codes, pos, neg_ℤ, refl, sym, ◌∙◌, ap, subst, append_assoc, length-append, arith}
use Rattle.std.proofs.lemmas.Option.{some_pair_parts, same_Some, cond_some}
use Rattle.std.proofs.lemmas.Bool.Decides.{nat_tests}
use Rattle.std.specs.Cmp.Lexicographic.{pointwise}
use Rattle.std.specs.Prelude.{nat_eq}
use lib.Pointwise.{bytes_decides}
use Rattle.pt_language.specs.declared.expr.BinaryOp.{BinaryOp}
use Rattle.pt_language.specs.Tree.{Tree, Int, Words, Array, Record, Negate, Binary, Cond, Apply, Field, Length, Trees, NamedTrees, trees_of, named_of, fields_of, fields_of-named_of}
use Rattle.pt_language.specs.Tree as tree
use Rattle.pt_language.specs.declared.word.Word.{Word}
use Rattle.pt_language.specs.declared.word.Word.TheVariants.{Digits, Quoted}
use Rattle.pt_language.specs.declared.word.Word.TheVariants as word
use Rattle.pt_language.specs.declared.word.Symbol.{Symbol}
use Rattle.pt_language.specs.declared.word.Symbol.TheVariants.{True, False, Abs, Max, Min, Open, Close, OpenBrace, CloseBrace, Comma, Dot, Question, Colon, Assign, Not, Minus}
use Rattle.pt_language.specs.declared.level.Level.{Level}
use Rattle.pt_language.specs.declared.level.Level.TheVariants as level
use Rattle.pt_language.specs.Level.{operator_at, binding, binding_at}
use Rattle.pt_language.specs.Symbol.{after, is_symbol}
use Rattle.pt_language.specs.Grammar.{Phrase, Reads, ReadsParts, ReadsFields, operand_of, MayRepeat, IsNegated, AllDiffer, IsAmong}
use Rattle.pt_language.specs.Grammar as g
use Rattle.pt_language.specs.Descent.{expression as reading}
use Rattle.pt_language.specs.Descent.{Read, Reader, ◌>>=◌, given, closed, repeated, operator_first, second, next_operand, at_level, compared_with, joined, is_length, field_named, empty_call, name_first, suffix, next_suffix, called, suffixes, positive, one_operand, two_operands, listed, named, is_among, repeats_behind, has_repeated, begins_record, record_at, list_at, in_braces, primary_symbol, primary, postfix, bare_digits, unary, term, sum, comparison, equality, conjunction, disjunction, chosen}
use Rattle.pt_language.specs.Descent as d
use Rattle.pt_language.proofs.ReaderSteps.{bind_some, given_some, map_some, is_symbol_true, after_some, closed_some, name_first_some, joined_at, front_then}

-- the words at the front read as the tree, and the rest is behind them
abbrev pub Front : Phrase → Tree → List Word → List Word → Type 0
Front p t ws rest = (a : List Word) × (ws ≡ a ++ rest) × Reads p a t

abbrev pub SoundAt : Phrase → Reader → Type 0
SoundAt p r = (ws : List Word) (t : Tree) (rest : List Word) → r ws ≡ Some (t, rest) → Front p t ws rest

-- operators
operator_first_some : (l : Level) (ws : List Word) (o : BinaryOp × List Word) → operator_first l ws ≡ Some o → (w : Word) × (ws ≡ w ∷ o.1) × (operator_at l w ≡ Some o.0)
operator_first_some l [] o e = cc
operator_first_some l (w ∷ ws) o e =
    let m = map_some (λ (op : BinaryOp). (op, ws)) (operator_at l w) o e in
    (w, (λ i. w ∷ (m.2 i).1), m.1 ∙ (λ i. Some (m.2 i).0))

second_sound : (p : Phrase) (operand : Reader) → SoundAt p operand → (op : BinaryOp) (t : Tree) (ws : List Word) (u : Tree) (rest : List Word) → second operand op t ws ≡ Some (u, rest)
    → (right : Tree) × (c : List Word) × (ws ≡ c ++ rest) × Reads p c right × (Binary op t right ≡ u)
second_sound p operand h op t ws u rest e =
    let b = bind_some (operand ws) (λ (right : Tree × List Word). Some (Binary op t right.0, right.1)) _ e in
    let q = some_pair_parts _ _ _ _ b.2 in
    let f = h ws b.0.0 b.0.1 b.1 in
    (b.0.0, f.0, f.1 ∙ ap (λ v. f.0 ++ v) q.1, f.2, q.0)

abbrev Grown : Level → List Word → List Word → Tree → List Word → Type 0
Grown l a ws u rest = (b : List Word) × (a ++ ws ≡ b ++ rest) × Reads (g.operators l) b u

none_more : (l : Level) (a : List Word) (t : Tree) → Reads (g.operators l) a t → (ws : List Word) (u : Tree) (rest : List Word) → ◌≡◌ {A = Read} (Some (t, ws)) (Some (u, rest)) → Grown l a ws u rest
none_more l a t r ws u rest e =
    let p = some_pair_parts _ _ _ _ e in
    let P : Tree → Type 0 = λ v. Reads (g.operators l) a v in
    (a, ap (λ v. a ++ v) p.1, subst P p.0 r)

one_more : (l : Level) → MayRepeat l → (operand : Reader) → SoundAt (operand_of l) operand → (a : List Word) (t : Tree) → Reads (g.operators l) a t → (ws : List Word) (read : Read) (u : Tree) (rest : List Word)
    → next_operand l operand t ws ≡ Some read → read ≡ Some (u, rest) → Grown l a ws u rest
one_more l m operand h a t r ws read u rest k e =
    let o = map_some (λ (o : BinaryOp × List Word). second operand o.0 t o.1) (operator_first l ws) read k in
    let w = operator_first_some l ws o.0 o.1 in
    let s = second_sound (operand_of l) operand h o.0.0 t o.0.1 u rest (o.2 ∙ e) in
    let P : Tree → Type 0 = λ v. Reads (g.operators l) (a ++ w.0 ∷ s.1) v in
    (a ++ w.0 ∷ s.1, joined_at (a ++ ws) a ws o.0.1 s.1 rest w.0 refl w.1 s.2, subst P s.4 (g.grouped w.0 m r w.2 s.3))

more_operands : (l : Level) → MayRepeat l → (operand : Reader) → SoundAt (operand_of l) operand → (turns : ℕ) (a : List Word) (t : Tree) → Reads (g.operators l) a t → (ws : List Word) (u : Tree) (rest : List Word)
    → repeated (next_operand l operand) turns t ws ≡ Some (u, rest) → Grown l a ws u rest
more_operands l m operand h zero a t r ws u rest e = none_more l a t r ws u rest e
more_operands l m operand h (suc turns) a t r ws u rest e =
    elim (given_some (next_operand l operand t ws) (Some (t, ws)) (λ (read : Read). read >>= λ x. repeated (next_operand l operand) turns x.0 x.1) (Some (u, rest)) e) [
      | inl k ↦ none_more l a t r ws u rest k.1
      | inr k ↦
          let b = bind_some k.0 (λ (x : Tree × List Word). repeated (next_operand l operand) turns x.0 x.1) _ k.2 in
          let s = one_more l m operand h a t r ws k.0 b.0.0 b.0.1 k.1 b.1 in
          let i = more_operands l m operand h turns s.0 b.0.0 s.2 b.0.1 u rest b.2 in
          (i.0, s.1 ∙ i.1, i.2)
    ]

level_repeats : (l : Level) → MayRepeat l → (operand : Reader) → SoundAt (operand_of l) operand → SoundAt (g.operators l) (λ ws. operand ws >>= λ first. joined l operand first.0 first.1)
level_repeats l m operand h ws t rest e =
    let b = bind_some (operand ws) (λ (first : Tree × List Word). joined l operand first.0 first.1) _ e in
    let f = h ws b.0.0 b.0.1 b.1 in
    let i = more_operands l m operand h (length b.0.1) f.0 b.0.0 (g.operand {l = l} f.2) b.0.1 t rest b.2 in
    (i.0, f.1 ∙ i.1, i.2)

level_compares : (operand : Reader) → SoundAt (g.operators level.Sum) operand → SoundAt (g.operators level.Comparison) (λ ws. operand ws >>= λ first. compared_with operand first.0 first.1)
level_compares operand h ws t rest e =
    let b = bind_some (operand ws) (λ (first : Tree × List Word). compared_with operand first.0 first.1) _ e in
    let f = h ws b.0.0 b.0.1 b.1 in
    let r : Reads (g.operators level.Comparison) f.0 b.0.0 = g.operand {l = level.Comparison} f.2 in
    elim (given_some (next_operand level.Comparison operand b.0.0 b.0.1) (Some (b.0.0, b.0.1)) (λ (read : Read). read) (Some (t, rest)) b.2) [
      | inl k ↦
          let p = some_pair_parts _ _ _ _ k.1 in
          let P : Tree → Type 0 = λ v. Reads (g.operators level.Comparison) f.0 v in
          (f.0, f.1 ∙ ap (λ v. f.0 ++ v) p.1, subst P p.0 r)
      | inr k ↦
          let o = map_some (λ (o : BinaryOp × List Word). second operand o.0 b.0.0 o.1) (operator_first level.Comparison b.0.1) k.0 k.1 in
          let w = operator_first_some level.Comparison b.0.1 o.0 o.1 in
          let s = second_sound (g.operators level.Sum) operand h o.0.0 b.0.0 o.0.1 t rest (o.2 ∙ k.2) in
          let P : Tree → Type 0 = λ v. Reads (g.operators level.Comparison) (f.0 ++ w.0 ∷ s.1) v in
          (f.0 ++ w.0 ∷ s.1, joined_at ws f.0 b.0.1 o.0.1 s.1 rest w.0 f.1 w.1 s.2, subst P s.4 (g.compared w.0 f.2 w.2 s.3))
    ]

-- brackets
closing : (inner y rest : List Word) (w : Word) → y ≡ w ∷ rest → inner ++ y ≡ (inner ++ w ∷ []) ++ rest
closing inner y rest w p =
    let e : inner ++ (w ∷ rest) ≡ (inner ++ w ∷ []) ++ rest = simp append_assoc in
    ap (λ v. inner ++ v) p ∙ e

one_operand_sound : (again : Reader) → SoundAt g.expression again → (ws : List Word) (t : Tree) (rest : List Word) → one_operand again ws ≡ Some (t, rest)
    → (inner : List Word) × (ws ≡ word.Symbol Open ∷ (inner ++ word.Symbol Close ∷ []) ++ rest) × Reads g.expression inner t
one_operand_sound again h ws t rest e =
    let o = bind_some (after Open ws) (λ (r : List Word). again r >>= λ a. closed Close a.0 a.1) _ e in
    let b = bind_some (again o.0) (λ (a : Tree × List Word). closed Close a.0 a.1) _ o.2 in
    let q = closed_some Close b.0.0 t b.0.1 rest b.2 in
    let f = h o.0 b.0.0 b.0.1 b.1 in
    let P : Tree → Type 0 = λ v. Reads g.expression f.0 v in
    (f.0, after_some Open ws o.0 o.1 ∙ ap (λ v. word.Symbol Open ∷ v) (f.1 ∙ closing f.0 b.0.1 rest _ q.1), subst P q.0 f.2)

two_operands_sound : (again : Reader) → SoundAt g.expression again → (ws : List Word) (x : Tree × Tree) (rest : List Word) → two_operands again ws ≡ Some (x, rest)
    → (a b : List Word) × (ws ≡ word.Symbol Open ∷ (a ++ word.Symbol Comma ∷ (b ++ word.Symbol Close ∷ [])) ++ rest) × Reads g.expression a x.0 × Reads g.expression b x.1
two_operands_sound again h ws x rest e =
    let o = bind_some (after Open ws) (λ (r : List Word). again r >>= λ a. after Comma a.1 >>= λ more. again more >>= λ b. closed Close (a.0, b.0) b.1) _ e in
    let a = bind_some (again o.0) (λ (a : Tree × List Word). after Comma a.1 >>= λ more. again more >>= λ b. closed Close (a.0, b.0) b.1) _ o.2 in
    let c = bind_some (after Comma a.0.1) (λ (more : List Word). again more >>= λ b. closed Close (a.0.0, b.0) b.1) _ a.2 in
    let b = bind_some (again c.0) (λ (b : Tree × List Word). closed Close (a.0.0, b.0) b.1) _ c.2 in
    let q = closed_some Close (a.0.0, b.0.0) x b.0.1 rest b.2 in
    let f = h o.0 a.0.0 a.0.1 a.1 in
    let k = h c.0 b.0.0 b.0.1 b.1 in
    let P : Tree → Type 0 = λ v. Reads g.expression f.0 v in
    let Q : Tree → Type 0 = λ v. Reads g.expression k.0 v in (
      f.0,
      k.0,
      after_some Open ws o.0 o.1 ∙ ap (λ v. word.Symbol Open ∷ v) (joined_at o.0 f.0 a.0.1 c.0 (k.0 ++ word.Symbol Close ∷ []) rest _ f.1 (after_some Comma _ _ c.1) (k.1 ∙ closing k.0 b.0.1 rest _ q.1)),
      subst P (λ i. (q.0 i).0) f.2,
      subst Q (λ i. (q.0 i).1) k.2,
    )

-- lists and records
parts_sound : (again : Reader) → SoundAt g.expression again → (turns : ℕ) (ws : List Word) (ts : List Tree) (rest : List Word) → listed again turns ws ≡ Some (ts, rest)
    → (a : List Word) × (ws ≡ a ++ word.Symbol CloseBrace ∷ rest) × ReadsParts a (trees_of ts)
parts_sound again h zero ws ts rest e = cc
parts_sound again h (suc turns) ws ts rest e =
    let b = bind_some (again ws) (λ (first : Tree × List Word). given (after Comma first.1) (closed CloseBrace (first.0 ∷ []) first.1) (λ r. listed again turns r >>= λ others. Some (first.0 ∷ others.0, others.1))) _ e in
    let f = h ws b.0.0 b.0.1 b.1 in
    elim (given_some (after Comma b.0.1) (closed CloseBrace (b.0.0 ∷ []) b.0.1) (λ (r : List Word). listed again turns r >>= λ others. Some (b.0.0 ∷ others.0, others.1)) (Some (ts, rest)) b.2) [
      | inl k ↦
          let q = closed_some CloseBrace (b.0.0 ∷ []) ts b.0.1 rest k.1 in
          let P : List Tree → Type 0 = λ v. ReadsParts f.0 (trees_of v) in
          (f.0, f.1 ∙ ap (λ v. f.0 ++ v) q.1, subst P q.0 (g.last_part f.2))
      | inr k ↦
          let o = bind_some (listed again turns k.0) (λ (others : List Tree × List Word). Some (b.0.0 ∷ others.0, others.1)) _ k.2 in
          let p = some_pair_parts _ _ _ _ o.2 in
          let i = parts_sound again h turns k.0 o.0.0 o.0.1 o.1 in
          let P : List Tree → Type 0 = λ v. ReadsParts (f.0 ++ word.Symbol Comma ∷ i.0) (trees_of v) in (
            f.0 ++ word.Symbol Comma ∷ i.0,
            joined_at ws f.0 b.0.1 k.0 i.0 (word.Symbol CloseBrace ∷ rest) _ f.1 (after_some Comma _ _ k.1) (i.1 ∙ ap (λ v. i.0 ++ word.Symbol CloseBrace ∷ v) p.1),
            subst P p.0 (g.part_then f.2 i.2),
          )
    ]

named_sound : (again : Reader) → SoundAt g.expression again → (ws : List Word) (x : List ℕ × Tree) (rest : List Word) → named again ws ≡ Some (x, rest)
    → (inner : List Word) × (ws ≡ word.Name x.0 ∷ word.Symbol Assign ∷ (inner ++ rest)) × Reads g.expression inner x.1
named_sound again h ws x rest e =
    let n = bind_some (name_first ws) (λ (n : List ℕ × List Word). after Assign n.1 >>= λ r. again r >>= λ value. Some ((n.0, value.0), value.1)) _ e in
    let s = bind_some (after Assign n.0.1) (λ (r : List Word). again r >>= λ value. Some ((n.0.0, value.0), value.1)) _ n.2 in
    let v = bind_some (again s.0) (λ (value : Tree × List Word). Some ((n.0.0, value.0), value.1)) _ s.2 in
    let p = some_pair_parts _ _ _ _ v.2 in
    let f = h s.0 v.0.0 v.0.1 v.1 in
    let P : Tree → Type 0 = λ t. Reads g.expression f.0 t in
    let q : s.0 ≡ f.0 ++ rest = f.1 ∙ ap (λ u. f.0 ++ u) p.1 in
    let r : ws ≡ word.Name n.0.0 ∷ word.Symbol Assign ∷ (f.0 ++ rest) = name_first_some ws n.0.0 n.0.1 n.1 ∙ ap (λ u. word.Name n.0.0 ∷ u) (after_some Assign _ _ s.1 ∙ ap (λ u. word.Symbol Assign ∷ u) q) in
    (f.0, r ∙ ap (λ u. word.Name u ∷ word.Symbol Assign ∷ (f.0 ++ rest)) (λ i. (p.0 i).0), subst P (λ i. (p.0 i).1) f.2)

fields_sound : (again : Reader) → SoundAt g.expression again → (turns : ℕ) (ws : List Word) (fs : List (List ℕ × Tree)) (rest : List Word) → listed (named again) turns ws ≡ Some (fs, rest)
    → (a : List Word) × (ws ≡ a ++ word.Symbol CloseBrace ∷ rest) × ReadsFields a (named_of fs)
fields_sound again h zero ws fs rest e = cc
fields_sound again h (suc turns) ws fs rest e =
    let b = bind_some (named again ws) (λ (first : (List ℕ × Tree) × List Word). given (after Comma first.1) (closed CloseBrace (first.0 ∷ []) first.1) (λ r. listed (named again) turns r >>= λ others. Some (first.0 ∷ others.0, others.1))) _ e in
    let f = named_sound again h ws b.0.0 b.0.1 b.1 in
    let n = word.Name b.0.0.0 in
    elim (given_some (after Comma b.0.1) (closed CloseBrace (b.0.0 ∷ []) b.0.1) (λ (r : List Word). listed (named again) turns r >>= λ others. Some (b.0.0 ∷ others.0, others.1)) (Some (fs, rest)) b.2) [
      | inl k ↦
          let q = closed_some CloseBrace (b.0.0 ∷ []) fs b.0.1 rest k.1 in
          let P : List (List ℕ × Tree) → Type 0 = λ v. ReadsFields (word.Name b.0.0.0 ∷ word.Symbol Assign ∷ f.0) (named_of v) in
          (word.Name b.0.0.0 ∷ word.Symbol Assign ∷ f.0, f.1 ∙ ap (λ v. word.Name b.0.0.0 ∷ word.Symbol Assign ∷ (f.0 ++ v)) q.1, subst P q.0 (g.last_field f.2))
      | inr k ↦
          let o = bind_some (listed (named again) turns k.0) (λ (others : List (List ℕ × Tree) × List Word). Some (b.0.0 ∷ others.0, others.1)) _ k.2 in
          let p = some_pair_parts _ _ _ _ o.2 in
          let i = fields_sound again h turns k.0 o.0.0 o.0.1 o.1 in
          let P : List (List ℕ × Tree) → Type 0 = λ v. ReadsFields (word.Name b.0.0.0 ∷ word.Symbol Assign ∷ (f.0 ++ word.Symbol Comma ∷ i.0)) (named_of v) in
          let tail : f.0 ++ b.0.1 ≡ (f.0 ++ word.Symbol Comma ∷ i.0) ++ (word.Symbol CloseBrace ∷ rest) =
          joined_at (f.0 ++ b.0.1) f.0 b.0.1 k.0 i.0 (word.Symbol CloseBrace ∷ rest) (word.Symbol Comma) refl (after_some Comma _ _ k.1) (i.1 ∙ ap (λ v. i.0 ++ word.Symbol CloseBrace ∷ v) p.1) in (
            word.Name b.0.0.0 ∷ word.Symbol Assign ∷ (f.0 ++ word.Symbol Comma ∷ i.0),
            f.1 ∙ ap (λ v. word.Name b.0.0.0 ∷ word.Symbol Assign ∷ v) tail,
            subst P p.0 (g.field_and f.2 i.2),
          )
    ]

-- names that differ
or_false : (a b : Bool) → (a || b) ≡ false → (a ≡ false) × (b ≡ false)
or_false true b e = cc
or_false false b e = (refl, e)

differ_behind : (seen ns : List (List ℕ)) → repeats_behind seen ns ≡ false → AllDiffer ns × ((m : List ℕ) → IsAmong ns m → is_among seen m ≡ false)
differ_behind seen [] e = (tt, λ m h. absurd h)
differ_behind seen (n ∷ ns) e = both (or_false (is_among seen n) (repeats_behind (n ∷ seen) ns) e) (differ_behind (n ∷ seen) ns)
  where
    own : pointwise nat_eq n n ≡ true
    own = (bytes_decides n n).1 refl

    both : (is_among seen n ≡ false) × (repeats_behind (n ∷ seen) ns ≡ false) → (repeats_behind (n ∷ seen) ns ≡ false → AllDiffer ns × ((m : List ℕ) → IsAmong ns m → is_among (n ∷ seen) m ≡ false))
        → AllDiffer (n ∷ ns) × ((m : List ℕ) → IsAmong (n ∷ ns) m → is_among seen m ≡ false)
    both p r =
        let q = r p.1 in
        let twice : IsAmong ns n → ⊥ = λ i. (let k : pointwise nat_eq n n ≡ false = (or_false (pointwise nat_eq n n) (is_among seen n) (q.1 n i)).0 in let z : true ≡ false = sym own ∙ k in cc) in
        let P : List ℕ → Type 0 = λ m. is_among seen m ≡ false in
        ((twice, q.0), λ m h. elim h [ inl s ↦ subst P s p.0 | inr i ↦ (or_false (pointwise nat_eq n m) (is_among seen m) (q.1 m i)).1 ])

differ : (ns : List (List ℕ)) → has_repeated ns ≡ false → AllDiffer ns
differ ns e = (differ_behind [] ns e).0

cond_none : {A : Type 0} (b : Bool) (x y : A) → cond b None (Some x) ≡ Some y → (b ≡ false) × (x ≡ y)
cond_none true x y e = cc
cond_none false x y e = (refl, same_Some _ _ e)

-- a list or a record
braces_front : (ws a rest : List Word) → ws ≡ a ++ word.Symbol CloseBrace ∷ rest → word.Symbol OpenBrace ∷ ws ≡ (word.Symbol OpenBrace ∷ (a ++ word.Symbol CloseBrace ∷ [])) ++ rest
braces_front ws a rest p = ap (λ v. word.Symbol OpenBrace ∷ v) (p ∙ closing a (word.Symbol CloseBrace ∷ rest) rest _ refl)

record_sound : (again : Reader) → SoundAt g.expression again → (ws : List Word) (t : Tree) (rest : List Word) → record_at again ws ≡ Some (t, rest) → Front g.primary t (word.Symbol OpenBrace ∷ ws) rest
record_sound again h ws t rest e =
    let b = bind_some (listed (named again) (length ws) ws) (λ (fs : List (List ℕ × Tree) × List Word). cond (has_repeated (map (λ f. f.0) fs.0)) None (Some (Record (named_of fs.0), fs.1))) _ e in
    let c = cond_none (has_repeated (map (λ f. f.0) b.0.0)) (Record (named_of b.0.0), b.0.1) (t, rest) b.2 in
    let f = fields_sound again h (length ws) ws b.0.0 b.0.1 b.1 in
    let Q : List (List ℕ × Tree) → Type 0 = λ fs. AllDiffer (map (λ f. f.0) fs) in
    let x : AllDiffer (map (λ f. f.0) (fields_of (named_of b.0.0))) = subst Q (sym (fields_of-named_of b.0.0)) (differ _ c.0) in
    let P : Tree → Type 0 = λ v. Reads g.primary (word.Symbol OpenBrace ∷ (f.0 ++ word.Symbol CloseBrace ∷ [])) v in (
      word.Symbol OpenBrace ∷ (f.0 ++ word.Symbol CloseBrace ∷ []),
      braces_front ws f.0 rest (f.1 ∙ ap (λ v. f.0 ++ word.Symbol CloseBrace ∷ v) (λ i. (c.1 i).1)),
      subst P (λ i. (c.1 i).0) (g.record_literal f.2 x),
    )

list_sound : (again : Reader) → SoundAt g.expression again → (ws : List Word) (t : Tree) (rest : List Word) → list_at again ws ≡ Some (t, rest) → Front g.primary t (word.Symbol OpenBrace ∷ ws) rest
list_sound again h ws t rest e =
    let b = bind_some (listed again (length ws) ws) (λ (ts : List Tree × List Word). Some (Array (trees_of ts.0), ts.1)) _ e in
    let p = some_pair_parts _ _ _ _ b.2 in
    let f = parts_sound again h (length ws) ws b.0.0 b.0.1 b.1 in
    let P : Tree → Type 0 = λ v. Reads g.primary (word.Symbol OpenBrace ∷ (f.0 ++ word.Symbol CloseBrace ∷ [])) v in (
      word.Symbol OpenBrace ∷ (f.0 ++ word.Symbol CloseBrace ∷ []),
      braces_front ws f.0 rest (f.1 ∙ ap (λ v. f.0 ++ word.Symbol CloseBrace ∷ v) p.1),
      subst P p.0 (g.list f.2),
    )

choose_sound : (b : Bool) (x y : Read) (t : Tree) (ws rest : List Word) → (x ≡ Some (t, rest) → Front g.primary t ws rest) → (y ≡ Some (t, rest) → Front g.primary t ws rest) → cond b x y ≡ Some (t, rest) → Front g.primary t ws rest
choose_sound true x y t ws rest f k e = f e
choose_sound false x y t ws rest f k e = k e

braces_sound : (again : Reader) → SoundAt g.expression again → (ws : List Word) (t : Tree) (rest : List Word) → in_braces again ws ≡ Some (t, rest) → Front g.primary t (word.Symbol OpenBrace ∷ ws) rest
braces_sound again h ws t rest e =
    elim (given_some (after CloseBrace ws) (cond (begins_record ws) (record_at again ws) (list_at again ws)) (λ (r : List Word). Some (Array (trees_of []), r)) (Some (t, rest)) e) [
      | inl k ↦ choose_sound (begins_record ws) (record_at again ws) (list_at again ws) t (word.Symbol OpenBrace ∷ ws) rest (record_sound again h ws t rest) (list_sound again h ws t rest) k.1
      | inr k ↦
          let p = some_pair_parts _ _ _ _ k.2 in
          let P : Tree → Type 0 = λ v. Reads g.primary (word.Symbol OpenBrace ∷ word.Symbol CloseBrace ∷ []) v in (
            word.Symbol OpenBrace ∷ word.Symbol CloseBrace ∷ [],
            ap (λ v. word.Symbol OpenBrace ∷ v) (after_some CloseBrace _ _ k.1 ∙ ap (λ v. word.Symbol CloseBrace ∷ v) p.1),
            subst P p.0 g.empty,
          )
    ]

-- primaries
leaf : (p : Phrase) (w : Word) (x t : Tree) (ws rest : List Word) → Reads p (w ∷ []) x → ◌≡◌ {A = Read} (Some (x, ws)) (Some (t, rest)) → Front p t (w ∷ ws) rest
leaf p w x t ws rest r e =
    let q = some_pair_parts _ _ _ _ e in
    let P : Tree → Type 0 = λ v. Reads p (w ∷ []) v in
    (w ∷ [], ap (λ v. w ∷ v) q.1, subst P q.0 r)

called_front : (p : Phrase) (s : Symbol) (x t : Tree) (ws a rest y : List Word) → ws ≡ a ++ y → Reads p (word.Symbol s ∷ a) x → ◌≡◌ {A = Read} (Some (x, y)) (Some (t, rest)) → Front p t (word.Symbol s ∷ ws) rest
called_front p s x t ws a rest y k r e =
    let q = some_pair_parts _ _ _ _ e in
    let P : Tree → Type 0 = λ v. Reads p (word.Symbol s ∷ a) v in
    (word.Symbol s ∷ a, ap (λ v. word.Symbol s ∷ v) (k ∙ ap (λ v. a ++ v) q.1), subst P q.0 r)

absolute_sound : (again : Reader) → SoundAt g.expression again → (ws : List Word) (t : Tree) (rest : List Word) → d.absolute again ws ≡ Some (t, rest) → Front g.primary t (word.Symbol Abs ∷ ws) rest
absolute_sound again h ws t rest e =
    let b = bind_some (one_operand again ws) (λ (a : Tree × List Word). Some (tree.Abs a.0, a.1)) _ e in
    let f = one_operand_sound again h ws b.0.0 b.0.1 b.1 in
    called_front g.primary Abs (tree.Abs b.0.0) t ws (word.Symbol Open ∷ (f.0 ++ word.Symbol Close ∷ [])) rest b.0.1 f.1 (g.absolute f.2) b.2

greater_sound : (again : Reader) → SoundAt g.expression again → (ws : List Word) (t : Tree) (rest : List Word) → d.greater again ws ≡ Some (t, rest) → Front g.primary t (word.Symbol Max ∷ ws) rest
greater_sound again h ws t rest e =
    let b = bind_some (two_operands again ws) (λ (both : (Tree × Tree) × List Word). Some (tree.Max both.0.0 both.0.1, both.1)) _ e in
    let f = two_operands_sound again h ws b.0.0 b.0.1 b.1 in
    called_front g.primary Max (tree.Max b.0.0.0 b.0.0.1) t ws (word.Symbol Open ∷ (f.0 ++ word.Symbol Comma ∷ (f.1 ++ word.Symbol Close ∷ []))) rest b.0.1 f.2 (g.greater f.3 f.4) b.2

lesser_sound : (again : Reader) → SoundAt g.expression again → (ws : List Word) (t : Tree) (rest : List Word) → d.lesser again ws ≡ Some (t, rest) → Front g.primary t (word.Symbol Min ∷ ws) rest
lesser_sound again h ws t rest e =
    let b = bind_some (two_operands again ws) (λ (both : (Tree × Tree) × List Word). Some (tree.Min both.0.0 both.0.1, both.1)) _ e in
    let f = two_operands_sound again h ws b.0.0 b.0.1 b.1 in
    called_front g.primary Min (tree.Min b.0.0.0 b.0.0.1) t ws (word.Symbol Open ∷ (f.0 ++ word.Symbol Comma ∷ (f.1 ++ word.Symbol Close ∷ []))) rest b.0.1 f.2 (g.lesser f.3 f.4) b.2

parentheses_sound : (again : Reader) → SoundAt g.expression again → (ws : List Word) (t : Tree) (rest : List Word) → (again ws >>= λ inner. closed Close inner.0 inner.1) ≡ Some (t, rest) → Front g.primary t (word.Symbol Open ∷ ws) rest
parentheses_sound again h ws t rest e =
    let b = bind_some (again ws) (λ (inner : Tree × List Word). closed Close inner.0 inner.1) _ e in
    let q = closed_some Close b.0.0 t b.0.1 rest b.2 in
    let f = h ws b.0.0 b.0.1 b.1 in
    let P : Tree → Type 0 = λ v. Reads g.primary (word.Symbol Open ∷ (f.0 ++ word.Symbol Close ∷ [])) v in
    (word.Symbol Open ∷ (f.0 ++ word.Symbol Close ∷ []), ap (λ v. word.Symbol Open ∷ v) (f.1 ∙ closing f.0 b.0.1 rest _ q.1), subst P q.0 (g.parentheses f.2))

symbol_sound : (again : Reader) → SoundAt g.expression again → (s : Symbol) (ws : List Word) (t : Tree) (rest : List Word) → primary_symbol again s ws ≡ Some (t, rest) → Front g.primary t (word.Symbol s ∷ ws) rest
symbol_sound again h True ws t rest e = leaf g.primary _ _ t ws rest g.truth e
symbol_sound again h False ws t rest e = leaf g.primary _ _ t ws rest g.falsehood e
symbol_sound again h Abs ws t rest e = absolute_sound again h ws t rest e
symbol_sound again h Max ws t rest e = greater_sound again h ws t rest e
symbol_sound again h Min ws t rest e = lesser_sound again h ws t rest e
symbol_sound again h Open ws t rest e = parentheses_sound again h ws t rest e
symbol_sound again h OpenBrace ws t rest e = braces_sound again h ws t rest e
symbol_sound again h s ws t rest e = cc

digits_small : (n : ℕ) (t : Tree) → positive n ≡ Some t → Reads g.primary (Digits n ∷ []) t
digits_small n t e =
    let c = cond_some (ltb n 0x8000_0000_0000_0000) (Int (pos n)) t e in
    let k : n < 2 ^ 63 = grind (arith, nat_tests) in
    let P : Tree → Type 0 = λ v. Reads g.primary (Digits n ∷ []) v in
    subst P c.1 (g.digits k)

primary_sound : (again : Reader) → SoundAt g.expression again → SoundAt g.primary (primary again)
primary_sound again h [] t rest e = cc
primary_sound again h (Digits n ∷ ws) t rest e =
    let b = bind_some (positive n) (λ (v : Tree). Some (v, ws)) _ e in
    leaf g.primary (Digits n) b.0 t ws rest (digits_small n b.0 b.1) b.2
primary_sound again h (Quoted text ∷ ws) t rest e = leaf g.primary _ _ t ws rest g.quoted e
primary_sound again h (word.Name name ∷ ws) t rest e = leaf g.primary _ _ t ws rest g.name e
primary_sound again h (word.Symbol s ∷ ws) t rest e = symbol_sound again h s ws t rest e

-- what follows a primary
same_text : (n m : List ℕ) → pointwise nat_eq n m ≡ true → n ≡ m
same_text n m e = (bytes_decides n m).0 e

empty_call_some : (ws rest : List Word) → empty_call ws ≡ Some rest → ws ≡ word.Symbol Open ∷ word.Symbol Close ∷ rest
empty_call_some ws rest e =
    let b = bind_some (after Open ws) (λ (inner : List Word). after Close inner) rest e in
    after_some Open ws b.0 b.1 ∙ ap (λ v. word.Symbol Open ∷ v) (after_some Close b.0 rest b.2)

abbrev chosen_field : Bool → Option (List Word) → Tree → List ℕ → List Word → Tree × List Word
chosen_field q o base n ws = cond q (given o (Field base n, ws) (λ rest. (Length base, rest))) (Field base n, ws)

field_sound : (a : List Word) (base : Tree) → Reads g.postfix a base → (n : List ℕ) (ws : List Word) → (b : List Word) × (a ++ word.Symbol Dot ∷ word.Name n ∷ ws ≡ b ++ (field_named base n ws).1) × Reads g.postfix b (field_named base n ws).0
field_sound a base r n ws = by_name (is_length n) refl (empty_call ws) refl
  where
    plain_field : (b : List Word) × (a ++ word.Symbol Dot ∷ word.Name n ∷ ws ≡ b ++ ws) × Reads g.postfix b (Field base n)
    plain_field = (a ++ word.Symbol Dot ∷ word.Name n ∷ [], simp append_assoc, g.field r)

    by_name : (q : Bool) → is_length n ≡ q → (o : Option (List Word)) → empty_call ws ≡ o
        → (b : List Word) × (a ++ word.Symbol Dot ∷ word.Name n ∷ ws ≡ b ++ (chosen_field q o base n ws).1) × Reads g.postfix b (chosen_field q o base n ws).0
    by_name true e None k = plain_field
    by_name true e (Some rest) k =
        let l = same_text n (codes "length") e in
        let w = empty_call_some ws rest k in
        let x : a ++ word.Symbol Dot ∷ word.Name n ∷ ws ≡ a ++ word.Symbol Dot ∷ word.Name (codes "length") ∷ word.Symbol Open ∷ word.Symbol Close ∷ rest = λ i. a ++ word.Symbol Dot ∷ word.Name (l i) ∷ w i in
        let y : a ++ word.Symbol Dot ∷ word.Name (codes "length") ∷ word.Symbol Open ∷ word.Symbol Close ∷ rest ≡ (a ++ word.Symbol Dot ∷ word.Name (codes "length") ∷ word.Symbol Open ∷ word.Symbol Close ∷ []) ++ rest = simp append_assoc in
        (a ++ word.Symbol Dot ∷ word.Name (codes "length") ∷ word.Symbol Open ∷ word.Symbol Close ∷ [], x ∙ y, g.length r)
    by_name false e o k = plain_field

abbrev Followed : List Word → List Word → Tree → List Word → Type 0
Followed a ws u rest = (b : List Word) × (a ++ ws ≡ b ++ rest) × Reads g.postfix b u

suffix_sound : (again : Reader) → SoundAt g.expression again → (a : List Word) (base : Tree) → Reads g.postfix a base → (ws : List Word) (u : Tree) (rest : List Word) → suffix again base ws ≡ Some (u, rest) → Followed a ws u rest
suffix_sound again h a base r ws u rest e =
    elim (given_some (after Open ws) (after Dot ws >>= λ r. name_first r >>= λ n. Some (field_named base n.0 n.1)) (λ (k : List Word). called again base k) (Some (u, rest)) e) [
      | inl k ↦
          let d = bind_some (after Dot ws) (λ (r : List Word). name_first r >>= λ n. Some (field_named base n.0 n.1)) _ k.1 in
          let n = bind_some (name_first d.0) (λ (n : List ℕ × List Word). Some (field_named base n.0 n.1)) _ d.2 in
          let q = same_Some _ _ n.2 in
          let f = field_sound a base r n.0.0 n.0.1 in
          let w : ws ≡ word.Symbol Dot ∷ word.Name n.0.0 ∷ n.0.1 = after_some Dot ws d.0 d.1 ∙ ap (λ v. word.Symbol Dot ∷ v) (name_first_some d.0 n.0.0 n.0.1 n.1) in
          let P : Tree → Type 0 = λ v. Reads g.postfix f.0 v in
          (f.0, ap (λ v. a ++ v) w ∙ f.1 ∙ ap (λ v. f.0 ++ v) (λ i. (q i).1), subst P (λ i. (q i).0) f.2)
      | inr k ↦
          let b = bind_some (again k.0) (λ (index : Tree × List Word). closed Close (Apply base index.0) index.1) _ k.2 in
          let q = closed_some Close (Apply base b.0.0) u b.0.1 rest b.2 in
          let f = h k.0 b.0.0 b.0.1 b.1 in
          let P : Tree → Type 0 = λ v. Reads g.postfix (a ++ word.Symbol Open ∷ (f.0 ++ word.Symbol Close ∷ [])) v in (
            a ++ word.Symbol Open ∷ (f.0 ++ word.Symbol Close ∷ []),
            joined_at (a ++ ws) a ws k.0 (f.0 ++ word.Symbol Close ∷ []) rest (word.Symbol Open) refl (after_some Open ws k.0 k.1) (f.1 ∙ closing f.0 b.0.1 rest _ q.1),
            subst P q.0 (g.applied r f.2),
          )
    ]

next_suffix_by : (b : Bool) (again : Reader) (t : Tree) (ws : List Word) (read : Read) → option_map (λ v. suffix again t v) (cond b (Some ws) None) ≡ Some read → suffix again t ws ≡ read
next_suffix_by true again t ws read e = same_Some _ _ e
next_suffix_by false again t ws read e = cc

next_suffix_some : (again : Reader) (t : Tree) (ws : List Word) (read : Read) → next_suffix again t ws ≡ Some read → suffix again t ws ≡ read
next_suffix_some again t ws read e = next_suffix_by (eqb (binding_at ws) 8) again t ws read e

next_none_by : (b : Bool) (again : Reader) (t : Tree) (ws : List Word) → option_map (λ v. suffix again t v) (cond b (Some ws) None) ≡ None → b ≡ false
next_none_by true again t ws e = cc
next_none_by false again t ws e = refl

next_suffix_none : (again : Reader) (t : Tree) (ws : List Word) → next_suffix again t ws ≡ None → eqb (binding_at ws) 8 ≡ false
next_suffix_none again t ws e = next_none_by (eqb (binding_at ws) 8) again t ws e

more_suffixes : (again : Reader) → SoundAt g.expression again → (turns : ℕ) (a : List Word) (t : Tree) → Reads g.postfix a t → (ws : List Word) (u : Tree) (rest : List Word)
    → repeated (next_suffix again) turns t ws ≡ Some (u, rest) → Followed a ws u rest
more_suffixes again h zero a t r ws u rest e =
    let p = some_pair_parts _ _ _ _ e in
    let P : Tree → Type 0 = λ v. Reads g.postfix a v in
    (a, ap (λ v. a ++ v) p.1, subst P p.0 r)
more_suffixes again h (suc turns) a t r ws u rest e =
    elim (given_some (next_suffix again t ws) (Some (t, ws)) (λ (read : Read). read >>= λ x. repeated (next_suffix again) turns x.0 x.1) (Some (u, rest)) e) [
      | inl k ↦
          let p = some_pair_parts _ _ _ _ k.1 in
          let P : Tree → Type 0 = λ v. Reads g.postfix a v in
          (a, ap (λ v. a ++ v) p.1, subst P p.0 r)
      | inr k ↦
          let b = bind_some k.0 (λ (x : Tree × List Word). repeated (next_suffix again) turns x.0 x.1) _ k.2 in
          let c = next_suffix_some again t ws k.0 k.1 in
          let s = suffix_sound again h a t r ws b.0.0 b.0.1 (c ∙ b.1) in
          let i = more_suffixes again h turns s.0 b.0.0 s.2 b.0.1 u rest b.2 in
          (i.0, s.1 ∙ i.1, i.2)
    ]

postfix_sound : (again : Reader) → SoundAt g.expression again → SoundAt g.postfix (postfix again)
postfix_sound again h ws t rest e =
    let b = bind_some (primary again ws) (λ (first : Tree × List Word). suffixes again first.0 first.1) _ e in
    let f = primary_sound again h ws b.0.0 b.0.1 b.1 in
    let i = more_suffixes again h (length b.0.1) f.0 b.0.0 (g.alone f.2) b.0.1 t rest b.2 in
    (i.0, f.1 ∙ i.1, i.2)

-- behind a postfix no call or field stands
field_rest : (base : Tree) (n : List ℕ) (ws : List Word) → length (field_named base n ws).1 ≤ length ws
field_rest base n ws = by_name (is_length n) (empty_call ws) refl
  where
    by_name : (q : Bool) (o : Option (List Word)) → empty_call ws ≡ o → length (chosen_field q o base n ws).1 ≤ length ws
    by_name true None k = omega arith
    by_name true (Some rest) k = let e = ap length (empty_call_some ws rest k) in omega arith
    by_name false o k = omega arith

suffix_shorter : (again : Reader) → SoundAt g.expression again → (base : Tree) (ws : List Word) (u : Tree) (rest : List Word) → suffix again base ws ≡ Some (u, rest) → length rest < length ws
suffix_shorter again h base ws u rest e =
    elim (given_some (after Open ws) (after Dot ws >>= λ r. name_first r >>= λ n. Some (field_named base n.0 n.1)) (λ (k : List Word). called again base k) (Some (u, rest)) e) [
      | inl k ↦
          let d = bind_some (after Dot ws) (λ (r : List Word). name_first r >>= λ n. Some (field_named base n.0 n.1)) _ k.1 in
          let n = bind_some (name_first d.0) (λ (n : List ℕ × List Word). Some (field_named base n.0 n.1)) _ d.2 in
          let q = same_Some _ _ n.2 in
          let f = field_rest base n.0.0 n.0.1 in
          let x : length (field_named base n.0.0 n.0.1).1 ≡ length rest = ap length (λ i. (q i).1) in
          let y = ap length (after_some Dot ws d.0 d.1) in
          let z = ap length (name_first_some d.0 n.0.0 n.0.1 n.1) in
          omega arith
      | inr k ↦
          let b = bind_some (again k.0) (λ (index : Tree × List Word). closed Close (Apply base index.0) index.1) _ k.2 in
          let q = closed_some Close (Apply base b.0.0) u b.0.1 rest b.2 in
          let f = h k.0 b.0.0 b.0.1 b.1 in
          let x = ap length (after_some Open ws k.0 k.1) in
          let y : length k.0 ≡ length f.0 + length b.0.1 = ap length f.1 ∙ length-append f.0 b.0.1 in
          let z = ap length q.1 in
          omega arith
    ]

suffixes_stop : (again : Reader) → SoundAt g.expression again → (turns : ℕ) (t : Tree) (ws : List Word) (u : Tree) (rest : List Word) → length ws ≤ turns
    → repeated (next_suffix again) turns t ws ≡ Some (u, rest) → eqb (binding_at rest) 8 ≡ false
suffixes_stop again h zero t [] u rest l e =
    let p = some_pair_parts _ _ _ _ e in
    let P : List Word → Type 0 = λ v. eqb (binding_at v) 8 ≡ false in
    subst P p.1 refl
suffixes_stop again h zero t (w ∷ ws) u rest l e = absurd (omega arith)
suffixes_stop again h (suc turns) t ws u rest l e =
    elim (given_some (next_suffix again t ws) (Some (t, ws)) (λ (read : Read). read >>= λ x. repeated (next_suffix again) turns x.0 x.1) (Some (u, rest)) e) [
      | inl k ↦
          let p = some_pair_parts _ _ _ _ k.1 in
          let P : List Word → Type 0 = λ v. eqb (binding_at v) 8 ≡ false in
          subst P p.1 (next_suffix_none again t ws k.0)
      | inr k ↦
          let b = bind_some k.0 (λ (x : Tree × List Word). repeated (next_suffix again) turns x.0 x.1) _ k.2 in
          let c = next_suffix_some again t ws k.0 k.1 in
          let s = suffix_shorter again h t ws b.0.0 b.0.1 (c ∙ b.1) in
          suffixes_stop again h turns b.0.0 b.0.1 u rest (omega arith) b.2
    ]

postfix_stops : (again : Reader) → SoundAt g.expression again → (ws : List Word) (t : Tree) (rest : List Word) → postfix again ws ≡ Some (t, rest) → eqb (binding_at rest) 8 ≡ false
postfix_stops again h ws t rest e =
    let b = bind_some (primary again ws) (λ (first : Tree × List Word). suffixes again first.0 first.1) _ e in
    suffixes_stop again h (length b.0.1) b.0.0 b.0.1 t rest (omega arith) b.2

-- signs
bare_some : (ws : List Word) (n : ℕ) (rest : List Word) → bare_digits ws ≡ Some (n, rest) → (ws ≡ Digits n ∷ rest) × (eqb (binding_at rest) 8 ≡ false)
bare_some [] n rest e = cc
bare_some (Digits m ∷ ws) n rest e =
    let c = cond_none (eqb (binding_at ws) 8) (m, ws) (n, rest) e in
    let P : List Word → Type 0 = λ v. eqb (binding_at v) 8 ≡ false in
    ((λ i. Digits (c.1 i).0 ∷ (c.1 i).1), subst P (λ i. (c.1 i).1) c.0)
bare_some (Quoted text ∷ ws) n rest e = cc
bare_some (word.Name name ∷ ws) n rest e = cc
bare_some (word.Symbol s ∷ ws) n rest e = cc

not_bare : {A : Type 0} (b : Bool) (x : A) → cond b None (Some x) ≡ None → b ≡ true
not_bare true x e = refl
not_bare false x e = cc

eqb_same : (m n : ℕ) → eqb m n ≡ true → m ≡ n
eqb_same m n e = grind (arith, nat_tests)

bare_none : (a rest : List Word) → bare_digits (a ++ rest) ≡ None → 0 < length a → eqb (binding_at rest) 8 ≡ false → IsNegated a
bare_none [] rest e l s = absurd (omega arith)
bare_none (Digits n ∷ []) rest e l s = let t = not_bare (eqb (binding_at rest) 8) (n, rest) e in absurd (let z : false ≡ true = sym s ∙ t in cc)
bare_none (Digits n ∷ w ∷ ws) rest e l s = eqb_same _ _ (not_bare (eqb (binding w) 8) (n, w ∷ (ws ++ rest)) e)
bare_none (Quoted text ∷ ws) rest e l s = tt
bare_none (word.Name name ∷ ws) rest e l s = tt
bare_none (word.Symbol r ∷ ws) rest e l s = tt

behind : (a : List Word) (w : Word) (b : List Word) → 0 < length (a ++ w ∷ b)
behind a w b = omega (arith, length-append a (w ∷ b))

pub some_words : {p : Phrase} {ws : List Word} {t : Tree} → Reads p ws t → 0 < length ws
some_words (g.plain r) = some_words r
some_words (g.condition {a = a} {b = b} {d = d} r s q) = behind a (word.Symbol Question) (b ++ word.Symbol Colon ∷ d)
some_words (g.operand r) = some_words r
some_words (g.grouped {a = a} {b = b} w m r o s) = behind a w b
some_words (g.compared {a = a} {b = b} w r o s) = behind a w b
some_words (g.unsigned r) = some_words r
some_words (g.negative l) = omega arith
some_words (g.negated l r) = omega arith
some_words (g.denied r) = omega arith
some_words (g.alone r) = some_words r
some_words (g.applied {a = a} {b = b} r s) = behind a (word.Symbol Open) (b ++ word.Symbol Close ∷ [])
some_words (g.field {a = a} {n = n} r) = behind a (word.Symbol Dot) (word.Name n ∷ [])
some_words (g.length {a = a} r) = behind a (word.Symbol Dot) (word.Name (codes "length") ∷ word.Symbol Open ∷ word.Symbol Close ∷ [])
some_words (g.digits l) = omega arith
some_words g.quoted = omega arith
some_words g.truth = omega arith
some_words g.falsehood = omega arith
some_words g.name = omega arith
some_words (g.parentheses r) = omega arith
some_words g.empty = omega arith
some_words (g.list r) = omega arith
some_words (g.record_literal r x) = omega arith
some_words (g.absolute r) = omega arith
some_words (g.greater r s) = omega arith
some_words (g.lesser r s) = omega arith

negative_small : (n : ℕ) (t : Tree) → d.negative n ≡ Some t → Reads g.unary (word.Symbol Minus ∷ Digits n ∷ []) t
negative_small n t e =
    let c = cond_some (leb n 0x8000_0000_0000_0000) (Int (neg_ℤ (pos n))) t e in
    let k : n ≤ 2 ^ 63 = grind (arith, nat_tests) in
    let P : Tree → Type 0 = λ v. Reads g.unary (word.Symbol Minus ∷ Digits n ∷ []) v in
    subst P c.1 (g.negative k)

abbrev denied_by : Reader → Reader
denied_by again ws = unary again ws >>= λ operand. Some (tree.Not operand.0, operand.1)

abbrev Signed : Reader → List Word → Type 0
Signed again ws = (t : Tree) (rest : List Word) → unary again ws ≡ Some (t, rest) → Front g.unary t ws rest × (eqb (binding_at rest) 8 ≡ false)

minus_sound : (again : Reader) → (ws : List Word) → Signed again ws → (t : Tree) (rest : List Word)
    → d.minus again ws ≡ Some (t, rest)
    → Front g.unary t (word.Symbol Minus ∷ ws) rest × (eqb (binding_at rest) 8 ≡ false)
minus_sound again ws h t rest e =
    elim (given_some (bare_digits ws) (unary again ws >>= λ (operand : Tree × List Word). Some (Negate operand.0, operand.1)) (λ (x : ℕ × List Word). d.signed_literal x.0 x.1) (Some (t, rest)) e) [
      | inl k ↦
          let b = bind_some (unary again ws) (λ (operand : Tree × List Word). Some (Negate operand.0, operand.1)) _ k.1 in
          let f = h b.0.0 b.0.1 b.1 in
          let q = some_pair_parts _ _ _ _ b.2 in
          let B : List Word → Type 0 = λ v. bare_digits v ≡ None in
          let n : IsNegated f.0.0 = bare_none f.0.0 b.0.1 (subst B f.0.1 k.0) (some_words f.0.2) f.1 in
          let P : Tree → Type 0 = λ v. Reads g.unary (word.Symbol Minus ∷ f.0.0) v in
          let S : List Word → Type 0 = λ v. eqb (binding_at v) 8 ≡ false in
          ((word.Symbol Minus ∷ f.0.0, ap (λ v. word.Symbol Minus ∷ v) (f.0.1 ∙ ap (λ v. f.0.0 ++ v) q.1), subst P q.0 (g.negated n f.0.2)), subst S q.1 f.1)
      | inr k ↦
          let b = bind_some (d.negative k.0.0) (λ (v : Tree). Some (v, k.0.1)) _ k.2 in
          let q = some_pair_parts _ _ _ _ b.2 in
          let c = bare_some ws k.0.0 k.0.1 k.1 in
          let P : Tree → Type 0 = λ v. Reads g.unary (word.Symbol Minus ∷ Digits k.0.0 ∷ []) v in
          let S : List Word → Type 0 = λ v. eqb (binding_at v) 8 ≡ false in
          ((word.Symbol Minus ∷ Digits k.0.0 ∷ [], ap (λ v. word.Symbol Minus ∷ v) (c.0 ∙ ap (λ v. Digits k.0.0 ∷ v) q.1), subst P q.0 (negative_small k.0.0 b.0 b.1)), subst S q.1 c.1)
    ]

not_sound : (again : Reader) → (ws : List Word) → Signed again ws → (t : Tree) (rest : List Word)
    → denied_by again ws ≡ Some (t, rest)
    → Front g.unary t (word.Symbol Not ∷ ws) rest × (eqb (binding_at rest) 8 ≡ false)
not_sound again ws h t rest e =
    let b = bind_some (unary again ws) (λ (operand : Tree × List Word). Some (tree.Not operand.0, operand.1)) _ e in
    let f = h b.0.0 b.0.1 b.1 in
    let q = some_pair_parts _ _ _ _ b.2 in
    let P : Tree → Type 0 = λ v. Reads g.unary (word.Symbol Not ∷ f.0.0) v in
    let S : List Word → Type 0 = λ v. eqb (binding_at v) 8 ≡ false in
    ((word.Symbol Not ∷ f.0.0, ap (λ v. word.Symbol Not ∷ v) (f.0.1 ∙ ap (λ v. f.0.0 ++ v) q.1), subst P q.0 (g.denied f.0.2)), subst S q.1 f.1)

by_sign : (again : Reader) → SoundAt g.expression again → (w : Word) (ws : List Word) → Signed again ws → (a b : Bool) → is_symbol Minus w ≡ a → is_symbol Not w ≡ b → (t : Tree) (rest : List Word)
    → cond a (d.minus again ws) (cond b (denied_by again ws) (postfix again (w ∷ ws))) ≡ Some (t, rest)
    → Front g.unary t (w ∷ ws) rest × (eqb (binding_at rest) 8 ≡ false)
by_sign again h w ws s true b p q t rest e =
    let x : w ≡ word.Symbol Minus = is_symbol_true Minus w p in
    let P : Word → Type 0 = λ v. Front g.unary t (v ∷ ws) rest × (eqb (binding_at rest) 8 ≡ false) in
    subst P (sym x) (minus_sound again ws s t rest e)
by_sign again h w ws s false true p q t rest e =
    let x : w ≡ word.Symbol Not = is_symbol_true Not w q in
    let P : Word → Type 0 = λ v. Front g.unary t (v ∷ ws) rest × (eqb (binding_at rest) 8 ≡ false) in
    subst P (sym x) (not_sound again ws s t rest e)
by_sign again h w ws s false false p q t rest e =
    let f = postfix_sound again h (w ∷ ws) t rest e in
    ((f.0, f.1, g.unsigned f.2), postfix_stops again h (w ∷ ws) t rest e)

signed : (again : Reader) → SoundAt g.expression again → (ws : List Word) → Signed again ws
signed again h [] t rest e = cc
signed again h (w ∷ ws) t rest e = by_sign again h w ws (signed again h ws) (is_symbol Minus w) (is_symbol Not w) refl refl t rest e

unary_sound : (again : Reader) → SoundAt g.expression again → SoundAt g.unary (unary again)
unary_sound again h ws t rest e = (signed again h ws t rest e).0

-- the levels
term_sound : (again : Reader) → SoundAt g.expression again → SoundAt (g.operators level.Term) (term again)
term_sound again h = level_repeats level.Term tt (unary again) (unary_sound again h)

sum_sound : (again : Reader) → SoundAt g.expression again → SoundAt (g.operators level.Sum) (sum again)
sum_sound again h = level_repeats level.Sum tt (term again) (term_sound again h)

comparison_sound : (again : Reader) → SoundAt g.expression again → SoundAt (g.operators level.Comparison) (comparison again)
comparison_sound again h = level_compares (sum again) (sum_sound again h)

equality_sound : (again : Reader) → SoundAt g.expression again → SoundAt (g.operators level.Equality) (equality again)
equality_sound again h = level_repeats level.Equality tt (comparison again) (comparison_sound again h)

conjunction_sound : (again : Reader) → SoundAt g.expression again → SoundAt (g.operators level.And) (conjunction again)
conjunction_sound again h = level_repeats level.And tt (equality again) (equality_sound again h)

disjunction_sound : (again : Reader) → SoundAt g.expression again → SoundAt (g.operators level.Or) (disjunction again)
disjunction_sound again h = level_repeats level.Or tt (conjunction again) (conjunction_sound again h)

chosen_sound : (again : Reader) → SoundAt g.expression again → (ws : List Word) (t : Tree) (rest : List Word) → d.choice again ws ≡ Some (t, rest) → Front g.expression t ws rest
chosen_sound again h ws t rest e =
    let b = bind_some (disjunction again ws) (λ (test : Tree × List Word). chosen again test.0 test.1) _ e in
    let f = disjunction_sound again h ws b.0.0 b.0.1 b.1 in
    elim (given_some (after Question b.0.1) (Some (b.0.0, b.0.1)) (λ (r : List Word). again r >>= λ yes. after Colon yes.1 >>= λ more. again more >>= λ no. Some (Cond b.0.0 yes.0 no.0, no.1)) (Some (t, rest)) b.2) [
      | inl k ↦
          let p = some_pair_parts _ _ _ _ k.1 in
          let P : Tree → Type 0 = λ v. Reads g.expression f.0 v in
          (f.0, f.1 ∙ ap (λ v. f.0 ++ v) p.1, subst P p.0 (g.plain f.2))
      | inr k ↦
          let y = bind_some (again k.0) (λ (yes : Tree × List Word). after Colon yes.1 >>= λ more. again more >>= λ no. Some (Cond b.0.0 yes.0 no.0, no.1)) _ k.2 in
          let c = bind_some (after Colon y.0.1) (λ (more : List Word). again more >>= λ no. Some (Cond b.0.0 y.0.0 no.0, no.1)) _ y.2 in
          let n = bind_some (again c.0) (λ (no : Tree × List Word). Some (Cond b.0.0 y.0.0 no.0, no.1)) _ c.2 in
          let p = some_pair_parts _ _ _ _ n.2 in
          let fy = h k.0 y.0.0 y.0.1 y.1 in
          let fn = h c.0 n.0.0 n.0.1 n.1 in
          let P : Tree → Type 0 = λ v. Reads g.expression (f.0 ++ word.Symbol Question ∷ (fy.0 ++ word.Symbol Colon ∷ fn.0)) v in (
            f.0 ++ word.Symbol Question ∷ (fy.0 ++ word.Symbol Colon ∷ fn.0),
            joined_at ws f.0 b.0.1 k.0 (fy.0 ++ word.Symbol Colon ∷ fn.0) rest (word.Symbol Question) f.1 (after_some Question _ _ k.1)
                (joined_at k.0 fy.0 y.0.1 c.0 fn.0 rest (word.Symbol Colon) fy.1 (after_some Colon _ _ c.1) (fn.1 ∙ ap (λ v. fn.0 ++ v) p.1)),
            subst P p.0 (g.condition f.2 fy.2 fn.2),
          )
    ]

-- what the reader reads is in the grammar
pub expression_sound : (depth : ℕ) → SoundAt g.expression (reading depth)
unfolding reading
expression_sound zero ws t rest e = cc
expression_sound (suc depth) ws t rest e = chosen_sound (reading depth) (expression_sound depth) ws t rest e
