-- A turn of a loop over what repeats.
use Rattle.std.proofs.Common.{◌≡◌, ℕ, zero, suc, ◌+◌, ◌-◌, ◌<◌, ◌≤◌, List, [], ◌∷◌, ◌++◌, Option, Some, None, option_map, cond, refl, sym, ◌∙◌, ap, subst, append_assoc, append-nil, arith}
use Rattle.pt_language.specs.Tree.{Tree}
use Rattle.pt_language.specs.declared.word.Word.{Word}
use Rattle.pt_language.specs.Tree as tree
use Rattle.std.proofs.lemmas.Option.{cond_some}
use Rattle.pt_language.specs.declared.parse_fault.ParseFault.{ParseFault}
use Rattle.pt_language.specs.declared.parse_fault.ParseFault.TheVariants.{Syntax, Deep, Memory}
use Rattle.pt_language.specs.ReaderFault.{Fails}
use Rattle.pt_language.specs.declared.word.Symbol.TheVariants.{CloseBrace, Comma, Minus, Not}
use Rattle.pt_language.specs.Symbol.{after, is_symbol}
use Rattle.pt_language.specs.Descent.{expression as reading}
use Rattle.pt_language.specs.Descent.{Read, Reader, ◌>>=◌, given, closed, repeated, listed, choice, unary, minus, postfix}

abbrev Next : Type 0
Next = Tree → List Word → Option Read

-- what n - i turns give, from those that one turn fewer give
at_turn : (n i : ℕ) → i < n → n - i ≡ suc (n - (i + 1))
at_turn n i h = omega arith

pub step_more : (next : Next) (k : ℕ) (t u : Tree) (ws rest : List Word) (read : Read) → next t ws ≡ Some read → read ≡ Some (u, rest) → repeated next (suc k) t ws ≡ repeated next k u rest
step_more next k t u ws rest read e f =
    let x : given (next t ws) (Some (t, ws)) (λ (r : Read). r >>= λ x. repeated next k x.0 x.1) ≡ given (Some read) (Some (t, ws)) (λ (r : Read). r >>= λ x. repeated next k x.0 x.1) = ap (λ (o : Option Read). given o (Some (t, ws)) (λ (r : Read). r >>= λ x. repeated next k x.0 x.1)) e in
    x ∙ ap (λ (r : Read). r >>= λ x. repeated next k x.0 x.1) f

step_fails : (next : Next) (k : ℕ) (t : Tree) (ws : List Word) (read : Read) → next t ws ≡ Some read → read ≡ None → repeated next (suc k) t ws ≡ None
step_fails next k t ws read e f =
    let x : given (next t ws) (Some (t, ws)) (λ (r : Read). r >>= λ x. repeated next k x.0 x.1) ≡ given (Some read) (Some (t, ws)) (λ (r : Read). r >>= λ x. repeated next k x.0 x.1) = ap (λ (o : Option Read). given o (Some (t, ws)) (λ (r : Read). r >>= λ x. repeated next k x.0 x.1)) e in
    x ∙ ap (λ (r : Read). r >>= λ x. repeated next k x.0 x.1) f

pub turn_more : (next : Next) (n i : ℕ) (t u : Tree) (ws rest : List Word) (read : Read) → i < n → next t ws ≡ Some read → read ≡ Some (u, rest) → repeated next (n - i) t ws ≡ repeated next (n - (i + 1)) u rest
turn_more next n i t u ws rest read h e f =
    ap (λ k. repeated next k t ws) (at_turn n i h) ∙ step_more next (n - (i + 1)) t u ws rest read e f

pub turn_fails : (next : Next) (n i : ℕ) (t : Tree) (ws : List Word) (read : Read) → i < n → next t ws ≡ Some read → read ≡ None → repeated next (n - i) t ws ≡ None
turn_fails next n i t ws read h e f =
    ap (λ k. repeated next k t ws) (at_turn n i h) ∙ step_fails next (n - (i + 1)) t ws read e f

pub turn_stops : (next : Next) (k : ℕ) (t : Tree) (ws : List Word) → next t ws ≡ None → repeated next k t ws ≡ Some (t, ws)
turn_stops next zero t ws e = refl
turn_stops next (suc k) t ws e = ap (λ (o : Option Read). given o (Some (t, ws)) (λ (r : Read). r >>= λ x. repeated next k x.0 x.1)) e

pub turns_over : (next : Next) (n i : ℕ) (t : Tree) (ws : List Word) → n ≤ i → repeated next (n - i) t ws ≡ Some (t, ws)
turns_over next n i t ws h =
    let q : n - i ≡ zero = omega arith in
    ap (λ k. repeated next k t ws) q

-- the same for things with commas between them
abbrev pub with_front : {A : Type 0} → List A → Option (List A × List Word) → Option (List A × List Word)
with_front done read = option_map (λ r. (done ++ r.0, r.1)) read

with_one : {A : Type 0} (done : List A) (x : A) (read : Option (List A × List Word)) → with_front done (read >>= λ others. Some (x ∷ others.0, others.1)) ≡ with_front (done ++ x ∷ []) read
with_one done x None = refl
with_one done x (Some r) =
    let e : done ++ (x ∷ r.0) ≡ (done ++ x ∷ []) ++ r.0 = simp append_assoc in
    ap (λ v. Some (v, r.1)) e

module _ {A : Type 0} (one : List Word → Option (A × List Word)) (n i : ℕ) (ws : List Word) where
  abbrev behind_first : A × List Word → Option (List A × List Word)
  behind_first first = given (after Comma first.1) (closed CloseBrace (first.0 ∷ []) first.1) (λ rest. listed one (n - (i + 1)) rest >>= λ others. Some (first.0 ∷ others.0, others.1))

  at_list : i < n → listed one (n - i) ws ≡ (one ws >>= behind_first)
  at_list h = ap (λ k. listed one k ws) (at_turn n i h)

  pub list_more : (done : List A) (x : A) (behind rest : List Word) → i < n → one ws ≡ Some (x, behind) → after Comma behind ≡ Some rest → with_front done (listed one (n - i) ws) ≡ with_front (done ++ x ∷ []) (listed one (n - (i + 1)) rest)
  list_more done x behind rest h e f =
      ap (with_front done) (at_list h ∙ ap (λ o. o >>= behind_first) e ∙ ap (λ o. given o (closed CloseBrace (x ∷ []) behind) (λ rest. listed one (n - (i + 1)) rest >>= λ others. Some (x ∷ others.0, others.1))) f)
      ∙ with_one done x (listed one (n - (i + 1)) rest)

  pub list_ends : (done : List A) (x : A) (behind rest : List Word) → i < n → one ws ≡ Some (x, behind) → after Comma behind ≡ None → after CloseBrace behind ≡ Some rest → with_front done (listed one (n - i) ws) ≡ Some (done ++ x ∷ [], rest)
  list_ends done x behind rest h e f c =
      ap (with_front done) (at_list h ∙ ap (λ o. o >>= behind_first) e ∙ ap (λ o. given o (closed CloseBrace (x ∷ []) behind) (λ rest. listed one (n - (i + 1)) rest >>= λ others. Some (x ∷ others.0, others.1))) f
      ∙ ap (λ o. o >>= λ rest. Some (x ∷ [], rest)) c)

  pub list_unclosed : (done : List A) (x : A) (behind : List Word) → i < n → one ws ≡ Some (x, behind) → after Comma behind ≡ None → after CloseBrace behind ≡ None → with_front done (listed one (n - i) ws) ≡ None
  list_unclosed done x behind h e f c =
      ap (with_front done) (at_list h ∙ ap (λ o. o >>= behind_first) e ∙ ap (λ o. given o (closed CloseBrace (x ∷ []) behind) (λ rest. listed one (n - (i + 1)) rest >>= λ others. Some (x ∷ others.0, others.1))) f
      ∙ ap (λ (o : Option (List Word)). o >>= λ rest. Some (x ∷ [], rest)) c)

  pub list_fails : (done : List A) → i < n → one ws ≡ None → with_front done (listed one (n - i) ws) ≡ None
  list_fails done h e = ap (with_front done) (at_list h ∙ ap (λ o. o >>= behind_first) e)

  pub list_over : (done : List A) → n ≤ i → with_front done (listed one (n - i) ws) ≡ None
  list_over done h =
      let q : n - i ≡ zero = omega arith in
      ap (λ k. with_front done (listed one k ws)) q

-- an expression in which one fewer may stand
pub reading_none : (depth : ℕ) (ws : List Word) → depth ≡ 0 → reading depth ws ≡ None
unfolding reading
reading_none depth ws e = ap (λ n. reading n ws) e

pub reading_more : (depth : ℕ) (ws : List Word) → 0 < depth → reading depth ws ≡ choice (reading (depth - 1)) ws
unfolding reading
reading_more depth ws h =
    let q : depth ≡ suc (depth - 1) = omega arith in
    ap (λ n. reading n ws) q

-- a fault in a turn is a fault of all
pub list_fault : {A : Type 0} (one : List Word → Option (A × List Word)) (n i : ℕ) (ws : List Word) (done : List A) (f : ParseFault) (all : Option (List A × List Word)) → i < n → Fails f (one ws) → with_front done (listed one (n - i) ws) ≡ all → Fails f all
list_fault one n i ws done Syntax all h e q = sym q ∙ list_fails one n i ws done h e
list_fault one n i ws done Deep all h e q = e
list_fault one n i ws done Memory all h e q = tt

pub close_fault : {A : Type 0} (one : List Word → Option (A × List Word)) (n i : ℕ) (ws : List Word) (done : List A) (x : A) (behind : List Word) (f : ParseFault) (all : Option (List A × List Word)) → i < n → one ws ≡ Some (x, behind) → after Comma behind ≡ None → Fails f (after CloseBrace behind) → with_front done (listed one (n - i) ws) ≡ all → Fails f all
close_fault one n i ws done x behind Syntax all h e k c q = sym q ∙ list_unclosed one n i ws done x behind h e k c
close_fault one n i ws done x behind Deep all h e k c q = c
close_fault one n i ws done x behind Memory all h e k c q = tt

-- a minus at the front
pub unary_minus : (again : Reader) (ws rest : List Word) → after Minus ws ≡ Some rest → unary again ws ≡ minus again rest
unary_minus again [] rest e = cc
unary_minus again (w ∷ ws) rest e =
    let p = cond_some (is_symbol Minus w) ws rest e in
    ap (λ b. cond b (minus again ws) (cond (is_symbol Not w) (unary again ws >>= λ (operand : Tree × List Word). Some (tree.Not operand.0, operand.1)) (postfix again (w ∷ ws)))) p.0 ∙ ap (minus again) p.1
