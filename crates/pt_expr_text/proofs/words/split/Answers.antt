use Rattle.std.proofs.Common.{◌≡◌, ◌++◌, ◌∷◌, [], List, ℕ, Some, None, sym, subst, append_assoc, append-nil, rules}
use Rattle.pt_language.specs.declared.word.Word.{Word}
use Rattle.pt_language.specs.Words.{Splits, word_at, without_blanks}
use Rattle.pt_expr_text.proofs.Splitting.{SplitsFrom, none, more, splits_from}
use Rattle.pt_expr_text.proofs.words.split.Goals as goal

pub loop-words-init : goal.loop-words-init
loop-words-init c =
    (λ ws left s. rw c.new-words.ensures.items (splits_from c.args.text.now c.without_blanks-rest.result.now left ws c.without_blanks-rest.ensures s), c.without_blanks-rest.utf8)

pub word_at-requires-text-text : goal.word_at-requires-text-text
word_at-requires-text-text c = λ _. c.loop-words.invariant.1

pub loop-words-preserved : goal.loop-words-preserved
loop-words-preserved c =
    let rest = c.loop-words.rest.now in
    let after = c.in-Some.after.now in
    let word = c.in-Some.word in
    let v : word_at rest ≡ Some (word, after) = sym (rw c.in-Some.is at c.in_ok-word.ensures.value) in
    let b : c.push.new.self.items ≡ c.loop-words.words.items ++ word ∷ [] = search rules in (
      λ ws left s.
          let P : List ℕ → Type 0 = λ t. SplitsFrom t ws left in
          let t : SplitsFrom (without_blanks after) ws left = subst P c.without_blanks-rest-in-Some.ensures s in
          let done : Splits c.args.text.now (c.loop-words.words.items ++ (word ∷ ws)) left = c.loop-words.invariant.0 (word ∷ ws) left (more v t) in
          rw (b, append_assoc) done,
      c.without_blanks-rest-in-Some.utf8,
    )

pub fact_in-rest : goal.fact_in-rest
fact_in-rest c = c.loop-words.invariant.1

pub returns : goal.returns
returns c =
    let rest = c.loop-words.rest.now in
    let h : word_at rest ≡ None = sym (rw c.in_default.is at c.in_ok-word.ensures.value) in
    let done = c.loop-words.invariant.0 [] rest (none h) in
    let Q : List Word → Type 0 = λ ws. Splits c.args.text.now ws rest in
    subst Q (append-nil c.loop-words.words.items) done
