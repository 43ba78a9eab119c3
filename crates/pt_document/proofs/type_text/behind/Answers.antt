use Rattle.std.proofs.Common.{◌≡◌, List, ℕ, Some, None, Bool, true, false, cond, bytes_eq, length, take, drop, sym, ap, ◌∙◌}
use Rattle.pt_document.proofs.TextWords.{behind_short, behind_is}
use Rattle.pt_document.proofs.type_text.behind.Goals as goal

pub returns-then-word-text : goal.returns-then-word-text
returns-then-word-text c = behind_short c.args.word.now c.args.text.now c.if-word-text.true

pub returns-then-eq : goal.returns-then-eq
returns-then-eq c =
    let n = length c.args.word.now in
    let test : bytes_eq (take n c.args.text.now) c.args.word.now ≡ true = ap (λ (s : List ℕ). bytes_eq s c.args.word.now) (sym c.split_at.ensures.front) ∙ sym c.if-eq.ensures in
    ap Some c.split_at.ensures.back ∙ sym (behind_is c.args.word.now c.args.text.now ∙ ap (λ (b : Bool). cond b (Some (drop n c.args.text.now)) None) test)

pub returns-else-eq : goal.returns-else-eq
returns-else-eq c =
    let n = length c.args.word.now in
    let test : bytes_eq (take n c.args.text.now) c.args.word.now ≡ false = ap (λ (s : List ℕ). bytes_eq s c.args.word.now) (sym c.split_at.ensures.front) ∙ sym c.if-eq.ensures in
    sym (behind_is c.args.word.now c.args.text.now ∙ ap (λ (b : Bool). cond b (Some (drop n c.args.text.now)) None) test)
