use Rattle.std.proofs.Common.{◌≡◌, ◌∙◌, false, true≢false, String, Global, map, Option, IfSome, string_bytes, sym, subst}
use Rattle.std.specs.List.{list_any}
use Rattle.clap.specs.Simple.{app_of, subcommand_rows_of}
use Rattle.clap.proofs.WalkLemmas.{list_any-map}
use Rattle.pt_words.specs.declared.line.Line.{Line}
use Rattle.pt_words.specs.Matches.{IsTold, is_reserved}
use Rattle.pt_words.proofs.Lines.{line_free}
use Rattle.pt_words.proofs.PartLaws.{full}
use Rattle.pt_words.proofs.Found.{reads_line, tells_line, fails_unread}
use Rattle.pt_words.proofs.line.read.Goals as goal

-- no line has a reserved word
pub returns-then-has_reserved-clause-refused : goal.returns-then-has_reserved-clause-refused
returns-then-has_reserved-clause-refused c = λ refused line l.
    true≢false (sym c.if-has_reserved.true ∙ c.has_reserved.ensures ∙ list_any-map is_reserved (λ (w : String Global). string_bytes w) c.args.words.now ∙ line_free (map string_bytes c.args.words.now) line l)

pub returns-in_err-matches-clause-refused : goal.returns-in_err-matches-clause-refused
returns-in_err-matches-clause-refused c =
    fails_unread (app_of c.in_ok-program.field-0) (map string_bytes c.args.words.now) c.in_ok-program.ensures c.from_residual-in_err-matches.result c.in_err-matches.field-0.0 c.in_err-matches.ensures.kinds c.from_residual-in_err-matches.ensures.1

pub returns-in-Some-clause-ok : goal.returns-in-Some-clause-ok
returns-in-Some-clause-ok c =
    let m = c.in_ok-matches.matches in
    let free : list_any is_reserved (map string_bytes c.args.words.now) ≡ false = sym (list_any-map is_reserved (λ (w : String Global). string_bytes w) c.args.words.now) ∙ sym c.has_reserved.ensures ∙ c.if-has_reserved.false in
    reads_line (app_of c.in_ok-program.field-0) (map string_bytes c.args.words.now) c.in_ok-program.ensures m c.in-Some.line free c.in_ok-matches.ensures.kinds c.in_ok-matches.ensures.matches
    (subst (λ (o : Option Line). IfSome o (IsTold (subcommand_rows_of m))) c.in-Some.is c.line_in.ensures.some)

pub returns-clause-refused : goal.returns-clause-refused
returns-clause-refused c = λ refused line l.
    let m = c.in_ok-matches.matches in
    let told = tells_line (app_of c.in_ok-program.field-0) (map string_bytes c.args.words.now) c.in_ok-program.ensures m line c.in_ok-matches.ensures.matches l in
    full c.line_in.result line (c.line_in.ensures.only line told) c.in-None.is
