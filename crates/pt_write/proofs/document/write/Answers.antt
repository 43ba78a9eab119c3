use Rattle.std.proofs.Common.{◌≡◌, ℕ, List, ◌++◌, IsUtf8, sym, ap, ◌∙◌, subst}
use Rattle.json.specs.Lex as lex
use Rattle.json.specs.Print.{print}
use Rattle.pt_document.specs.View.{job_view}
use Rattle.pt_write.specs.Written.{tokens}
use Rattle.pt_write.specs.Document.{document}
use Rattle.pt_write.proofs.Trees.{no_text_before, only_these}
use Rattle.pt_write.proofs.ReadBack.{written_is_read}
use Rattle.pt_write.proofs.JobFormed.{read_is_sayable}
use Rattle.pt_write.proofs.document.write.Goals as goal

pub returns-clause-read : goal.returns-clause-read
returns-clause-read c =
    let job = job_view c.args.job.now in
    let old = c.new-out.result in
    let new = c.write_job.new.out in
    let before = no_text_before old new c.new.result.items (tokens (document job)) c.new-out.ensures.before c.new.ensures.items c.in_ok-write_job.ensures in
    let only = only_these old new (tokens (document job)) c.new-out.ensures.tokens c.in_ok-write_job.ensures in
    let is : c.into_inner.result.items ≡ print new.tokens = c.into_inner.ensures.items ∙ ap (λ (xs : List ℕ). xs ++ print new.tokens) before in
    λ sayable. written_is_read job c.into_inner.result.items (subst IsUtf8 (sym is) c.into_inner.ensures.utf8) (ap lex.tokens is ∙ c.into_inner.ensures.reads_back ∙ only) sayable

pub returns-clause-again : goal.returns-clause-again
returns-clause-again c =
    let job = job_view c.args.job.now in
    let old = c.new-out.result in
    let new = c.write_job.new.out in
    let before = no_text_before old new c.new.result.items (tokens (document job)) c.new-out.ensures.before c.new.ensures.items c.in_ok-write_job.ensures in
    let only = only_these old new (tokens (document job)) c.new-out.ensures.tokens c.in_ok-write_job.ensures in
    let is : c.into_inner.result.items ≡ print new.tokens = c.into_inner.ensures.items ∙ ap (λ (xs : List ℕ). xs ++ print new.tokens) before in
    λ readable. written_is_read job c.into_inner.result.items (subst IsUtf8 (sym is) c.into_inner.ensures.utf8) (ap lex.tokens is ∙ c.into_inner.ensures.reads_back ∙ only) (read_is_sayable readable.0 job readable.1)
