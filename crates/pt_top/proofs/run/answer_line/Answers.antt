use Rattle.std.proofs.Common.{refl, sym, subst, [], arith}
use Rattle.pt_io.specs.Causes.{Rose}
use Rattle.pt_words.specs.declared.line.Task.{Task}
use Rattle.pt_words.specs.declared.line.Task.TheVariants.{Generate, Demonstrate}
use Rattle.pt_words.specs.Parts.{HasStages}
use Rattle.pt_top.specs.Outcome.{for_run, for_check, for_generation, for_demonstration, IsCompleteForTask, Reads}
use Rattle.pt_top.proofs.TaskLaws.{nothing-taken, reported-told}
use Rattle.pt_top.proofs.run.answer_line.Goals as goal

pub returns-in-Run-clause-outcome : goal.returns-in-Run-clause-outcome
returns-in-Run-clause-outcome g c =
    let (due, text, bytes, consumed, is, tells) = c.run_document.ensures.outcome in
    (due, text, bytes, consumed, for_run c.in-Run.is is, tells)

pub returns-in-Run-clause-complete : goal.returns-in-Run-clause-complete
returns-in-Run-clause-complete g c =
    subst (λ (t : Task). IsCompleteForTask t c.args.line.budget (g.S.Source.left c.args.source.now) (Rose (g.S.Source.faults c.args.source.now) (g.S.Source.faults c.run_document.new.source)) (Rose (g.K.Sink.faults c.args.sink.now) (g.K.Sink.faults c.run_document.new.sink)) c.run_document.result) (sym c.in-Run.is) c.run_document.ensures.complete

pub returns-in-Run-clause-unread : goal.returns-in-Run-clause-unread
returns-in-Run-clause-unread g c = λ none. absurd (none (subst (λ (t : Task). Reads t) (sym c.in-Run.is) tt))

pub returns-in-Check-clause-outcome : goal.returns-in-Check-clause-outcome
returns-in-Check-clause-outcome g c =
    let (due, text, bytes, consumed, is, tells) = c.check_document.ensures.outcome in
    (due, text, bytes, consumed, for_check c.in-Check.is is, tells)

pub returns-in-Check-clause-complete : goal.returns-in-Check-clause-complete
returns-in-Check-clause-complete g c =
    subst (λ (t : Task). IsCompleteForTask t c.args.line.budget (g.S.Source.left c.args.source.now) (Rose (g.S.Source.faults c.args.source.now) (g.S.Source.faults c.check_document.new.source)) (Rose (g.K.Sink.faults c.args.sink.now) (g.K.Sink.faults c.check_document.new.sink)) c.check_document.result) (sym c.in-Check.is) c.check_document.ensures.complete

pub returns-in-Check-clause-unread : goal.returns-in-Check-clause-unread
returns-in-Check-clause-unread g c = λ none. absurd (none (subst (λ (t : Task). Reads t) (sym c.in-Check.is) tt))

-- nothing is taken for the generated document
pub returns-in-Generate-clause-outcome : goal.returns-in-Generate-clause-outcome
returns-in-Generate-clause-outcome g c =
    let (due, text, is, reported, tells) = c.generate.ensures in
    (due, text, [], nothing-taken (g.S.Source.left c.args.source.now), for_generation c.in-Generate.stages c.in-Generate.is refl is, tells)

pub returns-in-Generate-clause-complete : goal.returns-in-Generate-clause-complete
returns-in-Generate-clause-complete g c =
    let (due, text, is, reported, tells) = c.generate.ensures in
    subst (λ (t : Task). IsCompleteForTask t c.args.line.budget (g.S.Source.left c.args.source.now) (Rose (g.S.Source.faults c.args.source.now) (g.S.Source.faults c.args.source.now)) (Rose (g.K.Sink.faults c.args.sink.now) (g.K.Sink.faults c.generate.new.sink)) c.generate.result) (sym c.in-Generate.is)
    (λ calm. reported-told _ _ _ _ due c.generate.result text tells calm reported)

pub returns-in-Generate-clause-unread : goal.returns-in-Generate-clause-unread
returns-in-Generate-clause-unread g c = λ none. refl

-- nor for its run
pub returns-in-Demonstrate-clause-outcome : goal.returns-in-Demonstrate-clause-outcome
returns-in-Demonstrate-clause-outcome g c =
    let (due, text, answers, complete, tells) = c.demonstrate.ensures in
    (due, text, [], nothing-taken (g.S.Source.left c.args.source.now), for_demonstration c.in-Demonstrate.stages c.in-Demonstrate.is refl answers, tells)

pub returns-in-Demonstrate-clause-complete : goal.returns-in-Demonstrate-clause-complete
returns-in-Demonstrate-clause-complete g c =
    let (due, text, answers, complete, tells) = c.demonstrate.ensures in
    subst (λ (t : Task). IsCompleteForTask t c.args.line.budget (g.S.Source.left c.args.source.now) (Rose (g.S.Source.faults c.args.source.now) (g.S.Source.faults c.args.source.now)) (Rose (g.K.Sink.faults c.args.sink.now) (g.K.Sink.faults c.demonstrate.new.sink)) c.demonstrate.result) (sym c.in-Demonstrate.is)
    (λ faultless calm. reported-told _ _ _ _ due c.demonstrate.result text tells calm (complete faultless))

pub returns-in-Demonstrate-clause-unread : goal.returns-in-Demonstrate-clause-unread
returns-in-Demonstrate-clause-unread g c = λ none. refl

-- what the line asks for is in its ranges
pub run_document-requires : goal.run_document-requires
run_document-requires g c = omega (arith, c.requires.budget.0)

pub generate-requires-clause-positive : goal.generate-requires-clause-positive
generate-requires-clause-positive g c = let h : HasStages (Generate c.in-Generate.stages) = subst (λ (t : Task). HasStages t) c.in-Generate.is c.requires.task in h.0

pub generate-requires-clause-within : goal.generate-requires-clause-within
generate-requires-clause-within g c = let h : HasStages (Generate c.in-Generate.stages) = subst (λ (t : Task). HasStages t) c.in-Generate.is c.requires.task in h.1

pub demonstrate-requires-clause-positive : goal.demonstrate-requires-clause-positive
demonstrate-requires-clause-positive g c = let h : HasStages (Demonstrate c.in-Demonstrate.stages) = subst (λ (t : Task). HasStages t) c.in-Demonstrate.is c.requires.task in h.0

pub demonstrate-requires-clause-within : goal.demonstrate-requires-clause-within
demonstrate-requires-clause-within g c = let h : HasStages (Demonstrate c.in-Demonstrate.stages) = subst (λ (t : Task). HasStages t) c.in-Demonstrate.is c.requires.task in h.1

pub demonstrate-requires-clause-budget : goal.demonstrate-requires-clause-budget
demonstrate-requires-clause-budget g c = omega (arith, c.requires.budget.0)
