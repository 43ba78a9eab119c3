use Rattle.std.proofs.Common.{◌≡◌, inl, inr, [], refl, map, string_bytes, subst}
use Rattle.std.specs.Io.KnownBytes.{IsAtEnd}
use Rattle.pt_io.specs.Causes.{Rose}
use Rattle.pt_words.specs.declared.line.Line.{Line}
use Rattle.pt_reply.specs.declared.status.Status.TheVariants.{Words, Memory}
use Rattle.pt_top.specs.Outcome.{IsCompleteForTask}
use Rattle.pt_top.proofs.TaskLaws.{nothing-taken, read-rose, write-rose, memory-completes}
use Rattle.pt_top.proofs.run.run_program.Goals as goal

-- the line that was read is the one of the words
pub returns-in-Ok-clause-outcome : goal.returns-in-Ok-clause-outcome
returns-in-Ok-clause-outcome g c =
    let (due, text, bytes, consumed, is, tells) = c.answer_line.ensures.outcome in
    (due, text, bytes, consumed, inl (c.in-Ok.line, c.in-Ok.ensures.ok, is), tells)

pub returns-in-Ok-clause-complete : goal.returns-in-Ok-clause-complete
returns-in-Ok-clause-complete g c = λ l line.
    let same : c.in-Ok.line ≡ l = c.words_are_one_line.ensures (map string_bytes c.args.words.now) c.in-Ok.line l c.in-Ok.ensures.ok line in
    subst (λ (l : Line). IsCompleteForTask l.task l.budget (g.S.Source.left c.args.source.now) (Rose (g.S.Source.faults c.args.source.now) (g.S.Source.faults c.answer_line.new.source)) (Rose (g.K.Sink.faults c.args.sink.now) (g.K.Sink.faults c.answer_line.new.sink)) c.answer_line.result) same c.answer_line.ensures.complete

pub returns-in-Ok-clause-unread : goal.returns-in-Ok-clause-unread
returns-in-Ok-clause-unread g c = λ none. c.answer_line.ensures.unread (λ reads. none (c.in-Ok.line, c.in-Ok.ensures.ok, reads))

pub returns-in-Ok-clause-read : goal.returns-in-Ok-clause-read
returns-in-Ok-clause-read g c = λ e.
    let (due, text, bytes, consumed, is, tells) = c.answer_line.ensures.outcome in
    read-rose (map string_bytes c.args.words.now) bytes (Rose (g.S.Source.faults c.args.source.now) (g.S.Source.faults c.answer_line.new.source)) (IsAtEnd (g.S.Source.left c.answer_line.new.source)) (g.K.Sink.faults c.args.sink.now) (g.K.Sink.faults c.answer_line.new.sink)
    (g.K.Sink.taken c.args.sink.now) (g.K.Sink.taken c.answer_line.new.sink) due c.answer_line.result text (inl (c.in-Ok.line, c.in-Ok.ensures.ok, is)) tells e

pub returns-in-Ok-clause-write : goal.returns-in-Ok-clause-write
returns-in-Ok-clause-write g c = λ e.
    let (due, text, bytes, consumed, is, tells) = c.answer_line.ensures.outcome in
    write-rose (map string_bytes c.args.words.now) bytes (Rose (g.S.Source.faults c.args.source.now) (g.S.Source.faults c.answer_line.new.source)) (IsAtEnd (g.S.Source.left c.answer_line.new.source)) (g.K.Sink.faults c.args.sink.now) (g.K.Sink.faults c.answer_line.new.sink)
    (g.K.Sink.taken c.args.sink.now) (g.K.Sink.taken c.answer_line.new.sink) due c.answer_line.result text (inl (c.in-Ok.line, c.in-Ok.ensures.ok, is)) tells e

-- what the line asks for is in its ranges
pub answer_line-requires : goal.answer_line-requires
answer_line-requires g c = c.lines_are_within.ensures (map string_bytes c.args.words.now) c.in-Ok.line c.in-Ok.ensures.ok

-- words that are no line are refused, and nothing is taken
pub returns-in-Err-Refused-clause-outcome : goal.returns-in-Err-Refused-clause-outcome
returns-in-Err-Refused-clause-outcome g c = (Words, _, [], nothing-taken (g.S.Source.left c.args.source.now), inr (inl (c.in-Err-Refused.ensures.refused c.in-Err-Refused.field-0-is, refl, (refl, refl))), c.finish.ensures)

pub returns-in-Err-Refused-clause-complete : goal.returns-in-Err-Refused-clause-complete
returns-in-Err-Refused-clause-complete g c = λ l line. absurd (c.in-Err-Refused.ensures.refused c.in-Err-Refused.field-0-is l line)

pub returns-in-Err-Refused-clause-unread : goal.returns-in-Err-Refused-clause-unread
returns-in-Err-Refused-clause-unread g c = λ none. refl

-- nor is anything taken where memory runs out before the words are read
pub returns-in-Err-Memory-clause-outcome : goal.returns-in-Err-Memory-clause-outcome
returns-in-Err-Memory-clause-outcome g c = (Memory, _, [], nothing-taken (g.S.Source.left c.args.source.now), inr (inr (refl, (refl, refl))), c.finish-in-Err-Memory.ensures)

pub returns-in-Err-Memory-clause-complete : goal.returns-in-Err-Memory-clause-complete
returns-in-Err-Memory-clause-complete g c = λ l line.
    memory-completes l.task l.budget (g.S.Source.left c.args.source.now) (Rose (g.S.Source.faults c.args.source.now) (g.S.Source.faults c.args.source.now)) (g.K.Sink.faults c.args.sink.now) (g.K.Sink.faults c.finish-in-Err-Memory.new.sink)
    (g.K.Sink.taken c.args.sink.now) (g.K.Sink.taken c.finish-in-Err-Memory.new.sink) c.finish-in-Err-Memory.result _ c.finish-in-Err-Memory.ensures

pub returns-in-Err-Memory-clause-unread : goal.returns-in-Err-Memory-clause-unread
returns-in-Err-Memory-clause-unread g c = λ none. refl
