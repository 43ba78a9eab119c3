use Rattle.std.proofs.Common.{append_assoc}
use Rattle.pt_trace.proofs.line.put_head.Goals as goal

pub returns-clause-written : goal.returns-clause-written
returns-clause-written c =
    rw (c.put_number.ensures.written, c.put_byte-blank-2.ensures.written, c.put_tag-tag.ensures.written, c.put_byte-blank.ensures.written) (simp append_assoc)
