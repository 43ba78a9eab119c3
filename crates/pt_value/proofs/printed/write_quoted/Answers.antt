use Rattle.std.proofs.Common.{◌∙◌, arith}
use Rattle.pt_value.proofs.Extended.{extended-none, extended-more, extended-last}
use Rattle.pt_value.proofs.Texts.{quoted-last}
use Rattle.pt_value.proofs.printed.write_quoted.Goals as goal

pub returns-in_err-push-clause-kept : goal.returns-in_err-push-clause-kept
returns-in_err-push-clause-kept c = extended-none _ _ c.in_err-push.ensures.items

pub returns-in_err-write_escaped-clause-kept : goal.returns-in_err-write_escaped-clause-kept
returns-in_err-write_escaped-clause-kept c = extended-more _ _ _ _ _ c.in_ok-push.ensures.items (c.in_err-write_escaped.ensures ∙ c.loop-byte.invariant)

pub returns-in_err-push-2-clause-kept : goal.returns-in_err-push-2-clause-kept
returns-in_err-push-2-clause-kept c = extended-more _ _ _ _ _ c.in_ok-push.ensures.items (c.in_err-push-2.ensures.items ∙ c.loop-byte.invariant)

pub returns-clause-kept : goal.returns-clause-kept
returns-clause-kept c = extended-last _ _ _ _ _ _ _ c.in_ok-push.ensures.items c.loop-byte.invariant c.in_ok-push-2.ensures.items

pub returns-clause-ok : goal.returns-clause-ok
returns-clause-ok c = quoted-last _ _ _ _ _ _ c.loop-byte.byte-index c.as_bytes-byte-items.ensures.value (omega (arith, c.loop-byte-test.false)) c.in_ok-push.ensures.items c.loop-byte.invariant c.in_ok-push-2.ensures.items
