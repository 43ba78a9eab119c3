use Rattle.std.proofs.Common.{inl, inr}
use Rattle.pt_sr.proofs.tick.Tick.reacts.Goals as goal

pub returns-in-Fired : goal.returns-in-Fired
returns-in-Fired c = inl c.in-Fired.ensures

pub returns-in-Waits : goal.returns-in-Waits
returns-in-Waits c = inr c.in-Waits.ensures
