use Rattle.std.proofs.Common.{length, sym, ap, arith}
use Rattle.std.proofs.lemmas.List.{length-map}
use Rattle.pt_firing.specs.TriState.{partial_of}
use Rattle.pt_firing.proofs.Streams.{partial_at-read}
use Rattle.pt_firing.proofs.partial.Partial.get.Goals as goal

pub returns : goal.returns
returns c =
    rw (← c.self.view_is) (sym (partial_at-read partial_of c.self.inside.states.items c.args.place c.index.result.now (omega (arith, c.requires, ap length c.self.view_is, length-map c.self.inside.states.items partial_of)) c.index.ensures))
