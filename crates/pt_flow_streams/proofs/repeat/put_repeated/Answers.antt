use Rattle.std.proofs.Common.{◌≡◌, ◌++◌, map, ap, ◌∙◌, arith}
use Rattle.std.proofs.lemmas.List.{map-append}
use Rattle.std.proofs.lemmas.Grind.{common_steps}
use Rattle.pt_value.specs.declared.token.Token.TheVariants.{Int}
use Rattle.pt_flow_base.proofs.Repetitions.{repeated-more}
use Rattle.pt_flow_streams.proofs.repeat.put_repeated.Goals as goal

pub loop-preserved : goal.loop-preserved
loop-preserved c =
    let block = c.args.block.now in
    let longer : c.extend_from_slice.new.self.items ≡ c.loop.given.items ++ block = grind (arith, common_steps) in
    ap (map Int) longer ∙ map-append Int c.loop.given.items block ∙ ap (λ ys. ys ++ map Int block) c.loop.invariant ∙ repeated-more c.loop.counter (map Int block)
