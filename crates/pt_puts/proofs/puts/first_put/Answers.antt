use Rattle.std.proofs.Common.{drop, refl, arith}
use Rattle.pt_puts.specs.Puts.{put_of, puts_in}
use Rattle.pt_puts.proofs.PutLaws.{first-staged, no-staged}
use Rattle.pt_puts.proofs.puts.first_put.Goals as goal

pub returns-then-waiting-eq0 : goal.returns-then-waiting-eq0
returns-then-waiting-eq0 c = no-staged c.args.puts.now.items (omega (arith, c.if-waiting-eq0.true, c.len-waiting.ensures, c.args.puts.now.ok.0))

pub returns : goal.returns
returns c = (
  put_of c.index.result.now,
  puts_in (drop 1 c.args.puts.now.items),
  first-staged c.args.puts.now.items c.index.result.now (omega (arith, c.if-waiting-eq0.false, c.len-waiting.ensures, c.args.puts.now.ok.0)) c.index.ensures,
  refl,
)
