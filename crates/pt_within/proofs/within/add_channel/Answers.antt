use Rattle.std.proofs.Common.{◌≡◌, ◌≤◌, ◌<◌, ℕ, List, [], ◌∷◌, ◌++◌, length, get_or, ap, ◌∙◌, arith}
use Rattle.std.proofs.lemmas.List.{get_or_default}
use Rattle.pt_net.specs.declared.net.Channel.{Channel}
use Rattle.pt_within.proofs.WithinLaws.{channel-passed, channel-added}
use Rattle.pt_within.proofs.within.add_channel.Goals as goal

pub returns-in_ok-push : goal.returns-in_ok-push
returns-in_ok-push c = λ count ks are.
    let p : ℕ = c.args.channel.composite in
    let lists : List (List Channel) = c.args.lists.now.items in
    let there : p < count = omega (arith, c.if-composite-len.true, c.len.ensures, are.counted) in
    let within : p < length lists = omega (arith, there, are.counted) in
    let written : c.index_mut.result.now ≡ get_or lists p [] = c.index_mut.ensures.value ∙ get_or_default lists p c.index_mut.result.now [] within in
    let after : c.push.new.self ≡ get_or lists p [] ++ c.args.channel ∷ [] = c.in_ok-push.ensures ∙ ap (λ (v : List Channel). v ++ c.args.channel ∷ []) written in
    channel-added count ks c.args.channel lists c.push.new.self are there after

pub returns-else-composite-len : goal.returns-else-composite-len
returns-else-composite-len c = λ count ks are.
    let far : count ≤ c.args.channel.composite = omega (arith, c.if-composite-len.false, c.len.ensures, are.counted) in
    channel-passed count ks c.args.channel c.args.lists.now.items are far
