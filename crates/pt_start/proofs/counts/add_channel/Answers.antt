use Rattle.std.proofs.Common.{◌≡◌, ℕ, ◌<◌, ◌++◌, ◌∷◌, [], List, length, get_or, set, sym, ap, ◌∙◌, subst, arith}
use Rattle.std.proofs.lemmas.List.{get_or_default}
use Rattle.pt_net.specs.declared.net.Channel.{Channel}
use Rattle.pt_start.specs.Counts.{one_more, AreCounts}
use Rattle.pt_start.proofs.CountLaws.{counted, same-lengths, one-more-length}
use Rattle.pt_start.proofs.counts.add_channel.Goals as goal

pub returns-clause-counts : goal.returns-clause-counts
returns-clause-counts c = λ ks are.
    let k : Channel = c.args.channel.now in
    let rows : List (List ℕ) = c.args.rows.now.items in
    let there : k.to.entity < length rows = omega (arith, c.if-entity-len.false, c.len.ensures) in
    let read : c.index.result.now ≡ get_or rows k.to.entity [] = c.index.ensures ∙ get_or_default rows k.to.entity c.index.result.now [] there in
    let written : c.index_mut.result.now ≡ get_or rows k.to.entity [] = c.index_mut.ensures.value ∙ get_or_default rows k.to.entity c.index_mut.result.now [] there in
    let in_row : k.to.port < length c.index.result.now = omega (arith, c.if-port-len.false, c.len-2.ensures) in
    let short : k.to.port < length (get_or rows k.to.entity []) = subst (λ (r : List ℕ). k.to.port < length r) read in_row in
    let after : c.add.new.self ≡ one_more (get_or rows k.to.entity []) k.to.port = c.in_ok-add.ensures ∙ ap (λ r. one_more r k.to.port) written in
    subst (λ (r : List ℕ). AreCounts (ks ++ k ∷ []) (set rows k.to.entity r)) (sym after) (counted ks k rows are there short)

pub returns-clause-sized : goal.returns-clause-sized
returns-clause-sized c =
    let k : Channel = c.args.channel.now in
    let rows : List (List ℕ) = c.args.rows.now.items in
    let there : k.to.entity < length rows = omega (arith, c.if-entity-len.false, c.len.ensures) in
    let written : c.index_mut.result.now ≡ get_or rows k.to.entity [] = c.index_mut.ensures.value ∙ get_or_default rows k.to.entity c.index_mut.result.now [] there in
    let after : c.add.new.self ≡ one_more (get_or rows k.to.entity []) k.to.port = c.in_ok-add.ensures ∙ ap (λ r. one_more r k.to.port) written in
    same-lengths rows k.to.entity c.add.new.self (ap length after ∙ one-more-length (get_or rows k.to.entity []) k.to.port)
