use Rattle.std.proofs.Common.{ℕ, ◌+◌, ◌-◌, ◌≤◌, List, [], ◌∷◌, ◌++◌, length, get_or, set, ap, sym, subst, ◌∙◌, arith, refl, length-set}
use Rattle.pt_meaning.specs.Process.{Put}
use Rattle.pt_recv.specs.Lines.{list_at, spare_at}
use Rattle.pt_value.specs.declared.token.Token.{Token}
use Rattle.pt_puts.specs.Puts.{put_of, puts_in}
use Rattle.pt_process.specs.Process.{count_on}
use Rattle.pt_puts.proofs.PutLaws.{no-staged}
use Rattle.pt_pn_work.proofs.CoreLaws.{room-less}
use Rattle.pt_pn.specs.Puts.{all_put}
use Rattle.pt_pn.specs.Noted.{tokens_came}
use Rattle.pt_pn.proofs.PutLaws.{counts-less, left-less, one-promised, within-promised}
use Rattle.pt_pn.proofs.puts.put_all.Goals as goal

pub loop-init : goal.loop-init
loop-init c = record {
  left_over = omega arith;
  lists = refl;
  long = refl;
  spares = refl;
  counted = refl;
  room = c.requires.room;
  promised = c.requires.promised;
  left = λ d. omega arith;
  noted = refl;
}

pub next_staged-put-requires : goal.next_staged-put-requires
next_staged-put-requires c = omega (arith, c.loop-test.true, c.loop.invariant.left_over, c.len-end.ensures, c.args.staged.now.ok.0)

pub put_promised-requires : goal.put_promised-requires
put_promised-requires c =
    let us : List (Put Token) = puts_in c.next_staged-put.new.staged.items in
    let h : (d : ℕ) → count_on d (put_of c.next_staged-put.result ∷ us) ≤ get_or c.loop.promised.items d 0 = λ d. subst (λ v. count_on d v ≤ get_or c.loop.promised.items d 0) c.next_staged-put.ensures.first (c.loop.invariant.promised d) in
    let one = one-promised c.loop.promised.items (put_of c.next_staged-put.result) us h in
    let there = within-promised c.loop.promised.items c.next_staged-put.result.channel one in
    record {
      there = omega (arith, there, c.loop.invariant.counted, c.loop.invariant.long, c.requires.counted);
      counted = c.loop.invariant.counted ∙ c.requires.counted ∙ sym c.loop.invariant.long;
      spares = c.loop.invariant.spares ∙ c.requires.spares ∙ sym c.loop.invariant.long;
      room = c.loop.invariant.room;
      promised = one;
    }

pub loop-preserved : goal.loop-preserved
loop-preserved c =
    let u : Put Token = put_of c.next_staged-put.result in
    let us : List (Put Token) = puts_in c.next_staged-put.new.staged.items in
    let P : List ℕ = c.loop.promised.items in
    let S : List ℕ = c.loop.queues.spares in
    let h : (d : ℕ) → count_on d (u ∷ us) ≤ get_or P d 0 = λ d. subst (λ v. count_on d v ≤ get_or P d 0) c.next_staged-put.ensures.first (c.loop.invariant.promised d) in
    let one : 1 ≤ get_or P u.channel 0 = one-promised P u us h in
    let there = within-promised P u.channel one in
    record {
      left_over = omega (arith, c.next_staged-put.ensures.counted, c.loop.invariant.left_over);
      lists = ap (λ L. all_put us L) c.put_promised.ensures.lists ∙ sym (ap (λ v. all_put v c.loop.queues.lists) c.next_staged-put.ensures.first) ∙ c.loop.invariant.lists;
      long = ap (λ v. length v) c.put_promised.ensures.lists ∙ length-set c.loop.queues.lists u.channel (list_at c.loop.queues.lists u.channel ++ (u.token ∷ [])) ∙ c.loop.invariant.long;
      spares = ap (λ v. length v) c.put_promised.ensures.spares ∙ length-set S u.channel (spare_at S u.channel - 1) ∙ c.loop.invariant.spares;
      counted = ap (λ v. length v) c.put_promised.ensures.promised ∙ length-set P u.channel (get_or P u.channel 0 - 1) ∙ c.loop.invariant.counted;
      room = λ d.
          subst (λ v. get_or v d 0 ≤ spare_at c.put_promised.new.queues.spares d) (sym c.put_promised.ensures.promised)
          (subst (λ v. get_or (set P u.channel (get_or P u.channel 0 - 1)) d 0 ≤ spare_at v d) (sym c.put_promised.ensures.spares)
          (room-less P S u.channel c.loop.invariant.room there (c.loop.invariant.spares ∙ c.requires.spares ∙ sym c.requires.counted ∙ sym c.loop.invariant.counted) d));
      promised = λ d. subst (λ v. count_on d us ≤ get_or v d 0) (sym c.put_promised.ensures.promised) (counts-less P u us h d);
      left = λ d.
          subst (λ v. get_or c.args.promised.now.items d 0 + count_on d us ≤ get_or v d 0 + count_on d (puts_in c.args.staged.now.items)) (sym c.put_promised.ensures.promised)
          (left-less c.args.promised.now.items P u us (puts_in c.args.staged.now.items) one (λ e. subst (λ v. get_or c.args.promised.now.items e 0 + count_on e v ≤ get_or P e 0 + count_on e (puts_in c.args.staged.now.items)) c.next_staged-put.ensures.first (c.loop.invariant.left e)) d);
      noted = ap (λ m. tokens_came us m) c.note_token.ensures ∙ sym (ap (λ v. tokens_came v c.loop.notes) c.next_staged-put.ensures.first) ∙ c.loop.invariant.noted;
    }

pub returns-clause-lists : goal.returns-clause-lists
returns-clause-lists c = sym (ap (λ v. all_put v c.loop.queues.lists) (no-staged c.loop.staged.items (omega (arith, c.loop-test.false, c.loop.invariant.left_over, c.len-end.ensures, c.args.staged.now.ok.0)))) ∙ c.loop.invariant.lists

pub returns-clause-left : goal.returns-clause-left
returns-clause-left c d =
    let e = ap (λ v. count_on d v) (no-staged c.loop.staged.items (omega (arith, c.loop-test.false, c.loop.invariant.left_over, c.len-end.ensures, c.args.staged.now.ok.0))) in
    let l = c.loop.invariant.left d in
    omega (arith, e, l)

pub returns-clause-noted : goal.returns-clause-noted
returns-clause-noted c = sym (ap (λ v. tokens_came v c.loop.notes) (no-staged c.loop.staged.items (omega (arith, c.loop-test.false, c.loop.invariant.left_over, c.len-end.ensures, c.args.staged.now.ok.0)))) ∙ c.loop.invariant.noted
