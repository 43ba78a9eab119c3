use Rattle.std.proofs.Common.{◌≡◌, ◌++◌, ◌∷◌, [], sym, subst, true, rules}
use Rattle.pt_lib_timed.specs.Pending.{last_tag}
use Rattle.pt_lib_timed.specs.PendingStore.{IsMarked, is_behind}
use Rattle.pt_lib_timed.proofs.PendingLaws.{marked-put}
use Rattle.pt_lib_timed.proofs.pending.Pending.put.Goals as goal
use Rattle.pt_lib_timed.proofs.pending.Pending.put.Goals.{then-self, else-self}

pub invariant_of-self-2 : goal.invariant_of-self-2
invariant_of-self-2 c =
    let es = c.self.inside.events.items in
    let mark = c.self.inside.ascending in
    let both : c.if-self.ascending ≡ true → (mark ≡ true) × (is_behind c.args.tag (last_tag es) ≡ true) = λ on. elim c.if-self.branch [
      | then-self w ↦ (first_of (cc, search rules), first_of (cc, search rules))
      | else-self w ↦ (first_of (cc, search rules), first_of (cc, search rules))
    ] in
    let items : c.push_back_reserved.new.self.items ≡ es ++ (c.args.tag, c.args.token) ∷ [] = first_of (cc, search rules) in
    subst (λ v. IsMarked c.if-self.ascending v) (sym items) (marked-put mark c.if-self.ascending es c.args.tag c.args.token c.self.invariant both)
