-- Gets and puts that a director makes one after another.
use Rattle.std.proofs.Common.{◌≡◌, ℕ, ◌≤◌, List, [], ◌∷◌, Option, refl, sym, ap, subst, arith}
use Rattle.pt_meaning.specs.Basics.{Tag, Streams}
use Rattle.pt_meaning.specs.Log.{Meeting}
use Rattle.pt_value.specs.declared.token.Token.{Token}
use Rattle.pt_firing.specs.declared.ask.Ask.{Ask}
use Rattle.pt_firing.specs.declared.ask.Ask.TheVariants as ask
use Rattle.pt_core.specs.Acts.{Acts}
use Rattle.pt_core.specs.Met.{met_after}
use Rattle.pt_core.specs.Lawful.{Lawful, IsMove}
use Rattle.pt_library.specs.LibraryActor.{rows}
use Rattle.pt_node.specs.Shown.{Shown}
use Rattle.pt_pn.specs.Moves.{IsTransfer, MovesBy, Moves}
use Rattle.pt_turns.specs.Between.{At}
use Rattle.pt_turns.specs.OwnMeetings.{OwnMeetings}
use Rattle.pt_turns.proofs.Firing.{at-moved, move-lessens}

-- each is a move, and none is a meeting
transfer-moves : (next : Ask) → IsTransfer next → IsMove next
transfer-moves (ask.Get child) t = tt
transfer-moves (ask.Put child) t = tt
transfer-moves ask.Grow t = absurd t
transfer-moves (ask.Meet m) t = absurd t
transfer-moves (ask.Fire child tag) t = absurd t
transfer-moves (ask.Early child tag) t = absurd t
transfer-moves (ask.Reset child) t = absurd t
transfer-moves ask.Finished t = absurd t
transfer-moves (ask.Faulted kind child) t = absurd t
transfer-moves ask.Full t = absurd t
transfer-moves ask.Await t = absurd t

transfer-unmet : (next : Ask) → IsTransfer next → (met : Option (List Meeting)) → met_after next met ≡ met
transfer-unmet (ask.Get child) t met = refl
transfer-unmet (ask.Put child) t met = refl
transfer-unmet ask.Grow t met = absurd t
transfer-unmet (ask.Meet m) t met = absurd t
transfer-unmet (ask.Fire child tag) t met = absurd t
transfer-unmet (ask.Early child tag) t met = absurd t
transfer-unmet (ask.Reset child) t met = absurd t
transfer-unmet ask.Finished t met = absurd t
transfer-unmet (ask.Faulted kind child) t met = absurd t
transfer-unmet ask.Full t met = absurd t
transfer-unmet ask.Await t met = absurd t

module _ {D : Type 0} (a : Acts rows D) (law : Lawful a) {before : D} {olds : List Shown} {tag : Tag} {X : Streams Token} {allowance : ℕ} {own : OwnMeetings} {now : List Shown} {left : ℕ} where
  -- a firing goes on by them, and has no more to wait for
  moved-by : (moves : List Ask) (s t : D) → MovesBy a.calls moves s t → At a before olds tag X allowance own s now left → At a before olds tag X allowance own t now left × (a.calls.waits t ≤ a.calls.waits s)
  moved-by [] s t e at = (subst (λ v. At a before olds tag X allowance own v now left) (sym e) at, let w = ap (λ v. a.calls.waits v) e in omega (arith, w))
  moved-by (next ∷ more) s t m at =
      let after = at-moved a law at next (transfer-moves next m.0) m.1 (a.calls.asking next s) refl (transfer-unmet next m.0 (a.calls.met s)) in
      let less = move-lessens a law at next (transfer-moves next m.0) m.1 (a.calls.asking next s) refl in
      let r = moved-by more (a.calls.asking next s) t m.2 after in
      (r.0, let w = r.1 in omega (arith, w, less))

  pub at-moves : {s t : D} → Moves a.calls s t → At a before olds tag X allowance own s now left → At a before olds tag X allowance own t now left
  at-moves {s} {t} m at = (moved-by m.moves s t m.made at).0

  pub moves-lessen : {s t : D} → Moves a.calls s t → At a before olds tag X allowance own s now left → a.calls.waits t ≤ a.calls.waits s
  moves-lessen {s} {t} m at = (moved-by m.moves s t m.made at).1
