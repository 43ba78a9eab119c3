-- The firing of a child that gave one integer at most, of which the director was told at once.
use Rattle.std.proofs.Common.{◌≡◌, ℕ, ℤ, suc, ◌+◌, List, [], ◌∷◌, true, map, Option, Some, None, ap, ◌∙◌, arith}
use Rattle.std.specs.Prelude.{MatchOption}
use Rattle.pt_meaning.specs.Basics.{Tag, Streams}
use Rattle.pt_meaning.specs.Machine.{Need}
use Rattle.pt_meaning.specs.NodeFacts.{need_of, next_of}
use Rattle.pt_value.specs.declared.token.Token.{Token}
use Rattle.pt_value.specs.declared.token.Token.TheVariants.{Int}
use Rattle.pt_core.specs.Acts.{Calls}
use Rattle.pt_library.specs.LibraryActor.{rows, signal_of}
use Rattle.pt_node.specs.Shown.{Shown, Branch}
use Rattle.pt_node.specs.Firing as firing
use Rattle.pt_node.specs.Reset.{KeepsRecords}
use Rattle.pt_node.specs.View.{node_of, outline_of, count_of}
use Rattle.pt_node.proofs.OutlineLaws.{outline_noted, outline_recorded, outline_bare}
use Rattle.pt_turns.specs.declared.turn.Turn.TheVariants as turn
use Rattle.pt_turns.specs.Within.{GaveAt, made_of}
use Rattle.pt_turns.specs.Turns.{ChildFired}
use Rattle.pt_turns.proofs.Recording.{kept-bare, count-bare}
use Rattle.pt_turns.proofs.Turning.{turn-told, wake-recorded}

-- an integer, or none, as what a slice of it has
pub in-slice : (given : Option ℤ) (ns : List ℤ) → MatchOption given (ns ≡ []) (λ n. ns ≡ n ∷ []) → map Int ns ≡ signal_of given
in-slice (Some n) ns e = ap (λ v. map Int v) e
in-slice None ns e = ap (λ v. map Int v) e

-- the director was told what it gave, with the wake that it has once its firing is recorded, and whatever it needs then
pub signal-fired : {D : Type 0} (c : Calls D) (s : D) (old mid : Shown) (i : ℕ) (tag : Tag) (out : Streams Token) (wake : Option Tag) (s' : D) (after : Shown) → GaveAt tag old (c.lent_of s) out mid → made_of mid ≡ made_of old → c.accepts s i out ≡ true →
    wake ≡ next_of rows (node_of (firing.recorded tag mid)) → ((need : Need) → s' ≡ c.told i out wake need s) → after ≡ firing.recorded tag (firing.noted tag out mid) → ChildFired c s old i tag s' after
signal-fired c s old mid i tag out wake s' after g p right w told is =
    turn-told c s old mid i tag out turn.Done s' after g.goes g.fit g.keeps.outline p
    (right, told (need_of rows (node_of after)) ∙ ap (λ v. c.told i out v (need_of rows (node_of after)) s) (wake-recorded tag out mid after wake w is), is)

module _ (tag : Tag) (old : Shown) (X out : Streams Token) (mid : Shown) (g : GaveAt tag old X out mid) (after : Shown) where
  -- its firing is recorded
  module _ (is : after ≡ firing.recorded tag (firing.noted tag out mid)) where
    pub outline-signalled : outline_of after ≡ outline_of old
    outline-signalled = ap (λ s. outline_of s) is ∙ outline_recorded tag (firing.noted tag out mid) ∙ outline_noted tag out mid ∙ g.keeps.outline

    one-more : (s : Shown) → count_of (firing.recorded tag (firing.noted tag out s)) ≡ suc (count_of s)
    one-more (Branch f ks) = omega arith

    pub counted-signalled : (left left' : ℕ) → left ≡ suc left' → count_of after + left' ≡ count_of old + left
    counted-signalled left left' l = omega (arith, ap (λ s. count_of s) is, one-more mid, g.keeps.count, l)

  -- or there was no memory for that
  pub keeps-noted : firing.bare after ≡ firing.bare mid → KeepsRecords old after
  keeps-noted b = record {
    kept = kept-bare after mid b ∙ g.keeps.kept;
    outline = outline_bare after mid b ∙ g.keeps.outline;
    count = count-bare after mid b ∙ g.keeps.count;
  }
