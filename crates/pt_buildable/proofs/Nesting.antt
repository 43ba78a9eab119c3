-- The composites of the net of a document stand below at most fifteen others, and its top is there.
use Rattle.std.proofs.Common.{◌≡◌, ◌≤◌, ℕ, suc, Bool, true, false, cond, Some, refl, sym, ap, ◌∙◌, arith}
use Rattle.std.proofs.lemmas.Option.{none-some, same_Some, slice_get-get_or}
use Rattle.std.specs.List.{Contains, slice_get}
use Rattle.pt_document.specs.Document.{JobTree}
use Rattle.pt_net.specs.declared.net.Net.{Net}
use Rattle.pt_net.specs.declared.net.NetEntity.{NetEntity}
use Rattle.pt_net.specs.Inside.{children_of}
use Rattle.pt_net.specs.Standing.{Round, is_kept, entities}
use Rattle.pt_net.specs.Net.{NetEntityTree, IsNetOf}
use Rattle.pt_trees.specs.Trees.{IsEntity}
use Rattle.pt_trees.specs.Built.{IsNested, at_top, within}
use Rattle.pt_cover.proofs.Walk.{ArePlaced}
use Rattle.pt_order.proofs.Children.{child-stands}
use Rattle.pt_order.proofs.NetStandings.{standing-of, entity-of}
use Rattle.pt_buildable.proofs.Levels.{IsRoundAt, outmost, inside, AreShallow}

-- what is among the children of an entity stands in it
child-in : (net : Net) (c k : ℕ) → Contains (children_of net.entities.items c) k → (e : NetEntity) × IsEntity net k e × (e.parent ≡ Some c)
child-in net c k in_c = child-stands c net.entities.items in_c.0 k (slice_get-get_or (children_of net.entities.items c) in_c.0 k in_c.1 ∙ ap (λ n. Some n) in_c.2)

module _ (job : JobTree) (net : Net) (placed : ArePlaced (entities job)) (is : IsNetOf job net) where
  -- what an entity that stands in so many may be nested in
  abbrev Holds : ℕ → Round → Type 0
  Holds depth round = (c nested : ℕ) → round.parent ≡ Some c → IsNested net c nested → suc nested ≤ depth

  -- an entity of the net is nested no deeper than it stands in the document
  holds-at : {depth : ℕ} {round : Round} → IsRoundAt (entities job) depth round → Holds depth round
  holds-at (outmost round top) c nested parent deep = absurd (none-some c (sym (ap (λ (r : Round). r.parent) top) ∙ parent))
  holds-at (inside depth n outer round at round_is further) c nested parent deep = chosen (holds-at further) (is_kept outer) refl
    where
      here : Holds depth outer.round → is_kept outer ≡ true → outer.number ≡ c → {k m : ℕ} → k ≡ c → IsNested net k m → m ≤ depth
      here more kept number same (at_top) = omega arith
      here more kept number same (within above below k nested_above in_above) =
          let child = child-in net above k in_above in
          let own = entity-of job net placed is n outer at kept in
          let alike : own.0 ≡ child.0 = same_Some own.0 child.0 (sym own.1 ∙ ap (slice_get net.entities.items) (number ∙ sym same) ∙ child.1) in
          let round_parent : outer.round.parent ≡ Some above = ap (λ (x : NetEntityTree). x.parent) (sym own.2) ∙ ap (λ (x : NetEntity). x.parent) alike ∙ child.2 in
          more above below round_parent nested_above

      chosen : Holds depth outer.round → (b : Bool) → is_kept outer ≡ b → suc nested ≤ suc depth
      chosen more true kept =
          let number : outer.number ≡ c = same_Some outer.number c (sym (ap (λ (r : Round). r.parent) round_is ∙ ap (λ b. cond b (Some outer.number) outer.round.parent) kept) ∙ parent) in
          let h : nested ≤ depth = here more kept number refl deep in
          omega (arith, h)
      chosen more false out =
          let above : outer.round.parent ≡ Some c = sym (ap (λ (r : Round). r.parent) round_is ∙ ap (λ b. cond b (Some outer.number) outer.round.parent) out) ∙ parent in
          let h : suc nested ≤ depth = more c nested above deep in
          omega (arith, h)

  pub nested-few : (most : ℕ) → AreShallow most (entities job) → {k depth : ℕ} → IsNested net k depth → depth ≤ most
  nested-few most shallow (at_top) = omega arith
  nested-few most shallow (within c depth k nested in_c) =
      let child = child-in net c k in_c in
      let st = standing-of job net placed is k child.0 child.1 in
      let deep = shallow st.place st.standing st.at in
      let parent : st.standing.round.parent ≡ Some c = ap (λ (x : NetEntityTree). x.parent) (sym st.same) ∙ child.2 in
      let h : suc depth ≤ deep.depth = holds-at deep.round c depth parent nested in
      let l = deep.levels in
      omega (arith, h, l)
