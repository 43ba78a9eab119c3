-- The list of a composite itself.
use Rattle.std.proofs.Common.{◌≡◌, ℕ, [], ◌∷◌, All, Option, Some, None, sym, subst}
use Rattle.std.specs.Prelude.{slice_get}
use Rattle.std.specs.List.{AllZip}
use Rattle.std.proofs.lemmas.List.Elements.{recursion_from_All}
use Rattle.pt_meaning.specs.Log.{Meeting}
use Rattle.pt_records.specs.Kept.{Made}
use Rattle.pt_net.specs.declared.net.Net.{Net}
use Rattle.pt_trace.specs.declared.meetings.Met.{Met}
use Rattle.pt_trace.specs.Report.{Meetings}
use Rattle.pt_meeting_lines.specs.declared.inside.Inside.{Inside}
use Rattle.pt_meeting_lines.specs.Inside as lines
use Rattle.pt_meeting_lines.specs.Inside.{IsInsideOf}
use Rattle.pt_meeting_lines.specs.Tells.{Tells}
use Rattle.pt_meeting_lines.specs.Lines.{AreLinesOf}
use Rattle.pt_meetings.specs.Sites.{CanBeTold, IsToldAs, own_site}

module _ (net : Net) (k : ℕ) (made : Made) (inside : Inside) (of_net : inside.net.now ≡ net) (of_number : inside.number ≡ k) (is : IsInsideOf inside) where
  here : slice_get net.entities.items k ≡ Some inside.composite.now
  here = subst (λ (j : ℕ). slice_get net.entities.items j ≡ Some inside.composite.now) of_number (subst (λ (n : Net). slice_get n.entities.items inside.number ≡ Some inside.composite.now) of_net is.composite)

  -- its meetings can be told
  pub can-tell : (kept : Option Made) → kept ≡ Some made → All (CanBeTold net) (own_site k kept) → All (λ (m : ℕ × Meeting). lines.CanBeTold inside m.1) made
  can-tell kept e h =
      let one = recursion_from_All (CanBeTold net) (own_site k (Some made)) (subst (λ (r : Option Made). All (CanBeTold net) (own_site k r)) e h) in
      subst (λ (n : Net). All (λ (m : ℕ × Meeting). (what : Met) × Tells n inside.number inside.composite.now what m.1) made) (sym of_net)
      (subst (λ (j : ℕ). All (λ (m : ℕ × Meeting). (what : Met) × Tells net j inside.composite.now what m.1) made) (sym of_number) (one.0 inside.composite.now here))

  -- and the list is that of its site
  pub told-as : (kept : Option Made) (t : Meetings) → kept ≡ Some made → AreLinesOf inside.net.now inside.number inside.composite.now t made → AllZip (IsToldAs net) (t ∷ []) (own_site k kept)
  told-as kept t e h =
      let lines = subst (λ (j : ℕ). AreLinesOf net j inside.composite.now t made) of_number (subst (λ (n : Net). AreLinesOf n inside.number inside.composite.now t made) of_net h) in
      subst (λ (r : Option Made). AllZip (IsToldAs net) (t ∷ []) (own_site k r)) (sym e) ((inside.composite.now, here, lines), tt)

-- a node without a record has no site of its own
pub none-own : (net : Net) (k : ℕ) (kept : Option Made) → kept ≡ None → AllZip (IsToldAs net) [] (own_site k kept)
none-own net k kept e = subst (λ (r : Option Made). AllZip (IsToldAs net) [] (own_site k r)) (sym e) tt
