-- The lists of a tree tell what its nodes have recorded.
use Rattle.std.proofs.Common.{◌≡◌, ℕ, List, [], ◌∷◌, Bool, true, false, All, Option, Some, None, refl, sym, ap, subst, ◌∙◌}
use Rattle.std.specs.Prelude.{bytes_eq}
use Rattle.std.specs.List.{AllZip, AllByRecursion}
use Rattle.std.specs.Bool.{Decides}
use Rattle.std.proofs.lemmas.List.Elements.{All-from_recursion}
use Rattle.std.proofs.lemmas.Option.{none-some}
use Rattle.std.proofs.lemmas.Slice.Eq.{bytes_eq-Decides}
use Rattle.pt_meaning.specs.Basics.{Path}
use Rattle.pt_records.specs.Made.{made_in}
use Rattle.pt_net.specs.declared.net.Net.{Net}
use Rattle.pt_net.specs.declared.net.NetEntity.{NetEntity}
use Rattle.pt_trace.specs.Report.{Meetings}
use Rattle.pt_node.specs.Shown.{Shown}
use Rattle.pt_node.specs.View.{Outline, outline_of, text_at}
use Rattle.pt_trees.specs.Meetings.{TellsAt, lines_if, lines_of}
use Rattle.pt_meeting_lines.specs.Lines.{met_in}
use Rattle.pt_meeting_lines.proofs.Firings.{by-firing}
use Rattle.pt_meetings.specs.Sites.{Site, IsToldAs, AreWrittenFor, sites_in}
use Rattle.pt_meetings.specs.Standing.{HasOwnTexts}
use Rattle.pt_meetings.specs.Laws.{ListsTellMeetings}
use Rattle.pt_meetings.specs.Written.{AreWrittenLists}
use Rattle.pt_meetings.proofs.SiteMeetings.{if_at, met_at, same-test, NotAt, none-at, kept-met}
use Rattle.pt_meetings.proofs.SiteTexts.{HasText, HaveTexts, texts-in}
use Rattle.pt_meetings.proofs.Walking.{zip-append}

same-of : {A : Type 0} {x y : A} → Option.Some x ≡ Option.Some y → x ≡ y
same-of e = cc

-- the path of a list is the text at the path of its site
told-text : (net : Net) (o : Outline) (t : Meetings) (x : Site) → IsToldAs net t x → HasText net.entities.items (text_at o) x → text_at o x.path ≡ Some t.path
told-text net o t x told text =
    let same : text.0 ≡ told.0 = same-of (sym text.1 ∙ told.1) in
    text.2 ∙ ap (λ (e : NetEntity). Option.Some e.path) same ∙ ap (λ v. Option.Some v) (sym told.2.0)

no-site : (net : Net) (o : Outline) (p : Path) (xs : List Site) → text_at o p ≡ None → HaveTexts net.entities.items (text_at o) xs → NotAt p xs
no-site net o p [] e h = tt
no-site net o p (x ∷ xs) e h = (λ f. none-some h.0.0.path (sym e ∙ ap (λ v. text_at o v) (sym f) ∙ h.0.2), no-site net o p xs e h.1)

at-text : (net : Net) (o : Outline) (p : Path) (n : ℕ) (text : List ℕ) → HasOwnTexts o → text_at o p ≡ Some text → (told : List Meetings) (xs : List Site) → AllZip (IsToldAs net) told xs → HaveTexts net.entities.items (text_at o) xs → AllZip (TellsAt net (Some text)) (lines_of n (Some text) told) (met_at p n xs)
at-text net o p n text own e [] [] z h = tt
at-text net o p n text own e [] (x ∷ xs) z h = absurd z
at-text net o p n text own e (t ∷ told) [] z h = absurd z
at-text net o p n text own e (t ∷ told) (x ∷ xs) z h =
    let here : text_at o x.path ≡ Some t.path = told-text net o t x z.0 h.0 in
    let same : bytes_eq t.path text ≡ bytes_eq x.path p = same-test (bytes_eq t.path text) (bytes_eq x.path p) (bytes_eq-Decides t.path text) (bytes_eq-Decides x.path p)
    (λ f. own x.path p text (here ∙ ap (λ v. Option.Some v) f) e) (λ f. same-of (sym here ∙ ap (λ v. text_at o v) f ∙ e)) in
    subst (λ b. AllZip (TellsAt net (Some text)) (lines_if (bytes_eq t.path text) (met_in n t.lines) (lines_of n (Some text) told)) (if_at b (made_in n x.made) (met_at p n xs))) same
    (by_test (bytes_eq t.path text) (bytes_eq-Decides t.path text) (at-text net o p n text own e told xs z.1 h.1))
  where
    by_test : (b : Bool) → Decides b (t.path ≡ text) → AllZip (TellsAt net (Some text)) (lines_of n (Some text) told) (met_at p n xs) →
        AllZip (TellsAt net (Some text)) (lines_if b (met_in n t.lines) (lines_of n (Some text) told)) (if_at b (made_in n x.made) (met_at p n xs))
    by_test true d rest =
        zip-append (TellsAt net (Some text)) (met_in n t.lines) (lines_of n (Some text) told) (made_in n x.made) (met_at p n xs)
        (by-firing net x.number z.0.0 text n z.0.1 (sym z.0.2.0 ∙ d.0 refl) t.lines x.made z.0.2.1) rest
    by_test false d rest = rest

at-path : (net : Net) (o : Outline) (p : Path) (n : ℕ) (found : Option (List ℕ)) → HasOwnTexts o → text_at o p ≡ found → (told : List Meetings) (xs : List Site) → AllZip (IsToldAs net) told xs → HaveTexts net.entities.items (text_at o) xs → AllZip (TellsAt net found) (lines_of n found told) (met_at p n xs)
at-path net o p n None own e told xs z h = subst (λ ms. AllZip (TellsAt net None) [] ms) (sym (none-at p n xs (no-site net o p xs e h))) tt
at-path net o p n (Some text) own e told xs z h = at-text net o p n text own e told xs z h

-- each list is of a path of the tree
all-there : (net : Net) (o : Outline) (told : List Meetings) (xs : List Site) → AllZip (IsToldAs net) told xs → HaveTexts net.entities.items (text_at o) xs → All (λ (t : Meetings). (p : Path) × (text_at o p ≡ Some t.path)) told
all-there net o told xs z h = All-from_recursion (λ (t : Meetings). (p : Path) × (text_at o p ≡ Some t.path)) told (each told xs z h)
  where
    each : (ts : List Meetings) (ys : List Site) → AllZip (IsToldAs net) ts ys → HaveTexts net.entities.items (text_at o) ys → AllByRecursion (λ (t : Meetings). (p : Path) × (text_at o p ≡ Some t.path)) ts
    each [] [] z h = tt
    each [] (y ∷ ys) z h = absurd z
    each (t ∷ ts) [] z h = absurd z
    each (t ∷ ts) (y ∷ ys) z h = ((y.path, told-text net o t y z.0 h.0), each ts ys z.1 h.1)

pub lists-tell : ListsTellMeetings
lists-tell net s told st own listed =
    let texts = texts-in net.entities.items 0 s (text_at (outline_of s)) (λ p. refl) st in
    record {
      there = all-there net (outline_of s) told (sites_in net.entities.items 0 s) listed texts;
      each = λ p n. subst (λ ms. AllZip (TellsAt net (text_at (outline_of s) p)) (lines_of n (text_at (outline_of s) p) told) ms) (kept-met net.entities.items 0 s p n st)
          (at-path net (outline_of s) p n (text_at (outline_of s) p) own refl told (sites_in net.entities.items 0 s) listed texts);
    }

-- what a walk from the top writes
pub written-by : (net held : Net) (s : Shown) (old new : List ℕ) → held ≡ net → AreWrittenFor held (sites_in held.entities.items 0 s) old new → AreWrittenLists net s old new
written-by net held s old new same h = (h.0, subst (λ (n : Net). AllZip (IsToldAs n) h.0 (sites_in n.entities.items 0 s)) same h.1, h.2)
