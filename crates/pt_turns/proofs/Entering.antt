-- The firing of a node of the code, by what its body is.
use Rattle.std.proofs.Common.{◌≡◌, ℕ, ℤ, suc, ◌<◌, List, [], ◌∷◌, Bool, true, false, map, Option, refl, arith, sym, ap, ap₂, subst, ◌∙◌, inl}
use Rattle.pt_meaning.specs.Basics.{Tag, Streams, silent}
use Rattle.pt_meaning.specs.Machine as machine
use Rattle.pt_meaning.specs.Machine.{Outcome}
use Rattle.pt_meaning.specs.Meetings.{Meets}
use Rattle.pt_meaning.specs.Tree as tree
use Rattle.pt_meaning.specs.Step.{actor_outcome, step_at}
use Rattle.pt_value.specs.declared.token.Token.{Token}
use Rattle.pt_value.specs.declared.token.Token.TheVariants.{Int}
use Rattle.pt_firing.specs.RunFault.{code_of}
use Rattle.pt_records.specs.Kept.{Made, Kept, kept_by}
use Rattle.pt_records.specs.Made.{IsMade}
use Rattle.pt_records.proofs.ShutSteps.{nothing-is-shut, at-own-place}
use Rattle.pt_records.proofs.GrowthLaws.{grew-none}
use Rattle.pt_library.specs.declared.library_actor.LibraryActor.{LibraryActor}
use Rattle.pt_library.specs.LibraryActor as library
use Rattle.pt_library.specs.LibraryActor.{rows}
use Rattle.pt_library.proofs.RowLaws.{rows_lawful}
use Rattle.pt_directors.specs.Directors.{Director}
use Rattle.pt_node.specs.declared.node.Node.{Node, roll-Node, out-Node}
use Rattle.pt_node.specs.declared.node.Node.TheViews.{out-roll-Node}
use Rattle.pt_node.specs.declared.node.Node.TheOpen as opens
use Rattle.pt_node.specs.declared.body.Body.{Body}
use Rattle.pt_node.specs.declared.body.Body.TheVariants as body
use Rattle.pt_node.specs.declared.body.Held.{Held}
use Rattle.pt_node.specs.Acts.{acts}
use Rattle.pt_node.specs.Shown.{Shown, AllShown, Branch, Frame, shown, shown_node, level, all_of}
use Rattle.pt_node.specs.View.{Tree, entry_of, heading_of, kept_of, kepts_of, Outline, Named, outline_of, outlines_of, count_of}
use Rattle.pt_node.specs.Live.{IsFit, AllFit}
use Rattle.pt_node.specs.Stuck.{fault_of}
use Rattle.pt_turns.specs.declared.within.Within.{Within}
use Rattle.pt_turns.specs.declared.within.Within.TheVariants.{Done, Fault, Spent, Full, Memory}
use Rattle.pt_turns.specs.Within.{WithinTo, StaysFit, ActorTo, GaveAt, Gave, SeveralTo}
use Rattle.pt_turns.specs.Composite.{CompositeTo, KeepsFit}
use Rattle.pt_turns.specs.OwnMeetings.{OwnMeetings, own_of, with_meetings, IsOwnPath}
use Rattle.pt_turns.proofs.Recording.{made-children, off-none}

-- a library actor
actor-step : (m : Meets) (k : ℕ) (h : tree.Past) (a b : LibraryActor) (tag : Tag) (X : Streams Token) → step_at rows k 1 m tag (tree.Actor h a b) X ≡ actor_outcome tag h a (library.step tag b X)
unfolding step_at
actor-step m k h a b tag X = refl

pub actor-goes : (f : Frame) (held held' : Held) (ks : AllShown) (tag : Tag) (X : Streams Token) (w : Within) → ActorTo held f.path f.past.made tag X w held' →
    WithinTo (Branch (record { past = f.past; body = body.Actor held; records = f.records; path = f.path; labels = f.labels; meetings = f.meetings; live = f.live }) ks) tag X w (Branch (record { past = f.past; body = body.Actor held'; records = f.records; path = f.path; labels = f.labels; meetings = f.meetings; live = false }) ks)
actor-goes f held held' ks tag X (Done out) a = λ m made.
    let kept : Kept Token = kept_by (entry_of f) (kepts_of ks) in
    record {
      log = silent;
      done = (0, λ k l. actor-step m k f.past held.start held.actor tag X ∙ ap (λ r. actor_outcome tag f.past held.start r) a.0 ∙ ap (λ v. let r : Outcome Token Tree = machine.Done (tree.Actor (tree.fired_at tag f.past) v held'.actor) out silent in r) (sym a.1));
      kept = grew-none kept;
    }
actor-goes f held held' ks tag X (Fault place) a = λ m made.
    let kept : Kept Token = kept_by (entry_of f) (kepts_of ks) in
    let told : record { path = []; firing = f.past.made; code = code_of place.kind } ≡ fault_of [] place = ap (λ n. let g : machine.Fault = record { path = []; firing = n; code = code_of place.kind } in g) (sym a.2) in (
      [],
      ap (λ v. Option.Some v) (sym a.1),
      record {
        log = silent;
        stuck = (0, λ k l. (record { path = []; firing = f.past.made; code = code_of place.kind } ∷ [], silent, actor-step m k f.past held.start held.actor tag X ∙ ap (λ r. actor_outcome tag f.past held.start r) a.0, inl (sym told), λ p. tt));
        kept = grew-none kept;
        part = at-own-place rows m (tree.Actor f.past held.start held.actor) tag X silent (fault_of [] place) refl a.2 (nothing-is-shut rows rows_lawful m (tree.Actor f.past held.start held.actor) tag X);
      },
    )
actor-goes f held held' ks tag X Spent a = absurd a
actor-goes f held held' ks tag X (Full blocked) a = absurd a
actor-goes f held held' ks tag X Memory a = λ m made. off-none m (tree.Actor f.past held.start held.actor) tag X (kept_by (entry_of f) (kepts_of ks))

pub actor-fit : (f : Frame) (held held' : Held) (ks : AllShown) (w : Within) → AllFit ks → StaysFit w (Branch (record { past = f.past; body = body.Actor held'; records = f.records; path = f.path; labels = f.labels; meetings = f.meetings; live = false }) ks)
actor-fit f held held' ks (Done out) fit = (tt, fit, tt)
actor-fit f held held' ks (Fault place) fit = tt
actor-fit f held held' ks Spent fit = tt
actor-fit f held held' ks (Full blocked) fit = tt
actor-fit f held held' ks Memory fit = tt

-- a composite, with those meetings recorded after the firing
module _ (f : Frame) (made : Option Made) where
  abbrev own : OwnMeetings
  own = own_of f.past.made f.meetings made

  -- its own path, under the meetings that are recorded of it
  own-path : (m : Meets) → IsMade made f.past.made (m [] f.past.made) → IsOwnPath m own f.past (entry_of f)
  own-path m given = record { number = refl; count = refl; meetings = refl; given = given }

  composite-goes : (d d' : Director) (ks ks' : AllShown) (tag : Tag) (X : Streams Token) (w : Within) → CompositeTo acts f.path f.labels own d ks tag X w d' ks' →
      WithinTo (Branch (record { past = f.past; body = body.Composite d; records = f.records; path = f.path; labels = f.labels; meetings = f.meetings; live = f.live }) ks) tag X w (Branch (record { past = f.past; body = body.Composite d'; records = f.records; path = f.path; labels = f.labels; meetings = made; live = false }) ks')
  composite-goes d d' ks ks' tag X (Done out) g = λ m given. let next : f.past.made < suc f.past.made = omega arith in g m given.below f.past (entry_of f) (own-path m (given.own f.past.made next))
  composite-goes d d' ks ks' tag X (Fault place) g = λ m given. g m (made-children m (with_meetings made (entry_of f)) (kepts_of ks') given) f.past (entry_of f) (own-path m (given [] f.past.made)) (map heading_of f.records)
  composite-goes d d' ks ks' tag X Spent g = λ m given. g m (made-children m (with_meetings made (entry_of f)) (kepts_of ks') given) f.past (entry_of f) (own-path m (given [] f.past.made))
  composite-goes d d' ks ks' tag X (Full blocked) g = λ m given. g m (made-children m (with_meetings made (entry_of f)) (kepts_of ks') given) f.past (entry_of f) (own-path m (given [] f.past.made)) (map heading_of f.records)
  composite-goes d d' ks ks' tag X Memory g = λ m given. g m (made-children m (with_meetings made (entry_of f)) (kepts_of ks') given) f.past (entry_of f) (own-path m (given [] f.past.made))

  composite-fit : (d' : Director) (ks' : AllShown) (w : Within) → KeepsFit acts own w d' ks' → StaysFit w (Branch (record { past = f.past; body = body.Composite d'; records = f.records; path = f.path; labels = f.labels; meetings = made; live = false }) ks')
  composite-fit d' ks' (Done out) g = g
  composite-fit d' ks' (Fault place) g = tt
  composite-fit d' ks' Spent g = tt
  composite-fit d' ks' (Full blocked) g = tt
  composite-fit d' ks' Memory g = tt

-- the fields of a node, with another body
abbrev pub with-body : opens.Node-F Node → Body → Shown
with-body r b = Branch (record { past = r.past; body = b; records = r.records; path = r.path; labels = r.labels; meetings = r.meetings; live = r.live }) (all_of (map shown r.children.items))

frame-in : opens.Node-F Node → Frame
frame-in r = record { past = r.past; body = r.body; records = r.records; path = r.path; labels = r.labels; meetings = r.meetings; live = r.live }

module _ (n : Node) (r : opens.Node-F Node) (b : Body) (e : roll-Node r ≡ n) (is : r.body ≡ b) where
  pub old-is : shown_node n ≡ with-body r b
  old-is = ap (λ m. shown_node m) (sym e) ∙ ap (λ x. level x) (out-roll-Node r) ∙ ap (λ v. with-body r v) is

module _ (n n' : Node) (r r' : opens.Node-F Node) (held held' : Held) (e : roll-Node r ≡ n) (e' : roll-Node r' ≡ n') (is : r.body ≡ body.Actor held) (tag : Tag) (X : Streams Token) (w : Within) (goes : ActorTo held r.path r.past.made tag X w held')
    (now : level r' ≡ Branch (record { past = r.past; body = body.Actor held'; records = r.records; path = r.path; labels = r.labels; meetings = r.meetings; live = false }) (all_of (map shown r.children.items))) where
  new-actor : shown_node n' ≡ Branch (record { past = r.past; body = body.Actor held'; records = r.records; path = r.path; labels = r.labels; meetings = r.meetings; live = false }) (all_of (map shown r.children.items))
  new-actor = ap (λ m. shown_node m) (sym e') ∙ ap (λ x. level x) (out-roll-Node r') ∙ now

  pub actor-enters : WithinTo (shown_node n) tag X w (shown_node n')
  unfolding frame-in
  actor-enters =
      subst (λ s. WithinTo s tag X w (shown_node n')) (sym (old-is n r (body.Actor held) e is))
      (subst (λ s. WithinTo (with-body r (body.Actor held)) tag X w s) (sym new-actor) (actor-goes (frame-in r) held held' (all_of (map shown r.children.items)) tag X w goes))

  pub actor-named : outline_of (shown_node n') ≡ outline_of (shown_node n)
  actor-named = ap (λ s. outline_of s) new-actor ∙ sym (ap (λ s. outline_of s) (old-is n r (body.Actor held) e is))

  pub actor-stays : IsFit (shown_node n) → StaysFit w (shown_node n')
  unfolding frame-in
  actor-stays fit = subst (λ s. StaysFit w s) (sym new-actor) (actor-fit (frame-in r) held held' (all_of (map shown r.children.items)) w (subst (λ s. IsFit s) (old-is n r (body.Actor held) e is) fit).1)

module _ (n n' : Node) (r r' : opens.Node-F Node) (d d' : Director) (ks' : AllShown) (made : Option Made) (e : roll-Node r ≡ n) (e' : roll-Node r' ≡ n') (is : r.body ≡ body.Composite d) (w : Within)
    (now : level r' ≡ Branch (record { past = r.past; body = body.Composite d'; records = r.records; path = r.path; labels = r.labels; meetings = made; live = false }) ks') where
  new-composite : shown_node n' ≡ Branch (record { past = r.past; body = body.Composite d'; records = r.records; path = r.path; labels = r.labels; meetings = made; live = false }) ks'
  new-composite = ap (λ m. shown_node m) (sym e') ∙ ap (λ x. level x) (out-roll-Node r') ∙ now

  pub composite-enters : (tag : Tag) (X : Streams Token) → CompositeTo acts r.path r.labels (own_of r.past.made r.meetings made) d (all_of (map shown r.children.items)) tag X w d' ks' → WithinTo (shown_node n) tag X w (shown_node n')
  unfolding frame-in
  composite-enters tag X goes =
      subst (λ s. WithinTo s tag X w (shown_node n')) (sym (old-is n r (body.Composite d) e is))
      (subst (λ s. WithinTo (with-body r (body.Composite d)) tag X w s) (sym new-composite) (composite-goes (frame-in r) made d d' (all_of (map shown r.children.items)) ks' tag X w goes))

  pub composite-named : acts.calls.maximum d' ≡ acts.calls.maximum d → outlines_of ks' ≡ outlines_of (all_of (map shown r.children.items)) → outline_of (shown_node n') ≡ outline_of (shown_node n)
  composite-named most names =
      ap (λ s. outline_of s) new-composite ∙ ap₂ (λ v os. let o : Outline = Named r.path (map heading_of r.records) v r.labels os in o) most names ∙ sym (ap (λ s. outline_of s) (old-is n r (body.Composite d) e is))

  pub composite-stays : KeepsFit acts (own_of r.past.made r.meetings made) w d' ks' → StaysFit w (shown_node n')
  unfolding frame-in
  composite-stays fit = subst (λ s. StaysFit w s) (sym new-composite) (composite-fit (frame-in r) made d' ks' w fit)

-- a firing of a node at a tag that gave these outputs
module _ (n n' : Node) (r r' : opens.Node-F Node) (held held' : Held) (e : roll-Node r ≡ n) (e' : roll-Node r' ≡ n') (is : r.body ≡ body.Actor held) (tag : Tag) (X out : Streams Token) (gives : library.step tag held.actor X ≡ tree.Gives held'.actor out) (start : held'.start ≡ held.start)
    (now : level r' ≡ Branch (record { past = r.past; body = body.Actor held'; records = r.records; path = r.path; labels = r.labels; meetings = r.meetings; live = false }) (all_of (map shown r.children.items))) where
  was-shown : shown_node n ≡ with-body r (body.Actor held)
  was-shown = old-is n r (body.Actor held) e is

  is-shown : shown_node n' ≡ Branch (record { past = r.past; body = body.Actor held'; records = r.records; path = r.path; labels = r.labels; meetings = r.meetings; live = false }) (all_of (map shown r.children.items))
  is-shown = ap (λ m. shown_node m) (sym e') ∙ ap (λ x. level x) (out-roll-Node r') ∙ now

  pub gave-at : IsFit (shown_node n) → GaveAt tag (shown_node n) X out (shown_node n')
  gave-at fit = record {
    goes = actor-enters n n' r r' held held' e e' is tag X (Done out) (gives, start) now;
    fit = actor-stays n n' r r' held held' e e' is tag X (Done out) (gives, start) now fit;
    keeps = record {
      kept = ap (λ s. kept_of s) is-shown ∙ sym (ap (λ s. kept_of s) was-shown);
      outline = ap (λ s. outline_of s) is-shown ∙ sym (ap (λ s. outline_of s) was-shown);
      count = ap (λ s. count_of s) is-shown ∙ sym (ap (λ s. count_of s) was-shown);
    };
  }

-- a firing of a node, whatever its tag, that gave these outputs
module _ (n n' : Node) (r r' : opens.Node-F Node) (held held' : Held) (e : roll-Node r ≡ n) (e' : roll-Node r' ≡ n') (is : r.body ≡ body.Actor held) (X out : Streams Token) (gives : (tag : Tag) → library.step tag held.actor X ≡ tree.Gives held'.actor out) (start : held'.start ≡ held.start)
    (now : level r' ≡ Branch (record { past = r.past; body = body.Actor held'; records = r.records; path = r.path; labels = r.labels; meetings = r.meetings; live = false }) (all_of (map shown r.children.items))) where
  pub gave-out : IsFit (shown_node n) → Gave (shown_node n) X out (shown_node n')
  gave-out fit =
      let some : Tag = record { time = 0; step = 0 } in
      let once = λ (tag : Tag). gave-at n n' r r' held held' e e' is tag X out (gives tag) start now fit in
      record { goes = λ tag. (once tag).goes; fit = (once some).fit; outline = (once some).keeps.outline; count = (once some).keeps.count }

-- a node whose fields were written, and which then isn't live
abbrev pub not-live : opens.Node-F Node → opens.Node-F Node
not-live x = record { past = x.past; body = x.body; children = x.children; records = x.records; path = x.path; labels = x.labels; meetings = x.meetings; live = false }

pub no-longer-live : (r : opens.Node-F Node) → level (not-live (out-Node (roll-Node r))) ≡ Branch (record { past = r.past; body = r.body; records = r.records; path = r.path; labels = r.labels; meetings = r.meetings; live = false }) (all_of (map shown r.children.items))
no-longer-live r = ap (λ (x : opens.Node-F Node). Branch (record { past = x.past; body = x.body; records = x.records; path = x.path; labels = x.labels; meetings = x.meetings; live = false }) (all_of (map shown x.children.items))) (out-roll-Node r)

-- one of which nothing else was written
pub only-not-live : (r : opens.Node-F Node) (b : Body) → r.body ≡ b → level (not-live r) ≡ Branch (record { past = r.past; body = b; records = r.records; path = r.path; labels = r.labels; meetings = r.meetings; live = false }) (all_of (map shown r.children.items))
only-not-live r b is = ap (λ x. Branch (record { past = r.past; body = x; records = r.records; path = r.path; labels = r.labels; meetings = r.meetings; live = false }) (all_of (map shown r.children.items))) is

-- such a firing that gave numbers
pub some-given : (old new : Shown) (X : Streams Token) (b : Bool) (ns : List ℤ) → SeveralTo old X b ns new → b ≡ true → Gave old X (map Int ns ∷ []) new
some-given old new X b ns g is = subst (λ v. SeveralTo old X v ns new) is g
