-- A meeting keeps what it has no part in.
use Rattle.std.proofs.Common.{◌≡◌, ℕ, zero, suc, List, [], ◌∷◌, ◌++◌, Option, Some, None, inl, inr, refl, sym, ap, ◌∙◌}
use Rattle.pt_meaning.specs.Tag.{Tag}
use Rattle.pt_meaning.specs.Streams.{Streams, at, get, change_at}
use Rattle.pt_meaning.specs.Log.{Log, Meeting, Channel, Barrier}
use Rattle.pt_meaning.specs.Machine.{Stepping, Facts}
use Rattle.pt_meaning.specs.Net.{Source, Own, Output, Net}
use Rattle.pt_meaning.specs.Process.{Put, Party, advanced, all_advanced, rest_of, with_put_made, with_token, all_got, all_puts}
use Rattle.pt_meaning.specs.Meetings.{Scene, offers, Target, Place, Outlet, Hop, hops_in, is_legal, sent, received, passed, meet, Role, Child, Inlet, sender_role, receiver_role, roles_in, parties_of, HasRole, Apart}
use Rattle.pt_meaning.specs.Rendezvous.{Places, settled}
use Rattle.pt_laws.specs.SoundRuns.{got_by}
use Rattle.pt_laws.proofs.ApartLaws.{legal_stays}
use Rattle.pt_laws.proofs.ExplainPlaces.{held_of}
use Rattle.pt_rv_laws.specs.State.{RvState, net_of, got_of, IsLegal, after_meet}
use Rattle.pt_rv_laws.specs.Chain.{scene_of, Underway}
use Rattle.pt_rv_laws.specs.Apart.{MeetingsAreApart}
use Rattle.pt_rv_laws.proofs.MeetLaws as meets

get-other : {A : Type 0} (f : A → A) (j i : ℕ) (xs : List A) → (i ≡ j → ⊥) → get (change_at j f xs) i ≡ get xs i
get-other f j i [] d = refl
get-other f zero zero (x ∷ xs) d = absurd (d refl)
get-other f zero (suc i) (x ∷ xs) d = refl
get-other f (suc j) zero (x ∷ xs) d = refl
get-other f (suc j) (suc i) (x ∷ xs) d = get-other f j i xs (λ e. d (ap (λ n. suc n) e))

at-other : {A : Type 0} (f : List A → List A) (j i : ℕ) (xs : List (List A)) → (i ≡ j → ⊥) → at (change_at j f xs) i ≡ at xs i
at-other f j i [] d = refl
at-other f zero zero (x ∷ xs) d = absurd (d refl)
at-other f zero (suc i) (x ∷ xs) d = refl
at-other f (suc j) zero (x ∷ xs) d = refl
at-other f (suc j) (suc i) (x ∷ xs) d = at-other f j i xs (λ e. d (ap (λ n. suc n) e))

has-left : (r : Role) (xs ys : List Role) → HasRole r xs → HasRole r (xs ++ ys)
has-left r [] ys h = absurd h
has-left r (x ∷ xs) ys (inl e) = inl e
has-left r (x ∷ xs) ys (inr h) = inr (has-left r xs ys h)

has-right : (r : Role) (xs ys : List Role) → HasRole r ys → HasRole r (xs ++ ys)
has-right r [] ys h = h
has-right r (x ∷ xs) ys h = inr (has-right r xs ys h)

-- what those who take no part have is the same
record Untouched {T S : Type 0} (roles : List Role) (a b : Scene T S) : Type 0 where
  child : (i : ℕ) → (HasRole (Child i) roles → ⊥) → get b.parties i ≡ get a.parties i
  inlet : (j : ℕ) → (HasRole (Inlet j) roles → ⊥) → at b.inputs j ≡ at a.inputs j

sent-untouched : {T S : Type 0} (o : Option Source) (sc : Scene T S) → Untouched (sender_role o) sc (sent o sc)
sent-untouched None sc = record { child = λ i d. refl; inlet = λ j d. refl }
sent-untouched (Some (Own x)) sc = record { child = λ i d. refl; inlet = λ j d. at-other rest_of x j sc.inputs (λ e. d (inl (ap (λ n. Inlet n) e))) }
sent-untouched (Some (Output x p)) sc = record { child = λ i d. get-other with_put_made x i sc.parties (λ e. d (inl (ap (λ n. Child n) e))); inlet = λ j d. refl }

received-untouched : {T S : Type 0} (x : T) (t : Target) (sc : Scene T S) → Untouched (receiver_role t) sc (received x t sc)
received-untouched x (Place y q) sc = record { child = λ i d. get-other (with_token q x) y i sc.parties (λ e. d (inl (ap (λ n. Child n) e))); inlet = λ j d. refl }
received-untouched x (Outlet o) sc = record { child = λ i d. refl; inlet = λ j d. refl }

passed-untouched : {T S : Type 0} (net : Net) (hs : List Hop) (xs : List (Option T)) (sc : Scene T S) → Untouched (roles_in net hs) sc (passed net hs xs sc)
passed-untouched net [] xs sc = record { child = λ i d. refl; inlet = λ j d. refl }
passed-untouched net (h ∷ hs) [] sc = record { child = λ i d. refl; inlet = λ j d. refl }
passed-untouched net (h ∷ hs) (None ∷ xs) sc = record { child = λ i d. refl; inlet = λ j d. refl }
passed-untouched {T} {S} net (h ∷ hs) (Some x ∷ xs) sc =
    let o : Option Source = get net.sources h.channel in
    let a : Scene T S = sent o sc in
    let b : Scene T S = received x h.target a in
    let u = sent-untouched o sc in
    let v = received-untouched x h.target a in
    let w = passed-untouched net hs xs b in
    record {
      child = λ i d.
          w.child i (λ k. d (has-right _ (sender_role o) _ (has-right _ (receiver_role h.target) _ k))) ∙
          v.child i (λ k. d (has-right _ (sender_role o) _ (has-left _ (receiver_role h.target) (roles_in net hs) k))) ∙
          u.child i (λ k. d (has-left _ (sender_role o) (receiver_role h.target ++ roles_in net hs) k));
      inlet = λ j d.
          w.inlet j (λ k. d (has-right _ (sender_role o) _ (has-right _ (receiver_role h.target) _ k))) ∙
          v.inlet j (λ k. d (has-right _ (sender_role o) _ (has-left _ (receiver_role h.target) (roles_in net hs) k))) ∙
          u.inlet j (λ k. d (has-left _ (sender_role o) (receiver_role h.target ++ roles_in net hs) k));
    }

roles-within : (net : Net) (m : Meeting) (r : Role) → HasRole r (roles_in net (hops_in net m)) → HasRole r (parties_of net m)
roles-within net (Channel c) r h = h
roles-within net (Barrier b) r h = inr h

-- what a process has, by whether it is there
module _ {T S : Type 0} where
  got_in : Option (Party T S) → Streams T
  got_in None = []
  got_in (Some p) = p.got

  puts_by : Option (Party T S) → List (Put T)
  puts_by None = []
  puts_by (Some p) = p.puts

  got-is : (ps : List (Party T S)) (i : ℕ) → got_by (all_got ps) i ≡ got_in (get ps i)
  unfolding got_in
  got-is [] i = refl
  got-is (p ∷ ps) zero = refl
  got-is (p ∷ ps) (suc i) = got-is ps i

  puts-is : (ps : List (Party T S)) (i : ℕ) → at (all_puts ps) i ≡ puts_by (get ps i)
  unfolding puts_by
  puts-is [] i = refl
  puts-is (p ∷ ps) zero = refl
  puts-is (p ∷ ps) (suc i) = puts-is ps i

-- no firing at all
none-advanced : {T S : Type 0} (facts : Facts T S) (step : Stepping T S) (tag : Tag) (sources : List Source) (i : ℕ) (ps : List (Party T S)) → all_advanced facts step tag sources 0 i ps ≡ ps
unfolding advanced
none-advanced facts step tag sources i [] = refl
none-advanced facts step tag sources i (p ∷ ps) = ap (λ v. p ∷ v) (none-advanced facts step tag sources (suc i) ps)

module _ {T S : Type 0} (facts : Facts T S) (step : Stepping T S) (before : RvState T) (kids : List S) (inputs : Streams T) (s : RvState T) (count : ℕ) (now : List S) (ls : List (Log T)) (u : Underway facts step before kids inputs s count now ls) where
  abbrev net : Net
  net = net_of s

  abbrev scene : Scene T S
  scene = scene_of 0 s now ls

  module _ (m : Meeting) where
    abbrev end : Scene T S
    end = passed net (hops_in net m) (offers net scene (hops_in net m)) scene

    untouched : Untouched (roles_in net (hops_in net m)) scene end
    untouched = passed-untouched net (hops_in net m) (offers net scene (hops_in net m)) scene

    places-are : (after_meet m s).places ≡ held_of end
    places-are = meets.places-after facts step before kids inputs s count now ls u m 0

    held-is : held_of scene ≡ s.places
    held-is = meets.held-is facts step before kids inputs s count now ls u 0

    others-stay : (i : ℕ) → (HasRole (Child i) (parties_of net m) → ⊥) → (got_of (after_meet m s) i ≡ got_of s i) × (at (after_meet m s).places.puts i ≡ at s.places.puts i)
    others-stay i d =
        let same = untouched.child i (λ h. d (roles-within net m (Child i) h)) in (
          ap (λ (X : Places T). got_by X.got i) places-are ∙ got-is end.parties i ∙ ap (λ o. got_in o) same ∙ sym (got-is scene.parties i) ∙ ap (λ (X : Places T). got_by X.got i) held-is,
          ap (λ (X : Places T). at X.puts i) places-are ∙ puts-is end.parties i ∙ ap (λ o. puts_by o) same ∙ sym (puts-is scene.parties i) ∙ ap (λ (X : Places T). at X.puts i) held-is,
        )

    inlets-stay : (j : ℕ) → (HasRole (Inlet j) (parties_of net m) → ⊥) → at (after_meet m s).places.inputs j ≡ at s.places.inputs j
    inlets-stay j d = ap (λ (X : Places T). at X.inputs j) places-are ∙ untouched.inlet j (λ h. d (roles-within net m (Inlet j) h))

    legal-after : (other : Meeting) → IsLegal s m → IsLegal s other → Apart net m other → IsLegal (after_meet other s) m
    legal-after other e o d =
        let stays = legal_stays facts step s.tag net 0 0 scene m other (meets.calls-legal facts step before kids inputs s count now ls u 0 m ∙ e) d in
        let none : settled facts step s.tag net 0 0 (meet net 0 other scene) ≡ meet net 0 other scene =
        ap (λ ps. let sc : Scene T S = record { parties = ps; inputs = (meet net 0 other scene).inputs; outputs = (meet net 0 other scene).outputs; met = (meet net 0 other scene).met } in sc) (none-advanced facts step s.tag net.sources 0 (meet net 0 other scene).parties)
        in
        sym (meets.calls-legal facts step before kids inputs (after_meet other s) count now ls (meets.meet-under facts step before kids inputs s count now ls u other o) 0 m) ∙
        ap (λ sc. is_legal facts net sc m) (sym (none ∙ meets.meets-as facts step before kids inputs s count now ls u other 0)) ∙ stays

pub meetings-are-apart : {T S : Type 0} → MeetingsAreApart T S
meetings-are-apart = record {
  others = λ facts step before kids inputs s count now ls u m i d. others-stay facts step before kids inputs s count now ls u m i d;
  inlets = λ facts step before kids inputs s count now ls u m j d. inlets-stay facts step before kids inputs s count now ls u m j d;
  stays = λ facts step before kids inputs s count now ls u m other e o d. legal-after facts step before kids inputs s count now ls u m other e o d;
}
