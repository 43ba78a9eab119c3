-- The firing of a Rendezvous explained: by firings of its processes, and by meetings.
use Rattle.std.proofs.Common.{◌≡◌, ◌⊎◌, ℕ, zero, suc, ◌≤◌, List, [], ◌∷◌, ◌++◌, length, Option, Some, None, inl, inr, refl, sym, ap, subst, ◌∙◌}
use Rattle.pt_meaning.specs.Basics.{Tag, Streams, at, Event, Met, firings_in, Meeting}
use Rattle.pt_meaning.specs.Streams.{IsPrefix}
use Rattle.pt_meaning.specs.Machine.{Stepping, Facts}
use Rattle.pt_meaning.specs.Rounds.{Source, Own, Output, Net}
use Rattle.pt_meaning.specs.Modal.{get, change_at}
use Rattle.pt_meaning.specs.Process.{Party, with_put_made, with_token}
use Rattle.pt_meaning.specs.Meetings.{Scene, offers, Target, Place, Outlet, Hop, hops_in, sent, received, passed, meet}
use Rattle.pt_meaning.specs.Closed.{Has, rounds_of}
use Rattle.pt_laws.specs.SoundRuns.{IsBare}
use Rattle.pt_laws.specs.Explained.{Turned}
use Rattle.pt_laws.proofs.Order.{IsPrefix-refl, IsPrefix-trans, IsPrefix-append}
use Rattle.pt_laws.proofs.MeetingIndex.{some-same}
use Rattle.pt_laws.proofs.LevelLaws.{has-either}
use Rattle.pt_laws.proofs.ExplainParties.{PartyIs}

-- lists in which an entry is changed
changed-one : {B : Type 0} (i : ℕ) (f : B → B) (xs : List B) (j : ℕ) (y : B) → get (change_at i f xs) j ≡ Some y → (x : B) × (get xs j ≡ Some x) × ((y ≡ x) ⊎ ((j ≡ i) × (y ≡ f x)))
changed-one i f [] j y e = absurd (cc)
changed-one zero f (x ∷ xs) zero y e = (x, refl, inr (refl, some-same y (f x) (sym e)))
changed-one zero f (x ∷ xs) (suc j) y e = (y, e, inl refl)
changed-one (suc i) f (x ∷ xs) zero y e = (x, refl, inl (some-same y x (sym e)))
changed-one {B} (suc i) f (x ∷ xs) (suc j) y e = up (changed-one i f xs j y e)
  where
    up : ((x : B) × (get xs j ≡ Some x) × ((y ≡ x) ⊎ ((j ≡ i) × (y ≡ f x)))) → (x : B) × (get xs j ≡ Some x) × ((y ≡ x) ⊎ ((suc j ≡ suc i) × (y ≡ f x)))
    up (a, b, inl c) = (a, b, inl c)
    up (a, b, inr c) = (a, b, inr (ap (λ v. suc v) c.0, c.1))

change-count : {B : Type 0} (i : ℕ) (f : B → B) (xs : List B) → length (change_at i f xs) ≡ length xs
change-count i f [] = refl
change-count zero f (x ∷ xs) = refl
change-count (suc i) f (x ∷ xs) = ap (λ n. suc n) (change-count i f xs)

token-grows : {T : Type 0} (r : ℕ) (y : T) (X : Streams T) (q : ℕ) → IsPrefix (at X q) (at (change_at r (λ xs. xs ++ (y ∷ [])) X) q)
token-grows r y [] q = tt
token-grows zero y (xs ∷ X) zero = IsPrefix-append xs (y ∷ [])
token-grows zero y (xs ∷ X) (suc q) = IsPrefix-refl (at X q)
token-grows (suc r) y (xs ∷ X) zero = IsPrefix-refl xs
token-grows (suc r) y (xs ∷ X) (suc q) = token-grows r y X q

-- A scene explained: each process, and the meetings.
pub record SceneIs {T S : Type 0} (facts : Facts T S) (step : Stepping T S) (tag : Tag) (ks : List S) (Asks : ℕ → S → Streams T → Type 0) (τ : ℕ → List (Turned T)) (sc : Scene T S) : Type 0 where
  pub parties : (i : ℕ) (p : Party T S) → get sc.parties i ≡ Some p → PartyIs facts step tag ks Asks (τ i) i p
  pub bare : IsBare sc.met
  pub quiet : firings_in sc.met ≡ 0
  pub count : length sc.parties ≡ length ks
  pub beyond : (i : ℕ) → length ks ≤ i → τ i ≡ []

module _ {T S : Type 0} (facts : Facts T S) (step : Stepping T S) (tag : Tag) (net : Net) (ks : List S) (Asks : ℕ → S → Streams T → Type 0) (τ : ℕ → List (Turned T)) where
  abbrev Holds : Scene T S → Type 0
  Holds sc = SceneIs facts step tag ks Asks τ sc

  abbrev Is : ℕ → Party T S → Type 0
  Is i p = PartyIs facts step tag ks Asks (τ i) i p

  -- a token is sent
  put-made : (i : ℕ) (p : Party T S) → Is i p → Is i (with_put_made p)
  put-made i p h = record { start = h.start; at_start = h.at_start; way = h.way; whole = h.whole; well = h.well; begins = h.begins; tagged = h.tagged; asks = h.asks }

  sent-is : (s : Option Source) (sc : Scene T S) → Holds sc → Holds (sent s sc)
  sent-is None sc h = h
  sent-is (Some (Own j)) sc h = record { parties = h.parties; bare = h.bare; quiet = h.quiet; count = h.count; beyond = h.beyond }
  sent-is (Some (Output i r)) sc h = record {
    parties = λ j p e. let c = changed-one i with_put_made sc.parties j p e in either j p c.0 c.1 c.2;
    bare = h.bare;
    quiet = h.quiet;
    count = change-count i with_put_made sc.parties ∙ h.count;
    beyond = h.beyond;
  }
    where
      either : (j : ℕ) (p y : Party T S) → get sc.parties j ≡ Some y → (p ≡ y) ⊎ ((j ≡ i) × (p ≡ with_put_made y)) → Is j p
      either j p y e (inl a) = subst (λ (v : Party T S). Is j v) (sym a) (h.parties j y e)
      either j p y e (inr a) = subst (λ (v : Party T S). Is j v) (sym a.1) (put-made j y (h.parties j y e))

  -- and received
  with-token-is : (i q : ℕ) (x : T) (p : Party T S) → Is i p → Is i (with_token q x p)
  with-token-is i q x p h = record { start = h.start; at_start = h.at_start; way = h.way; whole = h.whole; well = h.well; begins = λ b e r. IsPrefix-trans _ _ _ (h.begins b e r) (token-grows q x p.got r); tagged = h.tagged; asks = h.asks }

  received-is : (x : T) (t : Target) (sc : Scene T S) → Holds sc → Holds (received x t sc)
  received-is x (Outlet o) sc h = record { parties = h.parties; bare = h.bare; quiet = h.quiet; count = h.count; beyond = h.beyond }
  received-is x (Place i q) sc h = record {
    parties = λ j p e. let g = changed-one i (with_token q x) sc.parties j p e in either j p g.0 g.1 g.2;
    bare = h.bare;
    quiet = h.quiet;
    count = change-count i (with_token q x) sc.parties ∙ h.count;
    beyond = h.beyond;
  }
    where
      either : (j : ℕ) (p y : Party T S) → get sc.parties j ≡ Some y → (p ≡ y) ⊎ ((j ≡ i) × (p ≡ with_token q x y)) → Is j p
      either j p y e (inl a) = subst (λ (v : Party T S). Is j v) (sym a) (h.parties j y e)
      either j p y e (inr a) = subst (λ (v : Party T S). Is j v) (sym a.1) (with-token-is j q x y (h.parties j y e))

  passed-is : (hs : List Hop) (xs : List (Option T)) (sc : Scene T S) → Holds sc → Holds (passed net hs xs sc)
  passed-is [] xs sc h = h
  passed-is (k ∷ hs) [] sc h = h
  passed-is (k ∷ hs) (None ∷ xs) sc h = h
  passed-is (k ∷ hs) (Some x ∷ xs) sc h = passed-is hs xs (received x k.target (sent (get net.sources k.channel) sc)) (received-is x k.target (sent (get net.sources k.channel) sc) (sent-is (get net.sources k.channel) sc h))

  met-count : (es : List (Event T)) (n : ℕ) (m : Meeting) → firings_in (es ++ (Met [] n m ∷ [])) ≡ firings_in es
  met-count [] n m = refl
  met-count (Event.Finished ns f ∷ es) n m = ap (λ v. suc v) (met-count es n m)
  met-count (Met ns i w ∷ es) n m = met-count es n m

  pub meet-is : (n : ℕ) (m : Meeting) (sc : Scene T S) → Holds sc → Holds (meet net n m sc)
  meet-is n m sc h =
      let after = passed-is (hops_in net m) (offers net sc (hops_in net m)) sc h in
      let end = passed net (hops_in net m) (offers net sc (hops_in net m)) sc in
      record { parties = after.parties; bare = bare_by end.met after.bare; quiet = met-count end.met n m ∙ after.quiet; count = after.count; beyond = after.beyond }
    where
      bare_by : (es : List (Event T)) → IsBare es → IsBare (es ++ (Met [] n m ∷ []))
      bare_by es b v g = go (has-either v es (Met [] n m ∷ []) g)
        where
          go : Has v es ⊎ Has v (Met [] n m ∷ []) → rounds_of v ≡ []
          go (inl x) = b v x
          go (inr (inl x)) = ap (λ w. rounds_of w) x
          go (inr (inr x)) = absurd x
