-- The turns of children under SR and DE explained.
use Rattle.std.proofs.Common.{◌≡◌, ℕ, zero, suc, max, List, [], ◌∷◌, ◌++◌, Bool, true, false, Option, Some, None, if◌then◌else◌, inl, inr, refl, sym, ap, subst, ◌∙◌, append_assoc, append-nil}
use Rattle.std.proofs.Math.Path.{fun_ext}
use Rattle.pt_meaning.specs.Basics.{Tag, Streams, at, joined, Log, silent, log_then, own}
use Rattle.pt_meaning.specs.Machine.{Fault, Outcome, Done, Stuck, Stepping, Facts, recorded}
use Rattle.pt_meaning.specs.Tick.{all_single, single_outcome, if_single, sr_turn, heads, tails, rows_from, rows_of, longest, follows, and_then, by_rows, whole_or_rows, de_turn}
use Rattle.pt_meaning.specs.Asked.{IsTurnAt}
use Rattle.pt_laws.specs.LogsOfRuns.{log_in}
use Rattle.pt_meaning.specs.Streams.{IsPrefix}
use Rattle.pt_meaning.specs.Closed.{Begun, inputs_at, outputs_at, begun_at}
use Rattle.pt_laws.specs.Explained.{Turned, PartOf, of_turns}
use Rattle.pt_laws.proofs.Order.{at-joined, IsPrefix-refl, IsPrefix-trans, IsPrefix-after, IsPrefix-append}

-- what holds of a turn that starts in s on the inputs X
pub record TurnIs {T S : Type 0} (facts : Facts T S) (step : Stepping T S) (tag : Tag) (s : S) (X : Streams T) (o : Outcome T S) (ts : List (Turned T)) (way : Option (Begun T)) (z : S) : Type 0 where
  pub part_is : PartOf facts step s (log_in o) ts way z
  pub begun_tagged : (b : Begun T) → way ≡ Some b → b.tag ≡ tag
  pub done : (y : S) (out : Streams T) (l : Log T) → o ≡ Done y out l → (z ≡ y) × (way ≡ None)

-- as often as it takes and gives them
pub record TurnCounts {T S : Type 0} (X : Streams T) (o : Outcome T S) (ts : List (Turned T)) (way : Option (Begun T)) : Type 0 where
  pub takes : (q : ℕ) → IsPrefix (of_turns (inputs_at q) ts ++ begun_at way q) (at X q)
  pub gives : (y : S) (out : Streams T) (l : Log T) → o ≡ Done y out l → (port : ℕ) → at out port ≡ of_turns (outputs_at port) ts

-- a kind of turn, explained for each state and inputs
pub record Turning {T S : Type 0} (facts : Facts T S) (step turn : Stepping T S) (tag : Tag) : Type 0 where
  pub turns : S → Streams T → List (Turned T)
  pub way : S → Streams T → Option (Begun T)
  pub end : S → Streams T → S
  pub is : (s : S) (X : Streams T) → TurnIs facts step tag s X (turn tag s X) (turns s X) (way s X) (end s X)
  pub counts : (s : S) (X : Streams T) → TurnCounts X (turn tag s X) (turns s X) (way s X)

done-parts : {T S : Type 0} (a b : S) (x y : Streams T) (l m : Log T) → Done a x l ≡ Done b y m → (a ≡ b) × (x ≡ y)
done-parts {T} {S} a b x y l m e = (ap state_of e, ap out_of e)
  where
    state_of : Outcome T S → S
    state_of (Done s out l) = s
    state_of (Stuck fs l) = a

    out_of : Outcome T S → Streams T
    out_of (Done s out l) = out
    out_of (Stuck fs l) = x

module _ {T S : Type 0} (facts : Facts T S) (step : Stepping T S) (tag : Tag) where
  abbrev pub turn_of : S → Streams T → Streams T → Log T → Turned T
  turn_of s X out l = record { record_of = record { number = facts.made s; tag = tag; inputs = X; outputs = out }; inside = l }

  -- one firing that is finished, with its record
  one-is : (s : S) (X : Streams T) (z : S) (out : Streams T) (l : Log T) → step tag s X ≡ Done z out l → TurnIs facts step tag s X (Done z out (log_then l (own (turn_of s X out l).record_of))) (turn_of s X out l ∷ []) None z
  one-is s X z out l d =
      let L : Log T = log_then l (own (turn_of s X out l).record_of) in
      record {
        part_is = record { first = log_then L silent; rest = silent; chain = (z, silent, refl, d, (refl, refl), refl); ends = refl; whole = fun_ext (λ p. sym (append-nil (L p)) ∙ sym (append-nil (L p ++ []))) };
        begun_tagged = λ b e. absurd (clash b e);
        done = λ y o k e. ((done-parts z y out o _ k e).0, refl);
      }
    where
      clash : (b : Begun T) → None ≡ Some b → ⊥
      clash b e = cc

  -- one that isn't
  stuck-is : (s : S) (X : Streams T) (gs : List Fault) (l : Log T) → log_in (step tag s X) ≡ l → TurnIs facts step tag s X (Stuck gs l) [] (Some (record { tag = tag; inputs = X })) s
  stuck-is s X gs l d = record {
    part_is = record { first = silent; rest = l; chain = (refl, refl); ends = sym d; whole = refl };
    begun_tagged = λ b e. ap (λ (v : Begun T). v.tag) (sym (same b e));
    done = λ y o k e. absurd (clash y o k e);
  }
    where
      same : (b : Begun T) → Some (record { tag = tag; inputs = X }) ≡ Some b → record { tag = tag; inputs = X } ≡ b
      same b e = cc

      clash : (y : S) (o : Streams T) (k : Log T) → Stuck gs l ≡ Done y o k → ⊥
      clash y o k e = cc

  one-counts : (s : S) (X : Streams T) (z : S) (out : Streams T) (l : Log T) → TurnCounts X (Done z out (log_then l (own (turn_of s X out l).record_of))) (turn_of s X out l ∷ []) None
  one-counts s X z out l = record {
    takes = λ q. subst (λ v. IsPrefix v (at X q)) (sym (append-nil (at X q ++ []) ∙ append-nil (at X q))) (IsPrefix-refl (at X q));
    gives = λ y o k e port. ap (λ (v : Streams T). at v port) (sym (done-parts z y out o _ k e).1) ∙ sym (append-nil (at out port));
  }

  stuck-counts : (X : Streams T) (gs : List Fault) (l : Log T) → TurnCounts {S = S} X (Stuck gs l) [] (Some (record { tag = tag; inputs = X }))
  stuck-counts X gs l = record { takes = λ q. IsPrefix-refl (at X q); gives = λ y o k e. absurd (clash y o k e) }
    where
      clash : (y : S) (o : Streams T) (k : Log T) → Stuck gs l ≡ Done y o k → ⊥
      clash y o k e = cc

  -- SR
  abbrev pub sr_turns : S → Streams T → Outcome T S → List (Turned T)
  sr_turns s X (Done z out l) = if all_single out then turn_of s X out l ∷ [] else []
  sr_turns s X (Stuck fs l) = []

  abbrev pub sr_way : Streams T → Outcome T S → Option (Begun T)
  sr_way X (Done z out l) = if all_single out then None else Some (record { tag = tag; inputs = X })
  sr_way X (Stuck fs l) = Some (record { tag = tag; inputs = X })

  abbrev pub sr_end : S → Outcome T S → S
  sr_end s (Done z out l) = if all_single out then z else s
  sr_end s (Stuck fs l) = s

  sr-is : (s : S) (X : Streams T) (o : Outcome T S) → step tag s X ≡ o → TurnIs facts step tag s X (recorded (facts.made s) tag X (single_outcome (facts.made s) o)) (sr_turns s X o) (sr_way X o) (sr_end s o)
  sr-is s X (Stuck fs l) d = stuck-is s X fs l (ap (λ v. log_in v) d)
  sr-is s X (Done z out l) d = go (all_single out)
    where
      go : (b : Bool) → TurnIs facts step tag s X (recorded (facts.made s) tag X (if_single b (facts.made s) z out l)) (if b then turn_of s X out l ∷ [] else []) (if b then None else Some (record { tag = tag; inputs = X })) (if b then z else s)
      go true = one-is s X z out l d
      go false = stuck-is s X _ l (ap (λ v. log_in v) d)

  sr-counts : (s : S) (X : Streams T) (o : Outcome T S) → TurnCounts X (recorded (facts.made s) tag X (single_outcome (facts.made s) o)) (sr_turns s X o) (sr_way X o)
  sr-counts s X (Stuck fs l) = stuck-counts X fs l
  sr-counts s X (Done z out l) = go (all_single out)
    where
      go : (b : Bool) → TurnCounts X (recorded (facts.made s) tag X (if_single b (facts.made s) z out l)) (if b then turn_of s X out l ∷ [] else []) (if b then None else Some (record { tag = tag; inputs = X }))
      go true = one-counts s X z out l
      go false = stuck-counts X _ l

  pub sr-turning : Turning facts step (sr_turn facts step) tag
  sr-turning = record { turns = λ s X. sr_turns s X (step tag s X); way = λ s X. sr_way X (step tag s X); end = λ s X. sr_end s (step tag s X); is = λ s X. sr-is s X (step tag s X) refl; counts = λ s X. sr-counts s X (step tag s X) }

  -- the firing that isn't finished is on all inputs
  pub sr-begun : (s : S) (X : Streams T) (b : Begun T) → sr-turning.way s X ≡ Some b → (b.inputs ≡ X) × (sr-turning.end s X ≡ s)
  unfolding sr-turning
  sr-begun s X b e = go (step tag s X) e
    where
      some-inputs : Some (record { tag = tag; inputs = X }) ≡ Some b → b.inputs ≡ X
      some-inputs g = ap (λ (v : Begun T). v.inputs) (sym (same g))
        where
          same : Some (record { tag = tag; inputs = X }) ≡ Some b → record { tag = tag; inputs = X } ≡ b
          same g = cc

      none-begun : None ≡ Some b → ⊥
      none-begun g = cc

      single : (c : Bool) (z : S) → (if c then None else Some (record { tag = tag; inputs = X })) ≡ Some b → (b.inputs ≡ X) × ((if c then z else s) ≡ s)
      single true z g = absurd (none-begun g)
      single false z g = (some-inputs g, refl)

      go : (o : Outcome T S) → sr_way X o ≡ Some b → (b.inputs ≡ X) × (sr_end s o ≡ s)
      go (Done z out l) g = single (all_single out) z g
      go (Stuck fs l) g = (some-inputs g, refl)

  -- DE: the whole lists at once
  abbrev pub whole_turns : S → Streams T → Outcome T S → List (Turned T)
  whole_turns s X (Done z out l) = turn_of s X out l ∷ []
  whole_turns s X (Stuck fs l) = []

  abbrev pub whole_way : Streams T → Outcome T S → Option (Begun T)
  whole_way X (Done z out l) = None
  whole_way X (Stuck fs l) = Some (record { tag = tag; inputs = X })

  abbrev pub whole_end : S → Outcome T S → S
  whole_end s (Done z out l) = z
  whole_end s (Stuck fs l) = s

  whole-is : (s : S) (X : Streams T) (o : Outcome T S) → step tag s X ≡ o → TurnIs facts step tag s X (recorded (facts.made s) tag X o) (whole_turns s X o) (whole_way X o) (whole_end s o)
  whole-is s X (Stuck fs l) d = stuck-is s X fs l (ap (λ v. log_in v) d)
  whole-is s X (Done z out l) d = one-is s X z out l d

  -- DE: row by row
  abbrev pub turns_then : (S → List (Turned T)) → S → Streams T → Outcome T S → List (Turned T)
  turns_then more s X (Done z out l) = turn_of s X out l ∷ more z
  turns_then more s X (Stuck fs l) = []

  abbrev pub rows_turns : List (Streams T) → S → List (Turned T)
  rows_turns [] s = []
  rows_turns (X ∷ Xs) s = turns_then (rows_turns Xs) s X (step tag s X)

  abbrev pub way_then : (S → Option (Begun T)) → Streams T → Outcome T S → Option (Begun T)
  way_then more X (Done z out l) = more z
  way_then more X (Stuck fs l) = Some (record { tag = tag; inputs = X })

  abbrev pub rows_way : List (Streams T) → S → Option (Begun T)
  rows_way [] s = None
  rows_way (X ∷ Xs) s = way_then (rows_way Xs) X (step tag s X)

  abbrev pub end_then : (S → S) → S → Outcome T S → S
  end_then more s (Done z out l) = more z
  end_then more s (Stuck fs l) = s

  abbrev pub rows_end : List (Streams T) → S → S
  rows_end [] s = s
  rows_end (X ∷ Xs) s = end_then (rows_end Xs) s (step tag s X)

  log-follows : (out : Streams T) (l : Log T) (r : Outcome T S) → log_in (follows out l r) ≡ log_then l (log_in r)
  log-follows out l (Done z o k) = refl
  log-follows out l (Stuck fs k) = refl

  follows-done : (out : Streams T) (l : Log T) (r : Outcome T S) (y : S) (o : Streams T) (k : Log T) → follows out l r ≡ Done y o k → (o' : Streams T) × (k' : Log T) × (r ≡ Done y o' k') × (joined out o' ≡ o)
  follows-done out l (Done z p n) y o k e = let w = done-parts z y (joined out p) o _ k e in (p, n, ap (λ (v : S). let r : Outcome T S = Done v p n in r) w.0, w.1)
  follows-done out l (Stuck fs n) y o k e = absurd (cc)

  -- the rows of a place, in order
  abbrev row_tokens : ℕ → List (Streams T) → List T
  row_tokens q [] = []
  row_tokens q (X ∷ Xs) = at X q ++ row_tokens q Xs

  rows-takes : (Xs : List (Streams T)) (s : S) (q : ℕ) → IsPrefix (of_turns (inputs_at q) (rows_turns Xs s) ++ begun_at (rows_way Xs s) q) (row_tokens q Xs)
  rows-takes [] s q = tt
  rows-takes (X ∷ Xs) s q = go (step tag s X) (λ z. rows-takes Xs z q)
    where
      go : (o : Outcome T S) → ((z : S) → IsPrefix (of_turns (inputs_at q) (rows_turns Xs z) ++ begun_at (rows_way Xs z) q) (row_tokens q Xs)) → IsPrefix (of_turns (inputs_at q) (turns_then (rows_turns Xs) s X o) ++ begun_at (way_then (rows_way Xs) X o) q) (at X q ++ row_tokens q Xs)
      go (Done z out l) ih = subst (λ v. IsPrefix v (at X q ++ row_tokens q Xs)) (sym (append_assoc (at X q) (of_turns (inputs_at q) (rows_turns Xs z)) (begun_at (rows_way Xs z) q))) (IsPrefix-after (at X q) _ _ (ih z))
      go (Stuck fs l) ih = IsPrefix-append (at X q) (row_tokens q Xs)

  heads-tails : (X : Streams T) (q : ℕ) → at (heads X) q ++ at (tails X) q ≡ at X q
  heads-tails [] q = refl
  heads-tails ([] ∷ X) zero = refl
  heads-tails ((y ∷ ys) ∷ X) zero = refl
  heads-tails ([] ∷ X) (suc q) = heads-tails X q
  heads-tails ((y ∷ ys) ∷ X) (suc q) = heads-tails X q

  rows-prefix : (n : ℕ) (X : Streams T) (q : ℕ) → IsPrefix (row_tokens q (rows_from n X)) (at X q)
  rows-prefix zero X q = tt
  rows-prefix (suc n) X q = subst (λ v. IsPrefix (at (heads X) q ++ row_tokens q (rows_from n (tails X))) v) (heads-tails X q) (IsPrefix-after (at (heads X) q) _ _ (rows-prefix n (tails X) q))

  rows-gives : (Xs : List (Streams T)) (s y : S) (out : Streams T) (l : Log T) → by_rows facts step tag Xs s ≡ Done y out l → (port : ℕ) → at out port ≡ of_turns (outputs_at port) (rows_turns Xs s)
  rows-gives [] s y out l e port = ap (λ (v : Streams T). at v port) (sym (done-parts s y [] out silent l e).1)
  rows-gives (X ∷ Xs) s y out l e port = go (step tag s X) (λ z o k f. rows-gives Xs z y o k f port) e
    where
      go : (r : Outcome T S) → ((z : S) (o : Streams T) (k : Log T) → by_rows facts step tag Xs z ≡ Done y o k → at o port ≡ of_turns (outputs_at port) (rows_turns Xs z)) → and_then (by_rows facts step tag Xs) (recorded (facts.made s) tag X r) ≡ Done y out l → at out port ≡ of_turns (outputs_at port) (turns_then (rows_turns Xs) s X r)
      go (Done z o k) ih e =
          let f = follows-done o _ (by_rows facts step tag Xs z) y out l e in
          ap (λ (v : Streams T). at v port) (sym f.3) ∙ at-joined o f.0 port ∙ ap (λ v. at o port ++ v) (ih z f.0 f.1 f.2)
      go (Stuck fs k) ih e = absurd (clash e)
        where
          clash : Stuck fs k ≡ Done y out l → ⊥
          clash e = cc

  rows-step : (X : Streams T) (Xs : List (Streams T)) (X₀ : Streams T) → ((s : S) → TurnIs facts step tag s X₀ (by_rows facts step tag Xs s) (rows_turns Xs s) (rows_way Xs s) (rows_end Xs s)) → (s : S) (o : Outcome T S) → step tag s X ≡ o →
      TurnIs facts step tag s X₀ (and_then (by_rows facts step tag Xs) (recorded (facts.made s) tag X o)) (turns_then (rows_turns Xs) s X o) (way_then (rows_way Xs) X o) (end_then (rows_end Xs) s o)
  rows-step X Xs X₀ ih s (Stuck fs l) d = let r = stuck-is s X fs l (ap (λ v. log_in v) d) in record { part_is = r.part_is; begun_tagged = r.begun_tagged; done = r.done }
  rows-step X Xs X₀ ih s (Done z out l) d =
      let r = ih z in
      let L : Log T = log_then l (own (turn_of s X out l).record_of) in
      record {
        part_is = record {
          first = log_then L r.part_is.first;
          rest = r.part_is.rest;
          chain = (z, r.part_is.first, refl, d, r.part_is.chain, refl);
          ends = r.part_is.ends;
          whole = log-follows out L (by_rows facts step tag Xs z) ∙ ap (λ v. log_then L v) r.part_is.whole ∙ fun_ext (λ p. sym (append_assoc (L p) (r.part_is.first p) (r.part_is.rest p)));
        };
        begun_tagged = r.begun_tagged;
        done = λ y o k e. let f = follows-done out L (by_rows facts step tag Xs z) y o k e in r.done y f.0 f.1 f.2;
      }

  rows-is : (Xs : List (Streams T)) (X₀ : Streams T) (s : S) → TurnIs facts step tag s X₀ (by_rows facts step tag Xs s) (rows_turns Xs s) (rows_way Xs s) (rows_end Xs s)
  rows-is [] X₀ s = record { part_is = record { first = silent; rest = silent; chain = (refl, refl); ends = refl; whole = refl }; begun_tagged = λ b e. absurd (clash b e); done = λ y o k e. ((done-parts s y [] o silent k e).0, refl) }
    where
      clash : (b : Begun T) → None ≡ Some b → ⊥
      clash b e = cc
  rows-is (X ∷ Xs) X₀ s = rows-step X Xs X₀ (rows-is Xs X₀) s (step tag s X) refl

  -- DE, whichever it is
  abbrev pub de_turns : S → Streams T → Bool → List (Turned T)
  de_turns s X true = whole_turns s X (step tag s X)
  de_turns s X false = rows_turns (rows_of X) s

  abbrev pub de_way : S → Streams T → Bool → Option (Begun T)
  de_way s X true = whole_way X (step tag s X)
  de_way s X false = rows_way (rows_of X) s

  abbrev pub de_end : S → Streams T → Bool → S
  de_end s X true = whole_end s (step tag s X)
  de_end s X false = rows_end (rows_of X) s

  pub de-turning : Turning facts step (de_turn facts step) tag
  de-turning = record { turns = λ s X. de_turns s X (facts.whole s); way = λ s X. de_way s X (facts.whole s); end = λ s X. de_end s X (facts.whole s); is = λ s X. go s X (facts.whole s); counts = λ s X. count s X (facts.whole s) }
    where
      whole : (s : S) (X : Streams T) (o : Outcome T S) → TurnCounts X (recorded (facts.made s) tag X o) (whole_turns s X o) (whole_way X o)
      whole s X (Stuck fs l) = stuck-counts X fs l
      whole s X (Done z out l) = one-counts s X z out l

      count : (s : S) (X : Streams T) (b : Bool) → TurnCounts X (whole_or_rows b facts step tag s X) (de_turns s X b) (de_way s X b)
      count s X true = whole s X (step tag s X)
      count s X false = record {
        takes = λ q. IsPrefix-trans _ _ _ (rows-takes (rows_of X) s q) (rows-prefix (max 1 (longest X)) X q);
        gives = λ y out l e port. rows-gives (rows_of X) s y out l e port;
      }

      go : (s : S) (X : Streams T) (b : Bool) → TurnIs facts step tag s X (whole_or_rows b facts step tag s X) (de_turns s X b) (de_way s X b) (de_end s X b)
      go s X true = whole-is s X (step tag s X) refl
      go s X false = rows-is (rows_of X) X s

  -- the firing that isn't finished is on the whole lists, or on a row behind those that are
  rows-begun : (Xs : List (Streams T)) (s : S) (b : Begun T) → rows_way Xs s ≡ Some b → (before behind : List (Streams T)) × (out : Streams T) × (l : Log T) × (Xs ≡ before ++ (b.inputs ∷ behind)) × (by_rows facts step tag before s ≡ Done (rows_end Xs s) out l)
  rows-begun [] s b e = absurd (clash e)
    where
      clash : None ≡ Some b → ⊥
      clash e = cc
  rows-begun (X ∷ Xs) s b e = go (step tag s X) refl e (λ z. rows-begun Xs z b)
    where
      some-inputs : Some (record { tag = tag; inputs = X }) ≡ Some b → X ≡ b.inputs
      some-inputs g = ap (λ (v : Begun T). v.inputs) (same g)
        where
          same : Some (record { tag = tag; inputs = X }) ≡ Some b → record { tag = tag; inputs = X } ≡ b
          same g = cc

      go : (o : Outcome T S) → step tag s X ≡ o → way_then (rows_way Xs) X o ≡ Some b → ((z : S) → rows_way Xs z ≡ Some b → (before behind : List (Streams T)) × (out : Streams T) × (l : Log T) × (Xs ≡ before ++ (b.inputs ∷ behind)) × (by_rows facts step tag before z ≡ Done (rows_end Xs z) out l)) →
          (before behind : List (Streams T)) × (out : Streams T) × (l : Log T) × (X ∷ Xs ≡ before ++ (b.inputs ∷ behind)) × (by_rows facts step tag before s ≡ Done (end_then (rows_end Xs) s o) out l)
      go (Stuck fs l) d g ih = ([], Xs, [], silent, ap (λ (v : Streams T). v ∷ Xs) (some-inputs g), refl)
      go (Done z out l) d g ih =
          let r = ih z g in
          let L : Log T = log_then l (own (turn_of s X out l).record_of) in
          (X ∷ r.0, r.1, joined out r.2, log_then L r.3, ap (λ v. X ∷ v) r.4, ap (λ o. and_then (by_rows facts step tag r.0) (recorded (facts.made s) tag X o)) d ∙ ap (λ o. follows out L o) r.5)

  pub de-begun : (s : S) (X : Streams T) (b : Begun T) → de-turning.way s X ≡ Some b → IsTurnAt facts step tag s X (de-turning.end s X) b.inputs
  unfolding de-turning
  de-begun s X b e = go (facts.whole s) refl e
    where
      whole_by : (o : Outcome T S) → whole_way X o ≡ Some b → (whole_end s o ≡ s) × (b.inputs ≡ X)
      whole_by (Done z out l) g = absurd (clash g)
        where
          clash : None ≡ Some b → ⊥
          clash g = cc
      whole_by (Stuck fs l) g = (refl, ap (λ (v : Begun T). v.inputs) (sym (same g)))
        where
          same : Some (record { tag = tag; inputs = X }) ≡ Some b → record { tag = tag; inputs = X } ≡ b
          same g = cc

      go : (w : Bool) → facts.whole s ≡ w → de_way s X w ≡ Some b → IsTurnAt facts step tag s X (de_end s X w) b.inputs
      go true e g = let r = whole_by (step tag s X) g in inl (e, r.0, r.1)
      go false e g = let r = rows-begun (rows_of X) s b g in inr (e, r.0, r.1, r.2, r.3, r.4, r.5)
