-- What is staged of a row of feeds, on its way to the channels.
use Rattle.std.proofs.Common.{◌≡◌, ℕ, zero, suc, ◌+◌, ◌<◌, ◌≤◌, List, [], ◌∷◌, ◌++◌, length, get_or, map, take, drop, refl, sym, ap, ap₂, subst, ◌∙◌, arith, append_assoc}
use Rattle.std.proofs.lemmas.List.{length-map, drop_more, take_all}
use Rattle.pt_meaning.specs.Streams.{Streams}
use Rattle.pt_meaning.specs.Net.{Source}
use Rattle.pt_meaning.specs.Valuation.{TickPlan}
use Rattle.pt_value.specs.declared.token.Token.{Token}
use Rattle.pt_reaction.specs.declared.feeds.Feed.{Feed}
use Rattle.pt_reaction.specs.Channels.{spare_at}
use Rattle.pt_reaction.specs.Feeds.{Target, target_of, targets, no_feed}
use Rattle.pt_reaction.specs.Given.{gifts, put_on}
use Rattle.pt_de_laws.specs.State.{DeState}
use Rattle.pt_de_laws.specs.Chain.{with_tokens}
use Rattle.pt_de_due.specs.Due.{put}
use Rattle.pt_de_due.proofs.GainedLaws.{targets-rise, target-there, put-more}
use Rattle.pt_de_reaction.specs.Reaction.{gifts_on, no_target, IsStaged}

gifts-are : {T : Type 0} (given : ℕ → List T) (F : List Feed) → gifts given F ≡ gifts_on given (map target_of F)
gifts-are given [] = refl
gifts-are given (f ∷ F) = ap (λ v. v ++ given f.port ∷ []) (gifts-are given F)

feed-target : (F : List Feed) (k : ℕ) → target_of (get_or F k no_feed) ≡ get_or (map target_of F) k no_target
feed-target [] k = refl
feed-target (f ∷ F) zero = refl
feed-target (f ∷ F) (suc k) = feed-target F k

module _ (n r : ℕ) (ss : List Source) (F : List Feed) (e : map target_of F ≡ targets n r 0 ss) where
  pub same-long : length F ≡ length (targets n r 0 ss)
  same-long = sym (length-map F target_of) ∙ ap (λ v. length v) e

  pub target-at : (k : ℕ) → target_of (get_or F k no_feed) ≡ get_or (targets n r 0 ss) k no_target
  target-at k = feed-target F k ∙ ap (λ v. get_or v k no_target) e

  -- each feed ends at a channel
  pub feed-there : (m : ℕ) → m ≡ length ss → (k : ℕ) → k < length F → (get_or F k no_feed).channel < m
  feed-there m q k h =
      let a = target-there n r ss k (let l = same-long in omega (arith, h, l)) in
      let b = ap (λ (t : Target). t.channel) (target-at k) in
      omega (arith, a, b, q)

  pub are-staged : (given : ℕ → List Token) (staged : List (List Token)) (spares : List ℕ) → staged ≡ gifts given F → ((k : ℕ) → k < length F → length (given (get_or F k no_feed).port) ≤ spare_at spares (get_or F k no_feed).channel) → IsStaged given (targets n r 0 ss) staged spares
  are-staged given staged spares s room = record {
    lists = s ∙ gifts-are given F ∙ ap (λ v. gifts_on given v) e;
    room = λ k h. subst (λ (t : Target). length (given t.port) ≤ spare_at spares t.channel) (target-at k) (room k (let l = same-long in omega (arith, h, l)));
  }

  -- the feed at a number
  pub feed-at : (k : ℕ) (f : Feed) → k < length F → f ≡ get_or F k f → target_of f ≡ get_or (targets n r 0 ss) k no_target
  feed-at k f h q = ap (λ x. target_of x) (q ∙ any-default F k f h) ∙ target-at k
    where
      any-default : (F : List Feed) (k : ℕ) (f : Feed) → k < length F → get_or F k f ≡ get_or F k no_feed
      any-default [] k f h = absurd (omega (arith, h))
      any-default (g ∷ F) zero f h = refl
      any-default (g ∷ F) (suc k) f h = any-default F k f (omega (arith, h))

-- what has come of a delivery after so many targets: the tokens of these are put, and the rest is staged, with room
pub record SoFar (given : ℕ → List Token) (ts : List Target) (before now : DeState Token) (k : ℕ) (staged : List (List Token)) (spares : List ℕ) : Type 0 where
  pub state : now ≡ with_tokens (put_on given (take k ts) before.tokens) before
  pub lists : staged ≡ gifts_on given (drop k ts)
  pub room : (j : ℕ) → k ≤ j → j < length ts → length (given (get_or ts j no_target).port) ≤ spare_at spares (get_or ts j no_target).channel

pub none-yet : (given : ℕ → List Token) (ts : List Target) (s : DeState Token) (staged : List (List Token)) (spares : List ℕ) → IsStaged given ts staged spares → SoFar given ts s s 0 staged spares
none-yet given ts s staged spares a = record { state = refl; lists = a.lists; room = λ j h l. a.room j l }

-- what is staged last is for the target at k
pub gift-at : (given : ℕ → List Token) (ts : List Target) (before now : DeState Token) (k : ℕ) (staged : List (List Token)) (spares : List ℕ) → SoFar given ts before now k staged spares → k < length ts → staged ≡ gifts_on given (drop (k + 1) ts) ++ given (get_or ts k no_target).port ∷ []
gift-at given ts before now k staged spares a h = a.lists ∙ ap (λ v. gifts_on given v) (drop_more ts k no_target h)

-- one target more
one-more : (n r : ℕ) (ss : List Source) (given : ℕ → List Token) (before now now' : DeState Token) (k : ℕ) (staged staged' : List (List Token)) (spares spares' : List ℕ) (c : ℕ) (gift : List Token) →
    SoFar given (targets n r 0 ss) before now k staged spares → k < length (targets n r 0 ss) → c ≡ (get_or (targets n r 0 ss) k no_target).channel → gift ≡ given (get_or (targets n r 0 ss) k no_target).port → staged' ≡ gifts_on given (drop (k + 1) (targets n r 0 ss)) →
    now' ≡ with_tokens (put c gift now.tokens) now → ((d : ℕ) → (d ≡ c → ⊥) → spare_at spares' d ≡ spare_at spares d) → SoFar given (targets n r 0 ss) before now' (k + 1) staged' spares'
one-more n r ss given before now now' k staged staged' spares spares' c gift a h t g s e keeps = record {
  state = e ∙ ap (λ (x : DeState Token). with_tokens (put c gift x.tokens) x) a.state ∙ ap (λ (X : Streams Token). with_tokens X before) (ap₂ (λ d (xs : List Token). put d xs (put_on given (take k (targets n r 0 ss)) before.tokens)) t g ∙ sym (put-more given (targets n r 0 ss) k before.tokens h));
  lists = s;
  room = λ j l m. room j l m;
}
  where
    room : (j : ℕ) → k + 1 ≤ j → j < length (targets n r 0 ss) → length (given (get_or (targets n r 0 ss) j no_target).port) ≤ spare_at spares' (get_or (targets n r 0 ss) j no_target).channel
    room j l m =
        let b = a.room j (omega (arith, l)) m in
        let up = targets-rise n r ss k j (omega (arith, l)) m in
        let q = keeps (get_or (targets n r 0 ss) j no_target).channel (λ z. absurd (omega (arith, z, t, up))) in
        omega (arith, b, q)

-- the plan stays
pub plan-still : (given : ℕ → List Token) (ts : List Target) (before now : DeState Token) (k : ℕ) (staged : List (List Token)) (spares : List ℕ) → SoFar given ts before now k staged spares → now.plan ≡ before.plan
plan-still given ts before now k staged spares a = ap (λ (s : DeState Token). s.plan) a.state

pub stage-still : (given : ℕ → List Token) (ts : List Target) (before now : DeState Token) (k : ℕ) (staged : List (List Token)) (spares : List ℕ) → SoFar given ts before now k staged spares → now.stage ≡ before.stage
stage-still given ts before now k staged spares a = ap (λ (s : DeState Token). s.stage) a.state

module _ (r : ℕ) (given : ℕ → List Token) (before now : DeState Token) (k : ℕ) (staged : List (List Token)) (spares : List ℕ) (a : SoFar given (targets (length before.plan.net.places) r 0 before.plan.net.sources) before now k staged spares) where
  abbrev ts : List Target
  ts = targets (length before.plan.net.places) r 0 before.plan.net.sources

  abbrev channel_in : TickPlan → ℕ
  channel_in x = (get_or (targets (length x.net.places) r 0 x.net.sources) k no_target).channel

  channel-still : channel_in now.plan ≡ channel_in before.plan
  channel-still = ap (λ x. channel_in x) (plan-still given ts before now k staged spares a)

  pub row-still : r ≤ length before.plan.net.places → r ≤ length now.plan.net.places
  row-still h = subst (λ (x : TickPlan). r ≤ length x.net.places) (sym (plan-still given ts before now k staged spares a)) h

  pub feed-still : k < length (targets (length before.plan.net.places) r 0 before.plan.net.sources) → k < length (targets (length now.plan.net.places) r 0 now.plan.net.sources)
  feed-still h = subst (λ (x : TickPlan). k < length (targets (length x.net.places) r 0 x.net.sources)) (sym (plan-still given ts before now k staged spares a)) h

  -- what is staged last is for the next target, and there is room for it
  pub gift-fits : k < length (targets (length before.plan.net.places) r 0 before.plan.net.sources) → (rest : List (List Token)) × (gift : List Token) × (staged ≡ rest ++ gift ∷ []) × (length gift ≤ spare_at spares (get_or (targets (length now.plan.net.places) r 0 now.plan.net.sources) k no_target).channel)
  gift-fits h = (
    gifts_on given (drop (k + 1) ts),
    given (get_or ts k no_target).port,
    gift-at given ts before now k staged spares a h,
    subst (λ c. length (given (get_or ts k no_target).port) ≤ spare_at spares c) (sym channel-still) (a.room k (omega arith) h),
  )

  -- the next target got its tokens
  pub next-so-far : (now' : DeState Token) (staged' : List (List Token)) (spares' : List ℕ) → k < length (targets (length before.plan.net.places) r 0 before.plan.net.sources) →
      ((rest : List (List Token)) (gift : List Token) → staged ≡ rest ++ gift ∷ [] → now' ≡ with_tokens (put (get_or (targets (length now.plan.net.places) r 0 now.plan.net.sources) k no_target).channel gift now.tokens) now) →
      ((rest : List (List Token)) (gift : List Token) → staged ≡ rest ++ gift ∷ [] → staged' ≡ rest) →
      ((d : ℕ) → (d ≡ (get_or (targets (length now.plan.net.places) r 0 now.plan.net.sources) k no_target).channel → ⊥) → spare_at spares' d ≡ spare_at spares d) →
      SoFar given (targets (length before.plan.net.places) r 0 before.plan.net.sources) before now' (k + 1) staged' spares'
  next-so-far now' staged' spares' h e s keeps =
      one-more (length before.plan.net.places) r before.plan.net.sources given before now now' k staged staged' spares spares' (channel_in now.plan) (given (get_or ts k no_target).port) a h channel-still refl
      (s (gifts_on given (drop (k + 1) ts)) (given (get_or ts k no_target).port) (gift-at given ts before now k staged spares a h))
      (e (gifts_on given (drop (k + 1) ts)) (given (get_or ts k no_target).port) (gift-at given ts before now k staged spares a h)) keeps

pub all-put : (given : ℕ → List Token) (ts : List Target) (before now : DeState Token) (k : ℕ) (staged : List (List Token)) (spares : List ℕ) → SoFar given ts before now k staged spares → length ts ≤ k → now ≡ with_tokens (put_on given ts before.tokens) before
all-put given ts before now k staged spares a h = a.state ∙ ap (λ v. with_tokens (put_on given v before.tokens) before) (take_all k ts h)

-- one token, and then the rest
put-cons : (X : Streams Token) (c : ℕ) (t : Token) (next : List Token) → put c next (put c (t ∷ []) X) ≡ put c (t ∷ next) X
put-cons [] c t next = refl
put-cons (xs ∷ X) zero t next = ap (λ v. v ∷ X) (append_assoc xs (t ∷ []) next)
put-cons (xs ∷ X) (suc c) t next = ap (λ v. xs ∷ v) (put-cons X c t next)

pub put-step : (X X' : Streams Token) (c : ℕ) (t : Token) (rest next : List Token) → rest ≡ t ∷ next → X' ≡ put c (t ∷ []) X → put c next X' ≡ put c rest X
put-step X X' c t rest next r e = ap (λ Y. put c next Y) e ∙ put-cons X c t next ∙ ap (λ v. put c v X) (sym r)
