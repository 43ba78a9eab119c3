-- An integer that a child gives, on its way to the channels.
use Rattle.std.proofs.Common.{◌≡◌, ◌↔◌, ℤ, ℕ, zero, suc, ◌+◌, ◌<◌, ◌≤◌, List, [], ◌∷◌, ◌++◌, length, get_or, map, set, take, Option, Some, None, false, refl, sym, ap, subst, ◌∙◌, arith}
use Rattle.std.proofs.lemmas.List.{take_all}
use Rattle.pt_meaning.specs.Streams.{Streams, at}
use Rattle.pt_meaning.specs.Machine.{Known}
use Rattle.pt_meaning.specs.Net.{Source}
use Rattle.pt_meaning.specs.Tag.{Tag}
use Rattle.pt_meaning.specs.Valuation.{TickPlan}
use Rattle.pt_value.specs.declared.token.Token.{Token}
use Rattle.pt_value.specs.declared.token.Token.TheVariants.{Int}
use Rattle.pt_reaction.specs.declared.feeds.Feed.{Feed}
use Rattle.pt_reaction.specs.Feeds.{Target, targets, target_of, no_feed}
use Rattle.pt_reaction.specs.Given.{put_on, known_on}
use Rattle.pt_de_laws.specs.State.{Answered, Open, DeState, begun, after_told, after_heard}
use Rattle.pt_de_laws.specs.Chain.{with_tokens}
use Rattle.pt_de_laws.specs.Lawful.{IsLawful}
use Rattle.pt_de_due.specs.Due.{IsShaped, put, opened, with_turn, with_wake}
use Rattle.pt_de_due.proofs.GainedLaws.{targets-rise, put-more, known-tokens}
use Rattle.pt_de_due.proofs.PutLaws.{put-nothing}
use Rattle.pt_de_reaction.specs.Reaction.{Flow, flow_in, no_target}
use Rattle.pt_de_reaction.specs.declared.reaction.Reaction.TheInside.{Inside}
use Rattle.pt_de_reaction.specs.Signals.{HasRoom}
use Rattle.pt_de_reaction.proofs.RoomLaws.{fed-empty, feeds-empty, empty-feeds}
use Rattle.pt_de_reaction.proofs.ReactionLaws.{begun-whole, told-whole, heard-whole}

-- the first token of a channel is put behind none
pub first-put : (X : Streams Token) (c : ℕ) (ts : List Token) → at X c ≡ [] → set X c ts ≡ put c ts X
first-put X c ts e = ap (λ xs. set X c (xs ++ ts)) (sym e)

set-apart : (X : Streams Token) (c d : ℕ) (ts : List Token) → (d ≡ c → ⊥) → at (set X c ts) d ≡ at X d
set-apart [] c d ts z = refl
set-apart (xs ∷ X) zero zero ts z = absurd (z refl)
set-apart (xs ∷ X) zero (suc d) ts z = refl
set-apart (xs ∷ X) (suc c) zero ts z = refl
set-apart (xs ∷ X) (suc c) (suc d) ts z = set-apart X c d ts (λ e. z (ap (λ n. suc n) e))

-- what has come of a gift after so many targets: these have theirs, and the others are empty
pub record GivenSoFar (given : ℕ → List Token) (ts : List Target) (before now : DeState Token) (k : ℕ) : Type 0 where
  pub state : now ≡ with_tokens (put_on given (take k ts) before.tokens) before
  pub room : (j : ℕ) → k ≤ j → j < length ts → at now.tokens (get_or ts j no_target).channel ≡ []

pub none-given : (given : ℕ → List Token) (i : ℕ) (s : DeState Token) → i < length s.plan.net.places → HasRoom s i → GivenSoFar given (targets (length s.plan.net.places) i 0 s.plan.net.sources) s s 0
none-given given i s h a = record { state = refl; room = λ j l m. fed-empty (length s.plan.net.places) i h s.plan.net.sources s.tokens a j m }

pub all-given : (given : ℕ → List Token) (ts : List Target) (before now : DeState Token) (k : ℕ) → GivenSoFar given ts before now k → length ts ≤ k → now ≡ with_tokens (put_on given ts before.tokens) before
all-given given ts before now k a h = a.state ∙ ap (λ v. with_tokens (put_on given v before.tokens) before) (take_all k ts h)

one-given : (n i : ℕ) (ss : List Source) (given : ℕ → List Token) (before now now' : DeState Token) (k : ℕ) → GivenSoFar given (targets n i 0 ss) before now k → k < length (targets n i 0 ss) →
    now' ≡ with_tokens (put (get_or (targets n i 0 ss) k no_target).channel (given (get_or (targets n i 0 ss) k no_target).port) now.tokens) now → GivenSoFar given (targets n i 0 ss) before now' (k + 1)
one-given n i ss given before now now' k a h e = record {
  state = e ∙ ap (λ (x : DeState Token). with_tokens (put (get_or (targets n i 0 ss) k no_target).channel (given (get_or (targets n i 0 ss) k no_target).port) x.tokens) x) a.state ∙ ap (λ (X : Streams Token). with_tokens X before) (sym (put-more given (targets n i 0 ss) k before.tokens h));
  room = λ j l m. room j l m;
}
  where
    room : (j : ℕ) → k + 1 ≤ j → j < length (targets n i 0 ss) → at now'.tokens (get_or (targets n i 0 ss) j no_target).channel ≡ []
    room j l m =
        let up = targets-rise n i ss k j (omega (arith, l)) m in
        let d : ℕ = (get_or (targets n i 0 ss) j no_target).channel in
        let c : ℕ = (get_or (targets n i 0 ss) k no_target).channel in
        ap (λ (s : DeState Token). at s.tokens d) e ∙ set-apart now.tokens c d (at now.tokens c ++ given (get_or (targets n i 0 ss) k no_target).port) (λ z. absurd (omega (arith, z, up))) ∙ a.room j (omega (arith, l)) m

-- the plan stays, so that the next target is as it was
module _ (i : ℕ) (given : ℕ → List Token) (before now : DeState Token) (k : ℕ) (a : GivenSoFar given (targets (length before.plan.net.places) i 0 before.plan.net.sources) before now k) where
  plan-kept : before.plan ≡ now.plan
  plan-kept = sym (ap (λ (s : DeState Token). s.plan) a.state)

  pub child-kept : i < length before.plan.net.places → i < length now.plan.net.places
  child-kept h = subst (λ (x : TickPlan). i < length x.net.places) plan-kept h

  pub feed-kept : k < length (targets (length before.plan.net.places) i 0 before.plan.net.sources) → k < length (targets (length now.plan.net.places) i 0 now.plan.net.sources)
  feed-kept h = subst (λ (x : TickPlan). k < length (targets (length x.net.places) i 0 x.net.sources)) plan-kept h

  pub open-kept : before.stage ≡ Open → now.stage ≡ Open
  open-kept o = ap (λ (s : DeState Token). s.stage) a.state ∙ o

  pub empty-kept : k < length (targets (length before.plan.net.places) i 0 before.plan.net.sources) → at now.tokens (get_or (targets (length now.plan.net.places) i 0 now.plan.net.sources) k no_target).channel ≡ []
  empty-kept h = subst (λ (x : TickPlan). at now.tokens (get_or (targets (length x.net.places) i 0 x.net.sources) k no_target).channel ≡ []) plan-kept (a.room k (omega arith) h)

  pub next-given : (now' : DeState Token) → k < length (targets (length before.plan.net.places) i 0 before.plan.net.sources) →
      now' ≡ with_tokens (put (get_or (targets (length now.plan.net.places) i 0 now.plan.net.sources) k no_target).channel (given (get_or (targets (length now.plan.net.places) i 0 now.plan.net.sources) k no_target).port) now.tokens) now →
      GivenSoFar given (targets (length before.plan.net.places) i 0 before.plan.net.sources) before now' (k + 1)
  next-given now' h e =
      one-given (length before.plan.net.places) i before.plan.net.sources given before now now' k a h
      (e ∙ ap (λ (x : TickPlan). with_tokens (put (get_or (targets (length x.net.places) i 0 x.net.sources) k no_target).channel (given (get_or (targets (length x.net.places) i 0 x.net.sources) k no_target).port) now.tokens) now) (sym plan-kept))

-- an integer was given to all that a child feeds
abbrev pub Gave : ℕ → DeState Token → DeState Token → ℤ → Type 0
Gave i s s' z = s' ≡ with_tokens (put_on (at ((Int z ∷ []) ∷ [])) (targets (length s.plan.net.places) i 0 s.plan.net.sources) s.tokens) s

-- a target that gets nothing, and one of the first port
pub port-past : (ts : List Token) (port : ℕ) → 0 < port → at (ts ∷ []) port ≡ []
port-past ts zero h = absurd (omega (arith, h))
port-past ts (suc port) h = refl

pub port-first : (ts : List Token) (port : ℕ) → port ≤ 0 → at (ts ∷ []) port ≡ ts
port-first ts zero h = refl
port-first ts (suc port) h = absurd (omega (arith, h))

pub nothing-given : (s : DeState Token) (c port : ℕ) (ts : List Token) → 0 < port → s ≡ with_tokens (put c (at (ts ∷ []) port) s.tokens) s
nothing-given s c port ts h = sym (ap (λ (X : Streams Token). with_tokens X s) (ap (λ xs. put c xs s.tokens) (port-past ts port h) ∙ put-nothing s.tokens c))

-- where each port gives nothing, and where no channel is fed
put-none : (given : ℕ → List Token) → ((port : ℕ) → given port ≡ []) → (ts : List Target) (X : Streams Token) → put_on given ts X ≡ X
put-none given g [] X = refl
put-none given g (t ∷ ts) X = ap (λ Y. put_on given ts Y) (ap (λ xs. put t.channel xs X) (g t.port) ∙ put-nothing X t.channel) ∙ put-none given g ts X

put-nowhere : (given : ℕ → List Token) (ts : List Target) (X : Streams Token) → length ts ≡ 0 → put_on given ts X ≡ X
put-nowhere given [] X e = refl
put-nowhere given (t ∷ ts) X e = absurd (omega (arith, e))

put-same : (g h : ℕ → List Token) → ((port : ℕ) → g port ≡ h port) → (ts : List Target) (X : Streams Token) → put_on g ts X ≡ put_on h ts X
put-same g h e [] X = refl
put-same g h e (t ∷ ts) X = ap (λ xs. put_on g ts (put t.channel xs X)) (e t.port) ∙ put-same g h e ts (put t.channel (h t.port) X)

pub is-none : (given : Option ℤ) → ((n : ℤ) → given ≡ Some n → ⊥) → given ≡ None
is-none None z = refl
is-none (Some n) z = absurd (z n refl)

absent : (port : ℕ) → at (let none : List Token = [] in none ∷ []) port ≡ []
absent zero = refl
absent (suc port) = refl

-- a reaction begins whose own inputs feed nothing
pub begun-unfed : (tag : Tag) (inputs : Streams Token) (row : ℕ) (s0 s1 : DeState Token) → IsLawful s0.plan s0.roles → row ≡ length s0.plan.net.places → length (targets (length s0.plan.net.places) row 0 s0.plan.net.sources) ≡ 0 → s1 ≡ opened tag s0 → s1 ≡ begun tag inputs s0
begun-unfed tag inputs row s0 s1 w r n e =
    begun-whole tag inputs row s0 s1 s1 w r e (sym (ap (λ (X : Streams Token). with_tokens X s1) (put-nowhere (at inputs) (targets (length s1.plan.net.places) row 0 s1.plan.net.sources) s1.tokens (ap (λ (s : DeState Token). length (targets (length s.plan.net.places) row 0 s.plan.net.sources)) e ∙ n))))

-- a child gave nothing, or told so early
pub told-absent : (i : ℕ) (wake : Option Tag) (s0 s1 : DeState Token) → IsShaped s0 → i < length s0.plan.net.places → s0.stage ≡ Open → get_or s0.roles.early i false ≡ false → s1 ≡ with_wake i wake s0 → s1 ≡ after_told i ([] ∷ []) wake s0
told-absent i wake s0 s1 w h o q e =
    told-whole i ([] ∷ []) wake s0 s1 s1 w h o q e (sym (ap (λ (X : Streams Token). with_tokens X s1) (put-none (at ([] ∷ [])) absent (targets (length s1.plan.net.places) i 0 s1.plan.net.sources) s1.tokens)))

pub heard-absent : (i : ℕ) (s0 s1 : DeState Token) → IsShaped s0 → i < length s0.plan.net.places → s0.stage ≡ Open → s1 ≡ with_turn i Answered s0 → s1 ≡ after_heard i (Known [] ∷ []) s0
heard-absent i s0 s1 w h o e =
    heard-whole i (Known [] ∷ []) s0 s1 s1 w h o e
    (sym (ap (λ (X : Streams Token). with_tokens X s1) (put-none (known_on (Known [] ∷ [])) (λ port. known-tokens (Known [] ∷ []) port ∙ absent port) (targets (length s1.plan.net.places) i 0 s1.plan.net.sources) s1.tokens)))

-- a child gave one token early on its one port
pub heard-present : (i : ℕ) (ts : List Token) (s0 s1 s2 : DeState Token) → IsShaped s0 → i < length s0.plan.net.places → s0.stage ≡ Open → s1 ≡ with_turn i Answered s0 →
    s2 ≡ with_tokens (put_on (at (ts ∷ [])) (targets (length s1.plan.net.places) i 0 s1.plan.net.sources) s1.tokens) s1 → s2 ≡ after_heard i (Known ts ∷ []) s0
heard-present i ts s0 s1 s2 w h o e f =
    heard-whole i (Known ts ∷ []) s0 s1 s2 w h o e
    (f ∙ ap (λ (X : Streams Token). with_tokens X s1) (put-same (at (ts ∷ [])) (known_on (Known ts ∷ [])) (λ port. sym (known-tokens (Known ts ∷ []) port)) (targets (length s1.plan.net.places) i 0 s1.plan.net.sources) s1.tokens))

-- a target of the first port gets the tokens, and any other nothing
pub nothing-at : (s : DeState Token) (t u : Target) (ts : List Token) → t ≡ u → 0 < t.port → s ≡ with_tokens (put u.channel (at (ts ∷ []) u.port) s.tokens) s
nothing-at s t u ts e h = subst (λ (x : Target). s ≡ with_tokens (put x.channel (at (ts ∷ []) x.port) s.tokens) s) e (nothing-given s t.channel t.port ts h)

pub first-at : (s s' : DeState Token) (t u : Target) (ts : List Token) → t ≡ u → t.port ≤ 0 → s' ≡ with_tokens (put t.channel ts s.tokens) s → s' ≡ with_tokens (put u.channel (at (ts ∷ []) u.port) s.tokens) s
first-at s s' t u ts e h f = subst (λ (x : Target). s' ≡ with_tokens (put x.channel (at (ts ∷ []) x.port) s.tokens) s) e (f ∙ ap (λ xs. with_tokens (put t.channel xs s.tokens) s) (sym (port-first ts t.port h)))

-- whether there is room, as contracts see it
pub room-seen : {B : Type 0} (r : Inside) (now : Flow) (v : flow_in r ≡ now) (i : ℕ) (F : List Feed) (e : map target_of F ≡ targets (length r.net.plan.net.places) i 0 r.net.plan.net.sources) → i < length r.net.plan.net.places → B ↔ ((k : ℕ) → k < length F → at r.channels.lists (get_or F k no_feed).channel ≡ []) → B ↔ HasRoom now.state i
room-seen {B} r now v i F e h q =
    subst (λ (f : Flow). B ↔ HasRoom f.state i) v
    (λ b. empty-feeds (length r.net.plan.net.places) i h r.net.plan.net.sources r.channels.lists F e (q.0 b), λ a. q.1 (feeds-empty (length r.net.plan.net.places) i h r.net.plan.net.sources r.channels.lists F e a))
