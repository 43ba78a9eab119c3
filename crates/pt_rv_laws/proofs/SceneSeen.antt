-- A scene as a core knows it: the same meetings are legal in it, and do the same.
use Rattle.std.proofs.Common.{◌≡◌, ℕ, zero, suc, ◌+◌, List, [], ◌∷◌, ◌++◌, ◌&&◌, ◌||◌, not, Option, Some, None, refl, ap, ap₂, ◌∙◌}
use Rattle.pt_meaning.specs.Streams.{Streams, get, change_at}
use Rattle.pt_meaning.specs.Log.{Event, Meeting, Channel, Barrier}
use Rattle.pt_meaning.specs.Machine.{Need, Facts}
use Rattle.pt_meaning.specs.Net.{Source, Own, Output, Net}
use Rattle.pt_meaning.specs.Process.{Party, next_at, at_rest, next_event, gets_at, is_joining, all_rest, with_put_made, with_token, all_got, all_puts, emptied}
use Rattle.pt_meaning.specs.Meetings.{Scene, puts_at, waiting, first_on, offer, offers, all_there, Target, Place, Outlet, target_from, receives, Hop, hops_in, is_received, is_legal, any_legal_channel, any_legal_barrier, any_legal, sent, received, passed}
use Rattle.pt_rv_laws.specs.State.{need_facts}
use Rattle.pt_rv_laws.proofs.SeatLaws.{as_need, seen, frame_of, frames}

module _ {T S : Type 0} (facts : Facts T S) where
  abbrev pub seen_scene : List (Event T) → Scene T S → Scene T Need
  seen_scene es sc = record { parties = seen facts sc.parties; inputs = sc.inputs; outputs = sc.outputs; met = es }

  -- what comes next, and what is offered
  pub next-seen : (ps : List (Party T S)) (i : ℕ) → next_at need_facts (seen facts ps) i ≡ next_at facts ps i
  next-seen [] i = refl
  next-seen (p ∷ ps) zero = refl
  next-seen (p ∷ ps) (suc i) = next-seen ps i

  puts-seen : (ps : List (Party T S)) (i : ℕ) → puts_at (seen facts ps) i ≡ puts_at ps i
  puts-seen [] i = refl
  puts-seen (p ∷ ps) zero = refl
  puts-seen (p ∷ ps) (suc i) = puts-seen ps i

  pub rests-seen : (ps : List (Party T S)) → all_rest need_facts (seen facts ps) ≡ all_rest facts ps
  rests-seen [] = refl
  rests-seen (p ∷ ps) = ap (λ b. at_rest (next_event facts p) && b) (rests-seen ps)

  module _ (net : Net) (es : List (Event T)) (sc : Scene T S) where
    waits-seen : (o : Option Source) → waiting (seen_scene es sc) o ≡ waiting sc o
    waits-seen None = refl
    waits-seen (Some (Own j)) = refl
    waits-seen (Some (Output i p)) = puts-seen sc.parties i

    offer-seen : (c : ℕ) → offer net (seen_scene es sc) c ≡ offer net sc c
    offer-seen c = ap (λ us. first_on c us) (waits-seen (get net.sources c))

    pub offers-seen : (hs : List Hop) → offers net (seen_scene es sc) hs ≡ offers net sc hs
    offers-seen [] = refl
    offers-seen (h ∷ hs) = ap₂ (λ x xs. x ∷ xs) (offer-seen h.channel) (offers-seen hs)

    receives-seen : (t : Target) → receives need_facts (seen facts sc.parties) t ≡ receives facts sc.parties t
    receives-seen (Place i q) = ap (λ n. gets_at q n) (next-seen sc.parties i)
    receives-seen (Outlet o) = refl

    received-seen : (m : Meeting) → is_received need_facts net (seen facts sc.parties) m ≡ is_received facts net sc.parties m
    received-seen (Channel c) = receives-seen (target_from 0 net.places c)
    received-seen (Barrier b) = ap (λ n. is_joining n) (next-seen sc.parties b)

    pub legal-seen : (m : Meeting) → is_legal need_facts net (seen_scene es sc) m ≡ is_legal facts net sc m
    legal-seen m = ap₂ (λ a b. a && b) (ap (λ xs. all_there xs) (offers-seen (hops_in net m))) (received-seen m)

    channels-seen : (c : ℕ) (ss : List Source) → any_legal_channel need_facts net (seen_scene es sc) c ss ≡ any_legal_channel facts net sc c ss
    channels-seen c [] = refl
    channels-seen c (s ∷ ss) = ap₂ (λ a b. a || b) (legal-seen (Channel c)) (channels-seen (suc c) ss)

    barriers-seen : (b : ℕ) (ps : List (Party T S)) → any_legal_barrier need_facts net (seen_scene es sc) b (seen facts ps) ≡ any_legal_barrier facts net sc b ps
    barriers-seen b [] = refl
    barriers-seen b (p ∷ ps) = ap₂ (λ x y. x || y) (legal-seen (Barrier b)) (barriers-seen (suc b) ps)

    pub any-seen : any_legal need_facts net (seen_scene es sc) ≡ any_legal facts net sc
    any-seen = ap₂ (λ x y. x || y) (channels-seen 0 net.sources) (barriers-seen 0 sc.parties)

    pub over-seen : (all_rest need_facts (seen facts sc.parties) && not (any_legal need_facts net (seen_scene es sc))) ≡ (all_rest facts sc.parties && not (any_legal facts net sc))
    over-seen = ap₂ (λ x y. x && not y) (rests-seen sc.parties) any-seen

  -- a meeting
  change-seen : (f : Party T S → Party T S) (g : Party T Need → Party T Need) → ((p : Party T S) → g (as_need facts p) ≡ as_need facts (f p)) → (i : ℕ) (ps : List (Party T S)) → change_at i g (seen facts ps) ≡ seen facts (change_at i f ps)
  change-seen f g h i [] = refl
  change-seen f g h zero (p ∷ ps) = ap (λ q. q ∷ seen facts ps) (h p)
  change-seen f g h (suc i) (p ∷ ps) = ap (λ qs. as_need facts p ∷ qs) (change-seen f g h i ps)

  sent-seen : (es : List (Event T)) (o : Option Source) (sc : Scene T S) → sent o (seen_scene es sc) ≡ seen_scene es (sent o sc)
  sent-seen es None sc = refl
  sent-seen es (Some (Own j)) sc = refl
  sent-seen es (Some (Output i p)) sc = ap (λ ps. let s : Scene T Need = record { parties = ps; inputs = sc.inputs; outputs = sc.outputs; met = es } in s) (change-seen with_put_made with_put_made (λ q. refl) i sc.parties)

  received-scene : (es : List (Event T)) (x : T) (t : Target) (sc : Scene T S) → received x t (seen_scene es sc) ≡ seen_scene es (received x t sc)
  received-scene es x (Place i q) sc = ap (λ ps. let s : Scene T Need = record { parties = ps; inputs = sc.inputs; outputs = sc.outputs; met = es } in s) (change-seen (with_token q x) (with_token q x) (λ p. refl) i sc.parties)
  received-scene es x (Outlet o) sc = refl

  pub passed-seen : (net : Net) (es : List (Event T)) (hs : List Hop) (xs : List (Option T)) (sc : Scene T S) → passed net hs xs (seen_scene es sc) ≡ seen_scene es (passed net hs xs sc)
  passed-seen net es [] xs sc = refl
  passed-seen net es (h ∷ hs) [] sc = refl
  passed-seen net es (h ∷ hs) (None ∷ xs) sc = refl
  passed-seen net es (h ∷ hs) (Some x ∷ xs) sc =
      ap (λ v. passed net hs xs (received x h.target v)) (sent-seen es (get net.sources h.channel) sc) ∙
      ap (λ v. passed net hs xs v) (received-scene es x h.target (sent (get net.sources h.channel) sc)) ∙
      passed-seen net es hs xs (received x h.target (sent (get net.sources h.channel) sc))

  pub got-seen : (ps : List (Party T S)) → all_got (seen facts ps) ≡ all_got ps
  got-seen [] = refl
  got-seen (p ∷ ps) = ap (λ v. p.got ∷ v) (got-seen ps)

  pub all-puts-seen : (ps : List (Party T S)) → all_puts (seen facts ps) ≡ all_puts ps
  all-puts-seen [] = refl
  all-puts-seen (p ∷ ps) = ap (λ v. p.puts ∷ v) (all-puts-seen ps)

change-emptied : {T : Type 0} (f : List T → List T) (i : ℕ) (X : Streams T) → emptied (change_at i f X) ≡ emptied X
change-emptied f i [] = refl
change-emptied f zero (xs ∷ X) = refl
change-emptied f (suc i) (xs ∷ X) = ap (λ v. [] ∷ v) (change-emptied f i X)

-- what a meeting leaves as it was
module _ {T S : Type 0} where
  change-frames : (f : Party T S → Party T S) → ((p : Party T S) → frame_of (f p) ≡ frame_of p) → (i : ℕ) (ps : List (Party T S)) → frames (change_at i f ps) ≡ frames ps
  change-frames f h i [] = refl
  change-frames f h zero (p ∷ ps) = ap (λ q. q ∷ frames ps) (h p)
  change-frames f h (suc i) (p ∷ ps) = ap (λ qs. frame_of p ∷ qs) (change-frames f h i ps)

  sent-frames : (o : Option Source) (sc : Scene T S) → frames (sent o sc).parties ≡ frames sc.parties
  sent-frames None sc = refl
  sent-frames (Some (Own j)) sc = refl
  sent-frames (Some (Output i p)) sc = change-frames with_put_made (λ q. refl) i sc.parties

  received-frames : (x : T) (t : Target) (sc : Scene T S) → frames (received x t sc).parties ≡ frames sc.parties
  received-frames x (Place i q) sc = change-frames (with_token q x) (λ p. refl) i sc.parties
  received-frames x (Outlet o) sc = refl

  pub passed-frames : (net : Net) (hs : List Hop) (xs : List (Option T)) (sc : Scene T S) → frames (passed net hs xs sc).parties ≡ frames sc.parties
  passed-frames net [] xs sc = refl
  passed-frames net (h ∷ hs) [] sc = refl
  passed-frames net (h ∷ hs) (None ∷ xs) sc = refl
  passed-frames net (h ∷ hs) (Some x ∷ xs) sc =
      passed-frames net hs xs (received x h.target (sent (get net.sources h.channel) sc)) ∙ received-frames x h.target (sent (get net.sources h.channel) sc) ∙ sent-frames (get net.sources h.channel) sc

  -- the meetings that were made before
  pub passed-met : (net : Net) (hs : List Hop) (xs : List (Option T)) (sc : Scene T S) → (passed net hs xs sc).met ≡ sc.met
  passed-met net [] xs sc = refl
  passed-met net (h ∷ hs) [] sc = refl
  passed-met net (h ∷ hs) (None ∷ xs) sc = refl
  passed-met net (h ∷ hs) (Some x ∷ xs) sc = passed-met net hs xs (received x h.target (sent (get net.sources h.channel) sc)) ∙ received-met x h.target (sent (get net.sources h.channel) sc) ∙ sent-met (get net.sources h.channel)
    where
      sent-met : (o : Option Source) → (sent o sc).met ≡ sc.met
      sent-met None = refl
      sent-met (Some (Own j)) = refl
      sent-met (Some (Output i p)) = refl

      received-met : (y : T) (t : Target) (a : Scene T S) → (received y t a).met ≡ a.met
      received-met y (Place i q) a = refl
      received-met y (Outlet o) a = refl

  -- how many own outputs there are
  pub passed-outputs : (net : Net) (hs : List Hop) (xs : List (Option T)) (sc : Scene T S) → emptied (passed net hs xs sc).outputs ≡ emptied sc.outputs
  passed-outputs net [] xs sc = refl
  passed-outputs net (h ∷ hs) [] sc = refl
  passed-outputs net (h ∷ hs) (None ∷ xs) sc = refl
  passed-outputs net (h ∷ hs) (Some x ∷ xs) sc = passed-outputs net hs xs (received x h.target (sent (get net.sources h.channel) sc)) ∙ received-outputs x h.target (sent (get net.sources h.channel) sc) ∙ ap (λ v. emptied v) (sent-outputs (get net.sources h.channel))
    where
      sent-outputs : (o : Option Source) → (sent o sc).outputs ≡ sc.outputs
      sent-outputs None = refl
      sent-outputs (Some (Own j)) = refl
      sent-outputs (Some (Output i p)) = refl

      received-outputs : (y : T) (t : Target) (a : Scene T S) → emptied (received y t a).outputs ≡ emptied a.outputs
      received-outputs y (Place i q) a = refl
      received-outputs y (Outlet o) a = change-emptied (λ xs. xs ++ (y ∷ [])) o a.outputs
