-- What the calls of a core need and come to, from the fields of the core.
use Rattle.std.proofs.Common.{◌≡◌, ℕ, suc, ◌+◌, ◌<◌, ◌≤◌, List, [], ◌∷◌, ◌++◌, length, set, take, drop, get_or, Some, refl, sym, ap, ap₂, subst, ◌∙◌, arith, length-set, zero-add, length-append, length-take-le, length-drop}
use Rattle.std.specs.List.{All}
use Rattle.pt_meaning.specs.Tag.{Tag}
use Rattle.pt_meaning.specs.Streams.{Streams, change_at}
use Rattle.pt_meaning.specs.Machine.{Need}
use Rattle.pt_meaning.specs.Net.{Output}
use Rattle.pt_meaning.specs.Process.{Put, puts_of, to_each, channels_from, emptied}
use Rattle.pt_meaning.specs.Running.{total}
use Rattle.pt_value.specs.declared.token.Token.{Token}
use Rattle.pt_firing.specs.declared.ask.Ask.TheVariants as ask
use Rattle.pt_recv.specs.Lines.{list_at, spare_at, pushed}
use Rattle.pt_pn_laws.specs.State.{Network, Idle, Open, Closed, AllStopped, asked_process, lent_if, least_full, doubled, greatest_of, begun, after_told, after_grow, closed, own_of}
use Rattle.pt_pn_laws.specs.Lawful.{HasPlaces}
use Rattle.pt_process.specs.Process.{Standing, arrivals, count_on, once_fired}
use Rattle.pt_puts.proofs.PutLaws.{fan-puts, each-there}
use Rattle.pt_pn_work.specs.Core.{State, nobody, state_with, NoneHanded}
use Rattle.pt_pn_work.proofs.CoreLaws.{placed-at, puts-is}
use Rattle.pt_pn.specs.declared.pn.Core.TheInside.{Inside}
use Rattle.pt_pn.specs.Puts.{all_put}
use Rattle.pt_pn.specs.Core.{IsSound, IsKept, Comes, stage_of, seen_core}
use Rattle.pt_pn.proofs.PutLaws.{arrivals-are, arrivals-below, puts-below}
use Rattle.pt_pn.proofs.CoreLaws.{idle-fits, closed-fits, kept-promised, kept-lists, kept-told}
use Rattle.pt_pn.proofs.StateLaws.{begun-is, closed-is, grown-is, told-is, told-handed, lent-is}
use Rattle.pt_pn.proofs.StepLaws.{alone, asked-in-net, asked-none}

module _ (c : Inside) (w : IsSound c) (s : State) (v : seen_core c ≡ s) where
  abbrev n : Network Token
  n = c.network

  abbrev ps : List Standing
  ps = c.processes.items

  abbrev K : List ℕ
  K = c.capacity.items

  abbrev L : Streams Token
  L = c.queues.lists

  abbrev S : List ℕ
  S = c.queues.spares

  abbrev P : List ℕ
  P = c.promised.items

  -- what `promise` needs
  pub promise-counted : length P ≡ length L
  promise-counted = w.kept.promised ∙ sym w.kept.lists

  pub promise-spares : length S ≡ length L
  promise-spares = w.kept.spares ∙ sym w.kept.lists

  pub arrivals-there : (inputs : Streams Token) (us : List (Put Token)) → us ≡ arrivals 0 n.plan.net.sources inputs → All (λ (u : Put Token). u.channel < length L) us
  arrivals-there inputs us e = subst (λ x. All (λ (u : Put Token). u.channel < length L) x) (sym e) (arrivals-below (length L) 0 n.plan.net.sources inputs (let l = w.kept.lists in let z = zero-add (length n.plan.net.sources) in omega (arith, l, z)))

  pub puts-there : (i : ℕ) (out : Streams Token) (us : List (Put Token)) → us ≡ puts_of n.plan.net.sources i 0 out → All (λ (u : Put Token). u.channel < length L) us
  puts-there i out us e = subst (λ x. All (λ (u : Put Token). u.channel < length L) x) (sym e) (subst (λ m. All (λ (u : Put Token). u.channel < m) (puts_of n.plan.net.sources i 0 out)) (sym w.kept.lists) (puts-below n.plan.net.sources i 0 out))

  -- the channels at the one port of a process
  pub fan-there : (i : ℕ) (x : Token) (cs : List ℕ) → cs ≡ channels_from 0 (Output i 0) n.plan.net.sources → All (λ d. d < length L) cs
  fan-there i x cs e = each-there (λ d. d < length L) x cs (puts-there i ((x ∷ []) ∷ []) (to_each x cs) (fan-puts n.plan.net.sources i x cs e))

  -- where memory is wanting after room was made
  pub room-keeps : (L' : Streams Token) (S' P' : List ℕ) → L' ≡ L → length S' ≡ length S → length P' ≡ length P → ((d : ℕ) → get_or P' d 0 ≤ spare_at S' d) → ((d : ℕ) → get_or P d 0 ≤ get_or P' d 0) → IsKept n ps K L' S' P'
  room-keeps L' S' P' l a b r m = subst (λ X. IsKept n ps K X S' P') (sym l) (kept-promised n ps K L S P w.kept S' P' a b r m)

  pub room-is : (L' : Streams Token) → L' ≡ L → state_with n ps K L' c.tag (stage_of c.stage) ≡ s
  room-is L' l = ap (λ X. state_with n ps K X c.tag (stage_of c.stage)) l ∙ v

  -- a firing begins
  all-put-long : (us : List (Put Token)) (X : Streams Token) → length (all_put us X) ≡ length X
  all-put-long [] X = refl
  all-put-long (u ∷ us) X = all-put-long us (pushed X u.channel u.token) ∙ length-set X u.channel (list_at X u.channel ++ (u.token ∷ []))

  pub begin-keeps : (us : List (Put Token)) (L' : Streams Token) (S' P' S'' P'' : List ℕ) → L' ≡ all_put us L → length S' ≡ length S → length P' ≡ length P → length S'' ≡ length S' → length P'' ≡ length P' → ((d : ℕ) → get_or P d 0 + count_on d us ≤ get_or P' d 0) →
      ((d : ℕ) → get_or P'' d 0 ≤ spare_at S'' d) → ((d : ℕ) → get_or P' d 0 ≤ get_or P'' d 0 + count_on d us) → IsKept n ps K L' S'' P''
  begin-keeps us L' S' P' S'' P'' l a b a' b' m r k = kept-promised n ps K L' S P (kept-lists n ps K L S P w.kept L' (ap (λ X. length X) l ∙ all-put-long us L)) S'' P'' (a' ∙ a) (b' ∙ b) r (λ d. let x = m d in let y = k d in omega (arith, x, y))

  pub begin-fits : s.stage ≡ Idle → NoneHanded ps
  begin-fits o = idle-fits c.stage ps (ap (λ (x : State). x.stage) v ∙ o) w.stage

  pub begin-is : (tag : Tag) (inputs : Streams Token) (us : List (Put Token)) (X L' : Streams Token) → us ≡ arrivals 0 n.plan.net.sources inputs → X ≡ L → L' ≡ all_put us X → state_with n ps K L' tag Open ≡ begun tag inputs s
  begin-is tag inputs us X L' e x l =
      begun-is n ps K L c.tag (stage_of c.stage) tag inputs L' (l ∙ ap₂ (λ a b. all_put a b) e x ∙ arrivals-are n.plan.net.sources L inputs w.kept.lists) ∙ ap (λ y. begun tag inputs y) v

  -- a process has fired
  pub told-there : (i : ℕ) → asked_process s.stage ≡ Some i → i < length s.network.plan.net.places
  told-there i a = let h = asked-in-net c w s v i a in let e = ap (λ (x : State). length x.network.plan.net.places) v in omega (arith, h, e)

  pub told-places : (i m : ℕ) (need : Need) → asked_process s.stage ≡ Some i → m ≡ get_or s.network.plan.net.places i 0 → HasPlaces m need → HasPlaces (get_or n.plan.net.places i 0) need
  told-places i m need a e f = subst (λ k. HasPlaces k need) (e ∙ sym (ap (λ (x : State). get_or x.network.plan.net.places i 0) v)) f

  pub told-got : (i : ℕ) (need : Need) → asked_process s.stage ≡ Some i → HasPlaces (get_or n.plan.net.places i 0) need → HasPlaces (length (get_or ps i nobody).got) need
  told-got i need a f = subst (λ k. HasPlaces k need) (sym (placed-at n.plan.net.places ps i w.kept.placed (asked-in-net c w s v i a))) f

  pub told-none : (i : ℕ) → asked_process s.stage ≡ Some i → (get_or ps i nobody).puts ≡ []
  told-none i a = sym (puts-is ps i) ∙ asked-none c w s v i a

  pub told-keeps : (i : ℕ) (need : Need) (us : List (Put Token)) (ps' : List Standing) (L' : Streams Token) (S' P' : List ℕ) → asked_process s.stage ≡ Some i → HasPlaces (get_or n.plan.net.places i 0) need → ps' ≡ change_at i (once_fired need us) ps → L' ≡ L → length S' ≡ length S →
      length P' ≡ length P → ((d : ℕ) → get_or P' d 0 ≤ spare_at S' d) → ((d : ℕ) → get_or P d 0 + count_on d us ≤ get_or P' d 0) → IsKept n ps' K L' S' P'
  told-keeps i need us ps' L' S' P' a f e l x y r m = subst (λ X. IsKept n ps' K X S' P') (sym l) (kept-told n ps K L S P w.kept i need us ps' S' P' (asked-in-net c w s v i a) (asked-none c w s v i a) f e x y r m)

  pub told-fits : (i : ℕ) (need : Need) (us : List (Put Token)) (ps' : List Standing) → asked_process s.stage ≡ Some i → ps' ≡ change_at i (once_fired need us) ps → NoneHanded ps'
  told-fits i need us ps' a e = told-handed n ps K L c.tag (stage_of c.stage) w.kept.placed i (asked-in-net c w s v i a) need us ps' e (alone c w s v i a)

  pub told-so : (i : ℕ) (need : Need) (out : Streams Token) (us : List (Put Token)) (ps' : List Standing) (L' : Streams Token) → asked_process s.stage ≡ Some i → us ≡ puts_of n.plan.net.sources i 0 out → ps' ≡ change_at i (once_fired need us) ps → L' ≡ L →
      state_with n ps' K L' c.tag Open ≡ after_told i out need s
  told-so i need out us ps' L' a u e l =
      ap (λ X. state_with n ps' K X c.tag Open) l ∙ told-is n ps K L c.tag (stage_of c.stage) w.kept.placed i (asked-in-net c w s v i a) need us ps' e out u ∙ ap (λ x. after_told i out need x) v

  -- where a process doesn't take what it is told
  pub told-still : (ps' : List Standing) (L' : Streams Token) → ps' ≡ ps → L' ≡ L → state_with n ps' K L' c.tag (stage_of c.stage) ≡ s
  told-still ps' L' e l = ap₂ (λ q X. state_with n q K X c.tag (stage_of c.stage)) e l ∙ v

  pub still-keeps : (ps' : List Standing) (L' : Streams Token) (S' P' : List ℕ) → ps' ≡ ps → L' ≡ L → length S' ≡ length S → length P' ≡ length P → ((d : ℕ) → get_or P' d 0 ≤ spare_at S' d) → ((d : ℕ) → get_or P d 0 ≤ get_or P' d 0) → IsKept n ps' K L' S' P'
  still-keeps ps' L' S' P' e l a b r m = subst (λ q. IsKept n q K L' S' P') (sym e) (room-keeps L' S' P' l a b r m)

  -- what was lent
  pub lent-so : (i : ℕ) (r : Streams Token) → asked_process s.stage ≡ Some i → r ≡ (get_or ps i nobody).got → r ≡ lent_if s (asked_process s.stage)
  lent-so i r a e =
      lent-is n ps K L c.tag (stage_of c.stage) i r w.kept.placed (asked-in-net c w s v i a) e ∙ ap₂ (λ x o. lent_if x o) v (sym a)

  -- a firing is over
  pub finish-within : (from : ℕ) → from ≡ total n.plan.net.places → from ≤ length L
  finish-within from e = let a = w.kept.sound.lawful.channels in let l = w.kept.lists in omega (arith, e, a, l)

  left-long : (from : ℕ) (X : Streams Token) → from ≤ length X → length (take from X ++ emptied (drop from X)) ≡ length X
  left-long from X h =
      let a = length-append (take from X) (emptied (drop from X)) in
      let b = length-take-le from X h in
      let d = long (drop from X) ∙ length-drop from X in
      omega (arith, a, b, d, h)
    where
      long : (Y : Streams Token) → length (emptied Y) ≡ length Y
      long [] = refl
      long (y ∷ Y) = ap (λ k. suc k) (long Y)

  pub finish-keeps : (from : ℕ) (L' : Streams Token) (S' : List ℕ) → from ≡ total n.plan.net.places → L' ≡ take from L ++ emptied (drop from L) → length S' ≡ length S → ((d : ℕ) → spare_at S d ≤ spare_at S' d) → IsKept n ps K L' S' P
  finish-keeps from L' S' e l a m =
      kept-promised n ps K L' S P (kept-lists n ps K L S P w.kept L' (ap (λ X. length X) l ∙ left-long from L (finish-within from e))) S' P a refl (λ d. let x = w.kept.room d in let y = m d in omega (arith, x, y)) (λ d. omega arith)

  pub more-keeps : (L' : Streams Token) (S' : List ℕ) → L' ≡ L → length S' ≡ length S → ((d : ℕ) → spare_at S d ≤ spare_at S' d) → IsKept n ps K L' S' P
  more-keeps L' S' l a m = room-keeps L' S' P l a refl (λ d. let x = w.kept.room d in let y = m d in omega (arith, x, y)) (λ d. omega arith)

  pub finish-fits : s.stage ≡ Closed → NoneHanded ps
  finish-fits o = closed-fits c.stage ps (ap (λ (x : State). x.stage) v ∙ o) w.stage

  pub finish-is : (from : ℕ) (L' : Streams Token) → from ≡ total n.plan.net.places → L' ≡ take from L ++ emptied (drop from L) → state_with n ps K L' c.tag Idle ≡ closed s
  finish-is from L' e l = closed-is n ps K L c.tag (stage_of c.stage) from L' e l ∙ ap (λ x. closed x) v

  pub finish-gives : (from : ℕ) (out : Streams Token) → from ≡ total n.plan.net.places → out ≡ drop from L → out ≡ own_of s
  finish-gives from out e o = o ∙ ap (λ k. drop k L) e ∙ ap (λ x. own_of x) v

  -- a channel grows
  pub grow-there : (channel : ℕ) → channel < length s.network.plan.net.sources → channel < length K
  grow-there channel h = let e = ap (λ (x : State). length x.network.plan.net.sources) v in let k = w.kept.capacities in omega (arith, h, e, k)

  pub grow-made : s.stage ≡ Open → AllStopped s → (channel capacity greatest : ℕ) (K' : List ℕ) → least_full s ≡ Some (channel, capacity) → greatest ≡ greatest_of s channel → K' ≡ set K channel (doubled greatest capacity) → Comes s ask.Grow (state_with n ps K' L c.tag (stage_of c.stage))
  grow-made o a channel capacity greatest K' e g k = (
    (o, record { stopped = a; least = (channel, capacity); grows = e }),
    grown-is n ps K L c.tag (stage_of c.stage) channel capacity K' (ap (λ x. least_full x) v ∙ e) (k ∙ ap (λ m. set K channel (doubled m capacity)) (g ∙ sym (ap (λ (x : State). greatest_of x channel) v))) ∙ ap (λ x. after_grow x) v,
  )
