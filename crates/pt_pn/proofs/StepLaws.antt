-- What one event of a core needs and comes to, from the fields of the core.
use Rattle.std.proofs.Common.{◌≡◌, ℕ, zero, suc, ◌+◌, ◌-◌, ◌^◌, ◌<◌, ◌≤◌, List, [], ◌∷◌, true, false, nat_lt, length, set, get_or, Option, Some, None, refl, sym, ap, ap₂, subst, ◌∙◌, arith}
use Rattle.std.specs.Prelude.{slice_get}
use Rattle.pt_meaning.specs.Streams.{Streams, at, change_at}
use Rattle.pt_meaning.specs.Process.{Put}
use Rattle.pt_meaning.specs.Running.{total}
use Rattle.pt_value.specs.declared.token.Token.{Token}
use Rattle.pt_firing.specs.declared.ask.Ask.{Ask}
use Rattle.pt_firing.specs.declared.ask.Ask.TheVariants as ask
use Rattle.pt_recv.specs.Lines.{list_at, pushed, popped}
use Rattle.pt_pn_laws.specs.State.{Network, Open, Asked, MayGet, MayPut, MayFire, IsStopped, asked_process, has_room, need_at, offset_of, lacking_place, in_stage, after_get, after_put, capacity_of, greatest_of}
use Rattle.pt_process.specs.declared.process.Event.{Event}
use Rattle.pt_process.specs.Process.{Standing, DoesNext, with_token, with_put_made, with_handed}
use Rattle.pt_puts.specs.Puts.{PutsFirst}
use Rattle.pt_process.proofs.NetworkLaws.{at-get-or}
use Rattle.pt_pn_work.specs.Core.{State, nobody, puts_of_all, state_with, NoneHanded, IsAlone, PutsOn, LacksAt, GetsAt, Does}
use Rattle.pt_pn_work.proofs.CoreLaws.{placed-long, part-is, need-is, puts-is, handed-is, does-so, get-is, may-get, put-is, fire-is, alone-now, handed-kept, room-outside, room-inside, list-is, first-put, puts-on, get-stops, read-as}
use Rattle.pt_pn.specs.declared.pn.Core.TheInside.{Inside}
use Rattle.pt_pn.specs.Core.{IsSound, IsKept, StageFits, Comes, MayCome, Looks, stage_of, seen_core}
use Rattle.pt_pn.proofs.CoreLaws.{open-fits, fits-open, asked-fits, process-there, put-there, some-put, kept-put}

-- what comes of a look at some process
pub looks-may : (s : State) (i : ℕ) (o : Option Ask) (t : State) → Looks s i o t → MayCome s o t
looks-may s i None t h = h.1
looks-may s i (Some answer) t h = h

module _ (c : Inside) (w : IsSound c) (s : State) (v : seen_core c ≡ s) where
  abbrev n : Network Token
  n = c.network

  abbrev ps : List Standing
  ps = c.processes.items

  abbrev lists : Streams Token
  lists = c.queues.lists

  same-network : n ≡ s.network
  same-network = ap (λ (x : State). x.network) v

  -- a process that is there
  pub in-net : (i : ℕ) → i < length s.network.plan.net.places → i < length n.plan.net.places
  in-net i h = let e = ap (λ (x : State). length x.network.plan.net.places) v in omega (arith, e, h)

  pub in-list : (i : ℕ) → i < length s.network.plan.net.places → i < length ps
  in-list i h = process-there n ps c.capacity.items lists c.queues.spares c.promised.items w.kept i (in-net i h)

  pub is-open : s.stage ≡ Open → stage_of c.stage ≡ Open
  is-open o = ap (λ (x : State). x.stage) v ∙ o

  pub none-handed : s.stage ≡ Open → NoneHanded ps
  none-handed o = open-fits c.stage ps (is-open o) w.stage

  pub gathers : s.stage ≡ Open → (i : ℕ) → (get_or ps i nobody).handed ≡ false
  gathers o i = sym (handed-is ps i) ∙ none-handed o i

  -- processes that are the same
  pub still : (ps' : List Standing) → ps' ≡ ps → state_with n ps' c.capacity.items lists c.tag (stage_of c.stage) ≡ s
  still ps' e = ap (λ q. state_with n q c.capacity.items lists c.tag (stage_of c.stage)) e ∙ v

  pub stage-still : (ps' : List Standing) → ps' ≡ ps → StageFits c.stage ps'
  stage-still ps' e = subst (λ q. StageFits c.stage q) (sym e) w.stage

  -- what a process does next
  pub next-does : (i : ℕ) → i < length s.network.plan.net.places → (ev : Event) → DoesNext (get_or ps i nobody) ev → Does s i ev
  next-does i h ev d = subst (λ (x : State). Does x i ev) v (does-so n ps c.capacity.items lists c.tag (stage_of c.stage) w.kept.placed i (in-net i h) ev d)

  -- a put
  pub on-channel : (i channel : ℕ) → PutsOn s i channel → (1 ≤ get_or c.promised.items channel 0) × (channel < length n.plan.net.sources)
  on-channel i channel p = let q = subst (λ (x : State). PutsOn x i channel) (sym v) p in put-there n ps c.capacity.items lists c.queues.spares c.promised.items w.kept i q.first q.rest channel q.next q.on

  pub channel-there : (i channel : ℕ) → PutsOn s i channel → channel < length lists
  channel-there i channel p = let l = (on-channel i channel p).1 in let e = w.kept.lists in omega (arith, l, e)

  pub capacity-there : (i channel : ℕ) → PutsOn s i channel → channel < length c.capacity.items
  capacity-there i channel p = let l = (on-channel i channel p).1 in let e = w.kept.capacities in omega (arith, l, e)

  pub room-past : (channel inner : ℕ) → inner ≡ total n.plan.net.places → inner ≤ channel → true ≡ has_room s channel
  room-past channel inner e h = sym (subst (λ (x : State). has_room x channel ≡ true) v (room-outside (seen_core c) channel (omega (arith, e, h))))

  pub room-within : (channel inner held room : ℕ) → inner ≡ total n.plan.net.places → channel < inner → held ≡ length (list_at lists channel) → room ≡ get_or c.capacity.items channel 0 → nat_lt held room ≡ has_room s channel
  room-within channel inner held room e h l k =
      ap₂ (λ a b. nat_lt a b) (l ∙ ap (λ x. length x) (list-is lists channel)) k ∙ subst (λ (x : State). nat_lt (length (at lists channel)) (get_or c.capacity.items channel 0) ≡ has_room x channel) v (room-inside (seen_core c) channel (omega (arith, e, h)))

  pub may-now : (i : ℕ) → MayPut s i → MayPut (seen_core c) i
  may-now i m = subst (λ (x : State). MayPut x i) (sym v) m

  pub put-waits : (i : ℕ) → MayPut s i → 0 < length (get_or (puts_of_all ps) i [])
  put-waits i m = let q = may-now i m in some-put n ps c.capacity.items lists c.queues.spares c.promised.items w.kept i q.first q.rest q.next

  pub put-first : (i : ℕ) (m : MayPut s i) (u : Put Token) → slice_get (get_or (puts_of_all ps) i []) 0 ≡ Some u → at (puts_of_all ps) i ≡ u ∷ (may-now i m).rest
  put-first i m u f = let q = may-now i m in q.next ∙ ap (λ (x : Put Token). x ∷ q.rest) (first-put (puts_of_all ps) i q.first q.rest u q.next f)

  pub put-on : (i : ℕ) (m : MayPut s i) (u : Put Token) → slice_get (get_or (puts_of_all ps) i []) 0 ≡ Some u → (1 ≤ get_or c.promised.items u.channel 0) × (u.channel < length n.plan.net.sources)
  put-on i m u f = put-there n ps c.capacity.items lists c.queues.spares c.promised.items w.kept i u (may-now i m).rest u.channel (put-first i m u f) refl

  pub put-made : s.stage ≡ Open → (i : ℕ) (m : MayPut s i) (u : Put Token) (ps' : List Standing) (L' : Streams Token) → slice_get (get_or (puts_of_all ps) i []) 0 ≡ Some u → ps' ≡ change_at i with_put_made ps → L' ≡ pushed lists u.channel u.token →
      Comes s (ask.Put i) (state_with n ps' c.capacity.items L' c.tag (stage_of c.stage))
  put-made o i m u ps' L' f e l = (
    (o, m),
    put-is n ps c.capacity.items lists c.tag (stage_of c.stage) w.kept.placed i u (may-now i m).rest ps' L' (put-first i m u f) e l ∙ ap (λ x. after_put i x) v,
  )

  pub put-keeps : (i : ℕ) (m : MayPut s i) (u : Put Token) (ps' : List Standing) (L' : Streams Token) (S' P' : List ℕ) → slice_get (get_or (puts_of_all ps) i []) 0 ≡ Some u → ps' ≡ change_at i with_put_made ps → L' ≡ pushed lists u.channel u.token →
      S' ≡ set c.queues.spares u.channel (get_or c.queues.spares u.channel 0 - 1) → P' ≡ set c.promised.items u.channel (get_or c.promised.items u.channel 0 - 1) → IsKept n ps' c.capacity.items L' S' P'
  put-keeps i m u ps' L' S' P' f e l x p = kept-put n ps c.capacity.items lists c.queues.spares c.promised.items w.kept i u (may-now i m).rest ps' L' S' P' (put-first i m u f) e l x p

  pub handed-still : s.stage ≡ Open → (i : ℕ) (g : Standing → Standing) (ps' : List Standing) → ((p : Standing) → (g p).handed ≡ p.handed) → ps' ≡ change_at i g ps → StageFits c.stage ps'
  handed-still o i g ps' h e = fits-open c.stage ps' (is-open o) (handed-kept ps ps' i g (none-handed o) h e)

  -- a get
  gets-now : (i place : ℕ) → GetsAt s i place → GetsAt (seen_core c) i place
  gets-now i place g = subst (λ (x : State). GetsAt x i place) (sym v) g

  pub lacks-so : (i place : ℕ) → i < length s.network.plan.net.places → LacksAt s i place → lacking_place (get_or ps i nobody).need (get_or ps i nobody).got ≡ Some place
  lacks-so i place h l = let q = subst (λ (x : State). LacksAt x i place) (sym v) l in sym (ap₂ (λ a b. lacking_place a b) (need-is ps i) (part-is n.plan.net.places ps i w.kept.placed (in-net i h))) ∙ q.lacks

  pub get-made : s.stage ≡ Open → (i place channel : ℕ) (g : GetsAt s i place) (x : Token) (ps' : List Standing) (L' : Streams Token) → channel ≡ offset_of n.plan.net.places i + place → slice_get (list_at lists channel) 0 ≡ Some x → ps' ≡ change_at i (with_token place x) ps → L' ≡ popped lists channel →
      Comes s (ask.Get i) (state_with n ps' c.capacity.items L' c.tag (stage_of c.stage))
  get-made o i place channel g x ps' L' k f e l = (
    (o, subst (λ (y : State). MayGet y i) v (may-get n ps c.capacity.items lists c.tag (stage_of c.stage) w.kept.placed i place (gets-now i place g))),
    get-is n ps c.capacity.items lists c.tag (stage_of c.stage) w.kept.placed i place x ps' L' (gets-now i place g) (ap (λ k. slice_get (list_at lists k) 0) (sym k) ∙ f) e (l ∙ ap (λ k. popped lists k) k) ∙ ap (λ y. after_get i y) v,
  )

  -- a process is asked to fire
  pub fire-made : s.stage ≡ Open → (i : ℕ) (m : MayFire s i) (ps' : List Standing) → ps' ≡ change_at i with_handed ps → Comes s (ask.Fire i c.tag) (state_with n ps' c.capacity.items lists c.tag (Asked i))
  fire-made o i m ps' e = (
    (o, m, ap (λ (x : State). x.tag) v),
    fire-is n ps c.capacity.items lists c.tag (stage_of c.stage) w.kept.placed i ps' e ∙ ap (λ x. in_stage (Asked i) x) v,
  )

  pub fire-alone : s.stage ≡ Open → (i : ℕ) (m : MayFire s i) (ps' : List Standing) → ps' ≡ change_at i with_handed ps → IsAlone i ps'
  fire-alone o i m ps' e =
      alone-now n ps c.capacity.items lists c.tag (stage_of c.stage) w.kept.placed i ps' (none-handed o) (in-net i m.there) (let q = subst (λ (x : State). MayFire x i) (sym v) m in q.none) e

  -- the process that was asked for
  pub alone : (i : ℕ) → asked_process s.stage ≡ Some i → IsAlone i ps
  alone i a = asked-fits c.stage ps i (ap (λ (x : State). asked_process x.stage) v ∙ a) w.stage

  pub asked-in-net : (i : ℕ) → asked_process s.stage ≡ Some i → i < length n.plan.net.places
  asked-in-net i a = let h = (alone i a).there in let e = placed-long n.plan.net.places ps w.kept.placed in omega (arith, h, e)

  pub asked-handed : (i : ℕ) → asked_process s.stage ≡ Some i → (get_or ps i nobody).handed ≡ true
  asked-handed i a = sym (handed-is ps i) ∙ (alone i a).handed

  pub asked-none : (i : ℕ) → asked_process s.stage ≡ Some i → at (puts_of_all ps) i ≡ []
  asked-none i a = at-get-or (puts_of_all ps) i ∙ (alone i a).none

  -- the next put of a process, as its own number tells it
  pub first-on : (i channel : ℕ) → PutsFirst (get_or ps i nobody).puts (Some channel) → PutsOn s i channel
  first-on i channel p = subst (λ (x : State). PutsOn x i channel) v (puts-on n ps c.capacity.items lists c.tag (stage_of c.stage) w.kept.placed i channel p)

  -- the channel that ends at a place
  pub place-channel : (i place : ℕ) → i < length s.network.plan.net.places → LacksAt s i place → offset_of n.plan.net.places i + place < length lists
  place-channel i place h l =
      let q = (subst (λ (x : State). LacksAt x i place) (sym v) l).within in
      let a = within n.plan.net.places i place (in-net i h) q in
      let b = w.kept.sound.lawful.channels in
      let e = w.kept.lists in
      omega (arith, a, b, e)
    where
      within : (ns : List ℕ) (i place : ℕ) → i < length ns → place < get_or ns i 0 → offset_of ns i + place < total ns
      within [] i place h l = absurd (omega (arith, h))
      within (m ∷ ns) zero place h l = omega (arith, l)
      within (m ∷ ns) (suc i) place h l = let r = within ns i place (omega (arith, h)) l in omega (arith, r)

  pub place-few : (i place : ℕ) → i < length s.network.plan.net.places → LacksAt s i place → offset_of n.plan.net.places i + place < 2 ^ 32
  place-few i place h l = let a = place-channel i place h l in let b = w.kept.sound.few in let e = w.kept.lists in omega (arith, a, b, e)

  held-at : (channel i place : ℕ) → channel ≡ offset_of n.plan.net.places i + place → length (at s.halfway.queued (offset_of s.network.plan.net.places i + place)) ≡ length (list_at lists channel)
  held-at channel i place e = sym (ap (λ (x : State). length (at x.halfway.queued (offset_of x.network.plan.net.places i + place))) v) ∙ ap (λ k. length (at lists k)) (sym e) ∙ ap (λ x. length x) (sym (list-is lists channel))

  pub empty-stops : (i place channel held : ℕ) → LacksAt s i place → channel ≡ offset_of n.plan.net.places i + place → held ≡ length (list_at lists channel) → held ≡ 0 → IsStopped s i (at s.halfway.puts i) (need_at s i)
  empty-stops i place channel held l e h z = get-stops s i place l (let q = held-at channel i place e in omega (arith, q, h, z))

  pub some-gets : (i place channel held : ℕ) → i < length s.network.plan.net.places → LacksAt s i place → channel ≡ offset_of n.plan.net.places i + place → held ≡ length (list_at lists channel) → 0 < held → GetsAt s i place
  some-gets i place channel held h l e k z = record { there = h; next = l; some = let q = held-at channel i place e in omega (arith, q, k, z) }

  pub get-channel : (i place channel : ℕ) → GetsAt s i place → channel ≡ offset_of s.network.plan.net.places i + place → (channel < length lists) × (0 < length (list_at lists channel))
  get-channel i place channel g e =
      let k : channel ≡ offset_of n.plan.net.places i + place = e ∙ sym (ap (λ (x : State). offset_of x.network.plan.net.places i + place) v) in
      let a = place-channel i place g.there g.next in
      let b = held-at channel i place k in
      let d = g.some in
      (omega (arith, k, a), omega (arith, b, d))

  -- lists of processes and channels
  pub list-in-net : (i : ℕ) → i < length ps → i < length s.network.plan.net.places
  list-in-net i h = let a = placed-long n.plan.net.places ps w.kept.placed in let e = ap (λ (x : State). length x.network.plan.net.places) v in omega (arith, h, a, e)

  pub puts-long : length s.halfway.puts ≡ length ps
  puts-long = sym (ap (λ (x : State). length x.halfway.puts) v) ∙ long ps
    where
      long : (qs : List Standing) → length (puts_of_all qs) ≡ length qs
      long [] = refl
      long (q ∷ qs) = ap (λ k. suc k) (long qs)

  pub capacity-long : length s.capacity ≡ length s.network.plan.net.sources
  capacity-long = sym (ap (λ (x : State). length x.capacity) v) ∙ w.kept.capacities ∙ ap (λ (x : State). length x.network.plan.net.sources) v

  pub on-net : (i channel : ℕ) → PutsOn s i channel → channel < length s.network.plan.net.sources
  on-net i channel p = let l = (on-channel i channel p).1 in let e = ap (λ (x : State). length x.network.plan.net.sources) v in omega (arith, l, e)

  -- the next put of a process that is read
  pub read-first : (i channel : ℕ) (p : Standing) → i < length s.network.plan.net.places → p ≡ get_or ps i p → PutsFirst p.puts (Some channel) → PutsOn s i channel
  read-first i channel p h e f = first-on i channel (subst (λ (q : Standing). PutsFirst q.puts (Some channel)) (read-as ps i p nobody (in-list i h) e) f)

  pub none-next : (i : ℕ) (p : Standing) → i < length s.network.plan.net.places → p ≡ get_or ps i p → PutsFirst p.puts None → at s.halfway.puts i ≡ []
  none-next i p h e f = sym (ap (λ (x : State). at x.halfway.puts i) v) ∙ puts-is ps i ∙ sym (ap (λ (q : Standing). q.puts) (read-as ps i p nobody (in-list i h) e)) ∙ f

  pub read-capacity : (channel capacity : ℕ) → capacity ≡ get_or c.capacity.items channel 0 → capacity ≡ capacity_of s channel
  read-capacity channel capacity e = e ∙ ap (λ (x : State). capacity_of x channel) v

  pub read-greatest : (channel greatest : ℕ) → greatest ≡ greatest_of (seen_core c) channel → greatest ≡ greatest_of s channel
  read-greatest channel greatest e = e ∙ ap (λ (x : State). greatest_of x channel) v
