-- What the calls of a core make of what contracts see.
use Rattle.std.proofs.Common.{◌≡◌, ℕ, zero, suc, ◌<◌, List, [], ◌∷◌, ◌++◌, Bool, true, false, nat_eq, length, set, take, drop, get_or, Some, refl, sym, ap, ap₂, subst, ◌∙◌, arith}
use Rattle.std.proofs.lemmas.Bool.Decides.{nat_tests}
use Rattle.pt_meaning.specs.Tag.{Tag}
use Rattle.pt_meaning.specs.Streams.{Streams, change_at}
use Rattle.pt_meaning.specs.Machine.{Need}
use Rattle.pt_meaning.specs.Kahn.{arrived}
use Rattle.pt_meaning.specs.Process.{Put, puts_of, emptied}
use Rattle.pt_meaning.specs.Running.{total}
use Rattle.pt_laws.specs.TickRuns.{places_at}
use Rattle.pt_value.specs.declared.token.Token.{Token}
use Rattle.pt_pn_laws.specs.State.{Network, Stage, Idle, Open, with_places, begun, closed, after_told, after_grow, grown_by, doubled, greatest_of, least_full, lent_if}
use Rattle.pt_process.specs.Process.{Standing, once_fired}
use Rattle.pt_pn_work.specs.Core.{State, nobody, needs_of, puts_of_all, handed_of, gathered_of, state_with, ArePlaced, NoneHanded, IsAlone}
use Rattle.pt_pn_work.proofs.CoreLaws.{change-at, change-other, placed-long, part-is, handed-is, gathered-fired}

module _ (n : Network Token) (ps : List Standing) (K : List ℕ) (L : Streams Token) (t : Tag) (g : Stage) where
  abbrev s : State
  s = state_with n ps K L t g

  pub same-is : (ps' : List Standing) → ps' ≡ ps → state_with n ps' K L t g ≡ s
  same-is ps' e = ap (λ v. state_with n v K L t g) e

  pub begun-is : (tag : Tag) (inputs L' : Streams Token) → L' ≡ arrived n.plan.net.sources inputs L → state_with n ps K L' tag Open ≡ begun tag inputs s
  begun-is tag inputs L' e = ap (λ v. state_with n ps K v tag Open) e

  pub closed-is : (from : ℕ) (L' : Streams Token) → from ≡ total n.plan.net.places → L' ≡ take from L ++ emptied (drop from L) → state_with n ps K L' t Idle ≡ closed s
  closed-is from L' f e = ap (λ v. state_with n ps K v t Idle) e ∙ ap (λ k. state_with n ps K (take k L ++ emptied (drop k L)) t Idle) f

  pub grown-is : (c k : ℕ) (K' : List ℕ) → least_full s ≡ Some (c, k) → K' ≡ set K c (doubled (greatest_of s c) k) → state_with n ps K' L t g ≡ after_grow s
  grown-is c k K' e f = ap (λ v. state_with n ps v L t g) f ∙ ap (λ o. grown_by o s) (sym e)

  -- a process has fired
  module _ (a : ArePlaced n.plan.net.places ps) (i : ℕ) (h : i < length n.plan.net.places) (need : Need) (us : List (Put Token)) (ps' : List Standing) (e : ps' ≡ change_at i (once_fired need us) ps) where
    told-needs : needs_of ps' ≡ set (needs_of ps) i need
    told-needs = ap needs_of e ∙ each ps i
      where
        each : (qs : List Standing) (i : ℕ) → needs_of (change_at i (once_fired need us) qs) ≡ set (needs_of qs) i need
        each [] i = refl
        each (q ∷ qs) zero = refl
        each (q ∷ qs) (suc i) = ap (λ v. q.need ∷ v) (each qs i)

    told-puts : puts_of_all ps' ≡ set (puts_of_all ps) i us
    told-puts = ap puts_of_all e ∙ each ps i
      where
        each : (qs : List Standing) (i : ℕ) → puts_of_all (change_at i (once_fired need us) qs) ≡ set (puts_of_all qs) i us
        each [] i = refl
        each (q ∷ qs) zero = refl
        each (q ∷ qs) (suc i) = ap (λ v. q.puts ∷ v) (each qs i)

    told-gathered : gathered_of ps' ≡ with_places n.plan.net.places i (emptied (places_at n.plan.net.places i (gathered_of ps))) (gathered_of ps)
    told-gathered = ap gathered_of e ∙ gathered-fired (once_fired need us) (λ p. refl) n.plan.net.places ps i a h

    pub told-is : (out : Streams Token) → us ≡ puts_of n.plan.net.sources i 0 out → state_with n ps' K L t Open ≡ after_told i out need s
    told-is out u =
        ap₂ (λ N G. let r : State = record { network = n; needs = N; capacity = K; halfway = record { gathered = G; queued = L; puts = puts_of_all ps' }; tag = t; stage = Open } in r) told-needs told-gathered ∙
        ap (λ U. let r : State = record { network = n; needs = set (needs_of ps) i need; capacity = K; halfway = record { gathered = with_places n.plan.net.places i (emptied (places_at n.plan.net.places i (gathered_of ps))) (gathered_of ps); queued = L; puts = U }; tag = t; stage = Open } in r)
        (told-puts ∙ ap (λ v. set (puts_of_all ps) i v) u)

    pub told-handed : IsAlone i ps → NoneHanded ps'
    told-handed w j = by (nat_eq i j) refl
      where
        by : (b : Bool) → nat_eq i j ≡ b → get_or (handed_of ps') j false ≡ false
        by true q =
            let y : i ≡ j = grind (arith, nat_tests) in
            subst (λ k. get_or (handed_of ps') k false ≡ false) y (handed-is ps' i ∙ ap (λ v. (get_or v i nobody).handed) e ∙ ap (λ (x : Standing). x.handed) (change-at ps i nobody (once_fired need us) (let l = placed-long n.plan.net.places ps a in omega (arith, l, h))))
        by false q = handed-is ps' j ∙ ap (λ v. (get_or v j nobody).handed) e ∙ ap (λ (x : Standing). x.handed) (change-other ps i j nobody (once_fired need us) q) ∙ sym (handed-is ps j) ∙ w.others j q

  -- what the process that was asked for has gathered
  pub lent-is : (i : ℕ) (r : Streams Token) → ArePlaced n.plan.net.places ps → i < length n.plan.net.places → r ≡ (get_or ps i nobody).got → r ≡ lent_if s (Some i)
  lent-is i r a h e = e ∙ sym (part-is n.plan.net.places ps i a h)
