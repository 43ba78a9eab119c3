-- The example may be run.
use Rattle.std.proofs.Common.{◌≡◌, ℕ, zero, suc, ◌+◌, ◌^◌, ◌<◌, ◌≤◌, List, [], ◌∷◌, length, get_or, refl, ap, subst, arith}
use Rattle.std.proofs.lemmas.Option.{same_Some}
use Rattle.pt_meaning.specs.Streams.{at}
use Rattle.pt_meaning.specs.Start.{first_held}
use Rattle.pt_meaning.specs.Tree.{actor, list_of}
use Rattle.pt_meaning.specs.NodeFacts.{need_of}
use Rattle.pt_meaning.specs.Net.{Source, Own}
use Rattle.pt_value.specs.declared.token.Token.{Token}
use Rattle.pt_library.specs.LibraryActor.{rows}
use Rattle.pt_node.specs.View.{Tree, nodes_of}
use Rattle.pt_core.specs.Reached.{Always}
use Rattle.pt_sdf.specs.SdfActs.{AllSteady}
use Rattle.pt_sdf_parts.specs.ByNeed.{place_of}
use Rattle.pt_sdf_parts.specs.Lawful.{IsLawful, IsNamed, IsSupplied, NeverLacks, occurs}
use Rattle.pt_trees.specs.Ports.{AreNumbered, of_number, ports_in}
use Rattle.pt_trees.specs.declared.top.SdfJob.{SdfJob}
use Rattle.pt_trees.specs.declared.top.Top.TheVariants.{Sdf}
use Rattle.pt_trees.specs.Start.{IsRunnable}
use Rattle.pt_going.specs.Example.{own_from, bare, chain_plan, ramp, scale, chain_kids, chain}
use Rattle.pt_going.proofs.Steady.{ramp-steady, scale-steady}

lacks : NeverLacks (0 ∷ 1 ∷ []) 0 1 1 0 1
lacks zero l e = absurd (omega (arith, e))
lacks (suc zero) l e = omega arith
lacks (suc (suc n)) l e = absurd (omega (arith, l))

often : (i : ℕ) → i < 2 → occurs i (0 ∷ 1 ∷ []) ≡ get_or (1 ∷ 1 ∷ []) i 0
often zero l = refl
often (suc zero) l = refl
often (suc (suc i)) l = absurd (omega (arith, l))

-- the channels that end nowhere
own-long : (i : ℕ) (takes : List ℕ) → length (own_from i takes) ≡ length takes
own-long i [] = refl
own-long i (n ∷ takes) = ap (λ m. suc m) (own-long (suc i) takes)

bare-long : (takes : List ℕ) → length (bare takes) ≡ length takes
bare-long [] = refl
bare-long (n ∷ takes) = ap (λ m. suc m) (bare-long takes)

bare-held : (kids : List Tree) (i : ℕ) (takes : List ℕ) → bare takes ≡ first_held rows kids (own_from i takes)
bare-held kids i [] = refl
bare-held kids i (n ∷ takes) = ap (λ X. [] ∷ X) (bare-held kids (suc i) takes)

own-named : (all : List ℕ) (i : ℕ) (takes : List ℕ) → i + length takes ≤ length all → (k : ℕ) (d : Source) → k < length (own_from i takes) → IsNamed (chain_plan all) (get_or (own_from i takes) k d)
own-named all i [] h k d l = absurd (omega (arith, l))
own-named all i (n ∷ takes) h zero d l = omega (arith, h)
own-named all i (n ∷ takes) h (suc k) d l = own-named all (suc i) takes (omega (arith, h)) k d (omega (arith, l))

supplied : (takes : List ℕ) (i k : ℕ) → i < 2 → k < get_or (0 ∷ 1 ∷ []) i 0 →
    IsSupplied (chain_plan takes) (0 ∷ 1 ∷ []) (length (at {T = Token} ([] ∷ bare takes) (place_of (0 ∷ 1 ∷ []) i + k))) i (get_or (1 ∷ []) (place_of (0 ∷ 1 ∷ []) i + k) 0) (get_or (chain_plan takes).net.sources (place_of (0 ∷ 1 ∷ []) i + k) (Own 0))
supplied takes zero k l b = absurd (omega (arith, b))
supplied takes (suc zero) zero l b = (refl, lacks)
supplied takes (suc zero) (suc k) l b = absurd (omega (arith, b))
supplied takes (suc (suc i)) k l b = absurd (omega (arith, l))

named : (takes : List ℕ) (k : ℕ) (d : Source) → k < length (chain_plan takes).net.sources → IsNamed (chain_plan takes) (get_or (chain_plan takes).net.sources k d)
named takes zero d l = (omega arith, omega arith)
named takes (suc k) d l = own-named takes 0 takes (omega arith) k d (omega (arith, l))

children : (k d : ℕ) → k < 2 → get_or (0 ∷ 1 ∷ []) k d < 2
children zero d l = omega arith
children (suc zero) d l = omega arith
children (suc (suc k)) d l = absurd (omega (arith, l))

pub chain_lawful : (takes : List ℕ) → length takes + 1 < 2 ^ 32 → IsLawful {T = Token} (chain_plan takes) (1 ∷ []) (0 ∷ 1 ∷ []) (1 ∷ takes) ([] ∷ bare takes)
chain_lawful takes short = record {
  repetitions = refl;
  rates = refl;
  needed = refl;
  channels = omega arith;
  started = omega (arith, own-long 0 takes, bare-long takes);
  rooms = omega (arith, own-long 0 takes);
  few = omega (arith, own-long 0 takes, short);
  named = λ k d l. named takes k d l;
  children = λ k d l. children k d l;
  often = often;
  supplied = supplied takes;
}

children-steady : (ramp_path scale_path text : List ℕ) → AllSteady rows (list_of (nodes_of (chain_kids ramp_path scale_path text)))
children-steady ramp_path scale_path text zero child e = subst (λ (v : Tree). Always rows (λ node. need_of rows node ≡ need_of rows v) v) (same_Some (actor ramp) child e) (ramp-steady _ (refl, refl))
children-steady ramp_path scale_path text (suc zero) child e = subst (λ (v : Tree). Always rows (λ node. need_of rows node ≡ need_of rows v) v) (same_Some (actor scale) child e) (scale-steady _)
children-steady ramp_path scale_path text (suc (suc i)) child e = absurd (cc)

pub chain_runnable : (j : SdfJob) → length j.inputs.items ≡ length j.takes → (path ramp_path scale_path text : List ℕ) → IsRunnable (Sdf j) (chain j.takes path ramp_path scale_path text)
chain_runnable j lists path ramp_path scale_path text = record {
  live = (refl, (record { idle = refl; fitting = record { repetitions = refl; rates = refl; channels = omega arith; needs = refl }; starts = omega arith; steady = children-steady ramp_path scale_path text }, ((tt, tt, tt), ((tt, tt, tt), tt)), tt));
  start = (refl, refl, ap (λ X. [] ∷ X) (bare-held (list_of (nodes_of (chain_kids ramp_path scale_path text))) 0 j.takes), ((refl, refl), ((refl, refl), tt)));
  fitting = ((refl, refl, refl), (refl, refl, refl), (tt, (tt, tt)));
  planned = (omega arith, (tt, (tt, tt)));
  leaves = (tt, ((refl, tt), ((refl, tt), tt)));
  unrecorded = (tt, tt, ((tt, tt, tt), (((refl, tt), tt, tt), tt)));
  fits = (refl, lists);
}

pub chain_numbered : (takes path ramp_path scale_path text : List ℕ) → AreNumbered 1 (chain takes path ramp_path scale_path text)
chain_numbered takes path ramp_path scale_path text = record { once = once; below = (omega arith, tt) }
  where
    once : (n : ℕ) → n < 1 → length (of_number n (ports_in (chain takes path ramp_path scale_path text))) ≡ 1
    once zero l = refl
    once (suc n) l = absurd (omega (arith, l))
