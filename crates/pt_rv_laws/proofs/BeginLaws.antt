-- A core at its start fits its processes, and a firing begins.
use Rattle.std.proofs.Common.{◌≡◌, ℕ, zero, suc, ◌<◌, List, [], ◌∷◌, length, map, drop, refl, sym, ap, subst, ◌∙◌}
use Rattle.std.proofs.lemmas.List.{length-map}
use Rattle.pt_meaning.specs.Tag.{Tag}
use Rattle.pt_meaning.specs.Streams.{Streams}
use Rattle.pt_meaning.specs.Machine.{Stepping, Facts}
use Rattle.pt_meaning.specs.Net.{Source}
use Rattle.pt_meaning.specs.Process.{Put, emptied}
use Rattle.pt_meaning.specs.Meetings.{Scene}
use Rattle.pt_meaning.specs.Rendezvous.{arriving, outlets, no_tokens, none_gathered, none_to_put}
use Rattle.pt_laws.specs.LogsOfRuns.{silents}
use Rattle.pt_laws.specs.SoundRuns.{got_by, count_at}
use Rattle.pt_rv_laws.specs.State.{Processes, RvState, net_of, started, begun}
use Rattle.pt_rv_laws.specs.Lawful.{IsLawful, AllCount, IsFor}
use Rattle.pt_rv_laws.specs.Chain.{Course, Begins, standing, scene_of, opened, Underway}
use Rattle.pt_rv_laws.proofs.SeatLaws.{seats-first}

tokens-long : (T : Type 0) (n : ℕ) → length (no_tokens {T = T} n) ≡ n
tokens-long T zero = refl
tokens-long T (suc n) = ap (λ v. suc v) (tokens-long T n)

gathered-long : (T : Type 0) (ns : List ℕ) → length (none_gathered {T = T} ns) ≡ length ns
gathered-long T [] = refl
gathered-long T (n ∷ ns) = ap (λ v. suc v) (gathered-long T ns)

none-long : (T : Type 0) (ns : List ℕ) → length (none_to_put {T = T} ns) ≡ length ns
none-long T [] = refl
none-long T (n ∷ ns) = ap (λ v. suc v) (none-long T ns)

gathers-first : (T : Type 0) (ns : List ℕ) (i : ℕ) → length (got_by (none_gathered {T = T} ns) i) ≡ count_at ns i
gathers-first T [] i = refl
gathers-first T (n ∷ ns) zero = tokens-long T n
gathers-first T (n ∷ ns) (suc i) = gathers-first T ns i

pub calls-start : {T S : Type 0} (facts : Facts T S) (p : Processes) (kids : List S) → IsLawful p → p.starts ≡ map (λ c. facts.need c) kids → AllCount {T = T} (started p) → IsFor facts (started p) kids
calls-start {T} facts p kids lawful needs counts = record {
  lawful = lawful;
  sized = record {
    got = gathered-long T p.plan.net.places;
    puts = none-long T p.plan.net.places;
    needs = lawful.starts;
    rooms = record { gathers = λ i. gathers-first T p.plan.net.places i; sends = λ c j e. let o = lawful.owns c j e in let l = none-long T p.plan.takes in subst (λ v. j < v) (sym l) o };
  };
  needs = needs;
  counts = counts;
  none = refl;
}

pub arriving-long : {T : Type 0} (sources : List Source) (b : ℕ) (kept : List (List (Put T))) (X : Streams T) → length (arriving sources b kept X) ≡ length kept
arriving-long sources b [] X = refl
arriving-long sources b (us ∷ kept) X = ap (λ v. suc v) (arriving-long sources (suc b) kept X)

outlets-emptied : {T : Type 0} (ns : List ℕ) (cs : List Source) → emptied (outlets {T = T} ns cs) ≡ outlets ns cs
outlets-emptied [] [] = refl
outlets-emptied [] (c ∷ cs) = ap (λ v. [] ∷ v) (outlets-emptied [] cs)
outlets-emptied (n ∷ ns) cs = outlets-emptied ns (drop n cs)

silents-long : {S : Type 0} (T : Type 0) (ss : List S) → length (silents {T = T} ss) ≡ length ss
silents-long T [] = refl
silents-long T (s ∷ ss) = ap (λ v. suc v) (silents-long T ss)

module _ {T S : Type 0} (facts : Facts T S) (step : Stepping T S) (before : RvState T) (kids : List S) (tag : Tag) (inputs : Streams T) (f : IsFor facts before kids) where
  kids-long : length kids ≡ length (net_of before).places
  kids-long = sym (length-map kids (λ c. facts.need c)) ∙ ap (λ v. length v) (sym f.needs) ∙ f.sized.needs

  abbrev arrived_inputs : List (List (Put T))
  arrived_inputs = arriving (net_of before).sources 0 before.places.inputs inputs

  opens-as : (n : ℕ) → opened before kids inputs ≡ scene_of n (begun tag inputs before) kids (silents kids)
  opens-as n =
      ap (λ ps. let sc : Scene T S = record { parties = ps; inputs = arrived_inputs; outputs = outlets (net_of before).places (net_of before).sources; met = [] } in sc) (sym (seats-first before.processes.plan.barriers before.places.got before.places.puts kids)) ∙
      ap (λ out. let sc : Scene T S = record { parties = standing before.processes.plan.barriers before.places.got before.places.puts kids (silents kids); inputs = arrived_inputs; outputs = out; met = [] } in sc) (sym f.none)

  pub calls-begin : Underway facts step before kids inputs (begun tag inputs before) 0 kids (silents kids)
  calls-begin = record {
    lawful = f.lawful;
    processes = refl;
    sized = record {
      got = f.sized.got;
      puts = f.sized.puts;
      needs = f.sized.needs;
      rooms = record { gathers = f.sized.rooms.gathers; sends = λ c j e. subst (λ v. j < v) (sym (arriving-long (net_of before).sources 0 before.places.inputs inputs)) (f.sized.rooms.sends c j e) };
    };
    needs = f.needs;
    counts = f.counts;
    outputs = ap (λ out. emptied out) f.none ∙ outlets-emptied (net_of before).places (net_of before).sources;
    children = kids-long;
    logged = silents-long T kids ∙ kids-long;
    first_sized = f.sized;
    course = λ n. subst (λ sc. Course facts step tag (net_of before) n (opened before kids inputs) 0 [] sc) (opens-as n) Begins;
  }
