-- What is offered on a channel, and who gets at its end, by what each party does next.
use Rattle.std.proofs.Common.{◌≡◌, ℕ, zero, suc, ◌≤◌, List, [], ◌∷◌, Bool, true, false, nat_eq, length, Option, Some, None, if◌then◌else◌, refl, sym, ap, ◌∙◌, arith}
use Rattle.pt_meaning.specs.Streams.{get}
use Rattle.pt_meaning.specs.Meetings.{first_on}
use Rattle.pt_meaning.specs.Net.{Net, Source}
use Rattle.pt_meaning.specs.Process.{Put, gets_at, is_joining, by_puts, by_need}
use Rattle.pt_value.specs.declared.token.Token.{Token}
use Rattle.pt_puts.specs.Puts.{PutsFirst}
use Rattle.pt_rv_work.specs.Core.{Standing, Moving, next_of, puts_at, offer_in}
use Rattle.pt_rv_parts.specs.declared.process.Event.{Event}
use Rattle.pt_rv_parts.specs.declared.process.Event.TheVariants as event
use Rattle.pt_rv_parts.specs.Process.{DoesNext, gets_by, joins_by}
use Rattle.pt_meaning.specs.Process as process
use Rattle.pt_rv.specs.Parties.{is_there, is_next}

-- past the last channel nothing is offered
pub none-past : (net : Net) (w : Moving Token) (c : ℕ) → length net.sources ≤ c → false ≡ is_there (offer_in net w c)
none-past net w c h = sym (ap (λ o. is_there (first_on c (puts_at w o))) (past net.sources c h))
  where
    past : (ss : List Source) (c : ℕ) → length ss ≤ c → get ss c ≡ None
    past [] c h = refl
    past (s ∷ ss) zero h = absurd (omega (arith, h))
    past (s ∷ ss) (suc c) h = past ss c (omega (arith, h))

first-there : (us : List (Put Token)) (o : Option ℕ) (c : ℕ) → PutsFirst us o → is_next o c ≡ is_there (first_on c us)
first-there us None c p = sym (ap (λ v. is_there (first_on c v)) p)
first-there us (Some d) c p = ap (λ k. nat_eq k c) (sym p.3) ∙ same (nat_eq p.0.channel c) p.0.token ∙ sym (ap (λ v. is_there (first_on c v)) p.2)
  where
    same : (b : Bool) (x : Token) → b ≡ is_there (if b then Some x else None)
    same true x = refl
    same false x = refl

pub offered-by : (net : Net) (w : Moving Token) (c : ℕ) (s : Source) (o : Option ℕ) → get net.sources c ≡ Some s → PutsFirst (puts_at w (Some s)) o → is_next o c ≡ is_there (offer_in net w c)
offered-by net w c s o e p = first-there (puts_at w (Some s)) o c p ∙ sym (ap (λ v. is_there (first_on c (puts_at w v))) e)

puts-next : (s : Standing Token) (d : ℕ) → PutsFirst s.puts (Some d) → next_of s ≡ process.Puts
puts-next s d p = ap (λ us. by_puts us (by_need s.barrier s.need s.got)) p.2

pub gets-so : (s : Standing Token) (ev : Event) (q : ℕ) → DoesNext s ev → gets_by ev q ≡ gets_at q (next_of s)
gets-so s (event.Put d) q p = sym (ap (λ n. gets_at q n) (puts-next s d p))
gets-so s (event.Get r) q p = sym (ap (λ n. gets_at q n) p)
gets-so s event.GetAny q p = sym (ap (λ n. gets_at q n) p)
gets-so s event.Join q p = sym (ap (λ n. gets_at q n) p)
gets-so s event.Fire q p = sym (ap (λ n. gets_at q n) p)
gets-so s event.Over q p = sym (ap (λ n. gets_at q n) p)

pub joins-so : (s : Standing Token) (ev : Event) → DoesNext s ev → joins_by ev ≡ is_joining (next_of s)
joins-so s (event.Put d) p = sym (ap is_joining (puts-next s d p))
joins-so s (event.Get r) p = sym (ap is_joining p)
joins-so s event.GetAny p = sym (ap is_joining p)
joins-so s event.Join p = sym (ap is_joining p)
joins-so s event.Fire p = sym (ap is_joining p)
joins-so s event.Over p = sym (ap is_joining p)
