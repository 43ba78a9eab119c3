-- What comes next, without a move before it, and after the gets and puts of a network.
use Rattle.std.proofs.Common.{◌≡◌, List, [], ◌∷◌, refl, sym, ap, subst}
use Rattle.pt_firing.specs.declared.ask.Ask.{Ask}
use Rattle.pt_core.specs.Acts.{Calls}
use Rattle.pt_pn_laws.specs.PnActs as pn
use Rattle.pt_pn_laws.specs.PnActs.{pn_calls}
use Rattle.pt_directors.specs.Directors.{director_calls, of_pn}
use Rattle.pt_pn.specs.Moves.{MovesBy, ComesOn}

-- without a move before it
pub at-once : {D : Type 0} (c : Calls D) (s t : D) (answer : Ask) → c.Gives s answer → t ≡ c.asking answer s → ComesOn c s answer t
at-once c s t answer g e = record { mid = s; moved = record { moves = []; made = refl }; gives = g; state = e }

-- those of a network are those of its director
asked-as-pn : (answer : Ask) (s : pn.State) → director_calls.asking answer (of_pn s) ≡ of_pn (pn_calls.asking answer s)
asked-as-pn answer s = refl

pn-moved-by : (moves : List Ask) (s t : pn.State) → MovesBy pn_calls moves s t → MovesBy director_calls moves (of_pn s) (of_pn t)
pn-moved-by [] s t e = ap of_pn e
pn-moved-by (next ∷ more) s t m = (m.0, m.1, subst (λ v. MovesBy director_calls more v (of_pn t)) (sym (asked-as-pn next s)) (pn-moved-by more (pn_calls.asking next s) t m.2))

pub pn-comes : (s t : pn.State) (answer : Ask) → ComesOn pn_calls s answer t → ComesOn director_calls (of_pn s) answer (of_pn t)
pn-comes s t answer c = record {
  mid = of_pn c.mid;
  moved = record { moves = c.moved.moves; made = pn-moved-by c.moved.moves s c.mid c.moved.made };
  gives = c.gives;
  state = ap of_pn c.state;
}
