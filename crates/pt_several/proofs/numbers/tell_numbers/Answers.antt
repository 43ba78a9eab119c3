use Rattle.std.proofs.Common.{◌≡◌, [], ◌∷◌, map, ap, ◌∙◌, sym}
use Rattle.pt_meaning.specs.NodeFacts.{need_of, next_of}
use Rattle.pt_value.specs.declared.token.Token.TheVariants.{Int}
use Rattle.pt_library.specs.LibraryActor.{rows}
use Rattle.pt_directors.specs.Directors.{director_calls}
use Rattle.pt_node.specs.Firing.{noted, recorded}
use Rattle.pt_node.specs.Shown.{shown_node}
use Rattle.pt_node.specs.View.{node_of, outline_of}
use Rattle.pt_node.specs.Told.{IsTold}
use Rattle.pt_node.proofs.OutlineLaws.{outline_bare, outline_recorded}
use Rattle.pt_turns.proofs.Acting.{acts-law}
use Rattle.pt_turns.proofs.Answering.{if-ok}
use Rattle.pt_turns.proofs.Loop.{on-ok, on-err}
use Rattle.pt_turns.proofs.Recording.{fit-bare}
use Rattle.pt_turns.proofs.Turning.{may-ask-if-told, maximum-if-told, accepted-if-told, refused-if-told, tell-refused, refused-spends}
use Rattle.pt_several.proofs.numbers.tell_numbers.Goals as goal
use Rattle.pt_several.proofs.numbers.tell_numbers.Goals.{then-child-via-then-child, then-child-via-else-child+then-is_err}

pub told_numbers-requires-clause-fit : goal.told_numbers-requires-clause-fit
told_numbers-requires-clause-fit c = (fit-bare (shown_node c.note_numbers.new.self) (shown_node c.args.child.now) c.note_numbers.ensures.kept c.requires.fit).0

pub is_wrong-requires : goal.is_wrong-requires
is_wrong-requires c =
    let told = on-ok c.told_numbers.result (IsTold director_calls c.args.director.now (shown_node c.note_numbers.new.self) c.args.number (map Int c.args.given.now ∷ []) c.told_numbers.new.director) (sym c.is_err-2.ensures.value ∙ c.if-is_err-2.false) c.told_numbers.ensures.told in
    may-ask-if-told director_calls acts-law.agree c.args.director.now c.told_numbers.new.director (shown_node c.note_numbers.new.self) c.args.number (map Int c.args.given.now ∷ []) c.requires.asked told

pub returns-then-child-clause-outline : goal.returns-then-child-clause-outline
returns-then-child-clause-outline c =
    elim c.then-child.branch [
      | then-child-via-then-child w ↦ ap (λ n. outline_of (shown_node n)) w.child-is
      | then-child-via-else-child+then-is_err w ↦ ap (λ n. outline_of (shown_node n)) w.child-is ∙ outline_bare (shown_node w.note_numbers.new.self) (shown_node c.args.child.now) w.note_numbers.ensures.kept
    ]

pub returns-then-is_err-2-clause-outline : goal.returns-then-is_err-2-clause-outline
returns-then-is_err-2-clause-outline c = outline_bare (shown_node c.note_numbers.new.self) (shown_node c.args.child.now) c.note_numbers.ensures.kept

pub returns-then-is_wrong-clause-goes : goal.returns-then-is_wrong-clause-goes
returns-then-is_wrong-clause-goes c =
    let told = on-ok c.told_numbers.result (IsTold director_calls c.args.director.now (shown_node c.note_numbers.new.self) c.args.number (map Int c.args.given.now ∷ []) c.told_numbers.new.director) (sym c.is_err-2.ensures.value ∙ c.if-is_err-2.false) c.told_numbers.ensures.told in
    tell-refused director_calls c.args.director.now c.told_numbers.new.director (shown_node c.args.child.now) (shown_node c.note_numbers.new.self) c.args.number c.args.tag (map Int c.args.given.now ∷ []) c.refusal-refusal.result c.refuse.result
    (refused-if-told director_calls acts-law.agree c.args.director.now c.told_numbers.new.director (shown_node c.note_numbers.new.self) c.args.number (map Int c.args.given.now ∷ []) c.requires.asked told c.is_wrong.result c.is_wrong.ensures c.if-is_wrong.true) c.refusal-refusal.ensures c.note_numbers.ensures.kept c.refuse.ensures

pub returns-then-is_wrong-clause-spends : goal.returns-then-is_wrong-clause-spends
returns-then-is_wrong-clause-spends c = refused-spends (shown_node c.note_numbers.new.self) c.refusal-refusal.result c.refuse.result c.args.left.now c.args.left.now c.refuse.ensures

pub returns-then-is_wrong-clause-outline : goal.returns-then-is_wrong-clause-outline
returns-then-is_wrong-clause-outline c = outline_bare (shown_node c.note_numbers.new.self) (shown_node c.args.child.now) c.note_numbers.ensures.kept

pub returns-clause-goes : goal.returns-clause-goes
returns-clause-goes c =
    let told = on-ok c.told_numbers.result (IsTold director_calls c.args.director.now (shown_node c.note_numbers.new.self) c.args.number (map Int c.args.given.now ∷ []) c.told_numbers.new.director) (sym c.is_err-2.ensures.value ∙ c.if-is_err-2.false) c.told_numbers.ensures.told in (
      accepted-if-told director_calls acts-law.agree c.args.director.now c.told_numbers.new.director (shown_node c.note_numbers.new.self) c.args.number (map Int c.args.given.now ∷ []) c.requires.asked told c.is_wrong.result c.is_wrong.ensures c.if-is_wrong.false,
      told c.args.tag ∙ ap (λ v. director_calls.told c.args.number (map Int c.args.given.now ∷ []) (next_of rows (node_of v)) (need_of rows (node_of v)) c.args.director.now) (sym c.record.ensures),
      c.record.ensures ∙ ap (λ s. recorded c.args.tag s) (if-ok c.note_numbers.result (shown_node c.note_numbers.new.self ≡ noted c.args.tag (map Int c.args.given.now ∷ []) (shown_node c.args.child.now)) (sym c.is_err.ensures.value ∙ c.if-is_err.false) c.note_numbers.ensures.noted),
    )

pub returns-clause-outline : goal.returns-clause-outline
returns-clause-outline c = ap (λ s. outline_of s) c.record.ensures ∙ outline_recorded c.args.tag (shown_node c.note_numbers.new.self) ∙ outline_bare (shown_node c.note_numbers.new.self) (shown_node c.args.child.now) c.note_numbers.ensures.kept

pub returns-then-is_err-2-clause-maximum : goal.returns-then-is_err-2-clause-maximum
returns-then-is_err-2-clause-maximum c = ap (λ v. director_calls.maximum v) (on-err c.told_numbers.result (c.told_numbers.new.director ≡ c.args.director.now) (sym c.is_err-2.ensures.value ∙ c.if-is_err-2.true) c.told_numbers.ensures.kept)

pub returns-then-is_wrong-clause-maximum : goal.returns-then-is_wrong-clause-maximum
returns-then-is_wrong-clause-maximum c = maximum-if-told director_calls acts-law.agree c.args.director.now c.told_numbers.new.director (shown_node c.note_numbers.new.self) c.args.number (map Int c.args.given.now ∷ []) c.requires.asked (on-ok c.told_numbers.result (IsTold director_calls c.args.director.now (shown_node c.note_numbers.new.self) c.args.number (map Int c.args.given.now ∷ []) c.told_numbers.new.director) (sym c.is_err-2.ensures.value ∙ c.if-is_err-2.false) c.told_numbers.ensures.told)

pub returns-clause-maximum : goal.returns-clause-maximum
returns-clause-maximum c = maximum-if-told director_calls acts-law.agree c.args.director.now c.told_numbers.new.director (shown_node c.note_numbers.new.self) c.args.number (map Int c.args.given.now ∷ []) c.requires.asked (on-ok c.told_numbers.result (IsTold director_calls c.args.director.now (shown_node c.note_numbers.new.self) c.args.number (map Int c.args.given.now ∷ []) c.told_numbers.new.director) (sym c.is_err-2.ensures.value ∙ c.if-is_err-2.false) c.told_numbers.ensures.told)
