use Rattle.std.proofs.Common.{◌≡◌, ◌++◌, ◌∷◌, [], ◌-◌, ◌+◌, length, map, Option, Some, None, option_map, sym, ◌∙◌, ap, rules, arith}
use Rattle.std.proofs.lemmas.List.{map-append}
use Rattle.std.proofs.lemmas.Result.{err_from_is_err_and}
use Rattle.pt_language.specs.Expr.{tree_of, entry_of}
use Rattle.pt_language.specs.Descent.{expression, operand_at, second, suffix, next_operand, next_suffix, listed, named}
use Rattle.pt_language.proofs.Turns.{turn_more, with_front, list_more, list_ends, list_fault, close_fault, reading_none, reading_more, unary_minus}
use Rattle.pt_expr_text.proofs.Steps.{fails-map, called-is, pair, last-is, other-is, branches-is, second-is}
use Rattle.pt_expr_text.proofs.descent.+expressions.Goals as goal

pub expression-returns-then-depth-eq0 : goal.expression-returns-then-depth-eq0
expression-returns-then-depth-eq0 t c = reading_none c.args.depth c.args.words.now (omega arith)

pub expression-returns : goal.expression-returns
expression-returns t c = rw (reading_more c.args.depth c.args.words.now (omega arith)) c.choice.ensures

pub unary-returns-in-Some : goal.unary-returns-in-Some
unary-returns-in-Some t c = rw (unary_minus (expression c.args.depth) c.args.words.now c.in-Some.rest.now (sym c.in-Some.ensures)) c.minus.ensures

pub joined-joins-preserved : goal.joined-joins-preserved
joined-joins-preserved t c =
    let operand = operand_at c.args.level (expression c.args.depth) in
    let e = ap (option_map (λ o. second operand o.0 (tree_of c.joins.left) o.1)) (sym c.in-Some.ensures) in
    sym (turn_more (next_operand c.args.level operand) (length c.args.words.now) c.joins._turn (tree_of c.joins.left) (tree_of c.in_ok-left.field-0-0) c.joins.rest.now c.in_ok-left.field-0-1.now _ c.joins-test.true e c.in_ok-left.ensures) ∙ c.joins.invariant

pub suffixes-follows-preserved : goal.suffixes-follows-preserved
suffixes-follows-preserved t c =
    let again = expression c.args.depth in
    let e = ap (option_map (λ v. suffix again (tree_of c.follows.base) v)) (sym c.in-Some.ensures) in
    sym (turn_more (next_suffix again) (length c.args.words.now) c.follows._turn (tree_of c.follows.base) (tree_of c.in_ok-base.field-0-0) c.follows.rest.now c.in_ok-base.field-0-1.now _ c.follows-test.true e c.in_ok-base.ensures) ∙ c.follows.invariant

pub braces::parts-returns-in_err-part : goal.braces::parts-returns-in_err-part
braces::parts-returns-in_err-part t c =
    let p = err_from_is_err_and c.from_residual.result c.from_residual.ensures.1 in
    rw (p.1, p.2) (list_fault (expression c.args.depth) (length c.args.words.now) c.lists._turn c.lists.rest.now (map tree_of c.lists.parts.items) _ _ c.lists-test.true c.in_err-part.ensures c.lists.invariant)

pub braces::parts-returns-in_err-expect-in-None : goal.braces::parts-returns-in_err-expect-in-None
braces::parts-returns-in_err-expect-in-None t c =
    let p = err_from_is_err_and c.from_residual-in_err-expect-in-None.result c.from_residual-in_err-expect-in-None.ensures.1 in
    rw (p.1, p.2) (close_fault (expression c.args.depth) (length c.args.words.now) c.lists._turn c.lists.rest.now (map tree_of c.lists.parts.items) _ _ _ _ c.lists-test.true c.in_ok-part.ensures (sym c.in-None.ensures) c.in_err-expect-in-None.ensures c.lists.invariant)

pub braces::parts-returns-in-None : goal.braces::parts-returns-in-None
braces::parts-returns-in-None t c =
    let b : c.push.new.self.items ≡ c.lists.parts.items ++ c.in_ok-part.part ∷ [] = search rules in
    let m = ap (map tree_of) b ∙ map-append tree_of c.lists.parts.items (c.in_ok-part.part ∷ []) in
    sym c.lists.invariant
    ∙ list_ends (expression c.args.depth) (length c.args.words.now) c.lists._turn c.lists.rest.now (map tree_of c.lists.parts.items) (tree_of c.in_ok-part.part) c.in_ok-part.behind.now c.in_ok-expect-in-None.field-0.now c.lists-test.true c.in_ok-part.ensures (sym c.in-None.ensures) c.in_ok-expect-in-None.ensures
    ∙ ap (λ xs. Some (xs, c.in_ok-expect-in-None.field-0.now)) (sym m)

pub braces::parts-lists-preserved : goal.braces::parts-lists-preserved
braces::parts-lists-preserved t c =
    let b : c.push.new.self.items ≡ c.lists.parts.items ++ c.in_ok-part.part ∷ [] = search rules in
    let m = ap (map tree_of) b ∙ map-append tree_of c.lists.parts.items (c.in_ok-part.part ∷ []) in
    ap (λ xs. with_front xs (listed (expression c.args.depth) (length c.args.words.now - (c.lists._turn + 1)) c.in-Some.more.now)) m
    ∙ sym (list_more (expression c.args.depth) (length c.args.words.now) c.lists._turn c.lists.rest.now (map tree_of c.lists.parts.items) (tree_of c.in_ok-part.part) c.in_ok-part.behind.now c.in-Some.more.now c.lists-test.true c.in_ok-part.ensures (sym c.in-Some.ensures))
    ∙ c.lists.invariant

pub braces::fields-returns-in_err-field : goal.braces::fields-returns-in_err-field
braces::fields-returns-in_err-field t c =
    let p = err_from_is_err_and c.from_residual.result c.from_residual.ensures.1 in
    rw (p.1, p.2) (list_fault (named (expression c.args.depth)) (length c.args.words.now) c.names._turn c.names.rest.now (map entry_of c.names.fields.items) _ _ c.names-test.true c.in_err-field.ensures c.names.invariant)

pub braces::fields-returns-in_err-expect-in-None : goal.braces::fields-returns-in_err-expect-in-None
braces::fields-returns-in_err-expect-in-None t c =
    let p = err_from_is_err_and c.from_residual-in_err-expect-in-None.result c.from_residual-in_err-expect-in-None.ensures.1 in
    rw (p.1, p.2) (close_fault (named (expression c.args.depth)) (length c.args.words.now) c.names._turn c.names.rest.now (map entry_of c.names.fields.items) _ _ _ _ c.names-test.true c.in_ok-field.ensures (sym c.in-None.ensures) c.in_err-expect-in-None.ensures c.names.invariant)

pub braces::fields-returns-in-None : goal.braces::fields-returns-in-None
braces::fields-returns-in-None t c =
    let b : c.push.new.self.items ≡ c.names.fields.items ++ c.in_ok-field.field ∷ [] = search rules in
    let m = ap (map entry_of) b ∙ map-append entry_of c.names.fields.items (c.in_ok-field.field ∷ []) in
    sym c.names.invariant
    ∙ list_ends (named (expression c.args.depth)) (length c.args.words.now) c.names._turn c.names.rest.now (map entry_of c.names.fields.items) (entry_of c.in_ok-field.field) c.in_ok-field.behind.now c.in_ok-expect-in-None.field-0.now c.names-test.true c.in_ok-field.ensures (sym c.in-None.ensures) c.in_ok-expect-in-None.ensures
    ∙ ap (λ xs. Some (xs, c.in_ok-expect-in-None.field-0.now)) (sym m)

pub braces::fields-names-preserved : goal.braces::fields-names-preserved
braces::fields-names-preserved t c =
    let b : c.push.new.self.items ≡ c.names.fields.items ++ c.in_ok-field.field ∷ [] = search rules in
    let m = ap (map entry_of) b ∙ map-append entry_of c.names.fields.items (c.in_ok-field.field ∷ []) in
    ap (λ xs. with_front xs (listed (named (expression c.args.depth)) (length c.args.words.now - (c.names._turn + 1)) c.in-Some.more.now)) m
    ∙ sym (list_more (named (expression c.args.depth)) (length c.args.words.now) c.names._turn c.names.rest.now (map entry_of c.names.fields.items) (entry_of c.in_ok-field.field) c.in_ok-field.behind.now c.in-Some.more.now c.names-test.true c.in_ok-field.ensures (sym c.in-Some.ensures))
    ∙ c.names.invariant

-- ---- what goes on with what another step gave

pub called-returns-in-Ok : goal.called-returns-in-Ok
called-returns-in-Ok t c = rw (called-is (expression c.args.depth) (tree_of c.args.base) c.args.words.now, c.in-Ok.ensures) c.applied.ensures

pub called-returns-in-Err : goal.called-returns-in-Err
called-returns-in-Err t c = rw (called-is (expression c.args.depth) (tree_of c.args.base) c.args.words.now) (fails-map _ c.in-Err.fault _ c.in-Err.ensures)

pub two_operands-returns-in-Ok : goal.two_operands-returns-in-Ok
two_operands-returns-in-Ok t c =
    rw (c.in_ok-rest.ensures, c.in_ok-a.ensures, last-is (expression c.args.depth) (tree_of c.in_ok-a.a) c.in_ok-a.rest.now, c.in-Ok.ensures)

pub two_operands-returns-in-Err : goal.two_operands-returns-in-Err
two_operands-returns-in-Err t c =
    rw (c.in_ok-rest.ensures, c.in_ok-a.ensures, last-is (expression c.args.depth) (tree_of c.in_ok-a.a) c.in_ok-a.rest.now) (fails-map _ c.in-Err.fault _ c.in-Err.ensures)

pub branches-returns-in-Ok : goal.branches-returns-in-Ok
branches-returns-in-Ok t c =
    rw (c.in_ok-yes.ensures, other-is (expression c.args.depth) (pair (expression c.args.depth) (tree_of c.in_ok-yes.yes)) c.in_ok-yes.rest.now, c.in-Ok.ensures)

pub branches-returns-in-Err : goal.branches-returns-in-Err
branches-returns-in-Err t c =
    rw (c.in_ok-yes.ensures, other-is (expression c.args.depth) (pair (expression c.args.depth) (tree_of c.in_ok-yes.yes)) c.in_ok-yes.rest.now) (fails-map _ c.in-Err.fault _ c.in-Err.ensures)

pub choice-returns-in-Ok : goal.choice-returns-in-Ok
choice-returns-in-Ok t c =
    rw (c.in_ok-test.ensures, ← c.in-Some.ensures, branches-is (expression c.args.depth) (tree_of c.in_ok-test.test) c.in-Some.behind.now, c.in-Ok.ensures) c.chosen_by.ensures

pub choice-returns-in-Err : goal.choice-returns-in-Err
choice-returns-in-Err t c =
    rw (c.in_ok-test.ensures, ← c.in-Some.ensures, branches-is (expression c.args.depth) (tree_of c.in_ok-test.test) c.in-Some.behind.now) (fails-map _ c.in-Err.fault _ c.in-Err.ensures)

pub second-returns-in-Ok : goal.second-returns-in-Ok
second-returns-in-Ok t c = rw (second-is (operand_at c.args.level (expression c.args.depth)) c.args.op (tree_of c.args.left) c.args.words.now, c.in-Ok.ensures) c.joined_by.ensures

pub second-returns-in-Err : goal.second-returns-in-Err
second-returns-in-Err t c = rw (second-is (operand_at c.args.level (expression c.args.depth)) c.args.op (tree_of c.args.left) c.args.words.now) (fails-map _ c.in-Err.fault _ c.in-Err.ensures)
