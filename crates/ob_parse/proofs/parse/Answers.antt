use Rattle.std.proofs.Common.{◌≡◌, ◌∙◌, sym, subst, refl, None, [], ◌∷◌, List}
use Rattle.std.proofs.lemmas.Result.{err_from_is_err_and}
use Rattle.ob_syntax.specs.declared.token.Kind.{Kind}
use Rattle.ob_syntax.specs.Grammar.{Module}
use Rattle.ob_syntax.specs.ChosenRule.{first}
use Rattle.ob_parse.specs.declared.cursor.ParseFault.TheVariants.{Grammar, TooDeep}
use Rattle.ob_parse.specs.Reading.{Fails, left}
use Rattle.ob_syntax.specs.Whole.{kinds}
use Rattle.ob_parse.proofs.RefusalPlace.{found_tree, refused_only, refused_place, deep_place}
use Rattle.ob_parse.proofs.RefusalPlace.{behind_only, behind_place}
use Rattle.ob_parse.proofs.parse.Goals as goal

no_token : (ks : List Kind) → first ks ≡ None → ks ≡ []
no_token [] e = refl
no_token (k ∷ ks) e = cc

pub returns-in_err-tree-clause-only : goal.returns-in_err-tree-clause-only
returns-in_err-tree-clause-only c =
    let p = err_from_is_err_and c.from_residual.result c.from_residual.ensures.1 in
    rw (p.1, p.2) (refused_only 64 (kinds c.args.tokens.now) c.new-p.result c.whole_module.new.p
    c.new-p.ensures.left c.new-p.ensures.place c.in_err-tree.field-0.0 c.in_err-tree.ensures)

pub returns-in_err-tree-clause-grammar : goal.returns-in_err-tree-clause-grammar
returns-in_err-tree-clause-grammar c k is =
    let p = err_from_is_err_and c.from_residual.result c.from_residual.ensures.1 in
    let q = p.1 in let r = p.2 in
    let e : c.in_err-tree.field-0.0 ≡ Grammar k = cc in
    let at = refused_place 64 (kinds c.args.tokens.now) c.new-p.result c.whole_module.new.p
    c.new-p.ensures.left c.new-p.ensures.place k
    (subst (Fails Module 64 c.new-p.result c.whole_module.new.p) e c.in_err-tree.ensures) in
    record { place = at.0; none = at.1 }

pub returns-in_err-tree-clause-deep : goal.returns-in_err-tree-clause-deep
returns-in_err-tree-clause-deep c k is =
    let p = err_from_is_err_and c.from_residual.result c.from_residual.ensures.1 in
    let q = p.1 in let r = p.2 in
    let e : c.in_err-tree.field-0.0 ≡ TooDeep k = cc in
    let at = deep_place 64 (kinds c.args.tokens.now) c.new-p.result c.whole_module.new.p
    c.new-p.ensures.left c.new-p.ensures.place k
    (subst (Fails Module 64 c.new-p.result c.whole_module.new.p) e c.in_err-tree.ensures) in
    record { place = at.0; within = at.1; deeper = at.2 }

pub returns-in-None-clause-found : goal.returns-in-None-clause-found
returns-in-None-clause-found c =
    found_tree 64 (kinds c.args.tokens.now) c.new-p.result c.whole_module.new.p c.new-p.ensures.left
    c.new-p.ensures.place c.in_ok-tree.tree c.in_ok-tree.ensures
    (no_token (left c.whole_module.new.p) (sym c.peek.ensures ∙ c.in-None.is))

pub returns-in-Some-clause-only : goal.returns-in-Some-clause-only
returns-in-Some-clause-only c not_memory =
    behind_only 64 (kinds c.args.tokens.now) c.new-p.result c.whole_module.new.p
    c.new-p.ensures.left c.new-p.ensures.place c.in_ok-tree.tree c.in-Some.field-0
    c.in_ok-tree.ensures (sym c.peek.ensures ∙ c.in-Some.is)

pub returns-in-Some-clause-grammar : goal.returns-in-Some-clause-grammar
returns-in-Some-clause-grammar c k is =
    let e : c.whole_module.new.p.at ≡ k = cc in
    let at = behind_place 64 (kinds c.args.tokens.now) c.new-p.result c.whole_module.new.p
    c.new-p.ensures.left c.new-p.ensures.place c.in_ok-tree.tree c.in-Some.field-0
    c.in_ok-tree.ensures (sym c.peek.ensures ∙ c.in-Some.is) in
    rw (← e) (record { place = at.0; none = at.1 })
