use Rattle.std.proofs.Common.{◌≡◌, [], ◌∷◌, length, ap, arith}
use Rattle.std.proofs.lemmas.Bool.Decides.{Decides-eqb}
use Rattle.std.proofs.lemmas.Slice.Eq.{strip_prefix_is}
use Rattle.std.proofs.lemmas.List.{nil_from_length}
use Rattle.ob_lex.proofs.OpenComments.{opens, closes, passes, all_closed, never_closed}
use Rattle.ob_lex.proofs.OpenComments.{first_and_rest}
use Rattle.ob_lex.proofs.piece.behind_comment.Goals as goal

pub loop-depth-preserved-in-Some : goal.loop-depth-preserved-in-Some
loop-depth-preserved-in-Some c =
    let text = c.loop-depth.rest.now in
    let e : text ≡ 40 ∷ (42 ∷ c.in-Some.after.now) =
    rw (c.in-Some.is) at (strip_prefix_is Decides-eqb text (40 ∷ (42 ∷ []))
    c.strip_prefix.result c.strip_prefix.ensures.cases) in
    record {
      deep = omega (arith, ap length e, c.loop-depth.invariant.deep);
      leads = opens c.loop-depth-test.true c.loop-depth.invariant.leads e;
    }

pub loop-depth-preserved-in-Some-strip_prefix : goal.loop-depth-preserved-in-Some-strip_prefix
loop-depth-preserved-in-Some-strip_prefix c =
    let text = c.loop-depth.rest.now in
    let after = c.in-Some-strip_prefix.after.now in
    let e : text ≡ 42 ∷ (41 ∷ after) = rw (c.in-Some-strip_prefix.is) at
    (strip_prefix_is Decides-eqb text (42 ∷ (41 ∷ [])) c.strip_prefix-in_default.result
    c.strip_prefix-in_default.ensures.cases) in
    record {
      deep = omega (arith, ap length e, c.loop-depth.invariant.deep);
      leads = closes c.loop-depth-test.true c.loop-depth.invariant.leads e;
    }

pub returns-in_default-rest : goal.returns-in_default-rest
returns-in_default-rest c =
    let text = c.loop-depth.rest.now in
    never_closed c.loop-depth-test.true
    (nil_from_length text (omega (arith, c.in_default-rest.len_below)))
    c.loop-depth.invariant.leads

pub loop-depth-preserved : goal.loop-depth-preserved
loop-depth-preserved c =
    let text = c.loop-depth.rest.now in
    let e = first_and_rest text c.in-len1-up.len_at_least in
    record {
      deep = omega (arith, ap length e, c.loop-depth.invariant.deep);
      leads = passes c.loop-depth-test.true c.loop-depth.invariant.leads e
          (rw (c.in_default.is) at
          (strip_prefix_is Decides-eqb text (40 ∷ (42 ∷ [])) c.strip_prefix.result
          c.strip_prefix.ensures.cases))
          (rw (c.in_default-strip_prefix.is) at
          (strip_prefix_is Decides-eqb text (42 ∷ (41 ∷ [])) c.strip_prefix-in_default.result
          c.strip_prefix-in_default.ensures.cases));
    }

pub returns : goal.returns
returns c = all_closed (omega arith) c.loop-depth.invariant.leads
