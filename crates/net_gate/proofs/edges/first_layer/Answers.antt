use Rattle.std.proofs.Common.{ℕ, ◌<◌, ◌∙◌, sym, subst, arith}
use Rattle.pra_base.specs.declared.ids.Place.TheVariants.{Eax}
use Rattle.net_form.specs.Admitted.{no_strand}
use Rattle.net_gate.proofs.Paths.{last_below}
use Rattle.net_gate.proofs.EdgeRules.{kept_rest, broken_rest, nothing_left}
use Rattle.net_gate.proofs.edges.first_layer.Goals as goal

pub keeps_rule-requires-clause-last : goal.keeps_rule-requires-clause-last
keeps_rule-requires-clause-last c =
    let t = c.requires.net.strands c.args.strand no_strand c.requires.strand in
    let masks = t.masks in
    omega (arith, masks)

pub overflow_add-layer : goal.overflow_add-layer
overflow_add-layer c =
    let few = last_below c.args.net.now c.args.strand c.requires.net c.requires.strand in
    omega (arith, few)

pub returns-then-not-keeps_rule : goal.returns-then-not-keeps_rule
returns-then-not-keeps_rule c =
    let b = broken_rest c.args.net.now c.args.rule c.args.strand c.loop-rest.layer c.loop-rest.from
    c.loop-rest.rest.now Eax c.in-len1-up.len_at_least
    (sym c.keeps_rule.ensures ∙ c.if-not-keeps_rule.true) in (
      subst (λ (n : ℕ). 0 < n) (c.loop-rest.invariant.same c.loop-rest.layer) b.0,
      λ k lt. sym (c.loop-rest.invariant.same k) ∙ b.1 k lt,
    )

pub loop-rest-preserved : goal.loop-rest-preserved
loop-rest-preserved c = record {
  same = λ k. kept_rest c.args.net.now c.args.rule c.args.strand c.loop-rest.layer c.loop-rest.from
      c.loop-rest.rest.now Eax c.in-len1-up.len_at_least
      (sym c.keeps_rule.ensures ∙ c.if-not-keeps_rule.false) k
      ∙ c.loop-rest.invariant.same k;
  first = omega arith;
  layer = omega arith;
}

pub returns : goal.returns
returns c = λ k. sym (c.loop-rest.invariant.same k) ∙ nothing_left c.args.net.now c.args.rule
    c.args.strand c.loop-rest.layer c.loop-rest.from c.loop-rest.rest.now k c.in_default.len_below
