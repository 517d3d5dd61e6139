use Rattle.std.proofs.Common.{ℕ, ◌≡◌, ◌∙◌, Option, eqb, get_or, sym, ap, arith}
use Rattle.std.proofs.lemmas.Option.{slice_get_past}
use Rattle.std.proofs.lemmas.Bool.{and_parts, eq-eqb, eqb-true, ne_eqb}
use Rattle.net_cost.specs.Models.{weights_of}
use Rattle.net_cost.specs.Weights.{weight_of}
use Rattle.pra_base.specs.Places.{number}
use Rattle.net_form.specs.declared.net.Extra.{Extra}
use Rattle.net_form.specs.Cost.{depth_at}
use Rattle.net_form.specs.Ordered.{extra_there}
use Rattle.net_form.proofs.ExtrasInOrder.{first_within, all_before, none_costs, one_costs, nowhere}
use Rattle.net_form.proofs.ExtrasInOrder.{earlier_not_there, still_none, found}
use Rattle.net_form.proofs.extras.extras_cost.Goals as goal

pub loop-next-init : goal.loop-next-init
loop-next-init g c = λ k d lt. nowhere c.args.strand c.args.layer c.args.place
    (get_or c.args.net.now.extras k d)
    (earlier_not_there c.args.strand c.args.layer (get_or c.args.net.now.extras k d)
    (all_before c.args.net.now c.requires.extras c.args.strand c.args.layer k d
    (omega (arith, lt, c.requires.at))))

pub returns-in_default-clause-value : goal.returns-in_default-clause-value
returns-in_default-clause-value g c =
    none_costs c.args.net.now c.requires.extras c.args.strand c.args.layer c.args.place
    (weights_of c.args.model.now) c.loop-next.next
    (omega (arith, c.requires.at)) c.loop-next.invariant (sym c.extra_at.ensures ∙ c.in_default.is)

pub returns-then-number-clause-value : goal.returns-then-number-clause-value
returns-then-number-clause-value g c =
    let net = c.args.net.now in
    let w = weights_of c.args.model.now in
    let x = c.in-Some.extra in
    let is = sym c.extra_at.ensures ∙ c.in-Some.is in
    let there = (found c.args.strand c.args.layer net.extras c.loop-next.next x is).2 in
    let same : x.strand ≡ c.args.strand = eqb-true x.strand c.args.strand
    (and_parts (eqb x.strand c.args.strand) (eqb x.layer c.args.layer) there).0 in
    let place : number x.place ≡ number c.args.place = sym c.number.ensures.value ∙ c.if-number.true
    ∙ c.number-in-loop-next.ensures.value in
    c.ask.ensures.value
    ∙ ap (λ (d : ℕ). weight_of w x.event d) c.depth.ensures.value
    ∙ ap (λ (n : ℕ). weight_of w x.event (depth_at net n)) (sym same)
    ∙ one_costs net c.requires.extras c.args.strand c.args.layer c.args.place w c.loop-next.next x
    is (eq-eqb (number x.place) (number c.args.place) place)

pub loop-next-preserved : goal.loop-next-preserved
loop-next-preserved g c =
    still_none c.args.net.now c.requires.extras c.args.strand c.args.layer c.args.place
    (weights_of c.args.model.now) c.loop-next.next c.in-Some.extra
    (sym c.extra_at.ensures ∙ c.in-Some.is)
    (ne_eqb (number c.in-Some.extra.place) (number c.args.place)
    (λ same. c.if-number.false
    (c.number.ensures.value ∙ same ∙ sym c.number-in-loop-next.ensures.value)))
    c.loop-next.invariant

pub returns-clause-value : goal.returns-clause-value
returns-clause-value g c =
    let within = first_within c.args.net.now c.requires.extras c.args.strand c.args.layer in
    none_costs c.args.net.now c.requires.extras c.args.strand c.args.layer c.args.place
    (weights_of c.args.model.now) c.len-next-end.result
    (omega (arith, within, c.requires.at))
    (λ k d lt. c.loop-next.invariant k d (omega (arith, lt, within, c.requires.at)))
    (ap (λ (o : Option Extra). extra_there c.args.strand c.args.layer o)
    (slice_get_past c.args.net.now.extras c.len-next-end.result (omega arith)))
