use Rattle.std.proofs.Common.{◌≡◌, ◌<◌, ◌≤◌, ◌+◌, ℕ, ℤ, length, get_or, ap, ◌∙◌}
use Rattle.std.proofs.Common.{sym, subst, arith, Option, IfSome}
use Rattle.std.proofs.lemmas.Int.{ints}
use Rattle.std.proofs.lemmas.List.{get_or_default}
use Rattle.net_cost.specs.Models.{weights_of}
use Rattle.net_form.specs.declared.taken.Taken.{Taken}
use Rattle.net_dual.specs.Paths.{path_in}
use Rattle.al_iter.specs.SettleSums.{IsDraft, MayGoTied, free_price}
use Rattle.al_iter.proofs.SettleDraft.{drafts_more, sum_more}
use Rattle.std.specs.Prelude.{is_some}
use Rattle.al_iter.proofs.SettleShut.{shut_pay, pay_partly}
use Rattle.al_iter.proofs.SettleSums.{pays_something}
use Rattle.al_iter.proofs.settle_place.draft_strands.Goals as goal

pub loop-at-preserved : goal.loop-at-preserved
loop-at-preserved g c =
    let net = c.args.net.now in
    let w = weights_of c.args.model.now in
    let strands = c.args.strands.now in
    let i = c.loop-at.at in
    let s = get_or strands i 0 in
    let lt : i < length strands = omega arith in
    let inv = c.loop-at.invariant in
    let now = c.draft_strand.ensures in
    let old = c.loop-at.spare.routes in
    let new = c.draft_strand.new.spare.routes in
    let cost : c.in_ok-cost.cost ≡ free_price net w s (path_in new s) =
    subst (λ (o : Option ℤ). IfSome o (λ z. z ≡ free_price net w s (path_in new s)))
    (c.in_ok-cost.was) now.cost in
    let draft = subst (λ (t : Taken). IsDraft net w t c.args.place new s) inv.taken
    (now.draft (ap (λ (o : Option ℤ). is_some o) (c.in_ok-cost.was))) in
    let sum = sum_more net w strands c.requires.strands old new i lt now.others in
    let some = pays_something net w s (path_in new s) in
    record {
      spare = now.spare;
      taken = now.taken ∙ inv.taken;
      drafts = drafts_more net w strands c.requires.strands old new i lt now.others
          c.args.spare.now.taken c.args.place inv.drafts draft;
      sum = omega (arith, ints, sum, cost, inv.sum, inv.least, inv.less, some, c.requires.most);
      least = omega (arith, ints, cost, inv.least, inv.less, some, c.requires.most);
      less = omega (
        arith,
        ints,
        cost,
        inv.least,
        inv.less,
        some,
        c.requires.most,
        c.if-total-price.false,
      );
      family = now.family ∙ inv.family;
      reserved = now.reserved;
    }

pub returns-in_err-cost-clause-none : goal.returns-in_err-cost-clause-none
returns-in_err-cost-clause-none g c = λ _.
    let net = c.args.net.now in
    let i = c.loop-at.at in
    let inv = c.loop-at.invariant in
    shut_pay net (weights_of c.args.model.now) c.args.spare.now.taken c.args.strands.now
    c.args.place c.args.price (omega (arith, ints, c.requires.least))
    (record {
      at = i;
      within = omega arith;
      none = λ ps may. c.draft_strand.ensures.none (c.in_err-cost.was) ps
          (subst (λ (t : Taken). MayGoTied net t c.args.place (get_or c.args.strands.now i 0) ps)
          (sym inv.taken) may);
    })

pub returns-then-total-price-clause-none : goal.returns-then-total-price-clause-none
returns-then-total-price-clause-none g c = λ _.
    let net = c.args.net.now in
    let w = weights_of c.args.model.now in
    let strands = c.args.strands.now in
    let i = c.loop-at.at in
    let s = get_or strands i 0 in
    let lt : i < length strands = omega arith in
    let inv = c.loop-at.invariant in
    let now = c.draft_strand.ensures in
    let old = c.loop-at.spare.routes in
    let new = c.draft_strand.new.spare.routes in
    let cost : c.in_ok-cost.cost ≡ free_price net w s (path_in new s) =
    subst (λ (o : Option ℤ). IfSome o (λ z. z ≡ free_price net w s (path_in new s)))
    (c.in_ok-cost.was) now.cost in
    let draft = subst (λ (t : Taken). IsDraft net w t c.args.place new s) inv.taken
    (now.draft (ap (λ (o : Option ℤ). is_some o) (c.in_ok-cost.was))) in
    let sum = sum_more net w strands c.requires.strands old new i lt now.others in
    let some = pays_something net w s (path_in new s) in
    pay_partly net w c.args.spare.now.taken strands c.args.place new (i + 1) c.args.price
    (omega (arith, lt))
    (drafts_more net w strands c.requires.strands old new i lt now.others
    c.args.spare.now.taken c.args.place inv.drafts draft)
    (omega (
      arith,
      ints,
      sum,
      cost,
      inv.sum,
      inv.least,
      inv.less,
      some,
      c.requires.most,
      c.if-total-price.true,
    ))

pub returns-clause-drafts : goal.returns-clause-drafts
returns-clause-drafts g c = λ _ k d lt.
    let inv = c.loop-at.invariant in
    let end : length c.args.strands.now ≤ c.loop-at.at = omega arith in
    subst (λ (s : ℕ). IsDraft c.args.net.now (weights_of c.args.model.now) c.args.spare.now.taken
    c.args.place c.loop-at.spare.routes s) (sym (get_or_default c.args.strands.now k d 0 lt))
    (inv.drafts k (omega (arith, lt, end)))
