use Rattle.std.proofs.Common.{◌≡◌, ℕ, suc, None, ap, subst, arith}
use Rattle.std.proofs.lemmas.List.{get_or_read}
use Rattle.net_cost.specs.Models.{weights_of}
use Rattle.net_form.specs.declared.net.Strand.{Strand}
use Rattle.net_form.specs.Admitted.{strand_at, no_strand}
use Rattle.net_plain.specs.Rests.{IsRest}
use Rattle.net_plain.proofs.Filled.{rests_at_end}
use Rattle.net_plain.proofs.least.cost_of_least.Goals as goal

pub loop-layer-init : goal.loop-layer-init
loop-layer-init g c =
    let net = c.args.net.now in
    let s = c.args.strand in
    let one = c.index.result.now in
    let other = c.index-2.result.now in
    let first : one.first ≡ (strand_at net s).first = ap (λ (t : Strand). t.first)
    (get_or_read net.strands s one c.requires.strand c.index.ensures no_strand) in
    let last : other.last ≡ (strand_at net s).last = ap (λ (t : Strand). t.last)
    (get_or_read net.strands s other c.requires.strand c.index-2.ensures no_strand) in
    let order = (c.requires.net.formed.strands s no_strand c.requires.strand).order in
    record {
      is_first = first;
      after = omega arith;
      before = omega arith;
      rests = rests_at_end net c.requires.net c.args.prices.now c.requires.prices
          (weights_of c.args.model.now) c.requires.kept.valid c.args.ends c.args.taken.now s
          c.requires.strand (suc other.last) (ap suc last);
    }

pub returns : goal.returns
returns g c =
    let net = c.args.net.now in
    let s = c.args.strand in
    let begins : c.loop-layer.layer ≡ (strand_at net s).first = omega arith in
    subst (λ (l : ℕ). IsRest net (weights_of c.args.model.now) c.args.prices.now c.args.ends
    c.args.taken.now s l None c.least_at.result) begins c.least_at.ensures
