use Rattle.std.proofs.Common.{ℕ, ◌≡◌, ◌+◌, ◌-◌, ◌∙◌, length, get_or, take, drop, None, refl, sym}
use Rattle.std.proofs.Common.{arith, ap}
use Rattle.std.proofs.lemmas.List.{get_or_read}
use Rattle.net_form.specs.declared.net.Strand.{Strand}
use Rattle.pra_base.specs.declared.ids.Place.TheVariants.{Eax}
use Rattle.net_form.specs.Admitted.{strand_at, no_strand}
use Rattle.net_form.specs.Index.{first_layer}
use Rattle.net_form.specs.InUse.{mark, lands_in, after}
use Rattle.net_form.proofs.Marking.{after-none, after-twice, mark-small}
use Rattle.net_form.proofs.PathUses.{uses, uses_step, uses_none}
use Rattle.net_form.proofs.marks.mark_path.Goals as goal

pub loop-rest-init : goal.loop-rest-init
loop-rest-init c =
    let net = c.args.net.now in
    let s = c.args.strand in
    let t = get_or_read net.strands s c.index.result.now c.requires.strand c.index.ensures
    no_strand in
    let first = ap (λ (u : Strand). u.first) t in
    let value = c.entry_layer.ensures.value in
    let base = first_layer net.blocks (strand_at net s).block.0 in
    let at : c.entry_layer.result + c.index.result.now.first - base ≡ (strand_at net s).first =
    omega (arith, first, value) in
    let same : (n r : ℕ) → uses net n r s (c.entry_layer.result + c.index.result.now.first - base)
    None c.args.path.now ≡ uses net n r s (strand_at net s).first None c.args.path.now =
    λ n r. ap (λ (k : ℕ). uses net n r s k None c.args.path.now) at in
    record {
      long = refl;
      begun = omega (arith, value);
      layer = omega (arith, value, first);
      bound = λ n r. let e = same n r in omega (arith, e);
      marks = λ n r.
          let e = same n r in
          sym (after-none c.args.used (mark c.args.regs.now n r) _ (mark-small c.args.regs.now n r)
          (let z : uses net n r s (strand_at net s).first None c.args.path.now - uses net n r s
          (c.entry_layer.result + c.index.result.now.first - base) None c.args.path.now ≡ 0 =
          omega (arith, e) in z));
    }

pub loop-rest-preserved : goal.loop-rest-preserved
loop-rest-preserved c =
    let net = c.args.net.now in
    let s = c.args.strand in
    let first = (strand_at net s).first in
    let base = first_layer net.blocks (strand_at net s).block.0 in
    let layer = c.loop-rest.layer in
    let rest = c.loop-rest.rest.now in
    let others = take (length rest - 1) (drop 1 rest) in
    let step : (n r : ℕ) → uses net n r s (layer - base) None rest ≡
    lands_in layer (get_or rest 0 Eax) n r + uses net n r s (layer + 1 - base) None others =
    λ n r. uses_step net n r s (layer - base) layer rest Eax c.in-len1-up.len_at_least
    (omega (arith, c.loop-rest.invariant.begun))
    ∙ ap (λ (k : ℕ). lands_in layer (get_or rest 0 Eax) n r + uses net n r s k None others)
    (let e : layer - base + 1 ≡ layer + 1 - base = omega (arith, c.loop-rest.invariant.begun) in e)
    in
    record {
      long = c.mark_place.ensures.long ∙ c.loop-rest.invariant.long;
      begun = omega (arith, c.loop-rest.invariant.begun);
      layer = omega arith;
      bound = λ n r. let now = step n r in let was = c.loop-rest.invariant.bound n r in
          omega (arith, now, was);
      marks = λ n r.
          let now = step n r in
          let was = c.loop-rest.invariant.bound n r in
          let m : ℕ = mark c.args.regs.now n r in
          let done : ℕ = uses net n r s first None c.args.path.now - uses net n r s (layer - base)
          None rest in
          let more : ℕ = lands_in layer (get_or rest 0 Eax) n r in
          let sum : done + more ≡ uses net n r s first None c.args.path.now - uses net n r s
          (layer + 1 - base) None others = omega (arith, now, was) in
          c.mark_place.ensures.marks n r
          ∙ ap (λ (k : ℕ). after c.args.used k more) (c.loop-rest.invariant.marks n r)
          ∙ after-twice c.args.used m done more
          ∙ ap (after c.args.used m) sum;
    }

pub returns-clause-marks : goal.returns-clause-marks
returns-clause-marks c = λ n r.
    let net = c.args.net.now in
    let s = c.args.strand in
    let base = first_layer net.blocks (strand_at net s).block.0 in
    let first = (strand_at net s).first in
    let none = uses_none net n r s (c.loop-rest.layer - base) c.loop-rest.rest.now
    c.in_default.len_below in
    c.loop-rest.invariant.marks n r
    ∙ ap (after c.args.used (mark c.args.regs.now n r))
    (let e : uses net n r s first None c.args.path.now - uses net n r s (c.loop-rest.layer - base)
    None c.loop-rest.rest.now ≡ uses net n r s first None c.args.path.now =
    omega (arith, none) in e)
