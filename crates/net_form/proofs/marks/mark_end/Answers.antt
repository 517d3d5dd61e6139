use Rattle.std.proofs.Common.{◌≡◌, ◌-◌, ◌<◌, ◌∙◌, Bool, true, false, refl, eqb, ◌&&◌, List, length}
use Rattle.std.proofs.Common.{sym, ap, arith}
use Rattle.std.proofs.lemmas.Bool.{and_right}
use Rattle.std.proofs.lemmas.List.{get_or_default}
use Rattle.pra_list.proofs.Counts.{bit}
use Rattle.pra_base.specs.declared.ids.Place.{Place}
use Rattle.pra_base.specs.declared.ids.Place.TheVariants.{Mem}
use Rattle.pra_base.specs.Places.{number, is_mem}
use Rattle.net_form.specs.InUse.{pair_mark, after, in_memory}
use Rattle.net_form.proofs.Marking.{after-none, pair_mark-small, pair_marked}
use Rattle.net_form.proofs.marks.mark_end.Goals as goal

pub returns-then-not-is_mem-clause-marks : goal.returns-then-not-is_mem-clause-marks
returns-then-not-is_mem-clause-marks c = λ k.
    let e = c.args.end in
    let lt : e.layer - c.args.first < length c.args.path.now =
    omega (arith, c.requires.before, c.requires.after) in
    let none = sym (c.is_mem.ensures ∙ ap (λ (p : Place). is_mem (number p))
    (get_or_default c.args.path.now (e.layer - c.args.first) _ Mem lt))
    ∙ c.if-not-is_mem.true in
    sym (after-none c.args.used (pair_mark c.args.mems.now k) _ (pair_mark-small c.args.mems.now k)
    (ap bit (and_right (eqb e.pair k) (in_memory c.args.path.now c.args.first e.layer) none)))

pub returns-clause-marks : goal.returns-clause-marks
returns-clause-marks c = λ k.
    let e = c.args.end in
    let lt : e.layer - c.args.first < length c.args.path.now =
    omega (arith, c.requires.before, c.requires.after) in
    let is = sym (c.is_mem.ensures ∙ ap (λ (p : Place). is_mem (number p))
    (get_or_default c.args.path.now (e.layer - c.args.first) _ Mem lt))
    ∙ c.if-not-is_mem.false in
    ap (λ (l : List Bool). pair_mark l k) c.set.ensures
    ∙ pair_marked c.args.used c.args.mems.now e.pair k c.requires.pair
    ∙ ap (λ (b : Bool). after c.args.used (pair_mark c.args.mems.now k) (bit b))
    (both (eqb e.pair k) (in_memory c.args.path.now c.args.first e.layer) is)
  where
    both : (a b : Bool) → b ≡ true → a ≡ (a && b)
    both true b is = sym is
    both false b is = refl
