use Rattle.std.proofs.Common.{◌≡◌, ◌-◌, ◌<◌, ◌∙◌, Bool, true, false, refl, eqb, ◌&&◌, length}
use Rattle.std.proofs.Common.{get_or, sym, ap, arith}
use Rattle.std.proofs.lemmas.Bool.{and_right}
use Rattle.std.proofs.lemmas.List.{get_or_default}
use Rattle.pra_list.proofs.Counts.{bit}
use Rattle.pra_base.specs.declared.ids.Place.{Place}
use Rattle.pra_base.specs.declared.ids.Place.TheVariants.{Mem}
use Rattle.pra_base.specs.Places.{number, is_mem}
use Rattle.net_form.specs.InUse.{in_memory, brings_end}
use Rattle.net_price.specs.Raised.{raised}
use Rattle.net_price.proofs.Raised.{raised-none}
use Rattle.net_price.proofs.mems.raise_end.Goals as goal

pub returns-then-not-is_mem-clause-raised : goal.returns-then-not-is_mem-clause-raised
returns-then-not-is_mem-clause-raised c = λ k lt.
    let e = c.args.end in
    let path = c.args.path.now in
    let first = c.args.first in
    let within : e.layer - first < length path
    = omega (arith, c.requires.before, c.requires.after) in
    let none = sym (c.is_mem.ensures ∙ ap (λ (p : Place). is_mem (number p))
    (get_or_default path (e.layer - first) _ Mem within)) ∙ c.if-not-is_mem.true in
    sym (raised-none c.args.s (get_or c.args.mems.now k 0)
    (bit (brings_end (in_memory path first) k e)) (c.requires.words k)
    (ap bit (and_right (eqb e.pair k) (in_memory path first e.layer) none)))

pub returns-clause-raised : goal.returns-clause-raised
returns-clause-raised c = λ k lt.
    let e = c.args.end in
    let path = c.args.path.now in
    let first = c.args.first in
    let within : e.layer - first < length path
    = omega (arith, c.requires.before, c.requires.after) in
    let is = sym (c.is_mem.ensures ∙ ap (λ (p : Place). is_mem (number p))
    (get_or_default path (e.layer - first) _ Mem within)) ∙ c.if-not-is_mem.false in
    c.raise.ensures.raised k lt
    ∙ ap (λ (b : Bool). raised c.args.s (get_or c.args.mems.now k 0) (bit b))
    (both (eqb e.pair k) (in_memory path first e.layer) is)
  where
    both : (a b : Bool) → b ≡ true → a ≡ (a && b)
    both true b is = sym is
    both false b is = refl
