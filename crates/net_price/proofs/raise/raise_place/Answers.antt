use Rattle.std.proofs.Common.{◌∙◌, ◌&&◌, eqb, get_or, sym, ap}
use Rattle.pra_base.specs.Places.{number, register_of}
use Rattle.pra_list.proofs.Counts.{bit}
use Rattle.net_form.specs.Bundles.{bundle_key}
use Rattle.net_price.specs.Raised.{raised}
use Rattle.net_price.proofs.Raised.{raised-none, place_uses}
use Rattle.net_price.proofs.raise.raise_place.Goals as goal

pub returns-then-not-has_register-clause-raised : goal.returns-then-not-has_register-clause-raised
returns-then-not-has_register-clause-raised c = λ k lt.
    let to = c.args.to in
    let none = ap (λ b. bit (b && eqb (bundle_key c.args.layer (register_of (number to))) k))
    (sym c.has_register.ensures ∙ c.if-not-has_register.true) in
    sym (raised-none c.args.s (get_or c.args.caps.now k 0) (place_uses c.args.layer to k)
    (c.requires.words k) none)

pub returns-clause-raised : goal.returns-clause-raised
returns-clause-raised c = λ k lt.
    let to = c.args.to in
    let old = get_or c.args.caps.now k 0 in
    c.raise.ensures.raised k lt
    ∙ ap (λ n. raised c.args.s old (bit (eqb (bundle_key c.args.layer n) k)))
    c.register.ensures.value
    ∙ ap (λ b. raised c.args.s old
    (bit (b && eqb (bundle_key c.args.layer (register_of (number to))) k)))
    (sym (sym c.has_register.ensures ∙ c.if-not-has_register.false))
