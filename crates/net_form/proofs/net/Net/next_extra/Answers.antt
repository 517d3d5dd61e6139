use Rattle.std.proofs.Common.{◌≡◌, ◌∙◌, Bool, true, false, not, Option, Some, None, get_or, refl}
use Rattle.std.proofs.Common.{sym, ap, arith}
use Rattle.std.specs.Option.{is_some}
use Rattle.std.proofs.lemmas.Option.{slice_get_past}
use Rattle.net_form.specs.declared.net.Extra.{Extra}
use Rattle.net_form.specs.Ordered.{extra_there}
use Rattle.net_form.proofs.ExtrasInOrder.{first_within, all_before, next_first, earlier_before}
use Rattle.net_form.proofs.ExtrasInOrder.{still_before}
use Rattle.net_form.proofs.net.Net.next_extra.Goals as goal

none_of : (o : Option Extra) (b : Bool) → is_some o ≡ not b → b ≡ true → o ≡ None
none_of None b is so = refl
none_of (Some x) b is so = absurd (let e : true ≡ not true = is ∙ ap not so in cc)

some_of : (o : Option Extra) (b : Bool) → is_some o ≡ not b → b ≡ false → (x : Extra) × (o ≡ Some x)
some_of None b is so = absurd (let e : false ≡ not false = is ∙ ap not so in cc)
some_of (Some x) b is so = (x, refl)

pub loop-next-init : goal.loop-next-init
loop-next-init c = λ k d lt. earlier_before c.args.strand c.args.layer
    (get_or c.args.self.now.extras k d)
    (all_before c.args.self.now c.requires.extras c.args.strand c.args.layer k d
    (omega (arith, lt, c.requires.at)))

pub returns-then-is_none : goal.returns-then-is_none
returns-then-is_none c =
    next_first c.args.self.now c.requires.extras c.args.strand c.args.layer c.loop-next.next
    (omega (arith, c.requires.at)) (omega arith) c.loop-next.invariant
    (sym c.extra_at.ensures ∙ none_of c.extra_at.result c.is_none.result c.is_none.ensures
    c.if-is_none.true)

pub loop-next-preserved : goal.loop-next-preserved
loop-next-preserved c =
    let one = some_of c.extra_at.result c.is_none.result c.is_none.ensures c.if-is_none.false in
    still_before c.args.self.now c.requires.extras c.args.strand c.args.layer c.loop-next.next one.0
    (sym c.extra_at.ensures ∙ one.1) c.loop-next.invariant

pub returns : goal.returns
returns c =
    let within = first_within c.args.self.now c.requires.extras c.args.strand c.args.layer in
    next_first c.args.self.now c.requires.extras c.args.strand c.args.layer c.len.result
    (omega (arith, within, c.requires.at)) (omega arith)
    (λ k d lt. c.loop-next.invariant k d (omega (arith, lt, within, c.requires.at)))
    (ap (λ (o : Option Extra). extra_there c.args.strand c.args.layer o)
    (slice_get_past c.args.self.now.extras c.len.result (omega arith)))
