use Rattle.std.proofs.Common.{◌≡◌, ◌+◌, ◌*◌, [], length, refl, sym, subst, ◌∙◌, arith}
use Rattle.std.proofs.lemmas.List.{get_or_read}
use Rattle.pl_made.specs.Made.{LaysMoves}
use Rattle.pl_build.specs.Layers.{layer}
use Rattle.pl_build.proofs.Laid.{one_laid, end_laid}
use Rattle.pl_build.proofs.laying.lay_block.Goals as goal

pub loop-k-preserved : goal.loop-k-preserved
loop-k-preserved c = λ r b more are laid.
    let layers = c.args.layers.now in
    let first = c.args.first in
    let k = c.loop-k.k in
    let lt = c.loop-k-test.true in
    let room = c.requires.within in
    let before : c.as_slice-before.result.now ≡ layer layers (first + 2 * k + 1) =
    c.as_slice-before.ensures ∙ get_or_read layers (first + 2 * k + 1) c.index-layers-first.result
    (omega (arith, lt, room)) c.index-layers-first.is [] in
    let behind : c.as_slice-behind.result.now ≡ layer layers (first + 2 * k + 2) =
    c.as_slice-behind.ensures ∙ get_or_read layers (first + 2 * k + 2)
    c.index-layers-first-in-loop-k.result (omega (arith, lt, room))
    c.index-layers-first-in-loop-k.is [] in
    one_laid r b k c.args.code.now first layers _ _ c.as_slice-before.result.now
    c.as_slice-behind.result.now c.loop-k.out.items c.add_instr.new.out.items
    are lt refl before behind c.in_ok-add_instr.ensures
    (λ left l. c.loop-k.invariant r b left are l) more laid

pub returns : goal.returns
returns c = λ r b are.
    let code = c.args.code.now in
    let layers = c.args.layers.now in
    let first = c.args.first in
    let room = c.requires.within in
    let last : c.as_slice-last.result.now ≡ layer layers (first + 2 * length code + 1) =
    c.as_slice-last.ensures ∙ get_or_read layers (first + 2 * length code + 1)
    c.index-layers-first-2.result (omega (arith, room)) c.index-layers-first-2.is [] in
    let ge = c.loop-k-test.false in
    let le = c.loop-k.auto.k-end in
    subst (LaysMoves r b 0 code) (sym c.from_vec.ensures)
    (end_laid r b c.loop-k.k code first layers c.as_slice-last.result.now c.loop-k.out.items
    c.add_moves.new.out.items
    are (omega (arith, ge, le)) last c.in_ok-add_moves.ensures
    (λ left l. c.loop-k.invariant r b left are l))
