use Rattle.std.proofs.Common.{sym, subst, ◌∙◌}
use Rattle.std.specs.Prelude.{IfOk}
use Rattle.ia_emit.specs.declared.bytes.Piece.{Piece}
use Rattle.ia_emit.specs.Code.{target_in}
use Rattle.ia_emit.specs.Open.{IsOpen}
use Rattle.ia_emit.specs.Sound.{EachSound}
use Rattle.ia_emit.proofs.NearCells.{cells_hold}
use Rattle.ia_emit.proofs.Soundness.{proc_sound}
use Rattle.ia_emit.proofs.piece.piece_of.Goals as goal

pub places-requires-clause-sound : goal.places-requires-clause-sound
places-requires-clause-sound c =
    let p = c.args.proc.now in
    let is = c.requires.placed in
    subst EachSound (sym (c.as_slice-items.ensures.value ∙ c.in_ok-body.ensures.items))
    (proc_sound p (cells_hold p c.requires.small is)
    (λ j b m i places e f. is.operands_placed j m i places (b, e, f)))

pub put_all-requires-clause-sound : goal.put_all-requires-clause-sound
put_all-requires-clause-sound c =
    let p = c.args.proc.now in
    let is = c.requires.placed in
    subst EachSound (sym (c.as_slice-items.ensures.value ∙ c.in_ok-body.ensures.items))
    (proc_sound p (cells_hold p c.requires.small is)
    (λ j b m i places e f. is.operands_placed j m i places (b, e, f)))

pub returns-clause-open : goal.returns-clause-open
returns-clause-open c =
    let p = c.args.proc.now in
    let at = c.args.at in
    subst (λ items. IfOk c.put_all.result
    (λ (q : Piece). IsOpen (target_in p at) at items q.bytes.items q.calls.items))
    (c.as_slice-items.ensures.value ∙ c.in_ok-body.ensures.items) c.put_all.ensures
