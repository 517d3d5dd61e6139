use Rattle.std.proofs.Common.{◌≡◌, ◌<◌, true, ⊎_elim, inl, inr, length, List, sym, ap, ◌∙◌, arith}
use Rattle.pra_base.specs.Operands.{reads, writes}
use Rattle.vc_code.specs.declared.row.Role.{Role}
use Rattle.vc_live.specs.Equations.{named_in}
use Rattle.vc_live.proofs.Steps.{reads_named, writes_named}
use Rattle.vc_tidy.proofs.places.note_instr.Goals as goal

pub note-requires : goal.note-requires
note-requires c = λ v named. c.requires v
    (inl (sym (ap (λ (rs : List Role). named_in rs v) c.as_slice.ensures.value
    ∙ reads_named c.operands-row.result c.args.instr.now c.operands-row.ensures v) ∙ named))

pub note-requires-2 : goal.note-requires-2
note-requires-2 c = λ v named.
    let lt : v < length c.args.lists.now.items =
    c.requires v (inr (sym (ap (λ (rs : List Role). named_in rs v) c.as_slice-2.ensures.value
    ∙ writes_named c.operands-row.result c.args.instr.now c.operands-row.ensures v) ∙ named)) in
    omega (arith, lt, c.in_ok-note.ensures.count)

pub returns-clause-noted : goal.returns-clause-noted
returns-clause-noted c = λ v named.
    ⊎_elim
    (λ (r : reads c.args.instr.now v ≡ true).
    c.in_ok-note-2.ensures.kept v c.args.place
    (c.in_ok-note.ensures.noted v
    (ap (λ (rs : List Role). named_in rs v) c.as_slice.ensures.value
    ∙ reads_named c.operands-row.result c.args.instr.now c.operands-row.ensures v ∙ r)))
    (λ (w : writes c.args.instr.now v ≡ true).
    c.in_ok-note-2.ensures.noted v
    (ap (λ (rs : List Role). named_in rs v) c.as_slice-2.ensures.value
    ∙ writes_named c.operands-row.result c.args.instr.now c.operands-row.ensures v ∙ w))
    named
