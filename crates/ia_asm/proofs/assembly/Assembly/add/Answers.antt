use Rattle.std.proofs.Common.{rules, ◌≡◌, [], ◌∷◌, ◌++◌, length, refl, ap, ◌∙◌, subst}
use Rattle.ia_emit.specs.Code.{target_in}
use Rattle.ia_emit.specs.Emission.{emit_proc}
use Rattle.ia_emit.specs.Open.{IsOpen}
use Rattle.ia_asm.proofs.Assembling.{added}
use Rattle.ia_asm.proofs.assembly.Assembly.add.Goals as goal

pub returns-clause-ok : goal.returns-clause-ok
returns-clause-ok c = λ procs words is.
    let old = c.args.self.now in
    let p = c.args.proc.now in
    let piece = c.in_ok-piece.piece in
    let at : c.len-at.result ≡ length old.code.items = search rules in
    let opened : IsOpen (target_in p (length old.code.items)) (length old.code.items) (emit_proc p)
    piece.bytes.items piece.calls.items =
    subst (λ n. IsOpen (target_in p n) n (emit_proc p) piece.bytes.items piece.calls.items) at
    c.in_ok-piece.ensures.open in
    let entries : c.push.new.self.items ≡ old.entries.items ++ c.len-at.result ∷ [] =
    search rules in
    added procs words old is p piece.bytes.items piece.calls.items opened _ (search rules)
    (search rules) (entries ∙ ap (λ n. old.entries.items ++ n ∷ []) at) refl c.requires.room
    c.in_ok-piece.ensures.offsets
