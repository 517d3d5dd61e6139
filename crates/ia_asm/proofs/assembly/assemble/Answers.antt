use Rattle.std.proofs.Common.{refl, ◌≡◌, take, Some, slice_get, subst, sym, ap, ◌∙◌, arith, ◌∷◌}
use Rattle.std.proofs.Common.{◌++◌, []}
use Rattle.std.proofs.lemmas.List.{take_more, take_all}
use Rattle.std.proofs.lemmas.List.Sums.{sum_by_more_le}
use Rattle.std.proofs.lemmas.Option.{slice_get_read}
use Rattle.ia_emit.specs.Code.{size}
use Rattle.ia_emit.specs.Emission.{emit_proc}
use Rattle.ia_asm.specs.Assembly.{IsAssembly, IsImageOf}
use Rattle.ia_asm.proofs.Assembling.{length_assembly}
use Rattle.ia_asm.proofs.assembly.assemble.Goals as goal

pub loop-proc-init : goal.loop-proc-init
loop-proc-init c = c.in_ok-assembly.ensures

pub add-requires : goal.add-requires
add-requires c =
    let procs = c.args.procs.now in
    let k = c.loop-proc.proc-index in
    let p = c.proc-item.result in
    let there : slice_get procs k ≡ Some p = slice_get_read procs _ k p refl c.loop-proc-test.true
    c.proc-item.is in
    let long = length_assembly (take k procs) c.args.data_words c.loop-proc.assembly
    c.loop-proc.invariant in
    let most = sum_by_more_le (λ p. size (emit_proc p)) procs k p c.loop-proc-test.true in
    let same = ap (λ p. size (emit_proc p)) c.proc-item.is in
    record {
      placed = c.requires.procs.placed k p there;
      small = c.requires.procs.small k p there;
      room = omega (arith, long, most, same, c.requires.procs.room);
    }

pub loop-proc-preserved : goal.loop-proc-preserved
loop-proc-preserved c =
    let procs = c.args.procs.now in
    let k = c.loop-proc.proc-index in
    let p = c.proc-item.result in
    let next = take_more procs k p c.loop-proc-test.true ∙ ap (λ x. take k procs ++ x ∷ [])
    (sym c.proc-item.is) in
    subst (λ l. IsAssembly l c.args.data_words c.add.new.self) (sym next)
    (c.in_ok-add.ensures.ok (take k procs) c.args.data_words c.loop-proc.invariant)

pub finish-requires : goal.finish-requires
finish-requires c = (
  take c.loop-proc.proc-index c.args.procs.now,
  c.args.data_words,
  c.loop-proc.invariant,
)

pub returns : goal.returns
returns c =
    let procs = c.args.procs.now in
    let k = c.loop-proc.proc-index in
    subst (λ l. IsImageOf l c.args.data_words c.finish.result)
    (take_all k procs c.loop-proc-test.false)
    (c.finish.ensures.image (take k procs) c.args.data_words c.loop-proc.invariant)
