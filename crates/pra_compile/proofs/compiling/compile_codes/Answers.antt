use Rattle.std.proofs.Common.{◌≡◌, ℕ, List, [], ◌∷◌, ◌++◌, length, map, sym, subst, ◌∙◌, arith}
use Rattle.cert_form.specs.declared.codes.NamedCode.{NamedCode}
use Rattle.ia_asm.specs.Assembly.{IsCounted}
use Rattle.ia_emit.specs.Counts.{AreFew}
use Rattle.ia_emit.specs.Operands.{IsSmall}
use Rattle.pl_place.specs.declared.placed.LProc.{LProc}
use Rattle.pl_place.specs.Valid.{IsPlaced}
use Rattle.pra_follow.specs.Codes.{Carriage}
use Rattle.pra_follow.proofs.Carriages.{carriage_placed, carriage_small, carriage_few}
use Rattle.pra_report.specs.declared.report.ProcOut.{ProcOut}
use Rattle.pra_compile.specs.Compiled.{placed_of}
use Rattle.pra_compile.specs.CompiledProcs.{AreUnderway, IsCompiledProc}
use Rattle.pra_compile.proofs.Underway.{none_compiled, next_code, one_compiled}
use Rattle.pra_compile.proofs.Built.{built, too_long}
use Rattle.pra_compile.proofs.compiling.compile_codes.Goals as goal

pub loop-named-init : goal.loop-named-init
loop-named-init g c =
    let file = c.args.file in
    let leaves = g.A.Allocator.leaves c.args.allocator.now in
    let a = c.in_ok-assembly.assembly in
    let left : c.into_iter-named-iterator.result.rest.items ≡ file.procs =
    c.into_iter-named-iterator.ensures.into_iter_gives.0 ∙ c.into_vec-named-items.ensures in
    subst (λ (left : List NamedCode).
    AreUnderway file leaves c.from_vec-procs.result left a) (sym left)
    (subst (λ (procs : List ProcOut). AreUnderway file leaves procs file.procs a)
    (sym (c.from_vec-procs.ensures ∙ c.in_ok-with_capacity.ensures.items))
    (none_compiled file leaves a c.in_ok-assembly.ensures))

pub compile_procedure-requires-clause-valid : goal.compile_procedure-requires-clause-valid
compile_procedure-requires-clause-valid g c =
    (c.requires.runnable.each c.len-number.result c.in-Some.named.code
    (next_code c.args.file (g.A.Allocator.leaves c.args.allocator.now) c.loop-named.procs
    c.in-Some.named _ _ c.loop-named.assembly c.loop-named.invariant c.in-Some.ensures.steps.0
    c.len-number.result c.len-number.ensures)).valid

pub compile_procedure-requires-clause-sized : goal.compile_procedure-requires-clause-sized
compile_procedure-requires-clause-sized g c =
    (c.requires.runnable.each c.len-number.result c.in-Some.named.code
    (next_code c.args.file (g.A.Allocator.leaves c.args.allocator.now) c.loop-named.procs
    c.in-Some.named _ _ c.loop-named.assembly c.loop-named.invariant c.in-Some.ensures.steps.0
    c.len-number.result c.len-number.ensures)).sized

pub compile_procedure-requires-clause-takes : goal.compile_procedure-requires-clause-takes
compile_procedure-requires-clause-takes g c =
    c.requires.takes c.len-number.result c.in-Some.named.code
    (next_code c.args.file (g.A.Allocator.leaves c.args.allocator.now) c.loop-named.procs
    c.in-Some.named _ _ c.loop-named.assembly c.loop-named.invariant c.in-Some.ensures.steps.0
    c.len-number.result c.len-number.ensures)

pub add-requires-clause-placed : goal.add-requires-clause-placed
add-requires-clause-placed g c =
    let is = c.in_ok-compiled.ensures in
    subst IsPlaced is.placed (carriage_placed is.carriage is.is)

pub add-requires-clause-small : goal.add-requires-clause-small
add-requires-clause-small g c =
    let is = c.in_ok-compiled.ensures in
    subst IsSmall is.placed (carriage_small is.carriage is.is)

pub add-requires-clause-few : goal.add-requires-clause-few
add-requires-clause-few g c =
    let is = c.in_ok-compiled.ensures in
    subst (λ (p : LProc). AreFew (p ∷ [])) is.placed (carriage_few is.carriage is.is)

pub add-requires-clause-counted : goal.add-requires-clause-counted
add-requires-clause-counted g c = (
  placed_of c.loop-named.invariant.carriages,
  c.args.file.data_words,
  c.loop-named.invariant.counted,
)

pub loop-named-preserved : goal.loop-named-preserved
loop-named-preserved g c =
    let file = c.args.file in
    let leaves = g.A.Allocator.leaves c.args.allocator.now in
    let left = c.next.new.self.rest.items in
    let new = c.add.new.self in
    let are = c.loop-named.invariant in
    let is : IsCompiledProc leaves (length c.loop-named.procs) c.in-Some.named
    c.in_ok-compiled.compiled =
    subst (λ n. IsCompiledProc leaves n c.in-Some.named c.in_ok-compiled.compiled)
    c.len-number.ensures c.in_ok-compiled.ensures in
    subst (λ (procs : List ProcOut). AreUnderway file leaves procs left new)
    {y = c.push.new.self} (sym c.in_ok-push.ensures.ok)
    (one_compiled file leaves c.loop-named.procs c.in-Some.named _ left c.loop-named.assembly are
    c.in-Some.ensures.steps.0 c.in_ok-compiled.compiled is new
    (c.in_ok-add.ensures (placed_of are.carriages) file.data_words
    are.counted))

pub finish-requires : goal.finish-requires
finish-requires g c = (
  placed_of c.loop-named.invariant.carriages,
  c.args.file.data_words,
  c.loop-named.invariant.counted,
)

pub returns-in-Ok-clause-built : goal.returns-in-Ok-clause-built
returns-in-Ok-clause-built g c =
    let file = c.args.file in
    let are = c.loop-named.invariant in
    let none = c.in-None.ensures.steps.0 in
    let long = c.loop-named.named-iterator.rest.ok.0 in
    built file (g.A.Allocator.leaves c.args.allocator.now) c.requires.runnable c.loop-named.procs
    c.loop-named.named-iterator.rest.items c.loop-named.assembly are (omega (arith, none, long))
    c.in-Ok.image (c.in-Ok.ensures.image (placed_of are.carriages)
    file.data_words are.counted)

pub returns-in-Err-clause-fault : goal.returns-in-Err-clause-fault
returns-in-Err-clause-fault g c =
    let file = c.args.file in
    let are = c.loop-named.invariant in
    let none = c.in-None.ensures.steps.0 in
    let long = c.loop-named.named-iterator.rest.ok.0 in
    let count = c.in-Err.ensures.count (placed_of are.carriages)
    file.data_words are.counted in
    too_long file (g.A.Allocator.leaves c.args.allocator.now) c.requires.runnable
    c.loop-named.procs c.loop-named.named-iterator.rest.items c.loop-named.assembly are
    (omega (arith, none, long)) c.in-Err.bytes count.0 count.1
