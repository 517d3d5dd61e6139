use Rattle.std.proofs.Common.{◌≡◌, ℕ, ◌⊎◌, true, ⊎_elim, inl, inr, List, get_or, take, sym, ap}
use Rattle.std.proofs.Common.{subst, ◌∙◌, arith}
use Rattle.std.proofs.lemmas.List.{take_all}
use Rattle.std.proofs.lemmas.Option.{slice_get-get_or}
use Rattle.pra_base.specs.Operands.{reads, writes}
use Rattle.pra_base.specs.Valid.{Names}
use Rattle.vc_code.specs.declared.row.Role.{Role}
use Rattle.vc_live.specs.Equations.{named_in}
use Rattle.vc_live.proofs.Steps.{reads_named, writes_named}
use Rattle.vc_tidy.specs.Thinned.{IsIn, is_marked}
use Rattle.vc_tidy.proofs.Marking.{in_more, in_here, both_marked, marked_by, no_instr}
use Rattle.vc_tidy.proofs.unused.mark_named.Goals as goal

pub mark_all-requires : goal.mark_all-requires
mark_all-requires c =
    let i = get_or c.args.code.now c.loop-instr.instr-index no_instr in
    rw (c.as_slice.ensures.value, c.loop-instr.invariant.count)
    (λ v named. c.requires v
    (in_here c.args.code.now c.loop-instr.instr-index v i
    (slice_get-get_or c.args.code.now c.loop-instr.instr-index no_instr c.loop-instr-test.true)
    (inl (sym (reads_named c.operands-row.result i c.operands-row.ensures v) ∙ named))))

pub mark_all-requires-in-loop-instr : goal.mark_all-requires-in-loop-instr
mark_all-requires-in-loop-instr c =
    let i = get_or c.args.code.now c.loop-instr.instr-index no_instr in
    rw (
      c.as_slice-in-loop-instr.ensures.value,
      c.mark_all.ensures.count,
      c.loop-instr.invariant.count,
    )
    (λ v named. c.requires v
    (in_here c.args.code.now c.loop-instr.instr-index v i
    (slice_get-get_or c.args.code.now c.loop-instr.instr-index no_instr c.loop-instr-test.true)
    (inr (sym (writes_named c.operands-row.result i c.operands-row.ensures v) ∙ named))))

pub loop-instr-preserved : goal.loop-instr-preserved
loop-instr-preserved c =
    let i = get_or c.args.code.now c.loop-instr.instr-index no_instr in
    let is = slice_get-get_or c.args.code.now c.loop-instr.instr-index no_instr
    c.loop-instr-test.true in
    let up : (v : ℕ) → (is_marked c.loop-instr.marks.items v ≡ true) ⊎
    ((reads i v ≡ true) ⊎ (writes i v ≡ true)) →
    is_marked c.mark_all-in-loop-instr.new.marks.items v ≡ true =
    λ v why.
    both_marked _ _ _ (reads i v) (writes i v) _ _ (c.mark_all.ensures.marks v)
    (ap (λ (rs : List Role). named_in rs v) c.as_slice.ensures.value
    ∙ reads_named c.operands-row.result i c.operands-row.ensures v)
    (c.mark_all-in-loop-instr.ensures.marks v)
    (ap (λ (rs : List Role). named_in rs v) c.as_slice-in-loop-instr.ensures.value
    ∙ writes_named c.operands-row.result i c.operands-row.ensures v) why in
    record {
      count = c.mark_all-in-loop-instr.ensures.count ∙ c.mark_all.ensures.count
          ∙ c.loop-instr.invariant.count;
      kept = λ v was. up v (inl (c.loop-instr.invariant.kept v was));
      marked = λ v is_in.
          ⊎_elim
          (λ (before : IsIn (take c.loop-instr.instr-index c.args.code.now) v). up v
          (inl (c.loop-instr.invariant.marked v before)))
          (λ (n : Names i v). up v (inr n))
          (in_more c.args.code.now c.loop-instr.instr-index v i is is_in);
      named = λ v marked.
          ⊎_elim
          (λ (was : is_marked c.loop-instr.marks.items v ≡ true). c.loop-instr.invariant.named v
          was)
          (λ (n : (reads i v ≡ true) ⊎ (writes i v ≡ true)). inr
          (in_here c.args.code.now c.loop-instr.instr-index v i is n))
          (marked_by _ _ _ (reads i v) (writes i v) _ _ (c.mark_all.ensures.marks v)
          (ap (λ (rs : List Role). named_in rs v) c.as_slice.ensures.value
          ∙ reads_named c.operands-row.result i c.operands-row.ensures v)
          (c.mark_all-in-loop-instr.ensures.marks v)
          (ap (λ (rs : List Role). named_in rs v) c.as_slice-in-loop-instr.ensures.value
          ∙ writes_named c.operands-row.result i c.operands-row.ensures v) marked);
    }

pub returns-clause-marked : goal.returns-clause-marked
returns-clause-marked c = λ v is_in. c.loop-instr.invariant.marked v
    (subst (λ xs. IsIn xs v)
    (sym (take_all c.loop-instr.instr-index c.args.code.now
    (omega (arith, c.loop-instr-test.false)))) is_in)
