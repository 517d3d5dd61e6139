use Rattle.std.proofs.Common.{◌≡◌, ◌&&◌, ◌||◌, Bool, [], get_or, nat_eq, ap, ap₂, ◌∙◌, arith}
use Rattle.std.proofs.lemmas.List.{get_or_read}
use Rattle.net_form.specs.declared.net.Strand.{Strand}
use Rattle.net_form.specs.Admitted.{no_strand}
use Rattle.net_form.proofs.RoutesConserve.{as_many}
use Rattle.pl_build.specs.Slots.{marked, comes_to_memory}
use Rattle.pl_build.proofs.Marked.{strand_comes}
use Rattle.pl_build.proofs.slots.marks_of.Goals as goal

pub at-requires : goal.at-requires
at-requires c =
    let many = as_many c.args.net.now.strands c.args.routes.now.places c.requires.routes in
    let lt = c.loop-strand-test.true in
    let all = c.len-strand-end.ensures in
    omega (arith, many, lt, all)

pub loop-strand-preserved : goal.loop-strand-preserved
loop-strand-preserved c =
    let net = c.args.net.now in
    let rs = c.args.routes.now.places in
    let s = c.loop-strand.strand in
    let lt = c.loop-strand-test.true in
    let all = c.len-strand-end.ensures in
    let many = as_many net.strands rs c.requires.routes in
    let path : c.at.result.now ≡ get_or rs s [] = c.at.ensures in
    let strand = get_or_read net.strands s c.index.result.now
    (omega (arith, lt, all)) c.index.ensures no_strand in
    let comes : c.comes_to_memory-comes.result ≡ comes_to_memory (get_or rs s []) =
    c.comes_to_memory-comes.ensures ∙ ap comes_to_memory path in
    record {
      long = c.mark.ensures.long ∙ c.loop-strand.invariant.long;
      marks = λ v in_vars.
          strand_comes net rs s v (marked c.loop-strand.marks v) (marked c.mark.new.marks v)
          (omega (arith, lt, all)) (omega (arith, many, lt, all))
          (c.mark.ensures.marks v ∙ ap₂
          (λ (t : Strand) (b : Bool). marked c.loop-strand.marks v || (nat_eq t.var.0 v && b))
          strand comes)
          ∙ c.loop-strand.invariant.marks v in_vars;
    }
