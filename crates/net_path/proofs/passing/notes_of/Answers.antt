use Rattle.std.proofs.Common.{ℕ, ◌≡◌, ◌+◌, ◌∷◌, ◌++◌, [], ◌∙◌, length, get_or, sym, subst, ap}
use Rattle.std.proofs.Common.{List, arith}
use Rattle.std.proofs.lemmas.List.{get_or_append_left, length-append}
use Rattle.std.proofs.Math.Seq.{get_or-append_seam}
use borrow.Author.Count.{below_more}
use Rattle.net_path.specs.Passing.{IsNote}
use Rattle.net_path.proofs.passing.notes_of.Goals as goal

pub loop-strand-preserved : goal.loop-strand-preserved
loop-strand-preserved c =
    let net = c.args.net.now in
    let n = c.loop-strand.strand in
    let old = c.loop-strand.notes.items in
    let new = c.push.new.self.items in
    let note = c.note_of.result in
    let is : new ≡ old ++ note ∷ [] = c.in_ok-push.ensures.items in
    let long = c.loop-strand.invariant.long in
    let last : get_or new n 0 ≡ note =
    ap (λ (ns : List ℕ). get_or ns n 0) is
    ∙ ap (λ (k : ℕ). get_or (old ++ note ∷ []) k 0) (sym long)
    ∙ get_or-append_seam old note [] 0 in
    record {
      long = ap length is ∙ length-append old (note ∷ []) ∙ ap (λ (k : ℕ). k + 1) long;
      each = below_more (λ s. IsNote net s (get_or new s 0)) n
          (λ s lt. subst (IsNote net s)
          (sym (ap (λ (ns : List ℕ). get_or ns s 0) is
          ∙ get_or_append_left old (note ∷ []) 0 s (omega (arith, long, lt))))
          (c.loop-strand.invariant.each s lt))
          (subst (IsNote net n) (sym last) c.note_of.ensures);
    }
