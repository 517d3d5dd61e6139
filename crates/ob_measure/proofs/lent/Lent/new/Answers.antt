use Rattle.std.proofs.Common.{◌≡◌, ◌+◌, ◌∷◌, drop, get_or, refl, ap, ◌∙◌}
use Rattle.std.proofs.lemmas.List.{drop_more}
use Rattle.ob_syntax.specs.declared.checked.Root.{Root}
use Rattle.ob_syntax.specs.declared.checked.Root.TheVariants.{Module, Param, Local}
use Rattle.ob_measure.proofs.Marks.{one_more, one_other}
use Rattle.ob_measure.proofs.lent.Lent.new.Goals as goal
use Rattle.ob_measure.proofs.lent.Lent.new.Goals.{in-Module, in-Param, in-Local}

pub loop-root-preserved : goal.loop-root-preserved
loop-root-preserved c =
    let roots = c.deref-root-items.result.now in
    let i = c.loop-root.root-index in
    let left = drop i roots in
    let rest = drop (i + 1) roots in
    let params = c.loop-root.params.items in
    let locals = c.loop-root.locals.items in
    let so = c.loop-root.invariant in
    let next : (x : Root) → get_or roots i (Module 0) ≡ x → left ≡ x ∷ rest =
    λ x is. drop_more roots i (Module 0) c.loop-root-test.true ∙ ap (λ y. y ∷ rest) is in
    elim c.match-root.branch [
      | in-Module w ↦
          let here = next (Module w.in-Module.field-0) w.in-Module.is in
          rw (w.params-is, w.locals-is) (
            so.0,
            so.1,
            one_other Param left rest roots (Module w.in-Module.field-0) params here
                (λ k. refl) so.2,
            one_other Local left rest roots (Module w.in-Module.field-0) locals here
                (λ k. refl) so.3,
          )
      | in-Param w ↦
          let here = next (Param w.in-Param.number) w.in-Param.is in
          rw (w.params-is, w.locals-is) (
            w.mark.ensures.len ∙ so.0,
            so.1,
            one_more Param left rest roots (Param w.in-Param.number) params w.mark.new.marks.items
                here w.mark.ensures.len w.mark.ensures.marked so.2,
            one_other Local left rest roots (Param w.in-Param.number) locals here (λ k. refl) so.3,
          )
      | in-Local w ↦
          let here = next (Local w.in-Local.number) w.in-Local.is in
          let marked = w.mark-in-Local in
          rw (w.params-is, w.locals-is) (
            so.0,
            marked.ensures.len ∙ so.1,
            one_other Param left rest roots (Local w.in-Local.number) params here (λ k. refl) so.2,
            one_more Local left rest roots (Local w.in-Local.number) locals marked.new.marks.items
                here marked.ensures.len marked.ensures.marked so.3,
          )
    ]
