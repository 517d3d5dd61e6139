use Rattle.std.proofs.Common.{◌≡◌, false, take}
use Rattle.std.specs.List.{list_any}
use Rattle.vc_tidy.specs.Thinned.{is_marked}
use Rattle.vc_tidy.proofs.marks.any_marked.Given as goal

abbrev pub invariant-loop-role : goal.invariant-loop-role
invariant-loop-role l = list_any (λ role. is_marked l.marks role.var.0)
    (take l.role-index l.roles) ≡ false
