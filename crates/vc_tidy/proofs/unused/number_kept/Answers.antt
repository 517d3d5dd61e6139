use Rattle.std.proofs.Common.{◌≡◌, ℕ, ◌<◌, ◌+◌, List, [], ◌∷◌, ◌++◌, length, refl, sym, ap, subst}
use Rattle.std.proofs.Common.{◌∙◌, arith}
use Rattle.pra_base.specs.declared.code.VarKind.{VarKind}
use Rattle.vc_tidy.specs.Unused.{AreNumbers}
use Rattle.vc_tidy.proofs.Numbered.{one_left_out, one_kept, kind_read}
use Rattle.vc_tidy.proofs.unused.number_kept.Goals as goal

pub loop-v-preserved-then-is_left_out : goal.loop-v-preserved-then-is_left_out
loop-v-preserved-then-is_left_out c =
    let code = c.args.code.now in
    let marks = c.args.marks.now in
    let names = c.loop-v.names.items in
    let vars = c.loop-v.vars.items in
    let inside : c.loop-v.v < length code.vars =
    omega (arith, c.loop-v-test.true, c.len-v-end.ensures) in
    let more : c.push.new.self.items ≡ names ++ length vars ∷ [] =
    cc (c.in_ok-push.ensures.items, c.len-in-loop-v.ensures) in
    subst (λ (ns : List ℕ). AreNumbers code marks ns vars (c.loop-v.v + 1)) (sym more)
    (one_left_out code marks names vars c.loop-v.v c.loop-v.invariant inside
    (c.if-is_left_out.ensures.out refl))

pub loop-v-preserved : goal.loop-v-preserved
loop-v-preserved c =
    let code = c.args.code.now in
    let marks = c.args.marks.now in
    let names = c.loop-v.names.items in
    let vars = c.loop-v.vars.items in
    let inside : c.loop-v.v < length code.vars =
    omega (arith, c.loop-v-test.true, c.len-v-end.ensures) in
    let more : c.push.new.self.items ≡ names ++ length vars ∷ [] =
    cc (c.in_ok-push.ensures.items, c.len-in-loop-v.ensures) in
    subst (λ (ns : List ℕ). AreNumbers code marks ns c.push-in-loop-v.new.self.items
    (c.loop-v.v + 1)) (sym more)
    (subst (λ (ks : List VarKind). AreNumbers code marks (names ++ length vars ∷ []) ks
    (c.loop-v.v + 1))
    (sym (c.in_ok-push-2.ensures.items ∙ ap (λ (k : VarKind). vars ++ k ∷ [])
    (kind_read code c.loop-v.v c.index.result.now inside c.index.ensures)))
    (one_kept code marks names vars c.loop-v.v c.loop-v.invariant inside
    (c.if-is_left_out.ensures.kept refl)))

pub returns : goal.returns
returns c =
    let all : c.loop-v.v ≡ length c.args.code.now.vars =
    omega (arith, c.loop-v-test.false, c.loop-v.auto.v-end, c.len-v-end.ensures) in
    subst (λ n. AreNumbers c.args.code.now c.args.marks.now c.loop-v.names.items c.loop-v.vars.items
    n) all c.loop-v.invariant
