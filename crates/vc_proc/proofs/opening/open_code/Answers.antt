use Rattle.std.proofs.Common.{◌≡◌, ◌-◌, ◌++◌, [], ◌∷◌, length, List, sym, ap, ◌∙◌}
use Rattle.pra_base.specs.declared.code.Block.{Block}
use Rattle.pra_base.specs.declared.code.VarKind.{VarKind}
use Rattle.vc_proc.specs.Opening.{home_kinds, clearing, zeros}
use Rattle.vc_proc.proofs.Zeroing.{entry_block, with_blocks, opened_is}
use Rattle.vc_proc.proofs.opening.open_code.Goals as goal

pub returns : goal.returns
returns c =
    let args : c.in_ok-args.args ≡ length c.args.proc.now.params = c.in_ok-args.ensures
    ∙ c.len.ensures in
    let vars : c.from_vec-2.result ≡ home_kinds c.args.proc.now = c.from_vec-2.ensures
    ∙ c.requires.kinds in
    let end : c.in_ok-end.end ≡ length c.from_vec-2.result = c.in_ok-end.ensures
    ∙ ap (λ (ks : List VarKind). length ks)
    (c.as_slice.ensures.value ∙ sym c.from_vec-2.ensures) in
    let code : c.from_vec.result ≡ clearing c.args.proc.now.aggregate_words
    ++ zeros c.args.first_local (c.in_ok-end.end - c.args.first_local) = c.from_vec.ensures
    ∙ c.in_ok-code.ensures in
    let blocks : c.from_vec-3.result ≡ entry_block c.from_vec.result ∷ [] = c.from_vec-3.ensures
    ∙ c.in_ok-push.ensures.items
    ∙ ap (λ (bs : List Block). bs ++ entry_block c.from_vec.result ∷ [])
    c.new-blocks.ensures.items in
    ap (with_blocks c.args.id c.in_ok-args.args c.args.proc.now.aggregate_words c.from_vec-2.result)
    blocks
    ∙ opened_is c.args.id c.args.proc.now c.in_ok-args.args c.from_vec-2.result c.from_vec.result
    c.args.first_local c.in_ok-end.end args vars c.requires.first_local end code
