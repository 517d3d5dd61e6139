use Rattle.std.proofs.Common.{ℕ, ◌≡◌, ◌<◌, ◌∙◌, true, false}
use Rattle.std.proofs.Common.{Some, None}
use Rattle.std.proofs.Common.{length, option_to_list, ap, sym}
use Rattle.std.proofs.Common.{arith, []}
use Rattle.std.proofs.Common.{if◌then◌else◌}
use Rattle.std.proofs.lemmas.Bool.{and_parts}
use Rattle.std.proofs.lemmas.List.{get_or_default}
use Rattle.pra_base.specs.declared.code.VProc.{VProc}
use Rattle.net_form.specs.Strands.{Lives, layer_count, is_present, begins, begun_strand, run_from}
use Rattle.net_form.specs.Strands.{strand, mask_at}
use Rattle.net_form.specs.Tables.{all_tables}
use Rattle.vc_live.specs.Rows.{live_at}
use Rattle.net_build.specs.Fitting.{behind}
use Rattle.net_build.proofs.Ranges.{count_some}
use Rattle.net_build.proofs.Fits.{none_behind, long_behind, short_behind, past_behind}
use Rattle.net_build.proofs.fitting.pass_begun.Goals as goal

module _ (code : VProc) (live : Lives) (v b l : ℕ) where
  begun : begins all_tables code live v b l ≡ true → begun_strand all_tables code live b l v ≡
      Some (strand all_tables code live v b l)
  begun is = ap (λ t. if t then Some (strand all_tables code live v b l) else None) is

  none : begins all_tables code live v b l ≡ false → begun_strand all_tables code live b l v ≡ None
  none is = ap (λ t. if t then Some (strand all_tables code live v b l) else None) is

  some : l < layer_count code b → begins all_tables code live v b l ≡ true →
      0 < run_from all_tables code live v b l
  some lt is = count_some (is_present all_tables code live v b)
      (mask_at all_tables code live v b) (layer_count code b) l lt
      (and_parts (is_present all_tables code live v b l) _ is).0

pub returns-then-not-begins : goal.returns-then-not-begins
returns-then-not-begins c = none_behind c.args.lists.now c.args.number
    ∙ ap (λ o. behind (option_to_list o) c.args.lists.now c.args.number)
    (sym (none c.args.code.now (live_at c.args.live.now) c.args.var c.args.block c.args.layer
    (sym c.begins.ensures ∙ c.if-not-begins.true)))

pub returns-then-number-len : goal.returns-then-number-len
returns-then-number-len c = past_behind
    (strand all_tables c.args.code.now (live_at c.args.live.now) c.args.var c.args.block
    c.args.layer) c.args.lists.now c.args.number
    (omega (arith, c.if-number-len.true, c.len.ensures))
    ∙ ap (λ o. behind (option_to_list o) c.args.lists.now c.args.number)
    (sym (begun c.args.code.now (live_at c.args.live.now) c.args.var c.args.block c.args.layer
    (sym c.begins.ensures ∙ c.if-not-begins.false)))

pub returns-then-at-run_from : goal.returns-then-at-run_from
returns-then-at-run_from c =
    let code = c.args.code.now in
    let live = live_at c.args.live.now in
    let list = c.at.result.now in
    let within : c.args.number < length c.args.lists.now =
    omega (arith, c.if-number-len.false, c.len.ensures) in
    let is = sym c.begins.ensures ∙ c.if-not-begins.false in
    let more = some code live c.args.var c.args.block c.args.layer c.requires.layer is in
    short_behind (strand all_tables code live c.args.var c.args.block c.args.layer)
    c.args.lists.now c.args.number list within
    (c.at.ensures ∙ get_or_default c.args.lists.now c.args.number [] list within)
    (λ same. c.if-at-run_from.true ((let e : length list ≡
    run_from all_tables code live c.args.var c.args.block c.args.layer = omega (arith, same, more)
    in e) ∙ sym c.run_from.ensures))
    ∙ ap (λ o. behind (option_to_list o) c.args.lists.now c.args.number)
    (sym (begun code live c.args.var c.args.block c.args.layer is))

pub returns : goal.returns
returns c =
    let code = c.args.code.now in
    let live = live_at c.args.live.now in
    let list = c.at.result.now in
    let within : c.args.number < length c.args.lists.now =
    omega (arith, c.if-number-len.false, c.len.ensures) in
    let is = sym c.begins.ensures ∙ c.if-not-begins.false in
    let more = some code live c.args.var c.args.block c.args.layer c.requires.layer is in
    let same : length list ≡ run_from all_tables code live c.args.var c.args.block c.args.layer =
    c.if-at-run_from.false ∙ c.run_from.ensures in
    long_behind (strand all_tables code live c.args.var c.args.block c.args.layer)
    c.args.lists.now c.args.number list within
    (c.at.ensures ∙ get_or_default c.args.lists.now c.args.number [] list within)
    (omega (arith, same, more))
    ∙ ap (λ o. behind (option_to_list o) c.args.lists.now c.args.number)
    (sym (begun code live c.args.var c.args.block c.args.layer is))
