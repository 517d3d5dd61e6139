use Rattle.std.proofs.Common.{ℕ, ◌≡◌, ◌+◌, ◌-◌, ◌<◌, ◌≤◌, Bool, List, length, ap, ◌∙◌, arith, true}
use Rattle.std.proofs.Common.{None}
use Rattle.std.proofs.lemmas.Bool.{and_parts}
use Rattle.std.proofs.lemmas.List.{get_or_read}
use Rattle.pra_base.specs.declared.code.VProc.{VProc}
use Rattle.pra_base.specs.declared.code.VarKind.TheVariants.{Plain}
use Rattle.pra_base.specs.Code.{kind_of}
use Rattle.net_form.specs.Strands.{Lives, layer_count, is_present, begins, run_from, strand}
use Rattle.net_form.specs.Strands.{mask_at, is_constant}
use Rattle.net_form.specs.Tables.{all_tables}
use Rattle.vc_live.specs.Rows.{live_at}
use Rattle.net_build.specs.Runs.{run_masks}
use Rattle.net_build.proofs.Ranges.{length-run, count_short, count_some}
use Rattle.net_build.proofs.Sizes.{small_block}
use Rattle.net_build.proofs.strands.strand.Goals as goal

module _ (code : VProc) (live : Lives) (v b l : ℕ) where
  long : (masks : List ℕ) (n : ℕ) → n ≡ length masks → masks ≡ run_masks code live v b l →
      n ≡ run_from all_tables code live v b l
  long masks n e is = e ∙ ap length is ∙ length-run (is_present all_tables code live v b)
      (mask_at all_tables code live v b) (layer_count code b) l

  some : l < layer_count code b → begins all_tables code live v b l ≡ true →
      0 < run_from all_tables code live v b l
  some lt begun = count_some (is_present all_tables code live v b)
      (mask_at all_tables code live v b) (layer_count code b) l lt
      (and_parts (is_present all_tables code live v b l) _ begun).0

  few : run_from all_tables code live v b l ≤ layer_count code b - l
  few = count_short (is_present all_tables code live v b) (mask_at all_tables code live v b)
      (layer_count code b) l

  made : (last : ℕ) (constant : Bool) (masks : List ℕ) → last ≡ l + run_from all_tables code live v
      b l - 1 → constant ≡ is_constant (kind_of code v) → masks ≡ run_masks code live v b l
      → record {
        var = record { 0 = v };
        block = record { 0 = b };
        first = l;
        last = last;
        constant = constant;
        masks = masks;
        entry_group = None;
        exit_group = None;
      } ≡
      strand all_tables code live v b l
  made last constant masks e k m =
      λ i. record {
        var = record { 0 = v };
        block = record { 0 = b };
        first = l;
        last = e i;
        constant = k i;
        masks = m i;
        entry_group = None;
        exit_group = None;
      }

pub last_of-requires-clause-some : goal.last_of-requires-clause-some
last_of-requires-clause-some c =
    let n = long c.args.code.now (live_at c.args.live.now) c.args.var c.args.block c.args.first
    c.in_ok-masks.masks c.len.result c.len.ensures c.in_ok-masks.ensures in
    let more = some c.args.code.now (live_at c.args.live.now) c.args.var c.args.block c.args.first
    c.requires.first c.requires.begins in
    omega (arith, n, more)

pub last_of-requires-clause-few : goal.last_of-requires-clause-few
last_of-requires-clause-few c =
    let n = long c.args.code.now (live_at c.args.live.now) c.args.var c.args.block c.args.first
    c.in_ok-masks.masks c.len.result c.len.ensures c.in_ok-masks.ensures in
    let most = few c.args.code.now (live_at c.args.live.now) c.args.var c.args.block c.args.first in
    let small = small_block c.args.code.now c.args.block c.requires.sized c.requires.block in
    omega (arith, n, most, small, c.requires.first)

pub returns : goal.returns
returns c =
    let code = c.args.code.now in
    let n = long code (live_at c.args.live.now) c.args.var c.args.block c.args.first
    c.in_ok-masks.masks c.len.result c.len.ensures c.in_ok-masks.ensures in
    made code (live_at c.args.live.now) c.args.var c.args.block c.args.first c.last_of.result
    c.is_constant.result c.in_ok-masks.masks
    (c.last_of.ensures ∙ ap (λ (k : ℕ). c.args.first + k - 1) n)
    (c.is_constant.ensures ∙ ap is_constant
    (get_or_read code.vars c.args.var c.index.result.now c.requires.var c.index.ensures Plain))
    c.in_ok-masks.ensures
