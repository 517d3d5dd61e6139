use Rattle.std.proofs.Common.{ℕ, ◌+◌, ◌∙◌, Some, None, cond, false, length, get_or, sym, ap, arith}
use Rattle.std.specs.Prelude.{count_by}
use Rattle.std.specs.List.{range_with_len}
use Rattle.std.proofs.lemmas.List.{get_or_read}
use Rattle.std.proofs.lemmas.List.FromFn.{length-map-range_with_len}
use Rattle.net_build.specs.Grouped.{leading}
use Rattle.net_build.specs.Labels.{parent}
use Rattle.net_build.proofs.groups.Groups.of.Goals as goal

pub index-requires-then-index : goal.index-requires-then-index
index-requires-then-index c =
    let g = c.args.self.now in
    let long = ap length c.requires.groups.numbers ∙ length-map-range_with_len
    (λ e. count_by (leading g.tied g.least) (range_with_len 0 e)) 0 (length g.least + 1) in
    let low = c.requires.groups.down c.args.end in
    omega (arith, long, low, c.parent.ensures, c.requires.end)

pub returns-then-index : goal.returns-then-index
returns-then-index c =
    let g = c.args.self.now in
    let end = c.args.end in
    let long = ap length c.requires.groups.numbers ∙ length-map-range_with_len
    (λ e. count_by (leading g.tied g.least) (range_with_len 0 e)) 0 (length g.least + 1) in
    let low = c.requires.groups.down end in
    let count = c.requires.groups.count in
    let tied = sym (get_or_read g.tied end c.index.result.now (omega (arith, count, c.requires.end))
    c.index.ensures false) ∙ c.if-index.true in
    let number = get_or_read g.numbers c.parent.result c.index-then-index.result.now
    (omega (arith, long, low, c.parent.ensures, c.requires.end)) c.index-then-index.ensures 0 in
    ap (λ (n : ℕ). Some n) (number ∙ ap (λ (k : ℕ). get_or g.numbers k 0) c.parent.ensures)
    ∙ sym (ap (λ t. cond t (Some (get_or g.numbers (parent g.least end) 0)) None) tied)
