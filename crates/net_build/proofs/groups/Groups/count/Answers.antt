use Rattle.std.proofs.Common.{ℕ, ◌+◌, ◌∙◌, length, get_or, ap, arith}
use Rattle.std.specs.Prelude.{count_by}
use Rattle.std.specs.List.{range_with_len}
use Rattle.std.proofs.lemmas.List.{get_or_read}
use Rattle.std.proofs.lemmas.List.FromFn.{length-map-range_with_len, get_or-map-range_with_len}
use Rattle.net_build.specs.Grouped.{leading}
use Rattle.net_build.proofs.groups.Groups.count.Goals as goal

pub index-requires : goal.index-requires
index-requires c =
    let g = c.args.self.now in
    let long = ap length c.requires.numbers ∙ length-map-range_with_len
    (λ e. count_by (leading g.tied g.least) (range_with_len 0 e)) 0 (length g.least + 1) in
    omega (arith, long, c.len.ensures)

pub returns : goal.returns
returns c =
    let g = c.args.self.now in
    let f : ℕ → ℕ = λ e. count_by (leading g.tied g.least) (range_with_len 0 e) in
    let n = length g.least in
    let long = ap length c.requires.numbers ∙ length-map-range_with_len f 0 (n + 1) in
    get_or_read g.numbers c.len.result c.index.result.now (omega (arith, long, c.len.ensures))
    c.index.ensures 0
    ∙ (λ i. get_or (c.requires.numbers i) (c.len.ensures i) 0)
    ∙ get_or-map-range_with_len f 0 (n + 1) n n 0 (omega arith) (omega arith)
