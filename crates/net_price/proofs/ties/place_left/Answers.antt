use Rattle.std.proofs.Common.{ℕ, ◌≡◌, ◌∙◌, count_by, ap, arith}
use Rattle.std.proofs.lemmas.List.{get_or_read}
use Rattle.net_form.specs.declared.net.Strand.{Strand}
use Rattle.net_form.specs.declared.net.Tie.{Tie}
use Rattle.net_form.specs.Admitted.{no_strand, no_tie, tie_at, exits_at}
use Rattle.net_form.specs.Flow.{flow, arrives}
use Rattle.net_price.proofs.ties.place_left.Goals as goal

pub returns : goal.returns
returns c q =
    let net = c.args.net.now in
    let f = flow net c.args.family.now in
    let i = c.args.tie in
    let t = c.index.result.now in
    let tie : t ≡ tie_at net i = get_or_read net.ties i t c.requires.tie c.index.ensures no_tie in
    let end = ap (λ (t : Tie). t.from) tie in
    let there = c.requires.net.formed.ties i no_tie c.requires.tie in
    let layer = ap (λ (u : Strand). u.last) (get_or_read net.strands t.from c.index-2.result.now
    (omega (arith, end, there)) c.index-2.ensures no_strand) in
    c.place_at.ensures q
    ∙ ap (λ (l : ℕ). count_by (arrives t.from l q) f) layer
    ∙ ap (λ (t : Tie). count_by (exits_at net t q) f) tie
