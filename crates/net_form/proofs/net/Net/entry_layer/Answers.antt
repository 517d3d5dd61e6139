use Rattle.std.proofs.Common.{ℕ, ◌∙◌, get_or, ap, arith}
use Rattle.std.proofs.lemmas.List.{get_or_read}
use Rattle.net_form.specs.declared.net.Strand.{Strand}
use Rattle.net_form.specs.Admitted.{no_strand}
use Rattle.net_form.proofs.Layers.{layers_long, layers_at, in_layers}
use Rattle.net_form.proofs.net.Net.entry_layer.Goals as goal

pub index-requires-2 : goal.index-requires-2
index-requires-2 c =
    let net = c.args.self.now in
    let t = get_or_read net.strands c.args.strand c.index.result.now c.requires.strand
    c.index.ensures no_strand in
    let b = ap (λ (u : Strand). u.block.0) t in
    let within = (c.requires.net.strands c.args.strand no_strand c.requires.strand).block in
    let long = layers_long net c.requires.net in
    omega (arith, b, within, long)

pub returns-clause-value : goal.returns-clause-value
returns-clause-value c =
    let net = c.args.self.now in
    let t = get_or_read net.strands c.args.strand c.index.result.now c.requires.strand
    c.index.ensures no_strand in
    let b = ap (λ (u : Strand). u.block.0) t in
    let within = (c.requires.net.strands c.args.strand no_strand c.requires.strand).block in
    let long = layers_long net c.requires.net in
    get_or_read net.index.layers c.index.result.now.block.0 c.index-2.result.now
    (omega (arith, b, within, long)) c.index-2.ensures 0
    ∙ ap (λ (n : ℕ). get_or net.index.layers n 0) b
    ∙ layers_at net c.requires.net (get_or net.strands c.args.strand no_strand).block.0 within

pub returns-clause-within : goal.returns-clause-within
returns-clause-within c =
    let value = returns-clause-value c in
    let within = in_layers c.args.self.now c.requires.net c.args.strand c.requires.strand in
    omega (arith, value, within)
