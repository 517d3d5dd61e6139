use Rattle.std.proofs.Common.{◌∙◌, arith}
use Rattle.std.proofs.lemmas.List.{get_or_read}
use Rattle.net_form.proofs.ExtrasInOrder.{extras_long, extras_begin}
use Rattle.net_form.proofs.net.Net.first_extra.Goals as goal

pub index-requires : goal.index-requires
index-requires c = let long = extras_long c.args.self.now c.requires.net in omega (arith, long)

pub returns : goal.returns
returns c =
    let net = c.args.self.now in
    let long = extras_long net c.requires.net in
    get_or_read net.index.extras c.args.strand c.index.result.now (omega (arith, long))
    c.index.ensures 0
    ∙ extras_begin net c.requires.net c.requires.extras c.args.strand c.requires.strand
