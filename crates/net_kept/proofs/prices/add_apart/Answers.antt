use Rattle.std.proofs.Common.{rules, w64}
use mir.Val.{SFits}
use Rattle.std.proofs.lemmas.Int.{to_z-of_z}
use Rattle.net_kept.proofs.JoinedNumbers.{added}
use Rattle.net_kept.proofs.prices.add_apart.Goals as goal

pub returns : goal.returns
returns c =
    let fits : SFits w64 c.args.entry.number = search rules in
    rw (
      c.in_ok-push.ensures.items,
      c.in_ok-push-2.ensures.items,
      c.in_ok-short.ensures,
      to_z-of_z w64 c.args.entry.number fits,
    )
    (added c.args.indexes.now.items c.args.numbers.now.items c.args.entry.index
    c.args.entry.number c.requires)
