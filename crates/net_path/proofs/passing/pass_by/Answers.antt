use Rattle.std.proofs.Common.{◌≡◌, ◌+◌, length, w64, to_z, of_z, rules, arith, refl, sym, subst, ℤ}
use mir.Val.{SFits}
use Rattle.std.proofs.lemmas.Int.{to_z-of_z}
use Rattle.net_form.specs.Admitted.{strand_at}
use Rattle.net_path.specs.Passing.{IsLeastAnyhow}
use Rattle.net_path.proofs.InMemory.{least_anyhow}
use Rattle.net_path.proofs.passing.pass_by.Goals as goal

pub returns-in-Some-clause-least : goal.returns-in-Some-clause-least
returns-in-Some-clause-least c =
    let net = c.args.net.now in
    let s = c.args.strand in
    let path = c.stay_in_memory.new.path in
    let fits : SFits w64 c.in-Some.cost = search rules in
    let whole : to_z w64 (of_z w64 c.in-Some.cost) ≡ c.in-Some.cost =
    to_z-of_z w64 c.in-Some.cost fits in
    let long : (strand_at net s).first + length path ≡ (strand_at net s).last + 1 =
    omega (arith, c.requires.path, c.stay_in_memory.ensures.long) in
    subst (λ (z : ℤ). IsLeastAnyhow net c.args.prices.now c.args.ends s path z) (sym whole)
    (least_anyhow net c.requires.net c.args.prices.now c.requires.prices c.args.ends s c.requires.strand
    path c.in-Some.cost long c.stay_in_memory.ensures.memory
    (c.requires.note.by (c.if-not-may_pass.ensures refl)) (c.in-Some.ensures))
