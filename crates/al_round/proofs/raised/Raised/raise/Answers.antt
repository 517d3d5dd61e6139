use Rattle.std.proofs.Common.{◌≡◌, ◌∙◌, ap, arith, to_z, of_z, rules}
use Rattle.std.specs.Int.{w128}
use Rattle.std.proofs.lemmas.Int.{ints, to_z-of_z}
use Rattle.al_round.specs.Noted.{noted}
use Rattle.al_round.proofs.raised.Raised.raise.Goals as goal

pub returns-clause-noted : goal.returns-clause-noted
returns-clause-noted g c =
    let n = c.in_round-sweeps.result in
    let gained = c.is_gained-gained.result in
    let old = c.args.self.now.value in
    let new = c.sweep.new.self.value in
    let was : to_z w128 (of_z w128 old) ≡ old = to_z-of_z w128 old (search rules) in
    let is : to_z w128 (of_z w128 new) ≡ new = to_z-of_z w128 new (search rules) in
    let not = c.if-sweeps-eq0.false in
    record {
      sweeps = n;
      none = λ zero. absurd (not zero);
      some = λ s. record {
        gained = gained;
        noted = c.note.ensures ∙ ap (λ t. noted t n gained) c.sweep.ensures.sweeps;
        rose = λ t. let rose = c.is_gained-gained.ensures.rose t in
            omega (arith, ints, rose, was, is);
        stayed = λ t. let stayed = c.is_gained-gained.ensures.stayed t in
            omega (arith, ints, stayed, was, is);
      };
    }
