use Rattle.std.proofs.Common.{ℕ, ◌≡◌, ◌+◌, ◌-◌, ◌<◌, ◌≤◌, ◌∙◌, ◌++◌, List, length, None, sym, ap}
use Rattle.std.proofs.Common.{arith}
use Rattle.std.specs.List.{range_with_len, filter_map}
use Rattle.net_form.specs.declared.net.Strand.{Strand}
use Rattle.net_form.specs.Strands.{begun_strand}
use Rattle.net_form.specs.Tables.{all_tables}
use Rattle.vc_live.specs.Rows.{live_at}
use Rattle.net_build.proofs.Begun.{none_at_entry}
use Rattle.net_build.proofs.Presence.{begins_at_entry}
use Rattle.net_build.proofs.Ranges.{added_none, added_some}
use Rattle.net_build.proofs.strands.add_entry.Goals as goal

pub add_strand-requires-clause-begins : goal.add_strand-requires-clause-begins
add_strand-requires-clause-begins c = begins_at_entry c.args.code.now (live_at c.args.live.now)
    c.in-Some.var c.args.block c.in-Some.ensures.live

pub loop-var-preserved : goal.loop-var-preserved
loop-var-preserved c =
    let code = c.args.code.now in
    let live = live_at c.args.live.now in
    let f = begun_strand all_tables code live c.args.block 0 in
    let from = c.loop-var.from in
    let var = c.in-Some.var in
    let near = c.in-Some.ensures.least in
    let to : from + (var - from) ≡ var = omega (arith, near.0.0) in
    let none : (x : ℕ) → from ≤ x → x < from + (var - from) → f x ≡ None = λ x le lt.
    none_at_entry code live x c.args.block
    (near.1 x le (omega (arith, lt, to, near.0.1)) (omega (arith, lt, to))) in
    let between = sym (ap (λ (n : ℕ). filter_map f (range_with_len 0 n)) to) ∙ added_none f from
    (var - from) none in
    record {
      made = added_some f var c.args.out.now c.loop-var.out c.add_strand.new.out
          (c.loop-var.invariant.made ∙ sym (ap (λ (l : List Strand). c.args.out.now ++ l) between))
          c.in_ok-add_strand.ensures;
      within = omega (arith, near.0.1, c.len-end.ensures);
      end = c.len-end.ensures;
    }

pub returns : goal.returns
returns c =
    let code = c.args.code.now in
    let live = live_at c.args.live.now in
    let f = begun_strand all_tables code live c.args.block 0 in
    let from = c.loop-var.from in
    let n = length code.vars in
    let far = c.in_default.ensures.least in
    let to : from + (n - from) ≡ n = omega (arith, c.loop-var.invariant.within) in
    let none : (x : ℕ) → from ≤ x → x < from + (n - from) → f x ≡ None = λ x le lt.
    none_at_entry code live x c.args.block
    (far.1 x le (omega (arith, lt, to, c.len-end.ensures)) tt) in
    let rest = sym (ap (λ (n : ℕ). filter_map f (range_with_len 0 n)) to) ∙ added_none f from
    (n - from) none in
    c.loop-var.invariant.made ∙ sym (ap (λ (l : List Strand). c.args.out.now ++ l) rest)
