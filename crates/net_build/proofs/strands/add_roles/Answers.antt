use Rattle.std.proofs.Common.{ℕ, ◌≡◌, ◌+◌, ◌-◌, ◌<◌, ◌≤◌, ◌∙◌, ◌++◌, List, length, None, sym, ap}
use Rattle.std.proofs.Common.{arith}
use Rattle.std.specs.List.{range_with_len, filter_map, list_any}
use Rattle.pra_base.specs.Operands.{Role, is_role_of}
use Rattle.net_form.specs.declared.net.Strand.{Strand}
use Rattle.net_form.specs.Strands.{begun_strand}
use Rattle.net_form.specs.Tables.{all_tables}
use Rattle.vc_live.specs.Rows.{live_at}
use Rattle.net_build.proofs.Begun.{none_begun}
use Rattle.net_build.proofs.Ranges.{added_none, added_some}
use Rattle.net_build.proofs.Roles.{named_is}
use Rattle.net_build.proofs.strands.add_roles.Goals as goal

pub loop-var-preserved : goal.loop-var-preserved
loop-var-preserved c =
    let code = c.args.code.now in
    let live = live_at c.args.live.now in
    let f = begun_strand all_tables code live c.args.block c.args.layer in
    let from = c.loop-var.from in
    let var = c.in-Some.var in
    let near = c.in-Some.ensures in
    let to : from + (var - from) ≡ var = omega (arith, near.0.0) in
    let none : (x : ℕ) → from ≤ x → x < from + (var - from) → f x ≡ None = λ x le lt.
    none_begun code live c.requires.live x c.args.block c.args.layer c.requires.after
    c.requires.layer
    (sym (ap (λ (r : List Role). list_any (is_role_of x) r) c.requires.roles)
    ∙ sym (named_is c.args.roles.now x) ∙ near.1 x le (omega (arith, lt, to, near.0.1))
    (omega (arith, lt, to))) in
    let between = sym (ap (λ (n : ℕ). filter_map f (range_with_len 0 n)) to) ∙ added_none f from
    (var - from) none in
    record {
      made = added_some f var c.args.out.now c.loop-var.out c.add_begun.new.out
          (c.loop-var.invariant.made ∙ sym (ap (λ (l : List Strand). c.args.out.now ++ l) between))
          c.in_ok-add_begun.ensures;
      within = omega (arith, near.0.1, c.len-end.ensures);
      end = c.len-end.ensures;
    }

pub returns : goal.returns
returns c =
    let code = c.args.code.now in
    let live = live_at c.args.live.now in
    let f = begun_strand all_tables code live c.args.block c.args.layer in
    let from = c.loop-var.from in
    let n = length code.vars in
    let far = c.in_default.ensures in
    let to : from + (n - from) ≡ n = omega (arith, c.loop-var.invariant.within) in
    let none : (x : ℕ) → from ≤ x → x < from + (n - from) → f x ≡ None = λ x le lt.
    none_begun code live c.requires.live x c.args.block c.args.layer c.requires.after
    c.requires.layer
    (sym (ap (λ (r : List Role). list_any (is_role_of x) r) c.requires.roles)
    ∙ sym (named_is c.args.roles.now x) ∙ far.1 x le (omega (arith, lt, to, c.len-end.ensures)) tt)
    in
    let rest = sym (ap (λ (n : ℕ). filter_map f (range_with_len 0 n)) to) ∙ added_none f from
    (n - from) none in
    c.loop-var.invariant.made ∙ sym (ap (λ (l : List Strand). c.args.out.now ++ l) rest)
