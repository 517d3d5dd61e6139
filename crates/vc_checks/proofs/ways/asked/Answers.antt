use Rattle.std.proofs.Common.{◌≡◌, ◌-◌, suc, length, Some, ap, sym, ◌∙◌, None, arith}
use Rattle.std.proofs.lemmas.Bool.Decides.{nat_tests}
use Rattle.std.proofs.lemmas.List.{get_or_read}
use Rattle.vc_checks.proofs.Walking.{no_instr}
use Rattle.vc_checks.proofs.Leaving.{last_is}
use Rattle.vc_checks.proofs.ways.asked.Goals as goal

pub returns-in-Branch-Cmp : goal.returns-in-Branch-Cmp
returns-in-Branch-Cmp c =
    let code = c.args.block.now.code in
    let count : c.len-count.result ≡ length code = c.len-count.ensures in
    let some = c.if-count-eq0.false in
    let more : length code ≡ suc (c.len-count.result - 1) = grind (arith, nat_tests) in
    record {
      one = c.in-Branch-Cmp.field-1-0;
      other = c.in-Branch-Cmp.field-2-0;
      last = last_is None code no_instr (c.len-count.result - 1) more
          ∙ ap Some (sym (get_or_read code (c.len-count.result - 1) c.index.result.now
          (omega (arith, more)) c.index.ensures no_instr) ∙ c.in-Branch-Cmp.is-1);
      end = c.in-Branch-Cmp.is-0;
    }
