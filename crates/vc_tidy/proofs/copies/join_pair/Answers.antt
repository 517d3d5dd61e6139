use Rattle.std.proofs.Common.{refl, sym, arith}
use Rattle.vc_tidy.proofs.Grouped.{class_is, alone_name, pair_cant, pair_turned}
use Rattle.vc_tidy.proofs.copies.join_pair.Goals as goal

pub returns-then-is_plain-clause-apart : goal.returns-then-is_plain-clause-apart
returns-then-is_plain-clause-apart c = λ e alone ne tl sl can apart.
    let names = c.args.classes.now.names.items in
    let one_is = class_is names c.args.t c.index-one.result.now
    (omega (arith, c.if-t-count.false, c.len-count.ensures)) c.index-one.ensures in
    let other_is = class_is names c.args.s c.index-other.result.now
    (omega (arith, c.if-s-count.false, c.len-count.ensures)) c.index-other.ensures in
    pair_cant c.args.code.now c.args.t c.args.s c.index-one.result.now c.index-other.result.now
    (alone_name c.args.code.now c.args.classes.now alone c.args.t c.index-one.result.now one_is)
    (alone_name c.args.code.now c.args.classes.now alone c.args.s c.index-other.result.now
    other_is) (c.in_ok-joined.ensures.apart e alone) (c.if-is_plain.ensures.plain refl) ne tl can
    apart

pub returns-clause-joined : goal.returns-clause-joined
returns-clause-joined c = λ e.
    let names = c.args.classes.now.names.items in
    let one_is = class_is names c.args.t c.index-one.result.now
    (omega (arith, c.if-t-count.false, c.len-count.ensures)) c.index-one.ensures in
    let other_is = class_is names c.args.s c.index-other.result.now
    (omega (arith, c.if-s-count.false, c.len-count.ensures)) c.index-other.ensures in
    sym (c.in_ok-joined-2.ensures.joined e c.args.s c.args.t (sym other_is) (sym one_is))

pub returns-clause-apart : goal.returns-clause-apart
returns-clause-apart c = λ e alone ne tl sl can apart.
    let names = c.args.classes.now.names.items in
    let one_is = class_is names c.args.t c.index-one.result.now
    (omega (arith, c.if-t-count.false, c.len-count.ensures)) c.index-one.ensures in
    let other_is = class_is names c.args.s c.index-other.result.now
    (omega (arith, c.if-s-count.false, c.len-count.ensures)) c.index-other.ensures in
    pair_turned c.args.code.now c.args.t c.args.s c.index-one.result.now c.index-other.result.now
    (alone_name c.args.code.now c.args.classes.now alone c.args.t c.index-one.result.now one_is)
    (alone_name c.args.code.now c.args.classes.now alone c.args.s c.index-other.result.now
    other_is) (c.in_ok-joined-2.ensures.apart e alone) (c.if-is_plain.ensures.other refl) ne tl sl
    can apart
