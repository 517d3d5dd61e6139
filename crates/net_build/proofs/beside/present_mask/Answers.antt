use Rattle.std.proofs.Common.{true, false, Some, None, refl, sym, ◌∙◌}
use Rattle.vc_live.specs.Rows.{live_at}
use Rattle.net_build.proofs.Presence.{alone, absent, present, mask_there}
use Rattle.net_build.proofs.beside.present_mask.Goals as goal

pub returns-then-not-is_live : goal.returns-then-not-is_live
returns-then-not-is_live c =
    absent c.args.code.now (live_at c.args.live.now) c.args.var c.args.block c.args.layer None
    c.args.is_live false c.in-None.ensures c.requires.live refl
    (alone c.args.code.now (live_at c.args.live.now) c.args.var c.args.block c.args.layer
    c.args.is_live false c.if-not-is_live.true)

pub returns-else-not-is_live : goal.returns-else-not-is_live
returns-else-not-is_live c =
    present c.args.code.now (live_at c.args.live.now) c.args.var c.args.block c.args.layer None
    c.args.is_live false c.mask_alone.result c.in-None.ensures c.requires.live refl
    (alone c.args.code.now (live_at c.args.live.now) c.args.var c.args.block c.args.layer
    c.args.is_live true c.if-not-is_live.false) c.mask_alone.ensures

pub returns-then-not-is_there : goal.returns-then-not-is_there
returns-then-not-is_there c =
    absent c.args.code.now (live_at c.args.live.now) c.args.var c.args.block c.args.layer
    (Some c.in-Some.instr.now) c.args.is_live c.has_role_beside-named.result c.in-Some.ensures
    c.requires.live c.has_role_beside-named.ensures
    (sym c.is_there.ensures ∙ c.if-not-is_there.true)

pub returns-else-not-is_there : goal.returns-else-not-is_there
returns-else-not-is_there c =
    present c.args.code.now (live_at c.args.live.now) c.args.var c.args.block c.args.layer
    (Some c.in-Some.instr.now) c.args.is_live c.has_role_beside-named.result c.mask_beside.result
    c.in-Some.ensures c.requires.live c.has_role_beside-named.ensures
    (sym c.is_there.ensures ∙ c.if-not-is_there.false)
    (mask_there c.args.code.now (live_at c.args.live.now) c.args.var c.args.block c.args.layer
    c.in-Some.instr.now c.mask_beside.result c.in-Some.ensures c.mask_beside.ensures)
