use Rattle.std.proofs.Common.{ℕ, List, refl, subst, ◌⊎◌}
use Rattle.vc_tidy.specs.Joined.{SomeMeet, NoneMeet, group_of}
use Rattle.vc_tidy.proofs.Grouped.{group_is, group_joinable, alone_cant, plain_joinable}
use Rattle.vc_tidy.proofs.Grouped.{classes_joined, now_one}
use Rattle.vc_tidy.proofs.copies.join_classes.Goals as goal

pub either_meets-requires-clause-one : goal.either_meets-requires-clause-one
either_meets-requires-clause-one c =
    group_joinable c.args.code.now c.args.classes.now c.requires.classes c.args.to
    (c.if-not-is_joinable.ensures.joinable refl)
    c.as_slice-first.result.now c.index.result.now c.index.ensures c.as_slice-first.ensures

pub either_meets-requires-clause-other : goal.either_meets-requires-clause-other
either_meets-requires-clause-other c =
    group_joinable c.args.code.now c.args.classes.now c.requires.classes c.args.from
    (plain_joinable c.args.code.now c.args.from (c.if-not-is_plain.ensures.plain refl))
    c.as_slice-second.result.now c.index-2.result.now c.index-2.ensures
    c.as_slice-second.ensures

pub returns-then-either_meets-clause-apart : goal.returns-then-either_meets-clause-apart
returns-then-either_meets-clause-apart c = λ e alone other joinable plain apart.
    let from_joinable = plain_joinable c.args.code.now c.args.from plain in
    let first = group_is c.args.code.now c.args.classes.now c.requires.classes c.args.to joinable
    c.as_slice-first.result.now c.index.result.now c.index.ensures c.as_slice-first.ensures in
    let second = group_is c.args.code.now c.args.classes.now c.requires.classes c.args.from
    from_joinable c.as_slice-second.result.now c.index-2.result.now c.index-2.ensures
    c.as_slice-second.ensures in
    alone_cant c.args.code.now c.args.classes.now alone c.args.to c.args.from joinable
    from_joinable
    (subst (λ (g : List ℕ). SomeMeet c.args.code.now g
    (group_of c.args.classes.now.groups.items c.args.from) ⊎
    SomeMeet c.args.code.now (group_of c.args.classes.now.groups.items c.args.from)
    g) first
    (subst (λ (g : List ℕ). SomeMeet c.args.code.now c.as_slice-first.result.now g ⊎
    SomeMeet c.args.code.now g c.as_slice-first.result.now) second
    (c.if-either_meets.ensures.some refl)))
    apart

pub returns-clause-classes : goal.returns-clause-classes
returns-clause-classes c =
    let joinable = c.if-not-is_joinable.ensures.joinable refl in
    let plain = c.if-not-is_plain.ensures.plain refl in
    let first = group_is c.args.code.now c.args.classes.now c.requires.classes c.args.to joinable
    c.as_slice-first.result.now c.index.result.now c.index.ensures c.as_slice-first.ensures in
    let second = group_is c.args.code.now c.args.classes.now c.requires.classes c.args.from
    (plain_joinable c.args.code.now c.args.from plain) c.as_slice-second.result.now
    c.index-2.result.now c.index-2.ensures c.as_slice-second.ensures in
    classes_joined c.args.code.now c.args.classes.now c.join.new.self c.requires.classes
    c.args.to c.args.from c.if-to-from.false joinable plain
    c.in_ok-join.ensures.count c.in_ok-join.ensures.names c.in_ok-join.ensures.groups
    (subst (λ (g : List ℕ). NoneMeet c.args.code.now g
    (group_of c.args.classes.now.groups.items c.args.from)) first
    (subst (λ (g : List ℕ). NoneMeet c.args.code.now c.as_slice-first.result.now g) second
    (c.if-either_meets.ensures.there refl)))
    (subst (λ (g : List ℕ). NoneMeet c.args.code.now
    (group_of c.args.classes.now.groups.items c.args.from) g) first
    (subst (λ (g : List ℕ). NoneMeet c.args.code.now g c.as_slice-first.result.now) second
    (c.if-either_meets.ensures.back refl)))

pub returns-clause-joined : goal.returns-clause-joined
returns-clause-joined c = λ e.
    now_one c.args.code.now c.args.classes.now c.join.new.self c.requires.classes
    c.args.to c.args.from c.if-to-from.false (c.if-not-is_joinable.ensures.joinable refl)
    (c.if-not-is_plain.ensures.plain refl) c.in_ok-join.ensures.count
    c.in_ok-join.ensures.names c.in_ok-join.ensures.groups
