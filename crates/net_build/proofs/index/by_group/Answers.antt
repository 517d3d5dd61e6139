use Rattle.std.proofs.Common.{ℕ, ◌≡◌, ◌<◌, ◌∙◌, List, length, map, All, subst, sym, ap}
use Rattle.std.proofs.lemmas.List.{length-map}
use Rattle.net_form.specs.declared.net.TieEnd.{TieEnd}
use Rattle.net_form.specs.Index.{Member, members, beginnings}
use Rattle.net_build.specs.Owners.{by_owner, end_at}
use Rattle.net_build.proofs.Indexing.{within, beginnings_of, group_list}
use Rattle.net_build.proofs.index.by_group.Goals as goal

pub ends_in_order-requires : goal.ends_in_order-requires
ends_in_order-requires c =
    let owners = c.in_ok-members.members.owners in
    let ms = members c.args.strands.now in
    let count : length owners ≡ length c.in_ok-members.members.ends =
    ap length c.in_ok-members.ensures.owners ∙ length-map ms (λ (m : Member). m.group)
    ∙ sym (length-map ms (λ (m : Member). m.at))
    ∙ sym (ap length c.in_ok-members.ensures.ends) in
    subst (λ (n : ℕ). All (λ (i : ℕ). i < n) c.in_ok-order.order) count
    (subst (All (λ (i : ℕ). i < length owners)) (sym c.in_ok-order.ensures)
    (within owners c.args.groups))

pub returns-clause-first : goal.returns-clause-first
returns-clause-first c =
    c.first.view_is ∙ c.in_ok-first.ensures
    ∙ ap (λ (l : List ℕ). beginnings (λ o. o) l c.args.groups) c.in_ok-members.ensures.owners
    ∙ beginnings_of (λ (m : Member). m.group) (members c.args.strands.now) c.args.groups

pub returns-clause-ends : goal.returns-clause-ends
returns-clause-ends c =
    c.in_ok-ends_in_order.ensures
    ∙ ap (map (end_at c.in_ok-members.members.ends))
    (c.in_ok-order.ensures ∙ ap (λ (l : List ℕ). by_owner l c.args.groups)
    c.in_ok-members.ensures.owners)
    ∙ ap (λ (l : List TieEnd). map (end_at l)
    (by_owner (map (λ (m : Member). m.group) (members c.args.strands.now)) c.args.groups))
    c.in_ok-members.ensures.ends
    ∙ group_list (members c.args.strands.now) c.args.groups
