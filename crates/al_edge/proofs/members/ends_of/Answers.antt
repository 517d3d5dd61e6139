use Rattle.std.proofs.Common.{ℕ, ◌≡◌, ◌<◌, List, All, length, take, drop, get_or, ◌+◌, ◌-◌, ap, sym}
use Rattle.std.proofs.Common.{subst, ◌∙◌, arith}
use Rattle.std.proofs.lemmas.List.{get_or_read}
use Rattle.std.proofs.lemmas.List.Elements.{All-weaker}
use Rattle.net_form.specs.declared.net.TieEnd.{TieEnd}
use Rattle.al_edge.specs.GroupEnds.{ends_of}
use Rattle.al_edge.proofs.GroupMembers.{groups_long, in_order, inside, there, IsMember}
use Rattle.al_edge.proofs.GroupMembers.{all_members, few_ends}
use Rattle.al_edge.proofs.members.ends_of.Goals as goal

pub index-start-requires : goal.index-start-requires
index-start-requires c = let long = groups_long c.args.net.now c.requires.net in
    omega (arith, long, c.requires.group)

pub index-stop-requires : goal.index-stop-requires
index-stop-requires c = let long = groups_long c.args.net.now c.requires.net in
    omega (arith, long, c.requires.group)

pub part-requires-clause-order : goal.part-requires-clause-order
part-requires-clause-order c =
    let net = c.args.net.now in
    let g = c.args.group in
    let long = groups_long net c.requires.net in
    let from = get_or_read net.index.groups g c.index-start.result.now
    (omega (arith, long, c.requires.group)) c.index-start.ensures 0 in
    let to = get_or_read net.index.groups (g + 1) c.index-stop.result.now
    (omega (arith, long, c.requires.group)) c.index-stop.ensures 0 in
    let order = in_order net c.requires.net g c.requires.group in
    omega (arith, from, to, order)

pub part-requires-clause-within : goal.part-requires-clause-within
part-requires-clause-within c =
    let net = c.args.net.now in
    let g = c.args.group in
    let long = groups_long net c.requires.net in
    let to = get_or_read net.index.groups (g + 1) c.index-stop.result.now
    (omega (arith, long, c.requires.group)) c.index-stop.ensures 0 in
    let most = inside net c.requires.net g c.requires.group in
    let same = ap length c.as_slice.ensures in
    omega (arith, to, most, same)

-- they are the ends of the group
are : (c : goal.After-part) → c.part.result.now ≡ ends_of c.args.net.now c.args.group
are c =
    let net = c.args.net.now in
    let g = c.args.group in
    let long = groups_long net c.requires.net in
    let from = get_or_read net.index.groups g c.index-start.result.now
    (omega (arith, long, c.requires.group)) c.index-start.ensures 0 in
    let to = get_or_read net.index.groups (g + 1) c.index-stop.result.now
    (omega (arith, long, c.requires.group)) c.index-stop.ensures 0 in
    c.part.ensures
    ∙ ap (λ (k : ℕ). take (k - c.index-start.result.now) (drop c.index-start.result.now
    c.as_slice.result.now)) to
    ∙ ap (λ (k : ℕ). take (get_or net.index.groups (g + 1) 0 - k) (drop k
    c.as_slice.result.now)) from
    ∙ ap (λ (xs : List TieEnd). take (get_or net.index.groups (g + 1) 0 - get_or net.index.groups
    g 0) (drop (get_or net.index.groups g 0) xs)) c.as_slice.ensures
    ∙ there net c.requires.net g c.requires.group

pub returns-clause-value : goal.returns-clause-value
returns-clause-value c = are c

pub returns-clause-there : goal.returns-clause-there
returns-clause-there c =
    let net = c.args.net.now in
    subst (All (λ (e : TieEnd). e.strand < length net.strands)) (sym (are c))
    (All-weaker (IsMember net c.args.group) (λ (e : TieEnd). e.strand < length net.strands)
    (λ e member. member.there) (ends_of net c.args.group) (all_members net c.args.group))

pub returns-clause-few : goal.returns-clause-few
returns-clause-few c =
    let same = ap length (are c) in
    let few = few_ends c.args.net.now c.args.group in
    omega (arith, same, few)
