use Rattle.std.proofs.Common.{◌≡◌, ℕ, ◌<◌, true, length, List, [], ◌∷◌, ◌++◌, Contains, get_or}
use Rattle.std.proofs.Common.{refl, sym, ap, subst, ◌∙◌, arith}
use Rattle.std.proofs.lemmas.List.{length-set, take_all}
use Rattle.pra_list.proofs.Truths.{true_false}
use Rattle.vc_code.specs.declared.row.Role.{Role}
use Rattle.vc_live.specs.Equations.{named_in}
use Rattle.vc_live.proofs.Steps.{no_role, named_none, named_at}
use Rattle.vc_tidy.specs.declared.places.Place.{Place}
use Rattle.vc_tidy.specs.Joined.{places_of}
use Rattle.vc_tidy.specs.Places.{Keep}
use Rattle.vc_tidy.proofs.Noted.{keeps_itself, keeps_on, keeps_added, added, noted_more}
use Rattle.vc_tidy.proofs.places.note.Goals as goal

pub loop-role-init : goal.loop-role-init
loop-role-init c = record {
  count = refl;
  kept = keeps_itself c.args.lists.now.items;
  noted =
      λ v named. absurd (true_false (named_in [] v) named (named_none v));
}

pub add-requires : goal.add-requires
add-requires c = omega (
  arith,
  c.requires (get_or c.args.roles.now c.loop-role.role-index no_role).var.0
      (named_at c.args.roles.now c.loop-role.role-index no_role c.loop-role-test.true),
  c.loop-role.invariant.count,
)

pub loop-role-preserved : goal.loop-role-preserved
loop-role-preserved c =
    let lists = c.loop-role.lists.items in
    let v = (get_or c.args.roles.now c.loop-role.role-index no_role).var.0 in
    let more = places_of lists v ++ c.args.place ∷ [] in
    let lt : v < length lists =
    omega (
      arith,
      c.requires v
          (named_at c.args.roles.now c.loop-role.role-index no_role c.loop-role-test.true),
      c.loop-role.invariant.count,
    ) in
    let keep : Keep lists c.add.new.lists.items = subst (λ (ls : List (List Place)). Keep lists ls)
    (sym c.in_ok-add.ensures.ok) (keeps_added lists v c.args.place lt) in
    record {
      count = ap length c.in_ok-add.ensures.ok ∙ length-set lists v more
          ∙ c.loop-role.invariant.count;
      kept = keeps_on c.args.lists.now.items lists c.add.new.lists.items c.loop-role.invariant.kept
          keep;
      noted = noted_more c.args.roles.now c.loop-role.role-index lists c.add.new.lists.items
          c.args.place c.loop-role-test.true keep
          (subst (λ (ls : List (List Place)). Contains (places_of ls v) c.args.place)
          (sym c.in_ok-add.ensures.ok) (added lists v c.args.place lt))
          c.loop-role.invariant.noted;
    }

pub returns-clause-noted : goal.returns-clause-noted
returns-clause-noted c =
    subst (λ (rs : List Role). (v : ℕ) → named_in rs v ≡ true →
    Contains (places_of c.loop-role.lists.items v) c.args.place)
    (take_all c.loop-role.role-index c.args.roles.now (omega arith)) c.loop-role.invariant.noted
