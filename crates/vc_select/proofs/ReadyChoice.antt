-- Code for `&` and OR over blocks keeps the rules and a certificate.
use Rattle.std.proofs.Common.{◌≡◌, ◌≢◌, ℕ, ◌<◌, ◌≤◌, Bool, true, List, [], length, inl, inr, ⊎_elim}
use Rattle.std.proofs.Common.{◌⊎◌, refl, sym, ap, ◌∙◌, subst, arith}
use Rattle.std.specs.Prelude.{nat_eq, ◌||◌}
use Rattle.std.proofs.lemmas.Bool.Decides.{nat_tests}
use Rattle.pra_list.proofs.Truths.{or_cases}
use Rattle.pra_base.specs.Code.{kind_of, code_of}
use Rattle.pra_base.specs.declared.code.Block.{Block}
use Rattle.pra_base.specs.declared.code.VProc.{VProc}
use Rattle.ob_syntax.specs.declared.checked.ROp.{ROp}
use Rattle.vc_build.specs.Grow.{count, IsOpen, Grows, GrowsAt}
use Rattle.vc_expr.specs.Choices.{test_of, OpensChoice}
use Rattle.vc_expr.specs.Readable.{is_constant, readable, Entries, usable, Certifies, Publishes}
use Rattle.vc_expr.specs.Readable.{PublishesNew, PublishesTo}
use Rattle.vc_expr.specs.Rules.{KeepsRules, StaysValid}
use Rattle.vc_expr.specs.declared.choice.Choice.{Choice}
use Rattle.vc_expr.proofs.Unread.{certifies_other}
use Rattle.vc_select.specs.declared.target.Setting.{Setting}
use Rattle.vc_select.specs.Targets.{above_setting}
use Rattle.vc_select.specs.Certified.{AddsNoParam, IsReady, Continues, StaysReady, IsAnswer, Awaits}
use Rattle.vc_select.specs.Certified.{Closes, EndsReady}
use Rattle.vc_select.proofs.Ready.{ready_on}
use Rattle.vc_select.proofs.ReadyTests.{with_entries, entries_before, entries_from, or_second, seen}
use Rattle.vc_select.proofs.ReadyTests.{is_seen, was_seen, usable_empty, usable_waiting}
use Rattle.vc_select.proofs.Walking.{test_holds, test_fails}

is_that : (v u : ℕ) → nat_eq v u ≡ true → v ≡ u
is_that v u e = grind (arith, nat_tests)

that_is : (v u : ℕ) → v ≡ u → nat_eq v u ≡ true
that_is v u e = grind (arith, nat_tests)

or_first : (a b : Bool) → a ≡ true → (a || b) ≡ true
or_first a b e = ap (λ x. x || b) e

module _ (g : Setting) (op : ROp) (old m1 m2 m3 new : VProc) (from to v : ℕ) (choice : Choice)
    (o : IsOpen old from) (low : above_setting g ≤ length old.vars)
    (opens : OpensChoice op from old m1 choice) (params1 : AddsNoParam old m1)
    (valid1 : StaysValid old m1) (reads1 : PublishesNew from old m1 choice.target.0)
    (left : EndsReady g m1 m2 from (test_of op choice)) (grows2 : GrowsAt from m1 m2)
    (params2 : AddsNoParam m1 m2)
    (right : StaysReady g (length m2.vars) m2 m3 choice.right.0 to (IsAnswer v))
    (grows3 : GrowsAt choice.right.0 m2 m3) (params3 : AddsNoParam m2 m3)
    (apart : (b : ℕ) → b < count m2 → b ≢ choice.right.0 → b ≢ to)
    (grows4 : GrowsAt to m3 new) (params4 : AddsNoParam m3 new)
    (valid4 : choice.target.0 ≢ v → StaysValid m3 new)
    (reads4 : PublishesTo to m3 new v choice.target.0 choice.behind.0) where
  abbrev t : ℕ
  t = choice.target.0

  grows1 : Grows old m1
  grows1 = opens.adds.grows.grows

  target_off : t ≢ v
  target_off e = ⊎_elim
      (λ (h : v < above_setting g). omega (arith, e, h, low, opens.adds.above))
      (λ (n : length m2.vars ≤ v). omega (arith, e, n, opens.adds.named, grows2.grows.vars))
      (right.fresh v refl)

  right_apart : choice.right.0 ≢ from
  right_apart e = omega (arith, e, opens.right, o.0)

  behind_apart : choice.behind.0 ≢ from
  behind_apart e = omega (arith, e, opens.behind, o.0)

  behind_right : choice.behind.0 ≢ choice.right.0
  behind_right e = omega (arith, e, opens.behind, opens.right)

  right_there : choice.right.0 < count m1
  right_there = omega (arith, opens.right, opens.blocks)

  behind_there : choice.behind.0 < count m1
  behind_there = omega (arith, opens.behind, opens.blocks)

  behind_two : choice.behind.0 < count m2
  behind_two = omega (arith, behind_there, grows2.grows.blocks)

  behind_three : choice.behind.0 < count m3
  behind_three = omega (arith, behind_two, grows3.grows.blocks)

  behind_to : choice.behind.0 ≢ to
  behind_to = apart choice.behind.0 behind_two behind_right

  behind_empty : code_of new choice.behind.0 ≡ []
  behind_empty = ap (λ (x : Block). x.code) (grows4.others choice.behind.0 behind_three behind_to
      ∙ grows3.others choice.behind.0 behind_two behind_right ∙ grows2.others choice.behind.0
      behind_there behind_apart ∙ opens.behind_block)

  module _ (counts : List ℕ) (known : Entries) (r : IsReady g counts known old from) where
    abbrev offered : ℕ → Bool
    offered u = seen known old from u || nat_eq u t

    abbrev first : Entries
    first = with_entries (count old) offered known

    before : (b u : ℕ) → b < count old → first b u ≡ known b u
    before b u lt = entries_before (count old) offered known b u lt

    there : (b u : ℕ) → count old ≤ b → first b u ≡ offered u
    there b u le = entries_from (count old) offered known b u le

    usable_old : (u : ℕ) → usable known old from u ≡ true → usable first old from u ≡ true
    usable_old u is = ap (λ e. is_constant (kind_of old u) || readable e (code_of old from) u)
        (before from u o.0) ∙ is

    p1 : Publishes first (length old.vars) from old m1 t
    p1 = reads1.reads first (certifies_other counts known first old r.rules before r.certifies)

    rules1 : KeepsRules counts m1
    rules1 = valid1.stays counts r.rules

    ready1 : IsReady g counts first m1 from
    ready1 = ready_on g counts known first (length old.vars) old m1 from from low grows1.args
        params1 r rules1 p1.certifies (λ u lt is. p1.others u lt (usable_old u is))

    -- what the new blocks may read
    offers : (b u : ℕ) → count old ≤ b → u < length old.vars → usable known old from u ≡ true →
        first b u ≡ true
    offers b u le lt is = there b u le ∙ or_first (seen known old from u) (nat_eq u t)
        (is_seen known old from u lt is)

    offers_target : (b : ℕ) → count old ≤ b → first b t ≡ true
    offers_target b le = there b t le ∙ or_second (seen known old from t) (nat_eq t t)
        (that_is t t refl)

    -- and that it may be read here
    offered_is : (b u : ℕ) → count old ≤ b → first b u ≡ true →
        ((u < length old.vars) × (usable known old from u ≡ true)) ⊎ (u ≡ t)
    offered_is b u le is = ⊎_elim
        (λ (e : seen known old from u ≡ true). inl (was_seen known old from u e))
        (λ (e : nat_eq u t ≡ true). inr (is_that u t e))
        (or_cases (seen known old from u) (nat_eq u t) (sym (there b u le) ∙ is))

    awaits : (b : ℕ) → count old ≤ b → Awaits first b m1 from
    awaits b le u is = ⊎_elim
        (λ (w : (u < length old.vars) × (usable known old from u ≡ true)).
        (omega (arith, w.0, grows1.vars), p1.others u w.0 (usable_old u w.1)))
        (λ (e : u ≡ t). (
          omega (arith, e, opens.adds.named),
          subst (λ z. usable first m1 from z ≡ true) (sym e) p1.result,
        ))
        (offered_is b u le is)

    abbrev Waits : ℕ → Type 0
    Waits b = (0 < b) × Awaits first b m1 from

    waits_right : Waits choice.right.0
    waits_right = (
      omega (arith, opens.right, o.0),
      awaits choice.right.0 (omega (arith, opens.right)),
    )

    waits_behind : Waits choice.behind.0
    waits_behind = (
      omega (arith, opens.behind),
      awaits choice.behind.0 (omega (arith, opens.behind)),
    )

    on_holds : Waits (test_of op choice).holds.0
    on_holds = test_holds choice Waits waits_right waits_behind op

    on_fails : Waits (test_of op choice).fails.0
    on_fails = test_fails choice Waits waits_right waits_behind op

    second : Closes g counts first m1 m2 from
    second = left.stays counts first ready1 on_holds.0 on_fails.0 on_holds.1 on_fails.1

    right_empty : code_of m1 choice.right.0 ≡ []
    right_empty = ap (λ (x : Block). x.code) opens.right_block

    right_usable : (u : ℕ) → u < length old.vars → usable known old from u ≡ true →
        usable first m1 choice.right.0 u ≡ true
    right_usable u lt is = usable_empty first m1 choice.right.0 u right_empty
        (offers choice.right.0 u (omega (arith, opens.right)) lt is)

    ready_right : IsReady g counts first m1 choice.right.0
    ready_right = ready_on g counts known first (length old.vars) old m1 from choice.right.0 low
        grows1.args params1 r rules1 p1.certifies right_usable

    third : Continues g counts second.next (length m2.vars) m2 m3 choice.right.0 to (IsAnswer v)
    third = right.stays counts second.next
        (second.waiting choice.right.0 right_there right_apart ready_right)

    -- of the first variables, what might be read where the choice was opened may be read behind the
    -- right side
    on_third : (u : ℕ) → u < length old.vars → usable known old from u ≡ true →
        usable third.next m3 to u ≡ true
    on_third u lt is =
        let wide : u < length m1.vars = omega (arith, lt, grows1.vars) in
        third.others u (omega (arith, wide, grows2.grows.vars))
        (usable_waiting first second.next m1 m2 from second.same grows2 choice.right.0 u
        right_there right_apart wide (right_usable u lt is))

    same_three : (b u : ℕ) → b < count m1 → third.next b u ≡ first b u
    same_three b u lt = third.same b u (omega (arith, lt, grows2.grows.blocks)) ∙ second.same b u lt

    certified : Certifies third.next new
    certified =
        reads4.reads third.next third.ready.certifies (third.answer v refl)
        (λ u is off. ⊎_elim
        (λ (w : (u < length old.vars) × (usable known old from u ≡ true)). on_third u w.0 w.1)
        (λ (e : u ≡ t). absurd (off e))
        (offered_is choice.behind.0 u (omega (arith, opens.behind))
        (sym (same_three choice.behind.0 u behind_there) ∙ is)))

    behind_usable : (u : ℕ) → first choice.behind.0 u ≡ true →
        usable third.next new choice.behind.0 u ≡ true
    behind_usable u is = usable_empty third.next new choice.behind.0 u behind_empty
        (same_three choice.behind.0 u behind_there ∙ is)

    behind_others : (u : ℕ) → u < length old.vars → usable known old from u ≡ true →
        usable third.next new choice.behind.0 u ≡ true
    behind_others u lt is = behind_usable u
        (offers choice.behind.0 u (omega (arith, opens.behind)) lt is)

    args_all : new.args ≡ old.args
    args_all = grows4.grows.args ∙ grows3.grows.args ∙ grows2.grows.args ∙ grows1.args

    choice_continues : Continues g counts known (length old.vars) old new from choice.behind.0
        (IsAnswer t)
    choice_continues = record {
      next = third.next;
      same = λ b u lt. same_three b u (omega (arith, lt, grows1.blocks)) ∙ before b u lt;
      ready = ready_on g counts known third.next (length old.vars) old new from choice.behind.0 low
          args_all (λ x k is. params1 x k (params2 x k (params3 x k (params4 x k is)))) r
          ((valid4 target_off).stays counts third.ready.rules) certified behind_others;
      answer = λ u e. subst (λ z. usable third.next new choice.behind.0 z ≡ true) (sym e)
          (behind_usable t (offers_target choice.behind.0 (omega (arith, opens.behind))));
      others = behind_others;
    }

  pub choice_ready : StaysReady g (length old.vars) old new from choice.behind.0 (IsAnswer t)
  choice_ready = record {
    stays = choice_continues;
    fresh =
        λ u e. inr (omega (arith, e, opens.adds.above));
  }
