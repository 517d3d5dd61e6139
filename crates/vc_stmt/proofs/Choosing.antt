-- The code of an IF, arm after arm.
use Rattle.std.proofs.Common.{◌≡◌, ◌≢◌, ℕ, ◌+◌, ◌<◌, ◌≤◌, Bool, true, false, List, [], ◌∷◌, length}
use Rattle.std.proofs.Common.{refl, sym, ap, ◌∙◌, subst, arith}
use Rattle.std.specs.Prelude.{◌&&◌, if◌then◌else◌}
use Rattle.pra_list.proofs.Truths.{both_true}
use Rattle.pra_list.proofs.Choices.{and_true}
use Rattle.pra_base.specs.Code.{block_of}
use Rattle.pra_base.specs.declared.ids.BlockId.{BlockId}
use Rattle.pra_base.specs.declared.code.End.TheVariants.{Jump}
use Rattle.pra_base.specs.declared.code.VProc.{VProc}
use Rattle.ob_syntax.specs.Expressions.{boolean}
use Rattle.ob_syntax.specs.Operators.{is_true}
use Rattle.ob_mean.specs.Statements as mean
use Rattle.ob_mean.specs.Statements.{Around, Execution, Completion, Normal, Trapped, Going, Arm}
use Rattle.ob_mean.specs.Statements.{in_turn, on_state, chosen}
use Rattle.vc_code.specs.Machine.{Activation, State, with_top}
use Rattle.vc_code.specs.Selected.{Vars, code_of}
use Rattle.vc_build.specs.Grow.{count, IsOpen, with_open_block, with_end, Grows, GrowsAt}
use Rattle.vc_build.specs.Runs.{Codes}
use Rattle.vc_build.proofs.Growth.{grows_on, grows_at_on, grows_at_again, grows_at_same}
use Rattle.vc_build.proofs.Growth.{opened_grows, opened_kept, opened_count, closed_grows}
use Rattle.vc_expr.specs.Branches.{Enters}
use Rattle.vc_expr.specs.Branches as branches
use Rattle.vc_expr.specs.declared.branch.Targets.{Targets}
use Rattle.vc_select.specs.declared.target.Setting.{Setting}
use Rattle.vc_select.specs.Selects.{home_variables, Tests, Extends}
use Rattle.vc_select.proofs.Keeping.{extends_on, extends_at}
use Rattle.vc_select.proofs.Sides.{of_type}
use Rattle.vc_typed.specs.Typing.{Typing, is_of}
use Rattle.vc_stmt.specs.Completes.{Completes}
use Rattle.vc_stmt.specs.Calls.{CallsFollow}
use Rattle.vc_stmt.specs.Does.{Matches, Does}
use Rattle.vc_stmt.specs.Blocks.{Waits, with_arm}
use Rattle.vc_stmt.specs.Arms.{Joins, Guards, Chooses, guarded}
use Rattle.vc_stmt.proofs.Completing.{completes_as, completes_behind, completes_value, comes_here}
use Rattle.vc_stmt.proofs.Matching.{starts_with, matches_at}
use Rattle.vc_stmt.proofs.Jumping.{matches_enters, completes_jumped}
use Rattle.vc_stmt.proofs.Waiting.{waits_open, waits_empty, waits_on, waits_first, waits_beside}

-- ---- an arm

module _ (g : Setting) (old m2 m3 : VProc) (from to : ℕ) (behind holds fails : BlockId)
    (typing : Typing) (sound : Bool) (arm : Arm) (o : IsOpen old from)
    (waits : Waits old behind.0) (apart : behind.0 ≢ from) (real : behind.0 ≢ 0)
    (fails_is : fails.0 ≡ count old) (holds_is : holds.0 ≡ count old + 1) where
  abbrev depth : ℕ
  depth = (block_of old from).depth

  abbrev half : VProc
  half = with_open_block depth old

  abbrev opened : VProc
  opened = with_arm depth old

  opened_is : count opened ≡ count old + 2
  opened_is = omega (arith, opened_count depth old, opened_count depth half)

  opened_from : GrowsAt from old opened
  opened_from = grows_at_again old half opened from (opened_grows depth old from)
      (opened_grows depth half from)

  from_kept : block_of opened from ≡ block_of old from
  from_kept = opened_kept depth half from (omega (arith, o.0, opened_count depth old))
      ∙ opened_kept depth old from o.0

  pub arm_from_open : IsOpen opened from
  arm_from_open = (omega (arith, o.0, opened_is), ap (λ z. z.end) from_kept ∙ o.1)

  pub arm_holds_within : holds.0 < count opened
  arm_holds_within = omega (arith, holds_is, opened_is)

  fails_opened : Waits opened fails.0
  fails_opened = subst (Waits opened) (sym fails_is)
      (waits_beside depth half (count old) (waits_first depth old))

  holds_opened : Waits opened holds.0
  holds_opened = subst (Waits opened) (opened_count depth old ∙ sym holds_is)
      (waits_first depth half)

  behind_opened : Waits opened behind.0
  behind_opened = waits_beside depth half behind.0 (waits_beside depth old behind.0 waits)

  abbrev targets : Targets
  targets = record { holds = holds; fails = fails }

  module _ (p : Tests g opened m2 from targets typing arm.0) where
    holds_tested : Waits m2 holds.0
    holds_tested = waits_on from opened m2 holds.0 p.grows
        (λ same. omega (arith, same, holds_is, o.0)) holds_opened

    fails_tested : Waits m2 fails.0
    fails_tested = waits_on from opened m2 fails.0 p.grows
        (λ same. omega (arith, same, fails_is, o.0)) fails_opened

    behind_tested : Waits m2 behind.0
    behind_tested = waits_on from opened m2 behind.0 p.grows apart behind_opened

    pub arm_holds_open : IsOpen m2 holds.0
    arm_holds_open = waits_open m2 holds.0 holds_tested

    module _ (q : Does g m2 m3 holds.0 to sound (in_turn arm.1)) where
      abbrev arm_code : VProc
      arm_code = with_end to (Jump behind) m3

      out_grows : GrowsAt to m3 arm_code
      out_grows = closed_grows to (Jump behind) m3 q.extends.is_open

      rest_grows : GrowsAt holds.0 m2 arm_code
      rest_grows = grows_at_on m2 m3 arm_code holds.0 to q.extends.grows out_grows q.extends.apart

      fails_new : Waits arm_code fails.0
      fails_new = waits_on holds.0 m2 arm_code fails.0 rest_grows
          (λ same. omega (arith, same, fails_is, holds_is)) fails_tested

      pub arm_behind_waits : Waits arm_code behind.0
      arm_behind_waits = waits_on holds.0 m2 arm_code behind.0 rest_grows
          (λ same. omega (arith, same, holds_is, waits.within)) behind_tested

      pub arm_fails_open : IsOpen arm_code fails.0
      arm_fails_open = waits_open arm_code fails.0 fails_new

      pub arm_apart : behind.0 ≢ fails.0
      arm_apart same = omega (arith, same, fails_is, waits.within)

      arm_extends : Extends from fails.0 old arm_code
      arm_extends = record {
        grows = grows_at_on old m2 arm_code from holds.0
            (grows_at_again old opened m2 from opened_from p.grows) rest_grows
            (λ b lt off same. omega (arith, same, lt, holds_is));
        is_open = arm_fails_open;
        apart = λ b lt off same. omega (arith, same, lt, fails_is);
      }

      module _ (w : Codes) (least : ℕ) (a : Around) (waiting : List Vars) (m : mean.State)
          (s : State Vars) (rest : Completion) (final : Grows arm_code (code_of w.procs g.id.0))
          (matches : Matches g w opened from a.calls waiting m s)
          (fine : sound ≡ true) (le : least ≤ a.turns)
          (follow : CallsFollow g.program.now w least a)
          (homes : home_variables g ≤ length old.vars)
          (go : (t : State Vars) → Matches g w arm_code fails.0 a.calls waiting m t →
          Completes w t least (Matches g w old behind.0 a.calls waiting) rest) where
        abbrev R : mean.State → State Vars → Type 0
        R = Matches g w old behind.0 a.calls waiting

        branch : (c : Activation Vars) (b : Bool) → Enters (branches.chosen targets b)
            (length opened.vars) s.top c → Completes w (with_top s c) least R
            (if b then in_turn arm.1 a m else rest)
        branch c true enters =
            completes_behind w (with_top s c) least (Matches g w m3 to a.calls waiting) R
            (in_turn arm.1 a m)
            (q.means w least a waiting m (with_top s c)
            (grows_on m3 arm_code (code_of w.procs g.id.0) out_grows.grows final)
            (matches_enters g w opened from a.calls waiting m s matches (length opened.vars) c
            holds.0 m2 matches.starts.homes enters (waits_empty m2 holds.0 holds_tested)
            (omega (arith, matches.starts.homes, p.grows.grows.vars)))
            fine le follow)
            (λ after t there.
            completes_jumped g w m3 to a.calls waiting after t there behind q.extends.is_open real
            (omega (arith, behind_tested.within, q.extends.grows.grows.blocks)) final
            old 0 0 R (Normal after) (waits_empty old behind.0 waits) homes (omega arith)
            (comes_here w _ (R after)))
        branch c false enters =
            go (with_top s c)
            (matches_enters g w opened from a.calls waiting m s matches (length opened.vars) c
            fails.0 arm_code matches.starts.homes enters
            (waits_empty arm_code fails.0 fails_new)
            (omega (arith, matches.starts.homes, p.grows.grows.vars, rest_grows.grows.vars)))

      pub guards_arm : Guards g old arm_code from fails.0 behind.0 (is_of boolean typing && sound)
          arm
      guards_arm = record {
        extends = arm_extends;
        means = λ w least a waiting m s rest final matches good le follow go.
            let goods = and_true (is_of boolean typing) sound good in
            let at_opened = matches_at g w old from a.calls waiting m s matches opened from
            (record {
              block = matches.starts.stands.block;
              index = matches.starts.stands.index
                  ∙ sym (ap (λ z. length z.code) from_kept);
            })
            (omega (arith, matches.starts.homes, opened_from.grows.vars)) in
            completes_value w s least m
            (λ x c. Enters (branches.chosen targets (is_true x)) (length opened.vars) s.top c)
            (Matches g w old behind.0 a.calls waiting) (arm.0 a.calls m.store)
            (λ x. if is_true x then in_turn arm.1 a m else rest) matches.shows
            (p.means w a.calls m.store s
            (starts_with g w opened from a.calls waiting m s at_opened m2
            (grows_on m2 arm_code (code_of w.procs g.id.0) rest_grows.grows final))
            (of_type boolean typing goods.0).0)
            (λ x c enters. branch w least a waiting m s rest final at_opened goods.1 le follow
            matches.starts.homes go c (is_true x) enters);
      }

pub guards_as : (g : Setting) (old new : VProc) (from next behind : ℕ) (one other : Bool)
    (arm : Arm) → (other ≡ true → one ≡ true) → Guards g old new from next behind one arm →
    Guards g old new from next behind other arm
guards_as g old new from next behind one other arm goods p =
    record {
      extends = p.extends;
      means = λ w least a waiting m s rest final matches good le follow
          go. p.means w least a waiting m s rest final matches (goods good) le follow go;
    }

-- ---- arms

pub chooses_none : (g : Setting) (old : VProc) (at behind : ℕ) → IsOpen old at →
    Chooses g old old at at behind true []
chooses_none g old at behind o =
    record {
      extends = extends_at at old old (grows_at_same old at) o;
      joins =
          λ later fine other x. x;
    }

pub joins_arm : (g : Setting) (old mid new : VProc) (from next behind : ℕ) (one two : Bool)
    (arm : Arm) (h : Execution) → Waits old behind → Waits mid behind →
    Guards g old mid from next behind one arm → Joins g mid new next behind two h →
    Joins g old new from behind (one && two) (λ a m. guarded arm a m (h a m))
joins_arm g old mid new from next behind one two arm h waits waits_mid p q = record {
  grows = grows_at_on old mid new from next p.extends.grows q.grows p.extends.apart;
  means = λ w least a waiting m s final matches sound le follow.
      let goods = and_true one two sound in
      p.means w least a waiting m s (h a m)
      (grows_on mid new (code_of w.procs g.id.0) q.grows.grows final) matches goods.0 le follow
      (λ t there.
      completes_as w t least (Matches g w mid behind a.calls waiting)
      (Matches g w old behind a.calls waiting) (h a m)
      (λ after u at_mid.
      matches_at g w mid behind a.calls waiting after u at_mid old behind
      (record {
        block = at_mid.starts.stands.block;
        index = at_mid.starts.stands.index
            ∙ waits_empty mid behind waits_mid ∙ sym (waits_empty old behind waits);
      })
      matches.starts.homes)
      (q.means w least a waiting m t final there goods.1 le follow));
}

pub joins_as : (g : Setting) (old new : VProc) (from behind : ℕ) (one other : Bool)
    (f h : Execution) → (other ≡ true → one ≡ true) →
    ((a : Around) (m : mean.State) → h a m ≡ f a m) → Joins g old new from behind one f →
    Joins g old new from behind other h
joins_as g old new from behind one other f h goods same p = record {
  grows = p.grows;
  means = λ w least a waiting m s final matches good le follow.
      subst (Completes w s least (Matches g w old behind a.calls waiting)) (sym (same a m))
      (p.means w least a waiting m s final matches (goods good) le follow);
}

pub chooses_as : (g : Setting) (old new : VProc) (from next behind : ℕ) (one other : Bool)
    (arms : List Arm) → (other ≡ true → one ≡ true) → Chooses g old new from next behind one arms →
    Chooses g old new from next behind other arms
chooses_as g old new from next behind one other arms goods p = record {
  extends = p.extends;
  joins = λ later fine rest x.
      joins_as g old later from behind (one && fine) (other && fine) (chosen arms rest)
      (chosen arms rest)
      (λ good. let both = and_true other fine good in both_true one fine (goods both.0) both.1)
      (λ a m. refl) (p.joins later fine rest x);
}

-- an arm before others
pub chooses_more : (g : Setting) (old mid new : VProc) (from between next behind : ℕ)
    (one two : Bool) (arm : Arm) (arms : List Arm) → Waits old behind → Waits mid behind →
    Guards g old mid from between behind one arm → Chooses g mid new between next behind two arms →
    Chooses g old new from next behind (one && two) (arm ∷ arms)
chooses_more g old mid new from between next behind one two arm arms waits waits_mid p q = record {
  extends = extends_on from between next old mid new p.extends q.extends;
  joins = λ later fine other x.
      joins_as g old later from behind (one && (two && fine)) ((one && two) && fine)
      (λ a m. guarded arm a m (chosen arms other a m)) (chosen (arm ∷ arms) other)
      (and_moved one two fine) (λ a m. refl)
      (joins_arm g old mid later from between behind one (two && fine) arm (chosen arms other) waits
      waits_mid p (q.joins later fine other x));
}
  where
    and_moved : (x y z : Bool) → ((x && y) && z) ≡ true → (x && (y && z)) ≡ true
    and_moved true y z e = e
    and_moved false y z e = e

-- ---- the other statements, and the block behind

pub joins_last : (g : Setting) (old mid : VProc) (from to : ℕ) (behind : BlockId) (sound : Bool)
    (f : Execution) → Waits old behind.0 → behind.0 ≢ 0 → (p : Does g old mid from to sound f) →
    Joins g old (with_end to (Jump behind) mid) from behind.0 sound f
joins_last g old mid from to behind sound f waits real p = record {
  grows = grows_at_on old mid (with_end to (Jump behind) mid) from to p.extends.grows
      (closed_grows to (Jump behind) mid p.extends.is_open) p.extends.apart;
  means = λ w least a waiting m s final matches good le follow.
      completes_behind w s least (Matches g w mid to a.calls waiting)
      (Matches g w old behind.0 a.calls waiting) (f a m)
      (p.means w least a waiting m s
      (grows_on mid (with_end to (Jump behind) mid) (code_of w.procs g.id.0)
      (closed_grows to (Jump behind) mid p.extends.is_open).grows final) matches good le follow)
      (λ after t there.
      completes_jumped g w mid to a.calls waiting after t there behind p.extends.is_open real
      (omega (arith, waits.within, p.extends.grows.grows.blocks)) final
      old 0 0 (Matches g w old behind.0 a.calls waiting) (Normal after)
      (waits_empty old behind.0 waits) matches.starts.homes (omega arith)
      (comes_here w _ (Matches g w old behind.0 a.calls waiting after)));
}

module _ (g : Setting) (old new : VProc) (from behind : ℕ) (sound : Bool) (f : Execution)
    (o : IsOpen old from) (behind_is : behind ≡ count old) where
  abbrev beside : VProc
  beside = with_open_block (block_of old from).depth old

  pub if_behind_waits : Waits beside behind
  if_behind_waits = subst (Waits beside) (sym behind_is) (waits_first (block_of old from).depth old)

  pub if_behind_apart : behind ≢ from
  if_behind_apart same = omega (arith, same, behind_is, o.0)

  module _ (p : Joins g beside new from behind sound f) where
    waits_new : Waits new behind
    waits_new = waits_on from beside new behind p.grows if_behind_apart if_behind_waits

    pub if_open : IsOpen new behind
    if_open = waits_open new behind waits_new

    pub does_if : Does g old new from behind sound f
    does_if = record {
      extends = record {
        grows = grows_at_again old beside new from (opened_grows (block_of old from).depth old from)
            p.grows;
        is_open = if_open;
        apart = λ b lt off same. omega (arith, same, lt, behind_is);
      };
      means = λ w least a waiting m s final matches good le follow.
          completes_as w s least (Matches g w beside behind a.calls waiting)
          (Matches g w new behind a.calls waiting) (f a m)
          (λ after t there.
          matches_at g w beside behind a.calls waiting after t there new behind
          (record {
            block = there.starts.stands.block;
            index = there.starts.stands.index
                ∙ waits_empty beside behind if_behind_waits
                ∙ sym (waits_empty new behind waits_new);
          })
          (omega (arith, there.starts.homes, p.grows.grows.vars)))
          (p.means w least a waiting m s final
          (matches_at g w old from a.calls waiting m s matches beside from
          (record {
            block = matches.starts.stands.block;
            index = matches.starts.stands.index
                ∙ sym (ap (λ z. length z.code)
                (opened_kept (block_of old from).depth old from o.0));
          })
          (omega (
            arith,
            matches.starts.homes,
            (opened_grows (block_of old from).depth old from).grows.vars,
          )))
          good le follow);
    }
