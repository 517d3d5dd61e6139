-- The blocks that code of statements enters, form by form.
use Rattle.std.proofs.Common.{◌≡◌, ℕ, ◌+◌, ◌-◌, ◌<◌, ◌≤◌, List, [], ◌∷◌, ◌++◌, length, take, drop}
use Rattle.std.proofs.Common.{refl, sym, ap, ◌∙◌, subst, arith, append_assoc, append-nil}
use Rattle.std.proofs.Common.{length-append}
use Rattle.std.specs.Prelude.{replicate}
use Rattle.std.specs.List.{remove_range, slice_range}
use Rattle.std.proofs.Math.Seq.{take-append_seam, drop-append_seam}
use Rattle.pra_base.specs.Code.{block_of}
use Rattle.pra_base.specs.declared.ids.BlockId.{BlockId}
use Rattle.pra_base.specs.declared.code.Block.{Block}
use Rattle.pra_base.specs.declared.code.End.TheVariants.{Jump}
use Rattle.pra_base.specs.declared.code.VInstr.{VInstr}
use Rattle.pra_base.specs.declared.code.VProc.{VProc}
use Rattle.vc_build.specs.Grow.{count, with_end, with_instr, with_open_block, IsOpen, GrowsAt}
use Rattle.vc_build.specs.Text.{depth_at, Enters, GoesOn}
use Rattle.vc_build.proofs.Growth.{grows_same, opened_count, opened_kept, closed_count}
use Rattle.vc_build.proofs.Growth.{closed_grows, put_grows, put_count}
use Rattle.vc_build.proofs.Text.{enters_on, enters_after, enters_before, enters_between}
use Rattle.vc_build.proofs.Text.{enters_behind, enters_behind_here, enters_two, enters_three}
use Rattle.vc_build.proofs.Text.{enters_turned, last_is, goes_on, Opens, opens_none, opens_more}
use Rattle.vc_build.proofs.Text.{opens_rotated, opens_behind_first}
use Rattle.vc_expr.specs.declared.branch.Targets.{Targets}
use Rattle.vc_select.specs.Blocks.{StaysInText, EndsInText}
use Rattle.vc_select.proofs.InText.{text_after}
use Rattle.vc_stmt.specs.Blocks.{deeper, with_arm, with_loop}
use Rattle.vc_stmt.specs.declared.blocks.Loop.{Loop}
use Rattle.vc_stmt.specs.Depths.{Depths, loop_depths}

-- ---- an instruction

pub text_put : (n from at : ℕ) (i : VInstr) (old mid new : VProc) (o1 o2 : List BlockId) →
    StaysInText n from at old mid o1 o2 → IsOpen mid at → new ≡ with_instr at i mid →
    StaysInText n from at old new o1 o2
text_put n from at i old mid new o1 o2 p o made =
    subst (λ z. StaysInText n from at old z o1 o2) (sym made)
    (text_after n from at old mid (with_instr at i mid) o1 o2 p (put_grows at i mid o)
    (omega (arith, put_count at i mid o)) o)

-- ---- statements

-- a statement of which all blocks are as deep as it is
pub goes_as : (n from to : ℕ) (old new : VProc) (o1 o2 : List BlockId) (ds : List ℕ) →
    ds ≡ replicate n (depth_at old from) → StaysInText n from to old new o1 o2 →
    GoesOn from to old new o1 o2 ds
goes_as n from to old new o1 o2 ds e p = subst (GoesOn from to old new o1 o2) (sym e) p.goes

pub goes_is : (from to : ℕ) (old new : VProc) (o1 o2 : List BlockId) (ds es : List ℕ) → es ≡ ds →
    GoesOn from to old new o1 o2 ds → GoesOn from to old new o1 o2 es
goes_is from to old new o1 o2 ds es e = subst (GoesOn from to old new o1 o2) (sym e)

pub goes_none : (at : ℕ) (code : VProc) (o : List BlockId) → GoesOn at at code code o o []
goes_none at code o = record {
  enters = record {
    more = [];
    is = sym (append-nil o);
    once = λ b. omega arith;
    have = tt;
    blocks =
        omega arith;
    kept = λ b lt. refl;
  };
  last = λ l. l;
  depth = refl;
}

-- a statement and others behind it
pub goes_more : (from between to : ℕ) (old one two : VProc) (o1 o2 o3 : List BlockId) (ds : List ℕ)
    (f : Depths) → GoesOn from between old one o1 o2 ds → GoesOn between to one two o2 o3
    (f (depth_at one between)) → GoesOn from to old two o1 o3 (ds ++ f (depth_at old from))
goes_more from between to old one two o1 o2 o3 ds f p q =
    subst (λ d. GoesOn from to old two o1 o3 (ds ++ f d)) p.depth
    (goes_on from between to old one two o1 o2 o3 ds (f (depth_at one between)) p q)

pub goes_at : (from to : ℕ) (old new : VProc) (o o1 o2 : List BlockId) (ds : List ℕ) → o ≡ o1 →
    GoesOn from to old new o o2 ds → GoesOn from to old new o1 o2 ds
goes_at from to old new o o1 o2 ds e = subst (λ l. GoesOn from to old new l o2 ds) e

pub goes_end : (from to : ℕ) (old new : VProc) (o1 o o2 : List BlockId) (ds : List ℕ) → o2 ≡ o →
    GoesOn from to old new o1 o ds → GoesOn from to old new o1 o2 ds
goes_end from to old new o1 o o2 ds e = subst (λ l. GoesOn from to old new o1 l ds) (sym e)

pub enters_is : (old new : VProc) (o1 o2 : List BlockId) (ds es : List ℕ) → es ≡ ds →
    Enters old new o1 o2 ds → Enters old new o1 o2 es
enters_is old new o1 o2 ds es e = subst (Enters old new o1 o2) (sym e)

-- ---- a jump

module _ (at : ℕ) (target : BlockId) (old new : VProc) (o : IsOpen old at)
    (made : new ≡ with_end at (Jump target) old) where
  pub jump_grows : GrowsAt at old new
  jump_grows = subst (λ z. GrowsAt at old z) (sym made) (closed_grows at (Jump target) old o)

  pub jump_none : count new ≤ count old
  jump_none = omega (arith, ap count made, closed_count at (Jump target) old o)

-- ---- an arm of an IF

-- the blocks that are opened for it
module _ (old m1 : VProc) (from : ℕ) (targets : Targets)
    (made : m1 ≡ with_arm (block_of old from).depth old) (fails_is : targets.fails.0 ≡ count old)
    (holds_is : targets.holds.0 ≡ count old + 1) where
  abbrev d : ℕ
  d = depth_at old from

  abbrev half : VProc
  half = with_open_block d old

  arm_opens : Opens old m1 (targets.holds ∷ targets.fails ∷ []) (d ∷ d ∷ [])
  arm_opens = opens_more d old half m1 targets.holds (targets.fails ∷ []) (d ∷ [])
      (opens_more d old old half targets.fails [] [] (opens_none old) refl fails_is) made
      (omega (arith, holds_is, opened_count d old))

  module _ (k to : ℕ) (behind : BlockId) (m2 m3 new : VProc) (o1 o2 o3 : List BlockId) (es : Depths)
      (o : IsOpen old from) (p : EndsInText k from m1 m2 o1 o2)
      (q : GoesOn targets.holds.0 to m2 m3 (o2 ++ targets.holds ∷ []) o3
      (es (depth_at m2 targets.holds.0))) (still : IsOpen m3 to)
      (left : new ≡ with_end to (Jump behind) m3) where
    test_part : Enters m1 m2 o1 o2 (replicate k d)
    test_part = subst (λ z. Enters m1 m2 o1 o2 (replicate k z)) (arm_opens.kept from o.0)
        p.enters

    holds_deep : depth_at m2 targets.holds.0 ≡ d
    holds_deep = test_part.kept targets.holds.0 arm_opens.have.0 ∙ arm_opens.have.1

    body_part : Enters m2 m3 (o2 ++ targets.holds ∷ []) o3 (es d)
    body_part = subst (λ z. Enters m2 m3 (o2 ++ targets.holds ∷ []) o3 (es z)) holds_deep q.enters

    arm_enters : Enters old new o1 (o3 ++ targets.fails ∷ [])
        (replicate k d ++ d ∷ (es d ++ d ∷ []))
    arm_enters = enters_two old m1 m2 m3 new targets.holds targets.fails d d o1 o2 o3
        (replicate k d) (es d) arm_opens test_part body_part
        (jump_grows to behind m3 new still left).grows (jump_none to behind m3 new still left)

    pub text_arm : GoesOn from targets.fails.0 old new o1 (o3 ++ targets.fails ∷ [])
        (replicate k d ++ d ∷ (es d ++ d ∷ []))
    text_arm = record {
      enters = arm_enters;
      last = λ l. last_is o3 targets.fails;
      depth =
          let one : targets.fails.0 < count m1 = arm_opens.have.2.0 in
          let two : targets.fails.0 < count m2 = omega (arith, one, test_part.blocks) in
          let three : targets.fails.0 < count m3 = omega (arith, two, body_part.blocks) in
          ((jump_grows to behind m3 new still left).grows.kept targets.fails.0 three).depth
          ∙ body_part.kept targets.fails.0 two ∙ test_part.kept targets.fails.0 one
          ∙ arm_opens.have.2.1;
    }

-- ---- the last arm without ELSE

module _ (k from to : ℕ) (holds behind : BlockId) (old m1 m2 m3 new : VProc)
    (o1 o2 o3 : List BlockId) (es : Depths) (o : IsOpen old from)
    (made : m1 ≡ with_open_block (block_of old from).depth old) (number : holds.0 ≡ count old)
    (p : EndsInText k from m1 m2 o1 o2)
    (q : GoesOn holds.0 to m2 m3 (o2 ++ holds ∷ []) o3 (es (depth_at m2 holds.0)))
    (still : IsOpen m3 to) (left : new ≡ with_end to (Jump behind) m3) where
  abbrev deep : ℕ
  deep = depth_at old from

  its_opens : Opens old m1 (holds ∷ []) (deep ∷ [])
  its_opens = opens_more deep old old m1 holds [] [] (opens_none old) made number

  its_test : Enters m1 m2 o1 o2 (replicate k deep)
  its_test = subst (λ z. Enters m1 m2 o1 o2 (replicate k z)) (its_opens.kept from o.0)
      p.enters

  its_deep : depth_at m2 holds.0 ≡ deep
  its_deep = its_test.kept holds.0 its_opens.have.0 ∙ its_opens.have.1

  its_body : Enters m2 new (o2 ++ holds ∷ []) o3 (es deep)
  its_body = enters_after m2 m3 new (o2 ++ holds ∷ []) o3 (es deep)
      (subst (λ z. Enters m2 m3 (o2 ++ holds ∷ []) o3 (es z)) its_deep q.enters)
      (jump_grows to behind m3 new still left).grows (jump_none to behind m3 new still left)

  pub text_last : Enters old new o1 o3 (replicate k deep ++ deep ∷ es deep)
  text_last = enters_between deep old m1 holds made number m2 new o1 o2 o3 (replicate k deep)
      (es deep) its_test its_body

-- ---- an IF

module _ (from next : ℕ) (behind : BlockId) (old m1 m2 : VProc) (o1 o2 : List BlockId)
    (o : IsOpen old from) (made : m1 ≡ with_open_block (block_of old from).depth old)
    (number : behind.0 ≡ count old) where
  abbrev level : ℕ
  level = depth_at old from

  one_opens : Opens old m1 (behind ∷ []) (level ∷ [])
  one_opens = opens_more level old old m1 behind [] [] (opens_none old) made number

  -- with ELSE
  pub text_if : (arms other : Depths) (to : ℕ) (m3 new : VProc) (o3 : List BlockId) →
      GoesOn from next m1 m2 o1 o2 (arms (depth_at m1 from)) →
      GoesOn next to m2 m3 o2 o3 (other (depth_at m2 next)) → IsOpen m3 to →
      new ≡ with_end to (Jump behind) m3 →
      GoesOn from behind.0 old new o1 (o3 ++ behind ∷ [])
      (arms level ++ (other level ++ level ∷ []))
  text_if arms other to m3 new o3 p q still left =
      let first : Enters m1 m2 o1 o2 (arms level) = subst (λ z. Enters m1 m2 o1 o2 (arms z))
      (one_opens.kept from o.0) p.enters in
      let second : Enters m2 m3 o2 o3 (other level) = subst (λ z. Enters m2 m3 o2 o3 (other z))
      (p.depth ∙ one_opens.kept from o.0) q.enters in
      let both : Enters m1 m3 o1 o3 (arms level ++ other level) = enters_on m1 m2 m3 o1 o2 o3
      (arms level) (other level) first second in
      let grows = jump_grows to behind m3 new still left in
      let behind_three : behind.0 < count m3 = omega (arith, one_opens.have.0, both.blocks) in
      record {
        enters = subst (Enters old new o1 (o3 ++ behind ∷ []))
            (append_assoc (arms level) (other level) (level ∷ []))
            (enters_behind level old m1 behind made number m3 new o1 o3 (arms level ++ other level)
            both grows.grows (jump_none to behind m3 new still left));
        last = λ l. last_is o3 behind;
        depth = (grows.grows.kept behind.0 behind_three).depth ∙ both.kept behind.0 one_opens.have.0
            ∙ one_opens.have.1;
      }

  -- without ELSE
  pub text_alone : (arms end : Depths) (new : VProc) (o3 : List BlockId) →
      GoesOn from next m1 m2 o1 o2 (arms (depth_at m1 from)) →
      Enters m2 new o2 o3 (end (depth_at m2 next)) →
      GoesOn from behind.0 old new o1 (o3 ++ behind ∷ []) ((arms level ++ end level) ++ level ∷ [])
  text_alone arms end new o3 p q =
      let first : Enters m1 m2 o1 o2 (arms level) = subst (λ z. Enters m1 m2 o1 o2 (arms z))
      (one_opens.kept from o.0) p.enters in
      let second : Enters m2 new o2 o3 (end level) = subst (λ z. Enters m2 new o2 o3 (end z))
      (p.depth ∙ one_opens.kept from o.0) q in
      let both : Enters m1 new o1 o3 (arms level ++ end level) = enters_on m1 m2 new o1 o2 o3
      (arms level) (end level) first second in
      record {
        enters = enters_behind_here level old m1 behind made number new o1 o3
            (arms level ++ end level) both;
        last = λ l. last_is o3 behind;
        depth = both.kept behind.0 one_opens.have.0 ∙ one_opens.have.1;
      }

-- ---- loops

-- what stands between two places of a list is put behind the rest
put_behind : (o1 o2 o3 b c : List BlockId) → o2 ≡ o1 ++ b → o3 ≡ o2 ++ c →
    remove_range o3 (length o1) (length o2) ++ slice_range o3 (length o1) (length o2) ≡
    o1 ++ (c ++ b)
put_behind o1 o2 o3 b c o2_is o3_is =
    let whole : o3 ≡ o1 ++ (b ++ c) = o3_is ∙ ap (λ l. l ++ c) o2_is ∙ append_assoc o1 b c in
    let front : take (length o1) o3 ≡ o1 = ap (take (length o1)) whole
    ∙ take-append_seam o1 (b ++ c) in
    let rest : drop (length o2) o3 ≡ c = ap (drop (length o2)) o3_is ∙ drop-append_seam o2 c in
    let many : length o2 - length o1 ≡ length b =
    omega (arith, ap (λ l. length l) o2_is, length-append o1 b) in
    let between : take (length o2 - length o1) (drop (length o1) o3) ≡ b =
    ap (λ n. take n (drop (length o1) o3)) many
    ∙ ap (λ l. take (length b) (drop (length o1) l)) whole
    ∙ ap (take (length b)) (drop-append_seam o1 (b ++ c)) ∙ take-append_seam b c in
    ap (λ l. (l ++ drop (length o2) o3) ++ slice_range o3 (length o1) (length o2)) front
    ∙ ap (λ l. (o1 ++ l) ++ slice_range o3 (length o1) (length o2)) rest
    ∙ ap (λ l. (o1 ++ c) ++ l) between ∙ append_assoc o1 c b

-- by the numbers of its places
pub turned_at : (o1 o2 o3 o4 : List BlockId) (begin middle : ℕ) → begin ≡ length o1 →
    middle ≡ length o2 → o4 ≡ remove_range o3 begin middle ++ slice_range o3 begin middle →
    o4 ≡ remove_range o3 (length o1) (length o2) ++ slice_range o3 (length o1) (length o2)
turned_at o1 o2 o3 o4 begin middle b m is =
    is ∙ ap (λ n. remove_range o3 n middle ++ slice_range o3 n middle) b
    ∙ ap (λ n. remove_range o3 (length o1) n ++ slice_range o3 (length o1) n) m

module _ (old m1 : VProc) (from : ℕ) (blocks : Loop) (o : IsOpen old from)
    (made : m1 ≡ with_loop (block_of old from).depth old) (behind_is : blocks.behind.0 ≡ count old)
    (body_is : blocks.body.0 ≡ count old + 1) (test_is : blocks.test.0 ≡ count old + 2) where
  abbrev out : ℕ
  out = depth_at old from

  abbrev inner : ℕ
  inner = deeper out

  abbrev first_code : VProc
  first_code = with_open_block out old

  abbrev second_code : VProc
  second_code = with_open_block inner first_code

  loop_opens : Opens old m1 (blocks.test ∷ blocks.body ∷ blocks.behind ∷ [])
      (inner ∷ inner ∷ out ∷ [])
  loop_opens =
      let one : Opens old first_code (blocks.behind ∷ []) (out ∷ []) =
      opens_more out old old first_code blocks.behind [] [] (opens_none old) refl behind_is in
      let two : Opens old second_code (blocks.body ∷ blocks.behind ∷ []) (inner ∷ out ∷ []) =
      opens_more inner old first_code second_code blocks.body (blocks.behind ∷ [])
      (out ∷ []) one refl (omega (arith, body_is, one.blocks)) in
      opens_more inner old second_code m1 blocks.test (blocks.body ∷ blocks.behind ∷ [])
      (inner ∷ out ∷ []) two made (omega (arith, test_is, two.blocks))

  from_open : IsOpen m1 from
  from_open =
      let same : block_of m1 from ≡ block_of old from =
      ap (λ (z : VProc). block_of z from) made ∙ opened_kept inner second_code from
      (omega (arith, o.0, opened_count out old, opened_count inner first_code))
      ∙ opened_kept inner first_code from (omega (arith, o.0, opened_count out old))
      ∙ opened_kept out old from o.0 in
      (omega (arith, o.0, loop_opens.blocks), ap (λ (x : Block). x.end) same ∙ o.1)

  module _ (k to : ℕ) (m2 m3 m4 new : VProc) (o1 o2 o3 : List BlockId) (body : Depths) where
    abbrev test_there : blocks.test.0 < count m1
    test_there = loop_opens.have.0

    -- ---- WHILE

    module _ (jumped : m2 ≡ with_end from (Jump blocks.test) m1)
        (p : EndsInText k blocks.test.0 m2 m3 (o1 ++ blocks.test ∷ []) o2)
        (q : GoesOn blocks.body.0 to m3 m4 (o2 ++ blocks.body ∷ []) o3
        (body (depth_at m3 blocks.body.0))) (still : IsOpen m4 to)
        (left : new ≡ with_end to (Jump blocks.test) m4) where
      enter_grows : GrowsAt from m1 m2
      enter_grows = jump_grows from blocks.test m1 m2 from_open jumped

      at_two : (b n : ℕ) → b < count m1 → depth_at m1 b ≡ n → (b < count m2) × (depth_at m2 b ≡ n)
      at_two b n lt is = (
        omega (arith, lt, enter_grows.grows.blocks),
        (enter_grows.grows.kept b lt).depth ∙ is,
      )

      tests : Enters m1 m3 (o1 ++ blocks.test ∷ []) o2 (replicate k inner)
      tests = enters_before m1 m2 m3 (o1 ++ blocks.test ∷ []) o2 (replicate k inner)
          enter_grows.grows (jump_none from blocks.test m1 m2 from_open jumped)
          (subst (λ z. Enters m2 m3 (o1 ++ blocks.test ∷ []) o2 (replicate k z))
          (at_two blocks.test.0 inner loop_opens.have.0 loop_opens.have.1).1 p.enters)

      at_three : (b n : ℕ) → b < count m1 → depth_at m1 b ≡ n → (b < count m3) × (depth_at m3 b ≡ n)
      at_three b n lt is = (omega (arith, lt, tests.blocks), tests.kept b lt ∙ is)

      bodies : Enters m3 m4 (o2 ++ blocks.body ∷ []) o3 (body inner)
      bodies = subst (λ z. Enters m3 m4 (o2 ++ blocks.body ∷ []) o3 (body z))
          (at_three blocks.body.0 inner loop_opens.have.2.0 loop_opens.have.2.1).1 q.enters

      leave_grows : GrowsAt to m4 new
      leave_grows = jump_grows to blocks.test m4 new still left

      -- where the test begins, and where it ends
      test_listed : o2 ≡ o1 ++ (blocks.test ∷ tests.more)
      test_listed = tests.is ∙ append_assoc o1 (blocks.test ∷ []) tests.more

      body_listed : o3 ≡ o2 ++ (blocks.body ∷ bodies.more)
      body_listed = bodies.is ∙ append_assoc o2 (blocks.body ∷ []) bodies.more

      pub test_begins : length o1 ≤ length o2
      test_begins = omega (
        arith,
        ap (λ l. length l) test_listed,
        length-append o1 (blocks.test ∷ tests.more),
      )

      pub test_ends : length o2 ≤ length o3
      test_ends = omega (
        arith,
        ap (λ l. length l) body_listed,
        length-append o2 (blocks.body ∷ bodies.more),
      )

      module _ (o4 : List BlockId) (turned : o4 ≡ remove_range o3 (length o1) (length o2)
          ++ slice_range o3 (length o1) (length o2)) where
        while_enters : Enters old new o1 (o4 ++ blocks.behind ∷ []) (loop_depths k body out)
        while_enters =
            enters_turned old m1 m3 m4 new (blocks.test ∷ []) blocks.body blocks.behind (inner ∷ [])
            inner out o1 o2 o3 (replicate k inner) (body inner)
            (opens_rotated old m1 blocks.test blocks.body blocks.behind inner inner out loop_opens)
            tests bodies leave_grows.grows (jump_none to blocks.test m4 new still left) o4
            (turned ∙ put_behind o1 o2 o3 (blocks.test ∷ tests.more) (blocks.body ∷ bodies.more)
            test_listed body_listed)

        pub text_while : GoesOn from blocks.behind.0 old new o1 (o4 ++ blocks.behind ∷ [])
            (loop_depths k body out)
        text_while =
            let three = at_three blocks.behind.0 out loop_opens.have.2.2.0 loop_opens.have.2.2.1 in
            let four : blocks.behind.0 < count m4 = omega (arith, three.0, bodies.blocks) in
            record {
              enters = while_enters;
              last = λ l. last_is o4 blocks.behind;
              depth =
                  (leave_grows.grows.kept blocks.behind.0 four).depth
                  ∙ bodies.kept blocks.behind.0 three.0 ∙ three.1;
            }

    -- ---- REPEAT

    module _ (jumped : m2 ≡ with_end from (Jump blocks.body) m1)
        (q : GoesOn blocks.body.0 to m2 m3 (o1 ++ blocks.body ∷ []) o2
        (body (depth_at m2 blocks.body.0))) (still : IsOpen m3 to)
        (left : m4 ≡ with_end to (Jump blocks.test) m3)
        (p : EndsInText k blocks.test.0 m4 new (o2 ++ blocks.test ∷ []) o3) where
      begin_grows : GrowsAt from m1 m2
      begin_grows = jump_grows from blocks.body m1 m2 from_open jumped

      deep_two : (b n : ℕ) → b < count m1 → depth_at m1 b ≡ n → (b < count m2) × (depth_at m2 b ≡ n)
      deep_two b n lt is = (
        omega (arith, lt, begin_grows.grows.blocks),
        (begin_grows.grows.kept b lt).depth ∙ is,
      )

      body_two : depth_at m2 blocks.body.0 ≡ inner
      body_two = (deep_two blocks.body.0 inner loop_opens.have.2.0 loop_opens.have.2.1).1

      doing : Enters m2 m3 (o1 ++ blocks.body ∷ []) o2 (body inner)
      doing = subst (λ z. Enters m2 m3 (o1 ++ blocks.body ∷ []) o2 (body z)) body_two q.enters

      turn_grows : GrowsAt to m3 m4
      turn_grows = jump_grows to blocks.test m3 m4 still left

      deep_four : (b n : ℕ) → b < count m1 → depth_at m1 b ≡ n → (b < count m4) ×
          (depth_at m4 b ≡ n)
      deep_four b n lt is =
          let two = deep_two b n lt is in
          let three : b < count m3 = omega (arith, two.0, doing.blocks) in (
            omega (arith, three, turn_grows.grows.blocks),
            (turn_grows.grows.kept b three).depth
                ∙ doing.kept b two.0 ∙ two.1,
          )

      testing : Enters m4 new (o2 ++ blocks.test ∷ []) o3 (replicate k inner)
      testing = subst (λ z. Enters m4 new (o2 ++ blocks.test ∷ []) o3 (replicate k z))
          (deep_four blocks.test.0 inner loop_opens.have.0 loop_opens.have.1).1 p.enters

      repeat_enters : Enters old new o1 (o3 ++ blocks.behind ∷ []) (loop_depths k body out)
      repeat_enters =
          enters_three old m1 m4 new new blocks.body blocks.test blocks.behind inner inner out o1 o2
          o3 (body inner) (replicate k inner)
          (opens_behind_first old m1 blocks.test blocks.body blocks.behind inner inner out
          loop_opens)
          (enters_after m1 m3 m4 (o1 ++ blocks.body ∷ []) o2 (body inner)
          (enters_before m1 m2 m3 (o1 ++ blocks.body ∷ []) o2 (body inner) begin_grows.grows
          (jump_none from blocks.body m1 m2 from_open jumped) doing) turn_grows.grows
          (jump_none to blocks.test m3 m4 still left))
          testing (grows_same new) (omega arith)

      pub text_repeat : GoesOn from blocks.behind.0 old new o1 (o3 ++ blocks.behind ∷ [])
          (loop_depths k body out)
      text_repeat =
          let four = deep_four blocks.behind.0 out loop_opens.have.2.2.0 loop_opens.have.2.2.1 in
          record {
            enters = repeat_enters;
            last = λ l. last_is o3 blocks.behind;
            depth = testing.kept blocks.behind.0 four.0 ∙ four.1;
          }
