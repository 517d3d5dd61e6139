-- Code for conditions keeps the rules and a certificate: blocks that wait, and ends.
use Rattle.std.proofs.Common.{◌≡◌, ◌≢◌, ℕ, ◌+◌, ◌<◌, ◌≤◌, Bool, true, false, List, [], length, Some}
use Rattle.std.proofs.Common.{refl, sym, ap, ◌∙◌, subst, arith}
use Rattle.std.specs.Prelude.{nat_lt, ◌&&◌, ◌||◌, if◌then◌else◌, slice_get}
use Rattle.std.proofs.lemmas.Bool.{lt-ltb, le-ltb, ltb-true}
use Rattle.pra_list.proofs.Truths.{both_true}
use Rattle.pra_base.specs.Code.{kind_of, block_of, code_of}
use Rattle.pra_base.specs.declared.ids.BlockId.{BlockId}
use Rattle.pra_base.specs.declared.code.Block.{Block}
use Rattle.pra_base.specs.declared.code.VarKind.{VarKind}
use Rattle.pra_base.specs.declared.code.VarKind.TheVariants.{Param}
use Rattle.pra_base.specs.declared.code.VProc.{VProc}
use Rattle.ob_syntax.specs.declared.checked.ROp.{ROp}
use Rattle.vc_build.specs.Grow.{count, open_block, with_open_block, IsOpen, GrowsAt}
use Rattle.vc_build.proofs.Growth.{grows_at_on, opened_block, opened_count, opened_grows}
use Rattle.vc_expr.specs.Readable.{is_constant, readable, Entries, usable, Certifies, ReadsSides}
use Rattle.vc_expr.specs.Rules.{KeepsRules, StaysValid}
use Rattle.vc_expr.specs.declared.branch.Targets.{Targets}
use Rattle.vc_expr.proofs.Certificates.{open_certifies, open_usable}
use Rattle.vc_expr.proofs.Rules.{open_rules}
use Rattle.vc_expr.proofs.Unread.{certifies_other}
use Rattle.vc_select.specs.declared.target.Setting.{Setting}
use Rattle.vc_select.specs.Targets.{above_setting}
use Rattle.vc_select.specs.Selects.{inner_targets, exchanged}
use Rattle.vc_select.specs.Certified.{AddsNoParam, IsReady, Continues, Awaits, Closes, EndsReady}
use Rattle.vc_select.proofs.Ready.{ready_on}
use Rattle.vc_select.proofs.Walking.{inner_holds, inner_fails}

-- ---- certificates of new blocks

-- blocks from a number on may read these variables
abbrev pub with_entries : ℕ → (ℕ → Bool) → Entries → Entries
with_entries n now known b v = if nat_lt b n then known b v else now v

pub entries_before : (n : ℕ) (now : ℕ → Bool) (known : Entries) (b v : ℕ) → b < n →
    with_entries n now known b v ≡ known b v
entries_before n now known b v lt = ap (λ t. if t then known b v else now v) (lt-ltb b n lt)

pub entries_from : (n : ℕ) (now : ℕ → Bool) (known : Entries) (b v : ℕ) → n ≤ b →
    with_entries n now known b v ≡ now v
entries_from n now known b v le = ap (λ t. if t then known b v else now v) (le-ltb b n le)

first_true : (a b : Bool) → (a && b) ≡ true → (a ≡ true) × (b ≡ true)
first_true true b e = (refl, e)
first_true false b e = absurd (cc)

pub or_second : (a b : Bool) → b ≡ true → (a || b) ≡ true
or_second true b e = refl
or_second false b e = e

-- what may be read at the end of a block, of the variables that the code has
abbrev pub seen : Entries → VProc → ℕ → ℕ → Bool
seen known old from v = nat_lt v (length old.vars) && usable known old from v

pub is_seen : (known : Entries) (old : VProc) (from v : ℕ) → v < length old.vars →
    usable known old from v ≡ true → seen known old from v ≡ true
is_seen known old from v lt is = both_true (nat_lt v (length old.vars)) (usable known old from v)
    (lt-ltb v (length old.vars) lt) is

pub was_seen : (known : Entries) (old : VProc) (from v : ℕ) → seen known old from v ≡ true →
    (v < length old.vars) × (usable known old from v ≡ true)
was_seen known old from v e =
    let p = first_true (nat_lt v (length old.vars)) (usable known old from v) e in
    (ltb-true v (length old.vars) p.0, p.1)

-- in a block without instructions what may be read at its begin may be read at its end
pub usable_empty : (known : Entries) (code : VProc) (b v : ℕ) → code_of code b ≡ [] → known b v ≡
    true → usable known code b v ≡ true
usable_empty known code b v empty is = or_second (is_constant (kind_of code v))
    (readable (known b v) (code_of code b) v) (ap (λ l. readable (known b v) l v) empty ∙ is)

-- ---- blocks that wait

module _ (known next : Entries) (old new : VProc) (from : ℕ)
    (same : (b v : ℕ) → b < count old → next b v ≡ known b v) (grows : GrowsAt from old new) where
  pub usable_waiting : (b v : ℕ) → b < count old → b ≢ from → v < length old.vars →
      usable known old b v ≡ true → usable next new b v ≡ true
  usable_waiting b v lt off named is =
      ap (λ k. is_constant k || readable (next b v) (code_of new b) v) (grows.grows.kinds v named)
      ∙ ap (λ (x : Block). is_constant (kind_of old v) || readable (next b v) x.code v)
      (grows.others b lt off)
      ∙ ap (λ e. is_constant (kind_of old v) || readable e (code_of old b) v) (same b v lt)
      ∙ is

module _ (g : Setting) where
  module _ (counts : List ℕ) (known next : Entries) (old new : VProc) (from : ℕ)
      (low : above_setting g ≤ length old.vars)
      (same : (b v : ℕ) → b < count old → next b v ≡ known b v) (grows : GrowsAt from old new)
      (params : AddsNoParam old new) (rules : KeepsRules counts new)
      (certifies : Certifies next new) where
    pub waits : (b : ℕ) → b < count old → b ≢ from → IsReady g counts known old b →
        IsReady g counts next new b
    waits b lt off r = ready_on g counts known next (length old.vars) old new b b low
        grows.grows.args params r rules certifies
        (λ v named is. usable_waiting known next old new from same grows b v lt off named is)

    pub closes : Closes g counts known old new from
    closes = record {
      next = next;
      same = same;
      rules = rules;
      certifies = certifies;
      waiting =
          waits;
    }

  -- ---- ends of a block, by variables that may be read there

  module _ (old mid new : VProc) (from to u v : ℕ) (targets : Targets) (A : ℕ → Type 0) (u_in : A u)
      (v_in : A v) (low : above_setting g ≤ length old.vars)
      (stays : (counts : List ℕ) (known : Entries) → IsReady g counts known old from →
      Continues g counts known (length old.vars) old mid from to A)
      (grows : GrowsAt from old new) (params : AddsNoParam old new)
      (valid : 0 < targets.holds.0 → 0 < targets.fails.0 → StaysValid mid new)
      (reads : ReadsSides to mid new u v targets) (holds : targets.holds.0 < count old)
      (fails : targets.fails.0 < count old) where
    pub ends_ready : EndsReady g old new from targets
    ends_ready = record {
      stays = λ counts known r some_holds some_fails await_holds await_fails.
          let c = stays counts known r in
          let certified : Certifies c.next new =
          reads.reads c.next c.ready.certifies (c.answer u u_in) (c.answer v v_in)
          (λ y is. let w = await_holds y (sym (c.same targets.holds.0 y holds) ∙ is) in
          c.others y w.0 w.1)
          (λ y is. let w = await_fails y (sym (c.same targets.fails.0 y fails) ∙ is) in
          c.others y w.0 w.1) in
          closes counts known c.next old new from low c.same grows params
          ((valid some_holds some_fails).stays counts c.ready.rules) certified;
    }

  pub exchanged_ready : (old new : VProc) (from : ℕ) (targets : Targets) →
      EndsReady g old new from (exchanged targets) → EndsReady g old new from targets
  exchanged_ready old new from targets p =
      record { stays = λ counts known r h f ah af. p.stays counts known r f h af ah }

  -- ---- `&` and OR as conditions

  module _ (op : ROp) (old one two new : VProc) (from depth : ℕ) (right : BlockId)
      (targets : Targets) (o : IsOpen old from) (made : one ≡ with_open_block depth old)
      (number_is : right.0 ≡ count old) (low : above_setting g ≤ length old.vars)
      (holds : targets.holds.0 < count old) (fails : targets.fails.0 < count old)
      (left : EndsReady g one two from (inner_targets op right targets))
      (grows_left : GrowsAt from one two) (params_left : AddsNoParam one two)
      (after : EndsReady g two new right.0 targets) (grows_right : GrowsAt right.0 two new)
      (params_right : AddsNoParam two new) where
    abbrev opened : VProc
    opened = with_open_block depth old

    one_count : count one ≡ count old + 1
    one_count = ap count made ∙ opened_count depth old

    one_vars : one.vars ≡ old.vars
    one_vars = ap (λ (z : VProc). z.vars) made

    one_length : length one.vars ≡ length old.vars
    one_length = ap (λ (l : List VarKind). length l) one_vars

    right_block : block_of one right.0 ≡ open_block depth
    right_block = ap (λ z. block_of z right.0) made ∙ ap (block_of opened) number_is
        ∙ opened_block depth old

    module _ (counts : List ℕ) (known : Entries) (r : IsReady g counts known old from)
        (some_holds : 0 < targets.holds.0) (some_fails : 0 < targets.fails.0)
        (await_holds : Awaits known targets.holds.0 old from)
        (await_fails : Awaits known targets.fails.0 old from) where
      abbrev first : Entries
      first = with_entries (count old) (seen known old from) known

      before : (b v : ℕ) → b < count old → first b v ≡ known b v
      before b v lt = entries_before (count old) (seen known old from) known b v lt

      there : (v : ℕ) → first right.0 v ≡ seen known old from v
      there v = entries_from (count old) (seen known old from) known right.0 v
          (omega (arith, number_is))

      usable_one : (v : ℕ) → usable known old from v ≡ true → usable first one from v ≡ true
      usable_one v is =
          ap (λ z. usable first z from v) made ∙ open_usable first depth old from v
          ∙ ap (λ e. is_constant (kind_of old v) || readable e (code_of old from) v)
          (before from v o.0) ∙ is

      certifies_one : Certifies first one
      certifies_one = subst (Certifies first) (sym made)
          (open_certifies first depth old
          (certifies_other counts known first old r.rules before r.certifies))

      rules_one : KeepsRules counts one
      rules_one = subst (KeepsRules counts) (sym made) (open_rules counts depth old r.rules)

      no_params : AddsNoParam old one
      no_params v k is = subst (λ (l : List VarKind). slice_get l v ≡ Some (Param k)) one_vars is

      args_one : one.args ≡ old.args
      args_one = ap (λ (z : VProc). z.args) made

      ready_from : IsReady g counts first one from
      ready_from = ready_on g counts known first (length old.vars) old one from from low args_one
          no_params r rules_one certifies_one (λ v lt is. usable_one v is)

      right_usable : (v : ℕ) → v < length old.vars → usable known old from v ≡ true →
          usable first one right.0 v ≡ true
      right_usable v lt is = usable_empty first one right.0 v
          (ap (λ (x : Block). x.code) right_block) (there v ∙ is_seen known old from v lt is)

      ready_right : IsReady g counts first one right.0
      ready_right = ready_on g counts known first (length old.vars) old one from right.0 low
          args_one no_params r rules_one certifies_one right_usable

      awaits_right : Awaits first right.0 one from
      awaits_right v is =
          let w = was_seen known old from v (sym (there v) ∙ is) in
          (omega (arith, w.0, one_length), usable_one v w.1)

      awaits_before : (t : ℕ) → t < count old → Awaits known t old from → Awaits first t one from
      awaits_before t lt w v is =
          let x = w v (sym (before t v lt) ∙ is) in
          (omega (arith, x.0, one_length), usable_one v x.1)

      abbrev Waits : ℕ → Type 0
      Waits t = (0 < t) × Awaits first t one from

      waits_right : Waits right.0
      waits_right = (omega (arith, number_is, o.0), awaits_right)

      waits_holds : Waits targets.holds.0
      waits_holds = (some_holds, awaits_before targets.holds.0 holds await_holds)

      waits_fails : Waits targets.fails.0
      waits_fails = (some_fails, awaits_before targets.fails.0 fails await_fails)

      on_holds : Waits (inner_targets op right targets).holds.0
      on_holds = inner_holds targets right Waits waits_right waits_holds waits_fails op

      on_fails : Waits (inner_targets op right targets).fails.0
      on_fails = inner_fails targets right Waits waits_right waits_holds waits_fails op

      second : Closes g counts first one two from
      second = left.stays counts first ready_from on_holds.0 on_fails.0 on_holds.1 on_fails.1

      right_apart : right.0 ≢ from
      right_apart e = omega (arith, e, number_is, o.0)

      right_there : right.0 < count one
      right_there = omega (arith, number_is, one_count)

      awaits_second : (t : ℕ) → t < count old → Awaits known t old from →
          Awaits second.next t two right.0
      awaits_second t lt w v is =
          let x = w v (sym (before t v lt) ∙ sym (second.same t v (omega (arith, lt, one_count)))
          ∙ is) in (
            omega (arith, x.0, one_length, grows_left.grows.vars),
            usable_waiting first second.next one two from second.same grows_left right.0 v
                right_there right_apart (omega (arith, x.0, one_length)) (right_usable v x.0 x.1),
          )

      third : Closes g counts second.next two new right.0
      third = after.stays counts second.next
          (second.waiting right.0 right_there right_apart ready_right) some_holds some_fails
          (awaits_second targets.holds.0 holds await_holds)
          (awaits_second targets.fails.0 fails await_fails)

      same_all : (b v : ℕ) → b < count old → third.next b v ≡ known b v
      same_all b v lt = third.same b v (omega (arith, lt, one_count, grows_left.grows.blocks))
          ∙ second.same b v (omega (arith, lt, one_count)) ∙ before b v lt

      grows_one : GrowsAt from old one
      grows_one = subst (GrowsAt from old) (sym made) (opened_grows depth old from)

      grows_all : GrowsAt from old new
      grows_all = grows_at_on old two new from right.0
          (grows_at_on old one two from from grows_one grows_left (λ b lt off. off)) grows_right
          (λ b lt off e. omega (arith, lt, e, number_is))

      split_closes : Closes g counts known old new from
      split_closes = closes counts known third.next old new from low same_all grows_all
          (λ v k is. no_params v k (params_left v k (params_right v k is))) third.rules
          third.certifies

    pub split_ready : EndsReady g old new from targets
    split_ready = record { stays = split_closes }
