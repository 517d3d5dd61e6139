-- Blocks that are opened before control comes to them may read homes at their begin, and a jump
-- leads there: code keeps the rules and a certificate.
use Rattle.std.proofs.Common.{◌≡◌, ◌≢◌, ℕ, zero, suc, ◌<◌, ◌≤◌, Bool, true, false, List, [], ◌∷◌}
use Rattle.std.proofs.Common.{length, Some, inl, inr, ⊎_elim, refl, sym, ap, ◌∙◌, subst, arith}
use Rattle.std.specs.Prelude.{◌||◌, nat_eq, slice_get, slice_index_or}
use Rattle.std.proofs.lemmas.Bool.Decides.{nat_tests}
use Rattle.pra_list.proofs.Truths.{or_cases}
use Rattle.pra_list.proofs.Options.{some_same}
use Rattle.pra_base.specs.Code.{kind_of, code_of}
use Rattle.pra_base.specs.declared.ids.BlockId.{BlockId}
use Rattle.pra_base.specs.declared.ids.VarId.{VarId}
use Rattle.pra_base.specs.declared.code.End.TheVariants.{Jump}
use Rattle.pra_base.specs.declared.code.VarKind.{VarKind}
use Rattle.pra_base.specs.declared.code.VarKind.TheVariants.{Param, Plain}
use Rattle.pra_base.specs.declared.code.VInstr.{VInstr}
use Rattle.pra_base.specs.declared.code.VProc.{VProc}
use Rattle.vc_build.specs.Grow.{count, IsOpen, with_end, with_open_block, GrowsAt}
use Rattle.vc_build.proofs.Growth.{grows_at_again, closed_grows, opened_grows}
use Rattle.vc_expr.specs.Readable.{is_constant, readable, Entries, usable, Certifies}
use Rattle.vc_expr.specs.Rules.{KeepsRules, StaysValid}
use Rattle.vc_expr.proofs.Added.{valid_on}
use Rattle.vc_expr.proofs.Certificates.{open_certifies, close_certifies}
use Rattle.vc_expr.proofs.Rules.{close_rules, code_past, open_rules, same_opened}
use Rattle.vc_expr.proofs.Unread.{certifies_other}
use Rattle.vc_relation.specs.declared.home.Home.{Home}
use Rattle.vc_relation.specs.declared.home.Home.TheVariants as home
use Rattle.vc_select.specs.declared.target.Setting.{Setting}
use Rattle.vc_select.specs.Targets.{above_setting}
use Rattle.vc_select.specs.Certified.{AddsNoParam, IsHome, IsReady, IsContinued, Awaits, Closes}
use Rattle.vc_select.proofs.Ready.{home_below, cell_stays, ready_on}
use Rattle.vc_select.proofs.ReadyTests.{with_entries, entries_before, entries_from, or_second}
use Rattle.vc_select.proofs.ReadyTests.{usable_empty, waits, closes}
use Rattle.vc_stmt.specs.Blocks.{deeper, with_arm, with_loop}
use Rattle.vc_stmt.specs.Ready.{ReadsHomes}
use Rattle.vc_stmt.proofs.Waiting.{open_beside}

-- ---- a variable is a home, as a test

abbrev is_at : Home → ℕ → Bool
is_at (home.Var u) v = nat_eq u.0 v
is_at _ v = false

abbrev any_at : List Home → ℕ → Bool
any_at [] v = false
any_at (h ∷ hs) v = is_at h v || any_at hs v

abbrev is_home : Setting → ℕ → Bool
is_home g v = any_at g.params.now v || any_at g.locals.now v

is_that : (u v : ℕ) → nat_eq u v ≡ true → u ≡ v
is_that u v e = grind (arith, nat_tests)

that_is : (v : ℕ) → nat_eq v v ≡ true
that_is v = grind (arith, nat_tests)

at_is : (h : Home) (v : ℕ) → is_at h v ≡ true → h ≡ home.Var (record { 0 = v })
at_is (home.Var u) v e = ap (λ n. home.Var (record { 0 = n })) (is_that u.0 v e)
at_is (home.Cell k) v e = absurd (cc)
at_is (home.Frame k) v e = absurd (cc)

found_home : (homes : List Home) (v : ℕ) → any_at homes v ≡ true → (k : ℕ) ×
    (slice_get homes k ≡ Some (home.Var (record { 0 = v })))
found_home [] v e = absurd (cc)
found_home (h ∷ hs) v e = ⊎_elim
    (λ (x : is_at h v ≡ true). (0, ap Some (at_is h v x)))
    (λ (x : any_at hs v ≡ true). let rest = found_home hs v x in (suc rest.0, rest.1))
    (or_cases (is_at h v) (any_at hs v) e)

any_found : (homes : List Home) (k : ℕ) (v : VarId) → slice_get homes k ≡ Some (home.Var v) →
    any_at homes v.0 ≡ true
any_found [] k v e = absurd (cc)
any_found (h ∷ hs) zero v e = ap (λ x. x || any_at hs v.0)
    (ap (λ x. is_at x v.0) (some_same h (home.Var v) e) ∙ that_is v.0)
any_found (h ∷ hs) (suc k) v e = or_second (is_at h v.0) (any_at hs v.0) (any_found hs k v e)

module _ (g : Setting) where
  home_is : (v : VarId) → is_home g v.0 ≡ true → IsHome g (home.Var v)
  home_is v e = ⊎_elim
      (λ (x : any_at g.params.now v.0 ≡ true). let at = found_home g.params.now v.0 x in
      (at.0, inl at.1))
      (λ (x : any_at g.locals.now v.0 ≡ true). let at = found_home g.locals.now v.0 x in
      (at.0, inr at.1))
      (or_cases (any_at g.params.now v.0) (any_at g.locals.now v.0) e)

  is_home_of : (v : VarId) → IsHome g (home.Var v) → is_home g v.0 ≡ true
  is_home_of v h = ⊎_elim
      (λ (e : slice_get g.params.now h.0 ≡ Some (home.Var v)).
      ap (λ x. x || any_at g.locals.now v.0) (any_found g.params.now h.0 v e))
      (λ (e : slice_get g.locals.now h.0 ≡ Some (home.Var v)). or_second (any_at g.params.now v.0)
      (any_at g.locals.now v.0) (any_found g.locals.now h.0 v e))
      h.1

  -- ---- what a block that reads homes awaits

  pub reads_on : (known next : Entries) (old : VProc) (b : ℕ) → IsContinued known old next →
      b < count old → ReadsHomes g known b → ReadsHomes g next b
  reads_on known next old b same lt reads v is = reads v (sym (same b v.0 lt) ∙ is)

  pub homes_awaited : (counts : List ℕ) (known : Entries) (code : VProc) (at b : ℕ) →
      above_setting g ≤ length code.vars → IsReady g counts known code at → ReadsHomes g known b →
      Awaits known b code at
  homes_awaited counts known code at b low r reads v is =
      let h = reads (record { 0 = v }) is in
      (omega (arith, home_below g (record { 0 = v }) h, low), r.homes (record { 0 = v }) h)

-- ---- one thing after the other

module _ (g : Setting) (counts : List ℕ) (known : Entries) (a b c : VProc) (from at : ℕ)
    (p : Closes g counts known a b from) (q : Closes g counts p.next b c at) where
  abbrev pub closes_on : ((n : ℕ) → n < count a → n ≢ from → n ≢ at) → count a ≤ count b →
      Closes g counts known a c from
  closes_on apart wide = record {
    next = q.next;
    same = λ n v lt. q.same n v (omega (arith, lt, wide)) ∙ p.same n v lt;
    rules = q.rules;
    certifies = q.certifies;
    waiting = λ n lt off r. q.waiting n (omega (arith, lt, wide)) (apart n lt off)
        (p.waiting n lt off r);
  }

-- ---- blocks that are opened

-- Blocks were opened, and nothing else is new.
pub record Opens (from : ℕ) (old new : VProc) : Type 0 where
  pub grows : GrowsAt from old new
  pub vars : new.vars ≡ old.vars
  pub code : (b : ℕ) → code_of new b ≡ code_of old b
  pub is_open : (b : ℕ) → IsOpen old b → IsOpen new b
  pub valid : StaysValid old new
  pub certified : (known : Entries) → Certifies known old → Certifies known new

opens_one : (from depth : ℕ) (old : VProc) → Opens from old (with_open_block depth old)
opens_one from depth old = record {
  grows = opened_grows depth old from;
  vars = refl;
  code = same_opened depth old;
  is_open = open_beside depth old;
  valid = record { stays = λ counts k. open_rules counts depth old k };
  certified = λ known c. open_certifies known depth old c;
}

opens_on : (from : ℕ) (a b c : VProc) → Opens from a b → Opens from b c → Opens from a c
opens_on from a b c p q = record {
  grows = grows_at_again a b c from p.grows q.grows;
  vars = q.vars ∙ p.vars;
  code = λ n. q.code n ∙ p.code n;
  is_open = λ n o. q.is_open n (p.is_open n o);
  valid = valid_on a b c p.valid q.valid;
  certified = λ known x. q.certified known (p.certified known x);
}

pub opens_beside : (from depth : ℕ) (old new : VProc) → new ≡ with_open_block depth old →
    Opens from old new
opens_beside from depth old new made = subst (λ (z : VProc). Opens from old z) (sym made)
    (opens_one from depth old)

pub opens_arm : (from depth : ℕ) (old new : VProc) → new ≡ with_arm depth old → Opens from old new
opens_arm from depth old new made =
    let one = with_open_block depth old in
    subst (λ (z : VProc). Opens from old z) (sym made)
    (opens_on from old one (with_open_block depth one) (opens_one from depth old)
    (opens_one from depth one))

pub opens_two : (from depth inner : ℕ) (old : VProc) →
    Opens from old (with_open_block inner (with_open_block inner (with_open_block depth old)))
opens_two from depth inner old =
    let one = with_open_block depth old in
    let two = with_open_block inner one in
    opens_on from old one (with_open_block inner two) (opens_one from depth old)
    (opens_on from one two (with_open_block inner two) (opens_one from inner one)
    (opens_one from inner two))

pub opens_loop : (from depth : ℕ) (old new : VProc) → new ≡ with_loop depth old → Opens from old new
opens_loop from depth old new made = subst (λ (z : VProc). Opens from old z) (sym made)
    (opens_two from depth (deeper depth) old)

-- a block that was open still is
pub loop_still_open : (from depth : ℕ) (old new : VProc) → IsOpen old from →
    new ≡ with_loop depth old → IsOpen new from
loop_still_open from depth old new o made = (opens_loop from depth old new made).is_open from o

module _ (g : Setting) (old new : VProc) (from : ℕ) (there : from < count old)
    (low : above_setting g ≤ length old.vars) (opens : Opens from old new) where
  pub no_params : AddsNoParam old new
  no_params v k is = subst (λ (l : List VarKind). slice_get l v ≡ Some (Param k)) opens.vars is

  empty : (b : ℕ) → count old ≤ b → code_of new b ≡ []
  empty b le = opens.code b ∙ code_past old b le

  module _ (counts : List ℕ) (known : Entries) (r : IsReady g counts known old from) where
    abbrev pub with_homes : Entries
    with_homes = with_entries (count old) (is_home g) known

    pub before : IsContinued known old with_homes
    before b v lt = entries_before (count old) (is_home g) known b v lt

    behind : (b v : ℕ) → count old ≤ b → with_homes b v ≡ is_home g v
    behind b v le = entries_from (count old) (is_home g) known b v le

    pub certified : Certifies with_homes new
    certified = opens.certified with_homes
        (certifies_other counts known with_homes old r.rules before r.certifies)

    pub rules : KeepsRules counts new
    rules = opens.valid.stays counts r.rules

    usable_from : (v : ℕ) → usable known old from v ≡ true → usable with_homes new from v ≡ true
    usable_from v is =
        ap (λ (l : List VarKind). is_constant (slice_index_or l v Plain) || readable
        (with_homes from v) (code_of new from) v) opens.vars
        ∙ ap (λ (l : List VInstr). is_constant (kind_of old v) || readable (with_homes from v) l v)
        (opens.code from)
        ∙ ap (λ e. is_constant (kind_of old v) || readable e (code_of old from) v)
        (before from v there)
        ∙ is

    abbrev pub opened_closes : Closes g counts known old new from
    opened_closes = record {
      next = with_homes;
      same = before;
      rules = rules;
      certifies = certified;
      waiting = waits g counts known with_homes old new from low before opens.grows no_params rules
          certified;
    }

    pub opened_from : IsReady g counts with_homes new from
    opened_from = ready_on g counts known with_homes (length old.vars) old new from from low
        opens.grows.grows.args no_params r rules certified (λ v lt is. usable_from v is)

    -- a block that was opened
    module _ (b : ℕ) (le : count old ≤ b) where
      pub opened_reads : ReadsHomes g with_homes b
      opened_reads v is = home_is g v (sym (behind b v.0 le) ∙ is)

      pub opened_ready : IsReady g counts with_homes new b
      opened_ready = record {
        rules = rules;
        certifies = certified;
        homes = λ v h. usable_empty with_homes new b v.0 (empty b le)
            (behind b v.0 le ∙ is_home_of g v h);
        cells = λ k h. cell_stays g counts known with_homes (length old.vars) old new from from low
            opens.grows.grows.args no_params k (r.cells k h);
      }

-- ---- a jump to a block that reads homes

module _ (g : Setting) (counts : List ℕ) (known : Entries) (code : VProc) (at : ℕ)
    (target : BlockId) (o : IsOpen code at) (low : above_setting g ≤ length code.vars)
    (r : IsReady g counts known code at) (reads : ReadsHomes g known target.0) (some : 0 < target.0)
    (there : target.0 < count code) where
  abbrev left : VProc
  left = with_end at (Jump target) code

  jumped_rules : KeepsRules counts left
  jumped_rules = close_rules counts at (Jump target) code o r.rules (record {
    targets = λ t e. (omega (arith, e, some), omega (arith, e, there));
    compared = λ k x y e. absurd (cc);
    goes_on = λ e. absurd (cc);
  })

  jumped_certifies : Certifies known left
  jumped_certifies = close_certifies known at (Jump target) code o r.certifies
      (λ t v e is. r.homes (record { 0 = v })
      (reads (record { 0 = v }) (ap (λ n. known n v) e ∙ is)))

  jumped : Closes g counts known code left at
  jumped = closes g counts known known code left at low (λ b v lt. refl)
      (closed_grows at (Jump target) code o) (λ v k is. is) jumped_rules jumped_certifies

  pub jumps_ready : (new : VProc) → new ≡ left → Closes g counts known code new at
  jumps_ready new is = subst (λ (z : VProc). Closes g counts known code z at) (sym is) jumped
