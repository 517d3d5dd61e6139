-- Variables that meet: by a liveness, and that they can't be one.
use Rattle.std.proofs.Common.{◌≡◌, ◌≢◌, ℕ, suc, ◌+◌, ◌*◌, ◌/◌, ◌<◌, ◌≤◌, ◌⊎◌, inl, inr, ⊎_elim}
use Rattle.std.proofs.Common.{Bool, true, false, not, ◌||◌, ◌&&◌, nat_eq, List, [], length, take}
use Rattle.std.proofs.Common.{get_or, All, slice_get, Some, None, IsTrue, refl, sym, ap, subst}
use Rattle.std.proofs.Common.{◌∙◌, arith}
use Rattle.std.proofs.lemmas.Bool.Decides.{nat_tests}
use Rattle.std.proofs.lemmas.Option.{slice_get_within, slice_get-get_or}
use Rattle.std.proofs.lemmas.Bool.{cases_lt}
use Rattle.std.proofs.lemmas.List.{get_or_past, take_all}
use Rattle.std.proofs.lemmas.List.Elements.{All-contains}
use Rattle.pra_list.proofs.Truths.{true_false, both_true, or_right, or_left, or_cases}
use Rattle.pra_list.proofs.Options.{some_same, not_both}
use Rattle.pra_base.specs.declared.code.VarKind.{VarKind}
use Rattle.pra_base.specs.declared.code.VarKind.TheVariants.{Param, Plain, Constant}
use Rattle.pra_base.specs.declared.code.Block.{Block}
use Rattle.pra_base.specs.declared.code.VInstr.{VInstr}
use Rattle.pra_base.specs.declared.code.VInstr.TheVariants as instr
use Rattle.pra_base.specs.declared.code.VProc.{VProc}
use Rattle.pra_base.specs.Code.{kind_of, block_in, code_of, instr_at, no_block}
use Rattle.pra_base.specs.Operands.{operands}
use Rattle.pra_base.specs.Live.{Live, LiveAs}
use Rattle.pra_base.specs.Valid.{Names}
use Rattle.vc_code.specs.declared.row.OperandRow.{OperandRow}
use Rattle.vc_code.specs.Rows.{row_of}
use Rattle.vc_live.specs.declared.liveness.Liveness.{Liveness}
use Rattle.vc_live.specs.Equations.{named_in}
use Rattle.vc_live.specs.Rows.{live_at}
use Rattle.vc_code.specs.declared.row.Role.{Role}
use Rattle.vc_live.proofs.Steps.{no_role, named_at, named_more, reads_named, writes_named}
use Rattle.vc_same.specs.Reduction.{Needed, overwrites}
use Rattle.vc_tidy.specs.Tidy.{is_between, AreApart}
use Rattle.vc_tidy.specs.declared.places.Place.{Place}
use Rattle.vc_tidy.specs.Joined.{IsKnown, IsJoinable, MeetsAt, Meets, varies, is_dividend, is_met}
use Rattle.vc_tidy.specs.Joined.{places_of, HasPlaces}
use Rattle.vc_tidy.proofs.Overwriting.{overwritten_is}

-- ---- one more role

not_eq : (a b : ℕ) → a ≢ b → nat_eq a b ≡ false
not_eq a b n = grind (arith, nat_tests)

pub in_role : (roles : List Role) (k v : ℕ) → k < length roles → (get_or roles k no_role).var.0 ≡
    v → named_in roles v ≡ true
in_role roles k v lt e = subst (λ u. named_in roles u ≡ true) e (named_at roles k no_role lt)

pub in_no_role : (roles : List Role) (k v : ℕ) → k < length roles →
    (get_or roles k no_role).var.0 ≢ v → named_in (take k roles) v ≡ false →
    named_in (take (k + 1) roles) v ≡ false
in_no_role roles k v lt n e = named_more roles k no_role lt v
    ∙ ap (λ b. b || nat_eq (get_or roles k no_role).var.0 v) e
    ∙ not_eq (get_or roles k no_role).var.0 v n

-- ---- variables that are no constants, needed and live

behind : (k : ℕ) → (2 * k + 2) / 2 ≡ suc k
behind k = omega arith

live_as : (kind : VarKind) (code : VProc) (w b layer : ℕ) → varies kind ≡ true →
    Needed code b (layer / 2) w → LiveAs kind code w b layer
live_as Plain code w b layer e needed = needed
live_as (Param i) code w b layer e needed = needed
live_as (Constant n) code w b layer e needed = absurd (true_false false e refl)

needed_as : (kind : VarKind) (code : VProc) (w b layer : ℕ) → varies kind ≡ true →
    LiveAs kind code w b layer → Needed code b (layer / 2) w
needed_as Plain code w b layer e is_live = is_live
needed_as (Param i) code w b layer e is_live = is_live
needed_as (Constant n) code w b layer e is_live = absurd (true_false false e refl)

pub varying_live : (code : VProc) (w b layer n : ℕ) → varies (kind_of code w) ≡ true →
    layer / 2 ≡ n → Needed code b n w → Live code w b layer
varying_live code w b layer n e at needed = live_as (kind_of code w) code w b layer e
    (subst (λ m. Needed code b m w) (sym at) needed)

live_varying : (code : VProc) (w b layer n : ℕ) → varies (kind_of code w) ≡ true →
    layer / 2 ≡ n → Live code w b layer → Needed code b n w
live_varying code w b layer n e at is_live = subst (λ m. Needed code b m w) at
    (needed_as (kind_of code w) code w b layer e is_live)

pub in_block : (code : VProc) (b k : ℕ) (i : VInstr) → instr_at code b k ≡ Some i →
    b < length code.blocks
in_block code b k i is =
    ⊎_elim
    (λ (lt : b < length code.blocks). lt)
    (λ (le : length code.blocks ≤ b).
    absurd (not_both None i refl
    (ap (λ (x : Block). slice_get x.code k) (sym (get_or_past code.blocks b no_block le))
    ∙ is)))
    (cases_lt b (length code.blocks))

-- ---- by a liveness

module _ (code : VProc) (l : Liveness) (known : IsKnown code l) (row : OperandRow) (i : VInstr)
    (b k v w : ℕ) (row_is : row_of row ≡ operands i) (is : instr_at code b k ≡ Some i)
    (joinable : IsJoinable code w) where
  here : b < length code.blocks
  here = in_block code b k i is

  inside : k < length (code_of code b)
  inside = slice_get_within (code_of code b) k i is

  abbrev live_here : Bool
  live_here = live_at l w b (2 * k + 2)

  live_needed : live_here ≡ true → Needed code b (suc k) w
  live_needed e = live_varying code w b (2 * k + 2) (suc k) joinable.1 (behind k)
      ((known.exact.exact w b (2 * k + 2) joinable.0 here (omega (arith, inside))).0 (to live_here e))
    where
      to : (c : Bool) → c ≡ true → IsTrue c
      to c e = e

  needed_live : Needed code b (suc k) w → live_here ≡ true
  needed_live needed = from live_here
      ((known.exact.exact w b (2 * k + 2) joinable.0 here (omega (arith, inside))).1
      (varying_live code w b (2 * k + 2) (suc k) joinable.1 (behind k) needed))
    where
      from : (c : Bool) → IsTrue c → c ≡ true
      from c t = t

  abbrev over_here : Bool
  over_here = named_in row.writes.items v || is_dividend i v

  met_parts : (m x y z : Bool) → (not m && (x || y || z)) ≡ true → (m ≡ false) ×
      ((x ≡ true) ⊎ ((y ≡ true) ⊎ (z ≡ true)))
  met_parts true x y z e = (cc, cc)
  met_parts false true y z e = (refl, inl refl)
  met_parts false false true z e = (refl, inr (inl refl))
  met_parts false false false z e = (refl, inr (inr e))

  unmet_parts : (m x y z : Bool) → (not m && (x || y || z)) ≡ false → m ≡ false → (x ≡ false) ×
      (y ≡ false) × (z ≡ false)
  unmet_parts true x y z e f = (cc, cc, cc)
  unmet_parts false true y z e f = (cc, cc, cc)
  unmet_parts false false true z e f = (cc, cc, cc)
  unmet_parts false false false z e f = (refl, refl, e)

  both : (x y : Bool) → (x && y) ≡ true → (x ≡ true) × (y ≡ true)
  both true y e = (refl, e)
  both false y e = (cc, cc)

  pub met_meets : Names i v → is_met l i row b k v w ≡ true → MeetsAt code b k v w
  met_meets first e =
      let p = met_parts (is_between v w i) (named_in row.reads.items w)
      (named_in row.writes.items w) (over_here && live_here) e in
      record { instr = i; is = is; other = p.0; first = first; second = by p.1 }
    where
      by : (named_in row.reads.items w ≡ true) ⊎
          ((named_in row.writes.items w ≡ true) ⊎ ((over_here && live_here) ≡ true)) → Names i w ⊎
          ((overwrites i v ≡ true) × Needed code b (suc k) w)
      by (inl r) = inl (inl (sym (reads_named row i row_is w) ∙ r))
      by (inr (inl r)) = inl (inr (sym (writes_named row i row_is w) ∙ r))
      by (inr (inr r)) = let p = both over_here live_here r in
          inr (overwritten_is row i v row_is ∙ p.0, live_needed p.1)

  pub unmet_not : is_met l i row b k v w ≡ false → MeetsAt code b k v w → ⊥
  unmet_not e m =
      let i_is : m.instr ≡ i = some_same m.instr i (sym m.is ∙ is) in
      let p = unmet_parts (is_between v w i) (named_in row.reads.items w)
      (named_in row.writes.items w) (over_here && live_here) e
      (ap (λ (j : VInstr). is_between v w j) (sym i_is) ∙ m.other) in
      by p.0 p.1 p.2 (subst (λ (j : VInstr). Names j w ⊎
      ((overwrites j v ≡ true) × Needed code b (suc k) w)) i_is m.second)
    where
      by : named_in row.reads.items w ≡ false → named_in row.writes.items w ≡ false →
          (over_here && live_here) ≡ false → Names i w ⊎
          ((overwrites i v ≡ true) × Needed code b (suc k) w) → ⊥
      by r s t (inl (inl n)) = true_false (named_in row.reads.items w)
          (reads_named row i row_is w ∙ n) r
      by r s t (inl (inr n)) = true_false (named_in row.writes.items w)
          (writes_named row i row_is w ∙ n) s
      by r s t (inr n) = true_false (over_here && live_here) (both_true over_here live_here
          (sym (overwritten_is row i v row_is) ∙ n.0) (needed_live n.1)) t

-- which variables the row has
pub row_names : (row : OperandRow) (i : VInstr) (v : ℕ) → row_of row ≡ operands i →
    (named_in row.reads.items v || named_in row.writes.items v) ≡ true → Names i v
row_names row i v row_is e =
    by (or_cases (named_in row.reads.items v) (named_in row.writes.items v) e)
  where
    by : (named_in row.reads.items v ≡ true) ⊎ (named_in row.writes.items v ≡ true) → Names i v
    by (inl r) = inl (sym (reads_named row i row_is v) ∙ r)
    by (inr r) = inr (sym (writes_named row i row_is v) ∙ r)

pub row_not : (row : OperandRow) (i : VInstr) (v : ℕ) → row_of row ≡ operands i →
    (named_in row.reads.items v || named_in row.writes.items v) ≡ false → Names i v → ⊥
row_not row i v row_is e (inl r) =
    true_false _ (or_left (named_in row.reads.items v) (named_in row.writes.items v)
    (reads_named row i row_is v ∙ r)) e
row_not row i v row_is e (inr r) =
    true_false _ (or_right (named_in row.reads.items v) (named_in row.writes.items v)
    (writes_named row i row_is v ∙ r)) e

-- what stands at a place, as it is read there
pub found_at : (code : VProc) (b k : ℕ) (x : Block) (xs : List VInstr) (d : VInstr) →
    b < length code.blocks → x ≡ get_or code.blocks b x → xs ≡ x.code → k < length xs →
    instr_at code b k ≡ Some (get_or xs k d)
found_at code b k x xs d bl x_is xs_is kl =
    let same : x ≡ block_in code.blocks b =
    x_is ∙ some_same _ _ (sym (slice_get-get_or code.blocks b x bl)
    ∙ slice_get-get_or code.blocks b no_block bl) in
    ap (λ (ys : List VInstr). slice_get ys k) (sym (xs_is ∙ ap (λ (y : Block). y.code) same))
    ∙ slice_get-get_or xs k d kl

pub none_there : (code : VProc) (b k v w : ℕ) (i : VInstr) (row : OperandRow) → row_of row ≡
    operands i → instr_at code b k ≡ Some i →
    (named_in row.reads.items v || named_in row.writes.items v) ≡ false → MeetsAt code b k v w → ⊥
none_there code b k v w i row row_is is none m = row_not row i v row_is none
    (subst (λ (j : VInstr). Names j v) (some_same m.instr i (sym m.is ∙ is)) m.first)

-- of no block, or of no instruction
pub none_past : (code : VProc) (b k v w : ℕ) → instr_at code b k ≡ None → MeetsAt code b k v w → ⊥
none_past code b k v w e m = not_both None m.instr refl (sym e ∙ m.is)

-- all of them were asked
pub none_met : (code : VProc) (l : Liveness) (row : OperandRow) (i : VInstr) (b k v n : ℕ)
    (others : List ℕ) → IsKnown code l → row_of row ≡ operands i → instr_at code b k ≡ Some i →
    All (IsJoinable code) others → length others ≤ n →
    All (λ w. is_met l i row b k v w ≡ false) (take n others) →
    All (λ w. MeetsAt code b k v w → ⊥) others
none_met code l row i b k v n others known row_is is plain le none =
    let all = subst (λ (ws : List ℕ). All (λ w. is_met l i row b k v w ≡ false) ws)
    (take_all n others le) none in
    λ j d lt m. unmet_not code l known row i b k v (get_or others j d) row_is is (plain j d lt)
    (all j d lt) m

pub nowhere : (code : VProc) (places : List (List Place)) (v w : ℕ) → HasPlaces code places →
    length places ≤ v → Meets code v w → ⊥
nowhere code places v w has le m =
    let c = has m.0 m.1 m.2.instr m.2.is v m.2.first in
    let none : length (places_of places v) ≡ 0 = ap length (get_or_past places v [] le) in
    let lt = c.1 in
    omega (arith, none, lt)

-- a variable that meets none of others at its places meets none
pub nowhere_met : (code : VProc) (places : List (List Place)) (v : ℕ) (others : List ℕ) →
    HasPlaces code places → All
    (λ (p : Place). All (λ w. MeetsAt code p.block p.index v w → ⊥) others) (places_of places v) →
    All (λ w. Meets code v w → ⊥) others
nowhere_met code places v others has none j d lt m =
    All-contains (λ (p : Place). All (λ w. MeetsAt code p.block p.index v w → ⊥) others)
    (places_of places v) (record { block = m.0; index = m.1 }) none
    (has m.0 m.1 m.2.instr m.2.is v m.2.first) j d lt m.2

pub the_places : (places : List (List Place)) (v : ℕ) (x : List Place) → v < length places →
    x ≡ get_or places v x → x ≡ places_of places v
the_places places v x lt e =
    e ∙ some_same _ _ (sym (slice_get-get_or places v x lt) ∙ slice_get-get_or places v [] lt)

-- ---- variables that meet can't be one

between_back : (t s : ℕ) (i : VInstr) → is_between s t i ≡ false → is_between t s i ≡ false
between_back t s (instr.Copy v u) e = by (nat_eq v.0 t && nat_eq u.0 s)
    (nat_eq v.0 s && nat_eq u.0 t) e
  where
    by : (a b : Bool) → (b || a) ≡ false → (a || b) ≡ false
    by true true e = cc
    by true false e = cc
    by false true e = cc
    by false false e = refl
between_back t s (instr.Set v n) e = refl
between_back t s (instr.Add v u) e = refl
between_back t s (instr.Sub v u) e = refl
between_back t s (instr.And v u) e = refl
between_back t s (instr.Or v u) e = refl
between_back t s (instr.Xor v u) e = refl
between_back t s (instr.Mul v u) e = refl
between_back t s (instr.Neg v) e = refl
between_back t s (instr.Shift op v n) e = refl
between_back t s (instr.Cmp a b) e = refl
between_back t s (instr.CmpSet c v a b) e = refl
between_back t s (instr.DivMod q r a d) e = refl
between_back t s (instr.Check v n) e = refl
between_back t s (instr.CheckPos v) e = refl
between_back t s (instr.Load v a) e = refl
between_back t s (instr.Store a u) e = refl
between_back t s (instr.Addr v a) e = refl
between_back t s (instr.Push u) e = refl
between_back t s (instr.Call p) e = refl
between_back t s (instr.Read v) e = refl
between_back t s (instr.Write u) e = refl
between_back t s instr.Line e = refl
between_back t s instr.Clear e = refl

pub apart_back : (code : VProc) (t s : ℕ) → AreApart code t s → AreApart code s t
apart_back code t s apart = record {
  there = apart.back;
  back = apart.there;
  one_each = λ b k i is one other free. apart.one_each b k i is other one
      (between_back t s i free);
}

pub meeting_cant : (code : VProc) (t s : ℕ) → IsJoinable code s → Meets code t s →
    AreApart code t s → ⊥
meeting_cant code t s joinable m apart = by m.2.second
  where
    by : Names m.2.instr s ⊎ ((overwrites m.2.instr t ≡ true) × Needed code m.0 (suc m.1) s) → ⊥
    by (inl named) = apart.one_each m.0 m.1 m.2.instr m.2.is m.2.first named m.2.other
    by (inr p) = apart.there (
      m.0,
      m.1,
      m.2.instr,
      m.2.is,
      m.2.other,
      p.0,
      varying_live code s m.0 (2 * m.1 + 2) (suc m.1) joinable.1 (behind m.1) p.1,
    )

pub meeting_back_cant : (code : VProc) (t s : ℕ) → IsJoinable code t → Meets code s t →
    AreApart code t s → ⊥
meeting_back_cant code t s joinable m apart =
    meeting_cant code s t joinable m (apart_back code t s apart)
