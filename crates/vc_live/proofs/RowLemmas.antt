-- The sets of a block's points, where they stand from its end to its begin.
use Rattle.std.proofs.Common.{◌≡◌, ◌≢◌, inl, inr, ℕ, suc, ◌+◌, ◌-◌, ◌/◌, ◌<◌, ◌≤◌, Bool, true}
use Rattle.std.proofs.Common.{false, ◌&&◌, ◌||◌, not, if◌then◌else◌, List, [], ◌∷◌, ◌++◌, length}
use Rattle.std.proofs.Common.{get_or, set, take, drop, refl, sym, ap, ◌∙◌, arith, get_or-set_same}
use Rattle.std.proofs.Common.{get_or-set_other, length-set}
use Rattle.std.proofs.lemmas.Bool.{lt-ltb, le-ltb, cases_eq, cases_order}
use Rattle.std.proofs.lemmas.List.{get_or_past, length_push, get_or_append_left, get_or_push}
use Rattle.std.proofs.lemmas.List.{get_or_default, take_all}
use Rattle.std.proofs.lemmas.List.Folds.{list_any_more}
use Rattle.std.proofs.lemmas.Option.{slice_get_read}
use Rattle.vc_live.specs.Sets.{contains}
use Rattle.pra_base.specs.declared.code.VInstr.{VInstr}
use Rattle.pra_base.specs.declared.code.VProc.{VProc}
use Rattle.pra_base.specs.declared.code.End.{End}
use Rattle.pra_base.specs.declared.code.End.TheVariants.{Jump, Branch, Return}
use Rattle.pra_base.specs.Code.{end_of, IsTarget}
use Rattle.pra_base.specs.Operands.{reads}
use Rattle.pra_base.specs.Valid.{IsSized, Names}
use Rattle.vc_live.specs.Equations.{through, before, entry, Fits, HaveWords, FitsEnd, InRange}
use Rattle.vc_live.specs.Equations.{IsSound}
use Rattle.vc_live.specs.declared.liveness.Liveness.{Liveness}
use Rattle.vc_live.specs.Rows.{set_of, has_at, live_at, read_in, RowsBack, RowsOf, Confined}
use Rattle.vc_live.proofs.SetLemmas.{none_in}
use Rattle.vc_live.proofs.Steps.{before-same, through_more, through_end, or_swapped}

pub empty_has : (v : ℕ) → contains [] v ≡ false
empty_has v = none_in [] (λ k below. absurd (omega arith)) v

pub set_of-within : (rows : List (List ℕ)) (k : ℕ) → k < length rows → set_of rows k ≡
    get_or rows (length rows - 1 - k) []
set_of-within rows k within = rw (lt-ltb k (length rows) within) refl

pub set_of-past : (rows : List (List ℕ)) (k : ℕ) → length rows ≤ k → set_of rows k ≡ []
set_of-past rows k beyond = rw (le-ltb k (length rows) beyond) refl

pub no_point_at : (blocks : List (List (List ℕ))) (rows : List (List ℕ)) (b k v : ℕ) →
    rows ≡ get_or blocks b [] → length rows ≤ k → false ≡ has_at blocks b k v
no_point_at blocks rows b k v is beyond = rw (← is, set_of-past rows k beyond) (sym (empty_has v))

pub no_block_at : (blocks : List (List (List ℕ))) (b k v : ℕ) → length blocks ≤ b →
    false ≡ has_at blocks b k v
no_block_at blocks b k v beyond = no_point_at blocks [] b k v (sym (get_or_past blocks b [] beyond))
    (omega arith)

-- what is not in the set of the first point is not live where the block begins: no constant is
pub absent_at_entry : (l : Liveness) (v b : ℕ) → has_at l.blocks b 0 v ≡ false → live_at l v b 0 ≡
    false
unfolding live_at
absent_at_entry l v b none = either (contains l.constants v) (has_at l.blocks b 0 v) none
  where
    either : (t x : Bool) → x ≡ false → if◌then◌else◌ t false x ≡ false
    either true x none = refl
    either false x none = none

-- ---- the sets pushed from the end of a block to its begin

-- `left` instructions are left, and the sets of all later points stand
pub record BackTo (constants : ℕ → Bool) (instrs : List VInstr) (out : ℕ → Bool) (words : ℕ)
    (now : List ℕ) (rows : List (List ℕ)) (left : ℕ) : Type 0 where
  pub within : left ≤ length instrs
  pub now_words : length now ≡ words
  pub now_members : (v : ℕ) → contains now v ≡ through constants (drop left instrs) out v
  pub count : length rows + left ≡ length instrs + 1
  pub members : (k v : ℕ) → left ≤ k → k ≤ length instrs →
      contains (get_or rows (length instrs - k) []) v ≡ through constants (drop k instrs) out v
  pub sets : HaveWords words rows

pub pushed_back : (constants : ℕ → Bool) (instrs : List VInstr) (out : ℕ → Bool) (words : ℕ)
    (now : List ℕ) (rows : List (List ℕ)) (left : ℕ) → left ≤ length instrs → length now ≡ words →
    ((v : ℕ) → contains now v ≡ through constants (drop left instrs) out v) →
    length rows + suc left ≡ length instrs + 1 →
    ((k v : ℕ) → suc left ≤ k → k ≤ length instrs → contains (get_or rows (length instrs - k) [])
    v ≡ through constants (drop k instrs) out v) → HaveWords words rows →
    BackTo constants instrs out words now (rows ++ now ∷ []) left
pushed_back constants instrs out words now rows left within long members count old sets = record {
  within = within;
  now_words = long;
  now_members = members;
  count = omega (arith, length_push rows now);
  members = λ k v from to. elim (cases_eq k left) [
    | inl at ↦ rw (at, last_of (length instrs - left) (omega arith)) (members v)
    | inr apart ↦ rw (get_or_append_left rows (now ∷ []) [] (length instrs - k) (omega arith))
        (old k v (omega arith) to)
  ];
  sets = λ b below. elim (cases_eq b (length rows)) [
    | inl at ↦ rw (last_of b at) long
    | inr apart ↦ rw (get_or_append_left rows (now ∷ []) [] b (omega (arith, length_push rows now)))
        (sets b (omega (arith, length_push rows now)))
  ];
}
  where
    last_of : (j : ℕ) → j ≡ length rows → get_or (rows ++ now ∷ []) j [] ≡ now
    last_of j at = get_or_push rows now [] j (sym at)

-- the end's set stands
pub began_back : (constants : ℕ → Bool) (instrs : List VInstr) (out : ℕ → Bool) (words : ℕ)
    (now : List ℕ) (left : ℕ) → left ≡ length instrs → length now ≡ words →
    ((v : ℕ) → contains now v ≡ out v) →
    BackTo constants instrs out words now (now ∷ []) left
began_back constants instrs out words now left last long members =
    pushed_back constants instrs out words now [] left (omega arith) long
    (λ v. members v ∙ sym (through_end constants instrs out v left (omega arith))) (omega arith)
    (λ k v from to. absurd (omega arith)) (λ b below. absurd (omega arith))

-- one instruction further to the begin
pub stepped_back : (constants : ℕ → Bool) (instrs : List VInstr) (out : ℕ → Bool) (words : ℕ)
    (now next : List ℕ) (rows : List (List ℕ)) (left : ℕ) (i : VInstr) →
    BackTo constants instrs out words now rows left → 0 < left →
    i ≡ get_or instrs (left - 1) i → length next ≡ length now →
    ((v : ℕ) → contains next v ≡ before constants i (contains now) v) →
    BackTo constants instrs out words next (rows ++ next ∷ []) (left - 1)
stepped_back constants instrs out words now next rows left i back some read long step =
    pushed_back constants instrs out words next rows (left - 1) (omega (arith, back.within))
    (long ∙ back.now_words)
    (λ v. step v ∙ before-same constants (contains now) (through constants (drop left instrs) out) i
    v (back.now_members v) ∙
    ap (λ j. before constants j (through constants (drop left instrs) out) v) read
    ∙ sym (through_more constants instrs (left - 1) left i (omega arith)
    (omega (arith, back.within)) out v))
    (omega (arith, back.count)) (λ k v from to. back.members k v (omega arith) to) back.sets

-- an instruction that was read by its number names what there is room for
pub fits_at : (words n k : ℕ) (instrs : List VInstr) (i : VInstr) → Fits words instrs →
    i ≡ get_or instrs k i → k < length instrs → n ≡ words → (v : ℕ) → Names i v → v / 64 < n
fits_at words n k instrs i fits read within same v named =
    rw same (fits k i (slice_get_read instrs (length instrs) k i refl within read) v named)

pub rows_back : (constants : ℕ → Bool) (instrs : List VInstr) (out : ℕ → Bool) (words : ℕ)
    (now : List ℕ) (rows : List (List ℕ)) → BackTo constants instrs out words now rows 0 →
    RowsBack constants instrs out rows
rows_back constants instrs out words now rows back = record {
  count = omega (arith, back.count);
  members = λ k v to. let e : length rows - 1 - k ≡ length instrs - k = omega (arith, back.count) in
      rw (set_of-within rows k (omega (arith, back.count)), e) (back.members k v (omega arith) to);
}

-- ---- a set that is written in its place

pub set_of-set_same : (rows : List (List ℕ)) (k : ℕ) (next : List ℕ) → k < length rows →
    set_of (set rows (length rows - 1 - k) next) k ≡ next
set_of-set_same rows k next within =
    let long = length-set rows (length rows - 1 - k) next in
    set_of-within (set rows (length rows - 1 - k) next) k (omega arith)
    ∙ rw (long, get_or-set_same rows (length rows - 1 - k) next [] (omega arith)) refl

pub set_of-set_other : (rows : List (List ℕ)) (k j : ℕ) (next : List ℕ) → k < length rows →
    j < length rows → j ≢ k → set_of (set rows (length rows - 1 - k) next) j ≡ set_of rows j
set_of-set_other rows k j next within also apart =
    let long = length-set rows (length rows - 1 - k) next in
    let ne : length rows - 1 - j ≢ length rows - 1 - k = omega arith in
    set_of-within (set rows (length rows - 1 - k) next) j (omega arith)
    ∙ rw (long, get_or-set_other rows (length rows - 1 - k) (length rows - 1 - j) next [] ne)
    (sym (set_of-within rows j also))

-- the sets of the points below k are confined, the others as they were
pub record ConfinedTo (constants : ℕ → Bool) (instrs : List VInstr) (words : ℕ)
    (old rows : List (List ℕ)) (seen : List ℕ) (k : ℕ) : Type 0 where
  pub seen_words : length seen ≡ words
  pub seen_members : (v : ℕ) → contains seen v ≡ read_in (take k instrs) v
  pub same_count : length rows ≡ length old
  pub sets : HaveWords words rows
  pub done : (j v : ℕ) → j < k → contains (set_of rows j) v ≡
      (contains (set_of old j) v && (read_in (take (j + 1) instrs) v || not (constants v)))
  pub left : (j : ℕ) → k ≤ j → j < length rows → set_of rows j ≡ set_of old j

pub confined_more : (constants : ℕ → Bool) (instrs : List VInstr) (words : ℕ)
    (old rows : List (List ℕ)) (seen also next : List ℕ) (k at : ℕ) →
    ConfinedTo constants instrs words old rows seen k → k < length rows → at ≡ length rows - 1 - k →
    length also ≡ words → ((v : ℕ) → contains also v ≡ read_in (take (k + 1) instrs) v) →
    length next ≡ words →
    ((v : ℕ) → contains next v ≡
    (contains (get_or rows at []) v && (contains also v || not (constants v)))) →
    ConfinedTo constants instrs words old (set rows at next) also (k + 1)
confined_more constants instrs words old rows seen also next k at so_far within place long members
    next_long next_members = rw place (record {
      seen_words = long;
      seen_members = members;
      same_count = length-set rows (length rows - 1 - k) next ∙ so_far.same_count;
      sets = λ b below. elim (cases_eq b (length rows - 1 - k)) [
        | inl is ↦ rw (is, get_or-set_same rows (length rows - 1 - k) next [] (omega arith))
            next_long
        | inr apart ↦ rw (get_or-set_other rows (length rows - 1 - k) b next [] apart)
            (so_far.sets b (omega (arith, length-set rows (length rows - 1 - k) next)))
      ];
      done = λ j v below. elim (cases_eq j k) [
        | inl is ↦ rw (
          is,
          set_of-set_same rows k next within,
          next_members v,
          members v,
          place,
          ← set_of-within rows k within,
          so_far.left k (omega arith) within,
        ) refl
        | inr apart ↦ rw (set_of-set_other rows k j next within (omega arith) apart)
            (so_far.done j v (omega arith))
      ];
      left = λ j from below. set_of-set_other rows k j next within
          (omega (arith, length-set rows (length rows - 1 - k) next)) (omega arith)
          ∙ so_far.left j (omega arith) (omega (arith, length-set rows (length rows - 1 - k) next));
    })

-- ---- the entries at the begin, and what sized code keeps in range

pub record Empties (words : ℕ) (entries : List (List ℕ)) (count : ℕ) : Type 0 where
  pub same_count : length entries ≡ count
  pub sets : HaveWords words entries
  pub none : (b v : ℕ) → contains (entry entries b) v ≡ false

pub no_empties : (words : ℕ) → Empties words [] 0
no_empties words = record {
  same_count = refl;
  sets = λ b below. absurd (omega arith);
  none =
      λ b v. empty_has v;
}

pub more_empties : (words : ℕ) (entries : List (List ℕ)) (count : ℕ) (set : List ℕ) →
    Empties words entries count → length set ≡ words → ((v : ℕ) → contains set v ≡ false) →
    Empties words (entries ++ set ∷ []) (count + 1)
more_empties words entries count set so_far long none = record {
  same_count = omega (arith, length_push entries set, so_far.same_count);
  sets = λ b below. elim (cases_order b (length entries)) [
    | inl at ↦ rw (get_or_push entries set [] b (sym at)) long
    | inr (inl before) ↦ rw (get_or_append_left entries (set ∷ []) [] b before)
        (so_far.sets b before)
    | inr (inr after) ↦ absurd (omega (arith, length_push entries set))
  ];
  none = λ b v. elim (cases_order b (length entries)) [
    | inl at ↦ rw (get_or_push entries set [] b (sym at)) (none v)
    | inr (inl before) ↦ rw (get_or_append_left entries (set ∷ []) [] b before) (so_far.none b v)
    | inr (inr after) ↦ rw (get_or_past (entries ++ set ∷ []) b []
        (omega (arith, length_push entries set))) (empty_has v)
  ];
}

pub nothing_sound : (code : VProc) (words : ℕ) (entries : List (List ℕ)) (count : ℕ) →
    Empties words entries count → (constants : ℕ → Bool) → IsSound code constants entries
nothing_sound code words entries count empties constants b v free has =
    absurd (contradiction (contains (entry entries b) v) (empties.none b v) has)
  where
    contradiction : (x : Bool) → x ≡ false → x ≡ true → ⊥
    contradiction x absent is = cc

fits_end : (blocks : ℕ) (end : End) → ((t : ℕ) → IsTarget end t → t < blocks) → FitsEnd blocks end
fits_end blocks (Jump b) f = f b.0 refl
fits_end blocks (Branch c one other) f = (f one.0 (inl refl), f other.0 (inr refl))
fits_end blocks Return f = tt

pub sized_range : (code : VProc) (words : ℕ) → words ≡ length code.vars / 64 + 1 → IsSized code →
    InRange words code
sized_range code words is sized = record {
  instrs = λ b k i at v named. let below = sized.variables_in_range b k i at v named in
      rw is (omega arith);
  ends = λ b below. fits_end (length code.blocks) (end_of code b)
      (λ t target. sized.targets_in_range b t below target);
}

-- ---- one instruction further to the end

pub confined_step : (constants : ℕ → Bool) (instrs : List VInstr) (words : ℕ)
    (old rows : List (List ℕ)) (seen also next target : List ℕ) (k at : ℕ) (i : VInstr) →
    ConfinedTo constants instrs words old rows seen k →
    k < length rows → at ≡ length rows - 1 - k → k < length instrs → i ≡ get_or instrs k i →
    length also ≡ length seen → ((v : ℕ) → contains also v ≡ (reads i v || contains seen v)) →
    target ≡ get_or rows at target →
    length next ≡ length target →
    ((v : ℕ) → contains next v ≡ (contains target v && (contains also v || not (constants v))))
    → ConfinedTo constants instrs words old (set rows at next) also (k + 1)
confined_step constants instrs words old rows seen also next target k at i so_far within place
    inside read long marked is next_long next_members =
    let here : target ≡ get_or rows at [] = is ∙ get_or_default rows at target [] (omega arith) in
    confined_more constants instrs words old rows seen also next k at so_far within place
    (long ∙ so_far.seen_words)
    (λ v. marked v ∙ or_swapped (reads i v) (contains seen v) ∙ ap (λ b. b || reads i v)
    (so_far.seen_members v) ∙ ap (λ j. read_in (take k instrs) v || reads j v) read
    ∙ sym (list_any_more (λ j. reads j v) instrs k i inside))
    (next_long ∙ ap length here ∙ so_far.sets at (omega arith))
    (λ v. next_members v ∙ ap (λ s. contains s v && (contains also v || not (constants v)))
    here)

-- the set at the block's end
pub confined_last : (constants : ℕ → Bool) (instrs : List VInstr) (words : ℕ)
    (old rows : List (List ℕ)) (seen next target : List ℕ) (k : ℕ) →
    ConfinedTo constants instrs words old rows seen k → k ≡ length instrs → length rows ≡ k + 1 →
    target ≡ get_or rows 0 target → length next ≡ length target →
    ((v : ℕ) → contains next v ≡ (contains target v && (contains seen v || not (constants v))))
    → Confined constants instrs old (set rows 0 next) (k + 1)
confined_last constants instrs words old rows seen next target k so_far last count is next_long
    next_members =
    let here : target ≡ get_or rows 0 [] = is ∙ get_or_default rows 0 target [] (omega arith) in
    let all : take k instrs ≡ take (k + 1) instrs = take_all k instrs (omega arith)
    ∙ sym (take_all (k + 1) instrs (omega arith)) in
    let to = confined_more constants instrs words old rows seen seen next k 0 so_far (omega arith)
    (omega arith) so_far.seen_words (λ v. so_far.seen_members v ∙ ap (λ xs. read_in xs v) all)
    (next_long ∙ ap length here ∙ so_far.sets 0 (omega arith))
    (λ v. next_members v ∙ ap (λ s. contains s v && (contains seen v || not (constants v)))
    here) in
    record { same_count = to.same_count; done = to.done }

pub rows_of : (constants : ℕ → Bool) (instrs : List VInstr) (out : ℕ → Bool)
    (old rows : List (List ℕ)) → RowsBack constants instrs out old →
    Confined constants instrs old rows (length instrs + 1) → RowsOf constants instrs out rows
rows_of constants instrs out old rows back confined = record {
  count = confined.same_count ∙ back.count;
  members = λ k v to. confined.done k v (omega arith)
      ∙ ap (λ b. b && (read_in (take (k + 1) instrs) v || not (constants v))) (back.members k v to);
}
