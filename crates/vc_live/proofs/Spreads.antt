-- Blocks are asked for a word until none owes anything.
use Rattle.std.proofs.Common.{◌≡◌, ℕ, suc, ◌+◌, ◌/◌, ◌%◌, ◌<◌, ◌≤◌, ◌⊎◌, inl, inr, Bool, true}
use Rattle.std.proofs.Common.{false, not, ◌||◌, ◌&&◌, nat_eq, List, [], ◌∷◌, ◌++◌, drop, length}
use Rattle.std.proofs.Common.{get_or, set, if◌then◌else◌, refl, sym, ap, subst, ◌∙◌, arith}
use Rattle.std.proofs.Common.{get_or-set_same, get_or-set_other, length-set, drop-cons}
use Rattle.std.specs.List.{list_any}
use Rattle.std.proofs.lemmas.Bool.{cases_eq, eq-eqb, eqb-true, ne_eqb}
use Rattle.std.proofs.lemmas.List.{set-get_or, length_push, drop_all}
use Rattle.std.proofs.lemmas.List.Folds.{list_any-append}
use Rattle.std.proofs.lemmas.List.Sums.{sum_by-set}
use Rattle.pra_base.specs.declared.code.VProc.{VProc}
use Rattle.pra_base.specs.Code.{end_of, IsTarget}
use Rattle.pra_base.specs.Live.{ReadBeforeWritten}
use Rattle.vc_live.specs.Sets.{contains, has_bit, room}
use Rattle.vc_live.specs.Equations.{entry, at_targets, Shape, IsSound, total_room}
use Rattle.vc_live.specs.Spreading.{AreStops, passes, HasAsked, HasSpread, is_left, AreWithin}
use Rattle.vc_live.specs.Spreading.{IsPassed}
use Rattle.vc_live.proofs.Theory.{to_target}
use Rattle.vc_live.proofs.Made.{sound_passed}

or_left : (x y : Bool) → x ≡ true → (x || y) ≡ true
or_left x y is = rw is refl

or_right : (x y : Bool) → y ≡ true → (x || y) ≡ true
or_right true y is = refl
or_right false y is = is

either_true : (x y : Bool) → (x || y) ≡ true → (x ≡ true) ⊎ (y ≡ true)
either_true true y is = inl refl
either_true false y is = inr is

both_true : (x y : Bool) → (x && y) ≡ true → (x ≡ true) × (y ≡ true)
both_true true y is = (refl, is)
both_true false y is = cc

-- ---- one block is asked

-- `more` are the bits that the equation asks for
pub asked_of : (code : VProc) (stops entries : List (List ℕ)) (b word live more : ℕ)
    (next : List ℕ) (grown : Bool) → b < length entries →
    ((v : ℕ) → v / 64 ≡ word → has_bit live (v % 64) ≡ at_targets entries (end_of code b) v) →
    ((i : ℕ) → i < 64 → has_bit more i ≡
    (has_bit live i && not (has_bit (get_or (entry stops b) word 0) i))) →
    length next ≡ length (entry entries b) →
    ((v : ℕ) → contains next v ≡
    (contains (entry entries b) v || (nat_eq (v / 64) word && has_bit more (v % 64)))) →
    (grown ≡ false → next ≡ entry entries b) →
    room next + (if grown then 1 else 0) ≤ room (entry entries b) →
    HasAsked code stops entries (set entries b next) b word grown
unfolding total_room contains
asked_of code stops entries b word live more next grown within lives mores long members same less =
    record {
      count = length-set entries b next;
      words = ap length at_b ∙ long;
      members = λ v. ap (λ s. contains s v) at_b ∙ members v
          ∙ ap (λ x. contains (entry entries b) v || x) (in_word v);
      others = λ c apart. get_or-set_other entries b c next [] apart;
      same = λ e. ap (set entries b) (same e) ∙ set-get_or entries b [];
      room = omega (arith, less, sum_by-set room entries b next [] within);
    }
  where
    at_b : entry (set entries b next) b ≡ next
    at_b = get_or-set_same entries b next [] within

    in_word : (v : ℕ) → (nat_eq (v / 64) word && has_bit more (v % 64)) ≡
        (nat_eq (v / 64) word && passes code stops entries b v)
    in_word v = elim (cases_eq (v / 64) word) [
      | inl at ↦ ap (λ x. nat_eq (v / 64) word && x)
          (mores (v % 64) (omega arith) ∙ rw (lives v at, at) refl)
      | inr apart ↦ rw (ne_eqb (v / 64) word apart) refl
    ]

-- of the blocks that lead to one, those from number i on are still to be asked
pub record AskedTo (code : VProc) (words : ℕ) (constants : ℕ → Bool) (stops : List (List ℕ))
    (word : ℕ) (start now : List (List ℕ)) (block : ℕ) (sources before left : List ℕ)
    (i : ℕ) : Type 0 where
  pub spread : HasSpread words code constants word start now
  pub passed : IsPassed code stops now word (λ b t. (is_left left t ≡ true) ⊎
      ((t ≡ block) × (list_any (nat_eq b) (drop i sources) ≡ true)))
  pub within : AreWithin left (length code.blocks)
  pub room : total_room now + length left ≤ total_room start + length before

module _ (code : VProc) (words : ℕ) (constants : ℕ → Bool) (stops : List (List ℕ)) (word : ℕ)
    (are : AreStops words code constants stops (length code.blocks)) where
  -- what block b had it has still
  kept_once : (now next : List (List ℕ)) (q : ℕ) (grown : Bool) → HasAsked code stops now next q
      word grown → (b v : ℕ) → contains (entry now b) v ≡ true → contains (entry next b) v ≡ true
  kept_once now next q grown asked b v has = elim (cases_eq b q) [
    | inl at ↦ rw (at, asked.members v, subst (λ c. contains (entry now c) v ≡ true) at has) refl
    | inr apart ↦ rw (asked.others b apart) has
  ]

  -- what is live where block t begins, and passes block q that leads there, has been taken in
  taken_in : (now next : List (List ℕ)) (q t v : ℕ) (grown : Bool) → HasAsked code stops now next q
      word grown → IsTarget (end_of code q) t → v / 64 ≡ word → contains (entry now t) v ≡ true →
      contains (entry stops q) v ≡ false → contains (entry next q) v ≡ true
  taken_in now next q t v grown asked target at has free =
      asked.members v ∙ rw (
        eq-eqb (v / 64) word at,
        to_target now (end_of code q) t v target has,
        free,
      ) (or_right (contains (entry now q) v) true refl)

  pub spread_none : (start : List (List ℕ)) → Shape words code start →
      HasSpread words code constants word start start
  spread_none start shape = record {
    shape = shape;
    sound = λ sound. sound;
    kept = λ b v has. has;
    others = λ b v apart. refl;
  }

  pub spread_both : (start now next : List (List ℕ)) →
      HasSpread words code constants word start now →
      HasSpread words code constants word now next → HasSpread words code constants word start next
  spread_both start now next one other = record {
    shape = other.shape;
    sound = λ sound. other.sound (one.sound sound);
    kept = λ b v has. other.kept b v (one.kept b v has);
    others = λ b v apart. other.others b v apart ∙ one.others b v apart;
  }

  spread_once : (now next : List (List ℕ)) (q : ℕ) (grown : Bool) → Shape words code now →
      q < length code.blocks → HasAsked code stops now next q word grown →
      HasSpread words code constants word now next
  spread_once now next q grown shape below asked = record {
    shape = record {
      count = asked.count ∙ shape.count;
      sets = λ b within. elim (cases_eq b q) [
        | inl at ↦ rw (at, asked.words) (shape.sets q (omega (arith, shape.count)))
        | inr apart ↦ rw (asked.others b apart) (shape.sets b (omega (arith, asked.count)))
      ];
    };
    sound = λ sound b v free has. elim (cases_eq b q) [
      | inl at ↦ subst (λ c. ReadBeforeWritten code v (record { block = c; index = 0 })) (sym at)
          (at_q sound v free (either_true (contains (entry now q) v)
          (nat_eq (v / 64) word && passes code stops now q v)
          (sym (asked.members v) ∙ subst (λ c. contains (entry next c) v ≡ true) at has)))
      | inr apart ↦ sound b v free (sym (ap (λ s. contains s v) (asked.others b apart)) ∙ has)
    ];
    kept = kept_once now next q grown asked;
    others = λ b v apart. elim (cases_eq b q) [
      | inl at ↦ rw (at, asked.members v, ne_eqb (v / 64) word apart)
          (or_false (contains (entry now q) v))
      | inr other ↦ ap (λ s. contains s v) (asked.others b other)
    ];
  }
    where
      or_false : (x : Bool) → (x || false) ≡ x
      or_false true = refl
      or_false false = refl

      at_q : IsSound code constants now → (v : ℕ) → constants v ≡ false →
          (contains (entry now q) v ≡ true) ⊎
          ((nat_eq (v / 64) word && passes code stops now q v) ≡ true) →
          ReadBeforeWritten code v (record { block = q; index = 0 })
      at_q sound v free (inl old) = sound q v free old
      at_q sound v free (inr new) = sound_passed code constants words stops now q v are sound free
          below (both_true (nat_eq (v / 64) word) (passes code stops now q v) new).1

  -- ---- the blocks that lead to one are asked

  pub nothing_asked : (start : List (List ℕ)) (block : ℕ) (sources left : List ℕ) →
      Shape words code start → IsPassed code stops start word
      (λ b t. (is_left left t ≡ true) ⊎ (t ≡ block)) → AreWithin left (length code.blocks) →
      ((b : ℕ) → b < length code.blocks → IsTarget (end_of code b) block →
      list_any (nat_eq b) sources ≡ true) → AskedTo code words constants stops word start start
      block sources left left 0
  nothing_asked start block sources left shape passed within all = record {
    spread = spread_none start shape;
    passed = λ b t v below target at has free.
        owed b t below target (passed b t v below target at has free);
    within = within;
    room = omega arith;
  }
    where
      owed : {X : Type 0} (b t : ℕ) → b < length code.blocks → IsTarget (end_of code b) t →
          X ⊎ ((is_left left t ≡ true) ⊎ (t ≡ block)) →
          X ⊎ ((is_left left t ≡ true) ⊎ ((t ≡ block) ×
          (list_any (nat_eq b) (drop 0 sources) ≡ true)))
      owed b t below target (inl is) = inl is
      owed b t below target (inr (inl waits)) = inr (inl waits)
      owed b t below target (inr (inr at)) = inr (inr (
        at,
        all b below
            (subst (λ u. IsTarget (end_of code b) u) at target),
      ))

  pub all_asked : (start now : List (List ℕ)) (block : ℕ) (sources before left : List ℕ) (i : ℕ) →
      length sources ≤ i → AskedTo code words constants stops word start now block sources before
      left i →
      IsPassed code stops now word (λ b t. is_left left t ≡ true)
  all_asked start now block sources before left i past asked b t v below target at has free =
      owed (asked.passed b t v below target at has free)
    where
      owed : {X : Type 0} → X ⊎ ((is_left left t ≡ true) ⊎ ((t ≡ block) ×
          (list_any (nat_eq b) (drop i sources) ≡ true))) → X ⊎ (is_left left t ≡ true)
      owed (inl is) = inl is
      owed (inr (inl waits)) = inr waits
      owed (inr (inr (at, among))) =
          absurd (nothing (subst (λ xs. list_any (nat_eq b) xs ≡ true) (drop_all i sources past)
          among))
        where
          nothing : list_any (nat_eq b) [] ≡ true → ⊥
          nothing e = cc

  -- who is among those left, if it is not the first of them, is among the others
  among_rest : (sources : List ℕ) (i q b : ℕ) → i < length sources → q ≡ get_or sources i 0 →
      list_any (nat_eq b) (drop i sources) ≡ true →
      (b ≡ q) ⊎ (list_any (nat_eq b) (drop (i + 1) sources) ≡ true)
  among_rest sources i q b within read among =
      let e : suc i ≡ i + 1 = omega arith in
      let first : drop i sources ≡ q ∷ drop (i + 1) sources =
      drop-cons sources i 0 within ∙ ap (λ x. x ∷ drop (suc i) sources) (sym read)
      ∙ ap (λ m. q ∷ drop m sources) e in
      by_first (either_true (nat_eq b q) (list_any (nat_eq b) (drop (i + 1) sources))
      (subst (λ xs. list_any (nat_eq b) xs ≡ true) first among))
    where
      by_first : (nat_eq b q ≡ true) ⊎ (list_any (nat_eq b) (drop (i + 1) sources) ≡ true) →
          (b ≡ q) ⊎ (list_any (nat_eq b) (drop (i + 1) sources) ≡ true)
      by_first (inl same) = inl (eqb-true b q same)
      by_first (inr rest) = inr rest

  -- the next one is asked, and its entry stays as it was
  pub asked_same : (start now next : List (List ℕ)) (block q : ℕ) (sources before left : List ℕ)
      (i : ℕ) → AskedTo code words constants stops word start now block sources before left i → i <
      length sources →
      q ≡ get_or sources i 0 → q < length code.blocks →
      HasAsked code stops now next q word false →
      AskedTo code words constants stops word start next block sources before left (i + 1)
  asked_same start now next block q sources before left i so_far within read below asked = record {
    spread = subst (λ xs. HasSpread words code constants word start xs) (sym (asked.same refl))
        so_far.spread;
    passed = λ b t v inside target at has free.
        let had : contains (entry now t) v ≡ true =
        subst (λ xs. contains (entry xs t) v ≡ true) (asked.same refl) has in
        owed b t v target at had free (so_far.passed b t v inside target at had free);
    within = so_far.within;
    room = subst (λ xs. total_room xs + length left ≤ total_room start + length before)
        (sym (asked.same refl)) so_far.room;
  }
    where
      owed : (b t v : ℕ) → IsTarget (end_of code b) t → v / 64 ≡ word →
          contains (entry now t) v ≡ true → contains (entry stops b) v ≡ false →
          (contains (entry now b) v ≡ true) ⊎ ((is_left left t ≡ true) ⊎ ((t ≡ block) ×
          (list_any (nat_eq b) (drop i sources) ≡ true))) →
          (contains (entry next b) v ≡ true) ⊎ ((is_left left t ≡ true) ⊎ ((t ≡ block) ×
          (list_any (nat_eq b) (drop (i + 1) sources) ≡ true)))
      owed b t v target at had free (inl live) =
          inl (kept_once now next q false asked b v live)
      owed b t v target at had free (inr (inl waits)) = inr (inl waits)
      owed b t v target at had free (inr (inr (here, among))) =
          elim (among_rest sources i q b within read among) [
            | inl is ↦ inl (subst (λ c. contains (entry next c) v ≡ true) (sym is)
                (taken_in now next q t v false asked
                (subst (λ c. IsTarget (end_of code c) t) is target) at had
                (subst (λ c. contains (entry stops c) v ≡ false) is free)))
            | inr rest ↦ inr (inr (here, rest))
          ]

  -- the next one is asked, and its entry grows
  pub asked_grown : (start now next : List (List ℕ)) (block q : ℕ) (sources before left : List ℕ)
      (i : ℕ) → AskedTo code words constants stops word start now block sources before left i → i <
      length sources →
      q ≡ get_or sources i 0 → q < length code.blocks →
      HasAsked code stops now next q word true →
      AskedTo code words constants stops word start next block sources before (left ++ q ∷ [])
      (i + 1)
  asked_grown start now next block q sources before left i so_far within read below asked = record {
    spread = spread_both start now next so_far.spread
        (spread_once now next q true so_far.spread.shape below asked);
    passed = λ b t v inside target at has free. elim (cases_eq t q) [
      | inl is ↦ inr (inl (waits t is))
      | inr apart ↦
          let had : contains (entry now t) v ≡ true =
          sym (ap (λ s. contains s v) (asked.others t apart)) ∙ has in
          owed b t v target at had free (so_far.passed b t v inside target at had free)
    ];
    within = λ b among. elim (either_true (is_left left b) (is_left (q ∷ []) b)
        (sym (list_any-append (nat_eq b) left (q ∷ [])) ∙ among)) [
          | inl old ↦ so_far.within b old
          | inr new ↦ subst (λ c. c < length code.blocks)
              (sym (eqb-true b q (sym (or_nothing (nat_eq b q)) ∙ new))) below
        ];
    room = omega (arith, so_far.room, asked.room, length_push left q);
  }
    where
      or_nothing : (x : Bool) → (x || false) ≡ x
      or_nothing true = refl
      or_nothing false = refl

      still : (t : ℕ) → is_left left t ≡ true → is_left (left ++ q ∷ []) t ≡ true
      still t is = list_any-append (nat_eq t) left (q ∷ []) ∙ or_left _ _ is

      waits : (t : ℕ) → t ≡ q → is_left (left ++ q ∷ []) t ≡ true
      waits t is = list_any-append (nat_eq t) left (q ∷ [])
          ∙ or_right (is_left left t) _ (rw (eq-eqb t q is) refl)

      owed : (b t v : ℕ) → IsTarget (end_of code b) t → v / 64 ≡ word →
          contains (entry now t) v ≡ true → contains (entry stops b) v ≡ false →
          (contains (entry now b) v ≡ true) ⊎ ((is_left left t ≡ true) ⊎ ((t ≡ block) ×
          (list_any (nat_eq b) (drop i sources) ≡ true))) →
          (contains (entry next b) v ≡ true) ⊎ ((is_left (left ++ q ∷ []) t ≡ true) ⊎
          ((t ≡ block) × (list_any (nat_eq b) (drop (i + 1) sources) ≡ true)))
      owed b t v target at had free (inl live) = inl (kept_once now next q true asked b v live)
      owed b t v target at had free (inr (inl waits)) = inr (inl (still t waits))
      owed b t v target at had free (inr (inr (here, among))) =
          elim (among_rest sources i q b within read among) [
            | inl is ↦ inl (subst (λ c. contains (entry next c) v ≡ true) (sym is)
                (taken_in now next q t v true asked
                (subst (λ c. IsTarget (end_of code c) t) is target) at had
                (subst (λ c. contains (entry stops c) v ≡ false) is free)))
            | inr rest ↦ inr (inr (here, rest))
          ]
