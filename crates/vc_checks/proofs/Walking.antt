-- Blocks without checks that cannot fail, made instruction by instruction and block by block.
use Rattle.std.proofs.Common.{◌≡◌, ℕ, zero, suc, ◌+◌, ◌<◌, ◌≤◌, ⊎_elim, List, [], ◌∷◌}
use Rattle.std.proofs.Common.{◌++◌, length, take, drop, slice_index_or, Option, Some}
use Rattle.std.proofs.Common.{None, refl, sym, ap, subst, ◌∙◌, true, pos, append_assoc, append-nil}
use Rattle.std.proofs.Common.{arith}
use Rattle.std.specs.Prelude.{◌==◌, IfSome}
use Rattle.std.proofs.lemmas.Bool.{cases_lt}
use Rattle.std.proofs.lemmas.Bool.Decides.{nat_tests}
use Rattle.std.proofs.lemmas.List.{get_or_past, take_more, length-drop}
use Rattle.std.proofs.lemmas.Option.{slice_get-get_or}
use Rattle.pra_list.specs.Among.{Among}
use Rattle.pra_list.proofs.Among.{in_either}
use Rattle.pra_list.proofs.Elements.{some_left}
use Rattle.pra_base.specs.declared.code.VInstr.{VInstr}
use Rattle.pra_base.specs.declared.code.VInstr.TheVariants.{Set}
use Rattle.pra_base.specs.declared.code.Block.{Block}
use Rattle.pra_base.specs.declared.code.End.{End}
use Rattle.pra_base.specs.declared.code.VProc.{VProc}
use Rattle.pra_base.specs.Code.{kind_of, block_of, block_in, no_block}
use Rattle.vc_code.specs.Value.{Held}
use Rattle.vc_code.specs.Selected.{read}
use Rattle.vc_checks.specs.declared.fact.Fact.{Fact}
use Rattle.vc_checks.specs.Facts.{Kinds, IsBetween, Entail, EntailAt, Follow, CannotFail}
use Rattle.vc_checks.specs.LeftOut.{Begins, Part, LeavesOut, Thins, begins_in, last_of}
use Rattle.vc_checks.specs.LeftOut.{ThinsBlock, ThinsAll, with_blocks}
use Rattle.vc_checks.specs.LeftOut.Part.{ends, stays, left_out}
use Rattle.vc_checks.proofs.Knowing.{one_holds, no_fact}

-- ---- facts that hold where others do

pub fact_holds : (kind : Kinds) (known : List Fact) (inner fact : Fact) → Among inner known →
    inner.var.0 ≡ fact.var.0 →
    ((h : Held) → IsBetween inner.low inner.high h → IsBetween fact.low fact.high h) →
    Entail kind known (fact ∷ [])
fact_holds kind known inner fact among same wide held all =
    one_holds kind held fact
    (wide (read kind held fact.var.0)
    (subst (λ u. IsBetween inner.low inner.high (read kind held u)) same (all inner among)))

pub one_more_holds : (kind : Kinds) (known wanted : List Fact) (i : ℕ) → i < length wanted →
    Entail kind known (take i wanted) →
    Entail kind known (slice_index_or wanted i no_fact ∷ []) →
    Entail kind known (take (i + 1) wanted)
one_more_holds kind known wanted i lt front one held all f m =
    ⊎_elim
    (λ (l : Among f (take i wanted)). front held all f l)
    (λ (r : Among f (slice_index_or wanted i no_fact ∷ [])). one held all f r)
    (in_either (take i wanted) (slice_index_or wanted i no_fact ∷ []) f
    (subst (λ (fs : List Fact). Among f fs) (take_more wanted i no_fact lt) m))

-- ---- instruction by instruction

abbrev pub no_instr : VInstr
no_instr = Set (record { 0 = 0 }) (pos 0)

-- the first i instructions are walked over: whatever the rest becomes
abbrev pub Walked : Kinds → List Fact → List VInstr → List Fact → ℕ → List VInstr → Type 0
Walked kind facts xs known i kept =
    (begins : Begins) (end : End) (ys : List VInstr) →
    Part kind begins end (last_of None (take i xs)) known (drop i xs) ys →
    Part kind begins end None facts xs (kept ++ ys)

last_behind : (last : Option VInstr) (xs : List VInstr) (x : VInstr) →
    last_of last (xs ++ x ∷ []) ≡ Some x
last_behind last [] x = refl
last_behind last (y ∷ ys) x = last_behind (Some y) ys x

last_taken : (xs : List VInstr) (i : ℕ) → i < length xs →
    last_of None (take (i + 1) xs) ≡ Some (slice_index_or xs i no_instr)
last_taken xs i lt = ap (last_of None) (take_more xs i no_instr lt)
    ∙ last_behind None (take i xs) (slice_index_or xs i no_instr)

all_taken : (xs : List VInstr) (i : ℕ) → length xs ≤ i → take i xs ≡ xs
all_taken [] zero le = refl
all_taken [] (suc i) le = refl
all_taken (x ∷ xs) zero le = absurd (omega (arith, le))
all_taken (x ∷ xs) (suc i) le = ap (λ zs. x ∷ zs) (all_taken xs i (omega (arith, le)))

cut : (xs : List VInstr) (i : ℕ) → i < length xs →
    drop i xs ≡ slice_index_or xs i no_instr ∷ drop (i + 1) xs
cut xs i lt =
    let e : suc i ≡ i + 1 = omega arith in
    some_left xs i (slice_index_or xs i no_instr) (slice_get-get_or xs i no_instr lt)
    ∙ ap (λ k. slice_index_or xs i no_instr ∷ drop k xs) e

pub walk_stays : (kind : Kinds) (facts : List Fact) (xs : List VInstr) (known behind : List Fact)
    (i : ℕ) (kept : List VInstr) → i < length xs →
    Follow kind (slice_index_or xs i no_instr) known behind → Walked kind facts xs known i kept →
    Walked kind facts xs behind (i + 1) (kept ++ slice_index_or xs i no_instr ∷ [])
walk_stays kind facts xs known behind i kept lt follow walked begins end ys part =
    let x = slice_index_or xs i no_instr in
    let last = last_of None (take i xs) in
    subst (λ zs. Part kind begins end None facts xs zs) (sym (append_assoc kept (x ∷ []) ys))
    (walked begins end (x ∷ ys) (subst (λ zs. Part kind begins end last known zs (x ∷ ys))
    (sym (cut xs i lt)) (stays follow (subst (λ (l : Option VInstr).
    Part kind begins end l behind (drop (i + 1) xs) ys) (last_taken xs i lt) part))))

pub walk_leaves : (kind : Kinds) (facts : List Fact) (xs : List VInstr) (known : List Fact)
    (i : ℕ) (kept : List VInstr) → i < length xs →
    CannotFail kind known (slice_index_or xs i no_instr) → Walked kind facts xs known i kept →
    Walked kind facts xs known (i + 1) kept
walk_leaves kind facts xs known i kept lt out walked begins end ys part =
    let last = last_of None (take i xs) in
    walked begins end ys (subst (λ zs. Part kind begins end last known zs ys)
    (sym (cut xs i lt)) (left_out out (subst (λ (l : Option VInstr).
    Part kind begins end l known (drop (i + 1) xs) ys) (last_taken xs i lt) part)))

pub walk_ends : (kind : Kinds) (facts : List Fact) (xs : List VInstr) (known : List Fact) (i : ℕ)
    (kept : List VInstr) → length xs ≤ i → Walked kind facts xs known i kept →
    Thins kind facts xs known kept
walk_ends kind facts xs known i kept le walked begins end entail =
    subst (λ zs. Part kind begins end None facts xs zs) (append-nil kept)
    (walked begins end [] (subst (λ zs. Part kind begins end (last_of None (take i xs)) known zs [])
    (sym (nothing (drop i xs) (none_left xs i le)))
    (subst (λ zs. Part kind begins end (last_of None zs) known [] []) (sym (all_taken xs i le))
    (ends entail))))
  where
    none_left : (xs : List VInstr) (i : ℕ) → length xs ≤ i → length (drop i xs) ≡ 0
    none_left xs i le = omega (arith, length-drop i xs)

    nothing : (zs : List VInstr) → length zs ≡ 0 → zs ≡ []
    nothing [] e = refl
    nothing (z ∷ zs) e = absurd (omega (arith, e))

-- ---- block by block

pub thin_one : (code : VProc) (begins : Begins) (b : ℕ) (block : Block)
    (first known : List Fact) (kept : List VInstr) (new : Block) → block ≡ block_of code b →
    first ≡ begins b → Thins (kind_of code) first block.code known kept →
    ((t : ℕ) → EntailAt (kind_of code) (last_of None block.code) block.end t known (begins t)) →
    new.depth ≡ block.depth → new.end ≡ block.end → new.code ≡ kept → ThinsBlock code begins b new
thin_one code begins b block first known kept new is facts thins entail depth end_is code_is =
    record {
      depth = depth ∙ ap (λ (z : Block). z.depth) is;
      end = end_is ∙ ap (λ (z : Block). z.end) is;
      part = subst (λ (z : Block). Part (kind_of code) begins z.end None (begins b) z.code new.code)
          is
          (subst (λ zs. Part (kind_of code) begins block.end None (begins b) block.code zs)
          (sym code_is)
          (subst (λ fs. Part (kind_of code) begins block.end None fs block.code kept) facts
          (thins begins block.end entail)));
    }

pub leaves_out : (code : VProc) (lists : List (List Fact)) (news : List Block) →
    begins_in lists 0 ≡ [] → ThinsAll code (begins_in lists) news (length code.blocks) →
    LeavesOut code (with_blocks code news)
leaves_out code lists news entry all = (
  begins,
  record {
    id = refl;
    args = refl;
    aggregates = refl;
    vars = refl;
    count = all.count;
    depths = λ b. by b (λ old new. new.depth ≡ old.depth) (λ lt. (all.each b lt).depth) refl;
    ends = λ b. by b (λ old new. new.end ≡ old.end) (λ lt. (all.each b lt).end) refl;
    entry = entry;
    code = λ b. by b
        (λ old new. Part (kind_of code) begins old.end None (begins b) old.code new.code)
        (λ lt. (all.each b lt).part) (ends (λ t held hold target f m.
        absurd (subst (λ (fs : List Fact). Among f fs) (ap begins (sym target) ∙ entry) m)));
  },
)
  where
    begins : Begins
    begins = begins_in lists

    by : (b : ℕ) (P : Block → Block → Type 0) →
        (b < length code.blocks → P (block_of code b) (block_in news b)) → P no_block no_block →
        P (block_of code b) (block_in news b)
    by b P there past =
        ⊎_elim
        (λ (lt : b < length code.blocks). there lt)
        (λ (le : length code.blocks ≤ b).
        let long : length news ≤ b = omega (arith, le, all.count) in
        subst (λ z. P z (block_in news b)) (sym (get_or_past code.blocks b no_block le))
        (subst (λ z. P no_block z) (sym (get_or_past news b no_block long)) past))
        (cases_lt b (length code.blocks))

pub some_on : {A : Type 0} (P Q : A → Type 0) (o : Option A) → ((x : A) → P x → Q x) →
    IfSome o P → IfSome o Q
some_on P Q None f p = tt
some_on P Q (Some x) f p = f x p

pub none_in : (facts : List Fact) → (length facts == 0) ≡ true → facts ≡ []
none_in [] e = refl
none_in (f ∷ facts) e = let none : length (f ∷ facts) ≡ 0 = grind (arith, nat_tests) in
    absurd (omega (arith, none))
