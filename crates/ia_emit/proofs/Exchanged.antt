-- Moves between registers are what their bytes say, so no moves with a place that is none pass for
-- them.
use Rattle.std.proofs.Common.{◌≡◌, ◌≢◌, ℕ, true, false, nat_eq, List, [], ◌∷◌, map, refl, sym, ap}
use Rattle.std.proofs.Common.{subst, ◌∙◌, ⊎_elim, arith}
use Rattle.std.proofs.lemmas.Bool.{cases_eq}
use Rattle.std.proofs.lemmas.Bool.Decides.{nat_tests}
use Rattle.pra_list.specs.Each.{Each}
use Rattle.pra_list.proofs.Each.{each_of_all}
use Rattle.pra_list.proofs.Options.{some_same}
use Rattle.pra_base.specs.declared.ids.Place.{Place}
use Rattle.pra_base.specs.declared.ids.Place.TheVariants.{Eax, Ecx, Edx, Ebx, Esi, Edi, Mem, Const}
use Rattle.pra_base.specs.declared.ids.Place.TheVariants.{EaxM, EcxM, EdxM, EbxM, EsiM, EdiM}
use Rattle.pra_base.specs.Places.{number, is_register}
use Rattle.ia_code.specs.declared.ins.Reg.{Reg}
use Rattle.ia_code.specs.declared.ins.Reg.TheVariants as reg
use Rattle.pl_moves.specs.declared.transfer.Move.{Move}
use Rattle.pl_moves.specs.declared.transfer.Move.TheVariants.{Copy, Swap, Load, Store, Set}
use Rattle.pl_moves.specs.Meaning.{Cell, Register, Memory, Fixed, with_cell}
use Rattle.pl_moves.specs.Assignment.{Assigns}
use Rattle.pl_moves.specs.Crossbar.{InRegisters}
use Rattle.pl_place.specs.declared.placed.LProc.{LProc}
use Rattle.pl_place.specs.Behind.{Routed, pairs_at, MovesInto}
use Rattle.ia_emit.specs.declared.item.Item.TheVariants.{Plain}
use Rattle.ia_emit.specs.Carries.{framed, AreMoves}
use Rattle.ia_emit.specs.Emission.{place_reg, emit_move}
use Rattle.ia_emit.specs.Exchanges.{exchanges, rotation}

-- ---- among cells the exchanges come to nothing

abbrev swapped : Cell → Cell → (Cell → Cell) → Cell → Cell
swapped one other held = with_cell (with_cell held one (held other)) other (held one)

abbrev after : Cell → Cell
after = swapped (Register 1) (Register 7) (swapped (Register 0) (Register 6)
    (swapped (Register 1) (Register 7) (swapped (Register 0) (Register 6) (λ cell. cell))))

other_register : (r : ℕ) → r ≢ 0 → r ≢ 1 → r ≢ 6 → r ≢ 7 → after (Register r) ≡ Register r
other_register r a b c d =
    let is_a : nat_eq r 0 ≡ false = grind (arith, nat_tests) in
    let is_b : nat_eq r 1 ≡ false = grind (arith, nat_tests) in
    let is_c : nat_eq r 6 ≡ false = grind (arith, nat_tests) in
    let is_d : nat_eq r 7 ≡ false = grind (arith, nat_tests) in
    simp (is_a, is_b, is_c, is_d)

by_case : (r k : ℕ) → after (Register k) ≡ Register k → (r ≢ k → after (Register r) ≡ Register r) →
    after (Register r) ≡ Register r
by_case r k here other =
    ⊎_elim (λ (e : r ≡ k). subst (λ n. after (Register n) ≡ Register n) (sym e) here) other
    (cases_eq r k)

stays : (cell : Cell) → after cell ≡ cell
stays (Register r) =
    by_case r 0 refl (λ a. by_case r 1 refl
    (λ b. by_case r 6 refl (λ c. by_case r 7 refl (λ d. other_register r a b c d))))
stays (Memory v) = refl
stays (Fixed n) = refl

pub exchanges_assign : Assigns exchanges []
exchanges_assign = record { after = after; runs = refl; each = stays }

-- ---- bytes tell the registers

place_of : Reg → Place
place_of reg.Eax = Eax
place_of reg.Ecx = Ecx
place_of reg.Edx = Edx
place_of reg.Ebx = Ebx
place_of reg.Esi = Esi
place_of reg.Edi = Edi
place_of r = Mem

again : (q : Place) → is_register (number q) ≡ true → place_of (place_reg q) ≡ q
unfolding place_of
again Eax e = refl
again Ecx e = refl
again Edx e = refl
again Ebx e = refl
again Esi e = refl
again Edi e = refl
again Mem e = cc
again Const e = cc
again EaxM e = cc
again EcxM e = cc
again EdxM e = cc
again EbxM e = cc
again EsiM e = cc
again EdiM e = cc

same_place : (p q : Place) → is_register (number p) ≡ true → is_register (number q) ≡ true →
    place_reg p ≡ place_reg q → p ≡ q
same_place p q one other e = sym (again p one) ∙ ap place_of e ∙ again q other

-- exchanges of two registers
abbrev IsSwap : Move → Type 0
IsSwap (Swap one other) = InRegisters (Swap one other)
IsSwap m = ⊥

same_swap : (p : LProc) (n m : Move) → IsSwap n → InRegisters m → emit_move p n ≡ emit_move p m →
    m ≡ n
same_swap p (Swap a b) (Swap c d) is inside e =
    let first : place_reg c ≡ place_reg a = cc in
    let second : place_reg d ≡ place_reg b = cc in
    ap (λ x. Swap x d) (same_place c a inside.0 is.0 first) ∙ ap (λ x. Swap a x)
    (same_place d b inside.1 is.1 second)
same_swap p (Swap a b) (Copy to from) is inside e = cc
same_swap p (Swap a b) (Load to v) is inside e = cc
same_swap p (Swap a b) (Store v from) is inside e = cc
same_swap p (Swap a b) (Set to n) is inside e = cc
same_swap p (Copy to from) m is inside e = absurd is
same_swap p (Load to v) m is inside e = absurd is
same_swap p (Store v from) m is inside e = absurd is
same_swap p (Set to n) m is inside e = absurd is

same_swaps : (p : LProc) (ns ms : List Move) → Each IsSwap ns → Each InRegisters ms →
    map (λ m. Plain (emit_move p m)) ns ≡ map (λ m. Plain (emit_move p m)) ms → ms ≡ ns
same_swaps p [] [] is inside e = refl
same_swaps p [] (m ∷ ms) is inside e = cc
same_swaps p (n ∷ ns) [] is inside e = cc
same_swaps p (n ∷ ns) (m ∷ ms) is inside e =
    let first : emit_move p n ≡ emit_move p m = cc in
    let rest : map (λ m. Plain (emit_move p m)) ns ≡ map (λ m. Plain (emit_move p m)) ms = cc in
    ap (λ x. x ∷ ms) (same_swap p n m is.0 inside.0 first) ∙ ap (λ l. n ∷ l)
    (same_swaps p ns ms is.1 inside.1 rest)

-- the exchanges of the bytes do not leave EAX as it was
rotates : Assigns rotation [] → ⊥
rotates a =
    let turned : Register 1 ≡ a.after (Register 0) = ap (λ (held : Cell → Cell). held (Register 0))
    (some_same _ a.after a.runs) in
    let same : Register 1 ≡ Register 0 = turned ∙ a.each (Register 0) in
    cc

pub not_in_code : (r : Routed) (b l : ℕ) → MovesInto r b l exchanges → ⊥
not_in_code r b l is = let first = (each_of_all InRegisters exchanges is.in_registers).0 in
    let no : false ≡ true = first.1 in cc

pub not_in_bytes : (r : Routed) (b l : ℕ) → pairs_at r b l ≡ [] →
    AreMoves r b l (map (λ m. Plain (emit_move (framed r) m)) exchanges) → ⊥
not_in_bytes r b l none are =
    let ms = are.0 in
    let same : ms ≡ rotation = same_swaps (framed r) rotation ms
    ((refl, refl), ((refl, refl), ((refl, refl), ((refl, refl), tt))))
    (each_of_all InRegisters ms are.2.in_registers) are.1 in
    rotates (subst (λ l. Assigns l []) same (subst (Assigns ms) none are.2.assigns))
