-- A row without extras, filled a register and its both place at a time.
use Rattle.std.proofs.Common.{ℕ, ◌≡◌, ◌≢◌, ◌<◌, ◌+◌, ℤ, pos, ◌+ℤ◌, List, subst, sym, refl}
use Rattle.std.proofs.Common.{◌∙◌, arith}
use Rattle.std.specs.Prelude.{slice_index}
use Rattle.std.proofs.lemmas.Int.{ints}
use borrow.Author.Count.{below_more}
use Rattle.pra_base.specs.declared.ids.Place.{Place}
use Rattle.pra_base.specs.declared.ids.Place.TheVariants.{Eax, Ecx, Edx, Ebx, Esi, Edi, Mem, Const}
use Rattle.pra_base.specs.declared.ids.Place.TheVariants.{EaxM, EcxM, EdxM, EbxM, EsiM, EdiM}
use Rattle.pra_base.specs.Places.{number, allows}
use Rattle.net_path.specs.Cells.{price_in, IsCellWith, AreCellsWith, IsPriceIf, IsPriceAt}
use Rattle.net_path.specs.Rows.{IsCell}
use Rattle.net_path.specs.Ways.{at}

module _ (open_places : ℕ) (caps : List ℕ) where
  abbrev price : ℕ → ℤ
  price r = pos (slice_index caps r)

  -- of the registers below r both places have their price
  abbrev pub AreFilled : ℕ → List ℤ → Type 0
  AreFilled r row =
      (k : ℕ) → k < r →
      IsPriceIf open_places k (price k) (at row k)
      × IsPriceIf open_places (8 + k) (price k) (at row (8 + k))

  pub filled_two : (r : ℕ) (old mid new : List ℤ) → r < 6 → AreFilled r old
      → IsPriceAt open_places r (price r) old mid → IsPriceAt open_places (8 + r) (price r) mid new
      → AreFilled (r + 1) new
  filled_two r old mid new lr have one two =
      below_more (λ k. IsPriceIf open_places k (price k) (at new k)
      × IsPriceIf open_places (8 + k) (price k) (at new (8 + k))) r
      (λ k lt. (
        subst (IsPriceIf open_places k (price k)) (sym (two.others k (omega arith)
            ∙ one.others k (omega arith))) (have k lt).0,
        subst (IsPriceIf open_places (8 + k) (price k)) (sym (two.others (8 + k) (omega arith)
            ∙ one.others (8 + k) (omega arith))) (have k lt).1,
      )) (
        subst (IsPriceIf open_places r (price r)) (sym (two.others r (omega arith))) one.here,
        two.here,
      )

  cell_of : (q : Place) (c z : ℤ) → c ≡ price_in caps (number q)
      → IsPriceIf open_places (number q) c z → IsCellWith open_places caps (pos 0) q z
  cell_of q c z is if_ = record {
    is = subst (λ (x : ℤ). IsCell (allows open_places (number q)) x z)
        (let e : c ≡ pos 0 +ℤ price_in caps (number q) = omega (arith, ints, is) in e) if_.is;
    within = if_.within;
  }

  module _ (old mid new : List ℤ) (have : AreFilled 6 old)
      (one : IsPriceAt open_places 6 (pos 0) old mid)
      (two : IsPriceAt open_places 7 (pos 0) mid new) where
    kept : (k : ℕ) → k ≢ 6 → k ≢ 7 → at new k ≡ at old k
    kept k a b = two.others k b ∙ one.others k a

    alone : (k : ℕ) → k < 6 → IsPriceIf open_places k (price k) (at new k)
    alone k lt = subst (IsPriceIf open_places k (price k))
        (sym (kept k (omega arith) (omega arith))) (have k lt).0

    both : (k : ℕ) → k < 6 → IsPriceIf open_places (8 + k) (price k) (at new (8 + k))
    both k lt = subst (IsPriceIf open_places (8 + k) (price k))
        (sym (kept (8 + k) (omega arith) (omega arith))) (have k lt).1

    pub filled_all : AreCellsWith open_places caps (λ place. pos 0) new
    filled_all Eax = cell_of Eax (price 0) (at new 0) refl (alone 0 (omega arith))
    filled_all Ecx = cell_of Ecx (price 1) (at new 1) refl (alone 1 (omega arith))
    filled_all Edx = cell_of Edx (price 2) (at new 2) refl (alone 2 (omega arith))
    filled_all Ebx = cell_of Ebx (price 3) (at new 3) refl (alone 3 (omega arith))
    filled_all Esi = cell_of Esi (price 4) (at new 4) refl (alone 4 (omega arith))
    filled_all Edi = cell_of Edi (price 5) (at new 5) refl (alone 5 (omega arith))
    filled_all Mem = cell_of Mem (pos 0) (at new 6) refl
        (subst (IsPriceIf open_places 6 (pos 0)) (sym (two.others 6 (omega arith))) one.here)
    filled_all Const = cell_of Const (pos 0) (at new 7) refl two.here
    filled_all EaxM = cell_of EaxM (price 0) (at new 8) refl (both 0 (omega arith))
    filled_all EcxM = cell_of EcxM (price 1) (at new 9) refl (both 1 (omega arith))
    filled_all EdxM = cell_of EdxM (price 2) (at new 10) refl (both 2 (omega arith))
    filled_all EbxM = cell_of EbxM (price 3) (at new 11) refl (both 3 (omega arith))
    filled_all EsiM = cell_of EsiM (price 4) (at new 12) refl (both 4 (omega arith))
    filled_all EdiM = cell_of EdiM (price 5) (at new 13) refl (both 5 (omega arith))
