-- What moves leave where every cell is there.
use Rattle.std.proofs.Common.{◌≡◌, List, [], ◌∷◌, ◌++◌, Some, refl, ap, ◌∙◌}
use Rattle.pl_moves.specs.declared.transfer.Move.{Move}
use Rattle.pl_moves.specs.declared.transfer.Move.TheVariants.{Copy, Swap, Load, Store, Set}
use Rattle.pl_moves.specs.Meaning.{Cell, Memory, Fixed, reg, with_cell, everywhere, moved}
use Rattle.pl_moves.specs.Meaning.{all_moved}
use Rattle.pra_list.specs.Options.{◌>>=◌}

abbrev pub shifted : {A : Type 0} → Move → (Cell → A) → Cell → A
shifted (Copy r q) m = with_cell m (reg r) (m (reg q))
shifted (Swap r q) m = with_cell (with_cell m (reg r) (m (reg q))) (reg q) (m (reg r))
shifted (Load r v) m = with_cell m (reg r) (m (Memory v.0))
shifted (Store v r) m = with_cell m (Memory v.0) (m (reg r))
shifted (Set r n) m = with_cell m (reg r) (m (Fixed n))

abbrev pub all_shifted : {A : Type 0} → List Move → (Cell → A) → Cell → A
all_shifted [] m = m
all_shifted (x ∷ xs) m = all_shifted xs (shifted x m)

pub moved-everywhere : {A : Type 0} (x : Move) (m : Cell → A) → moved everywhere x m ≡
    Some (shifted x m)
moved-everywhere (Copy r q) m = refl
moved-everywhere (Swap r q) m = refl
moved-everywhere (Load r v) m = refl
moved-everywhere (Store v r) m = refl
moved-everywhere (Set r n) m = refl

pub all_moved-everywhere : {A : Type 0} (xs : List Move) (m : Cell → A) →
    all_moved everywhere xs m ≡ Some (all_shifted xs m)
all_moved-everywhere [] m = refl
all_moved-everywhere (x ∷ xs) m = ap (λ o. o >>= all_moved everywhere xs) (moved-everywhere x m)
    ∙ all_moved-everywhere xs (shifted x m)

pub all_shifted-append : {A : Type 0} (xs ys : List Move) (m : Cell → A) →
    all_shifted (xs ++ ys) m ≡ all_shifted ys (all_shifted xs m)
all_shifted-append [] ys m = refl
all_shifted-append (x ∷ xs) ys m = all_shifted-append xs ys (shifted x m)
