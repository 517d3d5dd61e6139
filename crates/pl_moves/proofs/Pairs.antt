-- Pairs one by one: what is said of all of them, and what each of them asks for.
use Rattle.std.proofs.Common.{◌≡◌, ◌≢◌, ℕ, Bool, true, false, nat_eq, not, ◌&&◌, List, [], ◌∷◌}
use Rattle.std.proofs.Common.{Option, Some, None, refl, arith}
use Rattle.std.specs.List.{list_all}
use Rattle.std.proofs.lemmas.Bool.Decides.{nat_tests}
use Rattle.pra_base.specs.declared.ids.Place.{Place}
use Rattle.pra_base.specs.declared.ids.Place.TheVariants.{Eax, Ecx, Edx, Ebx, Esi, Edi, Mem, Const}
use Rattle.pra_base.specs.declared.ids.Place.TheVariants.{EaxM, EcxM, EdxM, EbxM, EsiM, EdiM}
use Rattle.pra_base.specs.Places.{number, has_register, needs_slot, is_const}
use Rattle.pl_moves.specs.declared.transfer.Move.{Move}
use Rattle.pl_moves.specs.declared.transfer.Move.TheVariants.{Store}
use Rattle.pl_moves.specs.declared.transfer.Pair.{Pair}
use Rattle.pl_moves.specs.declared.bring.Origin.TheVariants as origin
use Rattle.pl_moves.specs.declared.bring.Bring.{Bring}
use Rattle.pl_moves.specs.Assignment.{suits, suits_pair, share_register, are_apart, can_move}
use Rattle.pl_moves.specs.Assignment.{into_memory, number_of}
use Rattle.pl_moves.specs.Sequence.{alone, same_register, store_of, bring_of}
use Rattle.pra_list.proofs.Choices.{either, not_true, and_true}
use Rattle.pra_list.specs.Each.{Each}

pub record Suits (p : Pair) : Type 0 where
  pub from : suits p.constant (number p.from) ≡ true
  pub to : suits p.constant (number p.to) ≡ true

abbrev pub VariablesApart : Pair → Pair → Type 0
VariablesApart p q = p.var.0 ≢ q.var.0

abbrev pub SourcesApart : Pair → Pair → Type 0
SourcesApart p q = share_register p.from q.from ≡ false

abbrev pub TargetsApart : Pair → Pair → Type 0
TargetsApart p q = share_register p.to q.to ≡ false

-- the first pair suits, it is apart from the others, and so on
abbrev pub Fit : List Pair → Type 0
Fit [] = Unit {0}
Fit (p ∷ ps) = Suits p × Each (VariablesApart p) ps × Each (SourcesApart p) ps ×
    Each (TargetsApart p) ps × Fit ps

all_three : (a b c : Bool) → (a && b && c) ≡ true → (a ≡ true) × (b ≡ true) × (c ≡ true)
all_three true true c h = (refl, refl, h)
all_three true false c h = cc
all_three false b c h = cc

unequal_test : (a b : ℕ) → nat_eq a b ≡ false → a ≢ b
unequal_test a b h = grind (arith, nat_tests)

apart_each : (p : Pair) (ps : List Pair) → list_all (are_apart p) ps ≡ true →
    Each (VariablesApart p) ps × Each (SourcesApart p) ps × Each (TargetsApart p) ps
apart_each p [] h = (tt, tt, tt)
apart_each p (q ∷ qs) h =
    let k = and_true (are_apart p q) (list_all (are_apart p) qs) h in
    let three = all_three (not (nat_eq p.var.0 q.var.0)) (not (share_register p.from q.from))
    (not (share_register p.to q.to)) k.0 in
    let more = apart_each p qs k.1 in (
      (unequal_test p.var.0 q.var.0 (not_true (nat_eq p.var.0 q.var.0) three.0), more.0),
      (not_true (share_register p.from q.from) three.1, more.1),
      (not_true (share_register p.to q.to) three.2, more.2),
    )

pub fit : (ps : List Pair) → can_move ps ≡ true → Fit ps
fit [] h = tt
fit (p ∷ ps) h =
    let three = all_three (suits_pair p) (list_all (are_apart p) ps) (can_move ps) h in
    let s = and_true (suits p.constant (number p.from)) (suits p.constant (number p.to)) three.0 in
    let a = apart_each p ps three.1 in
    (record { from = s.0; to = s.1 }, a.0, a.1, a.2, fit ps three.2)

-- ---- what a pair asks for, by its places

pub by_store : (P : Option Move → Type 0) (p : Pair) →
    (into_memory p ≡ true → P (Some (Store p.var (alone p.from)))) →
    (into_memory p ≡ false → P None) → P (store_of p)
by_store P p stores keeps = either P (into_memory p) _ _ stores keeps

pub by_bring : (P : Option Bring → Type 0) (p : Pair) →
    (has_register (number p.to) ≡ false → P None) →
    (has_register (number p.to) ≡ true → has_register (number p.from) ≡ true →
    same_register p.to p.from ≡ true → P None) →
    (has_register (number p.to) ≡ true → has_register (number p.from) ≡ true →
    same_register p.to p.from ≡ false →
    P (Some (record { to = alone p.to; from = origin.Register (alone p.from) }))) →
    (has_register (number p.to) ≡ true → has_register (number p.from) ≡ false →
    needs_slot (number p.from) ≡ true →
    P (Some (record { to = alone p.to; from = origin.Memory p.var }))) →
    (has_register (number p.to) ≡ true → has_register (number p.from) ≡ false →
    needs_slot (number p.from) ≡ false →
    P (Some (record { to = alone p.to; from = origin.Number (number_of p.constant) }))) →
    P (bring_of p)
by_bring P p nowhere there between memory fixed =
    either P (has_register (number p.to)) _ _
    (λ to. either P (has_register (number p.from)) _ _
    (λ from. either P (same_register p.to p.from) _ _ (there to from) (between to from))
    (λ from. either (λ o. P (Some (record { to = alone p.to; from = o })))
    (needs_slot (number p.from)) _ _ (memory to from) (fixed to from)))
    nowhere

-- ---- a pair that comes into memory has a register before

in_register : (q : Place) → needs_slot (number q) ≡ false → is_const (number q) ≡ false →
    has_register (number q) ≡ true
in_register Eax h g = refl
in_register Ecx h g = refl
in_register Edx h g = refl
in_register Ebx h g = refl
in_register Esi h g = refl
in_register Edi h g = refl
in_register Mem h g = cc
in_register Const h g = cc
in_register EaxM h g = refl
in_register EcxM h g = refl
in_register EdxM h g = refl
in_register EbxM h g = refl
in_register EsiM h g = refl
in_register EdiM h g = refl

pub has_register-stored : (p : Pair) → Suits p → into_memory p ≡ true →
    has_register (number p.from) ≡ true
has_register-stored p s e =
    let k = and_true (needs_slot (number p.to)) (not (needs_slot (number p.from))) e in
    in_register p.from (not_true (needs_slot (number p.from)) k.1)
    (no_const p.constant s.from s.to k.0)
  where
    no_const : (c : _) → suits c (number p.from) ≡ true → suits c (number p.to) ≡ true →
        needs_slot (number p.to) ≡ true → is_const (number p.from) ≡ false
    no_const (Some n) from to slot = absurd (clash (needs_slot (number p.to)) to slot)
      where
        clash : (b : Bool) → not b ≡ true → b ≡ true → ⊥
        clash true h g = cc
        clash false h g = cc
    no_const None from to slot = not_true (is_const (number p.from)) from
