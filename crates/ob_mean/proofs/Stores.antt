-- What is read in a store after an assignment, and where a call begins.
use Rattle.std.proofs.Common.{◌≡◌, ◌≢◌, ℕ, zero, suc, ◌+◌, ◌≤◌, Bool, true, false, not, cond, List}
use Rattle.std.proofs.Common.{[], ◌∷◌, Some, None, refl, sym, ap, ◌∙◌, arith}
use Rattle.std.specs.Prelude.{nat_eq, slice_get, unwrap_or}
use Rattle.std.specs.Ordering.{eq_by_cmp, is_eq}
use Rattle.std.proofs.lemmas.Bool.{eq-eqb}
use Rattle.std.specs.Cmp.{IsTotalOrder, tied_itself}
use Rattle.std.specs.Cmp.Lexicographic.{on_texts}
use Rattle.std.specs.declared.cmp.Ordering.{Ordering}
use Rattle.std.specs.declared.cmp.Ordering.TheVariants.{Less, Equal, Greater}
use Rattle.std.specs.FinMap as map
use Rattle.ob_syntax.specs.declared.checked.Value.{Value}
use Rattle.ob_mean.specs.declared.store.Object.{Object}
use Rattle.ob_mean.specs.declared.store.Object.TheVariants.{Module, Param, Local}
use Rattle.ob_mean.specs.declared.store.Argument.{Argument}
use Rattle.ob_mean.specs.declared.store.Argument.TheVariants.{Passed, Lent}
use Rattle.ob_mean.specs.declared.store.Location.{Location}
use Rattle.ob_mean.specs.Program.{passed, entered}
use Rattle.ob_mean.specs.Store.{Store, whole, within, key_in, key, location_cmp, read, assigned}
use Rattle.ob_mean.specs.Store.{is_at_depth, begun}

pub ordered : IsTotalOrder location_cmp
ordered = on_texts key

made : Object → List ℕ → Location
made o p = record { object = o; path = p }

same_key : (a b : Object) (p q : List ℕ) → key_in a p ≡ key_in b q → made a p ≡ made b q
unfolding made
same_key (Module n) (Module m) p q e = cc
same_key (Module n) (Param d m) p q e = absurd (cc)
same_key (Module n) (Local d m) p q e = absurd (cc)
same_key (Param c n) (Module m) p q e = absurd (cc)
same_key (Param c n) (Param d m) p q e = cc
same_key (Param c n) (Local d m) p q e = absurd (cc)
same_key (Local c n) (Module m) p q e = absurd (cc)
same_key (Local c n) (Param d m) p q e = absurd (cc)
same_key (Local c n) (Local d m) p q e = cc

-- locations that tie in the order are equal
pub tied : (l m : Location) → location_cmp l m ≡ Equal → l ≡ m
unfolding made
tied l m e = same_key l.object m.object l.path m.path
    (map.slice_cmp-IsAntisymmetric map.nat_cmp-IsAntisymmetric (key l) (key m) e)

untied_by : (r : Ordering) (l m : Location) → location_cmp l m ≡ r → l ≢ m → is_eq r ≡ false
untied_by Less l m e d = refl
untied_by Equal l m e d = absurd (d (tied l m e))
untied_by Greater l m e d = refl

untied : (l m : Location) → l ≢ m → eq_by_cmp location_cmp l m ≡ false
untied l m d = untied_by (location_cmp l m) l m refl d

pub read-assigned : (s : Store) (l : Location) (x start : Value) → read (assigned s l x) start l ≡ x
read-assigned s l x start =
    ap (λ v. unwrap_or v start)
    (map.get-insert ordered s l x l ∙ ap (λ b. cond b (Some x) (map.get s l))
    (ap is_eq (tied_itself ordered l)))

pub read-assigned_other : (s : Store) (l m : Location) (x start : Value) → m ≢ l →
    read (assigned s l x) start m ≡ read s start m
read-assigned_other s l m x start d =
    ap (λ v. unwrap_or v start)
    (map.get-insert ordered s l x m ∙ ap (λ b. cond b (Some x) (map.get s m)) (untied m l d))

kept_by : (s : Store) (depth : ℕ) (l : Location) (b : Bool) (start : Value) →
    is_at_depth depth l.object ≡ b → read (begun s depth) start l ≡ cond b start (read s start l)
kept_by s depth l b start e =
    ap (λ v. unwrap_or v start)
    (map.get-retain_keys s (λ m. not (is_at_depth depth m.object)) l
    (λ m t. ap (λ (n : Location). not (is_at_depth depth n.object)) (sym (tied l m t)))
    ∙ ap (λ c. cond (not c) (map.get s l) None) e)
    ∙ turned b
  where
    turned : (c : Bool) → unwrap_or (cond (not c) (map.get s l) None) start ≡
        cond c start (read s start l)
    turned true = refl
    turned false = refl

pub read-begun_other : (s : Store) (depth : ℕ) (l : Location) (start : Value) →
    is_at_depth depth l.object ≡ false → read (begun s depth) start l ≡ read s start l
read-begun_other s depth l start e = kept_by s depth l false start e

pub read-begun : (s : Store) (depth : ℕ) (l : Location) (start : Value) →
    is_at_depth depth l.object ≡ true → read (begun s depth) start l ≡ start
read-begun s depth l start e = kept_by s depth l true start e

-- arguments change value parameters of the call alone
read-passed_other : (args : List Argument) (depth k : ℕ) (s : Store) (l : Location)
    (start : Value) → ((n : ℕ) → k ≤ n → l ≢ whole (Param depth n)) →
    read (passed depth k args s) start l ≡ read s start l
read-passed_other [] depth k s l start d = refl
read-passed_other (Passed x ∷ args) depth k s l start d =
    read-passed_other args depth (k + 1) (assigned s (whole (Param depth k)) x) l start
    (λ n le. d n (omega arith))
    ∙ read-assigned_other s (whole (Param depth k)) l x start (d k (omega arith))
read-passed_other (Lent m ∷ args) depth k s l start d = read-passed_other args depth
    (k + 1) s l start (λ n le. d n (omega arith))

param_apart : (depth k n : ℕ) → k + 1 ≤ n → whole (Param depth k) ≢ whole (Param depth n)
param_apart depth k n le e =
    let objects : Param depth k ≡ Param depth n = ap (λ (m : Location). m.object) e in
    let same : k ≡ n = cc in
    omega arith

pub read-passed : (args : List Argument) (depth k i : ℕ) (s : Store) (x start : Value) →
    slice_get args i ≡ Some (Passed x) → read (passed depth k args s) start
    (whole (Param depth (k + i))) ≡ x
read-passed [] depth k i s x start e = absurd (cc)
read-passed (Passed y ∷ args) depth k zero s x start e =
    let here : k + 0 ≡ k = omega arith in
    let same : y ≡ x = cc in
    ap (λ n. read (passed depth (k + 1) args (assigned s (whole (Param depth k)) y)) start
    (whole (Param depth n))) here
    ∙ read-passed_other args depth (k + 1) (assigned s (whole (Param depth k)) y)
    (whole (Param depth k)) start (λ n le. param_apart depth k n le)
    ∙ read-assigned s (whole (Param depth k)) y start ∙ same
read-passed (Lent m ∷ args) depth k zero s x start e = absurd (cc)
read-passed (Passed y ∷ args) depth k (suc i) s x start e =
    let here : k + suc i ≡ (k + 1) + i = omega arith in
    ap (λ n. read (passed depth (k + 1) args (assigned s (whole (Param depth k)) y)) start
    (whole (Param depth n))) here
    ∙ read-passed args depth (k + 1) i _ x start e
read-passed (Lent m ∷ args) depth k (suc i) s x start e =
    let here : k + suc i ≡ (k + 1) + i = omega arith in
    ap (λ n. read (passed depth (k + 1) args s) start (whole (Param depth n))) here
    ∙ read-passed args depth (k + 1) i s x start e

same_number : (n : ℕ) → nat_eq n n ≡ true
same_number n = eq-eqb n n refl

local_apart : (depth k n : ℕ) (path : List ℕ) → within (whole (Local depth k)) path ≢ whole
    (Param depth n)
local_apart depth k n path e = let objects : Local depth k ≡ Param depth n =
    ap (λ (m : Location). m.object) e in cc

pub entered-param : (s : Store) (depth k : ℕ) (args : List Argument) (x start : Value) →
    slice_get args k ≡ Some (Passed x) → read (entered depth args s) start (whole (Param depth k)) ≡
    x
entered-param s depth k args x start e =
    let here : k ≡ 0 + k = omega arith in
    ap (λ n. read (entered depth args s) start (whole (Param depth n))) here
    ∙ read-passed args depth 0 k (begun s depth) x start e

pub entered-local : (s : Store) (depth k : ℕ) (args : List Argument) (path : List ℕ)
    (start : Value) → read (entered depth args s) start (within (whole (Local depth k)) path) ≡
    start
entered-local s depth k args path start =
    read-passed_other args depth 0 (begun s depth) (within (whole (Local depth k)) path) start
    (λ n le. local_apart depth k n path)
    ∙ read-begun s depth (within (whole (Local depth k)) path) start (same_number depth)

pub entered-other : (s : Store) (depth : ℕ) (args : List Argument) (l : Location) (start : Value) →
    is_at_depth depth l.object ≡ false → read (entered depth args s) start l ≡ read s start l
entered-other s depth args l start e =
    read-passed_other args depth 0 (begun s depth) l start
    (λ n le is. let same = same_number depth in let b : is_at_depth depth l.object ≡ true =
    ap (λ (m : Location). is_at_depth depth m.object) is ∙ same in absurd (cc))
    ∙ read-begun_other s depth l start e
