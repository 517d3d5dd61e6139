-- A tree stands for one module, or there is one cause why it stands for none.
use Rattle.std.proofs.Common.{◌≡◌, ◌≢◌, ◌⊎◌, inl, inr, ℕ, List, Option, Some, None, Result, Ok, Err}
use Rattle.std.proofs.Common.{IfOk, IfErr, refl, ap, sym, ◌∙◌}
use Rattle.std.specs.Prelude.{IsOkUnless}
use Rattle.ob_syntax.specs.declared.checked.Checked.{Checked}
use Rattle.ob_syntax.specs.declared.token.Token.{Token}
use Rattle.ob_syntax.specs.declared.tree.Module.{Module}
use Rattle.ob_syntax.specs.Declarations.{Reading, reading}
use Rattle.ob_syntax.specs.Names.{Fault, Judged}
use Rattle.ob_syntax.specs.WellFormed.{Excess, first_excess, resolved}
use Rattle.ob_check.specs.declared.fault.CheckFault.{CheckFault}
use Rattle.ob_check.specs.declared.fault.CheckFault.TheVariants.{Rule, Limit, OutOfMemory}
use Rattle.ob_check.specs.Checking.{IsChecked, IsCause, IsErrUnlessMemory, IsAnswer}

-- a module stands for something, or there is a cause why it does not
abbrev Decided : List ℕ → List Token → Module → Type 0
Decided bytes tokens m =
    ((c : Checked) × IsChecked bytes tokens m c) ⊎ ((f : CheckFault) × IsCause bytes tokens m f)

measured : (bytes : List ℕ) (tokens : List Token) (m : Module) (r : Reading) (e : Option Excess)
    → reading bytes tokens m ≡ Ok r → first_excess r ≡ e → Decided bytes tokens m
measured bytes tokens m r None read within = inl (
  resolved m r,
  record {
    reading = r;
    well_formed = read;
    within = within;
    checked_is = refl;
  },
)
measured bytes tokens m r (Some (kind, n)) read excess =
    inr (Limit kind n, record { reading = r; well_formed = read; excess = excess })

judged : (bytes : List ℕ) (tokens : List Token) (m : Module) (j : Judged Reading)
    → reading bytes tokens m ≡ j → Decided bytes tokens m
judged bytes tokens m (Ok r) read = measured bytes tokens m r (first_excess r) read refl
judged bytes tokens m (Err f) broken = inr (Rule f.0 f.1, broken)

pub decided : (bytes : List ℕ) (tokens : List Token) (m : Module) → Decided bytes tokens m
decided bytes tokens m = judged bytes tokens m (reading bytes tokens m) refl

pub one_module : (bytes : List ℕ) (tokens : List Token) (m : Module) (c d : Checked)
    → IsChecked bytes tokens m c → IsChecked bytes tokens m d → c ≡ d
one_module bytes tokens m c d a b =
    let same : a.reading ≡ b.reading = cc (a.well_formed, b.well_formed) in
    a.checked_is ∙ ap (resolved m) same ∙ sym b.checked_is

pub never_both : (bytes : List ℕ) (tokens : List Token) (m : Module) (c : Checked) (f : CheckFault)
    → IsChecked bytes tokens m c → IsCause bytes tokens m f → ⊥
never_both bytes tokens m c (Rule rule token) a broken = cc (a.well_formed, broken)
never_both bytes tokens m c (Limit kind n) a b =
    let same : a.reading ≡ b.reading = cc (a.well_formed, b.well_formed) in
    let excess : first_excess a.reading ≡ Some (kind, n) = ap first_excess same ∙ b.excess in
    cc (a.within, excess)
never_both bytes tokens m c OutOfMemory a none = none

same_rule : (j : Judged Reading) (f g : Fault) → j ≡ Err f → j ≡ Err g
    → Rule f.0 f.1 ≡ Rule g.0 g.1
same_rule j f g a b =
    let same : f ≡ g = cc (a, b) in
    ap (λ (x : Fault). Rule x.0 x.1) same

same_limit : (j : Judged Reading) (r s : Reading) (e f : Excess) → j ≡ Ok r → j ≡ Ok s
    → first_excess r ≡ Some e → first_excess s ≡ Some f → Limit e.0 e.1 ≡ Limit f.0 f.1
same_limit j r s e f a b h k =
    let same : r ≡ s = cc (a, b) in
    let told : e ≡ f = cc (h, k, ap first_excess same) in
    ap (λ (x : Excess). Limit x.0 x.1) told

pub one_cause : (bytes : List ℕ) (tokens : List Token) (m : Module) (f g : CheckFault)
    → IsCause bytes tokens m f → IsCause bytes tokens m g → f ≡ g
one_cause bytes tokens m (Rule rule token) (Rule other place) a b =
    same_rule (reading bytes tokens m) (rule, token) (other, place) a b
one_cause bytes tokens m (Rule rule token) (Limit kind n) a b = absurd (cc (a, b.well_formed))
one_cause bytes tokens m (Limit kind n) (Rule rule token) a b = absurd (cc (a.well_formed, b))
one_cause bytes tokens m (Limit kind n) (Limit other k) a b =
    same_limit (reading bytes tokens m) a.reading b.reading (kind, n) (other, k)
    a.well_formed b.well_formed a.excess b.excess
one_cause bytes tokens m OutOfMemory g none b = absurd none
one_cause bytes tokens m (Rule rule token) OutOfMemory a none = absurd none
one_cause bytes tokens m (Limit kind n) OutOfMemory a none = absurd none

-- ---- so an answer excludes all others

pub found_in : (bytes : List ℕ) (tokens : List Token) (m : Module) (r : Result Checked CheckFault)
    → IsAnswer bytes tokens m r → IfOk r (IsChecked bytes tokens m)
found_in bytes tokens m (Ok c) h = h
found_in bytes tokens m (Err f) h = tt

pub cause_in : (bytes : List ℕ) (tokens : List Token) (m : Module) (r : Result Checked CheckFault)
    → IsAnswer bytes tokens m r → IfErr r (λ f. f ≢ OutOfMemory → IsCause bytes tokens m f)
cause_in bytes tokens m (Ok c) h = tt
cause_in bytes tokens m (Err f) h = h

only_memory : (bytes : List ℕ) (tokens : List Token) (m : Module) (c : Checked) (f : CheckFault)
    → IsChecked bytes tokens m c → (f ≢ OutOfMemory → IsCause bytes tokens m f) → f ≡ OutOfMemory
only_memory bytes tokens m c (Rule rule token) a h =
    absurd (never_both bytes tokens m c (Rule rule token) a (h (λ same. cc same)))
only_memory bytes tokens m c (Limit kind n) a h =
    absurd (never_both bytes tokens m c (Limit kind n) a (h (λ same. cc same)))
only_memory bytes tokens m c OutOfMemory a h = refl

pub ok_where : (bytes : List ℕ) (tokens : List Token) (m : Module) (r : Result Checked CheckFault)
    → IsAnswer bytes tokens m r → (c : Checked) → IsChecked bytes tokens m c
    → IsOkUnless r OutOfMemory
ok_where bytes tokens m (Ok d) h c a = tt
ok_where bytes tokens m (Err f) h c a = only_memory bytes tokens m c f a h

this_or_memory : (bytes : List ℕ) (tokens : List Token) (m : Module) (f g : CheckFault)
    → IsCause bytes tokens m f → (g ≢ OutOfMemory → IsCause bytes tokens m g)
    → IsErrUnlessMemory {T = Checked} (Err g) f
this_or_memory bytes tokens m f (Rule rule token) a h =
    inl (ap (λ x. Err x) (one_cause bytes tokens m (Rule rule token) f (h (λ same. cc same)) a))
this_or_memory bytes tokens m f (Limit kind n) a h =
    inl (ap (λ x. Err x) (one_cause bytes tokens m (Limit kind n) f (h (λ same. cc same)) a))
this_or_memory bytes tokens m f OutOfMemory a h = inr refl

pub fault_where : (bytes : List ℕ) (tokens : List Token) (m : Module)
    (r : Result Checked CheckFault) → IsAnswer bytes tokens m r → (f : CheckFault) →
    IsCause bytes tokens m f
    → IsErrUnlessMemory r f
fault_where bytes tokens m (Ok c) h f a = absurd (never_both bytes tokens m c f h a)
fault_where bytes tokens m (Err g) h f a = this_or_memory bytes tokens m f g a h
