-- Code has one network.
use Rattle.std.proofs.Common.{ℕ, ◌≡◌, Bool, true, false, IsTrue, List, refl, sym, ap, ◌∙◌, subst}
use Rattle.std.proofs.Common.{arith}
use Rattle.std.proofs.lemmas.Bool.{false≢true}
use Rattle.std.proofs.Math.Path.{fun_ext}
use Rattle.pra_base.specs.declared.code.VProc.{VProc}
use Rattle.net_form.specs.declared.net.Net.{Net}
use Rattle.net_form.specs.declared.net.Tie.{Tie}
use Rattle.net_form.specs.Tables.{PlaceTables}
use Rattle.net_form.specs.Strands.{Lives, IsLive, strands}
use Rattle.net_form.specs.Groups.{IsLeastEnd}
use Rattle.net_form.specs.Network.{ties, net_of, IsNetBy}

same_truth : (x y : Bool) → (IsTrue x → IsTrue y) → (IsTrue y → IsTrue x) → x ≡ y
same_truth true true f g = refl
same_truth true false f g = absurd (false≢true (f refl))
same_truth false true f g = absurd (false≢true (g refl))
same_truth false false f g = refl

-- what is live where is one function
pub one_live : (code : VProc) (f g : Lives) → IsLive code f → IsLive code g → f ≡ g
one_live code f g a b = λ i v n l.
    same_truth (f v n l) (g v n l) (λ h. (b v n l).1 ((a v n l).0 h))
    (λ h. (a v n l).1 ((b v n l).0 h)) i

-- and so is the least end of each group
pub one_least : (ts : List Tie) (f g : ℕ → ℕ) → ((e : ℕ) → IsLeastEnd ts e (f e))
    → ((e : ℕ) → IsLeastEnd ts e (g e)) → f ≡ g
one_least ts f g a b = fun_ext (λ e.
    let le = (a e).least (g e) (b e).joined in
    let ge = (b e).least (f e) (a e).joined in
    let same : f e ≡ g e = omega (arith, le, ge) in same)

pub one_network : (tables : PlaceTables) (code : VProc) (m n : Net) → IsNetBy tables code m
    → IsNetBy tables code n → m ≡ n
one_network tables code m n a b =
    let live = one_live code a.live b.live a.is_live b.is_live in
    let least = one_least (ties code (strands tables code b.live)) a.least b.least
    (subst (λ (l : Lives). (e : ℕ) → IsLeastEnd (ties code (strands tables code l)) e (a.least e))
    live a.are_least)
    b.are_least in
    a.is ∙ ap (λ l. net_of tables code l a.least) live
    ∙ ap (λ f. net_of tables code b.live f) least ∙ sym b.is
