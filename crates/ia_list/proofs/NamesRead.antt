-- Names that are written are read again.
use Rattle.std.proofs.Common.{◌≡◌, ◌≤◌, ℕ, true, not, ◌&&◌, List, [], ◌∷◌, ◌++◌, length, Some, refl}
use Rattle.std.proofs.Common.{arith, nat_lt, length-append}
use Rattle.std.specs.Prelude.{Bool, position}
use Rattle.std.specs.List.{position_or_len}
use Rattle.std.proofs.Math.Seq.{take-append_seam, drop-append_seam}
use Rattle.std.proofs.lemmas.Bool.{lt-ltb}
use Rattle.pra_base.specs.declared.ids.ShiftOp.TheVariants.{Shl}
use Rattle.pra_base.specs.declared.ids.Cond.TheVariants.{B}
use Rattle.ia_code.specs.declared.ins.AluOp.TheVariants.{Add}
use Rattle.ia_list.specs.declared.forms.Form.{Form}
use Rattle.ia_list.specs.declared.forms.Form.TheVariants as form
use Rattle.ia_list.specs.Parts.{name}
use Rattle.ia_list.specs.Reading.{form_named, ends_name, named_at}
use Rattle.pra_list.proofs.Choices.{and_true, not_true}

-- no byte of a name ends it
abbrev goes_on : List ℕ → Bool
goes_on [] = true
goes_on (b ∷ bytes) = not (ends_name b) && goes_on bytes

-- how long a name is at least
abbrev pub least_name : Form → ℕ
least_name form.MovRi = 5
least_name form.MovMi = 5
least_name (form.AluMi op) = 5
least_name (form.AluMb op) = 5
least_name (form.Shift op) = 5
least_name (form.Jcc c) = 2
least_name _ = 3

-- each name is that of its form, no byte of it ends it, and it is so long
pub names : (f : Form) → (form_named (name f) ≡ Some f) × (goes_on (name f) ≡ true)
    × (least_name f ≤ length (name f))
names (form.AluMr Add) = (refl, refl, omega arith)
names (form.AluRm Add) = (refl, refl, omega arith)
names (form.AluMi Add) = (refl, refl, omega arith)
names (form.AluMb Add) = (refl, refl, omega arith)
names (form.Shift Shl) = (refl, refl, omega arith)
names (form.Jcc B) = (refl, refl, omega arith)
names (form.Set B) = (refl, refl, omega arith)
names _ = (refl, refl, omega arith)

-- The end of a word that stands before such a byte.
module _ (c : ℕ) (rest : List ℕ) (is : ends_name c ≡ true) where
  end_at : (word : List ℕ) → goes_on word ≡ true →
      position_or_len ends_name (word ++ c ∷ rest) ≡ length word
  end_at [] h = rw is refl
  end_at (b ∷ word) h =
      let p = and_true (not (ends_name b)) (goes_on word) h in
      rw (not_true (ends_name b) p.0, end_at word p.1) (omega arith)

  end_found : (word : List ℕ) → goes_on word ≡ true →
      position ends_name (word ++ c ∷ rest) ≡ Some (length word)
  end_found word h =
      let within : nat_lt (length word) (length (word ++ c ∷ rest)) ≡ true =
      lt-ltb _ _ (omega (arith, length-append word (c ∷ rest))) in
      rw (end_at word h, within) refl

  pub name_read : (f : Form) → named_at (name f ++ c ∷ rest) ≡ Some (f, c ∷ rest)
  unfolding named_at
  name_read f =
      rw (
        end_found (name f) (names f).1,
        take-append_seam (name f) (c ∷ rest),
        (names f).0,
        drop-append_seam (name f) (c ∷ rest),
      ) refl
