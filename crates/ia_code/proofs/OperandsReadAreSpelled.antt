-- Numbers and operands that are read are spelled so by the table.
use Rattle.std.proofs.Common.{◌≡◌, ℕ, zero, suc, ◌+◌, ◌/◌, ◌%◌, ◌^◌, ◌≤◌, ◌<◌, Bool, true, false}
use Rattle.std.proofs.Common.{List, [], ◌∷◌, ◌++◌, length, Option, Some, None, refl, sym, ap, ◌∙◌}
use Rattle.std.proofs.Common.{subst, arith, append_assoc, take, drop, nat_lt, get_or-drop, rules}
use Rattle.std.proofs.Common.{take-append-drop, length-take}
use Rattle.std.specs.Prelude.{ℤ, pos, ◌==◌, ◌&&◌}
use Rattle.std.proofs.lemmas.Bool.Decides.{nat_tests}
use Rattle.std.proofs.lemmas.Bool.{ltb-false}
use Rattle.std.proofs.lemmas.Int.{of_z-to_z}
use Rattle.std.proofs.lemmas.Nat.{le_bytes_2, le_bytes_4}
use Rattle.std.specs.Int.{w8, w16, w32, to_le_bytes, from_le_bytes, cast_signed}
use Rattle.std.specs.Int.RustNames.{FitsSigned}
use Rattle.ia_code.specs.declared.ins.Reg.{Reg}
use Rattle.ia_code.specs.declared.ins.Reg.TheVariants.{Eax, Ecx, Edx, Ebx, Esp, Ebp, Esi, Edi}
use Rattle.ia_code.specs.declared.ins.Width.{Width}
use Rattle.ia_code.specs.declared.ins.Width.TheVariants.{D0, D8, D32}
use Rattle.ia_code.specs.declared.ins.MemAddr.{MemAddr}
use Rattle.ia_code.specs.declared.ins.Rm.{Rm}
use Rattle.ia_code.specs.declared.ins.Rm.TheVariants as rm
use Rattle.ia_code.specs.DecodeTable.{reg_number, scale_number, mod_number, fields, imm8, imm32}
use Rattle.ia_code.specs.DecodeTable.{displacement, address, operand, is_scale, is_index, is_base}
use Rattle.ia_code.specs.DecodeTable.{Holds, IsAddress, IsOperand}
use Rattle.ia_code.specs.Reading.{reg_of, scale_of, width_of, byte_at, short_at, half_at, word_at}
use Rattle.ia_code.specs.Reading.{displacement_at, address_at, sib_at, memory_at, fields_at}
use Rattle.ia_code.specs.Reading.{operand_at}
use Rattle.ia_code.proofs.FieldNumbers.{reg_back, scale_back, scale_stands, mode_back}
use Rattle.ia_code.specs.DecodeTable.{IsBytes}
use Rattle.pra_list.proofs.Choices.{by_test}
use Rattle.pra_list.proofs.Options.{some_same, bind_some, none_some}

-- the bytes begin with this text, and the rest follows
pub record Takes (bytes text rest : List ℕ) : Type 0 where
  pub all : bytes ≡ text ++ rest
  pub bytes_left : IsBytes rest

pub byte_takes : (bytes : List ℕ) → IsBytes bytes → (x : ℕ × List ℕ) → byte_at bytes ≡ Some x →
    Takes bytes (x.0 ∷ []) x.1 × (x.0 < 256)
unfolding byte_at
byte_takes [] is x e = cc
byte_takes (b ∷ rest) is x e =
    subst (λ y. Takes (b ∷ rest) (y.0 ∷ []) y.1 × (y.0 < 256)) (some_same (b, rest) x e)
    (record { all = refl; bytes_left = λ i. is (suc i) }, is 0)

pub drop_bytes : (n : ℕ) (bytes : List ℕ) → IsBytes bytes → IsBytes (drop n bytes)
drop_bytes n bytes is = λ i. rw get_or-drop (is (n + i))

four_long : (bytes : List ℕ) → 4 ≤ length bytes → length (take 4 bytes) ≡ 4
four_long bytes h = simp length-take (omega arith)

pub take_bytes : (n : ℕ) (bytes : List ℕ) → IsBytes bytes → IsBytes (take n bytes)
take_bytes zero bytes is i = omega arith
take_bytes (suc n) [] is i = omega arith
take_bytes (suc n) (b ∷ bytes) is zero = is 0
take_bytes (suc n) (b ∷ bytes) is (suc i) = take_bytes n bytes (λ j. is (suc j)) i

signed_fits : (n : ℕ) → n < 2 ^ 32 → FitsSigned w32 (cast_signed w32 n)
signed_fits n h = search rules

short_fits : (n : ℕ) → n < 2 ^ 8 → FitsSigned w8 (cast_signed w8 n)
short_fits n h = search rules

four_below : (bytes : List ℕ) → IsBytes bytes → from_le_bytes w32 bytes < 2 ^ 32
four_below bytes is = omega (arith, is 0, is 1, is 2, is 3)

half_below : (bytes : List ℕ) → IsBytes bytes → from_le_bytes w16 bytes < 2 ^ 16
half_below bytes is = omega (arith, is 0, is 1)

pub half_takes : (bytes : List ℕ) → IsBytes bytes → (x : ℕ × List ℕ) → half_at bytes ≡ Some x →
    Takes bytes (to_le_bytes w16 x.0) x.1 × (x.0 < 2 ^ 16)
unfolding half_at
half_takes bytes is x e =
    by_test (nat_lt (length bytes) 2) None (Some (from_le_bytes w16 (take 2 bytes), drop 2 bytes))
    (Some x)
    (λ h f. absurd (none_some f))
    (λ h f.
    let front = take_bytes 2 bytes is in
    let long : length (take 2 bytes) ≡ 2 = let l : 2 ≤ length bytes = ltb-false _ _ h in
    simp length-take (omega arith) in
    let spelled = le_bytes_2 (take 2 bytes) (from_le_bytes w16 (take 2 bytes)) long front refl in
    subst (λ y. Takes bytes (to_le_bytes w16 y.0) y.1 × (y.0 < 2 ^ 16))
    (some_same (from_le_bytes w16 (take 2 bytes), drop 2 bytes) x f) (
      record {
        all = sym (take-append-drop 2 bytes) ∙ ap (λ l. l ++ drop 2 bytes) (sym spelled);
        bytes_left = drop_bytes 2 bytes is;
      },
      half_below (take 2 bytes) front,
    ))
    e

four_spelled : (bytes : List ℕ) → IsBytes bytes → length bytes ≡ 4 →
    imm32 (cast_signed w32 (from_le_bytes w32 bytes)) ≡ bytes
four_spelled bytes is l =
    ap (to_le_bytes w32) (of_z-to_z w32 (from_le_bytes w32 bytes) (four_below bytes is))
    ∙ le_bytes_4 bytes (from_le_bytes w32 bytes) l is refl

pub word_takes : (bytes : List ℕ) → IsBytes bytes → (x : ℤ × List ℕ) → word_at bytes ≡ Some x →
    Takes bytes (imm32 x.0) x.1 × FitsSigned w32 x.0
unfolding word_at
word_takes bytes is x e =
    by_test (nat_lt (length bytes) 4) None
    (Some (cast_signed w32 (from_le_bytes w32 (take 4 bytes)), drop 4 bytes)) (Some x)
    (λ h f. absurd (none_some f))
    (λ h f.
    let front = take_bytes 4 bytes is in
    let spelled = four_spelled (take 4 bytes) front (four_long bytes (ltb-false _ _ h)) in
    subst (λ y. Takes bytes (imm32 y.0) y.1 × FitsSigned w32 y.0)
    (some_same (cast_signed w32 (from_le_bytes w32 (take 4 bytes)), drop 4 bytes) x f) (
      record {
        all = sym (take-append-drop 4 bytes) ∙ ap (λ l. l ++ drop 4 bytes) (sym spelled);
        bytes_left = drop_bytes 4 bytes is;
      },
      signed_fits (from_le_bytes w32 (take 4 bytes)) (four_below (take 4 bytes) front),
    ))
    e

pub short_takes : (bytes : List ℕ) → IsBytes bytes → (x : ℤ × List ℕ) → short_at bytes ≡ Some x →
    Takes bytes (imm8 x.0) x.1 × FitsSigned w8 x.0
unfolding short_at
short_takes bytes is x e =
    let b = bind_some (byte_at bytes) (λ b. Some (cast_signed w8 b.0, b.1)) x e in
    let t = byte_takes bytes is b.0 b.1 in
    subst (λ y. Takes bytes (imm8 y.0) y.1 × FitsSigned w8 y.0) (some_same _ x b.2) (
      record {
        all = t.0.all ∙ ap (λ n. n ∷ b.0.1) (sym (of_z-to_z w8 b.0.0 t.1));
        bytes_left =
            t.0.bytes_left;
      },
      short_fits b.0.0 t.1,
    )

displacement_takes : (w : Width) (bytes : List ℕ) → IsBytes bytes → (x : ℤ × List ℕ) →
    displacement_at w bytes ≡ Some x → Takes bytes (displacement w x.0) x.1 × Holds w x.0
unfolding displacement_at
displacement_takes D0 bytes is x e = subst (λ y. Takes bytes [] y.1 × (y.0 ≡ pos 0))
    (some_same (pos 0, bytes) x e) (record { all = refl; bytes_left = is }, refl)
displacement_takes D8 bytes is x e = short_takes bytes is x e
displacement_takes D32 bytes is x e = word_takes bytes is x e

address_takes : (b : Option Reg) (i : Option (Reg × ℕ)) (w : Width) (bytes : List ℕ) →
    IsBytes bytes → (x : MemAddr × List ℕ) → address_at b i w bytes ≡ Some x →
    (d : ℤ) × Takes bytes (displacement w d) x.1 × Holds w d ×
    (x.0 ≡ record { base = b; index = i; disp = d; width = w })
unfolding address_at
address_takes b i w bytes is x e =
    let s = bind_some (displacement_at w bytes)
    (λ d. Some (record { base = b; index = i; disp = d.0; width = w }, d.1)) x e in
    let t = displacement_takes w bytes is s.0 s.1 in
    let same = some_same (record { base = b; index = i; disp = s.0.0; width = w }, s.0.1) x s.2 in (
      s.0.0,
      subst (λ r. Takes bytes (displacement w s.0.0) r) (ap (λ y. y.1) same) t.0,
      t.1,
      ap (λ y. y.0) (sym same),
    )

-- a base that is not Esp stands in the low field
base_spelled : (b : Reg) (reg : ℕ) (w : Width) (d : ℤ) → (reg_number b == 4) ≡ false →
    address reg (Some b) None w d ≡ fields (mod_number w) reg (reg_number b) ∷ displacement w d
base_spelled Eax reg w d h = refl
base_spelled Ecx reg w d h = refl
base_spelled Edx reg w d h = refl
base_spelled Ebx reg w d h = refl
base_spelled Esp reg w d h = cc
base_spelled Ebp reg w d h = refl
base_spelled Esi reg w d h = refl
base_spelled Edi reg w d h = refl

base_stands : (b : Reg) (w : Width) → ((reg_number b == 5) && (mod_number w == 0)) ≡ false →
    is_base (Some b) w ≡ true
base_stands Eax w h = refl
base_stands Ecx w h = refl
base_stands Edx w h = refl
base_stands Ebx w h = refl
base_stands Esp w h = refl
base_stands Ebp D0 h = cc
base_stands Ebp D8 h = refl
base_stands Ebp D32 h = refl
base_stands Esi w h = refl
base_stands Edi w h = refl

pub is_same : (a b : ℕ) → (a == b) ≡ true → a ≡ b
is_same a b h = grind (arith, nat_tests)

pub both : (x y : Bool) → (x && y) ≡ true → (x ≡ true) × (y ≡ true)
both true y h = (refl, h)
both false y h = cc

index_stands : (r : Reg) (s : ℕ) → (reg_number r == 4) ≡ false → is_scale s ≡ true →
    is_index (Some (r, s)) ≡ true
index_stands r s h k = rw h k

based : (reg : ℕ) (b : Reg) (x : Reg × ℕ) (w : Width) (d : ℤ) → address reg (Some b) (Some x) w d ≡
    fields (mod_number w) reg 4 ∷ fields (scale_number x.1) (reg_number x.0)
    (reg_number b) ∷ displacement w d
based reg b x w d = refl

joined : (b : ℕ) → b < 256 → fields (b / 64) (b / 8 % 8) (b % 8) ≡ b
unfolding fields
joined b h = omega arith

below_three : (n : ℕ) → (n == 3) ≡ false → n < 4 → n < 3
below_three n h l = grind (arith, nat_tests)

-- what is read of an address
Spells : ℕ → List ℕ → MemAddr × List ℕ → Type 0
Spells reg whole x = Takes whole (operand reg (rm.Mem x.0)) x.1 × IsAddress x.0

placed : (reg : ℕ) (whole pre : List ℕ) (b : Option Reg) (i : Option (Reg × ℕ)) (w : Width)
    (bytes : List ℕ) → IsBytes bytes → (x : MemAddr × List ℕ) → address_at b i w bytes ≡ Some x →
    whole ≡ pre ++ bytes → ((d : ℤ) → address reg b i w d ≡ pre ++ displacement w d) → is_index i ≡
    true → is_base b w ≡ true → Spells reg whole x
unfolding Spells
placed reg whole pre b i w bytes is x e same spell ix bs =
    let t = address_takes b i w bytes is x e in
    subst (λ a. Takes whole (operand reg (rm.Mem a)) x.1 × IsAddress a) (sym t.3) (
      record {
        all = same ∙ ap (λ l. pre ++ l) t.1.all
            ∙ sym (append_assoc pre (displacement w t.0) x.1) ∙ ap (λ l. l ++ x.1)
            (sym (spell t.0));
        bytes_left = t.1.bytes_left;
      },
      record { index = ix; base = bs; disp = t.2 },
    )

module _ (reg mode : ℕ) (ms : mode < 3) where
  sib_takes : (scale index base : ℕ) → scale < 4 → index < 8 → base < 8 → (bytes : List ℕ) →
      IsBytes bytes → (x : MemAddr × List ℕ) → sib_at mode scale index base bytes ≡ Some x →
      Spells reg (fields mode reg 4 ∷ fields scale index base ∷ bytes) x
  unfolding sib_at
  sib_takes scale index base ss is bs bytes bb x e =
      by_test (index == 4) _ _ (Some x)
      (λ h4 f. by_test ((base == 4) && (scale == 0)) _ _ (Some x)
      (λ h g.
      let p = both (base == 4) (scale == 0) h in
      placed reg _ (fields (mod_number (width_of mode)) reg 4 ∷ fields 0 4 4 ∷ []) (Some Esp) None
      (width_of mode) bytes bb x g
      (rw (mode_back mode ms, is_same index 4 h4, is_same base 4 p.0, is_same scale 0 p.1) refl)
      (λ d. refl) refl refl)
      (λ h g. absurd (none_some g)) f)
      (λ h4 f. by_test ((base == 5) && (mode == 0)) _ _ (Some x)
      (λ h g.
      let p = both (base == 5) (mode == 0) h in
      let n4 : (reg_number (reg_of index) == 4) ≡ false = rw (reg_back index is) h4 in
      placed reg _ (fields 0 reg 4 ∷ fields (scale_number (scale_of scale))
      (reg_number (reg_of index)) 5 ∷ []) None (Some (reg_of index, scale_of scale)) D32 bytes
      bb x g
      (rw (scale_back scale ss, reg_back index is, is_same base 5 p.0, is_same mode 0 p.1) refl)
      (λ d. refl)
      (index_stands (reg_of index) (scale_of scale) n4 (scale_stands scale)) refl)
      (λ h g.
      let n4 : (reg_number (reg_of index) == 4) ≡ false = rw (reg_back index is) h4 in
      let n5 : ((reg_number (reg_of base) == 5) && (mod_number (width_of mode) == 0)) ≡ false =
      rw (reg_back base bs, mode_back mode ms) h in
      placed reg _ (fields (mod_number (width_of mode)) reg 4 ∷ fields
      (scale_number (scale_of scale)) (reg_number (reg_of index)) (reg_number (reg_of base)) ∷
      []) (Some (reg_of base)) (Some (reg_of index, scale_of scale)) (width_of mode) bytes bb x
      g
      (rw (mode_back mode ms, scale_back scale ss, reg_back index is, reg_back base bs) refl)
      (λ d. based reg (reg_of base) (reg_of index, scale_of scale) (width_of mode) d)
      (index_stands (reg_of index) (scale_of scale) n4 (scale_stands scale))
      (base_stands (reg_of base) (width_of mode) n5))
      f)
      e

  memory_takes : (low : ℕ) → low < 8 → (bytes : List ℕ) → IsBytes bytes → (x : MemAddr × List ℕ) →
      memory_at mode low bytes ≡ Some x → Spells reg (fields mode reg low ∷ bytes) x
  unfolding memory_at
  memory_takes low ls bytes bb x e =
      by_test (low == 4) _ _ (Some x)
      (λ h4 f.
      let b = bind_some (byte_at bytes) _ x f in
      let t = byte_takes bytes bb b.0 b.1 in
      let whole = joined b.0.0 t.1 in
      let s = sib_takes (b.0.0 / 64) (b.0.0 / 8 % 8) (b.0.0 % 8) (omega arith) (omega arith)
      (omega arith) b.0.1 t.0.bytes_left x b.2 in
      subst (λ l. Spells reg l x)
      (rw (is_same low 4 h4, whole) (ap (λ l. fields mode reg 4 ∷ l) (sym t.0.all))) s)
      (λ h4 f. by_test ((low == 5) && (mode == 0)) _ _ (Some x)
      (λ h g.
      let p = both (low == 5) (mode == 0) h in
      placed reg _ (fields 0 reg 5 ∷ []) None None D32 bytes bb x g
      (rw (is_same low 5 p.0, is_same mode 0 p.1) refl) (λ d. refl) refl refl)
      (λ h g.
      let n4 : (reg_number (reg_of low) == 4) ≡ false = rw (reg_back low ls) h4 in
      let n5 : ((reg_number (reg_of low) == 5) && (mod_number (width_of mode) == 0)) ≡ false =
      rw (reg_back low ls, mode_back mode ms) h in
      placed reg _ (fields (mod_number (width_of mode)) reg (reg_number (reg_of low)) ∷ [])
      (Some (reg_of low)) None (width_of mode) bytes bb x g
      (rw (mode_back mode ms, reg_back low ls) refl)
      (λ d. base_spelled (reg_of low) reg (width_of mode) d n4) refl
      (base_stands (reg_of low) (width_of mode) n5))
      f)
      e

-- what is read of an operand
unfoldable pub IsRead : List ℕ → ℕ × Rm × List ℕ → Type 0
IsRead bytes x = Takes bytes (operand x.0 x.1) x.2 × IsOperand x.1 × (x.0 < 8)

fields_takes : (mode reg low : ℕ) → mode < 4 → reg < 8 → low < 8 → (bytes : List ℕ) →
    IsBytes bytes → (x : ℕ × Rm × List ℕ) → fields_at mode reg low bytes ≡ Some x →
    IsRead (fields mode reg low ∷ bytes) x
unfolding fields_at Spells IsRead
fields_takes mode reg low hs ms ls bytes bb x e =
    by_test (mode == 3) _ _ (Some x)
    (λ h f. subst (IsRead (fields mode reg low ∷ bytes))
    (some_same (reg, rm.Reg (reg_of low), bytes) x f)
    (record { all = rw (is_same mode 3 h, reg_back low ls) refl; bytes_left = bb }, tt, ms))
    (λ h f.
    let b = bind_some (memory_at mode low bytes) _ x f in
    let m = memory_takes reg mode (below_three mode h hs) low ls bytes bb b.0 b.1 in
    subst (IsRead (fields mode reg low ∷ bytes)) (some_same (reg, rm.Mem b.0.0, b.0.1) x b.2)
    (m.0, m.1, ms))
    e

pub operand_takes : (bytes : List ℕ) → IsBytes bytes → (x : ℕ × Rm × List ℕ) → operand_at bytes ≡
    Some x → IsRead bytes x
unfolding operand_at
operand_takes bytes bb x e =
    let b = bind_some (byte_at bytes) _ x e in
    let t = byte_takes bytes bb b.0 b.1 in
    let r = fields_takes (b.0.0 / 64) (b.0.0 / 8 % 8) (b.0.0 % 8) (omega (arith, t.1)) (omega arith)
    (omega arith) b.0.1 t.0.bytes_left x b.2 in
    subst (λ l. IsRead l x) (ap (λ n. n ∷ b.0.1) (joined b.0.0 t.1) ∙ sym t.0.all) r
