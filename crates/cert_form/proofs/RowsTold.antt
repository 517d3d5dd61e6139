-- What rows of numbers are, and of which parts they are.
use Rattle.std.proofs.Common.{◌≡◌, ℕ, ℤ, pos, negsuc, List, [], ◌∷◌, Bool, true, false, Option}
use Rattle.std.proofs.Common.{Some, None, refl, sym, ap, ◌∙◌, subst, codes, bytes_eq, nat_lt}
use Rattle.std.proofs.Common.{◌^◌, ◌==◌, length, arith}
use Rattle.std.specs.Prelude.{if◌then◌else◌, IfSome}
use Rattle.std.proofs.lemmas.Bool.Decides.{nat_tests}
use Rattle.std.proofs.lemmas.Slice.Eq.{bytes_eq-Decides}
use Rattle.serde_json.specs.Data.{Data, string}
use Rattle.serde_json.specs.Find.{as_i64, of_integer}
use Rattle.pra_list.specs.Options.{◌>>=◌}
use Rattle.pra_list.proofs.Options.{some_same}
use Rattle.pra_base.specs.declared.ids.VarId.{VarId}
use Rattle.pra_base.specs.declared.code.Base.{Base}
use Rattle.pra_base.specs.declared.code.Base.TheVariants.{Global, Frame, Cell, Via}
use Rattle.pra_base.specs.declared.code.Addr.{Addr}
use Rattle.cert_form.specs.declared.certificate.CapAt.{CapAt}
use Rattle.cert_form.specs.declared.certificate.TieAt.{TieAt}
use Rattle.cert_form.specs.declared.cells.Mark.{Mark}
use Rattle.cert_form.specs.declared.cells.Mark.TheVariants.{Null, Integer}
use Rattle.cert_form.specs.Form.{natural, integer, row, base_name, base_number, index_data}
use Rattle.cert_form.specs.Form.{list, address_data, cap_data, tie_data}
use Rattle.cert_form.specs.Reading.{long_natural, natural_of, long_integer, integer_of, base_of}
use Rattle.cert_form.specs.Reading.{index_of, address_of, cap_of, tie_of, fits_i64, fits_i32}
use Rattle.cert_form.specs.Whole.{AddressFits, CapFits, TieFits}
use Rattle.cert_form.specs.Streams.{mark_data, marked, marks_row, address_in, cap_in, tie_in}
use Rattle.cert_form.specs.Streams.{IsAnswer, AreFew}
use Rattle.cert_form.proofs.Forms.{of_none}
use Rattle.cert_form.proofs.PartsFit.{address_fits, cap_fits, tie_fits}
use Rattle.cert_form.proofs.PartsRead.{address_read, cap_read, tie_read}

-- what went before Some
pub bound : {A B : Type 0} (o : Option A) (f : A → Option B) (b : B) → (o >>= f) ≡ Some b →
    (a : A) × (o ≡ Some a) × (f a ≡ Some b)
bound None f b e = absurd (cc)
bound (Some a) f b e = (a, refl, e)

pub taken : {A : Type 0} (b : Bool) (x y : A) → (if b then Some x else None) ≡ Some y → x ≡ y
taken true x y e = some_same x y e
taken false x y e = absurd (cc)

-- The number that was found is the one that stands there.

long_natural_is : (m : Mark) (n : ℕ) → long_natural (mark_data m) ≡ Some n →
    mark_data m ≡ natural n
long_natural_is Null n e = absurd (cc)
long_natural_is (Integer (pos k)) n e =
    ap natural (taken (nat_lt k 18446744073709551616) k n e)
long_natural_is (Integer (negsuc k)) n e = absurd (cc)

pub natural_is : (m : Mark) (n : ℕ) → natural_of (mark_data m) ≡ Some n →
    mark_data m ≡ natural n
natural_is m n e =
    let b = bound (long_natural (mark_data m))
    (λ k. if nat_lt k 4294967296 then Some k else None) n e in
    long_natural_is m b.0 b.1 ∙ ap natural (taken (nat_lt b.0 4294967296) b.0 n b.2)

signed_is : (z y : ℤ) → as_i64 (of_integer z) ≡ Some y → z ≡ y
signed_is (pos n) y e = taken (nat_lt n (2 ^ 63)) (pos n) y e
signed_is (negsuc n) y e = some_same (negsuc n) y e

long_integer_is : (m : Mark) (z : ℤ) → long_integer (mark_data m) ≡ Some z →
    mark_data m ≡ integer z
long_integer_is Null z e = absurd (cc)
long_integer_is (Integer y) z e =
    let b = bound (as_i64 (of_integer y)) (λ k. if fits_i64 k then Some k else None) z e in
    ap integer (signed_is y b.0 b.1 ∙ taken (fits_i64 b.0) b.0 z b.2)

integer_is : (m : Mark) (z : ℤ) → integer_of (mark_data m) ≡ Some z → mark_data m ≡ integer z
integer_is m z e =
    let b = bound (long_integer (mark_data m)) (λ k. if fits_i32 k then Some k else None) z e in
    long_integer_is m b.0 b.1 ∙ ap integer (taken (fits_i32 b.0) b.0 z b.2)

index_is : (m : Mark) (i : Option VarId) → index_of (mark_data m) ≡ Some i →
    mark_data m ≡ index_data i
index_is Null i e = ap index_data (some_same None i e)
index_is (Integer y) i e =
    let made = λ (n : ℕ). let v : VarId = record { 0 = n } in Some (Some v) in
    let b = bound (natural_of (integer y)) made i e in
    natural_is (Integer y) b.0 b.1 ∙ ap index_data (some_same (Some (record { 0 = b.0 })) i b.2)

-- a word that was told, or another
told : {A : Type 0} (P : A → Type 0) (w v : List ℕ) (x y : A) (o : Option A) →
    (w ≡ v → P x) → (o ≡ Some y → P y) → (if bytes_eq w v then Some x else o) ≡ Some y → P y
told P w v x y o here there e = by (bytes_eq w v) refl e
  where
    by : (b : Bool) → bytes_eq w v ≡ b → (if b then Some x else o) ≡ Some y → P y
    by true f g = subst P (some_same x y g) (here ((bytes_eq-Decides w v).0 f))
    by false f g = there g

abbrev IsBase : List ℕ → ℕ → Base → Type 0
IsBase w n b = (w ≡ base_name b) × (n ≡ base_number b)

base_is : (w : List ℕ) (n : ℕ) (b : Base) → base_of w n ≡ Some b → IsBase w n b
base_is w n b e =
    let via = if bytes_eq w (codes "via") then Some (Via (record { 0 = n })) else None in
    let cell = if bytes_eq w (codes "cell") then Some (Cell n) else via in
    let frame = if bytes_eq w (codes "frame") then Some (Frame n) else cell in
    told (IsBase w n) w (codes "global") (Global n) b frame (λ h. (h, refl))
    (told (IsBase w n) w (codes "frame") (Frame n) b cell (λ h. (h, refl))
    (told (IsBase w n) w (codes "cell") (Cell n) b via (λ h. (h, refl))
    (told (IsBase w n) w (codes "via") (Via (record { 0 = n })) b None (λ h. (h, refl))
    (λ g. absurd (cc))))) e

-- A part that is found of a value that is as long is of that value.
answered : {A : Type 0} (of : Data → Option A) (form : A → Data) (fits : A → Type 0) →
    ((x : A) → fits x → of (form x) ≡ Some x) → ((d : Data) → IfSome (of d) fits) → (d : Data) →
    ((x : A) → of d ≡ Some x → d ≡ form x) → IsAnswer form fits (of d) d
answered {A} of form fits back fit d same = by (of d) refl
  where
    by : (o : Option A) → of d ≡ o → IsAnswer form fits o d
    by None e = of_none fits form of back d e
    by (Some x) e =
        (same x e, rw e at (fit d))

pub address_answer : (w : List ℕ) (ms : List Mark) →
    IsAnswer address_data AddressFits (address_in w ms) (marked w ms)
address_answer w (m ∷ n ∷ o ∷ []) =
    answered address_of address_data AddressFits address_read address_fits
    (marked w (m ∷ n ∷ o ∷ [])) (λ a e.
    let last = λ (b : Base) (z : ℤ) (i : Option VarId).
    let made : Addr = record { base = b; offset = z; index = i } in Some made in
    let third = λ (b : Base) (z : ℤ). index_of (mark_data o) >>= last b z in
    let second = λ (b : Base). integer_of (mark_data n) >>= third b in
    let first = λ (k : ℕ). base_of w k >>= second in
    let p = bound (natural_of (mark_data m)) first a e in
    let q = bound (base_of w p.0) second a p.2 in
    let r = bound (integer_of (mark_data n)) (third q.0) a q.2 in
    let s = bound (index_of (mark_data o)) (last q.0 r.0) a r.2 in
    let b = base_is w p.0 q.0 q.1 in
    let same : marked w (m ∷ n ∷ o ∷ [])
    ≡ row (string (base_name q.0) ∷ natural (base_number q.0) ∷ integer r.0 ∷ index_data s.0 ∷ []) =
    λ i. row (string (b.0 i) ∷ (natural_is m p.0 p.1 ∙ ap natural b.1) i ∷ integer_is n r.0 r.1 i
    ∷ index_is o s.0 s.1 i ∷ []) in
    same ∙ ap address_data (some_same (record { base = q.0; offset = r.0; index = s.0 }) a s.2))
address_answer w (m ∷ n ∷ o ∷ p ∷ ms) =
    let d = marked w (m ∷ n ∷ o ∷ p ∷ ms) in
    let long : (length (m ∷ n ∷ o ∷ p ∷ ms) == 3) ≡ false = grind (arith, nat_tests) in
    let P : Bool → Type 0 =
    λ b. IsAnswer address_data AddressFits (if b then address_of d else None) d in
    subst P (sym long) (λ a h e. cc)
address_answer w ms = λ a h e. cc

pub cap_answer : (ms : List Mark) → IsAnswer cap_data CapFits (cap_in ms) (marks_row ms)
cap_answer [] = λ c h e. cc
cap_answer (m ∷ []) = λ c h e. cc
cap_answer (m ∷ n ∷ []) =
    answered cap_of cap_data CapFits cap_read cap_fits (marks_row (m ∷ n ∷ [])) (λ c e.
    let second = λ (i : ℕ) (z : ℕ). let made : CapAt = record { at = i; price = z } in Some made in
    let first = λ (i : ℕ). long_natural (mark_data n) >>= second i in
    let p = bound (natural_of (mark_data m)) first c e in
    let q = bound (long_natural (mark_data n)) (second p.0) c p.2 in
    (λ i. row (natural_is m p.0 p.1 i ∷ long_natural_is n q.0 q.1 i ∷ []))
    ∙ ap cap_data (some_same (record { at = p.0; price = q.0 }) c q.2))
cap_answer (m ∷ n ∷ o ∷ ms) =
    let d = marks_row (m ∷ n ∷ o ∷ ms) in
    let long : (length (m ∷ n ∷ o ∷ ms) == 2) ≡ false = grind (arith, nat_tests) in
    let P : Bool → Type 0 = λ b. IsAnswer cap_data CapFits (if b then cap_of d else None) d in
    subst P (sym long) (λ c h e. cc)

pub tie_answer : (ms : List Mark) → IsAnswer tie_data TieFits (tie_in ms) (marks_row ms)
tie_answer [] = λ t h e. cc
tie_answer (m ∷ []) = λ t h e. cc
tie_answer (m ∷ n ∷ []) =
    answered tie_of tie_data TieFits tie_read tie_fits (marks_row (m ∷ n ∷ [])) (λ t e.
    let second = λ (i : ℕ) (z : ℤ). let made : TieAt = record { at = i; number = z } in Some made in
    let first = λ (i : ℕ). long_integer (mark_data n) >>= second i in
    let p = bound (natural_of (mark_data m)) first t e in
    let q = bound (long_integer (mark_data n)) (second p.0) t p.2 in
    (λ i. row (natural_is m p.0 p.1 i ∷ long_integer_is n q.0 q.1 i ∷ []))
    ∙ ap tie_data (some_same (record { at = p.0; number = q.0 }) t q.2))
tie_answer (m ∷ n ∷ o ∷ ms) =
    let d = marks_row (m ∷ n ∷ o ∷ ms) in
    let long : (length (m ∷ n ∷ o ∷ ms) == 2) ≡ false = grind (arith, nat_tests) in
    let P : Bool → Type 0 = λ b. IsAnswer tie_data TieFits (if b then tie_of d else None) d in
    subst P (sym long) (λ t h e. cc)

-- the same of two numbers that were read of a list
module _ {A : Type 0} (form : A → Data) (fits : A → Type 0) (d : Data) (marks : Option (List Mark))
    (read : IsAnswer (list mark_data) (AreFew (λ n m. Unit {0}) (Some 2)) marks d) where
  pub pair_told : (of : List Mark → Option A) →
      ((ms : List Mark) → IsAnswer form fits (of ms) (marks_row ms)) → (ms : List Mark)
      (found : Option A) → marks ≡ Some ms → found ≡ of ms → IsAnswer form fits found d
  pair_told of answer ms found is same = rw same (rw ((rw is at read).0) (answer ms))

  pub no_pair : (first second : A → Mark) →
      ((x : A) → form x ≡ marks_row (first x ∷ second x ∷ [])) → marks ≡ None →
      IsAnswer form fits None d
  no_pair first second is none x h e =
      (rw none at read) (first x ∷ second x ∷ []) ((tt, (tt, tt)), omega arith) (e ∙ is x)
