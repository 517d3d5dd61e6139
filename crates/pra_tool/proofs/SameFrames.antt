-- The lines on the procedures of one module tell their frames: where they are the same, so are the
-- frames.
use Rattle.std.proofs.Common.{◌≡◌, ℕ, zero, suc, ◌+◌, ◌≤◌, ◌<◌, List, [], ◌∷◌, ◌++◌, length, Some}
use Rattle.std.proofs.Common.{codes, refl, sym, ap, ap₂, ◌∙◌, arith, drop}
use Rattle.std.specs.Prelude.{slice_get}
use Rattle.std.specs.List.{range_with_len}
use Rattle.std.specs.Fmt.{decimal}
use Rattle.std.proofs.lemmas.List.{append_assoc, append_cancel_left}
use Rattle.std.proofs.lemmas.List.FromFn.{length-range_with_len}
use Rattle.std.proofs.lemmas.List.Sums.{length-filter, count_by-le-length}
use Rattle.pra_list.proofs.Options.{some_same}
use Rattle.ia_list.specs.Reading.{digits_at}
use Rattle.ia_list.proofs.NumbersRead.{decimal_read}
use Rattle.pl_place.specs.Behind.{has_slot}
use Rattle.ob_syntax.specs.declared.checked.Checked.{Checked}
use Rattle.cert_form.specs.declared.codes.NamedCode.{NamedCode}
use Rattle.pra_compile.specs.declared.output.Compiled.{Compiled}
use Rattle.pra_compile.specs.Compiled.{Wanted, granted, IsProcBy, IsCompiled}
use Rattle.pra_compile.specs.Leaving.{Leaving}
use Rattle.pra_compile.specs.Tidied.{name_of}
use Rattle.pra_follow.specs.Codes.{Carriage, IsCarriage, behind}
use Rattle.pra_report.specs.declared.report.ProcOut.{ProcOut}
use Rattle.pra_report.specs.Report.{procedure_lines}
use Rattle.pra_report.specs.Texts.{procedure_line}
use Rattle.pra_compile.specs.Compiled.{frames_of}

-- ---- a line

-- a number that is read back where a line ends
most_told : ℕ
most_told = 2147483648

-- what stands in a line before the frame
before_frame : ℕ → List ℕ → List ℕ
before_frame n name =
    codes "procedure " ++ decimal n ++ codes " " ++ name ++ codes " frame "

line_apart : (n : ℕ) (name : List ℕ) (f : ℕ) (rest : List ℕ) →
    procedure_line n name f ++ rest ≡ before_frame n name ++ (decimal f ++ 10 ∷ rest)
unfolding before_frame
line_apart n name f rest =
    append_assoc (before_frame n name ++ decimal f) (codes "\n") rest
    ∙ append_assoc (before_frame n name) (decimal f) (10 ∷ rest)

same_line : (n : ℕ) (name : List ℕ) (f g : ℕ) (rest other : List ℕ) → f ≤ most_told →
    g ≤ most_told → procedure_line n name f ++ rest ≡ procedure_line n name g ++ other →
    (f ≡ g) × (rest ≡ other)
unfolding most_told
same_line n name f g rest other le least h =
    let behind : decimal f ++ 10 ∷ rest ≡ decimal g ++ 10 ∷ other =
    append_cancel_left (before_frame n name) _ _
    (sym (line_apart n name f rest) ∙ h ∙ line_apart n name g other) in
    let read = some_same _ _ (sym (decimal_read 10 rest refl f le) ∙ ap (digits_at 0) behind
    ∙ decimal_read 10 other refl g least) in
    (ap (λ x. x.0) read, ap (λ x. drop 1 x.1) read)

-- ---- all lines

-- two procedures of one name, whose frames can be read
abbrev AreLike : ProcOut → ProcOut → Type 0
AreLike a b = (a.name ≡ b.name) × (a.frame ≤ most_told) × (b.frame ≤ most_told)

abbrev AllLike : List ProcOut → List ProcOut → Type 0
AllLike xs ys = (k : ℕ) (a b : ProcOut) → slice_get xs k ≡ Some a → slice_get ys k ≡ Some b →
    AreLike a b

frames_by_lines : (n : ℕ) (xs ys : List ProcOut) → length xs ≡ length ys → AllLike xs ys →
    procedure_lines n xs ≡ procedure_lines n ys → frames_of xs ≡ frames_of ys
frames_by_lines n [] [] count like e = refl
frames_by_lines n [] (b ∷ ys) count like e = absurd (omega (arith, count))
frames_by_lines n (a ∷ xs) [] count like e = absurd (omega (arith, count))
frames_by_lines n (a ∷ xs) (b ∷ ys) count like e =
    let here = like 0 a b refl refl in
    let line : procedure_line n a.name a.frame ++ procedure_lines (n + 1) xs
    ≡ procedure_line n a.name b.frame ++ procedure_lines (n + 1) ys =
    e ∙ ap (λ name. procedure_line n name b.frame ++ procedure_lines (n + 1) ys) (sym here.0) in
    let both = same_line n a.name a.frame b.frame _ _ here.1 here.2 line in
    ap₂ (λ f (fs : List ℕ). f ∷ fs) both.0
    (frames_by_lines (n + 1) xs ys (omega (arith, count)) (λ k p q. like (suc k) p q) both.1)

-- ---- of one module

-- a frame is small
frame_small : (leaves : Leaving) (p : ℕ) (named : NamedCode) (out : ProcOut) (c : Carriage) →
    IsCarriage c → IsProcBy leaves p named out c → out.frame ≤ most_told
unfolding most_told
frame_small leaves p named out c carriage is =
    let args = carriage.sized.args in
    let aggregates = carriage.sized.aggregates in
    let variables = carriage.sized.variables in
    let all = range_with_len 0 (length c.code.vars) in
    let slots = length-filter (has_slot (behind c)) all in
    let few = count_by-le-length (has_slot (behind c)) all in
    let many = length-range_with_len 0 (length c.code.vars) in
    let frame = is.frame in
    omega (arith, args, aggregates, variables, slots, few, many, frame)

there_is : {A : Type 0} (xs : List A) (k : ℕ) → k < length xs → (x : A) × (slice_get xs k ≡ Some x)
there_is [] k lt = absurd (omega (arith, lt))
there_is (x ∷ xs) zero lt = (x, refl)
there_is (x ∷ xs) (suc k) lt = there_is xs k (omega (arith, lt))

is_there : {A : Type 0} (xs : List A) (k : ℕ) (x : A) → slice_get xs k ≡ Some x → k < length xs
is_there [] k x e = cc
is_there (y ∷ xs) zero x e = omega arith
is_there (y ∷ xs) (suc k) x e = let lt = is_there xs k x e in omega (arith, lt)

-- each procedure has its name and a small frame
told_right : (program : Checked) (wanted : Wanted) (compiled : Compiled) →
    IsCompiled program wanted compiled → (k : ℕ) (a : ProcOut) →
    slice_get compiled.procs k ≡ Some a → (a.name ≡ name_of program k) × (a.frame ≤ most_told)
told_right program wanted compiled is k a there =
    let placement = is.built.placement in
    let lt = is_there compiled.procs k a there in
    let count = placement.count in
    let carried = placement.carriage_count in
    let named = there_is is.file.procs k (omega (arith, lt, count)) in
    let c = there_is placement.carriages k (omega (arith, lt, carried)) in
    let out = placement.each k named.0 a c.0 named.1 there c.1 in (
      out.name ∙ (is.of_module.procs.each k named.0 named.1).name,
      frame_small (granted wanted) k named.0 a c.0 (placement.are k c.0 c.1) out,
    )

pub same_frames : (program : Checked) (wanted other : Wanted) (a b : Compiled) →
    IsCompiled program wanted a → IsCompiled program other b →
    procedure_lines 0 a.procs ≡ procedure_lines 0 b.procs →
    frames_of a.procs ≡ frames_of b.procs
same_frames program wanted other a b is too e =
    frames_by_lines 0 a.procs b.procs
    (is.built.placement.count ∙ is.of_module.procs.count
    ∙ sym (too.built.placement.count ∙ too.of_module.procs.count))
    (λ k x y at there. let left = told_right program wanted a is k x at in
    let right = told_right program other b too k y there in
    (left.0 ∙ sym right.0, left.1, right.1)) e
