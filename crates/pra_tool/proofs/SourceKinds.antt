-- The sources are kinds: of each one thing at most is wrong, or none.
use Rattle.std.proofs.Common.{◌≡◌, ◌<◌, ◌≤◌, ◌⊎◌, inl, inr, ⊎_elim, refl, sym, ap, ◌∙◌, subst, ℕ}
use Rattle.std.proofs.Common.{◌+◌, List, length, replicate, Some, None, Ok, Err, arith}
use Rattle.std.specs.Prelude.{slice_get}
use Rattle.std.specs.declared.option.Option.{Option}
use Rattle.std.proofs.lemmas.Bool.{cases_lt}
use Rattle.std.proofs.lemmas.List.{length-replicate}
use Rattle.std.proofs.Math.Nat.{eq-or-lt_of_le}
use Rattle.pra_base.specs.declared.code.VProc.{VProc}
use Rattle.pra_base.specs.declared.limit.LimitKind.TheVariants as limit
use Rattle.pra_base.specs.Valid.{counts_of}
use Rattle.pra_io.specs.Contents.{Holds, IsLonger}
use Rattle.cert_form.specs.declared.codes.CodeFile.{CodeFile}
use Rattle.cert_form.specs.declared.code_files.CodeFault.{CodeFault}
use Rattle.cert_form.specs.declared.code_files.CodeFault.TheVariants as unread
use Rattle.cert_form.specs.CodeWhole.{ReadsCode}
use Rattle.cert_form.proofs.CodesAnswered.{is_code_read}
use Rattle.ob_read.specs.declared.fault.ReadFault.{ReadFault}
use Rattle.ob_read.specs.declared.fault.ReadFault.TheVariants as read
use Rattle.ob_read.specs.Source.{IsUnreadable}
use Rattle.ob_read.proofs.Reading.{one_reading, never_memory}
use Rattle.pra_compile.specs.Compiled.{IsRunnable, codes_in}
use Rattle.pra_report.specs.Report.{most_procs}
use Rattle.pra_words.specs.declared.words.FileKind.{FileKind}
use Rattle.pra_words.specs.declared.words.FileKind.TheVariants as a_file
use Rattle.vc_valid.specs.Listed.{HasCode}
use Rattle.pra_tool.specs.declared.source.CodeWrong.{CodeWrong}
use Rattle.pra_tool.specs.declared.source.CodeWrong.TheVariants as wrong
use Rattle.pra_tool.specs.declared.source.SourceFault.{SourceFault}
use Rattle.pra_tool.specs.declared.source.SourceFault.TheVariants as fault
use Rattle.pra_tool.specs.Sources.{IsCodeText, BreaksFirst, HasTooMany, HasBroken, IsNoCode}
use Rattle.pra_tool.specs.Sources.{IsWrongSource, IsSource, source_kind, source_status}
use Rattle.pra_tool.specs.Sources.{fault_status, code_status, most_source, over_fault}
use Rattle.pra_tool.specs.Status.{IsRefusal}
use Rattle.pra_tool.specs.Modes.{IsKind}

pub same_or_less : (m n : ℕ) → (m ≡ n) ⊎ (m < n) ⊎ (n < m)
same_or_less m n = ⊎_elim (λ lt. inr (inl lt))
    (λ le. ⊎_elim (λ e. inl (sym e)) (λ lt. inr (inr lt)) (eq-or-lt_of_le le)) (cases_lt m n)

-- ---- one file of code

-- a text is that of one file
pub one_file_read : (source : List ℕ) (a b : CodeFile) → ReadsCode source (Ok a) →
    ReadsCode source (Ok b) → a ≡ b
one_file_read source a b h k = ⊎_elim (λ e. cc) (λ e. absurd cc)
    (is_code_read b source k.1 k.0 (Ok a) h)

-- and then no fault is answered but want of memory
no_json : (source : List ℕ) (file : CodeFile) → ReadsCode source (Ok file) →
    ReadsCode source (Err unread.NotJson) → ⊥
no_json source file h k = k _ h.0

no_code : (source : List ℕ) (file : CodeFile) → ReadsCode source (Ok file) →
    ReadsCode source (Err unread.NotCode) → ⊥
no_code source file h k = ⊎_elim (λ e. cc) (λ e. cc)
    (is_code_read file source h.1 h.0 (Err unread.NotCode) k)

-- one procedure is the first that breaks a rule
one_first : (codes : List VProc) (p q : ℕ) → BreaksFirst codes p → BreaksFirst codes q → p ≡ q
one_first codes p q h k = ⊎_elim (λ e. e)
    (λ other. ⊎_elim (λ lt. absurd (h.broken (k.before p h.code lt h.there)))
    (λ lt. absurd (k.broken (h.before q k.code lt k.there))) other)
    (same_or_less p q)

one_count : (source : List ℕ) (m n : ℕ) → HasTooMany source m → HasTooMany source n → m ≡ n
one_count source m n h k =
    h.count_is ∙ ap (λ (f : CodeFile). length f.procs) (one_file_read source h.file k.file h.read
    k.read) ∙ sym k.count_is

one_broken : (source : List ℕ) (p q : ℕ) → HasBroken source p → HasBroken source q → p ≡ q
one_broken source p q h k = one_first (codes_in k.file) p q
    (subst (λ (f : CodeFile). BreaksFirst (codes_in f) p)
    (one_file_read source h.file k.file h.read k.read) h.first) k.first

many_or_broken : (source : List ℕ) (n p : ℕ) → HasTooMany source n → HasBroken source p → ⊥
many_or_broken source n p h k =
    let same : length h.file.procs ≡ length k.file.procs =
    ap (λ (f : CodeFile). length f.procs) (one_file_read source h.file k.file h.read k.read) in
    let is = h.count_is in
    let many = h.many in
    let few = k.few_procs in
    omega (arith, same, is, many, few)

-- ---- what is wrong with code

one_wrong_code : (source : List ℕ) (f g : CodeWrong) → IsNoCode source f → IsNoCode source g → f ≡ g
one_wrong_code source wrong.TooLong wrong.TooLong h k = refl
one_wrong_code source wrong.TooLong wrong.NotJson h k =
    absurd (let le = k.0 in omega (arith, h, le))
one_wrong_code source wrong.TooLong wrong.NotCode h k =
    absurd (let le = k.0 in omega (arith, h, le))
one_wrong_code source wrong.TooLong (wrong.Procedures n) h k =
    absurd (let le = k.few in omega (arith, h, le))
one_wrong_code source wrong.TooLong (wrong.Broken p) h k =
    absurd (let le = k.few in omega (arith, h, le))
one_wrong_code source wrong.NotJson wrong.TooLong h k =
    absurd (let le = h.0 in omega (arith, k, le))
one_wrong_code source wrong.NotJson wrong.NotJson h k = refl
one_wrong_code source wrong.NotJson wrong.NotCode h k = absurd (h.1 k.1.0 k.1.1)
one_wrong_code source wrong.NotJson (wrong.Procedures n) h k =
    absurd (no_json source k.file k.read h.1)
one_wrong_code source wrong.NotJson (wrong.Broken p) h k =
    absurd (no_json source k.file k.read h.1)
one_wrong_code source wrong.NotCode wrong.TooLong h k =
    absurd (let le = h.0 in omega (arith, k, le))
one_wrong_code source wrong.NotCode wrong.NotJson h k = absurd (k.1 h.1.0 h.1.1)
one_wrong_code source wrong.NotCode wrong.NotCode h k = refl
one_wrong_code source wrong.NotCode (wrong.Procedures n) h k =
    absurd (no_code source k.file k.read h.1)
one_wrong_code source wrong.NotCode (wrong.Broken p) h k =
    absurd (no_code source k.file k.read h.1)
one_wrong_code source (wrong.Procedures m) wrong.TooLong h k =
    absurd (let le = h.few in omega (arith, k, le))
one_wrong_code source (wrong.Procedures m) wrong.NotJson h k =
    absurd (no_json source h.file h.read k.1)
one_wrong_code source (wrong.Procedures m) wrong.NotCode h k =
    absurd (no_code source h.file h.read k.1)
one_wrong_code source (wrong.Procedures m) (wrong.Procedures n) h k =
    ap (λ x. wrong.Procedures x) (one_count source m n h k)
one_wrong_code source (wrong.Procedures m) (wrong.Broken p) h k =
    absurd (many_or_broken source m p h k)
one_wrong_code source (wrong.Broken p) wrong.TooLong h k =
    absurd (let le = h.few in omega (arith, k, le))
one_wrong_code source (wrong.Broken p) wrong.NotJson h k =
    absurd (no_json source h.file h.read k.1)
one_wrong_code source (wrong.Broken p) wrong.NotCode h k =
    absurd (no_code source h.file h.read k.1)
one_wrong_code source (wrong.Broken p) (wrong.Procedures n) h k =
    absurd (many_or_broken source n p k h)
one_wrong_code source (wrong.Broken p) (wrong.Broken q) h k =
    ap (λ x. wrong.Broken x) (one_broken source p q h k)

-- code that can run has neither too many procedures nor one that breaks a rule
runs_few : (source : List ℕ) (file : CodeFile) (n : ℕ) → IsCodeText source file →
    HasTooMany source n → ⊥
runs_few source file n is h =
    let same : length h.file.procs ≡ length file.procs =
    ap (λ (f : CodeFile). length f.procs) (one_file_read source h.file file h.read is.read) in
    let count = h.count_is in
    let many = h.many in
    let few = is.runnable.few in
    omega (arith, same, count, many, few)

runs_whole : (file : CodeFile) (p : ℕ) → IsRunnable file → BreaksFirst (codes_in file) p → ⊥
runs_whole file p is h = h.broken (is.each p h.code h.there)

runs_right : (source : List ℕ) (file : CodeFile) (p : ℕ) → IsCodeText source file →
    HasBroken source p → ⊥
runs_right source file p is h = runs_whole file p is.runnable
    (subst (λ (f : CodeFile). BreaksFirst (codes_in f) p)
    (one_file_read source h.file file h.read is.read) h.first)

never_wrong_code : (source : List ℕ) (file : CodeFile) (f : CodeWrong) → IsCodeText source file →
    IsNoCode source f → ⊥
never_wrong_code source file wrong.TooLong is h = let le = is.few in omega (arith, h, le)
never_wrong_code source file wrong.NotJson is h = no_json source file is.read h.1
never_wrong_code source file wrong.NotCode is h = no_code source file is.read h.1
never_wrong_code source file (wrong.Procedures n) is h = runs_few source file n is h
never_wrong_code source file (wrong.Broken p) is h = runs_right source file p is h

code_refusal : (source : List ℕ) (f : CodeWrong) → IsNoCode source f → IsRefusal (code_status f)
code_refusal source wrong.TooLong h = tt
code_refusal source x h = tt

-- ---- whatever FILE is

module_refusal : (source : List ℕ) (f : ReadFault) → IsUnreadable source f →
    IsRefusal (fault_status f)
module_refusal source (read.Source f) h = tt
module_refusal source (read.Limit f) h = tt
module_refusal source read.OutOfMemory h = absurd (never_memory source read.OutOfMemory h refl)

one_wrong_source : (kind : FileKind) (source : List ℕ) (f g : SourceFault) →
    IsWrongSource kind source f → IsWrongSource kind source g → f ≡ g
one_wrong_source a_file.Module source (fault.Module f) (fault.Module g) h k =
    ap (λ x. fault.Module x) (one_reading.one_fault source f g h k)
one_wrong_source a_file.Module source (fault.Module f) (fault.Code g) h k = absurd k
one_wrong_source a_file.Module source (fault.Module f) fault.OutOfMemory h k = absurd k
one_wrong_source a_file.Module source (fault.Code f) g h k = absurd h
one_wrong_source a_file.Module source fault.OutOfMemory g h k = absurd h
one_wrong_source a_file.Code source (fault.Code f) (fault.Code g) h k =
    ap (λ x. fault.Code x) (one_wrong_code source f g h k)
one_wrong_source a_file.Code source (fault.Code f) (fault.Module g) h k = absurd k
one_wrong_source a_file.Code source (fault.Code f) fault.OutOfMemory h k = absurd k
one_wrong_source a_file.Code source (fault.Module f) g h k = absurd h
one_wrong_source a_file.Code source fault.OutOfMemory g h k = absurd h

never_both_source : (kind : FileKind) (source : List ℕ) (f : SourceFault) → IsSource kind source →
    IsWrongSource kind source f → ⊥
never_both_source a_file.Module source (fault.Module f) right h =
    one_reading.never_both source right.0 f right.1 h
never_both_source a_file.Module source (fault.Code f) right h = h
never_both_source a_file.Module source fault.OutOfMemory right h = h
never_both_source a_file.Code source (fault.Code f) right h =
    never_wrong_code source right.0 f right.1 h
never_both_source a_file.Code source (fault.Module f) right h = h
never_both_source a_file.Code source fault.OutOfMemory right h = h

source_refusal : (kind : FileKind) (source : List ℕ) (f : SourceFault) →
    IsWrongSource kind source f → IsRefusal (source_status f)
source_refusal a_file.Module source (fault.Module f) h = module_refusal source f h
source_refusal a_file.Module source (fault.Code f) h = absurd h
source_refusal a_file.Module source fault.OutOfMemory h = absurd h
source_refusal a_file.Code source (fault.Code f) h = code_refusal source f h
source_refusal a_file.Code source (fault.Module f) h = absurd h
source_refusal a_file.Code source fault.OutOfMemory h = absurd h

pub sources_are_a_kind : (kind : FileKind) → IsKind (source_kind kind)
sources_are_a_kind kind = record {
  one_wrong = one_wrong_source kind;
  never_both = never_both_source kind;
  refuses = source_refusal kind;
}

-- ---- a source that is too long

pub some_longer : (n : ℕ) → (source : List ℕ) × (n < length source)
some_longer n =
    (replicate (n + 1) 0, let same = length-replicate {A = ℕ} (n + 1) 0 in omega (arith, same))

-- there is a text that FILE may hold and that is longer
pub longer : (n : ℕ) (file : Option (Option (List ℕ))) → IsLonger file n →
    (source : List ℕ) × Holds file source × (n < length source)
longer n None h = let x = some_longer n in (x.0, tt, x.1)
longer n (Some None) h = absurd h
longer n (Some (Some bytes)) h = (bytes, refl, h)

over_wrong : (kind : FileKind) (source : List ℕ) → most_source kind < length source →
    IsWrongSource kind source (over_fault kind)
over_wrong a_file.Module source long = inl (long, refl)
over_wrong a_file.Code source long = long

pub over_is_wrong : (kind : FileKind) (source : List ℕ) (f : SourceFault) → f ≡ over_fault kind →
    most_source kind < length source → IsWrongSource kind source f
over_is_wrong kind source f told long =
    subst (IsWrongSource kind source) (sym told) (over_wrong kind source long)

-- and a source is refused for that
pub too_long : (kind : FileKind) (most : ℕ) (f : SourceFault) → most ≡ most_source kind →
    f ≡ over_fault kind → (file : Option (Option (List ℕ))) → IsLonger file most →
    (source : List ℕ) × Holds file source × IsWrongSource kind source f
too_long kind most f is told file h =
    let x = longer most file h in
    let long : most_source kind < length x.0 =
    subst (λ (n : ℕ). n < length x.0) is x.2 in
    (x.0, x.1, over_is_wrong kind x.0 f told long)
