-- Code that is read of a source: it can run where none of its procedures breaks a rule.
use Rattle.std.proofs.Common.{◌≡◌, ◌<◌, ◌≤◌, ◌+◌, ◌⊎◌, inl, inr, ⊎_elim, ℕ, List, [], ◌∷◌, length, Some}
use Rattle.std.proofs.Common.{None, Ok, Option, Bool, true, false, refl, sym, ap, subst, ◌∙◌, arith}
use Rattle.std.specs.Prelude.{slice_get}
use Rattle.std.specs.Option.{option_map, is_some, MatchOption}
use Rattle.std.proofs.lemmas.Bool.{cases_lt}
use Rattle.std.proofs.lemmas.List.{length-map}
use Rattle.std.proofs.lemmas.Option.{slice_get-map, slice_get_within}
use Rattle.pra_list.proofs.Options.{some_same}
use Rattle.pra_base.specs.declared.code.VProc.{VProc}
use Rattle.pra_base.specs.Valid.{TakesArgs, counts_of}
use Rattle.cert_form.specs.declared.codes.CodeFile.{CodeFile}
use Rattle.cert_form.specs.declared.codes.NamedCode.{NamedCode}
use Rattle.cert_form.specs.CodeWhole.{BodyTakesNone, IsWholeCode, ReadsCode}
use Rattle.ob_syntax.specs.declared.checked.Checked.{Checked}
use Rattle.pra_compile.specs.Compiled.{IsRunnable, codes_named}
use Rattle.pra_compile.specs.Tidied.{IsCodeOfModule}
use Rattle.pra_report.specs.Report.{most_procs}
use Rattle.vc_valid.specs.Listed.{HasCode}
use Rattle.pra_tool.specs.declared.source.CodeWrong.TheVariants as wrong
use Rattle.pra_tool.specs.declared.source.Meaning.TheVariants as meant
use Rattle.pra_tool.specs.declared.source.Sourced.{Sourced}
use Rattle.pra_tool.specs.Sources.{most_code, HaveCodeUpTo, BreaksFirst, IsNoCode, IsModuleOf}
use Rattle.pra_tool.specs.Sources.{IsModuleSource, IsCodeSource}

-- ---- codes one by one

less_or_last : (q n : ℕ) → q < n + 1 → (q ≡ n) ⊎ (q < n)
less_or_last q n lt =
    ⊎_elim (λ less. inr less) (λ le. inl (omega (arith, le, lt))) (cases_lt q n)

-- one more code is what it has to be
pub have_next : (codes : List VProc) (n : ℕ) (code : VProc) → HaveCodeUpTo codes n →
    slice_get codes n ≡ Some code → HasCode (counts_of codes) n code → HaveCodeUpTo codes (n + 1)
have_next codes n code have at has q other lt there = ⊎_elim
    (λ e. subst (λ (p : ℕ). HasCode (counts_of codes) p other) (sym e)
    (subst (λ (c : VProc). HasCode (counts_of codes) n c)
    (some_same code other (sym at ∙ ap (λ (p : ℕ). slice_get codes p) (sym e) ∙ there)) has))
    (λ less. have q other less there)
    (less_or_last q n lt)

pub named_at : (procs : List NamedCode) (n : ℕ) (named : NamedCode) →
    slice_get procs n ≡ Some named → slice_get (codes_named procs) n ≡ Some named.code
named_at procs n named at = slice_get-map (λ (x : NamedCode). x.code) procs n
    ∙ ap (option_map (λ (x : NamedCode). x.code)) at

-- what is said where nothing is found, and beside what is found
pub said_of_none : {A : Type 0} (P : Type 0) (Q : A → Type 0) (found : Option A) →
    is_some found ≡ false → MatchOption found P Q → P
said_of_none P Q None e said = said
said_of_none P Q (Some x) e said = absurd (true_false e)
  where
    true_false : true ≡ false → ⊥
    true_false e = cc

pub said_of_some : {A : Type 0} (P R : Type 0) (Q : A → Type 0) (found : Option A) →
    is_some found ≡ true → MatchOption found P (λ x. R × Q x) → R
said_of_some P R Q None e said = absurd (false_true e)
  where
    false_true : false ≡ true → ⊥
    false_true e = cc
said_of_some P R Q (Some x) e said = said.0

pub breaks_next : (codes : List VProc) (n : ℕ) (code : VProc) → HaveCodeUpTo codes n →
    slice_get codes n ≡ Some code → (HasCode (counts_of codes) n code → ⊥) → BreaksFirst codes n
breaks_next codes n code have at broken =
    record { before = have; code = code; there = at; broken = broken }

-- ---- code that can run

takes_none : (procs : List NamedCode) → 0 < length procs → BodyTakesNone procs →
    TakesArgs (counts_of (codes_named procs)) 0 0
takes_none [] some none = absurd (omega (arith, some))
takes_none (body ∷ procs) some none = ap Some none

pub code_runs : (file : CodeFile) → IsWholeCode file → length file.procs ≤ most_procs →
    HaveCodeUpTo (codes_named file.procs) (length file.procs) → IsRunnable file
code_runs file whole few have = record {
  each = λ p code at.
      let lt = slice_get_within (codes_named file.procs) p code at in
      let count = length-map file.procs (λ (n : NamedCode). n.code) in
      have p code (omega (arith, lt, count)) at;
  body = takes_none file.procs whole.file.some whole.file.body;
  few = few;
  few_data = whole.file.words;
}

-- ---- what a source is read as

module _ (source : List ℕ) (file : CodeFile) (few : length source ≤ most_code)
    (read : ReadsCode source (Ok file)) where
  pub code_source : length file.procs ≤ most_procs →
      HaveCodeUpTo (codes_named file.procs) (length file.procs) →
      IsCodeSource source (record { meaning = meant.Code; file = file })
  code_source few_procs have = record {
    meaning = refl;
    text = record { few = few; read = read; runnable = code_runs file read.1 few_procs have };
  }

  pub too_many : most_procs < length file.procs →
      IsNoCode source (wrong.Procedures (length file.procs))
  too_many many =
      record { file = file; few = few; read = read; count_is = refl; many = many }

  pub is_broken : (p : ℕ) → length file.procs ≤ most_procs →
      BreaksFirst (codes_named file.procs) p → IsNoCode source (wrong.Broken p)
  is_broken p few_procs first =
      record { file = file; few = few; read = read; few_procs = few_procs; first = first }

pub module_source : (source : List ℕ) (checked : Checked) (file : CodeFile) →
    IsModuleOf source checked → IsCodeOfModule checked file →
    IsModuleSource source (record { meaning = meant.Module checked; file = file })
module_source source checked file is of = record {
  text = is.text;
  read = is.read;
  meaning = ap meant.Module is.is;
  code = subst (λ (p : Checked). IsCodeOfModule p file) is.is of;
}
