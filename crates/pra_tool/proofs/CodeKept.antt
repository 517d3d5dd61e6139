-- What is made of code follows the code that was read, and keeps it.
use Rattle.std.proofs.Common.{◌≡◌, ℕ, ℤ, true, List, Ok, ap, subst, ◌∙◌}
use Rattle.cert_form.specs.declared.codes.CodeFile.{CodeFile}
use Rattle.cert_form.specs.CodeWhole.{ReadsCode}
use Rattle.pra_compile.specs.declared.output.Compiled.{Compiled}
use Rattle.pra_compile.specs.Compiled.{IsBuiltBy, granted, codes_named, codes_of, frames_of}
use Rattle.pra_compile.specs.Compiled.{module_of}
use Rattle.pra_compile.specs.Given.{given_by}
use Rattle.pra_compile.specs.Leaving.{Leaving}
use Rattle.pra_follow.specs.Codes.{FollowsUntilStuck}
use Rattle.pra_follow.specs.Follows.{DoesAsMeant}
use Rattle.pra_words.specs.declared.words.FileKind.TheVariants as a_file
use Rattle.pra_words.specs.Words.{Asked}
use Rattle.vc_stmt.specs.Completes.{are_words}
use Rattle.pra_tool.specs.declared.compiler.Made.{Made}
use Rattle.pra_tool.specs.declared.status.Status.{Status}
use Rattle.pra_tool.specs.Applied.{ApplyMakes, routes_in}
use Rattle.pra_tool.specs.Clause.{RunMakes, CompileMakes}
use Rattle.pra_tool.specs.Compiling.{MadeOf, wanted_by}
use Rattle.pra_tool.specs.Writes.{Writes}
use Rattle.pra_tool.proofs.InputWords.{numbers_are_words}
use Rattle.pra_tool.proofs.Sources.{meant_by}
use Rattle.pra_tool.proofs.SourceKinds.{one_file_read}

-- what is built of one file is built of another one that is the same
module _ (own file : CodeFile) (same : own ≡ file) (leaves : Leaving) (compiled : Compiled)
    (built : IsBuiltBy own leaves compiled) where
  follows : (words : List ℤ) → are_words words ≡ true →
      FollowsUntilStuck (module_of file) (frames_of compiled.procs) compiled.image words
  follows words are = subst (λ (f : CodeFile).
      FollowsUntilStuck (module_of f) (frames_of compiled.procs) compiled.image words) same
      (built.does words are)

  kept : (codes_of compiled.procs ≡ codes_named file.procs)
      × (compiled.image.data_words ≡ file.data_words)
  kept = (
    built.placement.codes ∙ ap (λ (f : CodeFile). codes_named f.procs) same,
    built.data_words ∙ ap (λ (f : CodeFile). f.data_words) same,
  )

-- the code that was made is that of the file that is read
same_code : (asked : Asked) (source : List ℕ) (made : Made) (file : CodeFile) →
    ReadsCode source (Ok file) → (is : MadeOf a_file.Code asked source made) →
    is.sourced.file ≡ file
same_code asked source made file reads is =
    one_file_read source is.sourced.file file is.is.text.read reads

applied_code : (asked : Asked) (source input : List ℕ) (w : Writes) (s : Status)
    (file : CodeFile) → ReadsCode source (Ok file) →
    (made : ApplyMakes a_file.Code asked source input w s) → made.sourced.file ≡ file
applied_code asked source input w s file reads made =
    one_file_read source made.sourced.file file made.is.text.read reads

pub run_follows : (asked : Asked) (source input : List ℕ) (w : Writes) (s : Status)
    (file : CodeFile) → ReadsCode source (Ok file) →
    (made : RunMakes a_file.Code asked source input w s) →
    FollowsUntilStuck (module_of file) (frames_of made.made.compiled.procs)
    made.made.compiled.image made.numbers
run_follows asked source input w s file reads made =
    follows made.made_of.sourced.file file
    (same_code asked source made.made file reads made.made_of) (granted (wanted_by asked))
    made.made.compiled
    made.made_of.built made.numbers (numbers_are_words input made.numbers made.has.1)

pub compiled_follows : (asked : Asked) (source input : List ℕ) (w : Writes) (s : Status)
    (file : CodeFile) (words : List ℤ) → ReadsCode source (Ok file) →
    (made : CompileMakes a_file.Code asked source input w s) → are_words words ≡ true →
    FollowsUntilStuck (module_of file) (frames_of made.made.compiled.procs)
    made.made.compiled.image words
compiled_follows asked source input w s file words reads made are =
    follows made.made_of.sourced.file file
    (same_code asked source made.made file reads made.made_of) (granted (wanted_by asked))
    made.made.compiled
    made.made_of.built words are

pub applied_follows : (asked : Asked) (source input : List ℕ) (w : Writes) (s : Status)
    (file : CodeFile) (words : List ℤ) → ReadsCode source (Ok file) →
    (made : ApplyMakes a_file.Code asked source input w s) → are_words words ≡ true →
    FollowsUntilStuck (module_of file) (frames_of made.compiled.procs) made.compiled.image words
applied_follows asked source input w s file words reads made are =
    follows made.sourced.file file (applied_code asked source input w s file reads made)
    (given_by (routes_in made.certificate)) made.compiled made.applied.built words are

pub made_kept : (asked : Asked) (source : List ℕ) (made : Made) (file : CodeFile) →
    ReadsCode source (Ok file) → MadeOf a_file.Code asked source made →
    (codes_of made.compiled.procs ≡ codes_named file.procs)
    × (made.compiled.image.data_words ≡ file.data_words)
made_kept asked source made file reads is =
    kept is.sourced.file file (same_code asked source made file reads is)
    (granted (wanted_by asked)) made.compiled is.built

pub applied_kept : (asked : Asked) (source input : List ℕ) (w : Writes) (s : Status)
    (file : CodeFile) → ReadsCode source (Ok file) →
    (made : ApplyMakes a_file.Code asked source input w s) →
    (codes_of made.compiled.procs ≡ codes_named file.procs)
    × (made.compiled.image.data_words ≡ file.data_words)
applied_kept asked source input w s file reads made =
    kept made.sourced.file file (applied_code asked source input w s file reads made)
    (given_by (routes_in made.certificate)) made.compiled made.applied.built

-- ---- and of a module

pub applied_meant : (asked : Asked) (source input : List ℕ) (w : Writes) (s : Status)
    (made : ApplyMakes a_file.Module asked source input w s) (words : List ℤ) →
    are_words words ≡ true →
    DoesAsMeant made.is.text.checked (frames_of made.compiled.procs) made.compiled.image words
applied_meant asked source input w s made words are =
    (meant_by source made.sourced made.is (given_by (routes_in made.certificate)) made.compiled
    made.applied.built).does words are
