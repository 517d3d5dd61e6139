-- The ends of a call that has listed FILE or assembled it.
use Rattle.std.proofs.Common.{◌≡◌, ◌≤◌, refl, sym, subst, ℕ, List, [], ◌∷◌, ◌++◌, length, ap, arith}
use Rattle.std.proofs.lemmas.List.{length-append}
use Rattle.ia_code.specs.declared.image.Image.{Image}
use Rattle.ia_list.specs.ListText.{max_text_bytes}
use Rattle.pra_words.specs.declared.words.Mode.{Mode as Word}
use Rattle.pra_words.specs.Words.{Asked}
use Rattle.pra_io.specs.Contents.{Holds, IsLonger}
use Rattle.pra_tool.specs.declared.listing.Unlisted.TheVariants as unlisted
use Rattle.pra_tool.specs.declared.listing.Unassembled.TheVariants as unassembled
use Rattle.std.specs.declared.option.Option.{Option}
use Rattle.pra_tool.specs.declared.status.Status.{Status}
use Rattle.pra_tool.specs.declared.status.Status.TheVariants.{Ended}
use Rattle.pra_tool.specs.Outside.{Seen}
use Rattle.pra_tool.specs.Writes.{FileText, Writes, NamesDiffer, IsOther, names, text_alone, Wrote}
use Rattle.pra_tool.specs.Modes.{Answers}
use Rattle.pra_tool.specs.Ends.{Ends}
use Rattle.pra_tool.specs.Ends as ends
use Rattle.pra_tool.specs.Listings.{IsListed, ListMakes, IsTextOf, IsUnlisted, IsUnassembled}
use Rattle.pra_tool.specs.Listings.{IsUnloaded}
use Rattle.pra_tool.specs.Listings.{most_image}
use Rattle.pra_tool.specs.Clause.{AsmMakes, asm_writes, listing, assembling, mode_by}
use Rattle.pra_tool.proofs.SourceKinds.{longer}

-- what `list` made was written, as far as writing went
pub list_ends : (file text : List ℕ) (w : Writes) (s : Status) (old new : Seen) (result : Status) →
    new.input ≡ old.input → IsListed file text → length text ≤ max_text_bytes →
    w ≡ text_alone text → s ≡ Ended → Wrote w s old new result → Ends listing file old new result
list_ends file text w s old new result alone listed few is done wrote =
    ends.wrote [] refl alone w s
    (record {
      text = text;
      listed = listed;
      few = few;
      no_input = refl;
      writes = is;
      done = done;
    }) wrote

-- and so was what `asm` made
pub asm_ends : (asked : Asked) (image : Image) (w : Writes) (s : Status) (old new : Seen)
    (result : Status) → new.input ≡ old.input → w ≡ asm_writes asked image → s ≡ Ended →
    Wrote w s old new result → (text : List ℕ) → IsTextOf text image →
    Ends (assembling asked) text old new result
asm_ends asked image w s old new result alone is done wrote text listed =
    ends.wrote [] refl alone w s
    (record { image = image; listed = listed; no_input = refl; writes = is; done = done }) wrote

pub list_names : (file input : List ℕ) (w : Writes) (s : Status) → ListMakes file input w s →
    names w.files ≡ []
list_names file input w s made = ap (λ (x : Writes). names x.files) made.writes

pub asm_names : (asked : Asked) (text input : List ℕ) (w : Writes) (s : Status) →
    AsmMakes asked text input w s → names w.files ≡ asked.image ∷ []
asm_names asked text input w s made = ap (λ (x : Writes). names x.files) made.writes

-- where no file is written, no two have one name
no_files : (before after : List FileText) (f : FileText) → [] ≡ before ++ f ∷ after →
    IsOther f.name before
no_files before after f e = absurd (
    let none = ap length e in
    let count = length-append before (f ∷ after) in omega (arith, none, count))

pub none_differ : (files : List FileText) → files ≡ [] → NamesDiffer files
none_differ files is = subst NamesDiffer (sym is) no_files

-- a file that is too long is refused for that
pub too_long_image : (file : Option (Option (List ℕ))) → IsLonger file most_image →
    (held : List ℕ) × Holds file held × IsUnlisted held unlisted.TooLong
too_long_image file h = longer most_image file h

pub too_long_to_run : (file : Option (Option (List ℕ))) → IsLonger file most_image →
    (held : List ℕ) × Holds file held × IsUnloaded held unlisted.TooLong
too_long_to_run file h = longer most_image file h

pub too_long_text : (file : Option (Option (List ℕ))) → IsLonger file max_text_bytes →
    (held : List ℕ) × Holds file held × IsUnassembled held unassembled.TooLong
too_long_text file h = longer max_text_bytes file h

-- the mode that is asked for is the one of this word
pub answers_by : (mode : Word) (asked : Asked) (file : List ℕ) (old new : Seen) (s : Status) →
    asked.mode ≡ mode → Answers (mode_by mode asked) file old new s →
    Answers (mode_by asked.mode asked) file old new s
answers_by mode asked file old new s is a =
    subst (λ (m : Word). Answers (mode_by m asked) file old new s) (sym is) a
