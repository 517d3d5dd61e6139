-- Images come back from their texts, and texts from their images.
use Rattle.std.proofs.Common.{◌≡◌, ◌≤◌, refl, sym, ap, ◌∙◌, subst, ℕ, List, [], ◌∷◌, length}
use Rattle.std.specs.Prelude.{Ok}
use Rattle.ia_code.specs.declared.image.Image.{Image}
use Rattle.ia_code.specs.Image.{IsImage, image_bytes_of}
use Rattle.ia_code.specs.declared.ins.Ins.{Ins}
use Rattle.ia_code.specs.Listing.{IsListing}
use Rattle.ia_list.specs.ListText.{IsListText, text_of, max_text_bytes}
use Rattle.ia_list.proofs.TextsOnce.{listed_assembles, one_text}
use Rattle.pra_tool.specs.declared.compiler.Made.{Made}
use Rattle.pra_words.specs.declared.words.FileKind.{FileKind}
use Rattle.pra_words.specs.Words.{Asked}
use Rattle.pra_tool.specs.declared.status.Status.{Status}
use Rattle.pra_tool.specs.Compiling.{MadeOf}
use Rattle.pra_tool.specs.Writes.{FileText, Writes, one_file, image_file}
use Rattle.pra_tool.specs.Listings.{IsListed, ListMakes, IsTextOf}
use Rattle.pra_tool.specs.Clause.{AsmMakes}
use Rattle.pra_tool.proofs.ListingModes.{same_image}

-- the image whose text is assembled
image_back : (a b : Image) (text : List ℕ) → IsImage a → IsListText a text → IsTextOf text b →
    b ≡ a
image_back a b text valid listed is =
    let same = listed_assembles a text valid listed is.0 (Ok b) (is.1, is.2)
    (λ e. cc) in cc

-- it is the one that is written
written_back : (asked : Asked) (a : Image) (text : List ℕ) (w : Writes) (s : Status) → IsImage a →
    IsListText a text → AsmMakes asked text [] w s → w.files ≡ image_file asked.image a
written_back asked a text w s valid listed made =
    ap (λ (x : Writes). x.files) made.writes
    ∙ ap (image_file asked.image) (image_back a made.image text valid listed made.listed)

pub file_back : (asked : Asked) (file : List ℕ) (v w : Writes) (s t : Status) →
    ListMakes file [] v s → AsmMakes asked v.out [] w t → w.files ≡ one_file asked.image file
file_back asked file v w s t list made =
    let image = list.listed.image in
    let out : list.text ≡ v.out = sym (ap (λ (x : Writes). x.out) list.writes) in
    written_back asked image v.out w t list.listed.held.0
    (subst (IsListText image) out list.listed.listed) made
    ∙ ap (one_file asked.image) (sym list.listed.held.1)

bytes_in : List FileText → List ℕ
bytes_in [] = []
bytes_in (f ∷ fs) = f.bytes

pub same_bytes : (name other a b : List ℕ) → one_file name a ≡ one_file other b → a ≡ b
unfolding bytes_in
same_bytes name other a b e = ap bytes_in e

pub text_back : (asked : Asked) (text file : List ℕ) (v w : Writes) (s t : Status) →
    AsmMakes asked text [] v s → v.files ≡ one_file asked.image file → ListMakes file [] w t →
    w.out ≡ text
text_back asked text file v w s t made files list =
    let image = list.listed.image in
    let bytes : file ≡ image_bytes_of made.image =
    same_bytes asked.image asked.image file (image_bytes_of made.image)
    (sym files ∙ ap (λ (x : Writes). x.files) made.writes) in
    let same : made.image ≡ image = same_image file made.image image
    (made.listed.1, bytes) list.listed.held in
    ap (λ (x : Writes). x.out) list.writes
    ∙ one_text image list.text text list.listed.listed
    (subst (λ (i : Image). IsListText i text) same made.listed.2)

-- ---- what a source is compiled to

pub compiled_is_listed : (kind : FileKind) (wanted : Asked) (source : List ℕ) (made : Made) →
    MadeOf kind wanted source made →
    (text : List ℕ) × IsListed (image_bytes_of made.compiled.image) text ×
    (length text ≤ max_text_bytes → (asked : Asked) (w : Writes) (s : Status) →
    AsmMakes asked text [] w s →
    w.files ≡ one_file asked.image (image_bytes_of made.compiled.image))
compiled_is_listed kind wanted source made made_of =
    by_listing _ made_of.built.assembled.listing
  where
    by_listing : (ins : List Ins) → IsListing made.compiled.image.code ins →
        (text : List ℕ) × IsListed (image_bytes_of made.compiled.image) text ×
        (length text ≤ max_text_bytes → (asked : Asked) (w : Writes) (s : Status) →
        AsmMakes asked text [] w s →
        w.files ≡ one_file asked.image (image_bytes_of made.compiled.image))
    by_listing ins listing =
        let image = made.compiled.image in
        let valid = made_of.built.valid in
        let listed : IsListText image (text_of image.data_words ins) =
        record { ins = ins; listing = listing; written = refl } in (
          text_of image.data_words ins,
          record { image = image; held = (valid, refl); listed = listed },
          λ few asked w s again. written_back asked image (text_of image.data_words ins) w s
              valid listed again,
        )
