-- `list` and `asm` are modes.
use Rattle.std.proofs.Common.{◌≡◌, ◌≢◌, ◌≤◌, refl, sym, ap, ap₂, ◌∙◌, subst, ℕ, List, length, arith}
use Rattle.std.specs.Prelude.{Ok, Err}
use Rattle.pra_list.proofs.Options.{none_some, some_same}
use Rattle.ia_code.specs.declared.image.Image.{Image}
use Rattle.ia_code.proofs.OneImage.{one_image}
use Rattle.ia_asm.specs.declared.image_file.Field.{Field}
use Rattle.ia_asm.specs.declared.image_file.ImageFault.TheVariants.{BadImage}
use Rattle.ia_asm.specs.Rules.{broken, place_of, IsFault, IsFileOf}
use Rattle.ia_asm.proofs.ImageFile.{broken-image_bytes_of}
use Rattle.ia_list.specs.declared.listing.ListFault.{ListFault}
use Rattle.ia_list.specs.declared.listing.ListFault.TheVariants as list
use Rattle.ia_list.specs.declared.assembly.AsmFault.TheVariants as asm
use Rattle.ia_list.specs.ListText.{IsListText, StopsAt, IsListFault}
use Rattle.ia_list.proofs.TextsOnce.{one_answer, one_text, text_or_stop, one_stop}
use Rattle.pra_words.specs.Words.{Asked}
use Rattle.pra_tool.specs.declared.listing.Unlisted.{Unlisted}
use Rattle.pra_tool.specs.declared.listing.Unlisted.TheVariants as unlisted
use Rattle.pra_tool.specs.declared.listing.Unassembled.{Unassembled}
use Rattle.pra_tool.specs.declared.listing.Unassembled.TheVariants as unassembled
use Rattle.pra_tool.specs.Status.{IsDone, IsRefusal}
use Rattle.pra_tool.specs.Writes.{Writes, names}
use Rattle.pra_tool.specs.Modes.{IsKind, IsMode}
use Rattle.pra_tool.specs.Listings.{most_image, IsListed, StopsIn, IsUnlisted, unlisted_by}
use Rattle.pra_tool.specs.Listings.{unlisted_status, images, IsUnassembled, unassembled_status}
use Rattle.pra_tool.specs.Listings.{IsUnloaded, loadable, listings}
use Rattle.pra_tool.specs.Clause.{listing, assembling}
use Rattle.pra_tool.proofs.CompilingModes.{inputs_are_a_kind, not_read}

-- ---- images

short_file : (file : List ℕ) (image : Image) → IsFileOf file image → length file ≤ most_image
short_file file image held =
    let all = ap length held.1 in
    let code = held.0.code in omega (arith, all, code)

pub same_image : (file : List ℕ) (a b : Image) → IsFileOf file a → IsFileOf file b → a ≡ b
same_image file a b p q = one_image a b p.0 q.0 (sym p.1 ∙ q.1)

not_broken : (file : List ℕ) (image : Image) (field : Field) (place : ℕ) → IsFileOf file image →
    IsFault file (BadImage field place) → ⊥
not_broken file image field place held fault =
    none_some (sym (ap broken held.1 ∙ broken-image_bytes_of image held.0) ∙ fault.0)

one_place : (file : List ℕ) (p q : ℕ) → StopsIn file p → StopsIn file q → p ≡ q
one_place file p q s t =
    let same = same_image file t.image s.image t.held s.held in
    one_stop s.image.code p q s.stops (subst (λ (i : Image). StopsAt i.code q) same t.stops)

pub one_listing : (file a b : List ℕ) → IsListed file a → IsListed file b → a ≡ b
one_listing file a b s t =
    let same = same_image file t.image s.image t.held s.held in
    one_text s.image a b s.listed (subst (λ (i : Image). IsListText i b) same t.listed)

not_both : (file text : List ℕ) (place : ℕ) → IsListed file text → StopsIn file place → ⊥
not_both file text place s t =
    let same = same_image file t.image s.image t.held s.held in
    text_or_stop s.image text place s.listed
    (subst (λ (i : Image). StopsAt i.code place) same t.stops)

one_broken : (file : List ℕ) (field other : Field) (place at : ℕ) →
    IsFault file (BadImage field place) → IsFault file (BadImage other at) →
    unlisted.Broken field place ≡ unlisted.Broken other at
one_broken file field other place at h k =
    let same : field ≡ other = some_same field other (sym h.0 ∙ k.0) in
    ap₂ (λ f p. unlisted.Broken f p) same (h.1 ∙ ap place_of same ∙ sym k.1)

one_unlisted : (file : List ℕ) (f g : Unlisted) → IsUnlisted file f → IsUnlisted file g → f ≡ g
one_unlisted file unlisted.TooLong unlisted.TooLong h k = refl
one_unlisted file unlisted.TooLong (unlisted.Broken field place) h k =
    absurd (let le = k.0 in omega (arith, h, le))
one_unlisted file unlisted.TooLong (unlisted.Code place) h k =
    absurd (let le = short_file file k.image k.held in omega (arith, h, le))
one_unlisted file unlisted.TooLong (unlisted.LongText count) h k =
    absurd (let le = short_file file k.listed.image k.listed.held in omega (arith, h, le))
one_unlisted file unlisted.TooLong unlisted.OutOfMemory h k = absurd k
one_unlisted file (unlisted.Broken field place) unlisted.TooLong h k =
    absurd (let le = h.0 in omega (arith, k, le))
one_unlisted file (unlisted.Broken field place) (unlisted.Broken other at) h k =
    one_broken file field other place at h.1 k.1
one_unlisted file (unlisted.Broken field place) (unlisted.Code at) h k =
    absurd (not_broken file k.image field place k.held h.1)
one_unlisted file (unlisted.Broken field place) (unlisted.LongText count) h k =
    absurd (not_broken file k.listed.image field place k.listed.held h.1)
one_unlisted file (unlisted.Broken field place) unlisted.OutOfMemory h k = absurd k
one_unlisted file (unlisted.Code place) unlisted.TooLong h k =
    absurd (let le = short_file file h.image h.held in omega (arith, k, le))
one_unlisted file (unlisted.Code place) (unlisted.Broken field at) h k =
    absurd (not_broken file h.image field at h.held k.1)
one_unlisted file (unlisted.Code place) (unlisted.Code at) h k =
    ap (λ p. unlisted.Code p) (one_place file place at h k)
one_unlisted file (unlisted.Code place) (unlisted.LongText count) h k =
    absurd (not_both file k.text place k.listed h)
one_unlisted file (unlisted.Code place) unlisted.OutOfMemory h k = absurd k
one_unlisted file (unlisted.LongText count) unlisted.TooLong h k =
    absurd (let le = short_file file h.listed.image h.listed.held in omega (arith, k, le))
one_unlisted file (unlisted.LongText count) (unlisted.Broken field place) h k =
    absurd (not_broken file h.listed.image field place h.listed.held k.1)
one_unlisted file (unlisted.LongText count) (unlisted.Code place) h k =
    absurd (not_both file h.text place h.listed k)
one_unlisted file (unlisted.LongText count) (unlisted.LongText other) h k =
    ap (λ n. unlisted.LongText n)
    (h.count_is ∙ ap length (one_listing file h.text k.text h.listed k.listed) ∙ sym k.count_is)
one_unlisted file (unlisted.LongText count) unlisted.OutOfMemory h k = absurd k
one_unlisted file unlisted.OutOfMemory g h k = absurd h

never_unlisted : (file : List ℕ) (f : Unlisted) → images.IsRight file → IsUnlisted file f → ⊥
never_unlisted file unlisted.TooLong right h =
    let listed = right.1 in
    let le = short_file file listed.image listed.held in omega (arith, h, le)
never_unlisted file (unlisted.Broken field place) right h =
    let listed = right.1 in not_broken file listed.image field place listed.held h.1
never_unlisted file (unlisted.Code place) right h = not_both file right.0 place right.1 h
never_unlisted file (unlisted.LongText count) right h =
    let same = ap length (one_listing file h.text right.0 h.listed right.1) in
    let few = right.2 in
    let count = h.count_is in
    let over = h.over in omega (arith, same, few, count, over)
never_unlisted file unlisted.OutOfMemory right h = h

unlisted_refusal : (file : List ℕ) (f : Unlisted) → IsUnlisted file f →
    IsRefusal (unlisted_status f)
unlisted_refusal file unlisted.OutOfMemory h = absurd h
unlisted_refusal file x h = tt

images_are_a_kind : IsKind images
images_are_a_kind = record {
  one_wrong = one_unlisted;
  never_both = never_unlisted;
  refuses = unlisted_refusal;
}

-- ---- images that run

pub unloaded_is_unlisted : (file : List ℕ) (f : Unlisted) → IsUnloaded file f → IsUnlisted file f
unloaded_is_unlisted file unlisted.TooLong h = h
unloaded_is_unlisted file (unlisted.Broken field place) h = h
unloaded_is_unlisted file x h = absurd h

never_unloaded : (file : List ℕ) (f : Unlisted) → loadable.IsRight file → IsUnloaded file f → ⊥
never_unloaded file unlisted.TooLong right h =
    let le = short_file file right.0 right.1 in omega (arith, h, le)
never_unloaded file (unlisted.Broken field place) right h =
    not_broken file right.0 field place right.1 h.1
never_unloaded file x right h = h

pub loadable_is_a_kind : IsKind loadable
loadable_is_a_kind = record {
  one_wrong = λ file f g h k. one_unlisted file f g (unloaded_is_unlisted file f h)
      (unloaded_is_unlisted file g k);
  never_both = never_unloaded;
  refuses = λ file f h. unlisted_refusal file f (unloaded_is_unlisted file f h);
}

-- ---- the mode that lists

pub listing_is_a_mode : IsMode listing
listing_is_a_mode = record {
  source = images_are_a_kind;
  input = inputs_are_a_kind;
  right = λ file input w s made.
      ((made.text, made.listed, made.few), not_read input made.no_input);
  done = λ file input w s made. subst IsDone (sym made.done) tt;
  right_then = λ source input line s r. absurd r;
  refuses = λ source input line s r. absurd r;
  writes = λ file input w s made. ap (λ (x : Writes). names x.files) made.writes;
}

-- why an image has no text, told of its file
pub no_text : (file : List ℕ) (image : Image) (fault : ListFault) → IsFileOf file image →
    IsListFault image fault → unlisted_by fault ≢ unlisted.OutOfMemory →
    IsUnlisted file (unlisted_by fault)
no_text file image (list.NotInSubset place) held stops other =
    record { image = image; held = held; stops = stops }
no_text file image list.OutOfMemory held stops other = absurd (other refl)

-- ---- texts

line_once : (text : List ℕ) (m n : ℕ) → IsUnassembled text (unassembled.Line m) →
    IsUnassembled text (unassembled.Line n) → unassembled.Line m ≡ unassembled.Line n
line_once text m n h k =
    let same = one_answer text h.0 (Err (asm.BadLine m)) (Err (asm.BadLine n)) h.1 k.1
    (λ e. cc) (λ e. cc) in cc

line_or_empty : (text : List ℕ) (n : ℕ) → IsUnassembled text (unassembled.Line n) →
    IsUnassembled text unassembled.Empty → ⊥
line_or_empty text n h k =
    let same = one_answer text h.0 (Err (asm.BadLine n)) (Err asm.Empty) h.1 k.1
    (λ e. cc) (λ e. cc) in cc

one_unassembled : (text : List ℕ) (f g : Unassembled) → IsUnassembled text f →
    IsUnassembled text g → f ≡ g
one_unassembled text unassembled.TooLong unassembled.TooLong h k = refl
one_unassembled text unassembled.TooLong (unassembled.Line n) h k =
    absurd (let le = k.0 in omega (arith, h, le))
one_unassembled text unassembled.TooLong unassembled.Empty h k =
    absurd (let le = k.0 in omega (arith, h, le))
one_unassembled text unassembled.TooLong unassembled.OutOfMemory h k = absurd k
one_unassembled text (unassembled.Line m) unassembled.TooLong h k =
    absurd (let le = h.0 in omega (arith, k, le))
one_unassembled text (unassembled.Line m) (unassembled.Line n) h k = line_once text m n h k
one_unassembled text (unassembled.Line m) unassembled.Empty h k =
    absurd (line_or_empty text m h k)
one_unassembled text (unassembled.Line m) unassembled.OutOfMemory h k = absurd k
one_unassembled text unassembled.Empty unassembled.TooLong h k =
    absurd (let le = h.0 in omega (arith, k, le))
one_unassembled text unassembled.Empty (unassembled.Line n) h k =
    absurd (line_or_empty text n k h)
one_unassembled text unassembled.Empty unassembled.Empty h k = refl
one_unassembled text unassembled.Empty unassembled.OutOfMemory h k = absurd k
one_unassembled text unassembled.OutOfMemory g h k = absurd h

never_unassembled : (text : List ℕ) (f : Unassembled) → listings.IsRight text →
    IsUnassembled text f → ⊥
never_unassembled text unassembled.TooLong right h =
    let le = right.1.0 in omega (arith, h, le)
never_unassembled text (unassembled.Line n) right h =
    let same = one_answer text h.0 (Ok right.0) (Err (asm.BadLine n)) (right.1.1, right.1.2) h.1
    (λ e. cc) (λ e. cc) in cc
never_unassembled text unassembled.Empty right h =
    let same = one_answer text h.0 (Ok right.0) (Err asm.Empty) (right.1.1, right.1.2) h.1
    (λ e. cc) (λ e. cc) in cc
never_unassembled text unassembled.OutOfMemory right h = h

unassembled_refusal : (text : List ℕ) (f : Unassembled) → IsUnassembled text f →
    IsRefusal (unassembled_status f)
unassembled_refusal text unassembled.OutOfMemory h = absurd h
unassembled_refusal text x h = tt

listings_are_a_kind : IsKind listings
listings_are_a_kind = record {
  one_wrong = one_unassembled;
  never_both = never_unassembled;
  refuses = unassembled_refusal;
}

pub assembling_is_a_mode : (asked : Asked) → IsMode (assembling asked)
assembling_is_a_mode asked = record {
  source = listings_are_a_kind;
  input = inputs_are_a_kind;
  right = λ text input w s made. ((made.image, made.listed), not_read input made.no_input);
  done = λ text input w s made. subst IsDone (sym made.done) tt;
  right_then = λ source input line s r. absurd r;
  refuses = λ source input line s r. absurd r;
  writes = λ text input w s made. ap (λ (x : Writes). names x.files) made.writes;
}
