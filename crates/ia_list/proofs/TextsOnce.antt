-- Some bytes have one answer, and an image has one.
use Rattle.std.proofs.Common.{◌≡◌, ℕ, zero, suc, ◌+◌, ◌-◌, ◌*◌, ◌≤◌, ◌<◌, List, [], ◌∷◌, ◌++◌}
use Rattle.std.proofs.Common.{length, take, drop, refl, sym, ap, ◌∙◌, subst, inl, inr, arith}
use Rattle.std.proofs.Common.{append_assoc, append-nil, length-append, length-take}
use Rattle.std.proofs.Common.{take-append-drop}
use Rattle.std.specs.Prelude.{◌≢◌, ◌⊎◌, Result, Ok, Err}
use Rattle.std.proofs.Math.Seq.{take-append_seam}
use Rattle.std.proofs.lemmas.Bool.{cases_lt}
use Rattle.ia_code.specs.declared.ins.Ins.{Ins}
use Rattle.ia_code.specs.declared.image.Image.{Image}
use Rattle.ia_code.specs.DecodeTable.{bytes_of, IsSound}
use Rattle.ia_code.specs.Reading.{instruction_at}
use Rattle.ia_code.specs.Listing.{bytes_of_all, AreSound}
use Rattle.ia_code.specs.Image.{IsImage}
use Rattle.ia_code.proofs.SpelledIsRead.{one_spelling_of}
use Rattle.ia_code.proofs.Listings.{sound_front, sound_behind, one_listing}
use Rattle.pra_list.proofs.Options.{some_same}
use Rattle.ia_list.specs.declared.assembly.AsmFault.{AsmFault}
use Rattle.ia_list.specs.declared.assembly.AsmFault.TheVariants as fault
use Rattle.ia_list.specs.ListText.{lines, text_of, IsListText, StopsAt, max_text_bytes, HasLines}
use Rattle.ia_list.specs.ListText.{HasMore, IsBadLine, IsEmptyText, Assembles}
use Rattle.ia_list.specs.Text.{data_line}
use Rattle.ia_list.proofs.LineSize.{lines_size, lines_some}
use Rattle.ia_list.proofs.LinesRead.{code_small, text_begins}
use Rattle.ia_list.proofs.TextsRead.{text-append}

made : List ℕ → ℕ → Image
made code words = record { code = code; data_words = words }

-- Fronts of some bytes.

-- with so many lines there are also fewer
fewer : (bytes : List ℕ) (m n : ℕ) (rest : List ℕ) → 1 ≤ m → m ≤ n → HasLines bytes n rest →
    (behind : List ℕ) × HasLines bytes m behind
fewer bytes m n rest some le h =
    let front = take (m - 1) h.ins in
    let back = drop (m - 1) h.ins in
    let whole : front ++ back ≡ h.ins = take-append-drop (m - 1) h.ins in (
      lines (length (bytes_of_all front)) back ++ rest,
      record {
        words = h.words;
        ins = front;
        few = h.few;
        sound = sound_front front back (subst AreSound (sym whole) h.sound);
        count_is = omega (arith, h.count_is, length-take (m - 1) h.ins);
        written =
            h.written ∙ ap (λ l. text_of h.words l ++ rest) (sym whole)
            ∙ ap (λ l. l ++ rest) (text-append h.words front back)
            ∙ append_assoc (text_of h.words front) (lines (length (bytes_of_all front)) back) rest;
      },
    )

-- the shorter of two fronts begins the longer one
module _ (bytes : List ℕ) (small : length bytes ≤ max_text_bytes) where
  fronts : (m n : ℕ) (a b : List ℕ) (f : HasLines bytes m a) (g : HasLines bytes n b) → m ≤ n →
      (f.words ≡ g.words) × (ks : List Ins) × (g.ins ≡ f.ins ++ ks)
      × (a ≡ lines (length (bytes_of_all f.ins)) ks ++ b)
  fronts m n a b f g le =
      let half = code_small f.words f.ins bytes a f.sound f.written in
      text_begins f.words g.words f.ins g.ins a b f.few g.few (omega arith) f.sound g.sound
      (omega (arith, f.count_is, g.count_is)) (sym f.written ∙ g.written)

  -- nothing stands behind a whole text
  no_more : (m n : ℕ) (b : List ℕ) → HasLines bytes m [] → HasLines bytes n b → m ≤ n →
      1 ≤ length b → ⊥
  no_more m n b f g le some =
      let s = fronts m n [] b f g le in
      omega (arith, ap length s.3, length-append (lines (length (bytes_of_all f.ins)) s.1) b)

  more_or_first : (n : ℕ) → IsBadLine bytes n →
      (n ≡ 1) ⊎ ((rest : List ℕ) × HasLines bytes (n - 1) rest × (1 ≤ length rest) × (2 ≤ n))
  more_or_first n h = by_before (n - 1) n refl h.counted h.before
    where
      by_before : (k n : ℕ) → n - 1 ≡ k → 1 ≤ n → HasMore bytes k →
          (n ≡ 1) ⊎ ((rest : List ℕ) × HasLines bytes (n - 1) rest × (1 ≤ length rest) × (2 ≤ n))
      by_before zero n e some h = inl (omega arith)
      by_before (suc k) n e some h = inr (
        h.0,
        subst (λ j. HasLines bytes j h.0) (sym e) h.1,
        h.2,
        omega arith,
      )

  -- the whole bytes are so many lines
  whole_bad : (m n : ℕ) → 1 ≤ m → HasLines bytes m [] → IsBadLine bytes n → ⊥
  whole_bad m n some f h =
      elim (cases_lt m n) as (λ _. ⊥) [
        | inl lt ↦ elim (more_or_first n h) as (λ _. ⊥) [
          | inl one ↦ omega (arith, lt, one, some)
          | inr more ↦ no_more m (n - 1) more.0 f more.1 (omega (arith, lt)) more.2
        ]
        | inr le ↦ let g = fewer bytes n m [] h.counted le f in h.bad g.0 g.1
      ]

  earlier_bad : (m n : ℕ) → IsBadLine bytes m → IsBadLine bytes n → m < n → ⊥
  earlier_bad m n f g lt =
      elim (more_or_first n g) as (λ _. ⊥) [
        | inl one ↦ omega (arith, one, lt, f.counted)
        | inr more ↦ let h = fewer bytes m (n - 1) more.0 f.counted (omega (arith, lt)) more.1 in
            f.bad h.0 h.1
      ]

  bad_same : (m n : ℕ) → IsBadLine bytes m → IsBadLine bytes n → m ≡ n
  bad_same m n f g =
      elim (cases_lt m n) as (λ _. m ≡ n) [
        | inl lt ↦ absurd (earlier_bad m n f g lt)
        | inr le ↦ elim (cases_lt n m) as (λ _. m ≡ n)
            [ inl lt ↦ absurd (earlier_bad n m g f lt) | inr ge ↦ omega (arith, le, ge) ]
      ]

  -- Whole texts.

  whole_text : (image : Image) → IsImage image → (t : IsListText image bytes) →
      HasLines bytes (length t.ins + 1) []
  whole_text image is t = record {
    words = image.data_words;
    ins = t.ins;
    few = is.data_words;
    sound = t.listing.sound;
    count_is = refl;
    written = t.written ∙ sym (append-nil (text_of image.data_words t.ins));
  }

  whole_first : IsEmptyText bytes → HasLines bytes 1 []
  whole_first e = record {
    words = e.0;
    ins = [];
    few = e.1;
    sound = tt;
    count_is = refl;
    written = e.2 ∙ sym (append-nil (data_line e.0)) ∙ sym (append-nil (text_of e.0 []));
  }

  some_ins : (image : Image) → IsImage image → (t : IsListText image bytes) → 1 ≤ length t.ins
  some_ins image is t = some t.ins (omega (arith, is.some_code, ap length t.listing.spelled))
    where
      some : (ins : List Ins) → 1 ≤ length (bytes_of_all ins) → 1 ≤ length ins
      some [] h = omega arith
      some (i ∷ ins) h = omega arith

  text_or_empty : (image : Image) → IsImage image → IsListText image bytes → IsEmptyText bytes → ⊥
  unfolding whole_text whole_first
  text_or_empty image is t e =
      let s = fronts 1 (length t.ins + 1) [] [] (whole_first e) (whole_text image is t)
      (omega arith) in
      let more : 1 ≤ length s.1 = omega (arith, some_ins image is t, ap length s.2) in
      omega (arith, more, ap length s.3, lines_some 0 s.1, length-append (lines 0 s.1) [])

  all_ins : (front js ks : List Ins) (place : ℕ) → js ≡ front ++ ks → [] ≡ lines place ks ++ [] →
      front ≡ js
  all_ins front js [] place e f = sym (append-nil front) ∙ sym e
  all_ins front js (k ∷ ks) place e f =
      absurd (omega (
        arith,
        ap length f,
        lines_some place (k ∷ ks),
        length-append (lines place (k ∷ ks)) [],
      ))

  -- of two images with this text the one with fewer instructions has all
  same_image : (a b : Image) → IsImage a → IsImage b →
      (t : IsListText a bytes) (u : IsListText b bytes) → length t.ins ≤ length u.ins → a ≡ b
  unfolding made whole_text
  same_image a b is js t u le =
      let s = fronts (length t.ins + 1) (length u.ins + 1) [] [] (whole_text a is t)
      (whole_text b js u) (omega (arith, le)) in
      let ins : t.ins ≡ u.ins = all_ins t.ins u.ins s.1 (length (bytes_of_all t.ins)) s.2 s.3 in
      ap (λ c. made c a.data_words) (t.listing.spelled ∙ ap bytes_of_all ins
      ∙ sym u.listing.spelled) ∙ ap (made b.code) s.0

  one_image : (a b : Image) → IsImage a → IsImage b → IsListText a bytes → IsListText b bytes →
      a ≡ b
  one_image a b is js t u =
      elim (cases_lt (length t.ins) (length u.ins)) as (λ _. a ≡ b) [
        | inl lt ↦ same_image a b is js t u (omega (arith, lt))
        | inr le ↦ sym (same_image b a js is u t le)
      ]

  -- some bytes have one answer, but for want of memory
  pub one_answer : (a b : Result Image AsmFault) → Assembles bytes a → Assembles bytes b →
      a ≢ Err fault.OutOfMemory → b ≢ Err fault.OutOfMemory → a ≡ b
  one_answer (Ok i) (Ok j) p q m n = ap Ok (one_image i j p.0 q.0 p.1 q.1)
  one_answer (Ok i) (Err (fault.BadLine k)) p q m n =
      absurd (whole_bad (length p.1.ins + 1) k (omega arith) (whole_text i p.0 p.1) q)
  one_answer (Ok i) (Err fault.Empty) p q m n = absurd (text_or_empty i p.0 p.1 q)
  one_answer (Err (fault.BadLine k)) (Ok j) p q m n =
      absurd (whole_bad (length q.1.ins + 1) k (omega arith) (whole_text j q.0 q.1) p)
  one_answer (Err (fault.BadLine k)) (Err (fault.BadLine l)) p q m n =
      ap (λ x. Err (fault.BadLine x)) (bad_same k l p q)
  one_answer (Err (fault.BadLine k)) (Err fault.Empty) p q m n =
      absurd (whole_bad 1 k (omega arith) (whole_first q) p)
  one_answer (Err fault.Empty) (Ok j) p q m n = absurd (text_or_empty j q.0 q.1 p)
  one_answer (Err fault.Empty) (Err (fault.BadLine l)) p q m n =
      absurd (whole_bad 1 l (omega arith) (whole_first p) q)
  one_answer (Err fault.Empty) (Err fault.Empty) p q m n = refl
  one_answer (Err fault.OutOfMemory) b p q m n = absurd (m refl)
  one_answer _ (Err fault.OutOfMemory) p q m n = absurd (n refl)

-- What is told of an image.

pub one_text : (image : Image) (a b : List ℕ) → IsListText image a → IsListText image b → a ≡ b
one_text image a b t u =
    t.written ∙ ap (text_of image.data_words)
    (one_listing image.code t.ins u.ins t.listing u.listing) ∙ sym u.written

same_code : (i j : Ins) (a b : List ℕ) → IsSound i → IsSound j → bytes_of i ++ a ≡ bytes_of j ++ b →
    (i ≡ j) × (a ≡ b)
same_code i j a b si sj e =
    let same = some_same (i, a) (j, b) (sym (one_spelling_of i si a) ∙ ap instruction_at e
    ∙ one_spelling_of j sj b) in
    (ap (λ t. t.0) same, ap (λ t. t.1) same)

-- of two lists whose code is in front of the same bytes the shorter one begins the longer one
abbrev CodeBegins : List Ins → List Ins → List ℕ → List ℕ → Type 0
CodeBegins is js a b = (ks : List Ins) × (js ≡ is ++ ks) × (a ≡ bytes_of_all ks ++ b)

code_begins : (is js : List Ins) (a b : List ℕ) → AreSound is → AreSound js →
    length is ≤ length js → bytes_of_all is ++ a ≡ bytes_of_all js ++ b → CodeBegins is js a b
code_begins [] js a b s t le e = (js, refl, e)
code_begins (i ∷ is) [] a b s t le e = absurd (omega arith)
code_begins (i ∷ is) (j ∷ js) a b s t le e =
    let first = same_code i j (bytes_of_all is ++ a) (bytes_of_all js ++ b) s.0 t.0
    (sym (append_assoc (bytes_of i) (bytes_of_all is) a) ∙ e
    ∙ append_assoc (bytes_of j) (bytes_of_all js) b) in
    let rest = code_begins is js a b s.1 t.1 (omega arith) first.1 in
    (rest.0, ap (λ k. k ∷ js) (sym first.0) ∙ ap (λ l. i ∷ l) rest.1, rest.2)

-- where code stops no instruction goes on
no_next : (code : List ℕ) (place : ℕ) (s : StopsAt code place) (k : Ins) (behind : List ℕ) →
    IsSound k → s.rest ≡ bytes_of k ++ behind → ⊥
no_next code place s k behind sound e =
    let front : take (length (bytes_of k)) s.rest ≡ bytes_of k = ap (take (length (bytes_of k))) e
    ∙ take-append_seam (bytes_of k) behind in
    s.none k (length (bytes_of k)) (record {
      sound = sound;
      spelled = front;
      length_is = sym (ap length front);
    })

-- an image that is listed whole stops nowhere
module _ (image : Image) (text : List ℕ) (place : ℕ) (t : IsListText image text)
    (s : StopsAt image.code place) where
  no_behind : CodeBegins t.ins s.ins [] s.rest → ⊥
  no_behind b = omega (arith, s.some, ap length b.2, length-append (bytes_of_all b.0) s.rest)

  no_inside : (ks : List Ins) → t.ins ≡ s.ins ++ ks → s.rest ≡ bytes_of_all ks ++ [] → ⊥
  no_inside [] e f = omega (arith, s.some, ap length f)
  no_inside (k ∷ ks) e f =
      no_next image.code place s k (bytes_of_all ks ++ [])
      (sound_behind s.ins (k ∷ ks) (subst AreSound e t.listing.sound)).0
      (f ∙ append_assoc (bytes_of k) (bytes_of_all ks) [])

  whole_code : bytes_of_all s.ins ++ s.rest ≡ bytes_of_all t.ins ++ []
  whole_code = sym s.code_is ∙ t.listing.spelled ∙ sym (append-nil (bytes_of_all t.ins))

  pub text_or_stop : ⊥
  text_or_stop =
      elim (cases_lt (length t.ins) (length s.ins)) as (λ _. ⊥) [
        | inl lt ↦ no_behind (code_begins t.ins s.ins [] s.rest t.listing.sound s.sound
            (omega (arith, lt)) (sym whole_code))
        | inr le ↦ let b = code_begins s.ins t.ins s.rest [] s.sound t.listing.sound le
            whole_code in
            no_inside b.0 b.1 b.2
      ]

stops_first : (code : List ℕ) (p q : ℕ) (s : StopsAt code p) (t : StopsAt code q) →
    length s.ins ≤ length t.ins → p ≡ q
stops_first code p q s t le =
    let b = code_begins s.ins t.ins s.rest t.rest s.sound t.sound le (sym s.code_is ∙ t.code_is) in
    next b.0 b.1 b.2
  where
    next : (ks : List Ins) → t.ins ≡ s.ins ++ ks → s.rest ≡ bytes_of_all ks ++ t.rest → p ≡ q
    next [] e f = s.place_is ∙ ap (λ l. length (bytes_of_all l)) (sym (append-nil s.ins) ∙ sym e)
        ∙ sym t.place_is
    next (k ∷ ks) e f =
        absurd (no_next code p s k (bytes_of_all ks ++ t.rest)
        (sound_behind s.ins (k ∷ ks) (subst AreSound e t.sound)).0
        (f ∙ append_assoc (bytes_of k) (bytes_of_all ks) t.rest))

pub one_stop : (code : List ℕ) (p q : ℕ) → StopsAt code p → StopsAt code q → p ≡ q
one_stop code p q s t =
    elim (cases_lt (length s.ins) (length t.ins)) as (λ _. p ≡ q) [
      | inl lt ↦ stops_first code p q s t (omega (arith, lt))
      | inr le ↦ sym (stops_first code q p t s le)
    ]

-- There and back.

pub listed_assembles : (image : Image) (text : List ℕ) → IsImage image → IsListText image text →
    length text ≤ max_text_bytes → (answer : Result Image AsmFault) → Assembles text answer →
    answer ≢ Err fault.OutOfMemory → answer ≡ Ok image
listed_assembles image text is t small answer a n = one_answer text small answer (Ok image) a (
  is,
  t,
) n (λ e. absurd (no_error e))
  where
    no_error : Ok image ≡ Err fault.OutOfMemory → ⊥
    no_error e = cc

pub assembled_lists : (image : Image) (text : List ℕ) → Assembles text (Ok image) →
    (other : List ℕ) → IsListText image other → other ≡ text
assembled_lists image text a other t = one_text image other text t a.1

pub code_short : (image : Image) (text : List ℕ) → IsListText image text →
    2 * length image.code < length text
unfolding data_line
code_short image text t =
    omega (
      arith,
      ap length t.listing.spelled,
      ap length t.written,
      length-append (data_line image.data_words) (lines 0 t.ins),
      lines_size 0 t.ins t.listing.sound,
    )
