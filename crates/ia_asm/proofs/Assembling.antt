-- An assembly with one procedure more, its start, and its calls filled in.
use Rattle.std.proofs.Common.{◌≡◌, ℕ, ◌+◌, ◌-◌, ◌≤◌, ◌<◌, List, [], ◌∷◌, ◌++◌, length, refl, sym}
use Rattle.std.proofs.Common.{ap, ◌∙◌, arith, append_assoc, append-nil, length-append, subst, ◌⊎◌}
use Rattle.std.proofs.Common.{inl, inr}
use Rattle.std.specs.List.{sum_by}
use Rattle.std.proofs.lemmas.List.{take_all, take_at, take-append-le, get_or_append_left}
use Rattle.std.proofs.lemmas.List.{get_or_default, get_or_past, get_or_push, length_push}
use Rattle.std.proofs.lemmas.List.Sums.{sum_by-cons, sum_by_push}
use Rattle.pra_list.proofs.Elements.{each_more}
use Rattle.ia_code.specs.DecodeTable.{imm32}
use Rattle.ia_code.specs.Image.{max_code_bytes, max_data_words, IsImage}
use Rattle.ia_code.specs.declared.image.Image.{Image}
use Rattle.ia_code.specs.Listing.{bytes_of_all, AreSound, IsListing}
use Rattle.ia_code.specs.declared.ins.Ins.{Ins}
use Rattle.ia_code.proofs.Listings.{bytes_of_all-append, sound_append}
use Rattle.ia_emit.specs.declared.bytes.CallSite.{CallSite}
use Rattle.ia_emit.specs.Code.{size, all_aimed, front, target_in, first_entry, entry, code_size}
use Rattle.ia_emit.specs.Code.{code_from, code_with, code_of, distance}
use Rattle.ia_emit.specs.Emission.{emit_proc}
use Rattle.ia_emit.specs.Sound.{HasOffset}
use Rattle.ia_emit.specs.Open.{Within, filled, overwritten, IsOpen}
use Rattle.ia_emit.proofs.Open.{length_filled, filled_front, filled_more, filled_behind}
use Rattle.ia_emit.proofs.Open.{within_more, within_from, within_both, length_all, length_open}
use Rattle.ia_asm.specs.declared.assembly.Assembly.{Assembly}
use Rattle.ia_asm.specs.Assembly.{entry_in, IsAssembly}
use Rattle.pl_place.specs.declared.placed.LProc.{LProc}
use Rattle.pl_place.specs.Valid.{EachOp}

abbrev proc_size : LProc → ℕ
proc_size p = size (emit_proc p)

-- ---- procedures one behind the other

module _ (starts : ℕ → ℕ) where
  abbrev piece : LProc → ℕ → List Ins
  piece p at = all_aimed (target_in p at) starts at (emit_proc p)

  code_from_more : (at : ℕ) (ps : List LProc) (p : LProc) → code_from starts at (ps ++ p ∷ []) ≡
      code_from starts at ps ++ piece p (at + sum_by proc_size ps)
  code_from_more at [] p = let same : at ≡ at + 0 = omega arith in append-nil (piece p at)
      ∙ ap (piece p) same
  code_from_more at (x ∷ ps) p =
      let first = sum_by-cons proc_size x ps in
      let place : at + proc_size x + sum_by proc_size ps ≡ at + sum_by proc_size (x ∷ ps) =
      omega (arith, first) in
      ap (λ l. piece x at ++ l)
      (code_from_more (at + proc_size x) ps p
      ∙ ap (λ n. code_from starts (at + proc_size x) ps ++ piece p n) place)
      ∙ sym (append_assoc (piece x at) (code_from starts (at + proc_size x) ps)
      (piece p (at + sum_by proc_size (x ∷ ps))))

  code_with_more : (ps : List LProc) (p : LProc) → code_with starts (ps ++ p ∷ []) ≡
      code_with starts ps ++ piece p (code_size ps)
  code_with_more ps p =
      let before = all_aimed (λ t. 0) starts 0 front in
      ap (λ l. before ++ l) (code_from_more first_entry ps p)
      ∙ sym (append_assoc before (code_from starts first_entry ps) (piece p (code_size ps)))

  length_from : (at : ℕ) (ps : List LProc) → length (bytes_of_all (code_from starts at ps)) ≡
      sum_by proc_size ps
  length_from at [] = refl
  length_from at (x ∷ ps) =
      let first = sum_by-cons proc_size x ps in
      let one = length_all (target_in x at) starts at (emit_proc x) in
      let more = length_from (at + proc_size x) ps in
      let both = ap length (bytes_of_all-append (piece x at)
      (code_from starts (at + proc_size x) ps)) ∙ length-append (bytes_of_all (piece x at))
      (bytes_of_all (code_from starts (at + proc_size x) ps)) in
      omega (arith, first, one, more, both)

  pub length_code : (ps : List LProc) → length (bytes_of_all (code_with starts ps)) ≡ code_size ps
  length_code ps =
      let before = all_aimed (λ t. 0) starts 0 front in
      let one : length (bytes_of_all before) ≡ first_entry = length_all (λ t. 0) starts 0 front in
      let more = length_from first_entry ps in
      let both = ap length (bytes_of_all-append before (code_from starts first_entry ps))
      ∙ length-append (bytes_of_all before) (bytes_of_all (code_from starts first_entry ps)) in
      omega (arith, one, more, both)

-- ---- filling

-- only where the callees begin counts
pub filled_same : (one other : ℕ → ℕ) → ((k : ℕ) → one k ≡ other k) →
    (from : ℕ) (calls : List CallSite) (bytes : List ℕ) → filled one from calls bytes ≡
    filled other from calls bytes
filled_same one other same from [] bytes = refl
filled_same one other same from (c ∷ calls) bytes =
    ap (λ n. filled one from calls
    (overwritten (c.place - from) (imm32 (distance (c.place + 4) n)) bytes)) (same c.callee.0)
    ∙ filled_same one other same from calls
    (overwritten (c.place - from) (imm32 (distance (c.place + 4) (other c.callee.0))) bytes)

-- ---- lists

-- what holds of each holds with one more
-- ---- an assembly

abbrev nowhere : ℕ → ℕ
nowhere k = 0

from_start : (n : ℕ) (calls : List CallSite) → Within 0 n calls → Within 0 (0 + n) calls
from_start n calls w = let same : n ≡ 0 + n = omega arith in subst (λ m. Within 0 m calls) same w

to_end : (n : ℕ) (calls : List CallSite) → Within 0 (0 + n) calls → Within 0 n calls
to_end n calls w = let same : 0 + n ≡ n = omega arith in subst (λ m. Within 0 m calls) same w

-- the start: nothing but the front
pub begun : (words : ℕ) (bytes : List ℕ) (calls : List CallSite) →
    IsOpen (λ t. 0) 0 front bytes calls → words ≤ max_data_words →
    (a : Assembly) → a.code.items ≡ bytes → a.calls.items ≡ calls → a.entries.items ≡ [] →
    a.data_words ≡ words → IsAssembly [] words a
begun words bytes calls opened few a e f g h =
    let size_is : length bytes ≡ first_entry = length_open (λ t. 0) 0 front bytes calls opened in
    let long : length a.code.items ≡ first_entry = ap length e ∙ size_is in
    record {
      short = omega (arith, long);
      within = subst (λ l. Within 0 (length l) a.calls.items) (sym e)
          (subst (Within 0 (length bytes)) (sym f) (to_end (length bytes) calls opened.within));
      sound = λ starts. subst AreSound (sym (append-nil (all_aimed (λ t. 0) starts 0 front)))
          (opened.sound starts);
      filled_is = λ starts.
          ap (λ l. filled starts 0 l a.code.items) f ∙ ap (filled starts 0 calls) e
          ∙ opened.filled_is starts
          ∙ ap bytes_of_all (sym (append-nil (all_aimed (λ t. 0) starts 0 front)));
      count = ap length g;
      entries = λ k.
          ap (λ l. entry_in l (length a.code.items) k) g ∙ get_or_past [] k (length a.code.items)
          (omega arith) ∙ long
          ∙ sym (ap (λ l. first_entry + sum_by proc_size l) (take_all k [] (omega arith)));
      words_are = h;
      few_words = few;
      offsets = λ q p there. cc;
    }

module _ (procs : List LProc) (words : ℕ) (old : Assembly) (is : IsAssembly procs words old) where
  -- the code ends where its procedures end
  pub length_assembly : length old.code.items ≡ code_size procs
  length_assembly =
      sym (length_filled nowhere 0 old.calls.items old.code.items (from_start _ _ is.within))
      ∙ ap length (is.filled_is nowhere) ∙ length_code nowhere procs

  module _ (p : LProc) (bytes : List ℕ) (calls : List CallSite)
      (opened : IsOpen (target_in p (length old.code.items)) (length old.code.items) (emit_proc p)
      bytes calls) where
    abbrev at : ℕ
    at = length old.code.items

    size_is : length bytes ≡ proc_size p
    size_is = length_open (target_in p at) at (emit_proc p) bytes calls opened

    sound_more : (starts : ℕ → ℕ) → AreSound (code_with starts (procs ++ p ∷ []))
    sound_more starts =
        subst AreSound (sym (code_with_more starts procs p))
        (sound_append (code_with starts procs) (piece starts p (code_size procs)) (is.sound starts)
        (subst (λ n. AreSound (piece starts p n)) length_assembly (opened.sound starts)))

    filled_both : (starts : ℕ → ℕ) → filled starts 0 (old.calls.items ++ calls)
        (old.code.items ++ bytes) ≡ bytes_of_all (code_with starts (procs ++ p ∷ []))
    filled_both starts =
        let before = filled starts 0 old.calls.items old.code.items in
        let long = length_filled starts 0 old.calls.items old.code.items
        (from_start _ _ is.within) in
        let same : at ≡ 0 + length before = omega (arith, long) in
        filled_more starts 0 old.calls.items calls (old.code.items ++ bytes)
        ∙ ap (filled starts 0 calls)
        (filled_front starts 0 old.calls.items old.code.items bytes (from_start _ _ is.within))
        ∙ filled_behind starts 0 at (at + length bytes) calls before bytes same opened.within
        ∙ ap (λ l. l ++ filled starts at calls bytes) (is.filled_is starts)
        ∙ ap (λ l. bytes_of_all (code_with starts procs) ++ l) (opened.filled_is starts)
        ∙ ap (λ n. bytes_of_all (code_with starts procs) ++ bytes_of_all (piece starts p n))
        length_assembly
        ∙ sym (ap bytes_of_all (code_with_more starts procs p) ∙ bytes_of_all-append
        (code_with starts procs) (piece starts p (code_size procs)))

    -- where procedures begin, with one more
    module _ (end : ℕ) (is_end : end ≡ at + proc_size p) (k : ℕ) where
      starts_before : k < length procs → entry_in (old.entries.items ++ at ∷ []) end k ≡
          entry (procs ++ p ∷ []) k
      starts_before lt =
          let there : k < length old.entries.items = omega (arith, lt, is.count) in
          get_or_append_left old.entries.items (at ∷ []) end k there
          ∙ get_or_default old.entries.items k end at there
          ∙ is.entries k
          ∙ ap (λ l. first_entry + sum_by proc_size l)
          (sym (take-append-le k procs (p ∷ []) (omega (arith, lt))))

      starts_here : k ≡ length procs → entry_in (old.entries.items ++ at ∷ []) end k ≡
          entry (procs ++ p ∷ []) k
      starts_here e =
          get_or_push old.entries.items at end k (is.count ∙ sym e)
          ∙ length_assembly
          ∙ ap (λ l. first_entry + sum_by proc_size l) (sym (take_at procs (p ∷ []) k (sym e)))

      starts_behind : length procs < k → entry_in (old.entries.items ++ at ∷ []) end k ≡
          entry (procs ++ p ∷ []) k
      starts_behind lt =
          let all = sum_by_push proc_size procs p in
          let long = length_push old.entries.items at in
          let count = length_push procs p in
          let last : end ≡ first_entry + sum_by proc_size (procs ++ p ∷ []) =
          omega (arith, is_end, length_assembly, all) in
          get_or_past (old.entries.items ++ at ∷ []) k end (omega (arith, long, is.count, lt))
          ∙ last
          ∙ ap (λ l. first_entry + sum_by proc_size l)
          (sym (take_all k (procs ++ p ∷ []) (omega (arith, count, lt))))

      starts_more : entry_in (old.entries.items ++ at ∷ []) end k ≡ entry (procs ++ p ∷ []) k
      starts_more =
          elim (three k (length procs)) [
            | inl before ↦ starts_before before
            | inr rest ↦ elim rest [
              | inl here ↦ starts_here here
              | inr behind ↦
                  starts_behind behind
            ]
          ]
        where
          three : (k n : ℕ) → (k < n) ⊎ ((k ≡ n) ⊎ (n < k))
          three k n = grind arith

    pub added : (new : Assembly) → new.code.items ≡ old.code.items ++ bytes → new.calls.items ≡
        old.calls.items ++ calls → new.entries.items ≡ old.entries.items ++ at ∷ [] →
        new.data_words ≡ old.data_words → at + proc_size p ≤ max_code_bytes →
        EachOp p (λ i places. HasOffset i) → IsAssembly (procs ++ p ∷ []) words new
    added new e f g h room fit =
        let long : length new.code.items ≡ at + length bytes = ap length e
        ∙ length-append old.code.items bytes in
        let end : length new.code.items ≡ at + proc_size p = omega (arith, long, size_is) in
        record {
          short = omega (arith, end, room);
          within =
              subst (Within 0 (length new.code.items)) (sym f)
              (within_both 0 (length new.code.items) old.calls.items calls
              (within_more 0 at (length new.code.items) old.calls.items (omega (arith, long))
              is.within)
              (within_from at 0 (length new.code.items) calls (omega arith)
              (within_more at (at + length bytes) (length new.code.items) calls
              (omega (arith, long)) opened.within)));
          sound = sound_more;
          filled_is = λ starts. ap (λ l. filled starts 0 l new.code.items) f
              ∙ ap (filled starts 0 (old.calls.items ++ calls)) e ∙ filled_both starts;
          count = ap length g ∙ length_push old.entries.items at ∙ ap (λ n. n + 1) is.count
              ∙ sym (length_push procs p);
          entries = λ k. ap (λ l. entry_in l (length new.code.items) k) g
              ∙ starts_more (length new.code.items) end k;
          words_are = h ∙ is.words_are;
          few_words = is.few_words;
          offsets = each_more (λ p. EachOp p (λ i places. HasOffset i)) procs p is.offsets fit;
        }

  -- with its calls filled in
  pub finished : (code : List ℕ) →
      code ≡ filled (entry_in old.entries.items (length old.code.items)) 0 old.calls.items
      old.code.items → IsListing code (code_of procs)
  finished code e = record {
    sound = is.sound (entry procs);
    spelled =
        e ∙ filled_same (entry_in old.entries.items (length old.code.items)) (entry procs)
        is.entries 0 old.calls.items old.code.items
        ∙ is.filled_is (entry procs);
  }

  pub finished_is_image : (code : List ℕ) →
      code ≡ filled (entry_in old.entries.items (length old.code.items)) 0 old.calls.items
      old.code.items →
      (image : Image) → image.code ≡ code → image.data_words ≡ old.data_words → IsImage image
  finished_is_image code e image f h =
      let long : length image.code ≡ length old.code.items =
      ap length (f ∙ e) ∙ length_filled (entry_in old.entries.items (length old.code.items)) 0
      old.calls.items old.code.items (from_start _ _ is.within) in
      record {
        some_code = omega (arith, long, length_assembly);
        code = omega (arith, long, is.short);
        data_words = omega (arith, h, is.words_are, is.few_words);
      }
