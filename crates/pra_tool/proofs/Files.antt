-- Files written one after the other.
use Rattle.std.proofs.Common.{◌≡◌, ◌≢◌, ℕ, ◌+◌, ◌<◌, ◌≤◌, List, [], ◌∷◌, ◌++◌, length, take, drop}
use Rattle.std.proofs.Common.{refl, sym, ap, ◌∙◌, subst, arith, length-append, get_or, suc, add-one}
use Rattle.std.proofs.lemmas.List.{take-append-drop}
use Rattle.std.proofs.Math.Seq.{take-suc, drop-cons}
use Rattle.std.proofs.Math.ListN.{get_or-map}
use Rattle.std.specs.Prelude.{map}
use Rattle.pra_io.specs.Causes.{Rose}
use Rattle.pra_io.specs.Contents.{Becomes}
use Rattle.pra_tool.specs.Outside.{FolderSeen, SameFiles, NoneFell}
use Rattle.pra_io.specs.declared.files.FileFault.{FileFault}
use Rattle.pra_io.specs.declared.files.FileFault.TheVariants.{Failed, TooLong, OutOfMemory}
use Rattle.pra_tool.specs.Writes.{FileText, IsOther, NamesDiffer, OthersStay, Hold, Stored}
use Rattle.pra_tool.specs.Writes.{FileFailed, FileLeft, FilesStopped}

-- ---- names

other_front : (name : List ℕ) (xs : List FileText) (f : FileText) → IsOther name (xs ++ f ∷ []) →
    IsOther name xs
other_front name [] f h = tt
other_front name (x ∷ xs) f h = (h.0, other_front name xs f h.1)

other_last : (name : List ℕ) (xs : List FileText) (f : FileText) → IsOther name (xs ++ f ∷ []) →
    name ≢ f.name
other_last name [] f h = h.0
other_last name (x ∷ xs) f h = other_last name xs f h.1

-- one file alone differs from all others
no_front : (f g : FileText) (xs ys : List FileText) (x : FileText) →
    f ∷ [] ≡ (x ∷ xs) ++ g ∷ ys → ⊥
no_front f g xs ys x e =
    let same : length (f ∷ []) ≡ length ((x ∷ xs) ++ g ∷ ys) = ap length e in
    omega (arith, same, length-append xs (g ∷ ys))

pub one_file : (f : FileText) (before after : List FileText) (g : FileText) →
    f ∷ [] ≡ before ++ g ∷ after → IsOther g.name before
one_file f [] after g e = tt
one_file f (x ∷ xs) after g e = absurd (no_front f g xs after x e)

-- ---- one file more

-- the folder's files after writing the file f
module _ (a b c : FolderSeen) (f : FileText)
    (others : (name : List ℕ) → name ≢ f.name → c.file name ≡ b.file name) where
  hold_more : (done : List FileText) → Hold done a b → IsOther f.name done →
      Becomes (a.file f.name) (c.file f.name) f.bytes → Hold (done ++ f ∷ []) a c
  hold_more [] hold other becomes = (becomes, tt)
  hold_more (g ∷ gs) hold other becomes =
      let stays : c.file g.name ≡ b.file g.name = others g.name (λ e. other.0 (sym e)) in (
        subst (λ held. Becomes (a.file g.name) held g.bytes) (sym stays) hold.0,
        hold_more gs hold.1 other.1 becomes,
      )

  hold_still : (done : List FileText) → Hold done a b → IsOther f.name done → Hold done a c
  hold_still [] hold other = tt
  hold_still (g ∷ gs) hold other =
      let stays : c.file g.name ≡ b.file g.name = others g.name (λ e. other.0 (sym e)) in (
        subst (λ held. Becomes (a.file g.name) held g.bytes) (sym stays) hold.0,
        hold_still gs hold.1 other.1,
      )

  others_more : (done : List FileText) → OthersStay done a b → OthersStay (done ++ f ∷ []) a c
  others_more done stay name h =
      others name (other_last name done f h) ∙ stay name (other_front name done f h)

  pub stored_more : (done : List FileText) → Stored done a b → IsOther f.name done →
      Becomes (b.file f.name) (c.file f.name) f.bytes → Stored (done ++ f ∷ []) a c
  stored_more done s other becomes = record {
    hold = hold_more done s.hold other
        (subst (λ held. Becomes held (c.file f.name) f.bytes) (s.others f.name other) becomes);
    others = others_more done s.others;
  }

  pub failed_at : (files done more : List FileText) → files ≡ done ++ f ∷ more → Stored done a b →
      IsOther f.name done → Rose (a.write_faults f.name) (c.write_faults f.name) →
      FileFailed files a c
  failed_at files done more order s other cause = record {
    before = done;
    at = f;
    after = more;
    order = order;
    cause = cause;
    hold = hold_still done s.hold other;
    others = others_more done s.others;
  }

-- ---- the file i of a list

module _ (files : List FileText) (i : ℕ) (f : FileText) (within : i < length files)
    (is : f ≡ get_or files i f) where
  pub one_more : take (i + 1) files ≡ take i files ++ f ∷ []
  one_more =
      ap (λ n. take n files) (add-one i) ∙ take-suc files i f within ∙
      ap (λ (x : FileText). take i files ++ x ∷ []) (sym is)

  order : files ≡ take i files ++ f ∷ drop (suc i) files
  order =
      sym (take-append-drop i files) ∙ ap (λ l. take i files ++ l) (drop-cons files i f within) ∙
      ap (λ (x : FileText). take i files ++ x ∷ drop (suc i) files) (sym is)

  new_name : NamesDiffer files → IsOther f.name (take i files)
  new_name different = different (take i files) (drop (suc i) files) f order

  module _ (a b c : FolderSeen) (different : NamesDiffer files) (s : Stored (take i files) a b)
    where
      pub stored_next : ((name : List ℕ) → name ≢ f.name → c.file name ≡ b.file name) →
          Becomes (b.file f.name) (c.file f.name) f.bytes → Stored (take (i + 1) files) a c
      stored_next others becomes = subst (λ (l : List FileText). Stored l a c) (sym one_more)
          (stored_more a b c f others (take i files) s (new_name different) becomes)

      pub failed_next : ((name : List ℕ) → name ≢ f.name → c.file name ≡ b.file name) →
          Rose (a.write_faults f.name) (c.write_faults f.name) → FileFailed files a c
      failed_next others cause = failed_at a b c f others files (take i files) (drop (suc i) files)
          order s (new_name different) cause

      -- nothing changed
      same_hold : SameFiles b c → (done : List FileText) → Hold done a b → Hold done a c
      same_hold same [] h = tt
      same_hold same (x ∷ xs) h = (
        subst (λ held. Becomes (a.file x.name) held x.bytes) (sym (same x.name)) h.0,
        same_hold same xs h.1,
      )

      pub left_next : SameFiles b c → FileLeft files a c
      left_next same = record {
        before = i;
        some_left = omega (arith, within);
        stored = record {
          hold = same_hold same (take i files) s.hold;
          others = λ name other. same name ∙ s.others name other;
        };
      }

-- a file of the code as one of the list
pub file_of : {A : Type 0} (text : A → FileText) (files : List A) (i : ℕ) (x : A) →
    x ≡ get_or files i x → text x ≡ get_or (map text files) i (text x)
file_of text files i x is = ap text is ∙ sym (get_or-map text files i x)

-- counts that did not fall have not fallen since
pub none_since : (a b c : FolderSeen) → NoneFell a b → NoneFell b c → NoneFell a c
none_since a b c s t = record {
  read = λ name. omega (arith, s.read name, t.read name);
  write = λ name. omega (arith, s.write name, t.write name);
}

-- a count that rose from a moment on has risen from an earlier one on
pub rose_after : (before at now : ℕ) → before ≤ at → Rose at now → Rose before now
rose_after before at now le rose = λ top. let l : at < now = rose top in omega arith

-- writing stopped, by the fault
pub stopped_by : (files : List FileText) (fault : FileFault) (a c : FolderSeen) →
    (fault ≡ Failed → FileFailed files a c) → (fault ≡ TooLong → ⊥) →
    (fault ≡ OutOfMemory → FileLeft files a c) → FilesStopped files fault a c
stopped_by files Failed a c failed long left = failed refl
stopped_by files TooLong a c failed long left = long refl
stopped_by files OutOfMemory a c failed long left = left refl
