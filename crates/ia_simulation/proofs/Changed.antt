-- A word of an object of live calls is written: one word of the stack changes.
use Rattle.std.proofs.Common.{◌≡◌, ℕ, ◌+◌, ◌-◌, ◌*◌, ◌/◌, ◌%◌, ◌≤◌, ◌<◌, Bool, true, false, ◌&&◌}
use Rattle.std.proofs.Common.{List, [], ◌∷◌, ◌++◌, length, Some, refl, sym, ap, ap₂, ◌∙◌, subst}
use Rattle.std.proofs.Common.{arith, length-append, nat_eq}
use Rattle.std.specs.Prelude.{if◌then◌else◌, slice_get, slice_set}
use Rattle.pra_list.proofs.Elements.{length_set}
use Rattle.pra_list.proofs.Choices.{and_true}
use Rattle.ia_code.specs.Regions.{stack_top}
use Rattle.pl_place.specs.declared.placed.LProc.{LProc}
use Rattle.pl_place.specs.Machine.{Cells, proc_of, shape}
use Rattle.pra_base.specs.Words.{stack_limit}
use Rattle.vc_code.specs.declared.value.Object.{Object}
use Rattle.vc_code.specs.declared.value.Object.TheVariants.{Data, Aggregates, Cell}
use Rattle.vc_code.specs.Value.{Held, Words}
use Rattle.vc_code.specs.Machine.{Activation, depth, calls_with, cell_words, is_home, last_get}
use Rattle.vc_code.specs.Machine.{with_aggregate, with_argument, word_at, words_of}
use Rattle.vc_code.specs.declared.value.Value.TheVariants.{Num}
use Rattle.ia_simulation.specs.Frames.{base_of, ebp_of, register_held, saved, rest_of, frames}
use Rattle.ia_simulation.specs.Realizes.{StandsBefore, HasSizes, GivesUp, AllWait}
use Rattle.ia_simulation.proofs.Cells.{get_inside, set_back, set_front}
use Rattle.ia_simulation.proofs.Objects.{AllSized, word_is, same_is, one_word}
use Rattle.ia_simulation.proofs.Sizes.{saved_long}
use Rattle.ia_simulation.proofs.Spots.{last_there}

-- calls that differ in words of aggregates and arguments
pub record Alike (c d : Activation Cells) : Type 0 where
  pub proc : d.proc ≡ c.proc
  pub home : d.home ≡ c.home
  pub aggregates : length d.aggregates ≡ length c.aggregates
  pub args : length d.args ≡ length c.args

pub all_itself : (c : Activation Cells) → Alike c c
all_itself c = record { proc = refl; home = refl; aggregates = refl; args = refl }

abbrev pub AllAlike : List (Activation Cells) → List (Activation Cells) → Type 0
AllAlike [] [] = Unit {0}
AllAlike (c ∷ cs) (d ∷ ds) = Alike c d × AllAlike cs ds
AllAlike _ _ = ⊥

pub alike_itself : (cs : List (Activation Cells)) → AllAlike cs cs
alike_itself [] = tt
alike_itself (c ∷ cs) = (all_itself c, alike_itself cs)

module _ (procs : List LProc) where
  pub same_depth : (cs ds : List (Activation Cells)) → AllAlike cs ds → depth (shape procs) ds ≡
      depth (shape procs) cs
  same_depth [] [] r = refl
  same_depth [] (d ∷ ds) r = absurd r
  same_depth (c ∷ cs) [] r = absurd r
  same_depth (c ∷ cs) (d ∷ ds) r = ap₂ (λ n m. (shape procs n).frame_size + m) r.0.proc
      (same_depth cs ds r.1)

  pub same_ebp : (c d : Activation Cells) (cs ds : List (Activation Cells)) → Alike c d →
      AllAlike cs ds → ebp_of procs d ds ≡ ebp_of procs c cs
  same_ebp c d cs ds a r = ap₂ (λ n m. stack_top - (m + 4 * n + 8)) a.args (same_depth cs ds r)

  pub same_saved : (cs ds : List (Activation Cells)) (backs : List ℕ) → AllAlike cs ds →
      saved procs backs ds ≡ saved procs backs cs
  same_saved [] [] backs r = refl
  same_saved [] (d ∷ ds) backs r = absurd r
  same_saved (c ∷ cs) [] backs r = absurd r
  same_saved (c ∷ cs) (d ∷ ds) [] r = refl
  same_saved (c ∷ cs) (d ∷ ds) (b ∷ backs) r =
      ap₂ (λ (h : Cells) n. register_held h.regs 5 ∷ register_held h.regs 4 ∷ register_held h.regs
      3 ∷ Some (Num n) ∷ Some (Num b) ∷ []) r.0.home (same_ebp c d cs ds r.0 r.1)

  same_sizes : (c d : Activation Cells) → Alike c d → HasSizes (proc_of procs c.proc) c.aggregates
      c.args c.home.slots c.home.regs → HasSizes (proc_of procs d.proc) d.aggregates d.args
      d.home.slots d.home.regs
  same_sizes c d a z =
      let p = ap (proc_of procs) a.proc in
      record {
        aggregates_long = a.aggregates ∙ z.aggregates_long
            ∙ sym (ap (λ (p : LProc). p.aggregates) p);
        args_long = a.args ∙ z.args_long ∙ sym (ap (λ (p : LProc). p.args) p);
        slots_long = ap (λ (h : Cells). length h.slots) a.home ∙ z.slots_long
            ∙ sym (ap (λ (p : LProc). length p.slots) p);
        regs_long = ap (λ (h : Cells). length h.regs) a.home ∙ z.regs_long;
      }

  pub sizes_alike : (c d : Activation Cells) → Alike c d →
      HasSizes (proc_of procs c.proc) c.aggregates c.args c.home.slots c.home.regs →
      HasSizes (proc_of procs d.proc) d.aggregates d.args d.home.slots d.home.regs
  sizes_alike = same_sizes

  pub stands_alike : (c d : Activation Cells) (n place : ℕ) → Alike c d →
      StandsBefore procs c.proc c.home.block c.home.rest c.home.end n place →
      StandsBefore procs d.proc d.home.block d.home.rest d.home.end n place
  stands_alike c d n place a z =
      subst (λ p. StandsBefore procs p d.home.block d.home.rest d.home.end n place) (sym a.proc)
      (subst (λ (h : Cells). StandsBefore procs c.proc h.block h.rest h.end n place) (sym a.home) z)

  pub waits_alike : (cs ds : List (Activation Cells)) (backs : List ℕ) → AllAlike cs ds →
      AllWait procs cs backs → AllWait procs ds backs
  waits_alike [] [] backs r w = tt
  waits_alike [] (d ∷ ds) backs r w = absurd r
  waits_alike (c ∷ cs) [] backs r w = absurd r
  waits_alike (c ∷ cs) (d ∷ ds) [] r w = absurd w
  waits_alike (c ∷ cs) (d ∷ ds) (b ∷ backs) r w = (
    record {
      stands = stands_alike c d 0 b r.0 w.0.stands;
      sizes = same_sizes c d r.0 w.0.sizes;
      given_up = subst (λ (h : Cells). GivesUp h.regs) (sym r.0.home) w.0.given_up;
    },
    waits_alike cs ds backs r.1 w.1,
  )

-- ---- the word that changes

pub record Stored (procs : List LProc) (backs : List ℕ) (calls new : List (Activation Cells))
    (x : Object) (o : ℕ) (h : Held) : Type 0 where
  pub cell : ℕ
  pub inside : cell < length (frames procs backs calls)
  pub place : base_of x + o + depth (shape procs) calls ≡ stack_top + 4 * cell
  pub frames_are : frames procs backs new ≡ slice_set (frames procs backs calls) cell h
  pub alike : AllAlike calls new

module _ (procs : List LProc) where
  module _ (c : Activation Cells) (calls : List (Activation Cells)) (backs : List ℕ)
      (sizes : HasSizes (proc_of procs c.proc) c.aggregates c.args c.home.slots c.home.regs)
      (x : Object) (o : ℕ) (h : Held) where
    abbrev kept : Words
    kept = saved procs backs calls

    abbrev outer : Words
    outer = frames procs (rest_of backs) calls

    parts_long : length (frames procs backs (c ∷ calls)) ≡
        length c.aggregates + (length c.home.slots + (5 + (length c.args + length outer)))
    parts_long =
        let la = length-append c.aggregates (c.home.slots ++ (kept ++ (c.args ++ outer))) in
        let lb = length-append c.home.slots (kept ++ (c.args ++ outer)) in
        let lc = length-append kept (c.args ++ outer) in
        let ld = length-append c.args outer in
        let five = saved_long procs backs calls in
        omega (arith, la, lb, lc, ld, five)

    below_it : (new : List (Activation Cells)) → Stored procs (rest_of backs) calls new x o h →
        Stored procs backs (c ∷ calls) (c ∷ new) x o h
    below_it new f =
        let five = saved_long procs backs calls in
        record {
          cell = length c.aggregates +
              (length c.home.slots + (length kept + (length c.args + f.cell)));
          inside = omega (arith, parts_long, five, f.inside);
          place = omega (
            arith,
            f.place,
            five,
            sizes.aggregates_long,
            sizes.args_long,
            sizes.slots_long,
          );
          frames_are =
              ap₂ (λ k z. c.aggregates ++ (c.home.slots ++ (k ++ (c.args ++ z))))
              (same_saved procs calls new backs f.alike) f.frames_are
              ∙ sym (set_back c.aggregates (c.home.slots ++ (kept ++ (c.args ++ outer)))
              (length c.home.slots + (length kept + (length c.args + f.cell))) _ h refl
              ∙ ap (λ l. c.aggregates ++ l)
              (set_back c.home.slots (kept ++ (c.args ++ outer))
              (length kept + (length c.args + f.cell)) _ h refl
              ∙ ap (λ l. c.home.slots ++ l)
              (set_back kept (c.args ++ outer) (length c.args + f.cell) _ h refl
              ∙ ap (λ l. kept ++ l) (set_back c.args outer f.cell _ h refl))));
          alike = (all_itself c, f.alike);
        }

    in_aggregates : (n sum : ℕ) (old : Held) → x ≡ Aggregates n sum →
        sum ≡ depth (shape procs) (c ∷ calls) → depth (shape procs) (c ∷ calls) ≤ stack_limit →
        o % 4 ≡ 0 → slice_get c.aggregates (o / 4) ≡ Some old →
        Stored procs backs (c ∷ calls) (with_aggregate c (o / 4) h ∷ calls) x o h
    in_aggregates n sum old is same deep whole e =
        let lt = get_inside c.aggregates (o / 4) old e in
        record {
          cell = o / 4;
          inside = omega (arith, parts_long, lt);
          place = let b = ap base_of is in omega (arith, b, same, deep, whole);
          frames_are = sym (set_front c.aggregates (c.home.slots ++ (kept ++ (c.args ++ outer)))
              (o / 4) h lt);
          alike = (
            record {
              proc = refl;
              home = refl;
              aggregates =
                  length_set c.aggregates (o / 4) h;
              args = refl;
            },
            alike_itself calls,
          );
        }

    in_arguments : (n below k : ℕ) (old : Held) → x ≡ Cell n below k →
        below ≡ depth (shape procs) calls → depth (shape procs) (c ∷ calls) ≤ stack_limit →
        o % 4 ≡ 0 → o / 4 ≡ 0 → last_get c.args k ≡ Some old →
        Stored procs backs (c ∷ calls) (with_argument c k h ∷ calls) x o h
    in_arguments n below k old is same deep whole none e =
        let five = saved_long procs backs calls in
        let t = last_there c.args k old e in
        let j = length c.args - 1 - k in
        record {
          cell = length c.aggregates + (length c.home.slots + (length kept + j));
          inside = omega (arith, parts_long, five, t.0);
          place = let b = ap base_of is in
              omega (
                arith,
                b,
                same,
                deep,
                whole,
                none,
                five,
                t.0,
                sizes.aggregates_long,
                sizes.args_long,
                sizes.slots_long,
              );
          frames_are =
              sym (set_back c.aggregates (c.home.slots ++ (kept ++ (c.args ++ outer)))
              (length c.home.slots + (length kept + j)) _ h refl
              ∙ ap (λ l. c.aggregates ++ l)
              (set_back c.home.slots (kept ++ (c.args ++ outer)) (length kept + j) _ h refl
              ∙ ap (λ l. c.home.slots ++ l) (set_back kept (c.args ++ outer) j _ h refl
              ∙ ap (λ l. kept ++ l) (set_front c.args outer j h (omega (arith, t.0))))));
          alike = (
            record {
              proc = refl;
              home = refl;
              aggregates = refl;
              args =
                  length_set c.args j h;
            },
            alike_itself calls,
          );
        }

  pub stored : (calls : List (Activation Cells)) (backs : List ℕ) → AllSized procs calls →
      depth (shape procs) calls ≤ stack_limit → (x : Object) (o : ℕ) (h old : Held) →
      word_at (words_of (shape procs) calls x) o ≡ Some old →
      Stored procs backs calls (calls_with (shape procs) calls x (o / 4) h) x o h
  stored [] backs sized deep x o h old e = let w = word_is [] o old e in cc
  stored (c ∷ calls) backs sized deep Data o h old e = let w = word_is [] o old e in cc
  stored (c ∷ calls) backs sized deep (Aggregates n sum) o h old e =
      one (nat_eq n (length calls) && nat_eq sum (depth (shape procs) (c ∷ calls))) refl e
      (λ f. stored calls (rest_of backs) sized.1 (omega (arith, deep)) (Aggregates n sum) o h old f)
    where
      one : (b : Bool) → (nat_eq n (length calls) && nat_eq sum (depth (shape procs) (c ∷ calls))) ≡
          b → word_at (if b then c.aggregates else words_of (shape procs) calls (Aggregates n sum))
          o ≡ Some old →
          (word_at (words_of (shape procs) calls (Aggregates n sum)) o ≡ Some old →
          Stored procs (rest_of backs) calls
          (calls_with (shape procs) calls (Aggregates n sum) (o / 4) h) (Aggregates n sum) o h)
          →
          Stored procs backs (c ∷ calls)
          (if b then with_aggregate c (o / 4) h ∷ calls else c ∷ calls_with (shape procs) calls
          (Aggregates n sum) (o / 4) h) (Aggregates n sum) o h
      one true t e rest =
          let both = and_true (nat_eq n (length calls))
          (nat_eq sum (depth (shape procs) (c ∷ calls))) t in
          let w = word_is c.aggregates o old e in
          in_aggregates c calls backs sized.0 (Aggregates n sum) o h n sum old refl
          (same_is sum (depth (shape procs) (c ∷ calls)) both.1) deep w.0 w.1
      one false t e rest = below_it c calls backs sized.0 (Aggregates n sum) o h
          (calls_with (shape procs) calls (Aggregates n sum) (o / 4) h) (rest e)
  stored (c ∷ calls) backs sized deep (Cell n below k) o h old e =
      one (nat_eq n (length calls) && nat_eq below (depth (shape procs) calls)) refl e
      (λ f. stored calls (rest_of backs) sized.1 (omega (arith, deep)) (Cell n below k) o h old f)
    where
      one : (b : Bool) → (nat_eq n (length calls) && nat_eq below (depth (shape procs) calls)) ≡ b →
          word_at (if b then (if is_home (shape procs c.proc) k then [] else cell_words
          (last_get c.args k)) else words_of (shape procs) calls (Cell n below k)) o ≡ Some old →
          (word_at (words_of (shape procs) calls (Cell n below k)) o ≡ Some old →
          Stored procs (rest_of backs) calls
          (calls_with (shape procs) calls (Cell n below k) (o / 4) h) (Cell n below k) o h) →
          Stored procs backs (c ∷ calls)
          (if b then with_argument c k h ∷ calls else c ∷ calls_with (shape procs) calls
          (Cell n below k) (o / 4) h) (Cell n below k) o h
      one true t e rest =
          let both = and_true (nat_eq n (length calls)) (nat_eq below (depth (shape procs) calls))
          t in
          let w = word_is (if is_home (shape procs c.proc) k then [] else cell_words
          (last_get c.args k)) o old e in
          let z = one_word (is_home (shape procs c.proc) k) (last_get c.args k) (o / 4) old w.1 in
          in_arguments c calls backs sized.0 (Cell n below k) o h n below k old refl
          (same_is below (depth (shape procs) calls) both.1) deep w.0 z.0 z.1
      one false t e rest = below_it c calls backs sized.0 (Cell n below k) o h
          (calls_with (shape procs) calls (Cell n below k) (o / 4) h) (rest e)
