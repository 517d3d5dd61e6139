-- Live calls of reduced code beside those of the code that was reduced.
use Rattle.std.proofs.Common.{◌≡◌, ℕ, zero, suc, Bool, if◌then◌else◌, List, [], ◌∷◌, drop, length}
use Rattle.std.proofs.Common.{map, slice_index_or, replicate, None, refl, sym, ap, ap₂, ◌∙◌}
use Rattle.std.proofs.lemmas.List.{length-map}
use Rattle.pra_base.specs.declared.code.VarKind.{VarKind}
use Rattle.pra_base.specs.declared.code.VarKind.TheVariants.{Plain}
use Rattle.pra_base.specs.declared.code.VProc.{VProc}
use Rattle.pra_base.specs.Code.{kind_of, code_of}
use Rattle.vc_code.specs.Value.{Words}
use Rattle.vc_code.specs.Machine.{Shape, Activation, last_get, last_set, is_home, cell, cell_words}
use Rattle.vc_code.specs.Selected.{Vars, read, valued, argument, begun, shape}
use Rattle.vc_code.specs.Selected as selected
use Rattle.vc_same.specs.Renaming.{Names}
use Rattle.vc_same.specs.Reduction.{Needed, StandsFor, Part, Reduced}
use Rattle.vc_coupling.specs.Coupled.{Couples}

-- a variable that has to hold the same in both, before place k of the old block and place j of the
-- new one
pub record Counts (to : Names) (old new : VProc) (b k j v : ℕ) : Type 0 where
  pub kind : StandsFor (kind_of new (to v)) (kind_of old v)
  pub here : Needed old b k v
  pub there : Needed new b j (to v)

abbrev pub Agrees : Names → VProc → VProc → ℕ → ℕ → ℕ → Words → Words → Type 0
Agrees to old new b k j held beside = (v : ℕ) → Counts to old new b k j v →
    read (kind_of new) beside (to v) ≡ read (kind_of old) held v

-- The calls stand before parts of which the one is the other reduced, and variables that count
-- agree.
pub record Tracks (olds news : List VProc) (to : ℕ → Names) (c d : Activation Vars) : Type 0 where
  pub proc : d.proc ≡ c.proc
  pub args : d.args ≡ c.args
  pub aggregates : d.aggregates ≡ c.aggregates
  pub block : d.home.block ≡ c.home.block
  pub part : Part (to c.proc) (selected.code_of olds c.proc) (selected.code_of news c.proc)
      c.home.block c.home.index d.home.index
      (drop c.home.index (code_of (selected.code_of olds c.proc) c.home.block))
      (drop d.home.index (code_of (selected.code_of news c.proc) c.home.block))
  pub held : length c.home.held ≡ length (selected.code_of olds c.proc).vars
  pub beside : length d.home.held ≡ length (selected.code_of news c.proc).vars
  pub agrees : Agrees (to c.proc) (selected.code_of olds c.proc) (selected.code_of news c.proc)
      c.home.block c.home.index d.home.index c.home.held d.home.held

-- what a variable holds when a call begins follows from its kind
begun_read : (args : Words) (vars : List VarKind) (v : ℕ) →
    slice_index_or (map (argument args) vars) v None ≡ argument args (slice_index_or vars v Plain)
begun_read args [] v = refl
begun_read args (k ∷ vars) zero = refl
begun_read args (k ∷ vars) (suc v) = begun_read args vars v

module _ (olds news : List VProc) (to : ℕ → Names) (frames : List ℕ)
    (all : (p : ℕ) → Reduced (to p) (selected.code_of olds p) (selected.code_of news p)) where
  abbrev R : Activation Vars → Activation Vars → Type 0
  R = Tracks olds news to

  abbrev one : ℕ → Shape
  one = shape olds frames

  abbrev other : ℕ → Shape
  other = shape news frames

  same_cells : (c d : Activation Vars) → R c d → (i : ℕ) → cell other d i ≡ cell one c i
  same_cells c d r i =
      let home : is_home (other d.proc) i ≡ is_home (one c.proc) i =
      ap (λ p. is_home (other p) i) r.proc ∙ (all c.proc).homes i in
      ap₂ (λ (b : Bool) (args : Words). if b then [] else cell_words (last_get args i)) home r.args

  pub couples : Couples one other R
  couples = record {
    frames = λ c d r. ap (λ p. slice_index_or frames p 0) r.proc;
    aggregates = λ c d r. r.aggregates;
    cells = same_cells;
    set_aggregates = λ c d r words. record {
      proc = r.proc;
      args = r.args;
      aggregates = refl;
      block = r.block;
      part = r.part;
      held = r.held;
      beside = r.beside;
      agrees = r.agrees;
    };
    set_cell = λ c d r i h n. record {
      proc = r.proc;
      args = ap (λ (args : Words). last_set args i h) r.args;
      aggregates =
          r.aggregates;
      block = r.block;
      part = r.part;
      held = r.held;
      beside = r.beside;
      agrees =
          r.agrees;
    };
  }

  -- two calls that begin with the same arguments
  pub begun_tracks : (p : ℕ) (args : Words) → R (begun p (selected.code_of olds p) args)
      (begun p (selected.code_of news p) args)
  begun_tracks p args =
      let old = selected.code_of olds p in
      let new = selected.code_of news p in
      record {
        proc = refl;
        args = refl;
        aggregates = ap (λ n. replicate n None) (all p).aggregates;
        block = refl;
        part = (all p).code 0;
        held = length-map old.vars (argument args);
        beside = length-map new.vars (argument args);
        agrees = λ v counts.
            ap (λ h. valued (kind_of new (to p v)) h) (begun_read args new.vars (to p v))
            ∙ ap (λ k. valued k (argument args k)) ((all p).entry v counts.here)
            ∙ sym (ap (λ h. valued (kind_of old v) h) (begun_read args old.vars v));
      }
