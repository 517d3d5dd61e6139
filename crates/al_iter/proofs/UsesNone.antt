-- A path in memory of a strand that has no end of a memory pair uses nothing, and what uses nothing
-- is taken and released by nobody.
use Rattle.std.proofs.Common.{ℕ, suc, ◌≡◌, ◌+◌, ◌<◌, Bool, true, false, eqb, List, [], ◌∷◌}
use Rattle.std.proofs.Common.{length, get_or, count_by, Option, Some, None, All, refl, sym, ap, ◌∙◌}
use Rattle.std.proofs.Common.{subst, arith}
use Rattle.std.proofs.lemmas.Bool.{and_right}
use Rattle.std.proofs.lemmas.List.{nil_from_length}
use Rattle.std.proofs.lemmas.List.Elements.{All-tail}
use Rattle.pra_list.proofs.Counts.{bit, count-cons}
use Rattle.pra_base.specs.declared.ids.Place.{Place}
use Rattle.pra_base.specs.declared.ids.Place.TheVariants.{Mem}
use Rattle.net_form.specs.declared.net.Net.{Net}
use Rattle.net_form.specs.declared.net.PairEnd.{PairEnd}
use Rattle.net_form.specs.declared.taken.Taken.{Taken}
use Rattle.net_form.specs.Admitted.{strand_at, layer_of, in_register, uses_bundle}
use Rattle.net_form.specs.Flow.{Edge, edges}
use Rattle.net_form.specs.Formed.{IsFormed}
use Rattle.net_form.specs.InUse.{Releases, Takes, mark, pair_mark, pair_uses, register_uses}
use Rattle.net_form.specs.InUse.{in_memory, brings_end}
use Rattle.net_form.proofs.Marking.{after-none, mark-small, pair_mark-small}
use Rattle.net_form.proofs.PairUses.{strand_ends, pairs_end, all_brought}
use Rattle.net_dual.specs.Paths.{path_edges}
use Rattle.al_iter.specs.Staying.{UseNothing}

module _ (net : Net) (n r : ℕ) where
  no_register : (s l : ℕ) (p : Option Place) (ps : List Place) → All (λ q. q ≡ Mem) ps
      → count_by (uses_bundle net n r) (edges s l p ps) ≡ 0
  no_register s l p [] all = refl
  no_register s l p (q ∷ qs) all = subst
      (λ (x : Place). count_by (uses_bundle net n r) (edges s l p (x ∷ qs)) ≡ 0)
      (sym (all 0 q (omega arith)))
      (let e : Edge = record { strand = s; layer = l; from = p; to = Mem } in
      let more = no_register s (suc l) (Some Mem) qs
      (All-tail (λ (x : Place). x ≡ Mem) q qs all) in
      let count = count-cons (uses_bundle net n r) e (edges s (suc l) (Some Mem) qs) in
      let none = ap (λ (b : Bool). bit b)
      (and_right (eqb (layer_of net e) n) (in_register r Mem) refl) in
      omega (arith, more, count, none))

pub in_memory_unused : (net : Net) (formed : IsFormed net) (s : ℕ) → s < length net.strands
    → (ps : List Place) → (strand_at net s).first + length ps ≡ (strand_at net s).last + 1
    → get_or net.index.pairs (s + 1) 0 ≡ get_or net.index.pairs s 0 → All (λ p. p ≡ Mem) ps
    → UseNothing net (path_edges net s ps)
in_memory_unused net formed s lt ps long same all = record {
  registers = λ n r. no_register net n r s (strand_at net s).first None ps all;
  pairs = λ k in_.
      let count = pairs_end net formed s lt in
      let none = nil_from_length (strand_ends net s) (omega (arith, count, same)) in
      sym (all_brought net s k ps formed lt in_ long)
      ∙ ap (λ (es : List PairEnd). count_by
      (brings_end (in_memory ps (strand_at net s).first) k) es) none;
}

module _ (net : Net) (f : List Edge) (taken : Taken) (unused : UseNothing net f) where
  pub releases_nothing : Releases net f taken taken
  releases_nothing = record {
    registers = λ n r. sym (after-none false (mark taken.regs n r) (register_uses net f n r)
        (mark-small taken.regs n r) (unused.registers n r));
    pairs = λ k in_. sym (after-none false (pair_mark taken.mems k) (pair_uses net f k)
        (pair_mark-small taken.mems k) (unused.pairs k in_));
  }

  pub takes_nothing : Takes net f taken taken
  takes_nothing = record {
    registers = λ n r. sym (after-none true (mark taken.regs n r) (register_uses net f n r)
        (mark-small taken.regs n r) (unused.registers n r));
    pairs = λ k in_. sym (after-none true (pair_mark taken.mems k) (pair_uses net f k)
        (pair_mark-small taken.mems k) (unused.pairs k in_));
  }
