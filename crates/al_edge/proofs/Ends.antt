-- Where no strand has a path yet, and where each has.
use Rattle.std.proofs.Common.{ℕ, zero, suc, ◌≡◌, ◌≤◌, List, [], length, replicate, count_by}
use Rattle.std.proofs.Common.{slice_index, refl, sym, ap, ◌∙◌, arith}
use Rattle.std.specs.Int.{bit_at}
use Rattle.std.proofs.lemmas.List.{length-replicate}
use Rattle.std.proofs.lemmas.Nat.Bits.{bit_at-zero}
use Rattle.pra_base.specs.declared.ids.Place.{Place}
use Rattle.net_form.specs.declared.net.Net.{Net}
use Rattle.net_form.specs.Flow.{flow, flow_from, AreRoutes}
use Rattle.net_form.specs.Admitted.{uses_bundle, IsAdmitted}
use Rattle.net_form.specs.Formed.{IsFormed}
use Rattle.net_form.specs.Rooms.{layer_total}
use Rattle.net_laws.specs.Homes.{HasRoom}
use Rattle.al_edge.specs.HomeRoutes.{AreHome}
use Rattle.al_edge.specs.HomePaths.{IsSoFar}
use Rattle.al_edge.proofs.Uses.{no_paths}
use Rattle.al_edge.proofs.Whole.{are_routes, admitted, are_home}

abbrev nothing : ℕ
nothing = 0

pub nobody_yet : (net : Net) (regs : List ℕ) (paths : List (List Place)) →
    regs ≡ replicate (layer_total net.blocks) 0 → paths ≡ [] → IsSoFar net regs paths 0
nobody_yet net regs paths free none = record {
  room = ap length free ∙ length-replicate (layer_total net.blocks) nothing;
  count = ap length none;
  marks = λ n r. ap (λ l. bit_at (slice_index l n) r) free ∙ ap (λ b. bit_at b r)
      (zeros (layer_total net.blocks) n) ∙ bit_at-zero r
      ∙ sym (ap (count_by (uses_bundle net n r))
      (ap (flow_from 0 net.strands) none ∙ no_paths 0 net.strands));
  placed = λ x lt. absurd (let z = ap length none in omega (arith, z, lt));
}
  where
    zeros : (k n : ℕ) → slice_index (replicate k nothing) n ≡ nothing
    zeros zero n = refl
    zeros (suc k) zero = refl
    zeros (suc k) (suc n) = zeros k n

module _ (net : Net) (formed : IsFormed net) (room : HasRoom net) (regs : List ℕ)
    (paths : List (List Place)) (s : ℕ) (so : IsSoFar net regs paths s)
    (reached : length net.strands ≤ s) (within : s ≤ length net.strands) where
  every : length paths ≡ length net.strands
  every = let n = so.count in omega (arith, n, reached, within)

  pub whole_routes : AreRoutes net (record { places = paths })
  whole_routes = are_routes net formed room paths regs so.marks so.placed every

  pub whole_admitted : IsAdmitted net (flow net (record { places = paths }))
  whole_admitted = admitted net formed room paths regs so.marks so.placed every

  pub whole_home : AreHome net (record { places = paths })
  whole_home = are_home net formed room paths regs so.marks so.placed every
