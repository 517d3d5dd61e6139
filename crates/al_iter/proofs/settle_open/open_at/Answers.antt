use Rattle.std.proofs.Common.{◌≡◌, ◌+◌, ◌-◌, ◌<◌, ◌≤◌, ◌∙◌, ◌&&◌, ℕ, Bool, true, false, not, eqb}
use Rattle.std.proofs.Common.{length, get_or, ap, refl, arith}
use Rattle.std.specs.Int.{bit_at}
use Rattle.std.proofs.lemmas.Bool.{and_from}
use Rattle.std.proofs.lemmas.List.{get_or_read}
use Rattle.pra_base.specs.Places.{number, allows, has_register, register_of, lies_in}
use Rattle.net_form.specs.declared.net.Net.{Net}
use Rattle.net_form.specs.declared.net.Strand.{Strand}
use Rattle.net_form.specs.Admitted.{strand_at, no_strand}
use Rattle.net_form.specs.Formed.{IsFormed}
use Rattle.net_laws.proofs.Bits.{allows_meet}
use Rattle.net_laws.specs.Homes.{mask_in}
use Rattle.net_path.proofs.OpenPlaces.{allows_without}
use Rattle.al_laws.specs.Parts.{layer_at}
use Rattle.al_iter.proofs.settle_open.open_at.Goals as goal

mask_there : (net : Net) (formed : IsFormed net) (s layer : ℕ) → s < length net.strands
    → (strand_at net s).first ≤ layer → layer ≤ (strand_at net s).last
    → (own : Strand) → own ≡ strand_at net s → (m : ℕ)
    → m ≡ get_or own.masks (layer - own.first) m → m ≡ mask_in (strand_at net s) layer
mask_there net formed s layer lt after before own is m there =
    let masks = (formed.strands s no_strand lt).masks in
    let first = ap (λ (t : Strand). t.first) is in
    let long = ap (λ (t : Strand). length t.masks) is in
    get_or_read own.masks (layer - own.first) m
    (omega (arith, masks, after, before, first, long)) there 0
    ∙ ap (λ (t : Strand). get_or t.masks (layer - t.first) 0) is

not_in : (byte q : ℕ) → (has_register q ≡ true → bit_at byte (register_of q) ≡ 0)
    → not (lies_in byte q) ≡ true
not_in byte q free = by (has_register q) free
  where
    by : (b : Bool) → (b ≡ true → bit_at byte (register_of q) ≡ 0)
        → not (b && eqb (bit_at byte (register_of q)) 1) ≡ true
    by true h = ap (λ n. not (eqb n 1)) (h refl)
    by false h = refl

pub returns-then-meet-eq0 : goal.returns-then-meet-eq0
returns-then-meet-eq0 c = λ p was is.
    let net = c.args.net.now in
    let s = c.args.strand in
    let q = number p in
    let own = get_or_read net.strands s c.index-own.result.now c.requires.strand
    c.index-own.ensures no_strand in
    let mask = mask_there net c.requires.net s c.args.layer c.requires.strand c.requires.after
    c.requires.before c.index-own.result.now own c.index.result.now c.index.ensures in
    ap (λ (m : ℕ). allows m q) c.meet-open.ensures
    ∙ allows_meet c.args.places c.index.result.now q
    ∙ and_from (allows c.args.places q) (allows c.index.result.now q) was
    (ap (λ (m : ℕ). allows m q) mask ∙ is.mask)

pub returns : goal.returns
returns c = λ p was is.
    let net = c.args.net.now in
    let regs = c.args.taken.now.regs in
    let s = c.args.strand in
    let layer = c.args.layer in
    let q = number p in
    let own = get_or_read net.strands s c.index-own.result.now c.requires.strand
    c.index-own.ensures no_strand in
    let mask = mask_there net c.requires.net s layer c.requires.strand c.requires.after
    c.requires.before c.index-own.result.now own c.index.result.now c.index.ensures in
    let opened : allows c.meet-open.result q ≡ true =
    ap (λ (m : ℕ). allows m q) c.meet-open.ensures
    ∙ allows_meet c.args.places c.index.result.now q
    ∙ and_from (allows c.args.places q) (allows c.index.result.now q) was
    (ap (λ (m : ℕ). allows m q) mask ∙ is.mask) in
    let busy = c.index-2.result.now in
    let within : c.entry_layer.result + layer < length regs =
    omega (arith, c.entry_layer.ensures.within, c.requires.room.regs, c.requires.before) in
    let busy_is : busy ≡ get_or regs (layer_at net s layer) 0 =
    get_or_read regs (c.entry_layer.result + layer) busy within c.index-2.ensures 0
    ∙ ap (λ (k : ℕ). get_or regs (k + layer) 0) c.entry_layer.ensures.value in
    ap (λ (m : ℕ). allows m q) c.without.ensures
    ∙ allows_without c.meet-open.result busy p
    ∙ and_from (allows c.meet-open.result q) (not (lies_in busy q)) opened
    (ap (λ (m : ℕ). not (lies_in m q)) busy_is
    ∙ not_in (get_or regs (layer_at net s layer) 0) q is.free)
