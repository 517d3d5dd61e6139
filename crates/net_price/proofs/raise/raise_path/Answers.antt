use Rattle.std.proofs.Common.{ℕ, ◌≡◌, ◌+◌, ◌-◌, ◌∙◌, length, get_or, take, drop, None, refl, sym}
use Rattle.std.proofs.Common.{arith, ap}
use Rattle.std.proofs.lemmas.List.{get_or_read}
use Rattle.net_form.specs.declared.net.Strand.{Strand}
use Rattle.pra_base.specs.declared.ids.Place.TheVariants.{Eax}
use Rattle.net_form.specs.Admitted.{strand_at, no_strand}
use Rattle.net_form.specs.Index.{first_layer}
use Rattle.net_price.specs.Raised.{raised}
use Rattle.net_price.proofs.Raised.{raised-twice, raised-none, words_raised}
use Rattle.net_price.proofs.Raised.{place_uses, uses, uses_step, uses_none}
use Rattle.net_price.proofs.raise.raise_path.Goals as goal

pub loop-rest-init : goal.loop-rest-init
loop-rest-init c =
    let net = c.args.net.now in
    let s = c.args.strand in
    let t = get_or_read net.strands s c.index.result.now c.requires.strand c.index.ensures
    no_strand in
    let first = ap (λ (u : Strand). u.first) t in
    let value = c.entry_layer.ensures.value in
    let base = first_layer net.blocks (strand_at net s).block.0 in
    let at : c.entry_layer.result + c.index.result.now.first - base ≡ (strand_at net s).first
    = omega (arith, first, value) in
    record {
      long = refl;
      words = c.requires.words;
      begun = omega (arith, value);
      layer = omega (arith, value, first);
      raised = λ k lt. ap (λ (n : ℕ). raised c.args.s (get_or c.args.caps.now k 0)
          (uses net k s n None c.args.path.now)) at;
    }

pub raise_place-requires : goal.raise_place-requires
raise_place-requires c =
    let net = c.args.net.now in
    let inv = c.loop-rest.invariant in
    let layer = inv.layer in
    let long = inv.long in
    let path = c.requires.path in
    let caps = c.requires.caps in
    let value = c.entry_layer.ensures.value in
    let within = c.entry_layer.ensures.within in
    let most = c.requires.net.layers in
    let some = c.in-len1-up.len_at_least in
    record {
      small = omega (arith, layer, path, value, within, most, some);
      layer = omega (arith, layer, path, value, within, some, caps, long);
      words = inv.words;
    }

pub loop-rest-preserved : goal.loop-rest-preserved
loop-rest-preserved c =
    let net = c.args.net.now in
    let s = c.args.strand in
    let inv = c.loop-rest.invariant in
    let begun = inv.begun in
    let base = first_layer net.blocks (strand_at net s).block.0 in
    let layer = c.loop-rest.layer in
    let rest = c.loop-rest.rest.now in
    let others = take (length rest - 1) (drop 1 rest) in
    let next : layer - base + 1 ≡ layer + 1 - base = omega (arith, begun) in
    let step : (k : ℕ) → uses net k s (layer - base) None rest
    ≡ place_uses layer (get_or rest 0 Eax) k + uses net k s (layer + 1 - base) None others
    = λ k. uses_step net k s (layer - base) layer rest Eax c.in-len1-up.len_at_least
    (omega (arith, begun))
    ∙ ap (λ (n : ℕ). place_uses layer (get_or rest 0 Eax) k + uses net k s n None others)
    next in
    record {
      long = c.raise_place.ensures.long ∙ inv.long;
      words = words_raised c.args.s (place_uses layer (get_or rest 0 Eax)) c.loop-rest.caps
          c.raise_place.new.caps c.raise_place.ensures.long c.raise_place.ensures.raised;
      begun = omega (arith, begun);
      layer = let was = inv.layer in omega (arith, was);
      raised = λ k lt.
          let long = inv.long in
          let old = get_or c.loop-rest.caps k 0 in
          let more = uses net k s (layer + 1 - base) None others in
          let here = place_uses layer (get_or rest 0 Eax) k in
          ap (λ (n : ℕ). raised c.args.s n more)
          (c.raise_place.ensures.raised k (omega (arith, lt, long)))
          ∙ raised-twice c.args.s old here more
          ∙ ap (raised c.args.s old) (sym (step k))
          ∙ inv.raised k lt;
    }

pub returns-clause-raised : goal.returns-clause-raised
returns-clause-raised c = λ k lt.
    let net = c.args.net.now in
    let s = c.args.strand in
    let inv = c.loop-rest.invariant in
    let base = first_layer net.blocks (strand_at net s).block.0 in
    let none = uses_none net k s (c.loop-rest.layer - base) c.loop-rest.rest.now
    c.in_default.len_below in
    sym (raised-none c.args.s (get_or c.loop-rest.caps k 0) _ (inv.words k) none)
    ∙ inv.raised k lt
