use Rattle.std.proofs.Common.{refl}
use Rattle.std.proofs.lemmas.Bool.{false≢true}
use Rattle.net_form.specs.Flow.{flow}
use Rattle.net_gate.specs.declared.broken.Broken.TheVariants.{Mask, Edge as Across, Bundle, Memory}
use Rattle.net_gate.specs.declared.broken.Broken.TheVariants.{Tie}
use Rattle.net_gate.proofs.WhatBreaks.{not_admitted, all_kept, clean_masks, clean_across}
use Rattle.net_gate.proofs.WhatBreaks.{clean_bundles, clean_pairs, first_mask, first_across}
use Rattle.net_gate.proofs.WhatBreaks.{first_bundle, first_pair, first_tie}
use Rattle.net_gate.proofs.admission.admitted.Goals as goal

pub returns-in-Some-clause-first : goal.returns-in-Some-clause-first
returns-in-Some-clause-first c =
    let f = flow c.args.net.now c.args.routes.now in
    first_mask c.args.net.now f c.in-Some.strand c.in-Some.layer c.in-Some.ensures

pub returns-in-Some-clause-admitted : goal.returns-in-Some-clause-admitted
returns-in-Some-clause-admitted c =
    let f = flow c.args.net.now c.args.routes.now in
    let broken = first_mask c.args.net.now f c.in-Some.strand c.in-Some.layer c.in-Some.ensures in (
      λ ok. absurd (false≢true ok),
      λ admitted. absurd (not_admitted c.args.net.now f (Mask c.in-Some.strand c.in-Some.layer)
          broken.0 admitted),
    )

pub returns-in-Some-first_edge-clause-first : goal.returns-in-Some-first_edge-clause-first
returns-in-Some-first_edge-clause-first c =
    let f = flow c.args.net.now c.args.routes.now in
    let one = clean_masks c.args.net.now f c.in_default.ensures in
    first_across c.args.net.now f c.in-Some-first_edge.strand c.in-Some-first_edge.layer one
    c.in-Some-first_edge.ensures

pub returns-in-Some-first_edge-clause-admitted : goal.returns-in-Some-first_edge-clause-admitted
returns-in-Some-first_edge-clause-admitted c =
    let f = flow c.args.net.now c.args.routes.now in
    let one = clean_masks c.args.net.now f c.in_default.ensures in
    let broken = first_across c.args.net.now f c.in-Some-first_edge.strand
    c.in-Some-first_edge.layer one c.in-Some-first_edge.ensures in (
      λ ok. absurd (false≢true ok),
      λ admitted. absurd (not_admitted c.args.net.now f
          (Across c.in-Some-first_edge.strand c.in-Some-first_edge.layer) broken.0 admitted),
    )

pub returns-in-Some-first_bundle-clause-first : goal.returns-in-Some-first_bundle-clause-first
returns-in-Some-first_bundle-clause-first c =
    let f = flow c.args.net.now c.args.routes.now in
    let one = clean_masks c.args.net.now f c.in_default.ensures in
    let two = clean_across c.args.net.now f one c.in_default-first_edge.ensures in
    first_bundle c.args.net.now f c.in-Some-first_bundle.bundle.layer
    c.in-Some-first_bundle.bundle.register two c.in-Some-first_bundle.ensures.first

pub returns-in-Some-first_bundle-clause-admitted : goal.returns-in-Some-first_bundle-clause-admitted
returns-in-Some-first_bundle-clause-admitted c =
    let f = flow c.args.net.now c.args.routes.now in
    let one = clean_masks c.args.net.now f c.in_default.ensures in
    let two = clean_across c.args.net.now f one c.in_default-first_edge.ensures in
    let broken = first_bundle c.args.net.now f c.in-Some-first_bundle.bundle.layer
    c.in-Some-first_bundle.bundle.register two c.in-Some-first_bundle.ensures.first in (
      λ ok. absurd (false≢true ok),
      λ admitted. absurd (not_admitted c.args.net.now f
          (Bundle c.in-Some-first_bundle.bundle.layer c.in-Some-first_bundle.bundle.register)
          broken.0
          admitted),
    )

pub returns-in-Some-first_pair-clause-first : goal.returns-in-Some-first_pair-clause-first
returns-in-Some-first_pair-clause-first c =
    let f = flow c.args.net.now c.args.routes.now in
    let one = clean_masks c.args.net.now f c.in_default.ensures in
    let two = clean_across c.args.net.now f one c.in_default-first_edge.ensures in
    let three = clean_bundles c.args.net.now f two c.in_default-first_bundle.ensures.first in
    first_pair c.args.net.now f c.in-Some-first_pair.pair three c.in-Some-first_pair.ensures

pub returns-in-Some-first_pair-clause-admitted : goal.returns-in-Some-first_pair-clause-admitted
returns-in-Some-first_pair-clause-admitted c =
    let f = flow c.args.net.now c.args.routes.now in
    let one = clean_masks c.args.net.now f c.in_default.ensures in
    let two = clean_across c.args.net.now f one c.in_default-first_edge.ensures in
    let three = clean_bundles c.args.net.now f two c.in_default-first_bundle.ensures.first in
    let broken = first_pair c.args.net.now f c.in-Some-first_pair.pair three
    c.in-Some-first_pair.ensures in (
      λ ok. absurd (false≢true ok),
      λ admitted. absurd (not_admitted c.args.net.now f (Memory c.in-Some-first_pair.pair)
          broken.0 admitted),
    )

pub returns-in-Some-first_tie-clause-first : goal.returns-in-Some-first_tie-clause-first
returns-in-Some-first_tie-clause-first c =
    let f = flow c.args.net.now c.args.routes.now in
    let one = clean_masks c.args.net.now f c.in_default.ensures in
    let two = clean_across c.args.net.now f one c.in_default-first_edge.ensures in
    let three = clean_bundles c.args.net.now f two c.in_default-first_bundle.ensures.first in
    let four = clean_pairs c.args.net.now f three c.in_default-first_pair.ensures in
    first_tie c.args.net.now f c.in-Some-first_tie.tie four c.in-Some-first_tie.ensures

pub returns-in-Some-first_tie-clause-admitted : goal.returns-in-Some-first_tie-clause-admitted
returns-in-Some-first_tie-clause-admitted c =
    let f = flow c.args.net.now c.args.routes.now in
    let one = clean_masks c.args.net.now f c.in_default.ensures in
    let two = clean_across c.args.net.now f one c.in_default-first_edge.ensures in
    let three = clean_bundles c.args.net.now f two c.in_default-first_bundle.ensures.first in
    let four = clean_pairs c.args.net.now f three c.in_default-first_pair.ensures in
    let broken = first_tie c.args.net.now f c.in-Some-first_tie.tie four c.in-Some-first_tie.ensures
    in (
      λ ok. absurd (false≢true ok),
      λ admitted. absurd (not_admitted c.args.net.now f (Tie c.in-Some-first_tie.tie) broken.0
          admitted),
    )

pub returns-clause-admitted : goal.returns-clause-admitted
returns-clause-admitted c =
    let all = all_kept c.args.net.now c.args.routes.now c.requires.net c.requires.routes
    c.in_default.ensures c.in_default-first_edge.ensures
    c.in_default-first_bundle.ensures.first c.in_default-first_pair.ensures
    c.in_default-first_tie.ensures in
    (λ _. all, λ _. refl)
