use Rattle.std.proofs.Common.{ℕ, ◌≡◌, ◌-◌, ◌∙◌, List, length, get_or, ap, arith}
use Rattle.std.proofs.lemmas.List.{get_or_read, get_or_default}
use Rattle.pra_base.specs.declared.ids.Place.{Place}
use Rattle.pra_base.specs.declared.ids.Place.TheVariants.{Eax}
use Rattle.net_form.specs.declared.net.Strand.{Strand}
use Rattle.net_form.specs.Admitted.{strand_at, no_strand}
use Rattle.net_form.proofs.RoutesConserve.{as_many}
use Rattle.net_dual.specs.Paths.{path_in}
use Rattle.net_dual.proofs.Strands.{each_long}
use Rattle.net_price.proofs.Tied.{count_there}
use Rattle.net_price.proofs.ties.place_at.Goals as goal

pub at-requires : goal.at-requires
at-requires c =
    let many = as_many c.args.net.now.strands c.args.family.now.places c.requires.family in
    omega (arith, many, c.requires.strand)

pub bounds-at-at : goal.bounds-at-at
bounds-at-at c =
    let net = c.args.net.now in
    let family = c.args.family.now in
    let s = c.args.strand in
    let first = ap (λ (u : Strand). u.first) (get_or_read net.strands s c.index.result.now
    c.requires.strand c.index.ensures no_strand) in
    let size = ap (λ (ps : List Place). length ps) c.at.ensures in
    let long = each_long net family c.requires.family s c.requires.strand in
    omega (arith, first, size, long, c.requires.first, c.requires.last)

pub returns : goal.returns
returns c q =
    let net = c.args.net.now in
    let family = c.args.family.now in
    let s = c.args.strand in
    let l = c.args.layer in
    let first = ap (λ (u : Strand). u.first) (get_or_read net.strands s c.index.result.now
    c.requires.strand c.index.ensures no_strand) in
    let long = each_long net family c.requires.family s c.requires.strand in
    let at : l - c.index.result.now.first ≡ l - (strand_at net s).first = omega (arith, first) in
    let p = get_or c.at.result.now (l - c.index.result.now.first) Eax in
    let is : p ≡ get_or (path_in family s) (l - (strand_at net s).first) p
    = ap (λ (n : ℕ). get_or c.at.result.now n Eax) at
    ∙ ap (λ (ps : List Place). get_or ps (l - (strand_at net s).first) Eax) c.at.ensures
    ∙ get_or_default (path_in family s) (l - (strand_at net s).first) Eax p
    (omega (arith, long, c.requires.first, c.requires.last)) in
    count_there net family c.requires.family s l p q c.requires.strand c.requires.first
    c.requires.last is
