use Rattle.std.proofs.Common.{ℕ, ◌≡◌, Bool, List, [], cond, ap, sym, ◌∙◌, arith, rules}
use Rattle.std.specs.List.{list_all}
use Rattle.std.proofs.lemmas.List.{get_or_read}
use Rattle.pra_base.specs.declared.ids.Place.TheVariants.{Mem, Const}
use Rattle.pra_base.specs.Places.{number, allows}
use Rattle.net_form.specs.declared.net.Strand.{Strand}
use Rattle.net_form.specs.Admitted.{no_strand, strand_at}
use Rattle.al_edge.proofs.AtHome.{constant_home, value_home}
use Rattle.al_edge.proofs.yielding.stays_home.Goals as goal

pub returns-then-t : goal.returns-then-t
returns-then-t c = λ all.
    let net = c.args.net.now in
    let s = c.args.strand in
    let t = get_or_read net.strands s c.index-t.result.now c.requires.strand c.index-t.ensures
    no_strand in
    let is = sym (ap (λ (u : Strand). u.constant) t) ∙ c.if-t.true in
    constant_home net s c.requires.net c.requires.strand
    (ap (λ (b : Bool). list_all (λ m. allows m (number (cond b Const Mem))) (strand_at net s).masks)
    is
    ∙ ap (λ (u : Strand). list_all (λ m. allows m (number Const)) u.masks) (sym t)
    ∙ ap (λ (ms : List ℕ). list_all (λ m. allows m (number Const)) ms) (sym c.as_slice.ensures)
    ∙ sym c.in_all.ensures ∙ all) is

pub returns : goal.returns
returns c = λ all.
    let net = c.args.net.now in
    let s = c.args.strand in
    let table = c.args.table.now in
    let t = get_or_read net.strands s c.index-t.result.now c.requires.strand c.index-t.ensures
    no_strand in
    let is = sym (ap (λ (u : Strand). u.constant) t) ∙ c.if-t.false in
    let rows = c.requires.table.rows in
    let row = get_or_read table s c.index-table-strand.result
    (omega (arith, rows, c.requires.strand)) c.index-table-strand.is [] in
    let empty : c.index-table-strand.result ≡ [] = search rules in
    value_home net s c.requires.net c.requires.strand
    (ap (λ (b : Bool). list_all (λ m. allows m (number (cond b Const Mem))) (strand_at net s).masks)
    is
    ∙ ap (λ (u : Strand). list_all (λ m. allows m (number Mem)) u.masks) (sym t)
    ∙ ap (λ (ms : List ℕ). list_all (λ m. allows m (number Mem)) ms) (sym c.as_slice-2.ensures)
    ∙ sym c.in_all-2.ensures ∙ all) table c.requires.table (sym row ∙ empty)
