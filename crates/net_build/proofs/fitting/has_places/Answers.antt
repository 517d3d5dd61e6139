use Rattle.std.proofs.Common.{ℕ, ◌≡◌, ◌∙◌, Some, None, length, refl, sym, ap, arith}
use Rattle.std.proofs.lemmas.Bool.{eqb-true, eq-eqb}
use Rattle.pra_list.proofs.Options.{some_same}
use Rattle.net_form.specs.Strands.{strands}
use Rattle.net_form.specs.Tables.{all_tables}
use Rattle.vc_live.specs.Rows.{live_at}
use Rattle.vc_live.proofs.SizedLemmas.{refused}
use Rattle.net_build.proofs.Fits.{fits, fits_back}
use Rattle.net_build.proofs.LiveAt.{is_live}
use Rattle.net_build.proofs.fitting.has_places.Goals as goal

pub pass_all-requires-clause-live : goal.pass_all-requires-clause-live
pass_all-requires-clause-live c = is_live c.args.code.now c.args.live.now c.requires.live

pub returns-in-Some : goal.returns-in-Some
returns-in-Some c =
    let lists = c.args.lists.now in
    let ss = strands all_tables c.args.code.now (live_at c.args.live.now) in
    let number = c.in-Some.number in
    let many = c.len.ensures in
    let went = sym c.in-Some.is ∙ c.pass_all.ensures in (
      λ yes. fits lists ss lists 0 refl
          (ap Some (sym (eqb-true number c.len.result yes ∙ many)) ∙ went),
      λ has. eq-eqb number c.len.result (some_same number (length lists)
          (went ∙ sym (fits_back lists ss lists 0 refl (omega arith) has)) ∙ sym many),
    )

pub returns-in-None : goal.returns-in-None
returns-in-None c =
    let lists = c.args.lists.now in
    let ss = strands all_tables c.args.code.now (live_at c.args.live.now) in
    refused (λ has. not_there (length lists) (sym c.in-None.is ∙ c.pass_all.ensures
    ∙ sym (fits_back lists ss lists 0 refl (omega arith) has)))
  where
    not_there : (n : ℕ) → None ≡ Some n → ⊥
    not_there n is = cc
