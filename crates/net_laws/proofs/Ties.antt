-- What the ties of a network join: a strand at its block's exit, and one of the same variable at
-- the entry of a block that
-- follows.
use Rattle.std.proofs.Common.{ℕ, ◌≡◌, ◌+◌, ◌<◌, true, ◌&&◌, cond, eqb, List, length, get_or, All}
use Rattle.std.proofs.Common.{sym, ap, ◌∙◌, arith, Some, None}
use Rattle.std.specs.Prelude.{IfSome}
use Rattle.std.specs.List.{enumerate_from}
use Rattle.std.proofs.lemmas.Bool.{and_parts, eqb-true}
use Rattle.std.proofs.lemmas.List.{get_or-map, length-map}
use Rattle.std.proofs.lemmas.List.Elements.{All-weaker}
use Rattle.std.proofs.lemmas.List.FromFn.{get_or-enumerate_from, length-enumerate_from}
use Rattle.pra_list.proofs.Comprehensions.{All-filter_map, All-flat_map, IfSome-test}
use Rattle.pra_base.specs.declared.code.VProc.{VProc}
use Rattle.pra_base.specs.Code.{end_of}
use Rattle.net_form.specs.declared.net.Strand.{Strand}
use Rattle.net_form.specs.declared.net.Tie.{Tie}
use Rattle.net_form.specs.declared.net.Net.{Net}
use Rattle.net_form.specs.Tables.{all_tables}
use Rattle.net_form.specs.Strands.{Lives, exit_layer, strands}
use Rattle.net_form.specs.Network.{ties, ties_from, is_joined, leads_to, grouped, net_of}
use Rattle.net_form.specs.Admitted.{strand_at, no_strand}

module _ (code : VProc) (live : Lives) (least : ℕ → ℕ) where
  abbrev n : Net
  n = net_of all_tables code live least

  abbrev tied : List Tie
  tied = ties code (strands all_tables code live)

  -- a strand with its number
  record IsNumbered (x : ℕ × Strand) : Type 0 where
    within : x.0 < length n.strands
    is : strand_at n x.0 ≡ grouped tied least x

  all_numbered : All IsNumbered (enumerate_from 0 (strands all_tables code live))
  all_numbered k e lt =
      let ss = strands all_tables code live in
      let long = length-enumerate_from 0 ss in
      let same = length-map (enumerate_from 0 ss) (grouped tied least) in
      let y = get_or (enumerate_from 0 ss) k e in
      let number : y.0 ≡ k = ap (λ (x : ℕ × Strand). x.0)
      (get_or-enumerate_from 0 ss k e (omega (arith, long, lt)))
      ∙ (let z : 0 + k ≡ k = omega arith in z) in record {
        within = omega (arith, number, same, lt);
        is = ap (strand_at n) number ∙ get_or-map (grouped tied least) (enumerate_from 0 ss) k e
            no_strand lt;
      }

  pub record IsJoin (t : Tie) : Type 0 where
    pub from : t.from < length n.strands
    pub to : t.to < length n.strands
    pub last : (strand_at n t.from).last ≡ exit_layer code (strand_at n t.from).block.0
    pub first : (strand_at n t.to).first ≡ 0
    pub var : (strand_at n t.from).var.0 ≡ (strand_at n t.to).var.0
    pub leads : leads_to (end_of code (strand_at n t.from).block.0) (strand_at n t.to).block.0
        ≡ true

  join : (s t : ℕ × Strand) → IsNumbered s → IsNumbered t → is_joined code s.1 t.1 ≡ true
      → IsJoin (record { from = s.0; to = t.0 })
  join s t x y joined =
      let one = and_parts (eqb s.1.last (exit_layer code s.1.block.0) && eqb t.1.first 0 && eqb
      s.1.var.0 t.1.var.0) (leads_to (end_of code s.1.block.0) t.1.block.0) joined in
      let two = and_parts (eqb s.1.last (exit_layer code s.1.block.0) && eqb t.1.first 0)
      (eqb s.1.var.0 t.1.var.0) one.0 in
      let three = and_parts (eqb s.1.last (exit_layer code s.1.block.0)) (eqb t.1.first 0) two.0 in
      record {
        from = x.within;
        to = y.within;
        last = ap (λ (u : Strand). u.last) x.is ∙ eqb-true s.1.last (exit_layer code s.1.block.0)
            three.0 ∙ sym (ap (λ (u : Strand). exit_layer code u.block.0) x.is);
        first = ap (λ (u : Strand). u.first) y.is ∙ eqb-true t.1.first 0 three.1;
        var = ap (λ (u : Strand). u.var.0) x.is ∙ eqb-true s.1.var.0 t.1.var.0 two.1
            ∙ sym (ap (λ (u : Strand). u.var.0) y.is);
        leads = ap (λ (u : Strand). leads_to (end_of code u.block.0) (strand_at n t.0).block.0) x.is
            ∙ ap (λ (u : Strand). leads_to (end_of code s.1.block.0) u.block.0) y.is ∙ one.1;
      }

  pub all_joins : All IsJoin n.ties
  all_joins =
      let ss = strands all_tables code live in
      All-flat_map IsJoin (ties_from code ss) (enumerate_from 0 ss)
      (All-weaker IsNumbered (λ s. All IsJoin (ties_from code ss s)) (λ s x.
      All-filter_map IsJoin (λ (t : ℕ × Strand). cond (is_joined code s.1 t.1)
      (Some (record { from = s.0; to = t.0 })) None) (enumerate_from 0 ss)
      (All-weaker IsNumbered
      (λ t. IfSome (cond (is_joined code s.1 t.1) (Some (record { from = s.0; to = t.0 })) None)
      IsJoin) (λ t y.
      IfSome-test IsJoin (is_joined code s.1 t.1) (record { from = s.0; to = t.0 }) (join s t x y))
      (enumerate_from 0 ss) all_numbered))
      (enumerate_from 0 ss) all_numbered)
