use Rattle.std.proofs.Common.{ℕ, suc, ◌≡◌, ◌+◌, ◌-◌, ◌++◌, ◌∷◌, List, [], length, get_or, take}
use Rattle.std.proofs.Common.{drop, Some, None, Option, refl, sym, ap, ap₂, ◌∙◌, arith}
use Rattle.std.specs.Prelude.{unwrap_or, ℤ, slice_set}
use Rattle.std.proofs.lemmas.List.{get_or_read, length-set}
use Rattle.pra_base.specs.declared.ids.Place.{Place}
use Rattle.pra_base.specs.declared.ids.Place.TheVariants.{Eax, Const}
use Rattle.pra_base.specs.declared.ids.VarId.{VarId}
use Rattle.pra_base.specs.Code.{kind_of}
use Rattle.net_form.specs.declared.net.Strand.{Strand}
use Rattle.net_form.specs.Admitted.{strand_at, no_strand}
use Rattle.net_form.specs.Flow.{Edge, edges}
use Rattle.net_form.specs.Index.{first_layer}
use Rattle.net_form.proofs.Layers.{in_layers}
use Rattle.pl_moves.specs.declared.transfer.Pair.{Pair}
use Rattle.pl_place.specs.Behind.{from_place, constant}
use Rattle.pl_build.specs.Layers.{layer, pairs_into}
use Rattle.pl_build.proofs.Gathered.{pair, put_first, path_step}
use Rattle.pl_build.proofs.layers.add_path.Goals as goal

from_as : (o : Option Place) → unwrap_or o Const ≡ from_place o
from_as None = refl
from_as (Some p) = refl

pub loop-rest-preserved : goal.loop-rest-preserved
loop-rest-preserved c =
    let code = c.args.code.now in
    let net = c.args.net.now in
    let s = c.args.strand in
    let t = strand_at net s in
    let base = first_layer net.blocks t.block.0 in
    let layers = c.loop-rest.layers.items in
    let at = c.loop-rest.at in
    let rest = c.loop-rest.rest.now in
    let others = take (length rest - 1) (drop 1 rest) in
    let q = get_or rest 0 Eax in
    let i = c.loop-rest.invariant in
    let after = i.after in
    let until = i.until in
    let long = i.long in
    let some = c.in-len1-up.len_at_least in
    let within = in_layers net c.requires.net s c.requires.strand in
    let path = c.requires.path in
    let room = c.requires.layers in
    let next : at + 1 - base ≡ suc (at - base) = omega (arith, after) in
    let e : Edge = record { strand = s; layer = at - base; from = c.loop-rest.from; to = q } in
    let strand = get_or_read net.strands s c.index.result.now c.requires.strand c.index.ensures
    no_strand in
    let var : c.index.result.now.var ≡ t.var = ap (λ (u : Strand). u.var) strand in
    let number : c.constant-constant.result ≡ constant (kind_of code t.var.0) =
    c.constant-constant.ensures
    ∙ ap constant (c.kind_of.ensures ∙ ap (λ (v : VarId). kind_of code v.0) var) in
    let x : Pair = record {
      var = c.index.result.now.var;
      from = c.unwrap_or.result;
      to = q;
      constant = c.constant-constant.result;
    } in
    let same : x ≡ pair code net e =
    ap₂ (λ (v : VarId) (p : Place). let y : Pair =
    record { var = v; from = p; to = q; constant = c.constant-constant.result } in y) var
    (c.unwrap_or.ensures ∙ from_as c.loop-rest.from)
    ∙ ap (λ (n : Option ℤ). let y : Pair =
    record { var = t.var; from = from_place c.loop-rest.from; to = q; constant = n } in y)
    number in
    record {
      long = ap length c.in_ok-put.ensures ∙ length-set layers at (layer layers at ++ x ∷ [])
          ∙ long;
      after = omega (arith, after);
      until = omega (arith, until, some);
      adds = λ n.
          ap (λ (ls : List (List Pair)). layer ls n ++ pairs_into code net n
          (edges s (at + 1 - base) (Some q) others)) c.in_ok-put.ensures
          ∙ ap (λ (k : ℕ). layer (slice_set layers at (layer layers at ++ x ∷ [])) n
          ++ pairs_into code net n (edges s k (Some q) others)) next
          ∙ put_first code net layers at e x (edges s (suc (at - base)) (Some q) others)
          (omega (arith, until, some, within, path, room, long)) (omega (arith, after)) same n
          ∙ ap (λ (ps : List Pair). layer layers n ++ ps)
          (sym (path_step code net s (at - base) n c.loop-rest.from rest Eax some))
          ∙ i.adds n;
    }
