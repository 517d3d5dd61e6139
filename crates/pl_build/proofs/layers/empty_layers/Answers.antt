use Rattle.std.proofs.Common.{ℕ, zero, suc, ◌≡◌, ◌++◌, List, [], ◌∷◌, length, get_or, refl, ap, ◌∙◌}
use Rattle.std.proofs.Common.{arith}
use Rattle.std.proofs.lemmas.List.{get_or_read}
use Rattle.pl_moves.specs.declared.transfer.Pair.{Pair}
use Rattle.pl_build.specs.Layers.{layer}
use Rattle.pl_build.proofs.Layered.{layers_long, layers_at, all_layers}
use Rattle.pl_build.proofs.layers.empty_layers.Goals as goal

pub index-requires : goal.index-requires
index-requires c = let long = layers_long c.args.net.now c.requires in let many = c.len.ensures in
    omega (arith, long, many)

one_empty : (xs : List (List Pair)) → ((n : ℕ) → layer xs n ≡ []) → (n : ℕ) →
    layer (xs ++ [] ∷ []) n ≡ []
one_empty [] h zero = refl
one_empty [] h (suc n) = refl
one_empty (x ∷ xs) h zero = h 0
one_empty (x ∷ xs) h (suc n) = one_empty xs (λ k. h (suc k)) n

pub loop-alloc-preserved : goal.loop-alloc-preserved
loop-alloc-preserved c = record {
  few = omega arith;
  empty = λ n. ap (λ (xs : List (List Pair)). layer xs n)
      (c.in_ok-push.ensures.items ∙ ap (λ (ys : List Pair). c.loop-alloc.layers.items ++ ys ∷ [])
      c.new.ensures) ∙ one_empty c.loop-alloc.layers.items c.loop-alloc.invariant.empty n;
}

pub returns-clause-long : goal.returns-clause-long
returns-clause-long c =
    let net = c.args.net.now in
    let long = layers_long net c.requires in
    let many = c.len.ensures in
    let value = get_or_read net.index.layers c.len.result c.index.result.now
    (omega (arith, long, many)) c.index.ensures 0
    ∙ ap (λ (n : ℕ). get_or net.index.layers n 0) many
    ∙ layers_at net c.requires (length net.blocks) (omega arith)
    ∙ all_layers net.blocks in
    let few = c.loop-alloc.invariant.few in
    omega (arith, value, few)
