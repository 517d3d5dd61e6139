-- Each token list is a module of depth at most 64, or there is a token at which it stops being one.
use Rattle.std.proofs.Common.{◌≡◌, ℕ, ◌+◌, ◌*◌, ◌^◌, ◌<◌, ◌⊎◌, inl, inr, List, [], ◌∷◌, length}
use Rattle.std.proofs.Common.{Option, Some, None, refl, arith, lit≤}
use Rattle.ob_syntax.specs.declared.token.Kind.{Kind}
use Rattle.ob_syntax.specs.declared.token.Token.{Token}
use Rattle.ob_syntax.specs.declared.tree.Module.{Module as ModuleTree}
use Rattle.ob_syntax.specs.Grammar.{Module}
use Rattle.ob_syntax.specs.ChosenRule.{first}
use Rattle.ob_syntax.specs.Whole.{kinds, most_nesting, IsTreeOf, StopsAt, DeepensAt}
use Rattle.ob_parse.specs.declared.cursor.Parser.{Parser}
use Rattle.ob_parse.specs.Reading.{left, place}
use Rattle.ob_parse.proofs.RefusalPlace.{found_tree, refused_place, deep_place, behind_place}
use Rattle.ob_parse.proofs.EachReads.{Outcome, reads, stops, deepens, each_reads}

abbrev TreeOrRefusal : List Kind → Type 0
TreeOrRefusal ks =
    ((t : ModuleTree) × IsTreeOf most_nesting ks t)
    ⊎ (((k : ℕ) × StopsAt ks k) ⊎ ((k : ℕ) × DeepensAt ks k))

no_token : (ks : List Kind) → first ks ≡ None → ks ≡ []
no_token [] e = refl
no_token (k ∷ ks) e = cc

of_outcome : (ks : List Kind) (p : Parser) → left p ≡ ks → place p ≡ 0
    → Outcome Module most_nesting p → TreeOrRefusal ks
of_outcome ks p from at (reads q t r) = by (first (left q)) refl
  where
    by : (o : Option Kind) → first (left q) ≡ o → TreeOrRefusal ks
    by None is = inl (t, found_tree most_nesting ks p q from at t r (no_token (left q) is))
    by (Some k) is =
        let b = behind_place most_nesting ks p q from at t k r is in
        inr (inl (place q, record { place = b.0; none = b.1 }))
of_outcome ks p from at (stops q k h) =
    let a = refused_place most_nesting ks p q from at k h in
    inr (inl (k, record { place = a.0; none = a.1 }))
of_outcome ks p from at (deepens q k h) =
    let a = deep_place most_nesting ks p q from at k h in
    inr (inr (k, record { place = a.0; within = a.1; deeper = a.2 }))

-- before the first token
start : (tokens : List Token) → length tokens < 2 ^ 32
    → (p : Parser) × (left p ≡ kinds tokens) × (place p ≡ 0)
unfolding left
start tokens few = (
  record {
    alloc = record { memory = record { seal = tt } };
    tokens = record { ref_ptr = (0, 0); now = tokens };
    at = 0;
    in_range = omega arith;
    few = few;
  },
  refl,
  refl,
)

pub tree_or_refusal : (tokens : List Token) → length tokens < 2 ^ 32 → TreeOrRefusal (kinds tokens)
tree_or_refusal tokens few =
    let s = start tokens few in
    of_outcome (kinds tokens) s.0 s.1 s.2
    (each_reads (64 * length (left s.0) + 64) Module most_nesting s.0 (omega arith) (lit≤ tt))
