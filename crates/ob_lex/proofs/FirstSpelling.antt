-- The first of some entries that has a spelling.
use Rattle.std.proofs.Common.{◌≡◌, ℕ, ◌<◌, List, length, get_or, sym, ap, ◌∙◌, Bor, Contains}
use Rattle.std.proofs.lemmas.List.{get_or-map, length-map}
use Rattle.ob_syntax.specs.declared.token.Kind.{Kind}
use Rattle.ob_lex.specs.Spellings.{spellings}

module _ (entries : List (Kind × Bor (List ℕ))) (k : ℕ) (d : Kind × Bor (List ℕ)) (word : List ℕ)
    (in_range : k < length entries) where
  -- the entry at hand has the word's spelling
  pub entry_found : (get_or entries k d).1.now ≡ word → Contains (spellings entries)
      ((get_or entries k d).0, word)
  entry_found is =
      let x : Kind × List ℕ = ((get_or entries k d).0, word) in
      let same : get_or (spellings entries) k x ≡ x =
      get_or-map (λ (e : Kind × Bor (List ℕ)). (e.0, e.1.now)) entries k d x in_range
      ∙ ap (λ w. ((get_or entries k d).0, w)) is in
      (k, simp length-map in_range, same)

  -- the entry at hand has another spelling
  pub entry_passed : ((get_or entries k d).1.now ≡ word → ⊥) → (e : Kind × List ℕ) →
      (get_or (spellings entries) k e).1 ≡ word → ⊥
  entry_passed other e is =
      other (ap (λ (x : Kind × List ℕ). x.1)
      (sym (get_or-map (λ (e : Kind × Bor (List ℕ)). (e.0, e.1.now)) entries k d e in_range)) ∙ is)
