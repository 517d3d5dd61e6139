-- Rungs make rungs: two of them one after the other, and with less to climb.
use Rattle.std.proofs.Common.{◌≡◌, inl, inr, subst, ◌⊎◌}
use Rattle.ob_read.specs.Ladder.{Then, Stops, IsRung}

module _ {A B C F : Type 0} (First : A → B → Type 0) (Stop : A → F → Type 0)
    (Second : B → C → Type 0) (Above : B → F → Type 0)
    (low : IsRung First Stop) (high : IsRung Second Above) where
  one_way : (a : A) (b c : C) → Then First Second a b → Then First Second a c → b ≡ c
  one_way a b c s t =
      let same : s.between ≡ t.between = low.one_way a s.between t.between s.below t.below in
      high.one_way t.between b c (subst (λ (m : B). Second m b) same s.above) t.above

  one_fault : (a : A) (f g : F) → Stops Stop First Above a f → Stops Stop First Above a g → f ≡ g
  one_fault a f g (inl s) (inl t) = low.one_fault a f g s t
  one_fault a f g (inl s) (inr t) = absurd (low.never_both a t.between f t.below s)
  one_fault a f g (inr s) (inl t) = absurd (low.never_both a s.between g s.below t)
  one_fault a f g (inr s) (inr t) =
      let same : s.between ≡ t.between = low.one_way a s.between t.between s.below t.below in
      high.one_fault t.between f g (subst (λ (m : B). Above m f) same s.above) t.above

  never_both : (a : A) (c : C) (f : F) → Then First Second a c → Stops Stop First Above a f → ⊥
  never_both a c f s (inl stop) = low.never_both a s.between f s.below stop
  never_both a c f s (inr t) =
      let same : s.between ≡ t.between = low.one_way a s.between t.between s.below t.below in
      high.never_both t.between c f (subst (λ (m : B). Second m c) same s.above) t.above

  pub over : IsRung (Then First Second) (Stops Stop First Above)
  over = record { one_way = one_way; one_fault = one_fault; never_both = never_both }

pub narrowed : {A B F : Type 0} (Climb Less : A → B → Type 0) (Stop : A → F → Type 0) →
    ((a : A) (b : B) → Less a b → Climb a b) → IsRung Climb Stop → IsRung Less Stop
narrowed Climb Less Stop weaker rung = record {
  one_way = λ a b c s t. rung.one_way a b c (weaker a b s) (weaker a c t);
  one_fault = rung.one_fault;
  never_both = λ a b f climb s. rung.never_both a b f (weaker a b climb) s;
}

-- where it does not stop at the first of two rungs
pub passed : {S T : Type 0} → S ⊎ T → (S → ⊥) → T
passed (inl s) shut = absurd (shut s)
passed (inr t) shut = t

pub by_way : {A B C : Type 0} {First : A → B → Type 0} {Second : B → C → Type 0} {a : A} {c : C}
    (m : B) → First a m → Second m c → Then First Second a c
by_way m below above = record { between = m; below = below; above = above }
