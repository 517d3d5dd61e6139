-- The four draws of a statement.
use Rattle.std.proofs.Common.{◌≡◌, ℕ, ◌/◌, ◌%◌, ap, ◌∙◌, sym}
use Rattle.pra_gen.specs.declared.statement.Form.{Form}
use Rattle.pra_gen.specs.declared.statement.Statement.{Statement}
use Rattle.pra_gen.specs.Draws.{next_state, state_after, draw}
use Rattle.pra_gen.specs.Module.{form_of, statement_from}
use Rattle.pra_gen.proofs.Rows.{state_after-zero, state_after-suc}

pub first : (x a : ℕ) → a ≡ next_state x → a ≡ state_after x 1
first x a e = e ∙ ap next_state (sym (state_after-zero x)) ∙ sym (state_after-suc x 0)

pub next : (x n a b : ℕ) → a ≡ state_after x n → b ≡ next_state a → b ≡ next_state (state_after x n)
next x n a b e f = f ∙ ap next_state e

pub second : (x a b : ℕ) → a ≡ state_after x 1 → b ≡ next_state a → b ≡ state_after x 2
second x a b e f = next x 1 a b e f ∙ sym (state_after-suc x 1)

pub third : (x a b : ℕ) → a ≡ state_after x 2 → b ≡ next_state a → b ≡ state_after x 3
third x a b e f = next x 2 a b e f ∙ sym (state_after-suc x 2)

pub fourth : (x a b : ℕ) → a ≡ state_after x 3 → b ≡ next_state a → b ≡ state_after x 4
fourth x a b e f = next x 3 a b e f ∙ sym (state_after-suc x 3)

-- what a state gives
pub gives : (x n a r : ℕ) → a ≡ state_after x n → r ≡ a / 65536 → r ≡ draw x n
gives x n a r e f = f ∙ ap (λ s. s / 65536) e

abbrev whole : Form → ℕ → ℕ → ℕ → Statement
whole f j k l = record { form = f; target = j % 8; left = k % 8; right = l % 8 }

pub statement_is : (x i j k l : ℕ) (f : Form) → f ≡ form_of (i % 4) → i ≡ draw x 1 → j ≡ draw x 2 →
    k ≡ draw x 3 → l ≡ draw x 4 →
    ◌≡◌ {A = Statement} (record { form = f; target = j % 8; left = k % 8; right = l % 8 })
    (statement_from x)
statement_is x i j k l f ef ei ej ek el =
    ap (λ f. whole f j k l) (ef ∙ ap (λ i. form_of (i % 4)) ei)
    ∙ ap (λ j. whole (form_of (draw x 1 % 4)) j k l) ej
    ∙ ap (λ k. whole (form_of (draw x 1 % 4)) (draw x 2) k l) ek
    ∙ ap (λ l. whole (form_of (draw x 1 % 4)) (draw x 2) (draw x 3) l) el
