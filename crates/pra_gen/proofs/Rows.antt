-- Texts in a row and draws one behind the other, as loops reach them.
use Rattle.std.proofs.Common.{◌≡◌, ℕ, ◌+◌, List, [], ◌++◌, refl, ap, suc, zero, arith, sym, ◌∙◌}
use Rattle.std.proofs.Common.{append_assoc, append-nil}
use Rattle.pra_gen.specs.Draws.{next_state, state_after}
use Rattle.pra_gen.specs.Module.{in_a_row}

pub in_a_row-zero : (f : ℕ → List ℕ) → in_a_row f 0 ≡ []
unfolding in_a_row
in_a_row-zero f = refl

in_a_row-suc : (f : ℕ → List ℕ) (n : ℕ) → in_a_row f (suc n) ≡ in_a_row f n ++ f n
unfolding in_a_row
in_a_row-suc f n = refl

pub none_yet : (start : List ℕ) (f : ℕ → List ℕ) → start ≡ start ++ in_a_row f 0
none_yet start f = sym (append-nil start) ∙ ap (λ r. start ++ r) (sym (in_a_row-zero f))

pub one_more : (start before after : List ℕ) (f : ℕ → List ℕ) (n : ℕ) → before ≡ start
    ++ in_a_row f n → after ≡ before ++ f n → after ≡ start ++ in_a_row f (n + 1)
one_more start before after f n so_far then_one =
    let more : in_a_row f (n + 1) ≡ in_a_row f n ++ f n = ap (in_a_row f) (omega arith)
    ∙ in_a_row-suc f n in
    then_one ∙ ap (λ b. b ++ f n) so_far ∙ append_assoc start (in_a_row f n) (f n)
    ∙ ap (λ r. start ++ r) (sym more)

regroup : (t a b c d e : List ℕ) → ((((t ++ a) ++ b) ++ c) ++ d) ++ e ≡ t
    ++ ((((a ++ b) ++ c) ++ d) ++ e)
regroup t a b c d e = simp append_assoc

-- a text behind which five others were written
pub five_pieces : (t u v w x y a b c d e : List ℕ) → u ≡ t ++ a → v ≡ u ++ b → w ≡ v ++ c →
    x ≡ w ++ d → y ≡ x ++ e → y ≡ t ++ ((((a ++ b) ++ c) ++ d) ++ e)
five_pieces t u v w x y a b c d e ea eb ec ed ee =
    ee ∙ ap (λ z. z ++ e) (ed ∙ ap (λ z. z ++ d) (ec ∙ ap (λ z. z ++ c) (eb ∙ ap (λ z. z ++ b) ea)))
    ∙ regroup t a b c d e

pub state_after-zero : (x : ℕ) → state_after x 0 ≡ x
unfolding state_after
state_after-zero x = refl

pub state_after-suc : (x n : ℕ) → state_after x (suc n) ≡ next_state (state_after x n)
unfolding state_after
state_after-suc x n = refl

-- draws go on where others ended
pub state_after-state_after : (x a b : ℕ) → state_after (state_after x a) b ≡ state_after x (a + b)
state_after-state_after x a zero = state_after-zero (state_after x a) ∙ ap (state_after x)
    (omega arith)
state_after-state_after x a (suc b) =
    state_after-suc (state_after x a) b
    ∙ ap next_state (state_after-state_after x a b)
    ∙ sym (state_after-suc x (a + b))
    ∙ ap (state_after x) (omega arith)
