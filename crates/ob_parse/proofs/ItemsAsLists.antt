-- Repetitions whose tree is the list of their items.
use Rattle.std.proofs.Common.{◌≡◌, List, [], ◌++◌, ap, ◌∙◌, sym, append_assoc}

pub put : {A : Type 0} (xs ys us zs : List A) → ys ≡ xs ++ us → xs ++ (us ++ zs) ≡ ys ++ zs
put xs ys us zs push = sym (ap (λ ws. ws ++ zs) push ∙ append_assoc xs us zs)

pub put_first : {A : Type 0} (xs ys us zs : List A) → xs ≡ [] → ys ≡ xs ++ us →
    us ++ zs ≡ ys ++ zs
put_first xs ys us zs none push = ap (λ ws. ws ++ (us ++ zs)) (sym none) ∙ put xs ys us zs push
