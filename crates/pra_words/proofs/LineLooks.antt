-- What a word looks like, and what the simple command sees of it.
use Rattle.std.proofs.Common.{◌≡◌, ℕ, ◌==◌, ◌<◌, Bool, true, false, if◌then◌else◌, [], ◌∷◌, Option}
use Rattle.std.proofs.Common.{Some, None, refl, sym, ap, arith, ◌∙◌}
use Rattle.std.proofs.lemmas.Bool.Decides.{nat_tests}
use Rattle.std.specs.Str.{IsUtf8, bytes_eq, chars, encode_utf8_all}
use Rattle.std.proofs.lemmas.Str.{IsUtf8-drop, IsCharBoundary-after_ascii, encodes-chars}
use Rattle.clap.specs.Lexer.{long_of, short_of}
use Rattle.pra_words.specs.CommandLine.{Text, Look, plain, ends, named, dashed, look}
use Rattle.pra_words.specs.CommandLine.{look_behind_one, look_behind_two}

abbrev pub dashes : Text
dashes = 45 ∷ 45 ∷ []

pub data Seen (w : Text) : Look → Type 0 where
  is_plain : bytes_eq w dashes ≡ false → long_of w ≡ None → short_of w ≡ None → Seen w plain
  is_end : bytes_eq w dashes ≡ true → Seen w ends
  is_named : {name : Text} {v : Option Text} → bytes_eq w dashes ≡ false → long_of w ≡
      Some (name, v) → Seen w (named name v)
  is_dashed : {x : ℕ} {xs : Text} → bytes_eq w dashes ≡ false → long_of w ≡ None → short_of w ≡
      Some (x ∷ xs) → (IsUtf8 w → chars (x ∷ xs) ≡ [] → ⊥) → Seen w dashed

spelled : (b x : ℕ) (xs : Text) → true ≡ (b == 45) → IsUtf8 (b ∷ x ∷ xs) → chars (x ∷ xs) ≡ [] → ⊥
spelled b x xs e u none =
    let is : b ≡ 45 = grind (arith, nat_tests) in
    let low : b < 128 = omega arith in
    let rest : IsUtf8 (x ∷ xs) = IsUtf8-drop (b ∷ x ∷ xs) 1 u
    (IsCharBoundary-after_ascii (b ∷ x ∷ xs) 0 u (omega arith) low) in
    nothing (sym (ap encode_utf8_all none) ∙ encodes-chars (x ∷ xs) rest)
  where
    nothing : [] ≡ x ∷ xs → ⊥
    nothing e = cc

pub seen : (w : Text) → Seen w (look w)
seen [] = is_plain refl refl refl
seen (b ∷ bs) = first (b == 45) refl
  where
    second : (c : ℕ) (cs : Text) → (b == 45) ≡ true → (u : Bool) → (c == 45) ≡ u →
        Seen (b ∷ c ∷ cs) (if u then look_behind_two cs else dashed)
    second c cs e false f =
        is_dashed {x = c} {xs = cs} (rw (e, f) refl) (rw (e, f) refl) (rw (e, f) refl)
        (spelled b c cs (sym e))
    second c [] e true f = is_end (rw (e, f) refl)
    second c (d ∷ ds) e true f = is_named (rw (e, f) refl) (rw (e, f) refl)

    whole : (cs : Text) → (b == 45) ≡ true → Seen (b ∷ cs) (look_behind_one cs)
    whole [] e = is_plain (rw e refl) (rw e refl) (rw e refl)
    whole (c ∷ cs) e = second c cs e (c == 45) refl

    first : (t : Bool) → (b == 45) ≡ t →
        Seen (b ∷ bs) (if t then look_behind_one bs else plain)
    first false e = is_plain (rw e refl) (rw e refl) (rw e refl)
    first true e = whole bs e
