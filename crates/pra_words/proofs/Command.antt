-- The simple command: clap tells all of it, and what it tells is what the words say.
use Rattle.std.proofs.Common.{◌≡◌, ◌≢◌, ◌∙◌, true, List, [], ◌∷◌, None, ⊎_elim, ap, refl, sym}
use Rattle.std.specs.Prelude.{String, string_bytes}
use Rattle.std.specs.List.{AllByRecursion as Each}
use Rattle.std.specs.Str.{IsUtf8}
use Rattle.std.specs.declared.alloc.Global.{Global}
use Rattle.std.proofs.lemmas.Str.{IsUtf8-had}
use Rattle.clap.specs.Walk.{rows_of}
use Rattle.clap.specs.Values.{kind_of}
use Rattle.clap.specs.Matches.{first_value}
use Rattle.clap.specs.declared.parser.matches.Found.{Found}
use Rattle.clap.specs.declared.error.Error.{Error}
use Rattle.clap.specs.declared.error.kind.ErrorKind.TheVariants.{OutOfMemory}
use Rattle.clap.specs.Kinds.{Kinds, HasKind}
use Rattle.clap.specs.Simple.{App, is_simple, matches_of}
use Rattle.clap.specs.Faults.{fault_of, is_simple_and_free}
use Rattle.clap.proofs.OnLiterals.{clap_on_literals}
use Rattle.clap.proofs.WalkLemmas.{first_value-rows}
use Rattle.pra_words.specs.Texts.{word_name}
use Rattle.pra_words.specs.Words.{texts}
use Rattle.pra_words.specs.CommandLine.{line_in, line_of}
use Rattle.pra_words.specs.Command.{command, line_of_rows, unless}
use Rattle.pra_words.proofs.LineRead.{line_read}

pub is_free : is_simple_and_free command ≡ true
unfolding clap_on_literals
is_free = refl

pub is_plain : is_simple command ≡ true
unfolding clap_on_literals
is_plain = refl

-- the values are the same, as the matches give them and as their rows do
pub by_rows : (f : Found) → line_in (λ word. first_value f (word_name word)) ≡
    line_of_rows (rows_of f)
by_rows f = λ i. line_in (λ word. first_value-rows f (word_name word) i)

texts_are_utf8 : (words : List (String Global)) → Each IsUtf8 (texts words)
texts_are_utf8 [] = tt
texts_are_utf8 (w ∷ ws) = (IsUtf8-had (string_bytes w) w.ok, texts_are_utf8 ws)

-- the words are taken
pub taken : (words : List (String Global)) (a : App) → a ≡ command → fault_of a (texts words) ≡ [] →
    line_of_rows (matches_of a (texts words)) ≡ line_of (texts words)
taken words a is e =
    ap (λ x. line_of_rows (matches_of x (texts words))) is
    ∙ sym (ap (λ k. unless k (line_of_rows (matches_of command (texts words))))
    (ap (λ x. fault_of x (texts words)) (sym is) ∙ e))
    ∙ line_read (texts words) (texts_are_utf8 words)

-- the words are refused
pub refused : (words : List (String Global)) (a : App) → a ≡ command → (e : Error) →
    HasKind (fault_of a (texts words)) e → kind_of e ≢ OutOfMemory → None ≡ line_of (texts words)
refused words a is e has other = by (fault_of a (texts words))
    (ap (λ x. fault_of x (texts words)) (sym is)) has ∙ line_read (texts words)
    (texts_are_utf8 words)
  where
    by : (x : Kinds) → fault_of command (texts words) ≡ x → HasKind x e →
        None ≡ unless (fault_of command (texts words))
        (line_of_rows (matches_of command (texts words)))
    by [] q h = ⊎_elim (λ m. absurd (other m)) (λ n. absurd n) h
    by (y ∷ ys) q h = sym (ap (λ k. unless k (line_of_rows (matches_of command (texts words)))) q)
