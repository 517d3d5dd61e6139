-- The members of the first strands.
use Rattle.std.proofs.Common.{ℕ, ◌≡◌, ◌+◌, ◌<◌, ◌≤◌, List, [], ◌∷◌, ◌++◌, map, length, get_or, take}
use Rattle.std.proofs.Common.{append-nil, append_assoc, sym, ap, ◌∙◌, arith}
use Rattle.std.specs.List.{flat_map, enumerate_from}
use Rattle.std.proofs.lemmas.Grind.{flat_map-append}
use Rattle.std.proofs.lemmas.List.{take_more, take_all, map-append}
use Rattle.std.proofs.lemmas.List.FromFn.{length-enumerate_from, get_or-enumerate_from}
use Rattle.net_form.specs.declared.net.Strand.{Strand}
use Rattle.net_form.specs.declared.net.BlockEnd.TheVariants.{Entry, Exit}
use Rattle.net_form.specs.Index.{Member, member, members}

abbrev pub of_strand : ℕ × Strand → List Member
of_strand s = member s.1.entry_group s.0 Entry ++ member s.1.exit_group s.0 Exit

-- of the first n strands
abbrev pub members_below : List Strand → ℕ → List Member
members_below ss n = flat_map of_strand (take n (enumerate_from 0 ss))

pub members_more : (ss : List Strand) (n : ℕ) (t : Strand) → n < length ss → t ≡ get_or ss n t →
    members_below ss (n + 1) ≡ members_below ss n ++ of_strand (n, t)
members_more ss n t lt is =
    let long = length-enumerate_from 0 ss in
    ap (flat_map of_strand) (take_more (enumerate_from 0 ss) n (0, t) (omega (arith, lt, long)))
    ∙ flat_map-append of_strand (take n (enumerate_from 0 ss))
    (get_or (enumerate_from 0 ss) n (0, t) ∷ [])
    ∙ ap (λ l. members_below ss n ++ l)
    (append-nil (of_strand (get_or (enumerate_from 0 ss) n (0, t))))
    ∙ ap (λ (s : ℕ × Strand). members_below ss n ++ of_strand s)
    (get_or-enumerate_from 0 ss n (0, t) lt)
    ∙ ap (λ k. members_below ss n ++ of_strand (k, get_or ss n t))
    (let e : 0 + n ≡ n = omega arith in e)
    ∙ ap (λ u. members_below ss n ++ of_strand (n, u)) (sym is)

pub members_all : (ss : List Strand) (n : ℕ) → length ss ≤ n → members_below ss n ≡ members ss
members_all ss n le = let long = length-enumerate_from 0 ss in
    ap (flat_map of_strand) (take_all n (enumerate_from 0 ss) (omega (arith, le, long)))

-- what one list of each member comes to, its entry pushed first and then its exit
pub pushed : {Y : Type 0} (f : Member → Y) (ss : List Strand) (n : ℕ) (t : Strand)
    (one two three : List Y) → n < length ss → t ≡ get_or ss n t
    → one ≡ map f (members_below ss n) → two ≡ one ++ map f (member t.entry_group n Entry) →
    three ≡ two ++ map f (member t.exit_group n Exit)
    → three ≡ map f (members_below ss (n + 1))
pushed f ss n t one two three lt is was first second =
    second ∙ ap (λ l. l ++ map f (member t.exit_group n Exit))
    (first ∙ ap (λ l. l ++ map f (member t.entry_group n Entry)) was)
    ∙ append_assoc (map f (members_below ss n)) (map f (member t.entry_group n Entry))
    (map f (member t.exit_group n Exit))
    ∙ ap (λ l. map f (members_below ss n) ++ l)
    (sym (map-append f (member t.entry_group n Entry) (member t.exit_group n Exit)))
    ∙ sym (map-append f (members_below ss n) (of_strand (n, t)))
    ∙ sym (ap (map f) (members_more ss n t lt is))
