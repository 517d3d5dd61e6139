-- A whole text has one token list or one first fault; the tokens' spans slice their spellings from
-- it.
use Rattle.std.proofs.Common.{◌≡◌, ℕ, zero, suc, ◌+◌, ◌-◌, ◌≤◌, ◌<◌, List, [], ◌∷◌, ◌++◌, length}
use Rattle.std.proofs.Common.{take, drop, refl, sym, ap, ap₂, subst, ◌∙◌, ◌⊎◌, inl, inr, ⊎_elim}
use Rattle.std.proofs.Common.{arith, add_assoc, append_assoc, append-nil, length-append}
use Rattle.std.proofs.Common.{length-drop, drop-drop, take_at, drop_at, slice_range, All}
use Rattle.std.proofs.lemmas.List.Elements.{All-nil, All-cons, All-weaker}
use Rattle.std.proofs.lemmas.List.Kept.{AllPairs-cons}
use Rattle.ob_syntax.specs.declared.token.Token.{Token}
use Rattle.ob_syntax.specs.Tokens.{Comment, comment_end, byte, inner, comment_text, Piece, space}
use Rattle.ob_syntax.specs.Tokens.{comment, token, piece_text, IsPiece, pieces_text, ArePieces}
use Rattle.ob_syntax.specs.Tokens.{piece_width, tokens_from, Tokens, Fault, number_too_large}
use Rattle.ob_syntax.specs.Tokens.{open_comment, bad_byte, an_integer, BeginsFault, FirstFault}
use Rattle.ob_syntax.specs.Tokens.{Spells, SlicesSource}
use Rattle.ob_syntax.proofs.Comments.{shorter_rest}
use Rattle.ob_syntax.proofs.Pieces.{one_piece, one_fault, no_piece_at_fault, HasPiece, Stops, next}
use Rattle.ob_syntax.proofs.Pieces.{spelling_some, spelling_of}

pub shorter_behind : (p : Piece) (rest : List ℕ) → IsPiece p rest → length rest <
    length (piece_text p rest)
shorter_behind (space b) rest h = omega arith
shorter_behind (comment c) rest h = let inside = shorter_rest c rest in omega arith
shorter_behind (token kind w) rest h = let some = spelling_some w (spelling_of kind w h.0) in
    simp length-append (omega arith)

-- a text in pieces, up to its end or its first fault
abbrev pub Cut : List ℕ → Type 0
Cut text = (ps : List Piece) × (rest : List ℕ) × ArePieces ps rest × (text ≡ pieces_text ps rest) ×
    Stops rest

cut_up_to : (n : ℕ) (text : List ℕ) → length text ≤ n → Cut text
cut_up_to zero [] le = ([], [], tt, refl, inl refl)
cut_up_to zero (b ∷ text) le = absurd (omega arith)
cut_up_to (suc n) text le =
    ⊎_elim
    (λ (h : HasPiece text).
    let shorter = shorter_behind h.0 h.1 h.2 in
    let size : length text ≡ length (piece_text h.0 h.1) = ap length h.3 in
    let later = cut_up_to n h.1 (omega arith) in (
      h.0 ∷ later.0,
      later.1,
      (subst (IsPiece h.0) later.3 h.2, later.2),
      h.3 ∙ ap (piece_text h.0) later.3,
      later.4,
    ))
    (λ (s : Stops text). ([], text, tt, refl, s))
    (next text)

-- where a text stops, no piece begins
no_piece_at_stop : (p : Piece) (rest text : List ℕ) → IsPiece p rest → text ≡ piece_text p rest →
    Stops text → ⊥
no_piece_at_stop p rest text h e (inl none) = let shorter = shorter_behind p rest h in
    let size : 0 ≡ length (piece_text p rest) = ap length (sym none ∙ e) in omega arith
no_piece_at_stop p rest text h e (inr f) = no_piece_at_fault p f.0 rest text h f.1 e

-- the pieces of a text are determined
pub one_cut : (ps qs : List Piece) (t u : List ℕ) → ArePieces ps t → ArePieces qs u → Stops t →
    Stops u → pieces_text ps t ≡ pieces_text qs u → (ps ≡ qs) × (t ≡ u)
one_cut [] [] t u h i s s' e = (refl, e)
one_cut [] (q ∷ qs) t u h i s s' e = absurd (no_piece_at_stop q (pieces_text qs u) t i.0 e s)
one_cut (p ∷ ps) [] t u h i s s' e = absurd (no_piece_at_stop p (pieces_text ps t) u h.0 (sym e) s')
one_cut (p ∷ ps) (q ∷ qs) t u h i s s' e =
    let first = one_piece p q (pieces_text ps t) (pieces_text qs u) h.0 i.0 e in
    let rest = one_cut ps qs t u h.1 i.1 s s' first.1 in
    (ap₂ (λ x xs. x ∷ xs) first.0 rest.0, rest.1)

longer_text : (ps : List Piece) (rest : List ℕ) → ArePieces ps rest → length rest ≤
    length (pieces_text ps rest)
longer_text [] rest h = omega arith
longer_text (p ∷ ps) rest h = let shorter = shorter_behind p (pieces_text ps rest) h.0 in
    let later = longer_text ps rest h.1 in omega arith

fault_some : (f : Fault) (text : List ℕ) → BeginsFault f text → text ≡ [] → ⊥
fault_some number_too_large text h e = let some = spelling_some h.0 (an_integer h.3) in
    let size : length (h.0 ++ h.1) ≡ 0 = ap length (sym h.2 ∙ e) in let both =
    length-append h.0 h.1 in omega arith
fault_some open_comment text h e = let same : 40 ∷ (42 ∷ h.0) ≡ [] = sym h.1 ∙ e in cc
fault_some bad_byte text h e = let same : h.0 ∷ h.1 ≡ [] = sym h.2 ∙ e in cc

pub tokens_or_fault : (bytes : List ℕ) → ((list : List Token) × Tokens bytes list) ⊎
    ((fault : Fault) × (at : ℕ) × FirstFault bytes fault at)
tokens_or_fault bytes =
    let cut = cut_up_to (length bytes) bytes (omega arith) in
    ⊎_elim
    (λ (whole : cut.1 ≡ []). inl (
      tokens_from 0 cut.0,
      record {
        pieces = cut.0;
        are_pieces = subst (ArePieces cut.0) whole cut.2;
        text =
            cut.3 ∙ ap (pieces_text cut.0) whole;
        tokens = refl;
      },
    ))
    (λ (f : (fault : Fault) × BeginsFault fault cut.1).
    let longer = longer_text cut.0 cut.1 cut.2 in
    let size : length bytes ≡ length (pieces_text cut.0 cut.1) = ap length cut.3 in
    inr (
      f.0,
      length bytes - length cut.1,
      record {
        pieces = cut.0;
        rest = cut.1;
        are_pieces = cut.2;
        text = cut.3;
        place =
            omega arith;
        begins = f.1;
      },
    ))
    cut.4

pub one_list : (bytes : List ℕ) (list other : List Token) → Tokens bytes list → Tokens bytes other →
    list ≡ other
one_list bytes list other a b =
    let one = one_cut a.pieces b.pieces [] [] a.are_pieces b.are_pieces (inl refl) (inl refl)
    (sym a.text ∙ b.text) in
    a.tokens ∙ ap (tokens_from 0) one.0 ∙ sym b.tokens

pub one_first_fault : (bytes : List ℕ) (fault other : Fault) (at place : ℕ) →
    FirstFault bytes fault at → FirstFault bytes other place → (fault ≡ other) × (at ≡ place)
one_first_fault bytes fault other at place a b =
    let one = one_cut a.pieces b.pieces a.rest b.rest a.are_pieces b.are_pieces
    (inr (fault, a.begins)) (inr (other, b.begins)) (sym a.text ∙ b.text) in
    let size : length a.rest ≡ length b.rest = ap length one.1 in (
      one_fault fault other b.rest (subst (BeginsFault fault) one.1 a.begins) b.begins,
      omega (arith, a.place, b.place),
    )

pub no_fault_in_tokens : (bytes : List ℕ) (list : List Token) (fault : Fault) (at : ℕ) →
    Tokens bytes list → FirstFault bytes fault at → ⊥
no_fault_in_tokens bytes list fault at a b =
    let one = one_cut a.pieces b.pieces [] b.rest a.are_pieces b.are_pieces (inl refl)
    (inr (fault, b.begins)) (sym a.text ∙ b.text) in
    fault_some fault b.rest b.begins (sym one.1)

-- one more piece at the end
pub pieces_text-push : (ps : List Piece) (p : Piece) (rest : List ℕ) →
    pieces_text (ps ++ p ∷ []) rest ≡ pieces_text ps (piece_text p rest)
pieces_text-push [] p rest = refl
pieces_text-push (q ∷ ps) p rest = ap (piece_text q) (pieces_text-push ps p rest)

pub ArePieces-push : (ps : List Piece) (p : Piece) (rest : List ℕ) →
    ArePieces ps (piece_text p rest) → IsPiece p rest → ArePieces (ps ++ p ∷ []) rest
ArePieces-push [] p rest h i = (i, tt)
ArePieces-push (q ∷ ps) p rest h i =
    (subst (IsPiece q) (sym (pieces_text-push ps p rest)) h.0, ArePieces-push ps p rest h.1 i)

-- a piece's text stands before what follows
comment_text-rest : (c : Comment) (rest : List ℕ) → comment_text c rest ≡ comment_text c [] ++ rest
comment_text-rest comment_end rest = refl
comment_text-rest (byte b c) rest = ap (λ u. b ∷ u) (comment_text-rest c rest)
comment_text-rest (inner c d) rest =
    ap (λ u. 40 ∷ (42 ∷ u))
    (comment_text-rest c (comment_text d rest) ∙ ap (λ u. comment_text c [] ++ u)
    (comment_text-rest d rest) ∙ sym (append_assoc (comment_text c []) (comment_text d []) rest)
    ∙ ap (λ u. u ++ rest) (sym (comment_text-rest c (comment_text d []))))

pub piece_text-rest : (p : Piece) (rest : List ℕ) → piece_text p rest ≡ piece_text p [] ++ rest
piece_text-rest (space b) rest = refl
piece_text-rest (comment c) rest = ap (λ u. 40 ∷ (42 ∷ u)) (comment_text-rest c rest)
piece_text-rest (token kind w) rest = ap (λ u. u ++ rest) (sym (append-nil w))

pub length-piece_text : (p : Piece) (rest : List ℕ) → length (piece_text p rest) ≡
    piece_width p + length rest
length-piece_text p rest = ap length (piece_text-rest p rest) ∙ length-append (piece_text p []) rest

-- how many bytes pieces have
abbrev pub total_width : List Piece → ℕ
total_width [] = 0
total_width (p ∷ ps) = piece_width p + total_width ps

pub length-pieces_text : (ps : List Piece) (rest : List ℕ) → length (pieces_text ps rest) ≡
    total_width ps + length rest
length-pieces_text [] rest = omega arith
length-pieces_text (p ∷ ps) rest = let first = length-piece_text p (pieces_text ps rest) in
    let later = length-pieces_text ps rest in omega arith

-- the tokens of a front of the pieces, and those of one more
pub tokens_from-push : (ps : List Piece) (at : ℕ) (p : Piece) → tokens_from at (ps ++ p ∷ []) ≡
    tokens_from at ps ++ tokens_from (at + total_width ps) (p ∷ [])
tokens_from-push [] at p = ap (λ n. tokens_from n (p ∷ []))
    (let same : at ≡ at + 0 = omega arith in same)
tokens_from-push (space b ∷ ps) at p = tokens_from-push ps (at + 1) p
    ∙ ap (λ n. tokens_from (at + 1) ps ++ tokens_from n (p ∷ [])) (add_assoc at 1 (total_width ps))
tokens_from-push (comment c ∷ ps) at p =
    tokens_from-push ps (at + piece_width (comment c)) p
    ∙ ap (λ n. tokens_from (at + piece_width (comment c)) ps ++ tokens_from n (p ∷ []))
    (add_assoc at (piece_width (comment c)) (total_width ps))
tokens_from-push (token kind w ∷ ps) at p =
    let same : (at + length w) + total_width ps ≡
    at + (piece_width (token kind w) + total_width ps) =
    simp append-nil (add_assoc at (length w) (total_width ps)) in
    ap (λ ts. record { kind = kind; from = at; to = at + length w } ∷ ts)
    (tokens_from-push ps (at + length w) p
    ∙ ap (λ n. tokens_from (at + length w) ps ++ tokens_from n (p ∷ [])) same)

-- the spans slice the text from the byte of this number on
record SlicesFrom (at : ℕ) (bytes : List ℕ) (list : List Token) : Type 0 where
  slices : SlicesSource bytes list
  above : All (λ t. at ≤ t.from) list

-- what stands behind a piece
drop-piece : (p : Piece) (at : ℕ) (bytes rest : List ℕ) → drop at bytes ≡ piece_text p rest →
    drop (at + piece_width p) bytes ≡ rest
drop-piece p at bytes rest e = sym (drop-drop (piece_width p) at bytes) ∙ ap (drop (piece_width p))
    (e ∙ piece_text-rest p rest) ∙ drop_at (piece_text p []) rest (piece_width p) refl

fits_behind : (p : Piece) (at : ℕ) (bytes rest : List ℕ) → drop at bytes ≡ piece_text p rest →
    at ≤ length bytes → at + piece_width p ≤ length bytes
fits_behind p at bytes rest e le = let size = sym (length-drop at bytes) ∙ ap length e
    ∙ length-piece_text p rest in omega arith

skipped : (at n : ℕ) (bytes : List ℕ) (list : List Token) → SlicesFrom (at + n) bytes list →
    SlicesFrom at bytes list
skipped at n bytes list s =
    record {
      slices = s.slices;
      above = All-weaker (λ t. at + n ≤ t.from) (λ t. at ≤ t.from)
          (λ t le. omega arith) list s.above;
    }

spans_from : (ps : List Piece) (at : ℕ) (bytes : List ℕ) → ArePieces ps [] → drop at bytes ≡
    pieces_text ps [] → at ≤ length bytes → SlicesFrom at bytes (tokens_from at ps)
spans_from [] at bytes h e le = record {
  slices = record {
    within = All-nil (λ t. (t.from < t.to) × (t.to ≤ length bytes));
    spelled =
        All-nil (λ t. Spells t.kind (slice_range bytes t.from t.to));
    in_order =
        λ i j d lt below. absurd (omega arith);
  };
  above = All-nil (λ t. at ≤ t.from);
}
spans_from (space b ∷ ps) at bytes h e le =
    let p = space b in
    skipped at 1 bytes (tokens_from (at + 1) ps)
    (spans_from ps (at + 1) bytes h.1 (drop-piece p at bytes (pieces_text ps []) e)
    (fits_behind p at bytes (pieces_text ps []) e le))
spans_from (comment c ∷ ps) at bytes h e le =
    let p = comment c in
    skipped at (piece_width p) bytes (tokens_from (at + piece_width p) ps)
    (spans_from ps (at + piece_width p) bytes h.1 (drop-piece p at bytes (pieces_text ps []) e)
    (fits_behind p at bytes (pieces_text ps []) e le))
spans_from (token kind w ∷ ps) at bytes h e le =
    let p = token kind w in
    let wide : piece_width p ≡ length w = ap length (append-nil w) in
    let behind = drop-piece p at bytes (pieces_text ps []) e in
    let fits = fits_behind p at bytes (pieces_text ps []) e le in
    let later = spans_from ps (at + length w) bytes h.1 (rw wide at behind) (omega arith) in
    let some = spelling_some w (spelling_of kind w h.0.0) in
    let t : Token = record { kind = kind; from = at; to = at + length w } in
    let count : (at + length w) - at ≡ length w = omega arith in
    let sliced : slice_range bytes at (at + length w) ≡ w = ap₂ (λ n u. take n u) count e
    ∙ take_at w (pieces_text ps []) (length w) refl in
    record {
      slices = record {
        within = All-cons (λ t. (t.from < t.to) × (t.to ≤ length bytes)) t
            (tokens_from (at + length w) ps) (omega arith, omega arith) later.slices.within;
        spelled = All-cons (λ t. Spells t.kind (slice_range bytes t.from t.to)) t
            (tokens_from (at + length w) ps) (subst (Spells kind) (sym sliced) h.0.0)
            later.slices.spelled;
        in_order = AllPairs-cons (λ t u. t.to ≤ u.from) t (tokens_from (at + length w) ps)
            later.above later.slices.in_order;
      };
      above = All-cons (λ t. at ≤ t.from) t (tokens_from (at + length w) ps) (omega arith)
          (All-weaker (λ t. at + length w ≤ t.from) (λ t. at ≤ t.from) (λ t le. omega arith)
          (tokens_from (at + length w) ps) later.above);
    }

pub spans_slice : (bytes : List ℕ) (list : List Token) → Tokens bytes list → SlicesSource bytes list
spans_slice bytes list a = subst (SlicesSource bytes) (sym a.tokens)
    (spans_from a.pieces 0 bytes a.are_pieces a.text (omega arith)).slices
