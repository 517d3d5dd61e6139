-- The sample of placed code can be loaded, and has an image.
use Rattle.std.proofs.Common.{◌≤◌, ◌<◌, ◌^◌, ℕ, length, refl, arith, lit≤, lit<, subst, slice_get}
use Rattle.std.proofs.Common.{◌≡◌, Some}
use Rattle.std.specs.Prelude.{pos, neg_ℤ}
use Rattle.std.specs.Int.{w8, w32}
use Rattle.std.specs.Int.RustNames.{FitsSigned}
use Rattle.std.proofs.lemmas.Int.{ints, SFits-int_wrap}
use Rattle.ia_code.specs.declared.image.Image.{Image}
use Rattle.ia_code.specs.Image.{max_code_bytes, max_data_words}
use Rattle.ia_code.specs.Listing.{bytes_of_all, AreSound}
use Rattle.ia_emit.specs.Code.{code_of}
use Rattle.ia_emit.specs.Operands.{IsSmall}
use Rattle.pl_place.specs.declared.placed.LBlock.{LBlock}
use Rattle.pl_place.specs.declared.placed.LProc.{LProc}
use Rattle.pl_place.specs.declared.placed.LInstr.{LInstr}
use Rattle.pl_place.specs.declared.placed.LInstr.TheVariants as placed
use Rattle.pl_place.specs.Sample.{word_0, caller, called, sample}
use Rattle.pl_place.proofs.SampleIsPlaced.{sample_is}
use Rattle.pra_base.specs.declared.code.Addr.{Addr}
use Rattle.pra_base.specs.Code.{address_of}
use Rattle.pra_list.specs.Each.{EachAt}
use Rattle.pra_list.proofs.Each.{each_at}
use Rattle.ia_simulation.specs.Realizes.{IsLoadable, IsLoaded}
use Rattle.ia_emit.specs.Sound.{OffsetsFit}

fits : (n : ℕ) → n < 2 ^ 31 → FitsSigned w32 (pos n)
fits n lt = omega (arith, ints, lt)

one_short : FitsSigned w8 (pos 1)
one_short = omega (arith, ints)

below_12 : FitsSigned w8 (neg_ℤ (pos 12))
below_12 = omega (arith, ints)

below_16 : FitsSigned w8 (neg_ℤ (pos 16))
below_16 = omega (arith, ints)

below_20 : FitsSigned w32 (neg_ℤ (pos 20))
below_20 = omega (arith, ints)

below_24 : FitsSigned w32 (neg_ℤ (pos 24))
below_24 = omega (arith, ints)

-- instruction by instruction: what stands before the procedures, then one procedure after the other
sound : AreSound (code_of sample)
sound = (
  SFits-int_wrap w32 _,
  (
    refl,
    (
      fits 1 (lit< tt),
      (
        refl,
        (
          fits 2 (lit< tt),
          (
            refl,
            (
              fits 4 (lit< tt),
              (
                refl,
                (
                  refl,
                  (
                    tt,
                    (
                      (tt, fits 134218772 (lit< tt)),
                      (
                        SFits-int_wrap w32 _,
                        (
                          refl,
                          (
                            refl,
                            (
                              refl,
                              (
                                (tt, fits 8 (lit< tt)),
                                (
                                  fits 1 (lit< tt),
                                  (
                                    (
                                      record { index = refl; base = refl; disp = below_24 },
                                      fits 0 (lit< tt),
                                    ),
                                    (
                                      (tt, one_short),
                                      (
                                        below_20,
                                        (
                                          fits 5 (lit< tt),
                                          (
                                            record { index = refl; base = refl; disp = below_16 },
                                            (
                                              refl,
                                              (
                                                SFits-int_wrap w32 _,
                                                (
                                                  record {
                                                    index = refl;
                                                    base = refl;
                                                    disp =
                                                        SFits-int_wrap w32 _;
                                                  },
                                                  (
                                                    record {
                                                      index = refl;
                                                      base = refl;
                                                      disp =
                                                          below_16;
                                                    },
                                                    (
                                                      SFits-int_wrap w32 _,
                                                      (
                                                        record {
                                                          index = refl;
                                                          base = refl;
                                                          disp =
                                                              below_12;
                                                        },
                                                        (
                                                          refl,
                                                          (
                                                            refl,
                                                            (
                                                              refl,
                                                              (
                                                                refl,
                                                                (
                                                                  tt,
                                                                  (
                                                                    refl,
                                                                    (
                                                                      tt,
                                                                      (
                                                                        (
                                                                          tt,
                                                                          fits 134218764 (lit<
                                                                              tt),
                                                                        ),
                                                                        (
                                                                          SFits-int_wrap w32 _,
                                                                          (
                                                                            refl,
                                                                            (
                                                                              refl,
                                                                              (
                                                                                refl,
                                                                                (
                                                                                  record {
                                                                                    index =
                                                                                        refl;
                                                                                    base =
                                                                                        refl;
                                                                                    disp =
                                                                                        below_12;
                                                                                  },
                                                                                  (
                                                                                    refl,
                                                                                    (
                                                                                      refl,
                                                                                      (
                                                                                        refl,
                                                                                        (
                                                                                          refl,
                                                                                          (
                                                                                            lit< tt,
                                                                                            tt,
                                                                                          ),
                                                                                        ),
                                                                                      ),
                                                                                    ),
                                                                                  ),
                                                                                ),
                                                                              ),
                                                                            ),
                                                                          ),
                                                                        ),
                                                                      ),
                                                                    ),
                                                                  ),
                                                                ),
                                                              ),
                                                            ),
                                                          ),
                                                        ),
                                                      ),
                                                    ),
                                                  ),
                                                ),
                                              ),
                                            ),
                                          ),
                                        ),
                                      ),
                                    ),
                                  ),
                                ),
                              ),
                            ),
                          ),
                        ),
                      ),
                    ),
                  ),
                ),
              ),
            ),
          ),
        ),
      ),
    ),
  ),
)

short : length (bytes_of_all (code_of sample)) ≤ max_code_bytes
short = lit≤ tt

small_caller : IsSmall caller
small_caller = record { args = lit≤ tt; aggregates = lit≤ tt; slots = lit≤ tt }

small_called : IsSmall called
small_called = record { args = lit≤ tt; aggregates = lit≤ tt; slots = lit≤ tt }

pub sample_is_loadable : (data_words : ℕ) → data_words ≤ max_data_words →
    IsLoadable sample data_words
sample_is_loadable data_words few = record {
  placed = sample_is;
  small = λ p code h. each_at (λ p code. IsSmall code) sample (small_caller, (small_called, tt)) p
      code h;
  sound = sound;
  short = short;
  few_data = few;
}

-- ---- its image

abbrev HasFittingOffset : LInstr → Type 0
HasFittingOffset (placed.Op i places) = (a : Addr) → address_of i ≡ Some a → FitsSigned w32 a.offset
HasFittingOffset (placed.Move m) = Unit {0}

in_block : (block : LBlock) → EachAt (λ k i. HasFittingOffset i) block.code → (k : ℕ) (i : LInstr) →
    slice_get block.code k ≡ Some i → HasFittingOffset i
in_block block each k i h = each_at (λ k i. HasFittingOffset i) block.code each k i h

same_offset : (a : Addr) → Some word_0 ≡ Some a → FitsSigned w32 a.offset
same_offset a e = let same : word_0 ≡ a = cc in subst (λ (a : Addr). FitsSigned w32 a.offset) same
    (fits 0 (lit< tt))

caller_offsets : (b : ℕ) (block : LBlock) → slice_get caller.blocks b ≡ Some block →
    EachAt (λ k i. HasFittingOffset i) block.code
caller_offsets b block h =
    each_at (λ b block. EachAt (λ k i. HasFittingOffset i) block.code) caller.blocks (
      (
        (λ a e. cc),
        (
          (λ a e. cc),
          (tt, ((λ a e. cc), ((λ a e. cc), (same_offset, ((λ a e. cc), tt))))),
        ),
      ),
      (tt, tt),
    ) b block h

called_offsets : (b : ℕ) (block : LBlock) → slice_get called.blocks b ≡ Some block →
    EachAt (λ k i. HasFittingOffset i) block.code
called_offsets b block h = each_at (λ b block. EachAt (λ k i. HasFittingOffset i) block.code)
    called.blocks (tt, tt) b block h

abbrev Fitting : LProc → Type 0
Fitting p = (b : ℕ) (block : LBlock) → slice_get p.blocks b ≡ Some block →
    EachAt (λ k i. HasFittingOffset i) block.code

offsets : OffsetsFit sample
offsets q p there b k i places at =
    in_block at.0 (each_at (λ q p. Fitting p) sample (caller_offsets, (called_offsets, tt)) q p
    there b at.0 at.1) k (placed.Op i places) at.2

pub sample_is_loaded : (data_words : ℕ) → data_words ≤ max_data_words → (image : Image) ×
    IsLoaded sample data_words image
sample_is_loaded data_words few = (
  record { code = bytes_of_all (code_of sample); data_words = data_words },
  record {
    placed = sample_is;
    small = (sample_is_loadable data_words few).small;
    offsets = offsets;
    valid = record { some_code = lit≤ tt; code = short; data_words = few };
    listing = record { sound = sound; spelled = refl };
    words_are = refl;
  },
)
