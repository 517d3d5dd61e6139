-- Open code: one instruction more, a call more, and code behind code.
use Rattle.std.proofs.Common.{◌≡◌, ℕ, ◌+◌, ◌-◌, ◌≤◌, List, [], ◌∷◌, ◌++◌, length, take, drop, refl}
use Rattle.std.proofs.Common.{sym, ap, ◌∙◌, arith, append_assoc, append-nil, length-append, subst}
use Rattle.std.specs.Prelude.{ℤ, pos, Result, Ok, Err, OnOk}
use Rattle.std.specs.Int.{w32}
use Rattle.std.specs.Int.RustNames.{FitsSigned}
use Rattle.std.proofs.lemmas.Int.{SFits-int_wrap}
use Rattle.std.proofs.lemmas.List.{take-append-le, drop-append-le, length-take-le, length-drop}
use Rattle.std.proofs.Math.Seq.{take-append-add, drop-append-add}
use Rattle.ia_code.specs.declared.ins.Ins.{Ins}
use Rattle.ia_code.specs.declared.ins.Ins.TheVariants as ins
use Rattle.ia_code.specs.DecodeTable.{bytes_of, imm32, IsSound}
use Rattle.ia_code.specs.Listing.{bytes_of_all, AreSound}
use Rattle.ia_code.proofs.Listings.{bytes_of_all-append, sound_append}
use Rattle.ia_emit.specs.declared.bytes.CallSite.{CallSite}
use Rattle.ia_emit.specs.declared.item.Item.{Item}
use Rattle.ia_emit.specs.declared.item.Item.TheVariants.{Plain, Jump, Branch, Call}
use Rattle.ia_emit.specs.declared.item.Target.{Target}
use Rattle.ia_emit.specs.Code.{size_of, size, distance, aimed, all_aimed}
use Rattle.ia_emit.specs.Open.{overwritten, filled, Within, IsOpen}
use Rattle.ia_emit.proofs.Sizes.{size-cons}
use Rattle.pra_base.specs.declared.ids.Cond.{Cond}
use Rattle.pra_base.specs.declared.ids.ProcId.{ProcId}

-- ---- overwriting

length_over : (k : ℕ) (word bytes : List ℕ) → k + length word ≤ length bytes →
    length (overwritten k word bytes) ≡ length bytes
length_over k word bytes le =
    let front = length-take-le k bytes (omega (arith, le)) in
    let behind = length-drop (k + length word) bytes in
    let one = length-append (take k bytes ++ word) (drop (k + length word) bytes) in
    let two = length-append (take k bytes) word in
    omega (arith, le, front, behind, one, two)

over_front : (k : ℕ) (word bytes more : List ℕ) → k + length word ≤ length bytes →
    overwritten k word (bytes ++ more) ≡ overwritten k word bytes ++ more
over_front k word bytes more le =
    let a = take-append-le k bytes more (omega (arith, le)) in
    let b = drop-append-le (k + length word) bytes more le in
    ap (λ t. (t ++ word) ++ drop (k + length word) (bytes ++ more)) a
    ∙ ap (λ t. (take k bytes ++ word) ++ t) b
    ∙ sym (append_assoc (take k bytes ++ word) (drop (k + length word) bytes) more)

over_behind : (front : List ℕ) (k : ℕ) (word bytes : List ℕ) → overwritten (length front + k) word
    (front ++ bytes) ≡ front ++ overwritten k word bytes
over_behind front k word bytes =
    let place : length front + k + length word ≡ length front + (k + length word) = omega arith in
    ap (λ t. (t ++ word) ++ drop (length front + k + length word) (front ++ bytes))
    (take-append-add front bytes k)
    ∙ ap (λ n. ((front ++ take k bytes) ++ word) ++ drop n (front ++ bytes)) place
    ∙ ap (λ t. ((front ++ take k bytes) ++ word) ++ t)
    (drop-append-add front bytes (k + length word))
    ∙ ap (λ t. t ++ drop (k + length word) bytes) (append_assoc front (take k bytes) word)
    ∙ append_assoc front (take k bytes ++ word) (drop (k + length word) bytes)

-- ---- filling

module _ (entry : ℕ → ℕ) where
  word_of : CallSite → List ℕ
  word_of c = imm32 (distance (c.place + 4) (entry c.callee.0))

  pub length_filled : (from : ℕ) (calls : List CallSite) (bytes : List ℕ) →
      Within from (from + length bytes) calls → length (filled entry from calls bytes) ≡
      length bytes
  length_filled from [] bytes w = refl
  length_filled from (c ∷ calls) bytes w =
      let word = imm32 (distance (c.place + 4) (entry c.callee.0)) in
      let here = length_over (c.place - from) word bytes (omega (arith, w.0, w.1)) in
      length_filled from calls (overwritten (c.place - from) word bytes)
      (subst (λ n. Within from (from + n) calls) (sym here) w.2) ∙ here

  pub filled_front : (from : ℕ) (calls : List CallSite) (bytes more : List ℕ) →
      Within from (from + length bytes) calls → filled entry from calls (bytes ++ more) ≡
      filled entry from calls bytes ++ more
  filled_front from [] bytes more w = refl
  filled_front from (c ∷ calls) bytes more w =
      let word = imm32 (distance (c.place + 4) (entry c.callee.0)) in
      let here = length_over (c.place - from) word bytes (omega (arith, w.0, w.1)) in
      ap (filled entry from calls)
      (over_front (c.place - from) word bytes more (omega (arith, w.0, w.1)))
      ∙ filled_front from calls (overwritten (c.place - from) word bytes) more
      (subst (λ n. Within from (from + n) calls) (sym here) w.2)

  pub filled_more : (from : ℕ) (calls others : List CallSite) (bytes : List ℕ) →
      filled entry from (calls ++ others) bytes ≡ filled entry from others
      (filled entry from calls bytes)
  filled_more from [] others bytes = refl
  filled_more from (c ∷ calls) others bytes = filled_more from calls others
      (overwritten (c.place - from) (imm32 (distance (c.place + 4) (entry c.callee.0))) bytes)

  pub filled_behind : (from at to : ℕ) (calls : List CallSite) (front bytes : List ℕ) →
      at ≡ from + length front → Within at to calls →
      filled entry from calls (front ++ bytes) ≡ front ++ filled entry at calls bytes
  filled_behind from at to [] front bytes e w = refl
  filled_behind from at to (c ∷ calls) front bytes e w =
      let word = imm32 (distance (c.place + 4) (entry c.callee.0)) in
      let number : c.place - from ≡ length front + (c.place - at) = omega (arith, e, w.0) in
      ap (λ n. filled entry from calls (overwritten n word (front ++ bytes))) number
      ∙ ap (filled entry from calls) (over_behind front (c.place - at) word bytes)
      ∙ filled_behind from at to calls front (overwritten (c.place - at) word bytes) e w.2

-- ---- calls within

pub within_more : (from to longer : ℕ) (calls : List CallSite) → to ≤ longer →
    Within from to calls → Within from longer calls
within_more from to longer [] le w = tt
within_more from to longer (c ∷ calls) le w =
    (w.0, omega (arith, le, w.1), within_more from to longer calls le w.2)

pub within_from : (from lower to : ℕ) (calls : List CallSite) → lower ≤ from →
    Within from to calls → Within lower to calls
within_from from lower to [] le w = tt
within_from from lower to (c ∷ calls) le w =
    (omega (arith, le, w.0), w.1, within_from from lower to calls le w.2)

pub within_both : (from to : ℕ) (calls others : List CallSite) → Within from to calls →
    Within from to others → Within from to (calls ++ others)
within_both from to [] others w v = v
within_both from to (c ∷ calls) others w v = (w.0, w.1, within_both from to calls others w.2 v)

-- ---- instructions one behind the other

module _ (target : Target → ℕ) (entry : ℕ → ℕ) where
  pub all_aimed-append : (at : ℕ) (xs ys : List Item) → all_aimed target entry at (xs ++ ys) ≡
      all_aimed target entry at xs ++ all_aimed target entry (at + size xs) ys
  all_aimed-append at [] ys = let same : at ≡ at + 0 = omega arith in
      ap (λ n. all_aimed target entry n ys) same
  all_aimed-append at (x ∷ xs) ys =
      let first = size-cons x xs in
      let place : at + size_of x + size xs ≡ at + size (x ∷ xs) = omega (arith, first) in
      ap (λ l. aimed target entry (at + size_of x) x ∷ l)
      (all_aimed-append (at + size_of x) xs ys
      ∙ ap (λ n. all_aimed target entry (at + size_of x) xs ++ all_aimed target entry n ys)
      place)

  length_aimed : (behind : ℕ) (x : Item) → length (bytes_of (aimed target entry behind x)) ≡
      size_of x
  length_aimed behind (Plain i) = refl
  length_aimed behind (Jump t) = refl
  length_aimed behind (Branch c t) = refl
  length_aimed behind (Call q) = refl

  pub length_all : (at : ℕ) (xs : List Item) →
      length (bytes_of_all (all_aimed target entry at xs)) ≡ size xs
  length_all at [] = refl
  length_all at (x ∷ xs) =
      let first = size-cons x xs in
      let one = length_aimed (at + size_of x) x in
      let more = length_all (at + size_of x) xs in
      let both = length-append (bytes_of (aimed target entry (at + size_of x) x))
      (bytes_of_all (all_aimed target entry (at + size_of x) xs)) in
      omega (arith, first, one, more, both)

-- ---- open code

module _ (target : Target → ℕ) (from : ℕ) where
  pub none_open : IsOpen target from [] [] []
  none_open = record { within = tt; sound = λ entry. tt; filled_is = λ entry. refl }

  pub length_open : (items : List Item) (bytes : List ℕ) (calls : List CallSite) →
      IsOpen target from items bytes calls → length bytes ≡ size items
  length_open items bytes calls is =
      sym (length_filled (λ k. 0) from calls bytes is.within) ∙ ap length (is.filled_is (λ k. 0))
      ∙ length_all target (λ k. 0) from items

  module _ (items : List Item) (bytes : List ℕ) (calls : List CallSite)
      (is : IsOpen target from items bytes calls) (x : Item) (new : List ℕ) where
    place_is : from + size items ≡ from + length bytes
    place_is = ap (λ n. from + n) (sym (length_open items bytes calls is))

    one_sound : (entry : ℕ → ℕ) → IsSound (aimed target entry (from + length bytes + size_of x) x) →
        AreSound (all_aimed target entry from (items ++ x ∷ []))
    one_sound entry s =
        subst AreSound (sym (all_aimed-append target entry from items (x ∷ [])))
        (sound_append (all_aimed target entry from items)
        (all_aimed target entry (from + size items) (x ∷ [])) (is.sound entry)
        (subst (λ n. AreSound (all_aimed target entry n (x ∷ []))) (sym place_is) (s, tt)))

    one_bytes : (entry : ℕ → ℕ) → bytes_of_all (all_aimed target entry from (items ++ x ∷ [])) ≡
        filled entry from calls bytes
        ++ bytes_of (aimed target entry (from + length bytes + size_of x) x)
    one_bytes entry =
        ap bytes_of_all (all_aimed-append target entry from items (x ∷ []))
        ∙ bytes_of_all-append (all_aimed target entry from items)
        (all_aimed target entry (from + size items) (x ∷ []))
        ∙ ap (λ n. bytes_of_all (all_aimed target entry from items)
        ++ bytes_of_all (all_aimed target entry n (x ∷ []))) place_is
        ∙ ap (λ l. bytes_of_all (all_aimed target entry from items) ++ l)
        (append-nil (bytes_of (aimed target entry (from + length bytes + size_of x) x)))
        ∙ ap (λ l. l ++ bytes_of (aimed target entry (from + length bytes + size_of x) x))
        (sym (is.filled_is entry))

    -- an instruction whose distance does not depend on where procedures begin
    pub one_more : (i : Ins) → IsSound i →
        ((entry : ℕ → ℕ) → aimed target entry (from + length bytes + size_of x) x ≡ i) → new ≡ bytes
        ++ bytes_of i →
        IsOpen target from (items ++ x ∷ []) new calls
    one_more i s same e = record {
      within =
          let long = ap length e ∙ length-append bytes (bytes_of i) in
          within_more from (from + length bytes) (from + length new) calls (omega (arith, long))
          is.within;
      sound = λ entry. one_sound entry (subst IsSound (sym (same entry)) s);
      filled_is = λ entry.
          ap (filled entry from calls) e ∙ filled_front entry from calls bytes
          (bytes_of i) is.within
          ∙ ap (λ j. filled entry from calls bytes ++ bytes_of j) (sym (same entry))
          ∙ sym (one_bytes entry);
    }

  -- a call, of which the distance is left open
  module _ (items : List Item) (bytes : List ℕ) (calls : List CallSite)
      (is : IsOpen target from items bytes calls) (q : ProcId) (c : CallSite) where
    call_filled : (entry : ℕ → ℕ) (at : ℕ) → c.place ≡ at + 1 → c.callee ≡ q →
        filled entry at (c ∷ []) (bytes_of (ins.Call (pos 0))) ≡
        bytes_of (ins.Call (distance (at + 5) (entry q.0)))
    call_filled entry at e f =
        let number : c.place - at ≡ 1 = omega (arith, e) in
        let behind : c.place + 4 ≡ at + 5 = omega (arith, e) in
        ap (λ n. overwritten n (imm32 (distance (c.place + 4) (entry c.callee.0)))
        (bytes_of (ins.Call (pos 0)))) number
        ∙ ap (λ n. bytes_of (ins.Call (distance n (entry c.callee.0)))) behind
        ∙ ap (λ (k : ProcId). bytes_of (ins.Call (distance (at + 5) (entry k.0)))) f

    pub call_more : (new : List ℕ) (others : List CallSite) → c.place ≡ from + length bytes + 1 →
        c.callee ≡ q → others ≡ calls ++ c ∷ [] → new ≡ bytes ++ bytes_of (ins.Call (pos 0)) →
        IsOpen target from (items ++ Call q ∷ []) new others
    call_more new others place callee more e = record {
      within =
          let long = ap length e ∙ length-append bytes (bytes_of (ins.Call (pos 0))) in
          subst (Within from (from + length new)) (sym more)
          (within_both from (from + length new) calls (c ∷ [])
          (within_more from (from + length bytes) (from + length new) calls
          (omega (arith, long)) is.within)
          (omega (arith, place), omega (arith, place, long), tt));
      sound = λ entry. one_sound items bytes calls is (Call q) new entry (SFits-int_wrap w32 _);
      filled_is = λ entry.
          let at = from + length (filled entry from calls bytes) in
          let long = length_filled entry from calls bytes is.within in
          let same : at ≡ from + length bytes = ap (λ n. from + n) long in
          let alone : Within at (c.place + 4) (c ∷ []) =
          (omega (arith, place, same), omega arith, tt) in
          ap (λ l. filled entry from l new) more
          ∙ filled_more entry from calls (c ∷ []) new
          ∙ ap (λ l. filled entry from (c ∷ []) (filled entry from calls l)) e
          ∙ ap (filled entry from (c ∷ []))
          (filled_front entry from calls bytes (bytes_of (ins.Call (pos 0))) is.within)
          ∙ filled_behind entry from at (c.place + 4) (c ∷ []) (filled entry from calls bytes)
          (bytes_of (ins.Call (pos 0))) refl alone
          ∙ ap (λ l. filled entry from calls bytes ++ l)
          (call_filled entry at (place ∙ ap (λ n. n + 1) (sym same)) callee)
          ∙ ap (λ n. filled entry from calls bytes
          ++ bytes_of (ins.Call (distance (n + 5) (entry q.0)))) same
          ∙ sym (one_bytes items bytes calls is (Call q) new entry);
    }

-- ---- one item more

pub on_ok : {A E : Type 0} {P Q : Type 0} (r : Result A E) → (P → Q) → OnOk r P → OnOk r Q
on_ok (Ok x) f h = f h
on_ok (Err e) f h = tt

module _ (target : Target → ℕ) (from : ℕ) (bytes new : List ℕ) (calls : List CallSite)
    (items : List Item) (is : IsOpen target from items bytes calls) (x : Item) where
  pub plain_more : (i : Ins) → x ≡ Plain i → IsSound i → new ≡ bytes ++ bytes_of i →
      IsOpen target from (items ++ x ∷ []) new calls
  plain_more i e s f =
      subst (λ y. IsOpen target from (items ++ y ∷ []) new calls) (sym e)
      (one_more target from items bytes calls is (Plain i) new i s (λ entry. refl) f)

  pub jump_more : (t : Target) (d : ℤ) → x ≡ Jump t → d ≡ distance (from + length bytes + 5)
      (target t) → new ≡ bytes ++ bytes_of (ins.Jmp d) →
      IsOpen target from (items ++ x ∷ []) new calls
  jump_more t d e same f =
      subst (λ y. IsOpen target from (items ++ y ∷ []) new calls) (sym e)
      (one_more target from items bytes calls is (Jump t) new (ins.Jmp d)
      (subst (FitsSigned w32) (sym same) (SFits-int_wrap w32 _))
      (λ entry. ap (λ n. ins.Jmp n) (sym same)) f)

  pub branch_more : (c : Cond) (t : Target) (d : ℤ) → x ≡ Branch c t →
      d ≡ distance (from + length bytes + 6) (target t) → new ≡ bytes ++ bytes_of (ins.Jcc c d) →
      IsOpen target from (items ++ x ∷ []) new calls
  branch_more c t d e same f =
      subst (λ y. IsOpen target from (items ++ y ∷ []) new calls) (sym e)
      (one_more target from items bytes calls is (Branch c t) new (ins.Jcc c d)
      (subst (FitsSigned w32) (sym same) (SFits-int_wrap w32 _))
      (λ entry. ap (λ n. ins.Jcc c n) (sym same)) f)

pub start_open : (target : Target → ℕ) (from : ℕ) (bytes : List ℕ) (calls : List CallSite) →
    bytes ≡ [] → calls ≡ [] → IsOpen target from [] bytes calls
start_open target from bytes calls b c =
    subst (λ l. IsOpen target from [] l calls) (sym b)
    (subst (λ l. IsOpen target from [] [] l) (sym c) (none_open target from))
